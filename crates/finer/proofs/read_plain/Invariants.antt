use Rattle.text.specs.Prelude.{◌^◌, ◌<◌, ◌≡◌, drop}
use Rattle.finer.specs.Finer.{read_plain_of}
use Rattle.finer.proofs.Reading.{left}
use Rattle.finer.proofs.read_plain.Given as goal

-- what is left, from here, is the whole
abbrev pub invariant-loop-i : goal.invariant-loop-i
invariant-loop-i l = record {
  small : l.value < 10 ^ l.i;
  left : left l.i l.value (drop l.i l.text) ≡ read_plain_of l.text;
}

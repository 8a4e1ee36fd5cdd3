use Rattle.std.specs.Prelude.{Ok, is_none}
use Rattle.text.specs.Prelude.{◌≡◌}
use Rattle.text.proofs.Prelude.{rules, ap, ◌∙◌}
use native.Mathlib.Nat.{sub-zero}
use Rattle.files.specs.declared.input.Filled.{Filled}
use Rattle.sheets.specs.Sheets.{Onward, stopped}
use Rattle.sheets.proofs.Going.{unmoved, last_is_last}
use Rattle.sheets.proofs.one_turn.Goals as goal

pub returns-in-Ok-Ended : goal.returns-in-Ok-Ended
returns-in-Ok-Ended c =
    let told : c.args.filled ≡ Ok (Filled.Ended c.in-Ok-Ended.n) = search rules in
    let e = rw sub-zero at c.finish.ensures in
    record {
      result_value = rw told e;
      win_after = unmoved _ _ (ap (λ (t : Onward). is_none t.ended) e ∙ last_is_last _ _);
    }

pub returns-in-Ok-Full : goal.returns-in-Ok-Full
returns-in-Ok-Full c =
    let told : c.args.filled ≡ Ok Filled.Full = search rules in
    record { result_value = rw told c.drain.ensures.result_value; win_after = c.drain.ensures.win_after }

pub returns-in-Err : goal.returns-in-Err
unfolding stopped
returns-in-Err c = record {
  result_value = rw c.in-Err.is c.stop.ensures;
  win_after = unmoved _ _ (ap (λ (t : Onward). is_none t.ended) c.stop.ensures);
}

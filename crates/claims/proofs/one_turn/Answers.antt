use Rattle.std.specs.Prelude.{Ok, is_none}
use Rattle.text.specs.Prelude.{◌≡◌}
use Rattle.text.proofs.Prelude.{rules, ap, ◌∙◌}
use native.Mathlib.Nat.{sub-zero}
use Rattle.files.specs.declared.input.Filled.{Filled}
use Rattle.claims.specs.Claims.{stopped}
use Rattle.claims.specs.declared.Turn.{Turn}
use Rattle.claims.proofs.Going.{unmoved, last_is_last}
use Rattle.claims.proofs.one_turn.Goals as goal

pub returns-in-Ok-Ended : goal.returns-in-Ok-Ended
returns-in-Ok-Ended c =
    let told : c.args.filled ≡ Ok (Filled.Ended c.in-Ok-Ended.n) = search rules in
    let e = rw sub-zero at c.finish.ensures in
    record {
      value = rw told e;
      win_after = unmoved _ _ (ap (λ (t : Turn). is_none t.ended) e ∙ last_is_last _ _);
    }

pub returns-in-Ok-Full : goal.returns-in-Ok-Full
returns-in-Ok-Full c =
    let told : c.args.filled ≡ Ok Filled.Full = search rules in
    record { value = rw told c.drain.ensures.value; win_after = c.drain.ensures.win_after }

pub returns-in-Err : goal.returns-in-Err
unfolding stopped
returns-in-Err c = record {
  value = rw c.in-Err.is c.stop.ensures;
  win_after = unmoved _ _ (ap (λ (t : Turn). is_none t.ended) c.stop.ensures);
}

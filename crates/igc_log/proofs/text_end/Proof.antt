use Rattle.text.proofs.Prelude.{rules, arith, refl, first, second, yes≤, no≤, yes=, no=, holds, fails, and}
use Rattle.igc_log.specs.Line.{end_of}
use Rattle.igc_log.proofs.text_end.Statement.{statement}
use Rattle.igc_log.proofs.text_end.Tie as tie

pub text_end_spec : {M : Type 1} → statement M
unfolding end_of
text_end_spec =
    tie.close
    (tie.spec
    (search rules) (search rules) (search rules)
    (λ c. first _ (and (yes≤ (omega arith)) (yes= c.if-log-lf-eq13.true)) refl)
    (λ c. second _ (holds (yes≤ (omega arith)) (no= c.if-log-lf-eq13.false)) refl)
    (λ c. second _ (fails _ (no≤ (omega arith))) refl))

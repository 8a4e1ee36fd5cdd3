use Rattle.text.proofs.Prelude.{rules}
use Rattle.igc_log.proofs.Cuts.{not_before, cut_closed, cut_open}
use Rattle.igc_log.proofs.cut_at.Statement.{statement}
use Rattle.igc_log.proofs.cut_at.Tie as tie

pub cut_at_spec : {M : Type 1} → statement M
cut_at_spec =
    tie.close
    (tie.spec
    (search rules) (search rules)
    (λ c. not_before _ _ _ c.before.before.lf_from-lf.ensures _ c.text_end-end.ensures)
    (search rules)
    (λ c. cut_closed _ _ _ c.before.before.lf_from-lf.ensures c.before.if-lf-log.true _ c.text_end-end.ensures)
    (search rules)
    (λ c. cut_open _ _ _ c.before.lf_from-lf.ensures c.if-lf-log.false))

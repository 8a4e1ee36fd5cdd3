use Rattle.text.proofs.Prelude.{rules}
use Rattle.ahead.proofs.Cutting.{ahead}
use Rattle.ahead.proofs.cut_ahead.Statement.{statement}
use Rattle.ahead.proofs.cut_ahead.Tie as tie

pub cut_ahead_spec : {M : Type 1} → statement M
cut_ahead_spec = tie.close (tie.spec (search rules) (λ c. ahead _ _ c.cut_at.ensures))

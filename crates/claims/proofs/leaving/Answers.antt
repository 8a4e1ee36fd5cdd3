use Rattle.text.proofs.Prelude.{refl, sym, ◌∙◌, first, second, yes=, no=}
use Rattle.claims.specs.Claims.{leaving}
use Rattle.claims.proofs.leaving.Goals as goal

pub returns-then-whole-eq0 : goal.returns-then-whole-eq0
unfolding leaving
returns-then-whole-eq0 c = first _ (yes= (sym c.piece_end-whole.ensures ∙ c.if-whole-eq0.true)) refl

pub returns : goal.returns
unfolding leaving
returns c = let e = c.piece_end-whole.ensures in second _ (no= (λ z. c.if-whole-eq0.false (e ∙ z))) e

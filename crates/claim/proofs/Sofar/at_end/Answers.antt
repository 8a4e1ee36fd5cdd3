use Rattle.text.proofs.Prelude.{refl, first, second, yes=, no=, so_true, so_false}
use Rattle.claim.specs.Step.{verdict_at_end}
use Rattle.claim.proofs.Sofar.at_end.Goals as goal

pub returns-then-not-is_yes : goal.returns-then-not-is_yes
unfolding verdict_at_end
returns-then-not-is_yes c = second _ (so_false c.is_yes.ensures c.if-not-is_yes.true) refl

pub returns-then-self-eq0 : goal.returns-then-self-eq0
unfolding verdict_at_end
returns-then-self-eq0 c =
    first _ (so_true c.is_yes.ensures c.if-not-is_yes.false) (first _ (yes= c.if-self-eq0.true) c.no.ensures)

pub returns : goal.returns
unfolding verdict_at_end
returns c =
    first _ (so_true c.is_yes.ensures c.if-not-is_yes.false) (second _ (no= c.if-self-eq0.false) refl)

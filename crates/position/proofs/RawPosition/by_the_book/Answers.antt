use Rattle.text.proofs.Prelude.{refl, so_true, so_false, sym, ◌∙◌, holds, fails}
use Rattle.position.specs.Position.{position_book}
use Rattle.position.proofs.RawPosition.by_the_book.Goals as goal

pub returns-then-by_the_book : goal.returns-then-by_the_book
unfolding position_book
returns-then-by_the_book c =
    c.by_the_book-then-by_the_book.ensures ∙ sym (holds (so_true c.by_the_book.ensures c.if-by_the_book.true) refl)

pub returns-else-by_the_book : goal.returns-else-by_the_book
unfolding position_book
returns-else-by_the_book c =
    c.if-by_the_book.false ∙ sym (fails _ (so_false c.by_the_book.ensures c.if-by_the_book.false))

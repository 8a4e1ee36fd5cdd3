use Rattle.text.specs.Prelude.{◌∧?◌}
use Rattle.text.proofs.Prelude.{sym, ◌∙◌, first, second}
use Rattle.b_record.specs.BRecord.{b_book}
use Rattle.b_record.proofs.BRecord.by_the_book.Goals as goal

pub returns-then-by_the_book : goal.returns-then-by_the_book
unfolding b_book ◌∧?◌
returns-then-by_the_book c =
    first _ (sym c.by_the_book.ensures ∙ c.if-by_the_book.true) c.by_the_book-then-by_the_book.ensures

pub returns-else-by_the_book : goal.returns-else-by_the_book
unfolding b_book ◌∧?◌
returns-else-by_the_book c = second _ (sym c.by_the_book.ensures ∙ c.if-by_the_book.false) c.if-by_the_book.false

use Rattle.text.specs.Prelude.{pick, ◌∧?◌}
use Rattle.text.proofs.Prelude.{arith}
use Rattle.c_record.specs.CRecord.{declaration_book}
use Rattle.c_record.proofs.CRecordDeclaration.by_the_book.Goals as goal

pub returns-then-by_the_book-2 : goal.returns-then-by_the_book-2
unfolding declaration_book pick ◌∧?◌
returns-then-by_the_book-2 c = grind (arith)

pub returns-else-by_the_book-2 : goal.returns-else-by_the_book-2
unfolding declaration_book pick ◌∧?◌
returns-else-by_the_book-2 c = grind (arith)

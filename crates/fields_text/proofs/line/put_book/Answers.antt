use Rattle.text.specs.Prelude.{◌≡◌, []}
use Rattle.text.proofs.Prelude.{arith, refl, sym, ◌∙◌, first, second, yes=, no=}
use Rattle.put.proofs.Writing.{wrote_nothing}
use Rattle.piece_text.specs.Piece.{byte_shown}
use Rattle.fields_text.specs.Line.{book_shown}
use Rattle.fields_text.proofs.line.put_book.Goals as goal

-- a line answered 12
pub returns-then-number-ne0 : goal.returns-then-number-ne0
unfolding book_shown
returns-then-number-ne0 c =
    let none : [] ≡ book_shown c.args.rec =
    second _ (no= (λ e. c.if-number-ne0.true (c.number.ensures ∙ e))) refl in
    rw (← none) (wrote_nothing _ _ (omega arith) (omega arith))

pub returns-then-by_the_book : goal.returns-then-by_the_book
unfolding book_shown
returns-then-by_the_book c =
    let accepted = yes= (sym c.number.ensures ∙ c.if-number-ne0.false) in
    let yes : byte_shown 121 ≡ book_shown c.args.rec =
    first _ accepted (first _ (sym c.by_the_book.ensures ∙ c.if-by_the_book.true) refl) in
    rw (← yes) c.show_byte.ensures

pub returns : goal.returns
unfolding book_shown
returns c =
    let accepted = yes= (sym c.number.ensures ∙ c.if-number-ne0.false) in
    let no : byte_shown 110 ≡ book_shown c.args.rec =
    first _ accepted (second _ (sym c.by_the_book.ensures ∙ c.if-by_the_book.false) refl) in
    rw (← no) c.show_byte-2.ensures

use Rattle.text.specs.Prelude.{◌≡◌, true}
use borrow.Author.Tests.{not-true, not-false}
use Rattle.text.proofs.Prelude.{rules}
use Rattle.text.specs.Spelt.{spelt_from, spelt}
use Rattle.block_read.specs.Block.{read_count}
use Rattle.block_read.proofs.Numbers.{some_read, none_read}
use Rattle.block_read.proofs.Counts.{no_answer, no_number, other_answer, its_count}
use Rattle.block_read.proofs.answers.read_answer.Statement.{statement}
use Rattle.block_read.proofs.answers.read_answer.Tie as tie

no_word : tie.Need-returns-then-not-word
unfolding spelt spelt_from
no_word c =
    let w : tie.After-read_words-word = search rules in
    no_answer _ w.read_words-word.ensures (not-true _ c.if-not-word.true) (search rules)

word : (e : tie.Else-not-word) → e.before.before.read_words-word.result.good ≡ true
word e = not-false _ e.if-not-word.false

unnumbered : tie.Need-returns-then-not-at_count
unfolding spelt spelt_from
unnumbered c =
    let w : tie.After-read_words-word = search rules in
    let n : tie.After-read_number-found = search rules in
    no_number _ w.read_words-word.ensures (word (search rules)) n.read_number-found.ensures.0
    (not-true _ c.if-not-at_count.true)

other : tie.Need-returns-then-found-answer
unfolding spelt spelt_from
other c =
    let w : tie.After-read_words-word = search rules in
    let n : tie.After-read_number-found = search rules in
    let e : tie.Else-not-at_count = search rules in
    other_answer _ w.read_words-word.ensures (word (search rules)) n.read_number-found.ensures.0
    (not-false _ e.if-not-at_count.false) c.if-found-answer.true (search rules)

none : tie.Need-returns-then-count-eq0
unfolding spelt spelt_from read_count
none c =
    let w : tie.After-read_words-word = search rules in
    let n : tie.After-read_number-found = search rules in
    let e : tie.Else-found-answer = search rules in
    let m : tie.After-read_number-count = search rules in
    its_count _ w.read_words-word.ensures (word (search rules)) n.read_number-found.ensures.0 e.if-found-answer.false
    (none_read (λ v. v) _ _ m.read_number-count.ensures.0 (search rules) (search rules) c.wrong_at.ensures)

some : tie.Need-returns
unfolding spelt spelt_from read_count
some c =
    let w : tie.After-read_words-word = search rules in
    let n : tie.After-read_number-found = search rules in
    let e : tie.Else-found-answer = search rules in
    let m : tie.After-read_number-count = search rules in
    its_count _ w.read_words-word.ensures (word (search rules)) n.read_number-found.ensures.0 e.if-found-answer.false
    (some_read (λ v. v) _ _ m.read_number-count.ensures.0 c.if-count-eq0.false)

pub read_answer_spec : {M : Type 1} → statement M
read_answer_spec =
    tie.close
    (tie.spec
    (search rules)
    no_word
    (search rules)
    unnumbered
    other
    (search rules) (search rules)
    none
    some)

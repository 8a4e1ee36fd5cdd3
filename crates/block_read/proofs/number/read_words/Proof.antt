use Rattle.text.specs.Prelude.{◌≡◌, true}
use borrow.Author.Tests.{not-true, not-false}
use Rattle.text.proofs.Prelude.{rules, refl, sym, ◌∙◌, so_true, so_false}
use Rattle.block_read.proofs.Coming.{stays}
use Rattle.block_read.proofs.Numbers.{words_stand, words_missing}
use Rattle.block_read.proofs.number.read_words.Statement.{statement}
use Rattle.block_read.proofs.number.read_words.Tie as tie

good : (c : tie.Else-not-from) → c.before.before.before.before.args.from.good ≡ true
good c = not-false _ c.if-not-from.false

returns : tie.Need-returns-then-not-from
returns c = stays _ _ (not-true _ c.if-not-from.true) (search rules)

stands_requires : tie.Need-stands-requires
stands_requires c κs = search rules

wrong_at_requires : tie.Need-wrong_at-requires
wrong_at_requires c κs = search rules

returns-2 : tie.Need-returns-then-not-stands
returns-2 c = let e : tie.Then-not-stands = search rules in words_missing _ (good (search rules))
    (sym e.before.stands.ensures ∙ so_false refl e.if-not-stands.true) (search rules) c.wrong_at.ensures

add_t7 : tie.Need-overflow_add-result
add_t7 c = search rules

returns-3 : tie.Need-returns
returns-3 c = let e : tie.Else-not-stands = search rules in words_stand _ (good (search rules))
    (sym e.before.stands.ensures ∙ so_true refl e.if-not-stands.false) (search rules) refl

pub read_words_spec : {M : Type 1} → statement M
read_words_spec =
    tie.close (tie.spec returns stands_requires wrong_at_requires returns-2 add_t7 returns-3)

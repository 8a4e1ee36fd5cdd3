use Rattle.std.proofs.Common.{rules, ◌+◌, ◌≡◌}
use Rattle.text.proofs.Prelude.{arith, sym, ◌∙◌, length-drop}
use native.Mathlib.Nat.{add-zero}
use Rattle.block_read.proofs.Words.{starts_short, other_byte, same_byte, all_stand}
use Rattle.block_read.proofs.number.stands.Goals as goal

pub returns-then-text-at : goal.returns-then-text-at
returns-then-text-at c = sym (starts_short _ _ (rw length-drop (search rules)))

pub loop-i-init : goal.loop-i-init
loop-i-init c = rw add-zero

pub returns-then-text-at-2 : goal.returns-then-text-at-2
returns-then-text-at-2 c =
    let a = c.args in
    let i = c.loop-i.i in
    sym (other_byte a.words.now a.text.now i (a.at + i) (search rules) (search rules) c.if-text-at-2.true)
    ∙ c.loop-i.invariant

pub loop-i-preserved : goal.loop-i-preserved
loop-i-preserved c =
    let a = c.args in
    let i = c.loop-i.i in
    let e : a.at + (i + 1) ≡ a.at + i + 1 = omega arith in
    rw e
    (same_byte a.words.now a.text.now i (a.at + i) (search rules) (search rules) c.if-text-at-2.false
    ∙ c.loop-i.invariant)

pub returns : goal.returns
returns c = sym (all_stand _ _ c.loop-i.i (search rules)) ∙ c.loop-i.invariant

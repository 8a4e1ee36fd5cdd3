-- The first colon of a text is the one that std's search finds.
use Rattle.text.specs.Prelude.{ℕ, ◌+◌, ◌≤◌, ◌<◌, ◌≡◌, Bool, true, false, List, length, drop, Some, None, pick, ◌=?◌}
use Rattle.text.proofs.Prelude.{arith, refl, length-drop}
use Rattle.std.specs.Prelude.{cond, not, position}
use Rattle.std.specs.List.{position_or_len}
use Rattle.std.proofs.lemmas.List.Recursion.{is_position_or_len}
use Rattle.std.proofs.lemmas.List.Sums.{prefix_len-le-length}
use borrow.Author.Tests.{ltb-true, ltb-false}
use Rattle.h_record.specs.HRecord.{is_colon, colon_in}

picks : (t : Bool) {a b : ℕ} → a ≡ b → pick t 0 a ≡ cond t 0 b
unfolding pick
picks true h = refl
picks false h = h

searched : (s : List ℕ) → colon_in s ≡ position_or_len is_colon s
unfolding colon_in ◌=?◌
searched = is_position_or_len colon_in is_colon refl (λ b s. picks (is_colon b) (omega arith))

-- the first colon is at the end at the latest
colon_most : (s : List ℕ) → colon_in s ≤ length s
colon_most s = rw searched (prefix_len-le-length (λ b. not (is_colon b)) s)

pub colon_inside : (a : ℕ) (s : List ℕ) → a ≤ length s → a + colon_in (drop a s) ≤ length s
colon_inside a s h = omega (arith, colon_most (drop a s), length-drop a s)

-- what the answer of a test says of the test
made : (t : Bool) {a n : ℕ} → Some n ≡ cond t (Some a) None → (t ≡ true) × (a ≡ n)
made true h = (refl, cc)
made false h = cc

unmade : (t : Bool) (a : ℕ) → None ≡ cond t (Some a) None → t ≡ false
unmade true a h = cc
unmade false a h = refl

pub colon_found : (s : List ℕ) {n : ℕ} → Some n ≡ position is_colon s → (n < length s) × (colon_in s ≡ n)
colon_found s h =
    let m = made _ h in
    let e = searched s in
    let inside = ltb-true _ _ m.0 in
    (omega arith, cc)

pub colon_missing : (s : List ℕ) → None ≡ position is_colon s → colon_in s ≡ length s
colon_missing s h =
    let e = searched s in
    let nowhere = ltb-false _ _ (unmade _ _ h) in
    omega (arith, colon_most s)

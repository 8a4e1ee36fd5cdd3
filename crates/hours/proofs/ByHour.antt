-- What an index holds that holds a value for each hour.
use Rattle.text.specs.Prelude.{ℕ, zero, suc, ◌+◌, ◌<◌, ◌≡◌, true, length, get_or}
use Rattle.text.proofs.Prelude.{arith, refl, ap, ◌∙◌, is≤, both, never}
use mathlib.Core.Option.{Option as Maybe, none, some}
use Rattle.hours.specs.Hours.{held, from, by_hour, held_for, is_nowhere, lacks}
use Rattle.hours.specs.declared.{Hour.Hour, Index.Index}

pub length_from : (k h : ℕ) (f : ℕ → Maybe ℕ) → length (from k h f) ≡ k
unfolding from
length_from zero h f = refl
length_from (suc k) h f = ap suc (length_from k (h + 1) f)

get_d_from : (k h : ℕ) (f : ℕ → Maybe ℕ) (j : ℕ) → j < k → get_or (from k h f) j (held none) ≡ held (f (h + j))
unfolding from
get_d_from zero h f j i = absurd (omega arith)
get_d_from (suc k) h f zero i = let e : h ≡ h + 0 = omega arith in ap (λ (n : ℕ). held (f n)) e
get_d_from (suc k) h f (suc j) i =
    let e : h + 1 + j ≡ h + suc j = omega arith in rw e at (get_d_from k (h + 1) f j (omega arith))

pub from_same : (k h : ℕ) (f g : ℕ → Maybe ℕ) → ((j : ℕ) → j < h + k → f j ≡ g j) → from k h f ≡ from k h g
unfolding from
from_same zero h f g e = refl
from_same (suc k) h f g e = rw (e h (omega arith), from_same k (h + 1) f g (λ j i. e j (omega arith)))

-- the index that holds f of each hour
pub get_d_hour : (f : ℕ → Maybe ℕ) (h : ℕ) → h < 25 → get_or (from 25 0 f) h (held none) ≡ held (f h)
get_d_hour f h i = get_d_from 25 0 f h i ∙ ap (λ (n : ℕ). held (f n)) (omega arith)

pub held_hour : (f : ℕ → Maybe ℕ) (h : ℕ) → h < 25 → held_for (by_hour f) h ≡ (held (f h)).first
unfolding held_for by_hour
held_hour f h i = ap (λ (x : Hour). x.first) (get_d_hour f h i)

pub nothing_held : (a : Maybe ℕ) → is_nowhere (held a).first ≡ true → a ≡ none
unfolding is_nowhere held
nothing_held none e = refl
nothing_held (some p) e = never e refl

-- what an index lacks is one of its hours
pub lacks_inside : (i : Index) (h : ℕ) → lacks i h ≡ true → h < 25
unfolding lacks
lacks_inside i h l = omega (arith, is≤ (both l).0)

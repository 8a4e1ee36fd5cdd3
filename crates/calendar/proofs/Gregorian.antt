-- The days of a month are the Gregorian calendar's.
use Rattle.text.specs.Prelude.{ℕ, zero, suc, ◌+◌, ◌%◌, ◌≤◌, ◌<◌, ◌≡◌, Bool, true, false, not, List, [], ◌∷◌, get_or}
use Rattle.text.specs.Prelude.{length, pick, ◌≤?◌, ◌=?◌, ◌∧?◌, ◌∨?◌}
use Rattle.text.proofs.Prelude.{arith, refl, sym, ap, ◌∙◌, is≤, isnt≤, is=, yes=}
use native.Mathlib.Nat.{le_of_suc-le-suc, not-suc-le-zero}
use Rattle.calendar.specs.Days.{months, february, days_in_of}
use Rattle.calendar.specs.Gregorian.{leap, gregorian, full_year, DaysOfTheCalendar, NoOtherMonth}

-- ---- no other month

past_end : (xs : List ℕ) (m : ℕ) → length xs ≤ m → get_or xs m 0 ≡ 0
unfolding get_or length
past_end [] m h = refl
past_end (x ∷ xs) zero h = absurd (not-suc-le-zero h)
past_end (x ∷ xs) (suc m) h = past_end xs m (le_of_suc-le-suc h)

pub no_other_month : NoOtherMonth
unfolding days_in_of months get_or length
no_other_month y = (refl, λ m h. past_end (0 ∷ months (february y)) m h)

-- m is none of 1 to k
abbrev pub NoneTo : ℕ → ℕ → Type 0
NoneTo m zero = Unit
NoneTo m (suc k) = NoneTo m k × (m ≡ suc k → ⊥)

outside : (m k : ℕ) → NoneTo (suc m) k → k ≤ m
outside m zero r = omega arith
outside m (suc k) r = by_next (outside m k r.0) (suc k ≤? m) refl
  where
    by_next : k ≤ m → (t : Bool) → (suc k ≤? m) ≡ t → suc k ≤ m
    by_next h true e = is≤ e
    by_next h false e = let n = isnt≤ e in absurd (r.1 (omega arith))

pub past_months : (m y : ℕ) → NoneTo m 12 → days_in_of m y ≡ 0
past_months zero y r = (no_other_month y).0
past_months (suc m) y r = let h = outside m 12 r in (no_other_month y).1 (suc m) (omega arith)

-- ---- leap years

-- a test that holds beside another adds nothing to it
also : {a b : Bool} → b ≡ true → (a ∧? b) ≡ a
unfolding ◌∧?◌ pick
also {a = true} e = e
also {a = false} e = refl

-- of the years 1980 to 2079 a hundred divides 2000 alone, which four hundred divides
hundreds : (year : ℕ) → 1980 ≤ year → year ≤ 2079 → (not (year % 100 =? 0) ∨? (year % 400 =? 0)) ≡ true
unfolding not ◌∨?◌ pick
hundreds year a b = by_hundred (year % 100 =? 0) refl
  where
    by_hundred : (t : Bool) → (year % 100 =? 0) ≡ t → (not t ∨? (year % 400 =? 0)) ≡ true
    by_hundred true e = let z = is= e in yes= (omega arith)
    by_hundred false e = refl

every_fourth : (year y : ℕ) → 1980 ≤ year → year ≤ 2079 → year % 4 ≡ y % 4 → leap year ≡ (y % 4 =? 0)
unfolding leap
every_fourth year y a b e = also (hundreds year a b) ∙ ap (λ (n : ℕ). n =? 0) e

fourth : (y : ℕ) → y ≤ 99 → leap (full_year y) ≡ (y % 4 =? 0)
unfolding full_year pick
fourth y h = by_century (80 ≤? y) refl
  where
    by_century : (t : Bool) → (80 ≤? y) ≡ t → leap (pick t (1900 + y) (2000 + y)) ≡ (y % 4 =? 0)
    by_century true e = let z = is≤ e in every_fourth (1900 + y) y (omega arith) (omega arith) (omega arith)
    by_century false e = let z = isnt≤ e in every_fourth (2000 + y) y (omega arith) (omega arith) (omega arith)

-- ---- the months, one after the other

-- the entries of xs are the values of f from i on
abbrev Fits : (ℕ → ℕ) → ℕ → List ℕ → Type 0
Fits f i [] = Unit
Fits f i (x ∷ xs) = (x ≡ f i) × Fits f (suc i) xs

fits_at : (f : ℕ → ℕ) (xs : List ℕ) (i k : ℕ) → Fits f i xs → k < length xs → get_or xs k 0 ≡ f (i + k)
unfolding get_or length
fits_at f [] i k t h = absurd (not-suc-le-zero h)
fits_at f (x ∷ xs) i zero t h = t.0 ∙ ap f (omega arith)
fits_at f (x ∷ xs) i (suc k) t h = fits_at f xs (suc i) k t.1 (le_of_suc-le-suc h) ∙ ap f (omega arith)

months_fit : (y : ℕ) → y ≤ 99 → Fits (λ m. gregorian m (full_year y)) 1 (months (february y))
unfolding months february gregorian pick ◌=?◌ ◌∨?◌
months_fit y h = (
  refl,
  (
    ap (λ b. pick b 29 28) (sym (fourth y h)),
    (refl, (refl, (refl, (refl, (refl, (refl, (refl, (refl, (refl, (refl, tt)))))))))),
  ),
)

pub days_of_the_calendar : DaysOfTheCalendar
unfolding days_in_of months get_or length
days_of_the_calendar zero y l h k = absurd (not-suc-le-zero l)
days_of_the_calendar (suc m) y l h k =
    fits_at (λ m. gregorian m (full_year y)) (months (february y)) 1 m (months_fit y k) h
    ∙ ap (λ (n : ℕ). gregorian n (full_year y)) (omega arith)

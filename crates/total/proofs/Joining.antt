-- The laws of joining: in any grouping the same, nothing by the total of no logs, and the total of one list of logs
-- followed by the other.
use Rattle.span.specs.Spot.{GpsSpot, PressureSpot}
use Rattle.report.specs.Peak.{GpsPeak, PressurePeak}
use Rattle.text.specs.Prelude.{ℕ, ◌+◌, ◌≤◌, ◌≡◌, Bool, true, false, List, ◌∷◌, ◌++◌, pick, ◌≤?◌, ◌∧?◌, largest}
use Rattle.text.proofs.Prelude.{arith, refl, sym, ap, ◌∙◌, holds, fails, by_test, never, and, both as both_hold}
use native.Mathlib.Nat.{zero-add, add-zero, add_assoc}
use Rattle.report.specs.Range.{Range, none, between, higher, joined}
use Rattle.report.specs.Counts.{from, by_number, added}
use Rattle.report.specs.Figures.{Figures, empty, both}
use Rattle.report.proofs.Figures.{both_assoc, both_empty, empty_both}
use Rattle.span.specs.Span.{pressure_spot, gps_spot, lower_pressure, lower_gps, mapped, all_fit, later_pressure, later_gps}
use Rattle.span.specs.Span.{numbers_of}
use Rattle.span.proofs.Fitting.{joined_fit, earlier_fit}
use Rattle.total.specs.Total.{Totals, Logs, total_of, no_logs, in_log_of, one_log, total_fits, add_fits, later_by, join_of}
use Rattle.total.specs.Total.{log_numbers, join_fits, Joining, given, refused, join_res}
use Rattle.total.specs.Joins.{Fitting, and_then, left_first, right_first, apart, apart_spot, apart_a, apart_b, apart_c}
use Rattle.total.specs.Laws.{OfBoth, Sound}
use Rattle.total.proofs.Fitting.{fits_at, append_fit, first_fit, second_fit, own_fit}
use Rattle.total.proofs.Totals.{pressure_order, gps_order, joined_mapped, mapped_mapped, mapped_same}
use Rattle.total.proofs.Totals.{total_append, add_joins, total_agrees}

-- ---- figures with logs more before them

later_both : (k : ℕ) (f g : Figures PressureSpot GpsSpot) →
    later_by k (both lower_pressure lower_gps f g) ≡ both lower_pressure lower_gps (later_by k f) (later_by k g)
unfolding later_by both lower_pressure lower_gps
later_both k f g = rw (
  joined_mapped lower_pressure (later_pressure k) f.pressure g.pressure,
  joined_mapped lower_gps (later_gps k) f.gps g.gps,
)

later_later : (k n : ℕ) (f : Figures PressureSpot GpsSpot) → later_by k (later_by n f) ≡ later_by (k + n) f
unfolding later_by
later_later k n f = rw (
  mapped_mapped (later_pressure k) (later_pressure n) (later_pressure (k + n)) (λ s. rw (add_assoc k n s.log))
      f.pressure,
  mapped_mapped (later_gps k) (later_gps n) (later_gps (k + n)) (λ s. rw (add_assoc k n s.log)) f.gps,
)

later_none : (f : Figures PressureSpot GpsSpot) → later_by 0 f ≡ f
unfolding later_by
later_none f = rw (
  mapped_same (later_pressure 0) (λ s. rw (zero-add s.log)) f.pressure,
  mapped_same (later_gps 0) (λ s. rw (zero-add s.log)) f.gps,
)

later_empty : (k : ℕ) → later_by k empty ≡ empty
unfolding later_by empty mapped
later_empty k = refl

-- ---- joined totals

pub join_assoc : (a b c : Totals) → join_of (join_of a b) c ≡ join_of a (join_of b c)
unfolding join_of
join_assoc a b c = rw (
  add_assoc a.logs b.logs c.logs,
  later_both a.logs b.figures (later_by b.logs c.figures),
  later_later a.logs b.logs c.figures,
  both_assoc pressure_order gps_order a.figures (later_by a.logs b.figures)
      (later_by (a.logs + b.logs) c.figures),
)

pub empty_left : (t : Totals) → Fitting t → join_res no_logs t ≡ given t
unfolding join_res join_fits join_of no_logs ◌∧?◌ pick
empty_left t fits = rw (
  zero-add t.logs,
  later_none t.figures,
  empty_both lower_pressure lower_gps t.figures fits.answers,
  fits.counts,
  fits.logs,
)

pub empty_right : (t : Totals) → Fitting t → join_res t no_logs ≡ given t
unfolding join_res join_fits join_of no_logs empty all_fit log_numbers numbers_of ◌∧?◌ pick
empty_right t fits = rw (
  add-zero t.logs,
  later_empty t.logs,
  both_empty lower_pressure lower_gps t.figures fits.answers,
  fits.counts,
)

-- ---- what fits

abbrev pub counts : Totals → List ℕ
counts t = t.logs ∷ t.figures.lines ∷ t.figures.fixes ∷ t.figures.answers

module _ (a b : Totals) (e : total_fits (join_of a b) ≡ true) where
  log_count_fits : a.logs + b.logs ≤ largest
  unfolding total_fits join_of
  log_count_fits = fits_at _ 0 e

  first_fits : total_fits a ≡ true
  unfolding total_fits join_of both later_by added
  first_fits = first_fit (counts a) (counts b) e

  second_fits : total_fits b ≡ true
  unfolding total_fits join_of both later_by added
  second_fits = second_fit (counts a) (counts b) e

-- by those of pressure heights and of GPS heights
pub logs_split : (f : Figures PressureSpot GpsSpot) →
    all_fit (log_numbers f) ≡
    (all_fit (numbers_of (λ s. s.log) f.pressure) ∧? all_fit (numbers_of (λ s. s.log) f.gps))
unfolding log_numbers
logs_split f = append_fit (numbers_of (λ s. s.log) f.pressure) (numbers_of (λ s. s.log) f.gps)

earlier_logs_fit : (k : ℕ) (f : Figures PressureSpot GpsSpot) → all_fit (log_numbers (later_by k f)) ≡ true →
    all_fit (log_numbers f) ≡ true
unfolding later_by
earlier_logs_fit k f e =
    let h = both_hold (sym (logs_split (later_by k f)) ∙ e) in
    logs_split f
    ∙ and (earlier_fit (λ s. s.log) k (later_pressure k) (λ s. refl) f.pressure h.0)
    (earlier_fit (λ s. s.log) k (later_gps k) (λ s. refl) f.gps h.1)

both_logs_fit : (f g : Figures PressureSpot GpsSpot) → all_fit (log_numbers f) ≡ true → all_fit (log_numbers g) ≡ true →
    all_fit (log_numbers (both lower_pressure lower_gps f g)) ≡ true
unfolding both
both_logs_fit f g p q =
    let h = both_hold (sym (logs_split f) ∙ p) in
    let l = both_hold (sym (logs_split g) ∙ q) in
    logs_split (both lower_pressure lower_gps f g)
    ∙ and (joined_fit (λ s. s.log) lower_pressure f.pressure g.pressure h.0 l.0)
    (joined_fit (λ s. s.log) lower_gps f.gps g.gps h.1 l.1)

own_logs_fit : (t : Totals) → Sound t → (k : ℕ) → k + t.logs ≤ largest →
    all_fit (log_numbers (later_by k t.figures)) ≡ true
unfolding later_by
own_logs_fit t s k h =
    logs_split (later_by k t.figures)
    ∙ and (own_fit (λ s. s.log) k (later_pressure k) (λ s. refl) t.logs h t.figures.pressure s.pressure)
    (own_fit (λ s. s.log) k (later_gps k) (λ s. refl) t.logs h t.figures.gps s.gps)

-- where the second names its own logs, the counts decide
sound_fits : (a b : Totals) → Sound b → join_fits a b ≡ total_fits (join_of a b)
unfolding join_fits
sound_fits a b s =
    by_test (total_fits (join_of a b))
    (λ e. holds e (own_logs_fit b s a.logs (log_count_fits a b e)) ∙ sym e)
    (λ e. fails _ e ∙ sym e)

-- ---- three totals

-- one join and then another
in_a_row : (p q : Bool) (t : Totals) (f : Totals → Joining) (j : Joining) → f t ≡ pick q j (refused 21) →
    and_then (pick p (given t) (refused 21)) f ≡ pick (p ∧? q) j (refused 21)
unfolding and_then ◌∧?◌ pick
in_a_row true q t f j e = e
in_a_row false q t f j e = refl

-- two tests of which each follows from the other
alike : (p q : Bool) → (p ≡ true → q ≡ true) → (q ≡ true → p ≡ true) → p ≡ q
alike p q f g = by_test p (λ e. e ∙ sym (f e)) (λ e. by_test q (λ h. never (g h) e) (λ h. e ∙ sym h))

module _ (a b c : Totals) where
  abbrev left_fits : Bool
  left_fits = join_fits a b ∧? join_fits (join_of a b) c

  abbrev right_fits : Bool
  right_fits = join_fits b c ∧? join_fits a (join_of b c)

  left_is : left_first a b c ≡ pick left_fits (given (join_of (join_of a b) c)) (refused 21)
  unfolding left_first join_res
  left_is = in_a_row _ _ (join_of a b) _ _ refl

  right_is : right_first a b c ≡ pick right_fits (given (join_of a (join_of b c))) (refused 21)
  unfolding right_first join_res
  right_is = in_a_row _ _ (join_of b c) _ _ refl

  fits_right : left_fits ≡ true → right_fits ≡ true
  unfolding join_fits join_of
  fits_right e =
      let first = both_hold (both_hold e).0 in
      let then = both_hold (both_hold e).1 in
      let whole = ap total_fits (sym (join_assoc a b c)) ∙ then.0 in
      let later = ap (λ f. all_fit (log_numbers f)) (later_later a.logs b.logs c.figures) ∙ then.1 in
      and (and (second_fits a (join_of b c) whole) (earlier_logs_fit a.logs (later_by b.logs c.figures) later))
      (and whole
      (rw (later_both a.logs b.figures (later_by b.logs c.figures)) (both_logs_fit _ _ first.1 later)))

  fits_left : Sound b → Sound c → right_fits ≡ true → left_fits ≡ true
  unfolding join_fits
  fits_left s z e =
      let whole = ap total_fits (join_assoc a b c) ∙ (both_hold (both_hold e).1).0 in
      and (sound_fits a b s ∙ first_fits (join_of a b) c whole) (sound_fits (join_of a b) c z ∙ whole)

pub associative : (a b c t : Totals) → left_first a b c ≡ given t → right_first a b c ≡ given t
unfolding pick
associative a b c t e =
    by_test (left_fits a b c)
    (λ h. rw (right_is a b c, fits_right a b c h, sym (join_assoc a b c)) (rw h at (sym (left_is a b c) ∙ e)))
    (λ h. let other : refused 21 ≡ given t = rw h at (sym (left_is a b c) ∙ e) in
    let z : ◌≡◌ {A = ℕ} 0 1 = cc in absurd (omega arith))

pub refused_alike : (a b c : Totals) → Sound b → Sound c → left_first a b c ≡ right_first a b c
refused_alike a b c s z =
    rw (left_is a b c, right_is a b c, join_assoc a b c, alike _ _ (fits_right a b c) (fits_left a b c s z))

-- not so where the third names a log that it does not have: behind two logs its number does not fit, behind one it
-- fits, and is then left out for the second's equal height
pub refused_apart :
    (left_first apart_a apart_b apart_c ≡ refused 21) ×
    (right_first apart_a apart_b apart_c ≡ given (join_of apart_a (join_of apart_b apart_c)))
unfolding left_first right_first and_then apart apart_spot apart_a apart_b apart_c join_res join_fits total_fits
    join_of both later_by lower_pressure mapped joined higher added by_number from all_fit log_numbers numbers_of ◌∧?◌
    ◌≤?◌ pick
refused_apart = (refl, refl)

-- ---- totals of logs

pub followed : {T : Type 0} (a b : Logs T) →
    join_res (total_of a) (total_of b) ≡ pick (total_fits (total_of (a ++ b))) (given (total_of (a ++ b))) (refused 21)
unfolding join_res
followed {T} a b = rw (sound_fits (total_of a) (total_of b) ((total_agrees T).sound b), sym (total_append a b))

-- ---- one log more

-- what holds of all that f makes
both_mapped : {P Q : Type 0} (X : Q → Type 0) (f : P → Q) → ((p : P) → X (f p)) → (r : Range P) →
    OfBoth X (mapped f r)
unfolding mapped
both_mapped X f x none = tt
both_mapped X f x (between a b) = (x a, x b)

one_sound : (f : Figures PressurePeak GpsPeak) → Sound (one_log f)
unfolding one_log in_log_of
one_sound f = record {
  pressure = both_mapped _ (pressure_spot 1) (λ p. (omega arith, omega arith)) f.pressure;
  gps = both_mapped _ (gps_spot 1) (λ p. (omega arith, omega arith)) f.gps;
}

pub add_fits_lem : (t : Totals) (f : Figures PressurePeak GpsPeak) → join_fits t (one_log f) ≡ add_fits t f
unfolding add_fits
add_fits_lem t f = sound_fits t (one_log f) (one_sound f) ∙ ap total_fits (sym (add_joins t f))

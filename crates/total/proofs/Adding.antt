-- What the code makes of two totals, and of a total and one log more, is what the definition makes of them.
use Rattle.span.specs.Spot.{GpsSpot, PressureSpot}
use Rattle.report.specs.Peak.{GpsPeak, PressurePeak}
use Rattle.text.specs.Prelude.{ℕ, ◌+◌, ◌≤◌, ◌<◌, ◌≡◌, Bool, true, false, List, Option, Some, None, length, take, set}
use Rattle.text.specs.Prelude.{get_or, pick, ◌∧?◌, largest}
use Rattle.text.proofs.Prelude.{refl, sym, ◌∙◌, take_all, yes≤, holds, fails, by_test}
use native.Mathlib.Numerals.{add-one}
use lib.ListN.{length-set}
use lib.Seq.{take-suc, take-suc-set}
use Rattle.report.specs.Counts.{added}
use Rattle.report.specs.Range.{Range, joined}
use Rattle.report.specs.Figures.{Figures, earlier}
use Rattle.report.specs.Figures as figures
use Rattle.report.proofs.Counts.{get_d_added, length_added}
use Rattle.span.specs.Span.{lower_pressure, lower_gps, mapped, all_fit, later_pressure, later_gps, numbers_of}
use Rattle.total.specs.Total.{Totals, one_log, add_res, total_fits, later_by, join_of, join_fits, given, refused, join_res}
use Rattle.total.specs.Total.{sums_res}
use Rattle.total.proofs.Fitting.{one_over, set_fit}
use Rattle.total.proofs.Totals.{add_joins}
use Rattle.total.proofs.Joining.{counts, logs_split, add_fits_lem}

-- ---- counts

-- The first i sums are made, and all counts fit.
pub record Made (ns ms all : List ℕ) (i : ℕ) : Type 0 where
  pub wide : length all ≡ length ns
  pub done : take i all ≡ take i (added ns ms)
  pub fit : all_fit all ≡ true

module _ (ns ms : List ℕ) (i : ℕ) where
  -- the next sum does not fit
  pub over_here : largest < get_or ns i 0 + get_or ms i 0 → None ≡ sums_res ns ms
  unfolding sums_res pick
  over_here h = rw (one_over (added ns ms) i (rw (get_d_added ns ms i) h))

  module _ (all : List ℕ) (same : length ns ≡ length ms) (made : Made ns ms all i) where
    pub sum_here : i < length ns → get_or ns i 0 + get_or ms i 0 ≤ largest →
        Made ns ms (set all i (get_or ns i 0 + get_or ms i 0)) (i + 1)
    sum_here h f =
        let n = get_or ns i 0 + get_or ms i 0 in
        record {
          wide = length-set all i n ∙ made.wide;
          done = rw (
            add-one,
            take-suc-set all i n (rw made.wide h),
            take-suc (added ns ms) i 0 (rw (length_added ns ms same) h),
            made.done,
            get_d_added ns ms i,
          );
          fit = set_fit all i n made.fit f;
        }

    pub sums_made : length ns ≤ i → Some all ≡ sums_res ns ms
    unfolding sums_res pick
    sums_made h =
        let are : all ≡ added ns ms =
        sym (take_all i all (rw made.wide h))
        ∙ made.done
        ∙ take_all i (added ns ms) (rw (length_added ns ms same) h) in
        rw (sym are, made.fit)

-- what the code says of its sums
module _ (ns ms : List ℕ) where
  pub sums_fit : {all : List ℕ} → Some all ≡ sums_res ns ms →
      (all_fit (added ns ms) ≡ true) × (all ≡ added ns ms)
  unfolding sums_res pick
  sums_fit {all} e = by (all_fit (added ns ms)) refl e
    where
      by : (t : Bool) → all_fit (added ns ms) ≡ t → Some all ≡ pick t (Some (added ns ms)) None →
          (all_fit (added ns ms) ≡ true) × (all ≡ added ns ms)
      by true h e = (h, cc)
      by false h e = cc

  pub sums_over : None ≡ sums_res ns ms → all_fit (added ns ms) ≡ false
  unfolding sums_res pick
  sums_over e = by (all_fit (added ns ms)) refl e
    where
      by : (t : Bool) → all_fit (added ns ms) ≡ t → ◌≡◌ {A = Option (List ℕ)} None (pick t (Some (added ns ms)) None) →
          all_fit (added ns ms) ≡ false
      by true h e = cc
      by false h e = h

-- ---- two totals

-- the second test fails
fails_next : (a : Bool) {b : Bool} → b ≡ false → (a ∧? b) ≡ false
fails_next a e = by_test a (λ t. holds t e) (λ t. fails _ t)

module _ (a b : Totals) where
  abbrev sums : List ℕ
  sums = added a.figures.answers b.figures.answers

  abbrev later : Range PressureSpot
  later = mapped (later_pressure a.logs) b.figures.pressure

  abbrev later_gps_lem : Range GpsSpot
  later_gps_lem = mapped (later_gps a.logs) b.figures.gps

  pub count_over : (i : ℕ) → largest < get_or (counts (join_of a b)) i 0 → join_fits a b ≡ false
  unfolding join_fits total_fits
  count_over i h = fails _ (one_over (counts (join_of a b)) i h)

  pub answers_over : all_fit sums ≡ false → join_fits a b ≡ false
  unfolding join_fits total_fits join_of figures.both later_by all_fit
  answers_over e = fails _ (fails_next _ (fails_next _ (fails_next _ e)))

  pub pressure_over_lem : all_fit (numbers_of (λ s. s.log) later) ≡ false → join_fits a b ≡ false
  unfolding join_fits later_by
  pressure_over_lem e = fails_next _ (logs_split (later_by a.logs b.figures) ∙ fails _ e)

  pub gps_over_lem : all_fit (numbers_of (λ s. s.log) later_gps_lem) ≡ false → join_fits a b ≡ false
  unfolding join_fits later_by
  gps_over_lem e = fails_next _ (logs_split (later_by a.logs b.figures) ∙ fails_next _ e)

  pub all_in : a.logs + b.logs ≤ largest → a.figures.lines + b.figures.lines ≤ largest →
      a.figures.fixes + b.figures.fixes ≤ largest → all_fit sums ≡ true →
      all_fit (numbers_of (λ s. s.log) later) ≡ true → all_fit (numbers_of (λ s. s.log) later_gps_lem) ≡ true →
      join_fits a b ≡ true
  unfolding join_fits total_fits join_of figures.both later_by all_fit
  all_in logs lines fixes answers pressure gps =
      holds (holds (yes≤ logs) (holds (yes≤ lines) (holds (yes≤ fixes) answers)))
      (logs_split (later_by a.logs b.figures) ∙ holds pressure gps)

  pub too_large : join_fits a b ≡ false → refused 21 ≡ join_res a b
  unfolding join_res pick
  too_large e = rw e

  pub joins : {answers : List ℕ} {pressure : Range PressureSpot} {gps : Range GpsSpot} {times : Range ℕ} →
      join_fits a b ≡ true →
      answers ≡ sums →
      pressure ≡ joined lower_pressure a.figures.pressure later →
      gps ≡ joined lower_gps a.figures.gps later_gps_lem →
      times ≡ joined earlier a.figures.times b.figures.times →
      given (record {
        logs = a.logs + b.logs;
        figures = record {
          lines = a.figures.lines + b.figures.lines;
          answers = answers;
          fixes = a.figures.fixes + b.figures.fixes;
          pressure = pressure;
          gps = gps;
          times = times;
        };
      }) ≡ join_res a b
  unfolding join_res join_of figures.both later_by pick
  joins fits are pressures gpses these = rw (fits, are, pressures, gpses, these)

-- ---- one log more

-- a log more is its total joined
pub adds : (t : Totals) (f : Figures PressurePeak GpsPeak) → join_res t (one_log f) ≡ add_res t f
unfolding add_res join_res
adds t f = rw (add_fits_lem t f, add_joins t f)

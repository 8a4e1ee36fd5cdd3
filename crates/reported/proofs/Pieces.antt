-- A piece of a log taken line by line, and pieces one after the other.
use Rattle.report.specs.Peak.{GpsPeak, PressurePeak}
use Rattle.text.specs.Prelude.{ℕ, ◌+◌, ◌-◌, ◌≤◌, ◌<◌, ◌≡◌, true, List, [], ◌∷◌, ◌++◌, length, largest}
use Rattle.text.proofs.Prelude.{arith, refl, sym, ap, ◌∙◌, length-append, first, yes≤}
use native.Mathlib.Nat.{zero-add, add-zero}
use Rattle.part.specs.Part.{part_bytes}
use Rattle.records.specs.Record.{read_line_of}
use Rattle.igc_log.specs.Line.{cut_at, line_text}
use Rattle.igc_log.specs.Log.{Reader, LineRead, chunks, closed, read_from, readings}
use Rattle.igc_log.specs.Fold.{over, Carried, read_at_of, read_on, fed}
use Rattle.igc_log.specs.declared.Cut.{Cut}
use Rattle.igc_log.proofs.Chunks.{chunks_le}
use Rattle.igc_log.proofs.Pieces.{length_readings, made_is, fed_append, place_is}
use Rattle.igc_log.proofs.Reached as log
use Rattle.igc_log.proofs.Reached.{Reached}
use Rattle.held.specs.Tables.{no_tables}
use Rattle.held.specs.declared.tables.Tables.{Tables}
use Rattle.walk.specs.Readings.{LineReading, reader}
use Rattle.report.specs.Figures.{Figures}
use Rattle.report.specs.Report.{taken_by, report_of, report_step}
use Rattle.report.proofs.Reports.{agrees}
use Rattle.reported.specs.Reported.{readings_at, figures_on, SoFar, nothing_yet, report_on_of}
use Rattle.reported.specs.Laws.{InPieces}

-- ---- a step that looks at a line's place and its answer alone

module _ {A H T : Type 0} (R : Reader A H) (step : T → LineRead A H → T)
    (alone : (a : T) (x y : LineRead A H) → x.place ≡ y.place → x.answer ≡ y.answer → step a x ≡ step a y) where
  -- what is read of a line
  abbrev one : ℕ → ℕ → H → List ℕ → LineRead A H
  one n p h k = read_at_of {T = ℕ} R (record { number = n; place = p; held = h; made = 0 }) (line_text k)

  -- makes the same of some lines, however many were read before them and whatever is held
  pub over_same : (n n' p : ℕ) (h h' : H) (a : T) (ks : List (List ℕ)) →
      over step a (read_from R n p h ks) ≡ over step a (read_from R n' p h' ks)
  unfolding over read_from
  over_same n n' p h h' a [] = refl
  over_same n n' p h h' a (k ∷ ks) =
      let x = one n p h k in
      let y = one n' p h' k in
      ap (λ b. over step b (read_from R (n + 1) (p + length k) x.held ks)) (alone a x y refl refl)
      ∙ over_same (n + 1) (n' + 1) (p + length k) x.held y.held (step a y) ks

-- so does the step of a report
report_alone : (f : Figures PressurePeak GpsPeak) (x y : LineReading) → x.place ≡ y.place → x.answer ≡ y.answer →
    report_step f x ≡ report_step f y
unfolding report_step
report_alone f x y p a = rw (p, a)

-- ---- line by line

-- what is carried at a place, by a loop that keeps no number and no table
abbrev carried : ℕ → ℕ → Tables → Figures PressurePeak GpsPeak → Carried Tables (Figures PressurePeak GpsPeak)
carried p n h f = record { number = n; place = p; held = h; made = f }

module _ (f₀ : Figures PressurePeak GpsPeak) (p : ℕ) (s : List ℕ) where
  -- f is what the lines before the place `at` of a piece make of f₀; the piece stands at p
  pub record Taken (at : ℕ) (f : Figures PressurePeak GpsPeak) : Type 0 where
    pub number : ℕ
    pub held : Tables
    pub reached : Reached reader report_step (carried p 0 no_tables f₀) s at (carried (p + at) number held f)

module _ {f₀ : Figures PressurePeak GpsPeak} {p : ℕ} {s : List ℕ} where
  -- before the first line
  pub at_start : Taken f₀ p s 0 f₀
  at_start = record { number = 0; held = no_tables; reached = rw (add-zero p) log.at_start }

  module _ {at : ℕ} {f : Figures PressurePeak GpsPeak} (t : Taken f₀ p s at f) where
    -- after the last line
    pub at_end : length s ≤ at → f ≡ figures_on f₀ p s
    unfolding figures_on readings_at read_on
    at_end i = ap (λ (c : Carried Tables (Figures PressurePeak GpsPeak)). c.made) (log.at_end t.reached i)
        ∙ made_is reader report_step (carried p 0 no_tables f₀) s

    module _ {cut : Cut} (i : at < length s) (e : cut ≡ cut_at at s) where
      -- the line that is cut here
      pub line : {l : List ℕ} {f' : Figures PressurePeak GpsPeak} → l ≡ part_bytes cut.line s →
          f' ≡ taken_by f (p + at) (read_line_of l) → Taken f₀ p s cut.next f'
      unfolding report_step
      line v m = record { number = _; held = _; reached = log.line i t.reached e v (omega arith) refl m }

      pub near : length s - cut.next < length s - at
      near = log.less_left t.reached i e

-- ---- pieces

on_taken : (c : SoFar) (s : List ℕ) → c.place + length s ≤ largest →
    report_on_of c s ≡ record { figures = figures_on c.figures c.place s; place = c.place + length s }
unfolding report_on_of
on_taken c s h = sym (first _ (yes≤ h) refl)

figures_append : (f : Figures PressurePeak GpsPeak) (p : ℕ) (a b : List ℕ) → closed a ≡ true →
    figures_on (figures_on f p a) (p + length a) b ≡ figures_on f p (a ++ b)
unfolding figures_on readings_at read_on
figures_append f p a b h =
    let c = carried p 0 no_tables f in
    let k = fed reader report_step c a in
    sym (
    sym (made_is reader report_step c (a ++ b))
    ∙ ap (λ (c : Carried Tables (Figures PressurePeak GpsPeak)). c.made) (fed_append reader report_step c a b h)
    ∙ made_is reader report_step k b
    ∙ over_same reader report_step report_alone k.number 0 k.place k.held no_tables k.made (chunks b)
    ∙ rw (made_is reader report_step c a, place_is reader report_step c a))

two_pieces : (c : SoFar) (a b : List ℕ) → closed a ≡ true → c.place + length a + length b ≤ largest →
    report_on_of (report_on_of c a) b ≡ report_on_of c (a ++ b)
two_pieces c a b h short =
    let both : c.place + length (a ++ b) ≡ c.place + length a + length b = omega (arith, length-append a b) in
    rw (
      on_taken c a (omega arith),
      on_taken (record {
        figures = figures_on c.figures c.place a;
        place = c.place + length a;
      }) b short,
      on_taken c (a ++ b) (omega (arith, both)),
      figures_append c.figures c.place a b h,
      both,
    )

whole_log : (log : List ℕ) → length log ≤ largest →
    report_on_of nothing_yet log ≡ record { figures = report_of (readings reader log); place = length log }
unfolding nothing_yet figures_on readings_at readings
whole_log log h =
    let steps = agrees.steps (readings reader log) (omega (arith, length_readings reader log, chunks_le log)) in
    rw (on_taken nothing_yet log (omega arith), zero-add (length log)) (rw steps)

pub in_pieces : InPieces
in_pieces = record { two = two_pieces; whole = whole_log }

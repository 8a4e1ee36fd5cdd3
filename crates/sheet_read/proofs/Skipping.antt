-- The blocks of single logs are passed over: none of their lines begins with `all `.
use Rattle.report.specs.Peak.{GpsPeak, PressurePeak}
use Rattle.text.specs.Prelude.{ℕ, ◌+◌, ◌≡◌, Bool, true, false, List, [], ◌∷◌, ◌++◌, pick, ◌=?◌, ◌∧?◌, LF, ℤ, pos}
use Rattle.text.specs.Prelude.{negsuc, all_digits_of, padded, signed}
use Rattle.text.specs.Spelt.{spelt, spelt_from}
use Rattle.text.proofs.Prelude.{arith, refl, ◌∙◌, append_assoc, no=}
use Rattle.text.proofs.Decimal.{head_digit, all_padded}
use Rattle.report.specs.Range.{Range, none, between}
use Rattle.report.specs.Figures.{Figures}
use Rattle.sheet_text.specs.Sheet.{number_line, none_line, answer_line, answer_lines, time_lines, at_place_of, height_line}
use Rattle.sheet_text.specs.Sheet.{range_lines, pressure_peak_line, gps_peak_line, count_lines, figure_lines, log_text}
use Rattle.block_read.specs.Read.{starts_with}
use Rattle.sheet_read.specs.Sheet.{from_all_of}
use Rattle.sheet_read.specs.Laws.{log_texts}

-- The text is passed over, from a line's start or inside a line to such a place again.
pub record Passes (from to : Bool) (t : List ℕ) : Type 0 where
  pub passed : (r : List ℕ) → from_all_of from (t ++ r) ≡ from_all_of to r

-- ---- one after the other

then : {a b c : Bool} {s t : List ℕ} → Passes a b s → Passes b c t → Passes a c (s ++ t)
then {s} {t} p q = record { passed = λ r. rw append_assoc (p.passed (t ++ r) ∙ q.passed r) }

said : {a b : Bool} (t : List ℕ) → ((r : List ℕ) → from_all_of a (t ++ r) ≡ from_all_of b r) → Passes a b t
said t p = record { passed = p }

nothing : {a : Bool} → Passes a a []
nothing = record { passed = λ r. refl }

either : {a b : Bool} {s t : List ℕ} (test : Bool) → Passes a b s → Passes a b t → Passes a b (pick test s t)
unfolding pick
either true p q = p
either false p q = q

-- ---- lines

digits_pass : (ds : List ℕ) → all_digits_of ds ≡ true → Passes false false ds
unfolding from_all_of ◌∧?◌ pick
digits_pass [] h = nothing
digits_pass (d ∷ ds) h =
    let k = head_digit d ds h in
    record { passed = λ r. rw (no= {a = d} {b = LF} (λ e. omega (arith, k.0))) ((digits_pass ds k.2).passed r) }

number_passes : (w n : ℕ) → Passes false false (padded w n)
number_passes w n = digits_pass (padded w n) (all_padded w n)

height_passes : (z : ℤ) → Passes false false (signed 1 z)
unfolding signed from_all_of ◌=?◌ ◌∧?◌ pick
height_passes (pos n) = number_passes 1 n
height_passes (negsuc n) = record { passed = (number_passes 0 _).passed }

lf_passes : Passes false true (LF ∷ [])
unfolding from_all_of ◌=?◌ ◌∧?◌ pick
lf_passes = record { passed = λ r. refl }

module _ {a : Bool} {ws : List ℕ} (p : Passes a false ws) where
  number_line_lem : (n : ℕ) → Passes a true (number_line ws n)
  unfolding number_line
  number_line_lem n = then p (then (number_passes 1 n) lf_passes)

  none_line_lem : Passes a true (none_line ws)
  unfolding none_line from_all_of spelt spelt_from ◌=?◌ ◌∧?◌ pick
  none_line_lem = then p (then (said (spelt " none") (λ r. refl)) lf_passes)

height_line_lem : {a : Bool} {ws : List ℕ} → Passes a false ws → (z : ℤ) (place : ℕ) →
    Passes a true (height_line ws (signed 1 z) (at_place_of place))
unfolding height_line at_place_of from_all_of spelt spelt_from ◌=?◌ ◌∧?◌ pick
height_line_lem p z place = then p (then (height_passes z) (number_line_lem (said (spelt " at ") (λ r. refl)) place))

answer_lines_lem : (i : ℕ) (ns : List ℕ) → Passes true true (answer_lines i ns)
unfolding answer_lines answer_line from_all_of starts_with spelt spelt_from ◌=?◌ ◌∧?◌ pick
answer_lines_lem i [] = nothing
answer_lines_lem i (n ∷ ns) =
    then
    (either (n =? 0) nothing
    (then (said (spelt "answer ") (λ r. refl))
    (then (number_passes 1 i) (number_line_lem (said (spelt " ") (λ r. refl)) n))))
    (answer_lines_lem (i + 1) ns)

module _ {P : Type 0} {line : List ℕ → P → List ℕ} {datum : List ℕ}
    (lines : (ws : List ℕ) → Passes true false ws → (p : P) → Passes true true (line ws p))
    (d : Passes true false datum) where
  range_lines_lem : (x : Range P) → Passes true true (range_lines line datum x)
  unfolding range_lines from_all_of spelt spelt_from ◌=?◌ ◌∧?◌ pick
  range_lines_lem none = none_line_lem d
  range_lines_lem (between high low) =
      then (lines _ (then d (said (spelt " high ") (λ r. refl))) high)
      (lines _ (then d (said (spelt " low ") (λ r. refl))) low)

time_lines_lem : (x : Range ℕ) → Passes true true (time_lines x)
unfolding time_lines from_all_of starts_with spelt spelt_from ◌=?◌ ◌∧?◌ pick
time_lines_lem none = none_line_lem (said (spelt "time") (λ r. refl))
time_lines_lem (between latest earliest) =
    then (number_line_lem (said (spelt "time first ") (λ r. refl)) earliest)
    (number_line_lem (said (spelt "time last ") (λ r. refl)) latest)

-- ---- blocks

log_text_lem : (n : ℕ) (f : Figures PressurePeak GpsPeak) → Passes true true (log_text n f)
unfolding log_text figure_lines count_lines pressure_peak_line gps_peak_line from_all_of starts_with spelt spelt_from ◌=?◌ ◌∧?◌ pick
log_text_lem n f =
    then (number_line_lem (said (spelt "log ") (λ r. refl)) n)
    (then
    (then (number_line_lem (said (spelt "lines ") (λ r. refl)) f.lines)
    (then (answer_lines_lem 0 f.answers) (number_line_lem (said (spelt "fixes ") (λ r. refl)) f.fixes)))
    (then
    (range_lines_lem (λ _ w p. height_line_lem w p.height.0 p.place) (said (spelt "pressure") (λ r. refl))
    f.pressure)
    (then
    (range_lines_lem (λ _ w p. height_line_lem w p.height.0 p.place) (said (spelt "gps") (λ r. refl)) f.gps)
    (time_lines_lem f.times))))

pub log_texts_lem : (n : ℕ) (fs : List (Figures PressurePeak GpsPeak)) → Passes true true (log_texts n fs)
unfolding log_texts
log_texts_lem n [] = nothing
log_texts_lem n (f ∷ fs) = then (log_text_lem n f) (log_texts_lem (n + 1) fs)

-- The sheet of a season: a block of lines for each log, and one for all of them. Numbers are in plain decimal.
use Rattle.span.specs.Spot.{GpsSpot, PressureSpot}
use Rattle.report.specs.Peak.{GpsPeak, PressurePeak}
use Rattle.std.specs.Prelude.{◌+◌, ◌∷◌, ◌++◌}
use Rattle.text.specs.Prelude.{ℕ, List, [], pick, ◌=?◌, LF, padded}
use Rattle.b_record.specs.BRecord.{pressure_text, gps_text}
use Rattle.report.specs.Range.{Range, none, between}
use Rattle.report.specs.Figures.{Figures}
use Rattle.total.specs.Total.{Totals}
use Rattle.text.specs.Spelt.{spelt}

-- ---- lines

-- A number behind its words, closed by LF.
unfoldable pub number_line : List ℕ → ℕ → List ℕ
number_line words n = words ++ (padded 1 n ++ (LF ∷ []))

-- That there is none of something.
unfoldable pub none_line : List ℕ → List ℕ
none_line words = words ++ (spelt " none" ++ (LF ∷ []))

-- How many lines have the answer i, where some have.
unfoldable pub answer_line : ℕ → ℕ → List ℕ
answer_line i n = pick (n =? 0) [] (spelt "answer " ++ (padded 1 i ++ number_line (spelt " ") n))

-- How many lines have each answer, the first of these being the answer i.
unfoldable pub answer_lines : ℕ → List ℕ → List ℕ
answer_lines i [] = []
answer_lines i (n ∷ ns) = answer_line i n ++ answer_lines (i + 1) ns

-- The earliest time and then the latest.
unfoldable pub time_lines : Range ℕ → List ℕ
time_lines none = none_line (spelt "time")
time_lines (between latest earliest) =
    number_line (spelt "time first ") earliest ++ number_line (spelt "time last ") latest

-- A place in a log: its byte offset.
unfoldable pub at_place_of : ℕ → List ℕ
at_place_of p = number_line (spelt " at ") p

-- A place in one of some logs: log number and byte offset.
unfoldable pub at_spot : ℕ → ℕ → List ℕ
at_spot log p = spelt " at " ++ (padded 1 log ++ number_line (spelt ":") p)

-- A height and its place behind their words.
unfoldable pub height_line : List ℕ → List ℕ → List ℕ → List ℕ
height_line words height place = words ++ (height ++ place)

-- The highest of a datum and then the lowest, each in its line.
unfoldable pub range_lines : {P : Type 0} → (List ℕ → P → List ℕ) → List ℕ → Range P → List ℕ
range_lines line datum none = none_line datum
range_lines line datum (between high low) = line (datum ++ spelt " high ") high ++ line (datum ++ spelt " low ") low

-- ---- heights

-- A pressure height of a log.
unfoldable pub pressure_peak_line : List ℕ → PressurePeak → List ℕ
pressure_peak_line words p = height_line words (pressure_text 1 p.height) (at_place_of p.place)

-- A GPS height of a log.
unfoldable pub gps_peak_line : List ℕ → GpsPeak → List ℕ
gps_peak_line words p = height_line words (gps_text 1 p.height) (at_place_of p.place)

-- A pressure height of all logs.
unfoldable pub pressure_spot_line : List ℕ → PressureSpot → List ℕ
pressure_spot_line words p = height_line words (pressure_text 1 p.height) (at_spot p.log p.place)

-- A GPS height of all logs.
unfoldable pub gps_spot_line : List ℕ → GpsSpot → List ℕ
gps_spot_line words p = height_line words (gps_text 1 p.height) (at_spot p.log p.place)

-- ---- blocks

-- How many lines, lines by answer, and accepted B lines.
unfoldable pub count_lines : ℕ → List ℕ → ℕ → List ℕ
count_lines lines answers fixes =
    number_line (spelt "lines ") lines ++ (answer_lines 0 answers ++ number_line (spelt "fixes ") fixes)

-- All figures, heights in lines of their own datum.
unfoldable pub figure_lines : {P G : Type 0} → (List ℕ → P → List ℕ) → (List ℕ → G → List ℕ) → Figures P G → List ℕ
figure_lines lineP lineG f =
    count_lines f.lines f.answers f.fixes
    ++ (range_lines lineP (spelt "pressure") f.pressure
    ++ (range_lines lineG (spelt "gps") f.gps ++ time_lines f.times))

-- The block of the log n.
unfoldable pub log_text : ℕ → Figures PressurePeak GpsPeak → List ℕ
log_text n f = number_line (spelt "log ") n ++ figure_lines pressure_peak_line gps_peak_line f

-- The block of all logs, behind their number.
unfoldable pub all_text : Totals → List ℕ
all_text t = number_line (spelt "all ") t.logs ++ figure_lines pressure_spot_line gps_spot_line t.figures

-- Where a refusal with 3 points: on the columns of the field that was refused, and so inside the line.
use Rattle.std.specs.Prelude.{◌≤◌, ◌<◌, ◌≡◌}
use Rattle.text.specs.Prelude.{ℕ, List, length, Res, no, columns, read_nat_of, read_int_of, largest}
use Rattle.text.specs.declared.refusal.Refusal.TheVariants.{UnreadableNumber}
use Rattle.date.specs.Date.{read_date}
use Rattle.time.specs.Time.{read_time_of}
use Rattle.coord.specs.Coord.{read_latitude, read_longitude}
use Rattle.position.specs.Position.{read_position}
use Rattle.satellites.specs.Satellites.{read_satellites}
use Rattle.extension.specs.Extension.{read_extension}
use Rattle.records.specs.Record.{read_line_of}

-- The place that the answer m may carry lies from column a on, and before column b.
abbrev pub PointsIn : {A : Type 0} → ℕ → ℕ → Res A → Type 0
PointsIn a b m = (place : ℕ) → m ≡ no (UnreadableNumber place) → (a ≤ place) × (place < b)

-- A reader points into its own text, where this has a byte and 64 bits count them.
abbrev pub Points : {A : Type 0} → (List ℕ → Res A) → Type 0
Points read = (s : List ℕ) → 1 ≤ length s → length s ≤ largest → PointsIn 0 (length s) (read s)

-- Each reader points so, and in columns of a longer text it points on these columns.
pub record Placed : Type 1 where
  pub on_columns : {A : Type 0} (read : List ℕ → Res A) → Points read → (a b : ℕ) (s : List ℕ) →
      a < b → b ≤ length s → length s ≤ largest → PointsIn a b (columns a b read s)
  pub nat : (most : ℕ) → Points (read_nat_of most)
  pub int : (most : ℕ) → Points (read_int_of most)
  pub time : Points read_time_of
  pub date : Points read_date
  pub latitude : Points read_latitude
  pub longitude : Points read_longitude
  pub position : Points read_position
  pub satellites : Points read_satellites
  pub definition : Points read_extension
  pub line : Points read_line_of

-- Reading a block undoes printing it.
use Rattle.span.specs.Spot.{GpsSpot, PressureSpot}
use Rattle.std.specs.Prelude.{◌≤◌, ◌≡◌, ◌++◌}
use Rattle.text.specs.Prelude.{ℕ, true, List, length, ℤ, pos, negsuc, largest}
use Rattle.report.specs.Counts.{numbers}
use Rattle.total.specs.Total.{Totals, total_fits}
use Rattle.total.specs.Laws.{OfBoth}
use Rattle.sheet_text.specs.Sheet.{all_text}
use Rattle.block_read.specs.Read.{got}
use Rattle.block_read.specs.Block.{read_all}

-- A height of 16 bits.
abbrev pub Height : ℤ → Type 0
Height (pos n) = n ≤ 32767
Height (negsuc n) = n ≤ 32767

-- Its numbers fit their fields.
pub record PressureFits (s : PressureSpot) : Type 0 where
  pub log : s.log ≤ largest
  pub place : s.place ≤ largest
  pub height : Height s.height.0

-- Its numbers fit their fields.
pub record GpsFits (s : GpsSpot) : Type 0 where
  pub log : s.log ≤ largest
  pub place : s.place ≤ largest
  pub height : Height s.height.0

-- A total as the code holds it: every number fits its field, and there is a count for each answer.
pub record InFields (t : Totals) : Type 0 where
  pub counts : total_fits t ≡ true
  pub answers : length t.figures.answers ≡ numbers
  pub pressure : OfBoth PressureFits t.figures.pressure
  pub gps : OfBoth GpsFits t.figures.gps
  pub times : OfBoth (λ n. n ≤ 4294967295) t.figures.times

pub record ReadsBack : Type 0 where
  -- What was printed gives the total, whatever stands behind it.
  pub reads : (t : Totals) (r : List ℕ) → InFields t → read_all (all_text t ++ r) ≡ got t r
  -- What was read is what the total prints, and no other text is read as a total.
  pub printed : (s : List ℕ) (t : Totals) (r : List ℕ) → read_all s ≡ got t r → s ≡ all_text t ++ r
  pub fields : (s : List ℕ) (t : Totals) (r : List ℕ) → read_all s ≡ got t r → InFields t

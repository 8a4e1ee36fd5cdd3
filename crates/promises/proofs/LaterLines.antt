-- Lines after the last point do not matter.
use Rattle.text.specs.Prelude.{ℕ, zero, suc, ◌+◌, ◌≡◌, true, List, [], ◌∷◌, ◌++◌, map, length, pos, negsuc}
use Rattle.text.specs.Prelude.{pick}
use Rattle.text.proofs.Prelude.{arith, refl, never, by_test}
use Rattle.igc_log.specs.Line.{line_text}
use Rattle.igc_log.specs.Log.{chunks, closed, read_from, readings}
use Rattle.igc_log.proofs.Chunks.{chunks_append}
use Rattle.held.specs.Tables.{tables_after}
use Rattle.held.specs.declared.tables.Tables.{Tables}
use Rattle.walk.specs.Readings.{reader}
use Rattle.task_line.specs.Lines.{TaskLine, declaration, point, other, task_lines}
use Rattle.task_line.proofs.Seeing.{seen, alike}
use Rattle.task_text.specs.Points.{points_text}
use Rattle.task.specs.Sheet.{Task, missing, declared, first_declaration, are_points_of, sheet, sheet_from, sheet_after}
use Rattle.task.specs.Sheet.{sheet_of}
use Rattle.promises.specs.TaskSheets.{LaterLines}

-- whole lines and then others are seen one after the other
seen_append : (n p : ℕ) (t : Tables) (cs ds : List (List ℕ)) →
    map seen (read_from reader n p t (cs ++ ds))
    ≡ map seen (read_from reader n p t cs) ++ map seen (read_from reader 0 0 reader.start ds)
unfolding read_from
seen_append n p t [] ds = alike n 0 p 0 t reader.start ds
seen_append n p t (c ∷ cs) ds = rw (seen_append (n + 1) (p + length c) (tables_after t (line_text c)) cs ds)

lines_append : (log more : List ℕ) → closed log ≡ true → task_lines (log ++ more) ≡ task_lines log ++ task_lines more
unfolding task_lines readings
lines_append log more h =
    rw (chunks_append log more h) (seen_append 0 0 reader.start (chunks log) (chunks more))

-- the task with more lines behind it
grown : Task → List TaskLine → Task
grown missing ls = first_declaration ls
grown (declared count later) ls = declared count (later ++ ls)

first_grown : (ls more : List TaskLine) → first_declaration (ls ++ more) ≡ grown (first_declaration ls) more
unfolding first_declaration grown
first_grown [] more = refl
first_grown (declaration count ∷ ls) more = refl
first_grown (point r l ∷ ls) more = first_grown ls more
first_grown (other ∷ ls) more = first_grown ls more

module _ (labels : List ℕ) (more : List TaskLine) where
  -- points stay points, and keep their text
  same_points : (n k : ℕ) (ls : List TaskLine) → are_points_of k ls ≡ true →
      (are_points_of k (ls ++ more) ≡ true) × (points_text labels n k (ls ++ more) ≡ points_text labels n k ls)
  unfolding are_points_of points_text
  same_points n zero ls h = (refl, refl)
  same_points n (suc k) [] h = never h refl
  same_points n (suc k) (declaration count ∷ ls) h = never h refl
  same_points n (suc k) (point r l ∷ ls) h = let s = same_points (n + 1) k ls h in (s.0, rw s.1)
  same_points n (suc k) (other ∷ ls) h = never h refl

  same_sheet : (k : ℕ) (ls : List TaskLine) {t : List ℕ} → sheet_from labels k ls ≡ sheet t →
      sheet_from labels k (ls ++ more) ≡ sheet t
  unfolding sheet_from pick
  same_sheet k ls {t} e =
      by_test (are_points_of k ls)
      (λ p. let s = same_points 1 k ls p in rw (s.0, s.1) (rw p at e))
      (λ p. let no = rw p at e in let z : ◌≡◌ {A = ℕ} 0 1 = cc in absurd (omega arith))

  grown_sheet : (m : Task) {t : List ℕ} → sheet_after labels m ≡ sheet t → sheet_after labels (grown m more) ≡ sheet t
  unfolding sheet_after grown
  grown_sheet missing e = let z : ◌≡◌ {A = ℕ} 0 1 = cc in absurd (omega arith)
  grown_sheet (declared (pos n) later) e = same_sheet (n + 4) later e
  grown_sheet (declared (negsuc n) later) e = let z : ◌≡◌ {A = ℕ} 0 1 = cc in absurd (omega arith)

pub later_lines : LaterLines
unfolding sheet_of
later_lines log more labels t h e =
    rw (lines_append log more h, first_grown (task_lines log) (task_lines more)) (grown_sheet labels (task_lines more) _ e)

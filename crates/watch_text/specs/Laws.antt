-- Whatever the pieces of a log were, what is written for them is the text of the whole log; and what its lines raise is
-- said by the reports of the lines before them.
use Rattle.std.specs.Prelude.{◌+◌, ◌≤◌, ◌≡◌, ◌∷◌, ◌++◌}
use Rattle.text.specs.Prelude.{ℕ, true, List, [], length, take, drop, largest}
use Rattle.igc_log.specs.Log.{readings}
use Rattle.igc_log.specs.Pieces.{joined, Whole}
use Rattle.report.specs.Report.{report_of}
use Rattle.watch_text.specs.Watch.{WatchReading, watcher, risen, watch_text_of}
use Rattle.watch_text.specs.Feed.{view, at_first_of, is_ready_of, Watches}
use Rattle.watch_text.specs.declared.{Watch.Watch, Watched.Watched}

-- Calls one after the other, from w to w': the bytes that were taken at each, and the texts, in a row.
pub data Rows : Watch → List (List ℕ) → Watch → List ℕ → Type 0 where
  none : {w : Watch} → Rows w [] w []
  next : {w w' : Watch} {t : List ℕ} {ps : List (List ℕ)} (s b b' : List ℕ) (r : Watched) → Watches w s b b' r →
      Rows r.watch ps w' t → Rows w (take r.taken s ∷ ps) w' (take r.end b' ++ t)

-- What calls in a row write, whatever the pieces, is the text of the whole log.
pub record InPieces : Type 0 where
  pub whole : {w w' : Watch} {ps : List (List ℕ)} {t : List ℕ} → view w ≡ at_first_of →
      Rows w ps w' t → Whole ps → t ≡ watch_text_of (joined ps)
  -- Counts pass 64 bits of no log that has fewer than 2 ^ 64 bytes.
  pub at_first : (n : ℕ) → n ≤ largest → is_ready_of at_first_of n ≡ true
  pub later : (w : Watch) (s b b' : List ℕ) (r : Watched) (n : ℕ) → Watches w s b b' r →
      is_ready_of (view w) (r.taken + n) ≡ true → is_ready_of (view r.watch) n ≡ true

-- Line k + 1 of a log holds the report of the first k + 1 readings, and raises what stands higher in it than in the
-- report of the first k.
pub record Rises : Type 0 where
  pub at_line : (log : List ℕ) (k : ℕ) (x : WatchReading) (later : List WatchReading) → length log ≤ largest →
      let xs = readings watcher log in
      drop k xs ≡ x ∷ later →
      (x.number ≡ k + 1) × (x.held ≡ risen (report_of (take k xs)) (report_of (take (k + 1) xs)))

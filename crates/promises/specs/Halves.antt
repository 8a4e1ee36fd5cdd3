-- Adding up halves: totals that are joined, and the sheets that carry them from desk to desk.
use Rattle.report.specs.Peak.{GpsPeak, PressurePeak}
use Rattle.std.specs.Prelude.{◌≡◌, ◌++◌}
use Rattle.text.specs.Prelude.{ℕ, List, pick}
use Rattle.report.specs.Figures.{Figures}
use Rattle.total.specs.Total.{Totals, Logs, total_of, no_logs, total_fits, join_of, given, refused, join_res}
use Rattle.total.specs.Joins.{Fitting, left_first, right_first, apart_a, apart_b, apart_c}
use Rattle.total.specs.Laws.{Sound}
use Rattle.sheet_text.specs.Sheet.{all_text}
use Rattle.block_read.specs.Read.{got}
use Rattle.block_read.specs.Block.{read_all}
use Rattle.block_read.specs.Laws.{InFields}
use Rattle.sheet_read.specs.Sheet.{whole, read_sheet_of}
use Rattle.sheet_read.specs.Laws.{log_texts}

pub record Halves : Type 1 where
  -- Joining is associative: where the first two and then the third fit, so do the last two and then the first, and it
  -- is the same total. So of all totals, those built by hand too.
  pub associative : (a b c t : Totals) → left_first a b c ≡ given t → right_first a b c ≡ given t
  -- Where the heights of the second and third stand in their own logs, as those of every total of logs do, one side is
  -- refused exactly where the other is.
  pub refused_alike : (a b c : Totals) → Sound b → Sound c → left_first a b c ≡ right_first a b c
  pub sound : {T : Type 0} (logs : Logs T) → Sound (total_of logs)
  -- Without that the left side may be refused and the right one given: here a log number does not fit that loses to an
  -- equal height.
  pub refused_apart :
      (left_first apart_a apart_b apart_c ≡ refused 21) ×
      (right_first apart_a apart_b apart_c ≡ given (join_of apart_a (join_of apart_b apart_c)))
  -- The empty total changes nothing on either side.
  pub empty_left : (t : Totals) → Fitting t → join_res no_logs t ≡ given t
  pub empty_right : (t : Totals) → Fitting t → join_res t no_logs ≡ given t
  -- The joined total of two lists of logs is the total of the one list followed by the other; 21 exactly where that
  -- does not fit.
  pub followed : {T : Type 0} (a b : Logs T) →
      join_res (total_of a) (total_of b) ≡ pick (total_fits (total_of (a ++ b))) (given (total_of (a ++ b))) (refused 21)
  -- Reading what was printed gives the total, and nothing else is read as one.
  pub reads : (t : Totals) (r : List ℕ) → InFields t → read_all (all_text t ++ r) ≡ got t r
  pub printed : (s : List ℕ) (t : Totals) (r : List ℕ) → read_all s ≡ got t r → s ≡ all_text t ++ r
  -- A season's sheet is read as its total, whatever blocks of logs stand in it; so is its last block by itself.
  pub sheet : (n : ℕ) (fs : List (Figures PressurePeak GpsPeak)) (t : Totals) → InFields t →
      read_sheet_of (log_texts n fs ++ all_text t) ≡ whole t

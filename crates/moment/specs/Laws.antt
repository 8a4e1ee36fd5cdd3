-- The log's own index answers as the plain walk does.
use Rattle.text.specs.Prelude.{Some}
use Rattle.std.specs.Prelude.{◌≤◌, ◌≡◌}
use Rattle.text.specs.Prelude.{ℕ, List, length, Res, ok}
use Rattle.time.specs.Time.{time_of}
use Rattle.time.specs.declared.Time.{Time}
use Rattle.moment_fix.specs.declared.Moment.{Moment}
use Rattle.hours.specs.Hours.{held_for}
use Rattle.hours.specs.declared.{Index.Index}
use Rattle.moment.specs.Moment.{index_of, by_index, by_walk}

pub record Moments : Type 0 where
  -- For every log and every time, also one that is refused: the first fix with that hour, minute and second in the
  -- whole log is found by the log's own index, wherever the fixes of that hour stand.
  pub own_index : (log : List ℕ) (h m s : ℕ) → by_index (index_of log) log (time_of h m s) ≡ by_walk log (time_of h m s)
  -- And so it does for whatever gives a time of an hour 0 to 24, or refuses.
  pub own_hour : (log : List ℕ) (m : Res Time) → ((t : Time) → m ≡ ok t → t.hours ≤ 24) →
      by_index (index_of log) log m ≡ by_walk log m
  -- With another log: a place past its end finds nothing,
  pub past_end : (i : Index) (log : List ℕ) (t : Time) (p : ℕ) → held_for i t.hours ≡ Some p → length log ≤ p →
      by_index i log (ok t) ≡ Moment.NoSuchFix
  -- and from its start the search is the plain walk.
  pub from_start : (i : Index) (log : List ℕ) (t : Time) → held_for i t.hours ≡ Some 0 →
      by_index i log (ok t) ≡ by_walk log (ok t)

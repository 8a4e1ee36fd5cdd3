-- What is written of a piece of a log that is watched, and what is carried on.
use Rattle.std.specs.Prelude.{◌+◌, ◌≡◌}
use Rattle.text.specs.Prelude.{ℕ, Bool, true, false, List, length, ◌≤?◌, ◌∧?◌, largest}
use Rattle.igc_log.specs.Fold as fold
use Rattle.igc_log.specs.Taking.{Took}
use Rattle.report.specs.Report.{figures_in}
use Rattle.watch_text.specs.Watch.{Running, WatchReading, watcher, watch_line_of}
use Rattle.watch_text.specs.declared.{Watch.Watch, Watched.Watched}

-- What the code holds of the lines before.
abbrev pub running_in : Watch → Running
running_in w = record { report = figures_in w.report; pressure = w.pressure; gps = w.gps }

-- Of a line nothing is made beside what is held.
abbrev pub Nothing : Type 0
Nothing = Unit

abbrev pub no_step : Nothing → WatchReading → Nothing
no_step a x = tt

-- The same as every fold carries it.
abbrev pub view : Watch → fold.Carried Running Nothing
view w = record { number = w.at.number; place = w.at.place; held = running_in w; made = tt }

-- Before the first piece.
abbrev pub at_first_of : fold.Carried Running Nothing
at_first_of = fold.fresh watcher tt

-- Neither the place nor the number passes 64 bits over n bytes more.
unfoldable pub is_ready_of : fold.Carried Running Nothing → ℕ → Bool
is_ready_of c n = (c.place + n ≤? largest) ∧? (c.number + n ≤? largest)

-- Of a piece s lines are taken into the lent bytes while their text has room; where a count would pass 64 bits, none.
abbrev pub WatchedOf : Bool → Watch → List ℕ → List ℕ → List ℕ → Watched → Type 0
WatchedOf true w s b b' r =
    Took watcher no_step watch_line_of (view w) s b b' (view r.watch) r.taken r.end
WatchedOf false w s b b' r = (r ≡ record { watch = w; taken = 0; end = 0 }) × (b' ≡ b)

-- A call takes lines where they are ready, and else none.
abbrev pub Watches : Watch → List ℕ → List ℕ → List ℕ → Watched → Type 0
Watches w s b b' r = WatchedOf (is_ready_of (view w) (length s)) w s b b' r

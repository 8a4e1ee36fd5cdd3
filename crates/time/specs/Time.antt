-- Times: HHMMSS.
use Rattle.std.specs.Prelude.{◌+◌, ◌*◌}
use Rattle.text.specs.Prelude.{ℕ, Bool, List, Res, ok, guard, ◌≤?◌, ◌∧?◌}
use Rattle.text.specs.declared.refusal.Refusal.TheVariants.{OutOfRange}
use Rattle.field.specs.Field.{sized, field}
use Rattle.three.specs.Three.{read_three_of, three_text}
use Rattle.time.specs.declared.{Time.Time}

-- Hours at most 24, minutes and seconds at most 60; 4 else.
unfoldable pub time_of : ℕ → ℕ → ℕ → Res Time
time_of h m s =
    guard ((h ≤? 24) ∧? (m ≤? 60) ∧? (s ≤? 60)) OutOfRange
    (ok (record { hours = h; minutes = m; seconds = s }))

-- A time of six characters.
unfoldable pub read_time_of : List ℕ → Res Time
read_time_of = field 6 (read_three_of time_of)

-- The same in a text that is known to be ASCII.
unfoldable pub time_in : List ℕ → Res Time
time_in = sized 6 (read_three_of time_of)

-- Hours, minutes and seconds, in width 2 each.
unfoldable pub time_text : Time → List ℕ
time_text t = three_text t.hours t.minutes t.seconds

-- Seconds since midnight, of any three numbers.
unfoldable pub seconds_of_lem : Time → ℕ
seconds_of_lem t = t.hours * 3600 + t.minutes * 60 + t.seconds

-- By the book: hours at most 23, minutes and seconds at most 59.
unfoldable pub time_book : Time → Bool
time_book t = (t.hours ≤? 23) ∧? (t.minutes ≤? 59) ∧? (t.seconds ≤? 59)

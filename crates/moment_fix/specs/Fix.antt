-- What a moment asks of a fix, its hours and whether it has the time; and the number of the answer.
use Rattle.b_record.specs.declared.BRecord.{BRecord}
use Rattle.text.specs.Prelude.{None, Option, Some}
use Rattle.text.specs.Prelude.{ℕ, Bool, pick, number_of, ◌=?◌, ◌∧?◌}
use Rattle.time.specs.declared.Time.{Time}
use Rattle.moment_fix.specs.declared.Moment.{Moment}

-- The hours of a fix; of a line that is none 25.
unfoldable pub hour_of_lem : Option BRecord → ℕ
hour_of_lem (Some b) = b.timestamp.hours
hour_of_lem None = 25

-- Hours, minutes and seconds are the same.
unfoldable pub same_time_of : Time → Time → Bool
same_time_of a b = (a.hours =? b.hours) ∧? (a.minutes =? b.minutes) ∧? (a.seconds =? b.seconds)

-- A fix, marked A or V, if it has that time.
unfoldable pub with_time_of : Time → Option BRecord → Option BRecord
with_time_of t (Some b) = pick (same_time_of b.timestamp t) (Some b) None
with_time_of t None = None

-- 0, the number of the time's refusal (4 of `from_hms`), or 19 no such fix.
unfoldable pub moment_number : Moment → ℕ
moment_number (Moment.Found p b) = 0
moment_number Moment.NoSuchFix = 19
moment_number (Moment.Refused n) = number_of n

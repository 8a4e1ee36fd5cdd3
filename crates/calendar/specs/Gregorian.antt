-- The Gregorian calendar by its full rules, and that the days of a month are those of 1980 to 2079.
use Rattle.std.specs.Prelude.{◌+◌, ◌%◌, ◌≤◌, ◌≡◌}
use Rattle.text.specs.Prelude.{ℕ, Bool, not, pick, ◌≤?◌, ◌=?◌, ◌∧?◌, ◌∨?◌}
use Rattle.calendar.specs.Days.{days_in_of}

-- Every fourth year is a leap year; of the years that a hundred divides only those that four hundred divides.
unfoldable pub leap : ℕ → Bool
leap year = (year % 4 =? 0) ∧? (not (year % 100 =? 0) ∨? (year % 400 =? 0))

-- Thirty days have April, June, September and November; February has 28, in leap years 29; all the others have 31.
unfoldable pub gregorian : ℕ → ℕ → ℕ
gregorian m year =
    pick ((m =? 4) ∨? (m =? 6) ∨? (m =? 9) ∨? (m =? 11)) 30
    (pick (m =? 2) (pick (leap year) 29 28) 31)

-- The year that two digits stand for.
unfoldable pub full_year : ℕ → ℕ
full_year y = pick (80 ≤? y) (1900 + y) (2000 + y)

-- The days of each month, from 1980 to 2079, are the calendar's.
abbrev pub DaysOfTheCalendar : Type 0
DaysOfTheCalendar = (m y : ℕ) → 1 ≤ m → m ≤ 12 → y ≤ 99 → days_in_of m y ≡ gregorian m (full_year y)

-- There are twelve months: outside them no day exists.
abbrev pub NoOtherMonth : Type 0
NoOtherMonth = (y : ℕ) → (days_in_of 0 y ≡ 0) × ((m : ℕ) → 13 ≤ m → days_in_of m y ≡ 0)

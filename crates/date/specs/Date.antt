-- Dates: DDMMYY.
use Rattle.text.specs.Prelude.{ℕ, Bool, List, Res, ok, guard, ◌≤?◌, ◌∧?◌}
use Rattle.text.specs.declared.refusal.Refusal.TheVariants.{OutOfRange}
use Rattle.field.specs.Field.{sized, field}
use Rattle.calendar.specs.Days.{days_in_of}
use Rattle.three.specs.Three.{read_three_of, three_text}
use Rattle.date.specs.declared.{Date.Date}

-- Day at most 31, month at most 12, zero passes; 4 else.
unfoldable pub date_of : ℕ → ℕ → ℕ → Res Date
date_of d m y =
    guard ((d ≤? 31) ∧? (m ≤? 12)) OutOfRange
    (ok (record { day = d; month = m; year = y }))

-- A date of six characters.
unfoldable pub read_date : List ℕ → Res Date
read_date = field 6 (read_three_of date_of)

-- The same in a text that is known to be ASCII.
unfoldable pub date_in : List ℕ → Res Date
date_in = sized 6 (read_three_of date_of)

-- A day of 1 to 31, and a month of 1 to 12.
unfoldable pub dated : ℕ → ℕ → Bool
dated d m = (1 ≤? d) ∧? (d ≤? 31) ∧? (1 ≤? m) ∧? (m ≤? 12)

-- Such a day, and a year of at most 99; 4 else.
unfoldable pub new_date : ℕ → ℕ → ℕ → Res Date
new_date d m y =
    guard (dated d m ∧? (y ≤? 99)) OutOfRange
    (ok (record { day = d; month = m; year = y }))

-- Day, month and year, in width 2 each.
unfoldable pub date_text : Date → List ℕ
date_text d = three_text d.day d.month d.year

-- By the book: a year of two digits, and a day that exists in its month.
unfoldable pub date_book : Date → Bool
date_book d = (d.year ≤? 99) ∧? (1 ≤? d.day) ∧? (d.day ≤? days_in_of d.month d.year)

-- C lines: which of them is a turnpoint's, and a task's declaration.
use Rattle.date.specs.declared.Date.{Date}
use Rattle.text.specs.Prelude.{None, Option, Some}
use Rattle.std.specs.Prelude.{◌∷◌, ◌++◌}
use Rattle.text.specs.Prelude.{ℕ, code, Bool, true, List, [], length, replicate, Res, ok, bind, guard}
use Rattle.text.specs.Prelude.{pick, ◌≤?◌, ◌=?◌, ◌∧?◌, ◌∨?◌, byte, cut, columns, read_nat_of, read_int_of, zeros, padded}
use Rattle.text.specs.Prelude.{signed}
use Rattle.part.specs.Part.{name_from, maybe_text, maybe_bytes}
use Rattle.text.specs.declared.refusal.Refusal.TheVariants.{Syntax}
use Rattle.field.specs.Field.{ascii_in}
use Rattle.time.specs.Time.{read_time_of, time_text, time_book}
use Rattle.date.specs.Date.{read_date, date_text, date_book}
use Rattle.c_record.specs.declared.{Task.Task}
use Rattle.c_record.specs.declared.{CRecordDeclaration.CRecordDeclaration}

-- N or S at column 8 makes a turnpoint.
unfoldable pub turns : List ℕ → Bool
turns s = (byte 8 s =? code "N") ∨? (byte 8 s =? code "S")

-- ---- declarations

-- A flight date; `000000` is none.
unfoldable pub read_flight_of : List ℕ → Res (Option Date)
read_flight_of s = pick (zeros s) (ok None) (bind (read_date s) (λ d. ok (Some d)))

-- Task 19-23, count 23-25.
unfoldable pub read_task_of : List ℕ → Res Task
read_task_of s =
    bind (columns 19 23 (read_nat_of 65535) s) (λ id.
    bind (columns 23 25 (read_int_of 127) s) (λ count.
    ok (record { id = id; count = count })))

-- 25 bytes (1), the first C (1), those ASCII (2), date 1-7, time 7-13, flight date 13-19, task, count, name; an empty
-- name is none.
unfoldable pub read_declaration : List ℕ → Res CRecordDeclaration
read_declaration s =
    guard (25 ≤? length s) Syntax
    (guard (byte 0 s =? code "C") Syntax
    (ascii_in (cut 0 25 s)
    (bind (columns 1 7 read_date s) (λ date.
    bind (columns 7 13 read_time_of s) (λ time.
    bind (columns 13 19 read_flight_of s) (λ flight.
    bind (read_task_of s) (λ task.
    ok (record {
      date = date;
      time = time;
      flight_date = flight;
      task_id = task.id;
      turnpoint_count = task.count;
      task_name = name_from 25 s;
    }))))))))

-- A flight date; six zeros for none.
unfoldable pub flight_text : Option Date → List ℕ
flight_text None = replicate 6 (code "0")
flight_text (Some d) = date_text d

-- Flight date, task in width 4, count in 2, name.
unfoldable pub task_text : CRecordDeclaration → List ℕ → List ℕ
task_text r name = flight_text r.flight_date
    ++ (padded 4 r.task_id ++ (signed 2 r.turnpoint_count ++ name))

-- The letter, date, time, and these.
unfoldable pub declaration_body : CRecordDeclaration → List ℕ → List ℕ
declaration_body r name = (code "C" ∷ []) ++ (date_text r.date ++ (time_text r.time ++ task_text r name))

-- The same with the parts that the line has; one that lies outside is left out.
abbrev pub declaration_piece : CRecordDeclaration → List ℕ → List ℕ
declaration_piece r s = declaration_body r (maybe_bytes r.task_name s)

-- The text of a declaration beside its line; 9 where the name lies outside.
unfoldable pub declaration_text : CRecordDeclaration → List ℕ → Res (List ℕ)
declaration_text r s = bind (maybe_text r.task_name s) (λ name. ok (declaration_body r name))

-- No flight date passes.
unfoldable pub flight_book : Option Date → Bool
flight_book None = true
flight_book (Some d) = date_book d

-- By the book: its dates and its time are.
unfoldable pub declaration_book : CRecordDeclaration → Bool
declaration_book r = date_book r.date ∧? time_book r.time ∧? flight_book r.flight_date

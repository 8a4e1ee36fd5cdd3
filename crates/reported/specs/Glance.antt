-- What a report wants of the answer to a line.
use Rattle.text.specs.Prelude.{None, Option, Some}
use Rattle.text.specs.Prelude.{ℕ, Bool, true, false, pos, Res, ok, no, number_of}
use Rattle.time.specs.Time.{seconds_of_lem}
use Rattle.table.specs.declared.Table.{Table}
use Rattle.b_record.specs.declared.{BRecord.BRecord, FixValid.FixValid}
use Rattle.records.specs.Record.{answered, answer_fix}
use Rattle.records.specs.declared.{Record.Record}
use Rattle.reported.specs.declared.glance.Glance.{Glance}

-- A fix is marked A.
unfoldable pub is_marked_of : FixValid → Bool
is_marked_of FixValid.Valid = true
is_marked_of FixValid.NavWarning = false

-- Of a line with that answer number that is no fix: nothing else.
unfoldable pub plain_glance : ℕ → Glance
plain_glance n = record {
  seconds = 0;
  pressure = record { 0 = pos 0 };
  gps = record { 0 = pos 0 };
  number = n;
  fix = false;
  marked = false;
}

-- Of a fix: its time, its heights, and whether they count.
unfoldable pub fix_glance : ℕ → BRecord → Glance
fix_glance n b = record {
  seconds = seconds_of_lem b.timestamp;
  pressure = b.pressure_alt;
  gps = b.gps_alt;
  number = n;
  fix = true;
  marked = is_marked_of b.fix_valid;
}

-- Of a line with that answer number, by its fix.
unfoldable pub glance_at : ℕ → Option BRecord → Glance
glance_at n None = plain_glance n
glance_at n (Some b) = fix_glance n b

-- Of an answer.
unfoldable pub glance_of : Res Record → Glance
glance_of m = glance_at (answered m) (answer_fix m)

-- The paper's number of an I or a J line that was read so.
unfoldable pub table_number : Res Table → ℕ
table_number (ok t) = 0
table_number (no n) = number_of n

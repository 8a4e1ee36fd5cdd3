-- A line read and printed comes back, exactly where it is not odd: said through the contracts, so of what the programs
-- do.
use Rattle.std.specs.Prelude.{◌≤◌, ◌<◌, ◌≡◌, ◌++◌}
use Rattle.text.specs.Prelude.{ℕ, true, false, List, length, drop, Res, ok, no, byte}
use Rattle.text.specs.declared.refusal.Refusal.TheVariants.{NoRoom}
use Rattle.print.specs.Print.{Prints}
use Rattle.table.specs.Table.{read_table}
use Rattle.table.specs.declared.Table.{Table}
use Rattle.records.specs.Record.{read_line_of, table_left}
use Rattle.records.specs.declared.Record.{Record}
use Rattle.record_print.specs.Printed.{record_text, reprinted}
use Rattle.promises.specs.Odd.{line_odd, comes_always}
use Rattle.text.specs.Spelt.{spelt}

-- `Record::parse_line` accepted the line s as the record r, and `Table::parse` handed t over for it.
pub record Parsed (s : List ℕ) (r : Record) (t : Table) : Type 0 where
  pub answer : ok r ≡ read_line_of s
  pub table : t ≡ table_left (read_table s)

-- The text m is the line s itself: into bytes that are long enough a printer writes the line; else it answers 10 and
-- changes nothing.
pub record Back (s : List ℕ) (m : Res (List ℕ)) : Type 0 where
  pub text : m ≡ ok s
  pub room : (b b' : List ℕ) (p : Res ℕ) → Prints m b b' p → length s ≤ length b →
      (p ≡ ok (length s)) × (b' ≡ s ++ drop (length s) b)
  pub no_room : (b b' : List ℕ) (p : Res ℕ) → Prints m b b' p → length b < length s →
      (p ≡ no NoRoom) × (b' ≡ b)

-- The record of an accepted line s has the text m.
pub record Reprints (s : List ℕ) (m : Res (List ℕ)) : Type 0 where
  -- There is a text, so printing is never refused with 9 or 5.
  pub printed_accepted : (x : List ℕ) × (m ≡ ok x)
  -- Printed text equals the line unless the line is odd.
  pub back : line_odd s ≡ false → Back s m
  -- An odd line never does.
  pub odd : line_odd s ≡ true → m ≡ ok s → ⊥
  -- H lines always come back, and D, G and L lines too.
  pub always : comes_always (byte 0 s) ≡ true → Back s m

-- `print_record` prints `record_text` of the record, its table and its line.
abbrev pub ComesBack : Type 0
ComesBack = (s : List ℕ) (r : Record) (t : Table) → Parsed s r t → Reprints s (record_text r t s)

-- ---- each exception is needed: accepted lines and what they print as

-- Each exception is needed: a line of it that does not come back.
pub record Needed : Type 0 where
  -- The A line was in letter form.
  pub letter_form_lem : reprinted (spelt "AC00069") ≡ ok (spelt "ACAM00069")
  -- A number was written with `+`: B lines,
  pub time : reprinted (spelt "B10+5304712345N01102500EA0152301561") ≡ ok (spelt "B1005304712345N01102500EA0152301561")
  pub latitude : reprinted (spelt "B101530+712345N01102500EA0152301561")
      ≡ ok (spelt "B1015300712345N01102500EA0152301561")
  pub longitude : reprinted (spelt "B1015304712345N011+2500EA0152301561")
      ≡ ok (spelt "B1015304712345N01102500EA0152301561")
  pub pressure_height : reprinted (spelt "B1015304712345N01102500EA+152301561")
      ≡ ok (spelt "B1015304712345N01102500EA0152301561")
  pub gps_height : reprinted (spelt "B1015304712345N01102500EA01523+1561")
      ≡ ok (spelt "B1015304712345N01102500EA0152301561")
  -- C lines,
  pub turnpoint : reprinted (spelt "C47+2345N01102500E") ≡ ok (spelt "C4702345N01102500E")
  pub date : reprinted (spelt "C+30718092044000000000204") ≡ ok (spelt "C030718092044000000000204")
  pub declaration_time : reprinted (spelt "C230718+92044000000000204") ≡ ok (spelt "C230718092044000000000204")
  pub flight_date : reprinted (spelt "C230718092044+50718000204") ≡ ok (spelt "C230718092044050718000204")
  pub task : reprinted (spelt "C230718092044000000+00204") ≡ ok (spelt "C230718092044000000000204")
  pub count : reprinted (spelt "C2307180920440000000002+4") ≡ ok (spelt "C230718092044000000000204")
  -- I and J lines,
  pub definitions : reprinted (spelt "I+13638FXA") ≡ ok (spelt "I013638FXA")
  pub start : reprinted (spelt "I01+638FXA") ≡ ok (spelt "I010638FXA")
  pub end : reprinted (spelt "J0108+9HDT") ≡ ok (spelt "J010809HDT")
  -- K, E and F lines.
  pub data_time : reprinted (spelt "K10+53000270") ≡ ok (spelt "K10053000270")
  pub event_time : reprinted (spelt "E+10530PEV") ≡ ok (spelt "E010530PEV")
  pub satellites_time : reprinted (spelt "F1015+00607") ≡ ok (spelt "F1015000607")
  -- A height was `-0000`.
  pub pressure_zero : reprinted (spelt "B1015304712345N01102500EA-000001561")
      ≡ ok (spelt "B1015304712345N01102500EA0000001561")
  pub gps_zero : reprinted (spelt "B1015304712345N01102500EA01523-0000")
      ≡ ok (spelt "B1015304712345N01102500EA0152300000")
  -- A count was `-0`.
  pub count_zero : reprinted (spelt "C2307180920440000000002-0") ≡ ok (spelt "C230718092044000000000200")

-- Printing settles at once (K14): the printed text of an accepted line is accepted, its reading has the line's field
-- values and texts, and prints as that text again. All exceptions are seen in the line's bytes.
use Rattle.field.specs.declared.Mnemonic.{Mnemonic}
use Rattle.std.specs.Prelude.{◌+◌, ◌≡◌, ◌∷◌}
use Rattle.text.specs.Prelude.{ℕ, code, Bool, true, false, List, [], take, Res, ok, no, pick, ◌=?◌}
use Rattle.text.specs.Prelude.{◌∧?◌, ◌∨?◌, byte, cut, None, Option, Some}
use Rattle.text.specs.declared.refusal.Refusal.TheVariants.{Syntax}
use Rattle.text.specs.Spelt.{spelt}
use Rattle.part.specs.Part.{bytes_of}
use Rattle.part.specs.declared.Part.{Part}
use Rattle.manufacturer.specs.Maker.{letter_maker, triple_of}
use Rattle.manufacturer.specs.declared.Manufacturer.{Manufacturer}
use Rattle.print.specs.Print.{Prints}
use Rattle.table.specs.Table.{read_table, table_read}
use Rattle.table.specs.declared.Table.{Table}
use Rattle.a_record.specs.ARecord.{a_of, letter_form, read_a}
use Rattle.a_record.specs.declared.ARecord.{ARecord}
use Rattle.c_record.specs.CRecord.{read_flight_of}
use Rattle.c_record.specs.declared.CRecordDeclaration.{CRecordDeclaration}
use Rattle.records.specs.Record.{table_left, read_line_of}
use Rattle.records.specs.declared.Record.{Record}
use Rattle.record_print.specs.Printed.{record_text, reprinted}
use Rattle.promises.specs.Odd.{three_plus}
use Rattle.promises.specs.Back.{Parsed, Back}

-- ---- the exceptions

-- A maker that prints no triple.
unfoldable pub prints_none : Option Mnemonic → Bool
prints_none None = true
prints_none (Some t) = false

-- An A line in letter form with an unknown maker: no maker has its letter.
unfoldable pub unknown_maker : List ℕ → Bool
unknown_maker s =
    (byte 0 s =? code "A") ∧? letter_form s ∧? prints_none (triple_of (letter_maker (byte 1 s)))

-- Two columns that are zero: `00`, or `+0`.
unfoldable pub pair_zero : List ℕ → Bool
pair_zero s = ((byte 0 s =? code "0") ∨? (byte 0 s =? code "+")) ∧? (byte 1 s =? code "0")

-- A flight date, columns 13-19 of a declaration, that is zeros with a plus sign among them.
unfoldable pub plus_zeros : List ℕ → Bool
plus_zeros s =
    three_plus (cut 13 19 s) ∧? pair_zero (cut 13 15 s) ∧? pair_zero (cut 15 17 s) ∧? pair_zero (cut 17 19 s)

-- ---- the second reading

-- A text n columns on.
unfoldable pub moved : ℕ → Part → Part
moved n p = record { start = p.start + n; len = p.len }

unfoldable pub moved_maybe : ℕ → Option Part → Option Part
moved_maybe n None = None
moved_maybe n (Some p) = Some (moved n p)

-- An A line in letter form prints with the three letters of its maker in the place of one, so its texts stand two
-- columns on.
unfoldable pub recorder_again : List ℕ → ARecord → ARecord
recorder_again s r =
    pick (letter_form s)
    (record {
      manufacturer = r.manufacturer;
      unique_id = moved 2 r.unique_id;
      id_extension = moved_maybe 2 r.id_extension;
    })
    r

-- A flight date of zeros with a plus becomes none, and no other field of a declaration changes.
unfoldable pub declaration_again : List ℕ → CRecordDeclaration → CRecordDeclaration
declaration_again s r = record {
  date = r.date;
  time = r.time;
  flight_date = pick (plus_zeros s) None r.flight_date;
  task_id = r.task_id;
  turnpoint_count = r.turnpoint_count;
  task_name = r.task_name;
}

-- What the printed text of the line s, which was read as r, is read as: of every other kind the same record, its texts
-- at the same places.
unfoldable pub read_again : List ℕ → Record → Record
read_again s (Record.A r) = Record.A (recorder_again s r)
read_again s (Record.CDeclaration r) = Record.CDeclaration (declaration_again s r)
read_again s (Record.B r) = Record.B r
read_again s (Record.CTurnpoint r) = Record.CTurnpoint r
read_again s (Record.D r) = Record.D r
read_again s (Record.E r) = Record.E r
read_again s (Record.F r) = Record.F r
read_again s (Record.G r) = Record.G r
read_again s (Record.H r) = Record.H r
read_again s Record.I = Record.I
read_again s Record.J = Record.J
read_again s (Record.K r) = Record.K r
read_again s (Record.L r) = Record.L r
read_again s (Record.Unrecognised p) = Record.Unrecognised p

-- ---- its texts

-- A text that may be missing.
unfoldable pub maybe_one : Option Part → List Part
maybe_one None = []
maybe_one (Some p) = p ∷ []

-- The texts of a record, as parts of its line.
unfoldable pub texts_of : Record → List Part
texts_of (Record.A r) = r.unique_id ∷ maybe_one r.id_extension
texts_of (Record.B r) = r.rest ∷ []
texts_of (Record.CDeclaration r) = maybe_one r.task_name
texts_of (Record.CTurnpoint r) = maybe_one r.turnpoint_name
texts_of (Record.D r) = r.station_id ∷ []
texts_of (Record.E r) = r.mnemonic ∷ maybe_one r.text
texts_of (Record.F r) = r.list ∷ []
texts_of (Record.G r) = r.data ∷ []
texts_of (Record.H r) = r.mnemonic ∷ r.data ∷ maybe_one r.friendly_name
texts_of Record.I = []
texts_of Record.J = []
texts_of (Record.K r) = r.rest ∷ []
texts_of (Record.L r) = r.source ∷ maybe_one r.text
texts_of (Record.Unrecognised p) = p ∷ []

-- The bytes of each.
unfoldable pub bytes_in : List ℕ → List Part → List (List ℕ)
bytes_in s [] = []
bytes_in s (p ∷ ps) = bytes_of p s ∷ bytes_in s ps

-- ---- what is promised

-- The line s, which was read as r, has x for its printed text.
pub record Settles (s : List ℕ) (r : Record) (x : List ℕ) : Type 0 where
  -- That is accepted, as the record r but for what `read_again` says.
  pub accepted : read_line_of x ≡ ok (read_again s r)
  -- Each text of it is the same bytes,
  pub texts : bytes_in x (texts_of (read_again s r)) ≡ bytes_in s (texts_of r)
  -- and the definitions of an I or a J line are the same.
  pub definitions : ((byte 0 s =? code "I") ∨? (byte 0 s =? code "J")) ≡ true →
      table_read (read_table x) ≡ table_read (read_table s)
  -- That reading prints, beside that text, as that text again.
  pub same : Back x (record_text (read_again s r) (table_left (read_table x)) x)

-- `print_record` prints `record_text` of the record, its table and its line: what it wrote of an accepted line settles,
-- but for an A line in letter form with an unknown maker.
abbrev pub PrintingSettles : Type 0
PrintingSettles = (s : List ℕ) (r : Record) (t : Table) → Parsed s r t → unknown_maker s ≡ false →
    (b b' : List ℕ) (p : Res ℕ) (n : ℕ) → Prints (record_text r t s) b b' p → p ≡ ok n →
    Settles s r (take n b')

-- ---- each exception is needed

pub record SettlesLate : Type 0 where
  -- An unknown maker prints no code: the text is refused,
  pub refused : (reprinted (spelt "AX12345") ≡ ok (spelt "A12345")) × (read_line_of (spelt "A12345") ≡ no Syntax)
  -- or reads as another maker,
  pub another : (reprinted (spelt "AX123456") ≡ ok (spelt "A123456"))
      × (read_a (spelt "A123456") ≡ ok (a_of (spelt "A123456") (Manufacturer.UnknownSingle (code "1")) 2 5))
  -- and may print as another text again.
  pub again : reprinted (spelt "A123456") ≡ ok (spelt "A23456")
  -- A flight date of zeros with a plus is a date, and prints as none.
  pub flight : (read_flight_of (spelt "+00000") ≡ ok (Some (record { day = 0; month = 0; year = 0 })))
      × (reprinted (spelt "C230718092044+00000000204") ≡ ok (spelt "C230718092044000000000204"))
      × (read_flight_of (spelt "000000") ≡ ok None)

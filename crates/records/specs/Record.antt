-- Lines of every kind: an empty line is 1, then the first byte chooses.
use Rattle.b_record.specs.declared.BRecord.{BRecord}
use Rattle.text.specs.Prelude.{None, Option, Some}
use Rattle.text.specs.Prelude.{ℕ, code, Bool, true, List, [], length, Res, ok, no, bind, guard, pick, number_of, ◌≤?◌}
use Rattle.text.specs.Prelude.{◌=?◌, byte}
use Rattle.text.specs.declared.refusal.Refusal.TheVariants.{Syntax}
use Rattle.part.specs.declared.Part.{Part}
use Rattle.extension.specs.declared.Extension.{Extension}
use Rattle.table.specs.Table.{table_of, read_table}
use Rattle.table.specs.declared.Table.{Table}
use Rattle.a_record.specs.ARecord.{read_a}
use Rattle.b_record.specs.BRecord.{read_b, b_book}
use Rattle.c_record.specs.CRecord.{turns, read_declaration, declaration_book}
use Rattle.c_turnpoint_record.specs.CTurnpoint.{read_turnpoint, turnpoint_book}
use Rattle.d_record.specs.DRecord.{read_d}
use Rattle.e_record.specs.ERecord.{read_e, e_book}
use Rattle.f_record.specs.FRecord.{read_f, f_book}
use Rattle.g_record.specs.GRecord.{read_g}
use Rattle.h_record.specs.HRecord.{read_h}
use Rattle.k_record.specs.KRecord.{read_k, k_book}
use Rattle.l_record.specs.LRecord.{read_l}
use Rattle.records.specs.declared.{Record.Record}

-- The kinds of line.
pub data Kind : Type 0 where
  A : Kind
  B : Kind
  C : Kind
  D : Kind
  E : Kind
  F : Kind
  G : Kind
  H : Kind
  I : Kind
  J : Kind
  K : Kind
  L : Kind
  Other : Kind

-- The kind of line that a first byte chooses.
unfoldable pub kind_of : ℕ → Kind
kind_of b =
    pick (b =? code "A") A
    (pick (b =? code "B") B
    (pick (b =? code "C") C
    (pick (b =? code "D") D
    (pick (b =? code "E") E
    (pick (b =? code "F") F
    (pick (b =? code "G") G
    (pick (b =? code "H") H
    (pick (b =? code "I") I
    (pick (b =? code "J") J
    (pick (b =? code "K") K
    (pick (b =? code "L") L
    Other)))))))))))

-- The whole line.
unfoldable pub whole : List ℕ → Part
whole s = record { start = 0; len = length s }

-- Under 9 bytes 1; N or S at column 8 makes a turnpoint, otherwise a declaration.
unfoldable pub read_c : List ℕ → Res Record
read_c s =
    guard (9 ≤? length s) Syntax
    (pick (turns s)
    (bind (read_turnpoint s) (λ r. ok (Record.CTurnpoint r)))
    (bind (read_declaration s) (λ r. ok (Record.CDeclaration r))))

-- A line of a kind.
unfoldable pub read_kind : Kind → List ℕ → Res Record
read_kind A s = bind (read_a s) (λ r. ok (Record.A r))
read_kind B s = bind (read_b s) (λ r. ok (Record.B r))
read_kind C s = read_c s
read_kind D s = bind (read_d s) (λ r. ok (Record.D r))
read_kind E s = bind (read_e s) (λ r. ok (Record.E r))
read_kind F s = bind (read_f s) (λ r. ok (Record.F r))
read_kind G s = bind (read_g s) (λ r. ok (Record.G r))
read_kind H s = bind (read_h s) (λ r. ok (Record.H r))
read_kind I s = bind (read_table s) (λ ds. ok Record.I)
read_kind J s = bind (read_table s) (λ ds. ok Record.J)
read_kind K s = bind (read_k s) (λ r. ok (Record.K r))
read_kind L s = bind (read_l s) (λ r. ok (Record.L r))
read_kind Other s = ok (Record.Unrecognised (whole s))

-- An empty line is 1; else its first byte chooses.
unfoldable pub read_line_of : List ℕ → Res Record
read_line_of s = guard (1 ≤? length s) Syntax (read_kind (kind_of (byte 0 s)) s)

-- The table that was read; after a refusal an empty one.
unfoldable pub table_left : Res (List Extension) → Table
table_left (ok ds) = table_of ds
table_left (no n) = table_of []

-- The table of an I or a J line itself; a record of another kind has an empty one, at which nobody looks.
unfoldable pub record_table : Record → List ℕ → Table
record_table Record.I s = table_left (read_table s)
record_table Record.J s = table_left (read_table s)
record_table (Record.A r) s = table_of []
record_table (Record.B r) s = table_of []
record_table (Record.CDeclaration r) s = table_of []
record_table (Record.CTurnpoint r) s = table_of []
record_table (Record.D r) s = table_of []
record_table (Record.E r) s = table_of []
record_table (Record.F r) s = table_of []
record_table (Record.G r) s = table_of []
record_table (Record.H r) s = table_of []
record_table (Record.K r) s = table_of []
record_table (Record.L r) s = table_of []
record_table (Record.Unrecognised p) s = table_of []

-- Whether a record is a fix, and which.
unfoldable pub record_fix : Record → Option BRecord
record_fix (Record.B r) = Some r
record_fix (Record.A r) = None
record_fix (Record.CDeclaration r) = None
record_fix (Record.CTurnpoint r) = None
record_fix (Record.D r) = None
record_fix (Record.E r) = None
record_fix (Record.F r) = None
record_fix (Record.G r) = None
record_fix (Record.H r) = None
record_fix Record.I = None
record_fix Record.J = None
record_fix (Record.K r) = None
record_fix (Record.L r) = None
record_fix (Record.Unrecognised p) = None

-- The fix of an accepted B line. Products that care for fixes alone ask here.
unfoldable pub answer_fix : Res Record → Option BRecord
answer_fix (ok r) = record_fix r
answer_fix (no n) = None

-- By the book: times, dates and positions are; other kinds say yes.
unfoldable pub record_book : Record → Bool
record_book (Record.A r) = true
record_book (Record.B r) = b_book r
record_book (Record.CDeclaration r) = declaration_book r
record_book (Record.CTurnpoint r) = turnpoint_book r
record_book (Record.D r) = true
record_book (Record.E r) = e_book r
record_book (Record.F r) = f_book r
record_book (Record.G r) = true
record_book (Record.H r) = true
record_book Record.I = true
record_book Record.J = true
record_book (Record.K r) = k_book r
record_book (Record.L r) = true
record_book (Record.Unrecognised p) = true

-- The paper's number of an accepted record: 0, or 12, which is an answer too.
unfoldable pub accepted_as : Record → ℕ
accepted_as (Record.A r) = 0
accepted_as (Record.B r) = 0
accepted_as (Record.CDeclaration r) = 0
accepted_as (Record.CTurnpoint r) = 0
accepted_as (Record.D r) = 0
accepted_as (Record.E r) = 0
accepted_as (Record.F r) = 0
accepted_as (Record.G r) = 0
accepted_as (Record.H r) = 0
accepted_as Record.I = 0
accepted_as Record.J = 0
accepted_as (Record.K r) = 0
accepted_as (Record.L r) = 0
accepted_as (Record.Unrecognised p) = 12

-- The paper's number of the answer to a line.
unfoldable pub answered : Res Record → ℕ
answered (ok r) = accepted_as r
answered (no n) = number_of n

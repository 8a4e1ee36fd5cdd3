-- The fields of a record, one form for each kind.
use Rattle.std.specs.Prelude.{◌∷◌, ◌++◌}
use Rattle.text.specs.Prelude.{ℕ, code, List, [], padded, signed}
use Rattle.field.specs.Field.{mnemonic_text}
use Rattle.manufacturer.specs.Maker as maker
use Rattle.table.specs.Table.{defs_of}
use Rattle.extension.specs.declared.Extension.{Extension}
use Rattle.table.specs.declared.Table.{Table}
use Rattle.a_record.specs.declared.ARecord.{ARecord}
use Rattle.b_record.specs.BRecord.{valid_letter}
use Rattle.b_record.specs.declared.BRecord.{BRecord}
use Rattle.c_record.specs.declared.CRecordDeclaration.{CRecordDeclaration}
use Rattle.c_turnpoint_record.specs.declared.CRecordTurnpoint.{CRecordTurnpoint}
use Rattle.satellites.specs.Satellites.{count_of}
use Rattle.d_record.specs.DRecord.{qualifier_letter}
use Rattle.d_record.specs.declared.DRecord.{DRecord}
use Rattle.e_record.specs.declared.ERecord.{ERecord}
use Rattle.f_record.specs.declared.FRecord.{FRecord}
use Rattle.g_record.specs.declared.GRecord.{GRecord}
use Rattle.h_record.specs.HRecord.{source_byte}
use Rattle.h_record.specs.declared.HRecord.{HRecord}
use Rattle.k_record.specs.declared.KRecord.{KRecord}
use Rattle.l_record.specs.declared.LRecord.{LRecord}
use Rattle.records.specs.declared.Record.{Record}
use Rattle.held.specs.declared.{Held.Held, tables.Tables.Tables}
use Rattle.igc_log.specs.Fold.{texts}
use Rattle.piece_text.specs.Piece.{number_shown, pressure_shown, gps_shown, byte_shown, part_shown, maybe_shown}
use Rattle.piece_text.specs.Piece.{time_shown, date_shown, flight_shown, position_shown, letter_shown, triple_shown}
use Rattle.piece_text.specs.Value.{asked_for, value_shown}

-- The letter code and the triple code as the maker gives them, unique id, id extension.
unfoldable pub a_shown : ARecord → List ℕ
a_shown r = letter_shown (maker.letter_of_lem r.manufacturer)
    ++ (triple_shown (maker.triple_of r.manufacturer)
    ++ (part_shown r.unique_id ++ maybe_shown r.id_extension))

-- A or V, pressure height, GPS height, rest.
unfoldable pub fix_shown : BRecord → List ℕ
fix_shown r =
    byte_shown (valid_letter r.fix_valid)
    ++ (pressure_shown r.pressure_alt ++ (gps_shown r.gps_alt ++ part_shown r.rest))

-- Time, latitude and longitude, the fix, and the values of the names asked for.
unfoldable pub b_shown : BRecord → Held → List ℕ → List ℕ → List ℕ
b_shown r h names s =
    time_shown r.timestamp
    ++ (position_shown r.pos ++ (fix_shown r ++ texts (value_shown 35 h r.rest s) (asked_for h names)))

-- Time, rest, and the values of the names asked for.
unfoldable pub k_shown : KRecord → Held → List ℕ → List ℕ → List ℕ
k_shown r h names s =
    time_shown r.time ++ (part_shown r.rest ++ texts (value_shown 7 h r.rest s) (asked_for h names))

-- Task, count, name.
unfoldable pub task_shown : CRecordDeclaration → List ℕ
task_shown r = number_shown r.task_id
    ++ ((code " " ∷ []) ++ (signed 1 r.turnpoint_count ++ maybe_shown r.task_name))

-- Date, time, flight date, and these.
unfoldable pub declaration_shown : CRecordDeclaration → List ℕ
declaration_shown r = date_shown r.date ++ (time_shown r.time ++ (flight_shown r.flight_date ++ task_shown r))

-- The position as for B, name.
unfoldable pub turnpoint_shown : CRecordTurnpoint → List ℕ
turnpoint_shown r = position_shown r.position ++ maybe_shown r.turnpoint_name

-- The qualifier byte, station.
unfoldable pub d_shown : DRecord → List ℕ
d_shown r = byte_shown (qualifier_letter r.qualifier) ++ part_shown r.station_id

-- Time, code, text.
unfoldable pub e_shown : ERecord → List ℕ
e_shown r = time_shown r.time ++ (part_shown r.mnemonic ++ maybe_shown r.text)

-- Time, how many different satellites, the list.
unfoldable pub f_shown : FRecord → List ℕ
f_shown r = time_shown r.time ++ (number_shown (count_of r.satellites) ++ part_shown r.list)

-- The rest.
unfoldable pub g_shown : GRecord → List ℕ
g_shown r = part_shown r.«data»

-- The source byte, mnemonic, name, data.
unfoldable pub h_shown : HRecord → List ℕ
h_shown r = byte_shown (source_byte r.data_source)
    ++ (part_shown r.mnemonic ++ (maybe_shown r.friendly_name ++ part_shown r.«data»))

-- Source, text.
unfoldable pub l_shown : LRecord → List ℕ
l_shown r = part_shown r.source ++ maybe_shown r.text

-- START-ENDNAME.
unfoldable pub definition_shown : Extension → List ℕ
definition_shown e = number_shown e.start_byte
    ++ ((code "-" ∷ []) ++ (padded 1 e.end_byte ++ mnemonic_text e.mnemonic))

-- Count, then each definition.
unfoldable pub table_shown : Table → List ℕ
table_shown t = number_shown t.count ++ texts definition_shown (defs_of t)

-- The fields of a record of the line s; t is that line's own table, h what is in force at it: the values of a B line
-- are looked up in the I lines' table, those of a K line in the J lines'.
unfoldable pub record_shown : Record → Table → Tables → List ℕ → List ℕ → List ℕ
record_shown (Record.A r) t h names s = a_shown r
record_shown (Record.B r) t h names s = b_shown r h.i names s
record_shown (Record.CDeclaration r) t h names s = declaration_shown r
record_shown (Record.CTurnpoint r) t h names s = turnpoint_shown r
record_shown (Record.D r) t h names s = d_shown r
record_shown (Record.E r) t h names s = e_shown r
record_shown (Record.F r) t h names s = f_shown r
record_shown (Record.G r) t h names s = g_shown r
record_shown (Record.H r) t h names s = h_shown r
record_shown Record.I t h names s = table_shown t
record_shown Record.J t h names s = table_shown t
record_shown (Record.K r) t h names s = k_shown r h.j names s
record_shown (Record.L r) t h names s = l_shown r
record_shown (Record.Unrecognised p) t h names s = []

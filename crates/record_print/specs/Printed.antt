-- Records of every kind printed, and a line read and printed.
use Rattle.text.specs.Prelude.{ℕ, code, List, Res, bind}
use Rattle.part.specs.Part.{part_text, part_bytes}
use Rattle.table.specs.Table.{table_body, table_text}
use Rattle.table.specs.declared.Table.{Table}
use Rattle.a_record.specs.ARecord.{a_piece, a_text}
use Rattle.b_record.specs.BRecord.{b_piece, b_text}
use Rattle.c_record.specs.CRecord.{declaration_piece, declaration_text}
use Rattle.c_turnpoint_record.specs.CTurnpoint.{turnpoint_piece, turnpoint_text}
use Rattle.d_record.specs.DRecord.{d_piece, d_text}
use Rattle.e_record.specs.ERecord.{e_piece, e_text}
use Rattle.f_record.specs.FRecord.{f_piece, f_text}
use Rattle.g_record.specs.GRecord.{g_piece, g_text}
use Rattle.h_record.specs.HRecord.{h_piece, h_text}
use Rattle.k_record.specs.KRecord.{k_piece, k_text}
use Rattle.l_record.specs.LRecord.{l_piece, l_text}
use Rattle.records.specs.Record.{read_line_of, record_table}
use Rattle.records.specs.declared.Record.{Record}

-- The text of a record beside its table and its line; 12 prints as the line itself.
unfoldable pub record_text : Record → Table → List ℕ → Res (List ℕ)
record_text (Record.A r) t s = a_text r s
record_text (Record.B r) t s = b_text r s
record_text (Record.CDeclaration r) t s = declaration_text r s
record_text (Record.CTurnpoint r) t s = turnpoint_text r s
record_text (Record.D r) t s = d_text r s
record_text (Record.E r) t s = e_text r s
record_text (Record.F r) t s = f_text r s
record_text (Record.G r) t s = g_text r s
record_text (Record.H r) t s = h_text r s
record_text Record.I t s = table_text (code "I") t
record_text Record.J t s = table_text (code "J") t
record_text (Record.K r) t s = k_text r s
record_text (Record.L r) t s = l_text r s
record_text (Record.Unrecognised p) t s = part_text p s

-- The same as a piece of a larger text: a part that lies outside the line is left out. For a record as it was read that
-- is its text (promises, `Shown`).
unfoldable pub record_piece : Record → Table → List ℕ → List ℕ
record_piece (Record.A r) t s = a_piece r s
record_piece (Record.B r) t s = b_piece r s
record_piece (Record.CDeclaration r) t s = declaration_piece r s
record_piece (Record.CTurnpoint r) t s = turnpoint_piece r s
record_piece (Record.D r) t s = d_piece r s
record_piece (Record.E r) t s = e_piece r s
record_piece (Record.F r) t s = f_piece r s
record_piece (Record.G r) t s = g_piece r s
record_piece (Record.H r) t s = h_piece r s
record_piece Record.I t s = table_body (code "I") t
record_piece Record.J t s = table_body (code "J") t
record_piece (Record.K r) t s = k_piece r s
record_piece (Record.L r) t s = l_piece r s
record_piece (Record.Unrecognised p) t s = part_bytes p s

-- The text of the record that a line s was answered with, its own table beside it.
unfoldable pub answer_printed : Res Record → List ℕ → Res (List ℕ)
answer_printed m s = bind m (λ r. record_text r (record_table r s) s)

-- A line read and printed.
unfoldable pub reprinted : List ℕ → Res (List ℕ)
reprinted s = answer_printed (read_line_of s) s

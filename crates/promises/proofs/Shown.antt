-- What the program `fields` shows as printed is what the record prints.
use Rattle.text.specs.Prelude.{ℕ, ◌+◌, ◌≡◌, List, [], ◌∷◌, length, Res, ok, no, bind}
use Rattle.text.proofs.Prelude.{refl, sym, ap, ◌∙◌}
use Rattle.text.proofs.Finds.{Finds, finds_ok, finds_no, finds_bind, finds_guard}
use Rattle.part.specs.Part.{bytes_of, text_of, part_text, maybe_text}
use Rattle.part.specs.Part as part
use Rattle.part.specs.declared.Part.{Part}
use Rattle.table.specs.Table.{read_table, table_text}
use Rattle.table.specs.declared.Table.{Table}
use Rattle.a_record.specs.ARecord.{a_text}
use Rattle.b_record.specs.BRecord.{b_text}
use Rattle.c_record.specs.CRecord.{declaration_text}
use Rattle.c_turnpoint_record.specs.CTurnpoint.{turnpoint_text}
use Rattle.d_record.specs.DRecord.{d_text}
use Rattle.e_record.specs.ERecord.{e_text}
use Rattle.f_record.specs.FRecord.{f_text}
use Rattle.g_record.specs.GRecord.{g_text}
use Rattle.h_record.specs.HRecord.{h_text}
use Rattle.k_record.specs.KRecord.{k_text}
use Rattle.l_record.specs.LRecord.{l_text}
use Rattle.records.specs.Record.{table_left, read_line_of, record_table}
use Rattle.records.specs.declared.Record.{Record}
use Rattle.record_print.specs.Printed.{record_text, record_piece, answer_printed, reprinted}
use Rattle.igc_log.specs.Line.{line_text}
use Rattle.igc_log.specs.Log.{chunks, read_from, readings}
use Rattle.igc_log.specs.Fold.{texts}
use Rattle.held.specs.declared.tables.Tables.{Tables}
use Rattle.walk.specs.Readings.{reader}
use Rattle.fields_text.specs.Line.{seen, fields_shown, fields_line, fields_of, fields_text_of}
use Rattle.promises.specs.Fields.{fields_as, line_as, Shown}
use Rattle.promises.proofs.Lines.{line_again}

-- ---- a record

-- the text of what was found is the bytes that are shown of it
text_is_shown : (m : Res Part) (s : List ℕ) → Finds (text_of m s) (λ x. bytes_of (part.shown m) s ≡ x)
unfolding text_of part.shown bind
text_is_shown (ok p) s = finds_ok refl
text_is_shown (no n) s = finds_no

-- the text of a record is its piece
text_is_piece : (r : Record) (t : Table) (s : List ℕ) → Finds (record_text r t s) (λ x. record_piece r t s ≡ x)
unfolding
    record_text record_piece a_text b_text declaration_text turnpoint_text d_text e_text f_text g_text h_text k_text l_text table_text
    part_text maybe_text
text_is_piece (Record.A r) t s =
    finds_bind (text_is_shown _ s) (λ id i. finds_bind (text_is_shown _ s) (λ rest e. finds_ok (rw (i, e))))
text_is_piece (Record.B r) t s = finds_bind (text_is_shown _ s) (λ rest e. finds_ok (rw e))
text_is_piece (Record.CDeclaration r) t s = finds_bind (text_is_shown _ s) (λ name e. finds_ok (rw e))
text_is_piece (Record.CTurnpoint r) t s = finds_bind (text_is_shown _ s) (λ name e. finds_ok (rw e))
text_is_piece (Record.D r) t s = finds_bind (text_is_shown _ s) (λ station e. finds_ok (rw e))
text_is_piece (Record.E r) t s =
    finds_bind (text_is_shown _ s) (λ m i. finds_bind (text_is_shown _ s) (λ text e. finds_ok (rw (i, e))))
text_is_piece (Record.F r) t s = finds_bind (text_is_shown _ s) (λ list e. finds_ok (rw e))
text_is_piece (Record.G r) t s = finds_bind (text_is_shown _ s) (λ rest e. finds_ok (rw e))
text_is_piece (Record.H r) t s =
    finds_bind (text_is_shown _ s) (λ m i.
    finds_bind (text_is_shown _ s) (λ n j.
    finds_bind (text_is_shown _ s) (λ d k. finds_ok (rw (i, j, k)))))
text_is_piece Record.I t s = finds_guard _ (λ _. finds_ok refl)
text_is_piece Record.J t s = finds_guard _ (λ _. finds_ok refl)
text_is_piece (Record.K r) t s = finds_bind (text_is_shown _ s) (λ rest e. finds_ok (rw e))
text_is_piece (Record.L r) t s =
    finds_bind (text_is_shown _ s) (λ source i. finds_bind (text_is_shown _ s) (λ text e. finds_ok (rw (i, e))))
text_is_piece (Record.Unrecognised p) t s = text_is_shown _ s

-- a record prints the same beside the table of its line and beside its own
own_table : (r : Record) (s : List ℕ)
    → record_text r (table_left (read_table s)) s ≡ record_text r (record_table r s) s
unfolding record_text record_table
own_table (Record.A r) s = refl
own_table (Record.B r) s = refl
own_table (Record.CDeclaration r) s = refl
own_table (Record.CTurnpoint r) s = refl
own_table (Record.D r) s = refl
own_table (Record.E r) s = refl
own_table (Record.F r) s = refl
own_table (Record.G r) s = refl
own_table (Record.H r) s = refl
own_table Record.I s = refl
own_table Record.J s = refl
own_table (Record.K r) s = refl
own_table (Record.L r) s = refl
own_table (Record.Unrecognised p) s = refl

-- an accepted line prints as the piece of its record
piece_printed : (s : List ℕ) (r : Record) → read_line_of s ≡ ok r → reprinted s ≡ ok (record_piece r (record_table r s) s)
unfolding reprinted answer_printed bind
piece_printed s r e =
    let a = (line_again s).found r e in
    let text = sym (own_table r s) ∙ sym a.prints in
    rw e (text ∙ ap ok (sym ((text_is_piece r (record_table r s) s).found a.text text)))

-- ---- a log

-- the fields of a line are those with the line read and printed again in them
fields_printed : (m : Res Record) (h : Tables) (names s : List ℕ)
    → read_line_of s ≡ m → fields_shown m h names s ≡ fields_as m (reprinted s) h names s
unfolding fields_shown seen fields_as
fields_printed (ok r) h names s e = rw (piece_printed s r e)
fields_printed (no n) h names s e = refl

-- so are the texts of all lines that are read
lines_printed : (names : List ℕ) (n p : ℕ) (h : Tables) (cs : List (List ℕ))
    → texts (fields_of names) (read_from reader n p h cs) ≡ texts (line_as names) (read_from reader n p h cs)
unfolding read_from texts fields_of fields_line line_as
lines_printed names n p h [] = refl
lines_printed names n p h (c ∷ cs) =
    let l = line_text c in
    let next = reader.after p h l in
    rw (fields_printed (read_line_of l) next names l refl, lines_printed names (n + 1) (p + length c) next cs)

-- both statements hold
pub shown_as_printed : Shown
unfolding fields_text_of readings
shown_as_printed = record {
  piece = piece_printed;
  fields = λ names log. lines_printed names 0 0 reader.start (chunks log);
}

-- C lines settle.
use Rattle.text.specs.Prelude.{ℕ, ◌≤◌, ◌≡◌, List, [], ◌∷◌, ◌++◌, length, drop, ℤ, pick, cut, read_nat_of, read_int_of, plus}
use Rattle.text.specs.Prelude.{padded, signed, None}
use Rattle.text.proofs.Prelude.{arith, refl, sym, length-append, length-drop, on, pass, yes≤, yes=, is≤}
use Rattle.text.proofs.Finds.{Finds, finds_ok, finds_bind, finds_guard}
use Rattle.part.specs.Part.{name_from}
use Rattle.field.specs.Field.{ascii_in}
use Rattle.field.proofs.Digits.{cut_cut}
use Rattle.time.specs.Time.{read_time_of, time_text}
use Rattle.date.specs.Date.{read_date, date_text}
use Rattle.position.specs.Position.{read_position, position_text}
use Rattle.c_record.specs.CRecord.{read_flight_of, flight_text, read_task_of, task_text, read_declaration, declaration_body}
use Rattle.c_record.specs.CRecord.{declaration_text}
use Rattle.c_record.specs.declared.CRecordDeclaration.{CRecordDeclaration}
use Rattle.c_turnpoint_record.specs.CTurnpoint.{read_turnpoint, turnpoint_body, turnpoint_text}
use Rattle.c_turnpoint_record.specs.declared.CRecordTurnpoint.{CRecordTurnpoint}
use Rattle.records.specs.declared.Record.{Record}
use Rattle.promises.specs.Odd.{three_plus, position_plus, signed_odd, declaration_odd, turnpoint_odd}
use Rattle.promises.specs.Settle.{plus_zeros, declaration_again, texts_of}
use Rattle.promises.proofs.Columns.{finds_columns}
use Rattle.promises.proofs.Copies.{neither_odd}
use Rattle.promises.proofs.Parts.{name_text_lem}
use Rattle.promises.proofs.Settling.{Kept, ascii_byte, ascii_none, At, next, behind, ascii_front, Piece}
use Rattle.promises.proofs.Settling.{piece_read, piece_plain, piece_ascii, Copied, name_same, name_bytes, nat_in}
use Rattle.promises.proofs.Settling.{int_in, time_piece, date_piece}
use Rattle.promises.proofs.SettlesCoord.{position_piece}
use Rattle.promises.proofs.SettlesFlight.{pairs_zero, flight_zero, flight_piece}

-- ---- turnpoints

-- a turnpoint whose name begins at column 18 of s
module _ (s : List ℕ) (l : 18 ≤ length s) (r : CRecordTurnpoint) (e : r.turnpoint_name ≡ name_from 18 s)
    (pos : Piece read_position position_plus 17 r.position (position_text r.position)) where
  turn_kept : Kept read_turnpoint turnpoint_odd 67 Record.CTurnpoint s r r (turnpoint_text r s)
  unfolding read_turnpoint ascii_in turnpoint_odd turnpoint_text turnpoint_body texts_of
  turn_kept =
      let name = drop 18 s in
      let x = (67 ∷ []) ++ (position_text r.position ++ name) in
      let at-letter : At x 0 (67 ∷ []) (position_text r.position ++ name) = record { is = refl } in
      let at-pos : At x 1 (position_text r.position) name = record { is = refl } in
      let long : length x ≡ length s = simp (length-append, length-drop) (omega (arith, pos.long)) in
      let copied : Copied 18 s x = record { long = long; on = behind pos.long at-pos } in
      record {
        text = x;
        prints = on _ (rw e (name_text_lem 18 s l)) refl;
        reads = sym (pass _ (yes≤ (omega (arith, l, long)))
            (pass _ (yes= refl)
            (pass _ (ascii_front 18 (omega arith) refl at-letter (ascii_byte (omega arith))
            (piece_ascii pos at-pos 18 (omega arith) (ascii_none 18 x)))
            (on _ (piece_read pos at-pos) (rw (name_same copied, ← e))))));
        plain = piece_plain pos at-pos;
        first = refl;
        same = rw e (name_bytes copied);
      }

pub turnpoint_kept : (s : List ℕ) →
    Finds (read_turnpoint s) (λ r. Kept read_turnpoint turnpoint_odd 67 Record.CTurnpoint s r r (turnpoint_text r s))
unfolding read_turnpoint ascii_in
turnpoint_kept s =
    finds_guard _ (λ long. finds_guard _ (λ _. finds_guard _ (λ _.
    finds_bind (finds_columns _ s 1 18 (position_piece _)) (λ pos p.
    finds_ok (turn_kept s (is≤ long) _ refl p)))))

-- ---- declarations

plus_zeros_lem : (s : List ℕ) → plus_zeros s ≡ flight_zero (cut 13 19 s)
unfolding plus_zeros flight_zero pairs_zero
plus_zeros_lem s =
    rw (
      cut_cut 13 19 0 2 s (omega arith),
      cut_cut 13 19 2 4 s (omega arith),
      cut_cut 13 19 4 6 s (omega arith),
    )

abbrev TaskId : ℕ → Type 0
TaskId n = Piece (read_nat_of 65535) plus 4 n (padded 4 n)

abbrev Count : ℤ → Type 0
Count z = Piece (read_int_of 127) signed_odd 2 z (signed 2 z)

task_piece : (s : List ℕ) → 25 ≤ length s → Finds (read_task_of s) (λ k. TaskId k.id × Count k.count)
unfolding read_task_of
task_piece s l =
    finds_bind (nat_in 19 4 65535 s (omega arith)) (λ id p.
    finds_bind (int_in 23 2 127 s (omega arith)) (λ count q. finds_ok (p, q)))

-- a declaration whose name begins at column 25 of s
module _ (s : List ℕ) (l : 25 ≤ length s) (r : CRecordDeclaration) (e : r.task_name ≡ name_from 25 s)
    (date : Piece read_date three_plus 6 r.date (date_text r.date))
    (time : Piece read_time_of three_plus 6 r.time (time_text r.time))
    (flight : Piece read_flight_of three_plus 6
    (pick (flight_zero (cut 13 19 s)) None r.flight_date) (flight_text r.flight_date))
    (id : TaskId r.task_id) (count : Count r.turnpoint_count) where
  task_kept :
      Kept read_declaration declaration_odd 67 Record.CDeclaration s r (declaration_again s r) (declaration_text r s)
  unfolding read_declaration ascii_in read_task_of declaration_odd declaration_text declaration_body task_text
      declaration_again texts_of
  task_kept =
      let name = drop 25 s in
      let from-count = signed 2 r.turnpoint_count ++ name in
      let from-id = padded 4 r.task_id ++ from-count in
      let from-flight = flight_text r.flight_date ++ from-id in
      let from-time = time_text r.time ++ from-flight in
      let from-date = date_text r.date ++ from-time in
      let x = (67 ∷ []) ++ from-date in
      let at-letter : At x 0 (67 ∷ []) from-date = record { is = refl } in
      let at-date : At x 1 (date_text r.date) from-time = record { is = refl } in
      let at-time : At x 7 (time_text r.time) from-flight = next date.long at-date in
      let at-flight : At x 13 (flight_text r.flight_date) from-id = next time.long at-time in
      let at-id : At x 19 (padded 4 r.task_id) from-count = next flight.long at-flight in
      let at_count : At x 23 (signed 2 r.turnpoint_count) name = next id.long at-id in
      let long : length x ≡ length s = simp (length-append, length-drop)
      (omega (arith, date.long, time.long, flight.long, id.long, count.long)) in
      let copied : Copied 25 s x = record { long = long; on = behind count.long at_count } in
      record {
        text = x;
        prints = on _ (rw e (name_text_lem 25 s l)) refl;
        reads = sym (pass _ (yes≤ (omega (arith, l, long)))
            (pass _ (yes= refl)
            (pass _ (ascii_front 25 (omega arith) refl at-letter (ascii_byte (omega arith))
            (piece_ascii date at-date 25 (omega arith)
            (piece_ascii time at-time 25 (omega arith)
            (piece_ascii flight at-flight 25 (omega arith)
            (piece_ascii id at-id 25 (omega arith)
            (piece_ascii count at_count 25 (omega arith) (ascii_none 25 x)))))))
            (on _ (piece_read date at-date)
            (on _ (piece_read time at-time)
            (on _ (piece_read flight at-flight)
            (on _ (on _ (piece_read id at-id) (on _ (piece_read count at_count) refl))
            (rw (name_same copied, ← e, plus_zeros_lem s)))))))));
        plain = neither_odd (piece_plain date at-date)
            (neither_odd (piece_plain time at-time)
            (neither_odd (piece_plain flight at-flight)
            (neither_odd (piece_plain id at-id) (piece_plain count at_count))));
        first = refl;
        same = rw e (name_bytes copied);
      }

pub declaration_kept : (s : List ℕ) →
    Finds (read_declaration s)
    (λ r. Kept read_declaration declaration_odd 67 Record.CDeclaration s r (declaration_again s r) (declaration_text r s))
unfolding read_declaration ascii_in
declaration_kept s =
    finds_guard _ (λ long. let l : 25 ≤ length s = is≤ long in
    finds_guard _ (λ _. finds_guard _ (λ _.
    finds_bind (finds_columns _ s 1 7 (date_piece _)) (λ date d.
    finds_bind (finds_columns _ s 7 13 (time_piece _)) (λ time t.
    finds_bind (finds_columns _ s 13 19 (flight_piece _)) (λ flight f.
    finds_bind (task_piece s l) (λ task k. finds_ok (task_kept s l _ refl d t f k.0 k.1))))))))

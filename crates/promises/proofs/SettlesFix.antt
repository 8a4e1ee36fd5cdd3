-- B lines settle.
use Rattle.text.specs.Prelude.{ℕ, ◌≤◌, ◌≡◌, true, List, [], ◌∷◌, ◌++◌, length, drop, ℤ, ok, read_int_of, signed}
use Rattle.text.proofs.Prelude.{arith, refl, sym, length-append, length-drop, on, pass, yes≤, is≤}
use Rattle.text.proofs.Finds.{Finds, finds_ok, finds_bind, finds_guard}
use Rattle.part.specs.Part.{rest_from}
use Rattle.field.specs.Field.{is_ascii_of, ascii_in, ascii}
use Rattle.time.specs.Time.{read_time_of, time_text}
use Rattle.position.specs.Position.{read_position, position_text}
use Rattle.b_record.specs.BRecord.{valid_letter, valid_of, read_heights_of, read_fix, read_b, tail_text, b_body, b_text}
use Rattle.b_record.specs.declared.{FixValid.FixValid, BRecord.BRecord}
use Rattle.b_record.specs.declared.FixValid.TheVariants.{Valid, NavWarning}
use Rattle.records.specs.declared.Record.{Record}
use Rattle.promises.specs.Odd.{three_plus, position_plus, signed_odd, fix_odd}
use Rattle.promises.specs.Settle.{texts_of, bytes_in}
use Rattle.promises.proofs.Columns.{finds_columns}
use Rattle.promises.proofs.Copies.{neither_odd}
use Rattle.promises.proofs.Parts.{rest_text}
use Rattle.promises.proofs.Fixes.{fix_same}
use Rattle.promises.proofs.Settling.{Kept, ascii_byte, ascii_append, ascii_rest, At, next, behind, byte_at}
use Rattle.promises.proofs.Settling.{Piece, piece_read, piece_plain, Copied, rest_same, rest_bytes, int_in}
use Rattle.promises.proofs.Settling.{time_piece}
use Rattle.promises.proofs.SettlesCoord.{position_piece}

-- ---- A or V

valid_again : (l : ℕ) → Finds (valid_of l) (λ f. valid_of (valid_letter f) ≡ ok f)
valid_again l = record { found = λ f e. rw ((fix_same l).found f e) e }

ascii_valid : (f : FixValid) → is_ascii_of (valid_letter f ∷ []) ≡ true
unfolding valid_letter
ascii_valid Valid = ascii_byte (omega arith)
ascii_valid NavWarning = ascii_byte (omega arith)

-- ---- the heights

abbrev Height : ℤ → Type 0
Height z = Piece (read_int_of 32767) signed_odd 5 z (signed 5 z)

heights_piece : (s : List ℕ) → 35 ≤ length s →
    Finds (read_heights_of s) (λ h. Height h.pressure.0 × Height h.gps.0)
unfolding read_heights_of
heights_piece s l =
    finds_bind (int_in 25 5 32767 s (omega arith)) (λ pressure p.
    finds_bind (int_in 30 5 32767 s (omega arith)) (λ gps g. finds_ok (p, g)))

-- ---- the line

-- a fix whose rest begins at column 35 of s
module _ (s : List ℕ) (l : 35 ≤ length s) (a : is_ascii_of s ≡ true) (r : BRecord) (e : r.rest ≡ rest_from 35 s)
    (time : Piece read_time_of three_plus 6 r.timestamp (time_text r.timestamp))
    (pos : Piece read_position position_plus 17 r.pos (position_text r.pos))
    (valid : valid_of (valid_letter r.fix_valid) ≡ ok r.fix_valid)
    (pressure : Height r.pressure_alt.0) (gps : Height r.gps_alt.0) where
  fix_kept : Kept read_b fix_odd 66 Record.B s r r (b_text r s)
  unfolding read_b ascii ascii_in read_fix read_heights_of fix_odd b_text b_body tail_text texts_of bytes_in
  fix_kept =
      let rest = drop 35 s in
      let from-gps = signed 5 r.gps_alt.0 ++ rest in
      let from-pressure = signed 5 r.pressure_alt.0 ++ from-gps in
      let letter = valid_letter r.fix_valid ∷ [] in
      let from-pos = position_text r.pos ++ (letter ++ from-pressure) in
      let from-time = time_text r.timestamp ++ from-pos in
      let x = (66 ∷ []) ++ from-time in
      let at-time : At x 1 (time_text r.timestamp) from-pos = record { is = refl } in
      let at-pos : At x 7 (position_text r.pos) (letter ++ from-pressure) = next time.long at-time in
      let at-valid : At x 24 letter from-pressure = next pos.long at-pos in
      let at-pressure : At x 25 (signed 5 r.pressure_alt.0) from-gps = next refl at-valid in
      let at-gps : At x 30 (signed 5 r.gps_alt.0) rest = next pressure.long at-pressure in
      let long : length x ≡ length s = simp (length-append, length-drop)
      (omega (arith, time.long, pos.long, pressure.long, gps.long)) in
      let copied : Copied 35 s x = record { long = long; on = behind gps.long at-gps } in
      record {
        text = x;
        prints = on _ (rw e (rest_text 35 s l)) refl;
        reads = sym (pass _ (yes≤ (omega (arith, l, long)))
            (pass _ (ascii_append (66 ∷ []) _ (ascii_byte (omega arith))
            (ascii_append (time_text r.timestamp) _ time.ascii
            (ascii_append (position_text r.pos) _ pos.ascii
            (ascii_append letter _ (ascii_valid r.fix_valid)
            (ascii_append (signed 5 r.pressure_alt.0) _ pressure.ascii
            (ascii_append (signed 5 r.gps_alt.0) _ gps.ascii (ascii_rest 35 s a)))))))
            (on _ (piece_read time at-time)
            (on _ (piece_read pos at-pos)
            (rw (byte_at at-valid)
            (on _ (sym valid)
            (on _ (on _ (piece_read pressure at-pressure) (on _ (piece_read gps at-gps) refl))
            (rw (rest_same copied, ← e)))))))));
        plain = neither_odd (piece_plain time at-time)
            (neither_odd (piece_plain pos at-pos)
            (neither_odd (piece_plain pressure at-pressure) (piece_plain gps at-gps)));
        first = refl;
        same = rw (e, rest_bytes copied);
      }

pub b_kept : (s : List ℕ) → Finds (read_b s) (λ r. Kept read_b fix_odd 66 Record.B s r r (b_text r s))
unfolding read_b ascii ascii_in read_fix
b_kept s =
    finds_guard _ (λ long. let l : 35 ≤ length s = is≤ long in
    finds_guard _ (λ a.
    finds_bind (finds_columns _ s 1 7 (time_piece _)) (λ time p.
    finds_bind (finds_columns _ s 7 24 (position_piece _)) (λ pos q.
    finds_bind (valid_again _) (λ valid f.
    finds_bind (heights_piece s l) (λ heights h. finds_ok (fix_kept s l a _ refl p q f h.0 h.1)))))))

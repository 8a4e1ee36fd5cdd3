-- E, F and K lines settle: their time prints as it is read, and all behind it is copied.
use Rattle.text.specs.Prelude.{ℕ, ◌+◌, ◌≤◌, ◌≡◌, true, false, List, [], ◌∷◌, ◌++◌, length, drop, Res, ok, cut}
use Rattle.text.specs.Prelude.{columns}
use Rattle.text.proofs.Prelude.{arith, refl, sym, ap, ◌∙◌, length-append, length-drop, drop-drop, on, pass}
use Rattle.text.proofs.Prelude.{yes≤, yes=, is≤, and}
use Rattle.text.proofs.Finds.{Finds, finds_ok, finds_bind, finds_guard}
use Rattle.part.specs.Part.{bytes_of}
use Rattle.field.specs.Field.{is_ascii_of, ascii_in, ascii}
use Rattle.field.proofs.Ascii.{cut_ascii}
use Rattle.field.proofs.Digits.{cut_cut}
use Rattle.time.specs.Time.{read_time_of, time_text}
use Rattle.time.specs.declared.Time.{Time}
use Rattle.satellites.specs.Satellites.{in_pairs, read_satellites}
use Rattle.e_record.specs.ERecord.{read_e, e_body, e_text}
use Rattle.f_record.specs.FRecord.{read_heard, read_f, f_body, f_text}
use Rattle.k_record.specs.KRecord.{read_timed, read_k, k_body, k_text}
use Rattle.records.specs.declared.Record.{Record}
use Rattle.promises.specs.Odd.{three_plus, timed_odd}
use Rattle.promises.specs.Settle.{texts_of, bytes_in}
use Rattle.promises.proofs.Columns.{cut_joined, to_end, finds_columns}
use Rattle.promises.proofs.Parts.{part_text_lem, rest_text, name_text_lem}
use Rattle.promises.proofs.Settling.{Kept, finds_itself, ascii_append, ascii_rest, At, behind, Piece, piece_read}
use Rattle.promises.proofs.Settling.{piece_plain, piece_ascii, Copied, cut_same, rest_same, name_same}
use Rattle.promises.proofs.Settling.{rest_bytes, name_bytes, time_piece}

-- ---- what is copied

module _ {a : ℕ} {s x : List ℕ} (c : Copied a s x) where
  -- from a later column on too
  copied_on : (n : ℕ) → Copied (a + n) s x
  copied_on n = record { long = c.long; on = rw (← drop-drop n a x, ← drop-drop n a s, c.on) }

  -- all from column a on is read as it was
  rest_read : {A : Type 0} (read : List ℕ → Res A) → columns a (length x) read x ≡ columns a (length s) read s
  unfolding columns
  rest_read read = rw (to_end a (length x) x refl, to_end a (length s) s refl, c.on)

-- ---- the letter, the time, and all from column 7 on

-- x has the time, written so that it is not odd, and is the line s behind it; it is ASCII where s is
record Timed (s x : List ℕ) (time : Time) : Type 0 where
  reads : ok time ≡ columns 1 7 read_time_of x
  plain : timed_odd x ≡ false
  copied : Copied 7 s x
  whole : is_ascii_of s ≡ true → is_ascii_of x ≡ true
  ten : is_ascii_of (cut 0 10 s) ≡ true → is_ascii_of (cut 0 10 x) ≡ true

abbrev timed_line : ℕ → Time → List ℕ → List ℕ
timed_line b time s = (b ∷ []) ++ (time_text time ++ drop 7 s)

timed : (s : List ℕ) (b : ℕ) {time : Time} → 7 ≤ length s → b ≤ 127 →
    Piece read_time_of three_plus 6 time (time_text time) → Timed s (timed_line b time s) time
unfolding timed_odd is_ascii_of cut
timed s b {time} l letter p =
    let x : List ℕ = timed_line b time s in
    let at-time : At x 1 (time_text time) (drop 7 s) = record { is = refl } in
    let copied : Copied 7 s x = record {
      long = simp (length-append, length-drop) (omega (arith, p.long));
      on = behind p.long at-time;
    } in
    record {
      reads = piece_read p at-time;
      plain = piece_plain p at-time;
      copied = copied;
      whole = λ a. and (yes≤ letter) (ascii_append (time_text time) _ p.ascii (ascii_rest 7 s a));
      ten = λ a.
          let three : is_ascii_of (cut 7 10 s) ≡ true =
          rw (← cut_cut 0 10 7 10 s (omega arith)) (cut_ascii 7 10 (cut 0 10 s) a) in
          and (yes≤ letter) (piece_ascii p at-time 10 (omega arith) (ap is_ascii_of (cut_same copied 0 3) ∙ three));
    }

-- ---- the lines

pub e_kept : (s : List ℕ) → Finds (read_e s) (λ r. Kept read_e timed_odd 69 Record.E s r r (e_text r s))
unfolding read_e ascii_in e_text e_body texts_of bytes_in bytes_of
e_kept s =
    finds_guard _ (λ long. let l : 10 ≤ length s = is≤ long in
    finds_guard _ (λ _. finds_guard _ (λ a.
    finds_bind (finds_columns _ s 1 7 (time_piece _)) (λ time p.
    let t = timed s 69 (omega arith) (omega arith) p in
    let c : Copied 10 s (timed_line 69 time s) = copied_on t.copied 3 in
    finds_ok (record {
      text = timed_line 69 time s;
      prints = on _ (part_text_lem 7 s 3 l) (on _ (name_text_lem 10 s l) (rw (cut_joined 7 3 s)));
      reads = sym (pass _ (yes≤ (omega (arith, c.long))) (pass _ (yes= refl) (pass _ (t.ten a)
          (on _ t.reads (rw (name_same c))))));
      plain = t.plain;
      first = refl;
      same = rw (t.copied.on, name_bytes c);
    })))))

pub f_kept : (s : List ℕ) → Finds (read_f s) (λ r. Kept read_f timed_odd 70 Record.F s r r (f_text r s))
unfolding read_f ascii ascii_in read_heard f_text f_body texts_of bytes_in
f_kept s =
    finds_guard _ (λ long. let l : 7 ≤ length s = is≤ long in
    finds_guard _ (λ pairs. finds_guard _ (λ a.
    finds_bind (finds_columns _ s 1 7 (time_piece _)) (λ time p.
    finds_bind finds_itself (λ heard e.
    let t = timed s 70 l (omega arith) p in
    let c = t.copied in
    finds_ok (record {
      text = timed_line 70 time s;
      prints = on _ (rest_text 7 s l) refl;
      reads = sym (pass _ (yes≤ (omega (arith, c.long))) (pass _ (ap in_pairs c.on ∙ pairs) (pass _ (t.whole a)
          (on _ t.reads (on _ (sym (rest_read c read_satellites ∙ e)) (rw (rest_same c)))))));
      plain = t.plain;
      first = refl;
      same = rw (rest_bytes c);
    }))))))

pub k_kept : (s : List ℕ) → Finds (read_k s) (λ r. Kept read_k timed_odd 75 Record.K s r r (k_text r s))
unfolding read_k ascii ascii_in read_timed k_text k_body texts_of bytes_in
k_kept s =
    finds_guard _ (λ long. let l : 7 ≤ length s = is≤ long in
    finds_guard _ (λ _. finds_guard _ (λ a.
    finds_bind (finds_columns _ s 1 7 (time_piece _)) (λ time p.
    let t = timed s 75 l (omega arith) p in
    let c = t.copied in
    finds_ok (record {
      text = timed_line 75 time s;
      prints = on _ (rest_text 7 s l) refl;
      reads = sym (pass _ (yes≤ (omega (arith, c.long))) (pass _ (yes= refl) (pass _ (t.whole a)
          (on _ t.reads (rw (rest_same c))))));
      plain = t.plain;
      first = refl;
      same = rw (rest_bytes c);
    })))))

-- I and J lines settle: what their definitions print as is read as the same definitions.
use Rattle.text.specs.Prelude.{ℕ, zero, suc, ◌+◌, ◌-◌, ◌*◌, ◌/◌, ◌≤◌, ◌≡◌, true, List, [], ◌∷◌, ◌++◌, length, drop}
use Rattle.text.specs.Prelude.{Res, ok, ◌≤?◌, byte, cut, read_nat_of, plus, padded}
use Rattle.text.proofs.Prelude.{arith, refl, sym, ap, ◌∙◌, length-append, length-drop, on, pass, yes≤, yes=}
use Rattle.text.proofs.Prelude.{is≤, is=, both, and}
use Rattle.text.proofs.Finds.{Finds, finds_map, finds_ok, finds_bind, finds_guard}
use Rattle.field.specs.Field.{is_ascii_of, ascii_in, ascii, mnemonic_text}
use Rattle.field.specs.declared.Mnemonic.{Mnemonic}
use Rattle.field.proofs.Ascii.{cut_ascii}
use Rattle.extension.specs.Extension.{read_definition, read_extension, extension_text}
use Rattle.extension.specs.declared.Extension.{Extension}
use Rattle.table.specs.Table.{table_of, read_defs, read_body, is_table_of, read_table, defs_text, table_text}
use Rattle.records.specs.declared.Record.{Record}
use Rattle.promises.specs.Odd.{definition_plus, defs_plus, table_odd}
use Rattle.promises.specs.Settle.{texts_of, bytes_in}
use Rattle.promises.proofs.Columns.{joined_byte, finds_columns, finds_rest}
use Rattle.promises.proofs.Copies.{neither_odd}
use Rattle.promises.proofs.Tables.{name_joined, defs_copy, table_text_lem, count_most}
use Rattle.promises.proofs.Settling.{Kept, ascii_append, ascii_rest, At, at_start, behind, last, next, byte_at}
use Rattle.promises.proofs.Settling.{Piece, piece_read, piece_plain, nat_in}

-- ---- a definition

module _ {start end : ℕ} (p : Piece (read_nat_of 255) plus 2 start (padded 2 start))
    (q : Piece (read_nat_of 255) plus 2 end (padded 2 end)) (m : Mnemonic) where
  abbrev x : List ℕ
  x = padded 2 start ++ (padded 2 end ++ mnemonic_text m)

  definition_made : start ≤ end → is_ascii_of (mnemonic_text m) ≡ true →
      Piece read_extension definition_plus 7 (record { start_byte = start; end_byte = end; mnemonic = m }) x
  unfolding read_extension read_definition definition_plus mnemonic_text
  definition_made le asc =
      let at_start : At x 0 (padded 2 start) (padded 2 end ++ mnemonic_text m) = at_start _ _ in
      let at_end : At x 2 (padded 2 end) (mnemonic_text m) = next p.long at_start in
      let first : At x 4 (m.0 ∷ []) ((m.1 ∷ []) ++ (m.2 ∷ [])) = next q.long at_end in
      let second : At x 5 (m.1 ∷ []) (m.2 ∷ []) = next refl first in
      let third : At x 6 (m.2 ∷ []) [] = last refl second in
      let long : length x ≡ 7 = simp length-append (omega (arith, p.long, q.long)) in
      record {
        long = long;
        reads = sym (pass _ (yes= long) (on _ (piece_read p at_start) (on _ (piece_read q at_end) (pass _ (yes≤ le)
            (rw (byte_at first, byte_at second, byte_at third))))));
        plain = neither_odd (piece_plain p at_start) (piece_plain q at_end);
        ascii = ascii_append (padded 2 start) _ p.ascii (ascii_append (padded 2 end) _ q.ascii asc);
      }

pub definition_piece : (s : List ℕ) → is_ascii_of s ≡ true →
    Finds (read_extension s) (λ e. Piece read_extension definition_plus 7 e (extension_text e))
unfolding read_extension read_definition extension_text
definition_piece s h =
    finds_guard _ (λ long. let l : length s ≡ 7 = is= long in
    finds_bind (nat_in 0 2 255 s (omega arith)) (λ start p.
    finds_bind (nat_in 2 2 255 s (omega arith)) (λ end q.
    finds_guard _ (λ le. finds_ok (definition_made p q _ (is≤ le) (ap is_ascii_of (name_joined s l) ∙ ascii_rest 4 s h))))))

-- k of them in turn
module _ (k : ℕ) {e : Extension} {es : List Extension} (p : Piece read_extension definition_plus 7 e (extension_text e))
    (q : Piece (read_defs k) (defs_plus k) (7 * k) es (defs_text es)) where
  defs_made : Piece (read_defs (suc k)) (defs_plus (suc k)) (7 * suc k) (e ∷ es) (defs_text (e ∷ es))
  unfolding read_defs defs_plus defs_text
  defs_made =
      let x : List ℕ = extension_text e ++ defs_text es in
      let one : At x 0 (extension_text e) (defs_text es) = at_start _ _ in
      let others : At x 7 (defs_text es) [] = last p.long one in
      let long : length x ≡ 7 + 7 * k = simp length-append (omega (arith, p.long, q.long)) in
      record {
        long = omega arith;
        reads = sym (on _ (piece_read p one) (on _ (rw (← long) at (piece_read q others)) refl));
        plain = neither_odd (piece_plain p one) (ap (defs_plus k) (behind p.long one) ∙ q.plain);
        ascii = ascii_append (extension_text e) _ p.ascii q.ascii;
      }

defs_piece : (k : ℕ) (s : List ℕ) → is_ascii_of s ≡ true →
    Finds (read_defs k s) (λ es. Piece (read_defs k) (defs_plus k) (7 * k) es (defs_text es))
unfolding read_defs defs_plus defs_text is_ascii_of
defs_piece zero s h = finds_ok (record { long = refl; reads = refl; plain = refl; ascii = refl })
defs_piece (suc k) s h =
    finds_bind (finds_columns _ s 0 7 (definition_piece (cut 0 7 s) (cut_ascii 0 7 s h))) (λ e p.
    finds_bind (finds_rest _ s 7 (defs_piece k (drop 7 s) (ascii_rest 7 s h))) (λ es q.
    finds_ok (defs_made k p q)))

-- ---- the line

module _ (s : List ℕ) (b n : ℕ) (ds : List Extension) (w : Record) where
  abbrev line : List ℕ
  line = (b ∷ []) ++ (padded 2 n ++ defs_text ds)

  table_made : Piece (read_nat_of 255) plus 2 n (padded 2 n) → Piece (read_defs n) (defs_plus n) (7 * n) ds (defs_text ds)
      → is_table_of b ≡ true → (b ≤? 127) ≡ true → ok line ≡ table_text b (table_of ds) → texts_of w ≡ [] →
      Kept read_table table_odd b (λ _. w) s ds ds (table_text b (table_of ds))
  unfolding read_table read_body ascii ascii_in table_odd is_ascii_of bytes_in
  table_made p q kind letter e none =
      let count : At line 1 (padded 2 n) (defs_text ds) = record { is = refl } in
      let defs : At line 3 (defs_text ds) [] = last p.long count in
      let long : length line ≡ 3 + 7 * n = simp length-append (omega (arith, p.long, q.long)) in
      let k : (length line - 3) / 7 ≡ n = omega arith in
      let whole : is_ascii_of line ≡ true = and letter (ascii_append (padded 2 n) _ p.ascii q.ascii) in
      record {
        text = line;
        prints = e;
        reads = sym (pass _ (yes≤ (omega arith)) (pass _ kind (pass _ whole (on _ (piece_read p count)
            (pass _ (yes= long) (rw (← long) at (piece_read q defs)))))));
        plain = neither_odd (piece_plain p count) (rw (k, behind p.long count) q.plain);
        first = refl;
        same = rw none;
      }

-- what is found has two properties
finds_both : {A : Type 0} {m : Res A} {P Q : A → Type 0} → Finds m P → Finds m Q → Finds m (λ v. P v × Q v)
finds_both f g = record { found = λ v e. (f.found v e, g.found v e) }

-- the record of an I or a J line has no texts
pub table_kept : (s : List ℕ) (b : ℕ) (w : Record) → byte 0 s ≡ b → texts_of w ≡ [] →
    Finds (read_table s) (λ ds. Kept read_table table_odd b (λ _. w) s ds ds (table_text b (table_of ds)))
unfolding read_table ascii ascii_in read_body is_ascii_of
table_kept s b w h none =
    finds_guard _ (λ long. let l : 3 ≤ length s = is≤ long in
    finds_guard _ (λ kind. finds_guard _ (λ whole.
    let letter : (byte 0 s ≤? 127) ≡ true = (both (ap is_ascii_of (joined_byte 0 s (omega arith)) ∙ whole)).0 in
    finds_bind (finds_both (nat_in 1 2 255 s l) (count_most s l)) (λ n c.
    finds_guard _ (λ exact. let e : length s ≡ 3 + 7 * n = is= exact in
    finds_rest _ s 3 (finds_map (finds_both (defs_piece n (drop 3 s) (ascii_rest 3 s whole))
    (defs_copy n (drop 3 s) (omega (arith, length-drop 3 s)))) (λ ds d.
    let k : length ds ≡ n = d.1.1 in
    table_made s b n ds w c.0 d.0 (rw h at kind) (rw h at letter)
    (rw k at (table_text_lem b ds (omega (arith, c.1.1)))) none)))))))

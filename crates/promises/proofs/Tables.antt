-- I and J lines come back.
use Rattle.text.specs.Prelude.{ℕ, zero, suc, ◌+◌, ◌-◌, ◌*◌, ◌/◌, ◌≤◌, ◌≡◌, List, [], ◌∷◌, ◌++◌, length, drop, replicate}
use Rattle.text.specs.Prelude.{ok, byte, cut, columns, read_nat_of, plus, padded}
use Rattle.text.proofs.Prelude.{arith, refl, sym, ap, length-drop, take_at, pass, yes≤, is≤, is=}
use Rattle.text.proofs.Finds.{Finds, finds_map, finds_ok, finds_bind, finds_guard}
use Rattle.field.specs.Field.{ascii_in, ascii, mnemonic_text}
use Rattle.text.proofs.Lines.{cut_length}
use Rattle.extension.specs.Extension.{read_definition, read_extension, extension_text}
use Rattle.table.specs.Table.{empty, table_of, read_defs, read_body, read_table, defs_of, defs_text, table_body, table_text}
use Rattle.extension.specs.declared.Extension.{Extension}
use Rattle.table.proofs.Counts.{two_characters}
use Rattle.promises.specs.Odd.{definition_plus, defs_plus, table_odd}
use Rattle.promises.proofs.Columns.{joined_byte, last_byte, finds_columns, finds_rest}
use Rattle.promises.proofs.Copies.{Copy, copy_itself, copy_columns, copy_rest, copy_letter}
use Rattle.promises.proofs.Parts.{Again, printed_again}
use Rattle.promises.proofs.Numbers.{nat_copy}

-- ---- definitions

-- its name is all from column 4 on
pub name_joined : (s : List ℕ) → length s ≡ 7 →
    mnemonic_text (record { 0 = byte 4 s; 1 = byte 5 s; 2 = byte 6 s }) ≡ drop 4 s
unfolding mnemonic_text
name_joined s l = rw (last_byte 6 s l, joined_byte 5 s (omega arith)) (joined_byte 4 s (omega arith))

definition_copy : (s : List ℕ) → Finds (read_extension s) (λ e. Copy (definition_plus s) s (extension_text e))
unfolding read_extension read_definition definition_plus extension_text
definition_copy s =
    finds_guard _ (λ long. let l : length s ≡ 7 = is= long in
    finds_bind (nat_copy 0 2 255 s (omega arith)) (λ start cs.
    finds_bind (nat_copy 2 2 255 s (omega arith)) (λ end ce.
    finds_guard _ (λ _. finds_ok (copy_columns s 0 2 cs (rw (← name_joined s l) at (copy_rest s 2 2 ce)))))))

-- k of them in turn
pub defs_copy : (k : ℕ) (s : List ℕ) → length s ≡ 7 * k →
    Finds (read_defs k s) (λ es. Copy (defs_plus k s) s (defs_text es) × (length es ≡ k))
unfolding read_defs defs_plus defs_text
defs_copy zero [] l = finds_ok (copy_itself [], refl)
defs_copy zero (b ∷ s) l = absurd (omega arith)
defs_copy (suc k) s l =
    finds_bind (finds_columns _ s 0 7 (definition_copy (cut 0 7 s))) (λ e ce.
    finds_bind (finds_rest _ s 7 (defs_copy k (drop 7 s) (omega (arith, length-drop 7 s)))) (λ es ces.
    finds_ok (copy_columns s 0 7 ce ces.0, ap suc ces.1)))

-- ---- the table

pub table_text_lem : (b : ℕ) (ds : List Extension) → length ds ≤ 99 →
    ok ((b ∷ []) ++ (padded 2 (length ds) ++ defs_text ds)) ≡ table_text b (table_of ds)
unfolding table_text table_body table_of defs_of
table_text_lem b ds h = pass _ (yes≤ h) (rw (take_at ds (replicate (99 - length ds) empty) (length ds) refl))

pub count_most : (s : List ℕ) → 3 ≤ length s →
    Finds (columns 1 3 (read_nat_of 255) s) (λ n. Copy (plus (cut 1 3 s)) (cut 1 3 s) (padded 2 n) × (n ≤ 99))
count_most s l =
    let few : Finds (read_nat_of 255 (cut 1 3 s)) (λ n. n ≤ 99) = record {
      found = λ n e. two_characters 255 (cut 1 3 s) (omega (arith, cut_length 1 2 s l)) (sym e);
    } in
    record { found = λ n e. ((nat_copy 1 2 255 s l).found n e, (finds_columns _ s 1 3 few).found n e) }

pub table_again : (s : List ℕ) (b : ℕ) → byte 0 s ≡ b →
    Finds (read_table s) (λ ds. Again (table_odd s) s (table_text b (table_of ds)))
unfolding read_table ascii ascii_in read_body table_odd
table_again s b h =
    finds_guard _ (λ long. let l : 3 ≤ length s = is≤ long in
    finds_guard _ (λ _. finds_guard _ (λ _.
    finds_bind (count_most s l) (λ n c.
    finds_guard _ (λ exact. let x : length s ≡ 3 + 7 * n = is= exact in
    let k : (length s - 3) / 7 ≡ n = omega arith in
    finds_rest _ s 3 (finds_map (defs_copy n (drop 3 s) (omega (arith, length-drop 3 s))) (λ ds d.
    rw k (printed_again (table_text_lem b ds (omega (arith, d.1, c.1)))
    (copy_letter s 0 b (omega arith) (sym h) (copy_columns s 1 2 (rw (← d.1) at c.0) d.0))))))))))

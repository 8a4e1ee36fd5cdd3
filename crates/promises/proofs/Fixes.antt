-- B lines come back.
use Rattle.text.specs.Prelude.{ℕ, ◌≤◌, ◌≡◌, List, ◌++◌, length, drop, ◌∨?◌, byte, cut, signed}
use Rattle.text.proofs.Prelude.{arith, refl, sym, on, is≤, is=}
use Rattle.text.proofs.Finds.{Finds, finds_ok, finds_no, finds_bind, finds_guard, finds_pick}
use Rattle.field.specs.Field.{ascii_in, ascii}
use Rattle.b_record.specs.BRecord.{valid_letter, valid_of, read_heights_of, read_fix, read_b, tail_text, b_body, b_text}
use Rattle.promises.specs.Odd.{signed_odd, fix_odd}
use Rattle.promises.proofs.Columns.{finds_columns}
use Rattle.promises.proofs.Copies.{Copy, copy_columns, copy_rest, copy_letter}
use Rattle.promises.proofs.Parts.{rest_text, Again, printed_again}
use Rattle.promises.proofs.Numbers.{int_copy}
use Rattle.promises.proofs.Times.{time_copy}
use Rattle.promises.proofs.Coords.{position_copy}

pub fix_same : (l : ℕ) → Finds (valid_of l) (λ f. valid_letter f ≡ l)
unfolding valid_of
fix_same l = finds_pick (λ e. finds_ok (sym (is= e))) (λ _. finds_pick (λ e. finds_ok (sym (is= e))) (λ _. finds_no))

heights_copy : (s : List ℕ) → 35 ≤ length s
    → Finds (read_heights_of s) (λ h. Copy (signed_odd (cut 25 30 s) ∨? signed_odd (cut 30 35 s)) (drop 25 s)
    (signed 5 h.pressure.0 ++ (signed 5 h.gps.0 ++ drop 35 s)))
unfolding read_heights_of
heights_copy s l =
    finds_bind (int_copy 25 5 32767 s (omega arith)) (λ p cp.
    finds_bind (int_copy 30 5 32767 s (omega arith)) (λ g cg.
    finds_ok (copy_columns s 25 5 cp (copy_rest s 30 5 cg))))

pub b_again : (s : List ℕ) → byte 0 s ≡ 66 → Finds (read_b s) (λ r. Again (fix_odd s) s (b_text r s))
unfolding read_b ascii ascii_in read_fix fix_odd b_text b_body tail_text
b_again s b =
    finds_guard _ (λ long. let l : 35 ≤ length s = is≤ long in
    finds_guard _ (λ _.
    finds_bind (finds_columns _ s 1 7 (time_copy (cut 1 7 s))) (λ time ct.
    finds_bind (finds_columns _ s 7 24 (position_copy (cut 7 24 s))) (λ pos cp.
    finds_bind (fix_same (byte 24 s)) (λ fix ef.
    finds_bind (heights_copy s l) (λ h ch.
    finds_ok (printed_again (on _ (rest_text 35 s l) refl)
    (copy_letter s 0 66 (omega arith) (sym b)
    (copy_columns s 1 6 ct
    (copy_columns s 7 17 cp (copy_letter s 24 (valid_letter fix) (omega arith) ef ch)))))))))))

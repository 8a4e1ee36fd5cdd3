-- D, G and L lines always come back.
use Rattle.text.specs.Prelude.{ℕ, ◌≤◌, ◌<◌, ◌≡◌, false, List, [], ◌∷◌, ◌++◌, length, drop, ok, byte, begins}
use Rattle.text.proofs.Prelude.{arith, sym, ap, on, is≤, is=, both}
use Rattle.text.proofs.Finds.{Finds, finds_ok, finds_no, finds_bind, finds_guard, finds_pick}
use Rattle.field.specs.Field.{ascii_in, ascii}
use Rattle.d_record.specs.DRecord.{qualifier_letter, qualifier_of, read_station, read_d, d_body, d_text}
use Rattle.g_record.specs.GRecord.{read_g, g_body, g_text}
use Rattle.l_record.specs.LRecord.{read_l, l_body, l_text}
use Rattle.promises.proofs.Columns.{cut_joined, joined_byte, to_end}
use Rattle.promises.proofs.Parts.{part_text_lem, rest_text, name_text_lem, Again, printed_always}

-- the letter in front of all behind it
letter_joined : (s : List ℕ) (b : ℕ) → 0 < length s → byte 0 s ≡ b → (b ∷ []) ++ drop 1 s ≡ s
letter_joined s b l e = rw (← e) (joined_byte 0 s l)

-- a qualifier is read from its own byte
qualifier_back : (b : ℕ) → Finds (qualifier_of b) (λ q. qualifier_letter q ≡ b)
unfolding qualifier_of qualifier_letter
qualifier_back b =
    finds_pick (λ e. finds_ok (sym (is= e)))
    (λ _. finds_pick (λ e. finds_ok (sym (is= e))) (λ _. finds_no))

pub d_again : (s : List ℕ) → byte 0 s ≡ 68 → Finds (read_d s) (λ r. Again false s (d_text r s))
unfolding read_d ascii ascii_in read_station d_text d_body
d_again s b =
    finds_guard _ (λ six. let l : length s ≡ 6 = is= six in
    finds_guard _ (λ _. finds_guard _ (λ _.
    finds_bind (qualifier_back (byte 1 s)) (λ q e.
    finds_ok (printed_always (on _ (part_text_lem 2 s 4 (omega arith))
    (rw (e, to_end 2 6 s l, joined_byte 1 s (omega arith)) (ap ok (sym (letter_joined s 68 (omega arith) b))))))))))

pub g_again : (s : List ℕ) → byte 0 s ≡ 71 → Finds (read_g s) (λ r. Again false s (g_text r s))
unfolding read_g begins g_text g_body
g_again s b =
    finds_guard _ (λ first. let l : 1 ≤ length s = is≤ (both first).0 in
    finds_ok (printed_always (on _ (rest_text 1 s l) (ap ok (sym (letter_joined s 71 l b))))))

pub l_again : (s : List ℕ) → byte 0 s ≡ 76 → Finds (read_l s) (λ r. Again false s (l_text r s))
unfolding read_l ascii_in l_text l_body
l_again s b =
    finds_guard _ (λ long. let l : 4 ≤ length s = is≤ long in
    finds_guard _ (λ _. finds_guard _ (λ _.
    finds_ok (printed_always (on _ (part_text_lem 1 s 3 l) (on _ (name_text_lem 4 s l)
    (rw (cut_joined 1 3 s) (ap ok (sym (letter_joined s 76 (omega arith) b))))))))))

-- H lines always come back.
use Rattle.text.specs.Prelude.{ℕ, ◌+◌, ◌≤◌, ◌<◌, ◌≡◌, true, false, List, [], ◌∷◌, ◌++◌, length, drop, ok, bind, pick}
use Rattle.text.specs.Prelude.{◌=?◌, byte, cut, None, Res}
use Rattle.text.proofs.Prelude.{arith, refl, sym, ap, ◌∙◌, append_assoc, length-drop, get_or-drop, on, first, yes≤, is≤}
use Rattle.text.proofs.Prelude.{is=, both, by_test}
use native.Mathlib.Nat.{add-sub_cancel_left}
use borrow.Author.Tests.{eqb-false}
use Rattle.part.specs.Part.{bytes_of, find_maybe, text_of, part_text, maybe_text}
use Rattle.text.proofs.Finds.{Finds, finds_ok, finds_guard}
use Rattle.field.specs.Field.{is_ascii_of, ascii_in}
use Rattle.h_record.specs.HRecord.{source_byte, source_of, colon_in, named, read_h, char_text, name_text, data_text, h_body}
use Rattle.h_record.specs.HRecord.{h_text}
use Rattle.h_record.proofs.Colons.{colon_inside}
use Rattle.promises.proofs.Columns.{cut_joined, joined_byte}
use Rattle.promises.proofs.Parts.{part_text_lem, rest_text, Again, printed_always}

-- ---- the source

source_same : (b : ℕ) → source_byte (source_of b) ≡ b
unfolding source_byte source_of pick
source_same b =
    by_test (b =? 70) (λ e. rw e (sym (is= e))) (λ f.
    by_test (b =? 79) (λ e. rw (f, e) (sym (is= e))) (λ o.
    by_test (b =? 80) (λ e. rw (f, o, e) (sym (is= e))) (λ p. rw (f, o, p))))

second_ascii : (s : List ℕ) → is_ascii_of (cut 0 5 s) ≡ true → byte 1 s ≤ 127
unfolding is_ascii_of cut
second_ascii [] h = omega arith
second_ascii (a ∷ []) h = omega arith
second_ascii (a ∷ b ∷ s) h = is≤ (both (both h).1).0

missing_text : (s : List ℕ) → ok [] ≡ maybe_text None s
unfolding maybe_text find_maybe text_of bytes_of bind
missing_text s = refl

-- ---- the first colon

colon_at : (s : List ℕ) → colon_in s < length s → byte (colon_in s) s ≡ 58
unfolding colon_in pick
colon_at [] h = absurd (omega arith)
colon_at (b ∷ s) h = by_test (b =? 58) (λ e. rw e (is= e)) (λ e. let k = rw e at h in rw e (colon_at s (omega arith)))

module _ (s : List ℕ) (b : byte 0 s ≡ 72) (l : 6 ≤ length s) (ascii : is_ascii_of (cut 0 5 s) ≡ true) where
  source_text : char_text (source_byte (source_of (byte 1 s))) ≡ byte 1 s ∷ []
  unfolding char_text
  source_text = rw source_same (sym (first _ (yes≤ (second_ascii s ascii)) refl))

  -- the letter, source and mnemonic, and what stands behind them
  header_head : (u : List ℕ) → u ≡ drop 5 s →
      ◌≡◌ {A = Res (List ℕ)} (ok s)
      (ok ((72 ∷ []) ++ (char_text (source_byte (source_of (byte 1 s))) ++ (cut 2 5 s ++ u))))
  header_head u e = rw (e, source_text, cut_joined 2 3 s, joined_byte 1 s (omega arith), ← b)
      (ap ok (sym (joined_byte 0 s (omega arith))))

  -- a colon n bytes behind column 5 parts name and data; there is none where that is the line's end
  named_same : (n : ℕ) → 5 + n ≤ length s → (5 + n < length s → 58 ≡ byte (5 + n) s) → ok s ≡ h_text (named s (5 + n)) s
  unfolding named h_text h_body data_text name_text maybe_text find_maybe part_text pick ◌=?◌
  named_same n i colon =
      by_test (5 + n =? length s)
      (λ e. rw e (on _ (part_text_lem 2 s 3 (omega arith))
      (on _ (missing_text s) (on _ (rest_text 5 s (omega arith)) (header_head (drop 5 s) refl)))))
      (λ e.
      let h : 5 + n < length s = omega (arith, eqb-false) in
      let tail : (cut 5 (5 + n) s ++ (58 ∷ [])) ++ drop (5 + n + 1) s ≡ drop 5 s =
      rw (append_assoc, colon h, joined_byte (5 + n) s h) (cut_joined 5 n s) in
      rw (e, add-sub_cancel_left 5 n)
      (on _ (part_text_lem 2 s 3 (omega arith))
      (on _ (part_text_lem 5 s n i) (on _ (rest_text (5 + n + 1) s (omega arith)) (header_head _ tail)))))

pub h_again : (s : List ℕ) → byte 0 s ≡ 72 → Finds (read_h s) (λ r. Again false s (h_text r s))
unfolding read_h ascii_in
h_again s b =
    finds_guard _ (λ long. let l : 6 ≤ length s = is≤ long in
    finds_guard _ (λ _. finds_guard _ (λ ascii.
    let n = colon_in (drop 5 s) in
    finds_ok (printed_always (named_same s b l ascii n (colon_inside 5 s (omega arith))
    (λ h. sym (colon_at (drop 5 s) (omega (arith, length-drop 5 s))) ∙ get_or-drop 5 s n 0))))))

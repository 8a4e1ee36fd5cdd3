-- A lines come back where they have a triple.
use Rattle.field.specs.declared.Mnemonic.{Mnemonic}
use Rattle.text.specs.Prelude.{ℕ, ◌+◌, ◌≤◌, ◌≡◌, true, List, [], ◌∷◌, ◌++◌, length, drop, ok, byte, None, Option, Some}
use Rattle.text.proofs.Prelude.{arith, ap, length-drop, length-append, on, is≤, both, never}
use Rattle.text.proofs.Finds.{Finds, finds_ok, finds_guard, finds_pick}
use Rattle.field.specs.Field.{ascii_in, mnemonic_text}
use Rattle.manufacturer.specs.Maker.{letter_maker, triple_maker, triple_of}
use Rattle.manufacturer.specs.declared.Manufacturer.{Manufacturer}
use Rattle.manufacturer.proofs.Codes.{triple_read}
use Rattle.a_record.specs.ARecord.{a_new, a_of, triple, letter_form, long_form, read_triple, read_a, triple_text, a_body, a_text}
use Rattle.promises.proofs.Columns.{cut_joined, joined_byte}
use Rattle.promises.proofs.Parts.{part_text_lem, name_text_lem, Again, printed_always}

module _ (s : List ℕ) (a : byte 0 s ≡ 65) where
  -- the maker's triple, and all from column i on
  pub maker_made : (maker : Manufacturer) (i w : ℕ) → i + w ≤ length s
      → ok ((65 ∷ []) ++ (triple_text (triple_of maker) ++ drop i s)) ≡ a_text (a_of s maker i w) s
  unfolding a_text a_of a_new a_body
  maker_made maker i w l = on _ (part_text_lem i s w l) (on _ (name_text_lem (i + w) s l) (rw (cut_joined i w s)))

  triple_same : (w : ℕ) → 4 + w ≤ length s → ok s ≡ a_text (a_of s (triple_maker (triple s)) 4 w) s
  unfolding triple_text mnemonic_text
  triple_same w l =
      let whole : (65 ∷ []) ++ (triple_text (triple_of (triple_maker (triple s))) ++ drop 4 s) ≡ s =
      rw (
        triple_read (triple s),
        joined_byte 3 s (omega arith),
        joined_byte 2 s (omega arith),
        joined_byte 1 s
            (omega arith),
        ← a,
      ) (joined_byte 0 s (omega arith)) in
      rw whole at (maker_made (triple_maker (triple s)) 4 w l)

  -- no maker prints one byte, so the letter form never comes back
  one_byte : (x : Option Mnemonic) → length (triple_text x) ≡ 1 → ⊥
  unfolding triple_text mnemonic_text
  one_byte None h = omega arith
  one_byte (Some t) h = omega arith

  letter_again : 7 ≤ length s → letter_form s ≡ true → Again (letter_form s) s
      (a_text (a_of s (letter_maker (byte 1 s)) 2 5) s)
  letter_again l e =
      let x = triple_of (letter_maker (byte 1 s)) in
      record {
        text = (65 ∷ []) ++ (triple_text x ++ drop 2 s);
        prints = maker_made (letter_maker (byte 1 s)) 2 5 l;
        same = λ f. never e f;
        only = λ q. absurd
            (one_byte x (omega (arith, length-append (triple_text x) (drop 2 s), length-drop 2 s, ap length q)));
      }

  pub a_again : Finds (read_a s) (λ r. Again (letter_form s) s (a_text r s))
  unfolding read_a read_triple long_form ascii_in
  a_again =
      finds_guard _ (λ long. let l : 7 ≤ length s = is≤ long in
      finds_guard _ (λ _. finds_pick
      (λ e. finds_guard _ (λ _. finds_ok (letter_again l e)))
      (λ e. finds_pick
      (λ k. finds_guard _ (λ _. finds_ok (rw e (printed_always (triple_same 5 (is≤ (both k).0))))))
      (λ _. finds_guard _ (λ _. finds_ok (rw e (printed_always (triple_same 3 l))))))))

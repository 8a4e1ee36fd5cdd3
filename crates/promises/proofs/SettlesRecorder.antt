-- A lines in letter form with a known maker settle: the maker's three letters stand in the place of the one.
use Rattle.text.specs.Prelude.{ℕ, ◌+◌, ◌-◌, ◌≤◌, ◌≡◌, Bool, true, false, not, List, [], ◌∷◌, length, drop, ok, pick}
use Rattle.text.specs.Prelude.{◌≤?◌, ◌∧?◌, byte, cut, is_digit_of, all_digits_of, None, Option, Some}
use Rattle.text.proofs.Prelude.{arith, refl, sym, ap, ◌∙◌, length-drop, drop-drop, pass, first, second, yes≤, no≤, yes=}
use Rattle.text.proofs.Prelude.{is≤, isnt≤, fails, both, and, by_test, never}
use mathlib.Core.Logic.{◌⊎◌, inl, inr}
use borrow.Author.Tests.{not-true}
use Rattle.text.proofs.Finds.{Finds, finds_ok, finds_guard, finds_pick}
use Rattle.part.specs.Part.{bytes_of, rest_from, name_from}
use Rattle.field.specs.Field.{is_ascii_of, ascii_in, mnemonic_text}
use Rattle.field.specs.declared.Mnemonic.{Mnemonic}
use Rattle.manufacturer.specs.Maker.{letter_of_lem, triple_of, known, first_of, letter_maker, triple_maker}
use Rattle.manufacturer.specs.declared.Manufacturer.{Manufacturer}
use Rattle.manufacturer.proofs.Codes.{letter_read, read_triple_lem}
use Rattle.a_record.specs.ARecord.{a_new, a_of, letter_form, long_form, read_triple, read_a, triple_text, a_text}
use Rattle.a_record.specs.declared.ARecord.{ARecord}
use Rattle.records.specs.declared.Record.{Record}
use Rattle.promises.specs.Settle.{prints_none, unknown_maker, moved, moved_maybe, recorder_again, maybe_one, texts_of}
use Rattle.promises.specs.Settle.{bytes_in}
use Rattle.promises.proofs.Recorders.{maker_made}
use Rattle.promises.proofs.Settling.{Kept}

-- ---- makers

-- a triple is ASCII, and no digit stands in its second place
lettered : Option Mnemonic → Bool
lettered None = true
lettered (Some t) = is_ascii_of (mnemonic_text t) ∧? not (is_digit_of t.1)

-- a test that all makers of a list pass
every : (Manufacturer → Bool) → List Manufacturer → Bool
every p [] = true
every p (m ∷ ms) = p m ∧? every p ms

first_passes : (p test : Manufacturer → Bool) (other : Manufacturer) → p other ≡ true → (ms : List Manufacturer) →
    every p ms ≡ true → p (first_of test other ms) ≡ true
unfolding every first_of pick
first_passes p test other o [] h = o
first_passes p test other o (m ∷ ms) h = let k = both h in
    by_test (test m) (λ e. rw e k.0) (λ e. rw e (first_passes p test other o ms k.1))

-- the maker that a letter is read as has a triple of letters
letters_only : (l : ℕ) → lettered (triple_of (letter_maker l)) ≡ true
unfolding letter_maker lettered every triple_of is_ascii_of mnemonic_text is_digit_of ◌≤?◌ ◌∧?◌ pick
letters_only l = first_passes (λ m. lettered (triple_of m)) _ (Manufacturer.UnknownSingle l) refl known refl

-- and that triple is read as the same maker
made_again : (l : ℕ) (t : Mnemonic) → triple_of (letter_maker l) ≡ Some t → triple_maker t ≡ letter_maker l
unfolding letter_of_lem
made_again l t e = by (read_triple_lem (letter_maker l) e)
  where
    by : (triple_maker t ≡ letter_maker l) ⊎ (letter_maker l ≡ Manufacturer.UnknownTriple t) →
        triple_maker t ≡ letter_maker l
    by (inl h) = h
    by (inr h) =
        let n : None ≡ Some l = sym (ap letter_of_lem h) ∙ letter_read l in
        let z : ◌≡◌ {A = ℕ} 0 1 = cc in absurd (omega arith)

-- ---- the line

module _ (s : List ℕ) (t : Mnemonic) (l : 7 ≤ length s) (form : letter_form s ≡ true)
    (e : triple_of (letter_maker (byte 1 s)) ≡ Some t) where
  abbrev x : List ℕ
  x = 65 ∷ t.0 ∷ t.1 ∷ t.2 ∷ drop 2 s

  abbrev r : ARecord
  r = a_of s (letter_maker (byte 1 s)) 2 5

  letters : (is_ascii_of (mnemonic_text t) ≡ true) × (not (is_digit_of t.1) ≡ true)
  unfolding lettered
  letters = both (rw e at (letters_only (byte 1 s)))

  -- what stands behind the id stands two columns on
  name_moved : name_from 9 x ≡ moved_maybe 2 (name_from 7 s)
  unfolding name_from moved_maybe rest_from moved pick
  name_moved =
      let w : length x ≡ length s + 2 = omega (arith, length-drop 2 s) in
      let k : length x - 9 ≡ length s - 7 = omega arith in
      by_test (length s ≤? 7)
      (λ h. rw (h, yes≤ {a = length x} {b = 9} (omega (arith, is≤ h))))
      (λ h. rw (h, no≤ {a = length x} {b = 9} (omega (arith, isnt≤ h)), k))

  -- a letter stands where the letter form has a digit
  no_letter_form : letter_form x ≡ false
  unfolding letter_form all_digits_of cut
  no_letter_form = fails _ (not-true _ letters.1)

  reads_again : ok (recorder_again s r) ≡ read_a x
  unfolding recorder_again read_a read_triple long_form letter_form ascii_in a_of a_new cut is_ascii_of mnemonic_text moved pick
  reads_again =
      pass _ (yes≤ (omega (arith, length-drop 2 s)))
      (pass _ (yes= refl)
      (second _ no_letter_form
      (first _ (and (yes≤ (omega (arith, length-drop 2 s))) form)
      (pass _ (and (yes≤ (omega arith)) letters.0) (rw (form, made_again (byte 1 s) t e, name_moved))))))

  letter_texts : bytes_in x (texts_of (Record.A (recorder_again s r))) ≡ bytes_in s (texts_of (Record.A r))
  unfolding bytes_in texts_of maybe_one recorder_again moved_maybe moved name_from rest_from bytes_of a_of a_new pick
  letter_texts = by_test (length s ≤? 7) (λ h. rw (form, h)) (λ h. rw (form, h, drop-drop 5 2 s))

  letter_kept : byte 0 s ≡ 65 → Kept read_a letter_form 65 Record.A s r (recorder_again s r) (a_text r s)
  unfolding triple_text mnemonic_text
  letter_kept a = record {
    text = x;
    prints = rw e at (maker_made s a (letter_maker (byte 1 s)) 2 5 l);
    reads = sym reads_again;
    plain = no_letter_form;
    first = refl;
    same = letter_texts;
  }

-- a maker that prints a triple has one
has_triple : (m : Option Mnemonic) → prints_none m ≡ false → (t : Mnemonic) × (m ≡ Some t)
unfolding prints_none
has_triple None h = never refl h
has_triple (Some t) h = (t, refl)

pub a_kept : (s : List ℕ) → byte 0 s ≡ 65 → unknown_maker s ≡ false → letter_form s ≡ true →
    Finds (read_a s) (λ r. Kept read_a letter_form 65 Record.A s r (recorder_again s r) (a_text r s))
unfolding read_a unknown_maker ◌∧?◌ pick
a_kept s a u form =
    let k = has_triple (triple_of (letter_maker (byte 1 s))) (rw (yes= a, form) at u) in
    finds_guard _ (λ long.
    finds_guard _ (λ _. finds_pick
    (λ _. finds_guard _ (λ _. finds_ok (letter_kept s k.0 (is≤ long) form k.1 a)))
    (λ e. never form e)))

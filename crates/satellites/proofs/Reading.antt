-- Reading the numbers of a list into a set, and what the set then says of the list.
use Rattle.text.specs.Prelude.{ℕ, suc, ◌+◌, ◌-◌, ◌*◌, ◌%◌, ◌≤◌, ◌<◌, ◌≡◌, Bool, true, false, List, [], ◌∷◌, length}
use Rattle.text.specs.Prelude.{drop, byte, ok, no, pick, ◌≤?◌, ◌=?◌, ◌∨?◌, all_digits_of, first_other_of, value_from}
use Rattle.text.proofs.Prelude.{arith, refl, sym, ap, ◌∙◌, drop_of_length-le, drop-cons, on, off, pass, stop, yes=, no=}
use Rattle.text.proofs.Prelude.{is≤, isnt≤, by_test}
use Rattle.text.specs.declared.refusal.Refusal.TheVariants.{Syntax, UnreadableNumber}
use Rattle.text.proofs.Finds.{Finds, finds_ok, finds_bind, finds_guard}
use Rattle.text.proofs.Decimal.{head_digit}
use Rattle.field.proofs.Digits.{one_found}
use Rattle.satellites.specs.Satellites.{occurs, different, in_pairs, numbers, read_numbers, has_number, words_of}
use Rattle.satellites.specs.Satellites.{set_of, with_number, count_of, read_satellites, Counts}
use Rattle.satellites.specs.declared.Satellites.{Satellites}
use Rattle.satellites.proofs.Words.{how_many_same}
use Rattle.satellites.proofs.Sets.{has_words, has_words_past, words_same, words_none}
use Rattle.satellites.proofs.Different.{Below, occurs_past, count_occurs}

-- ---- what is refused, and what is read

pub odd_refused : (s : List ℕ) → (length s % 2 ≡ 0 → ⊥) → no Syntax ≡ read_satellites s
unfolding read_satellites read_numbers in_pairs
odd_refused s odd = off _ (stop _ (no= odd))

module _ (s : List ℕ) (even : length s % 2 ≡ 0) where
  pub other_refused : {place : ℕ} → place ≡ first_other_of s → place < length s →
      no (UnreadableNumber place) ≡ read_satellites s
  unfolding read_satellites read_numbers in_pairs
  other_refused e h = rw e (off _ (pass _ (yes= even) (stop _ (one_found s (omega arith)))))

  pub digits_read : all_digits_of s ≡ true → ok (set_of (numbers s)) ≡ read_satellites s
  unfolding read_satellites read_numbers in_pairs
  digits_read h = on _ (pass _ (yes= even) (pass _ h refl)) refl

-- ---- numbers put into a set one by one

-- the set s with each of them besides
unfoldable pub adding : Satellites → List ℕ → Satellites
adding s [] = s
adding s (n ∷ ns) = adding (with_number n s) ns

or_moved : (a b c : Bool) → (a ∨? (b ∨? c)) ≡ ((b ∨? a) ∨? c)
unfolding ◌∨?◌ pick
or_moved true true c = refl
or_moved true false c = refl
or_moved false true c = refl
or_moved false false c = refl

or_false : (a : Bool) → (a ∨? false) ≡ a
unfolding ◌∨?◌ pick
or_false true = refl
or_false false = refl

adding_words : (p : ℕ → Bool) (ns : List ℕ) → adding (words_of p) ns ≡ words_of (λ m. occurs m ns ∨? p m)
unfolding adding occurs with_number ◌∨?◌ pick
adding_words p [] = refl
adding_words p (n ∷ ns) =
    adding_words (λ m. (m =? n) ∨? has_number m (words_of p)) ns
    ∙ words_same _ _ (λ m h. rw (has_words p m h) (or_moved (occurs m ns) (m =? n) (p m)))

-- from none on they make their set
pub adding_none : (ns : List ℕ) → adding (record { low = 0; high = 0 }) ns ≡ set_of ns
unfolding set_of
adding_none ns =
    ap (λ s. adding s ns) (sym words_none)
    ∙ adding_words (λ n. false) ns
    ∙ words_same _ _ (λ m h. or_false (occurs m ns))

-- ---- the loop

-- the two bytes at i, and those after them
two_and_rest : (s : List ℕ) (i : ℕ) → i + 1 < length s → drop i s ≡ byte i s ∷ byte (i + 1) s ∷ drop (i + 2) s
two_and_rest s i h =
    let one : i + 1 ≡ suc i = omega arith in
    let two : i + 2 ≡ suc (suc i) = omega arith in
    rw (one, two) (drop-cons s i 0 (omega arith) ∙ ap (λ l. byte i s ∷ l) (drop-cons s (suc i) 0 (omega arith)))

-- a turn: the numbers before i are in s, and those from i on make the whole set
module _ (text : List ℕ) (i : ℕ) (s : Satellites) (inv : adding s (numbers (drop i text)) ≡ set_of (numbers text)) where
  -- the next is added
  pub pair_added : i + 1 < length text → (let n = (byte i text - 48) * 10 + (byte (i + 1) text - 48) in
      adding (with_number n s) (numbers (drop (i + 2) text)) ≡ set_of (numbers text))
  unfolding numbers adding value_from
  pair_added h =
      let z : byte i text - 48 ≡ 0 * 10 + (byte i text - 48) = omega arith in
      rw z (rw (two_and_rest text i h) at inv)

  -- no number is left
  pub all_added : length text ≤ i → s ≡ set_of (numbers text)
  unfolding numbers adding
  all_added h = rw (drop_of_length-le text h) at inv

-- ---- what a set that was read tells of its list

-- two digits are a number below 128
numbers_below : (s : List ℕ) → all_digits_of s ≡ true → Below 128 (numbers s)
unfolding numbers value_from
numbers_below [] h = tt
numbers_below (a ∷ []) h = tt
numbers_below (a ∷ (b ∷ s)) h =
    let k = head_digit a (b ∷ s) h in
    let l = head_digit b s k.2 in
    (omega arith, numbers_below s l.2)

-- the set s has the numbers ns and no other, and counts the different ones
pub record Tells (ns : List ℕ) (s : Satellites) : Type 0 where
  pub has : (n : ℕ) → has_number n s ≡ occurs n ns
  pub count : count_of s ≡ different ns

-- the set of numbers below 128 does
set_has : (ns : List ℕ) → Below 128 ns → (n : ℕ) → has_number n (set_of ns) ≡ occurs n ns
unfolding set_of
set_has ns b n =
    by_test (n ≤? 127)
    (λ e. has_words (λ m. occurs m ns) n (omega (arith, is≤ e)))
    (λ e. let l = isnt≤ e in has_words_past (λ m. occurs m ns) n (omega arith)
    ∙ sym (occurs_past 128 n ns b (omega arith)))

set_tells : (ns : List ℕ) → Below 128 ns → Tells ns (set_of ns)
unfolding count_of
set_tells ns b = record {
  has = set_has ns b;
  count = how_many_same 128 _ (λ n. occurs n ns) (λ n l. set_has ns b n) ∙ count_occurs 128 ns b;
}

-- and so does every set that was read
pub read_tells : (list : List ℕ) → Finds (read_satellites list) (Tells (numbers list))
unfolding read_satellites read_numbers
read_tells list =
    finds_bind
    (finds_guard _ (λ _. finds_guard _ (λ h. finds_ok (set_tells (numbers list) (numbers_below list h)))))
    (λ ns t. finds_ok t)

pub counts : {s : Satellites} {r : ℕ} → r ≡ count_of s → Counts s r
counts {s} e = record { all = e; read = λ list h. e ∙ ((read_tells list).found s h).count }

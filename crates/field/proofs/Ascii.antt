-- ASCII: every byte of it, eight bytes at once, and parts of an ASCII text.
use Rattle.text.specs.Prelude.{ℕ, zero, suc, ◌+◌, ◌-◌, ◌*◌, ◌/◌, ◌%◌, ◌≤◌, ◌<◌, ◌≡◌, Bool, true, false, List, [], ◌∷◌}
use Rattle.text.specs.Prelude.{length, take, drop, get_or, Res, pick, ◌≤?◌, ◌∧?◌, cut}
use Rattle.text.proofs.Prelude.{arith, refl, sym, ◌∙◌, pass, is≤, isnt≤, holds, fails, both, and}
use lib.Bits.{bit_and, and_block, and_high}
use lib.Dec.{eqb}
use borrow.Author.Tests.{eq-eqb, ne_eqb}
use Rattle.field.specs.Field.{is_ascii_of, ascii_in, ascii}
use Rattle.field.proofs.Every.{Every, ∧?-assoc, all_at}

pub every_ascii : Every (λ b. b ≤? 127) is_ascii_of
unfolding is_ascii_of
every_ascii = record { all_nil = refl; all_cons = λ b s. refl }

-- ---- eight bytes a turn

-- the high bits of n bytes
abbrev high_bits : ℕ → ℕ
high_bits zero = 0
high_bits (suc n) = high_bits n * 256 + 128

-- a number that has none of them exactly where the bytes s, the lowest first, are ASCII
pub record Word (w : ℕ) (s : List ℕ) : Type 0 where
  pub masked : eqb (bit_and w (high_bits (length s))) 0 ≡ is_ascii_of s

pub byte_below : {w high b : ℕ} {s : List ℕ} → w ≡ high * 256 + b → b < 256 → Word high s → Word w (b ∷ s)
byte_below {high} {b} {s} e l h =
    record {
      masked = rw (
        e,
        and_block 8 high (high_bits (length s)) b 128 l (omega arith),
        every_ascii.all_cons b s,
        ←
            h.masked,
      ) (by (b ≤? 127) refl (bit_and high (high_bits (length s))));
    }
  where
    high_bit_of : bit_and b 128 ≡ b / 128 % 2 * 128
    high_bit_of = and_high b 1 7

    by : (t : Bool) → (b ≤? 127) ≡ t → (x : ℕ) → eqb (x * 256 + bit_and b 128) 0 ≡ ((b ≤? 127) ∧? eqb x 0)
    by true t zero = let k : b ≤ 127 = is≤ t in eq-eqb (0 * 256 + bit_and b 128) 0 (omega (arith, high_bit_of))
        ∙ sym (holds t refl)
    by true t (suc x) = ne_eqb (suc x * 256 + bit_and b 128) 0 (λ z. omega arith)
        ∙ sym (holds t (ne_eqb (suc x) 0 (λ z. omega arith)))
    by false t x = let k : 127 < b = isnt≤ t in let q : b / 128 ≡ 1 = omega arith in ne_eqb (x * 256 + bit_and b 128) 0
        (λ z. omega (arith, rw q at high_bit_of)) ∙ sym (fails _ t)

pub one_byte : {b : ℕ} → b < 256 → Word b (b ∷ [])
one_byte l = byte_below {high = 0} (omega arith) l (record { masked = sym every_ascii.all_nil })

-- a turn over the bytes at i: they and what is left after them are the whole
pub eight_bytes_on : (s : List ℕ) (i : ℕ) {low t : Bool} → i + 8 ≤ length s → is_ascii_of (drop i s) ≡ t →
    low ≡ is_ascii_of (get_or s i 0 ∷ get_or s (i + 1) 0 ∷ get_or s (i + 2) 0 ∷ get_or s (i + 3) 0 ∷ get_or s (i + 4) 0 ∷ get_or s
    (i + 5) 0 ∷ get_or s (i + 6) 0 ∷ get_or s (i + 7) 0 ∷ []) →
    (low ∧? is_ascii_of (drop (i + 8) s)) ≡ t
unfolding is_ascii_of ◌∧?◌ pick
eight_bytes_on s i h inv e =
    simp (e, ∧?-assoc)
    (sym (all_at every_ascii s i (i + 1) refl (omega arith)
    (at 1 (omega arith)
    (at 2 (omega arith)
    (at 3 (omega arith) (at 4 (omega arith) (at 5 (omega arith) (at 6 (omega arith) (at 7 (omega arith) refl))))))))
    ∙ inv)
  where
    at : (k : ℕ) {rest : Bool} → k < 8 → is_ascii_of (drop (i + (k + 1)) s) ≡ rest →
        is_ascii_of (drop (i + k) s) ≡ ((get_or s (i + k) 0 ≤? 127) ∧? rest)
    at k l q = all_at every_ascii s (i + k) (i + (k + 1)) (omega arith) (omega arith) q

-- ---- parts of an ASCII text are ASCII

take_ascii : (n : ℕ) (s : List ℕ) → is_ascii_of s ≡ true → is_ascii_of (take n s) ≡ true
unfolding is_ascii_of
take_ascii zero s h = refl
take_ascii (suc n) [] h = refl
take_ascii (suc n) (b ∷ s) h = let k = both h in and k.0 (take_ascii n s k.1)

drop_ascii : (n : ℕ) (s : List ℕ) → is_ascii_of s ≡ true → is_ascii_of (drop n s) ≡ true
unfolding is_ascii_of
drop_ascii zero s h = h
drop_ascii (suc n) [] h = refl
drop_ascii (suc n) (b ∷ s) h = drop_ascii n s (both h).1

pub cut_ascii : (a b : ℕ) (s : List ℕ) → is_ascii_of s ≡ true → is_ascii_of (cut a b s) ≡ true
unfolding cut
cut_ascii a b s h = take_ascii (b - a) (drop a s) (drop_ascii a s h)

-- in an ASCII text the test says nothing
pub known_ascii : {A : Type 0} (read : List ℕ → Res A) (s : List ℕ) → is_ascii_of s ≡ true → read s ≡ ascii read s
unfolding ascii ascii_in
known_ascii read s h = pass _ h refl

-- Words and numbers of a sheet, read as they are printed.
use Rattle.std.specs.Prelude.{◌+◌, ◌-◌, ◌*◌, ◌∷◌, ◌++◌}
use Rattle.text.specs.Prelude.{ℕ, code, Bool, true, false, List, [], length, drop, pick}
use Rattle.text.specs.Prelude.{◌≤?◌, ◌=?◌, ◌∧?◌, byte, is_digit_of, padded, ℤ, pos, LF, largest}
use Rattle.std.specs.Prelude.{neg_ℤ}

-- What was read, and the text behind it; or the text from where on it is not what should stand there.
pub data Read (A : Type 0) : Type 0 where
  got : A → List ℕ → Read A
  wrong : List ℕ → Read A

-- What is read of the text behind.
unfoldable pub next : {A B : Type 0} → Read A → (A → List ℕ → Read B) → Read B
next (got a s) f = f a s
next (wrong s) f = wrong s

-- The text begins with these words.
unfoldable pub starts_with : List ℕ → List ℕ → Bool
starts_with [] s = true
starts_with (w ∷ ws) [] = false
starts_with (w ∷ ws) (b ∷ s) = (w =? b) ∧? starts_with ws s

-- These words stand there.
unfoldable pub read_words_of : List ℕ → List ℕ → Read Unit
read_words_of ws s = pick (starts_with ws s) (got tt (drop (length ws) s)) (wrong s)

-- The value of the digits in front of s, written after digits of the value a.
unfoldable pub front_from : ℕ → List ℕ → ℕ
front_from a [] = a
front_from a (b ∷ s) = pick (is_digit_of b) (front_from (a * 10 + (b - code "0")) s) a

-- A number of at most most stands there as it prints in plain decimal, closed by the byte c.
unfoldable pub read_number_of : ℕ → ℕ → List ℕ → Read ℕ
read_number_of most c s =
    let n = front_from 0 s in
    pick (n ≤? most) (next (read_words_of (padded 1 n ++ (c ∷ [])) s) (λ _ r. got n r)) (wrong s)

-- A minus and then a number from 1 to 32,768, closed by a space.
unfoldable pub read_minus : List ℕ → Read ℤ
read_minus s =
    next (read_number_of 32768 (code " ") (drop 1 s)) (λ n r. pick (n =? 0) (wrong (drop 1 s)) (got (neg_ℤ (pos n)) r))

-- A height of 16 bits, closed by a space.
unfoldable pub read_height_of : List ℕ → Read ℤ
read_height_of s =
    pick (byte 0 s =? code "-") (read_minus s) (next (read_number_of 32767 (code " ") s) (λ n r. got (pos n) r))

-- A line of words and a number of 64 bits.
unfoldable pub read_line_of : List ℕ → List ℕ → Read ℕ
read_line_of ws s = next (read_words_of ws s) (λ _ r. read_number_of largest LF r)

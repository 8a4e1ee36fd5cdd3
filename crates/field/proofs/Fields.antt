-- The three ways in which a field's reading begins.
use Rattle.text.specs.Prelude.{ℕ, ◌≡◌, true, false, List, length, Res, no, moved, cut, columns}
use Rattle.text.proofs.Prelude.{ap, pass, stop, yes=, no=}
use Rattle.text.specs.declared.refusal.Refusal.TheVariants.{NotAscii, WrongLength}
use Rattle.field.specs.Field.{is_ascii_of, sized, ascii_in, ascii, field}
use Rattle.field.proofs.Ascii.{cut_ascii, known_ascii}

module _ {A : Type 0} (n : ℕ) (read : List ℕ → Res A) (s : List ℕ) where
  pub wrong_length : (length s ≡ n → ⊥) → no WrongLength ≡ field n read s
  unfolding field sized
  wrong_length h = stop _ (no= h)

  pub not_ascii : length s ≡ n → is_ascii_of s ≡ false → no NotAscii ≡ field n read s
  unfolding field sized ascii ascii_in
  not_ascii l h = pass _ (yes= l) (stop _ h)

  -- in an ASCII text the test says nothing
  pub field_of_ascii : is_ascii_of s ≡ true → sized n read s ≡ field n read s
  unfolding field sized
  field_of_ascii h = rw (known_ascii read s h)

-- in the columns of an ASCII line it says nothing either
pub cut_of_ascii : {A : Type 0} (a b n : ℕ) (read : List ℕ → Res A) (s : List ℕ) → is_ascii_of s ≡ true →
    sized n read (cut a b s) ≡ field n read (cut a b s)
cut_of_ascii a b n read s h = field_of_ascii n read (cut a b s) (cut_ascii a b s h)

pub columns_of_ascii : {A : Type 0} (a b n : ℕ) (read : List ℕ → Res A) (s : List ℕ) → is_ascii_of s ≡ true →
    columns a b (sized n read) s ≡ columns a b (field n read) s
unfolding columns
columns_of_ascii a b n read s h = ap (moved a) (cut_of_ascii a b n read s h)

-- What the code carries from reader to reader: a place, and whether all before it was as it should be.
use Rattle.text.specs.Prelude.{None, Option, Some}
use Rattle.std.specs.Prelude.{◌≤◌, ◌≡◌, ◌∷◌}
use Rattle.text.specs.Prelude.{ℕ, List, [], length, drop, pick, ◌≤?◌, largest}
use Rattle.block_read.specs.Read.{Read, got, wrong, front_from}
use Rattle.block_read.specs.declared.{number.Place.Place}

-- A value that was read, with the text behind its place; or the text from where on it is wrong.
unfoldable pub held_at : {A : Type 0} → List ℕ → Place → A → Read A
held_at text p a = pick p.good (got a (drop p.at text)) (wrong (drop p.at text))

-- What a reader says from a place on, where all before it was as it should be.
unfoldable pub onward : {A : Type 0} → List ℕ → Place → (List ℕ → Read A) → Read A
onward text p read = pick p.good (read (drop p.at text)) (wrong (drop p.at text))

-- From one place the reader comes to the other with the value a.
pub record Came {A : Type 0} (text : List ℕ) (from : Place) (read : List ℕ → Read A) (to : Place) (a : A) : Type 0 where
  pub is : held_at text to a ≡ onward text from read
  pub inside : to.at ≤ length text

-- The value of the digits in front, where it fits 64 bits.
unfoldable pub front_of : List ℕ → List ℕ
front_of s = pick (front_from 0 s ≤? largest) (front_from 0 s ∷ []) []

abbrev pub front_in : Option ℕ → List ℕ
front_in (Some n) = n ∷ []
front_in None = []

-- The names asked for, three bytes each, one behind the other.
use Rattle.std.specs.Prelude.{◌*◌, ◌≡◌}
use Rattle.text.specs.Prelude.{ℕ, Bool, true, false, List, length}
use Rattle.std.proofs.lemmas.List.Edits.{sets}

-- Three bytes stand where name i has its place, and nothing else changed.
pub record Named (i : ℕ) (b b' : List ℕ) : Type 0 where
  pub word : List ℕ
  pub three : length word ≡ 3
  pub content : b' ≡ sets b (3 * i) word

-- Name i was read; where the argument is none, nothing changed.
abbrev pub NameRead : Bool → ℕ → List ℕ → List ℕ → Type 0
NameRead true i b b' = Named i b b'
NameRead false i b b' = b' ≡ b

-- An index: a place, or none, for each hour 0 to 24.
use Rattle.text.specs.Prelude.{Option, None, Some}
use Rattle.std.specs.Prelude.{◌+◌, ◌∷◌}
use Rattle.text.specs.Prelude.{ℕ, zero, suc, Bool, true, false, List, [], get_or, replicate, ◌≤?◌, ◌∧?◌}
use Rattle.std.proofs.Math.Option.{Option as Maybe, none, some}
use Rattle.hours.specs.declared.{Hour.Hour, Index.Index}

-- A place, or none, as an index holds it.
unfoldable pub held : Maybe ℕ → Hour
held none = record { first = None }
held (some p) = record { first = Some p }

-- f of each of the k hours from h on.
unfoldable pub from : ℕ → ℕ → (ℕ → Maybe ℕ) → List Hour
from zero h f = []
from (suc k) h f = held (f h) ∷ from k (h + 1) f

-- f of each hour 0 to 24.
unfoldable pub by_hour : (ℕ → Maybe ℕ) → Index
by_hour f = record { hours = from 25 0 f }

-- What any index holds for an hour; for one over 24 nothing.
unfoldable pub held_for : Index → ℕ → Option ℕ
held_for i h = (get_or i.hours h (held none)).first

-- The index of no log.
unfoldable pub nowhere : Index
nowhere = record { hours = replicate 25 (held none) }

-- It is no place.
unfoldable pub is_nowhere : Option ℕ → Bool
is_nowhere None = true
is_nowhere (Some p) = false

-- An hour 0 to 24 for which an index holds no place.
unfoldable pub lacks : Index → ℕ → Bool
lacks i h = (h + 1 ≤? 25) ∧? is_nowhere (held_for i h)

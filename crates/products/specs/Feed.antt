-- What is written of a piece of a log, and what is carried on.
use Rattle.std.specs.Prelude.{◌+◌, ◌≡◌}
use Rattle.text.specs.Prelude.{ℕ, Bool, true, false, List, length, ◌≤?◌, ◌∧?◌, largest}
use Rattle.igc_log.specs.Fold as fold
use Rattle.igc_log.specs.Taking.{Took}
use Rattle.held.specs.Tables.{no_tables}
use Rattle.held.specs.declared.tables.Tables.{Tables}
use Rattle.cursor.specs.Cursor.{start}
use Rattle.walk.specs.Readings.{reader}
use Rattle.trailer_text.specs.Trailer.{nothing, count_step}
use Rattle.trailer_text.specs.declared.Trailer.{Trailer}
use Rattle.products.specs.Product.{product_line_of}
use Rattle.products.specs.declared.{Product.Product, Carried.Carried, Fed.Fed}

-- Before the first piece.
unfoldable pub at_first_of : Carried
at_first_of = record { held = no_tables; at = start; trailer = nothing }

-- The same as every fold carries it.
abbrev pub view : Carried → fold.Carried Tables Trailer
view c = record { number = c.at.number; place = c.at.place; held = c.held; made = c.trailer }

-- No place and no count passes 64 bits over n bytes more.
unfoldable pub is_ready_of : Carried → ℕ → Bool
is_ready_of c n =
    (c.at.place + n ≤? largest)
    ∧? (c.at.number + n ≤? largest)
    ∧? (c.trailer.lines + n ≤? largest)
    ∧? (c.trailer.refused + n ≤? largest)

-- Of a piece s lines are taken into the lent bytes while their text has room; where a count would pass 64 bits, none.
abbrev pub FedOf : Bool → Product → List ℕ → Carried → List ℕ → List ℕ → List ℕ → Fed → Type 0
FedOf true p names c s b b' r =
    Took reader count_step (product_line_of p names) (view c) s b b' (view r.carried) r.taken r.end
FedOf false p names c s b b' r = (r ≡ record { carried = c; taken = 0; end = 0 }) × (b' ≡ b)

-- A call takes lines where they are ready, and else none.
abbrev pub Feeds : Product → List ℕ → Carried → List ℕ → List ℕ → List ℕ → Fed → Type 0
Feeds p names c s b b' r = FedOf (is_ready_of c (length s)) p names c s b b' r

-- The total of the sheets so far.
use Rattle.text.specs.Prelude.{Bool, false}
use Rattle.total.specs.Total.{Totals, Joining, given, refused, total_in}
use Rattle.joins.specs.declared.Halves.{Halves}

-- The total, and whether every sheet went into it.
pub record Sofar : Type 0 where
  pub total : Totals
  pub whole : Bool

-- A sheet did not go into it.
unfoldable pub not_whole : Sofar → Sofar
not_whole c = record { total = c.total; whole = false }

-- The joined total of those before and of one sheet more; where it is refused that sheet did not go in.
unfoldable pub joined_on : Sofar → Joining → Sofar
joined_on c (given t) = record { total = t; whole = c.whole }
joined_on c (refused n) = not_whole c

-- ---- what the code holds

abbrev pub halves_in : Halves → Sofar
halves_in h = record { total = total_in h.total; whole = h.whole }

-- Extension values: the part of a line that a definition names. Starts and ends are columns counted from 1.
use Rattle.std.specs.Prelude.{◌+◌, ◌-◌}
use Rattle.text.specs.Prelude.{ℕ, List, Res, ok, bind, guard, ◌≤?◌}
use Rattle.part.specs.Part.{find_part}
use Rattle.text.specs.declared.refusal.Refusal.TheVariants.{BadExtension, MissingExtension}
use Rattle.part.specs.declared.Part.{Part}
use Rattle.extension.specs.declared.Extension.{Extension}

-- With a base of so many columns: a rest outside the line is 9; then a start of at most the base, or an end before the
-- start, is 5; an end that exceeds the rest is 6; else the part of the rest from start - (base + 1) up to end - base.
unfoldable pub find_value : ℕ → Part → Extension → List ℕ → Res Part
find_value base rest e s =
    bind (find_part rest s) (λ r.
    guard (base + 1 ≤? e.start_byte) BadExtension
    (guard (e.start_byte ≤? e.end_byte) BadExtension
    (guard (e.end_byte - base ≤? r.len) MissingExtension
    (ok (record {
      start = r.start + (e.start_byte - (base + 1));
      len = (e.end_byte - base) - (e.start_byte - (base + 1));
    })))))

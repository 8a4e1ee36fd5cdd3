-- What a line of the listing and its trailer both say: a number in plain decimal.
use Rattle.text.specs.Prelude.{ℕ, List, padded}

-- A number in plain decimal.
unfoldable pub plain : ℕ → List ℕ
plain n = padded 1 n

-- The days of a month, of a year that is known by its last two digits: 80 to 99 stand for 1980 to 1999, and 0 to 79 for
-- 2000 to 2079.
use Rattle.std.specs.Prelude.{◌%◌, ◌∷◌}
use Rattle.text.specs.Prelude.{ℕ, Bool, List, [], get_or, pick, ◌=?◌}

-- The days of January to December, by the days of February.
unfoldable pub months : ℕ → List ℕ
months february = 31 ∷ february ∷ 31 ∷ 30 ∷ 31 ∷ 30 ∷ 31 ∷ 31 ∷ 30 ∷ 31 ∷ 30 ∷ 31 ∷ []

-- February has 29 days exactly when the number is divisible by four.
unfoldable pub february : ℕ → ℕ
february y = pick (y % 4 =? 0) 29 28

-- The days of the m-th month, from 1; any other month has none.
unfoldable pub days_in_of : ℕ → ℕ → ℕ
days_in_of m y = get_or (0 ∷ months (february y)) m 0

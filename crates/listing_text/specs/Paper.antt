-- The text of the paper's program.
use Rattle.std.specs.Prelude.{◌≤◌, ◌∷◌}
use Rattle.text.specs.Prelude.{ℕ, code, List, [], length, pick, ◌≤?◌, LF}
use Rattle.listing_text.specs.Listing.{listing_text_of}

-- `too long`, closed by LF.
unfoldable pub too_long_of : List ℕ
too_long_of =
    code "t" ∷ code "o" ∷ code "o" ∷ code " " ∷ code "l" ∷ code "o" ∷ code "n" ∷ code "g" ∷ LF ∷ []

-- The listing of a log of at most 65,536 bytes; of a longer one that it is too long.
unfoldable pub paper_text : List ℕ → List ℕ
paper_text log = pick (length log ≤? 65536) (listing_text_of log) too_long_of

-- It always has room in so many bytes.
abbrev pub PaperHasRoom : Type 0
PaperHasRoom = (log : List ℕ) → length (paper_text log) ≤ 2490433

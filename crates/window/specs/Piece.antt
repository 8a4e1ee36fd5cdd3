-- How much of a piece of a log can be read, and the pieces of which a log goes through a window.
use Rattle.std.specs.Prelude.{◌≡◌, ◌∷◌, ◌++◌}
use Rattle.text.specs.Prelude.{ℕ, zero, suc, Bool, true, false, List, [], length, take, drop, pick}
use Rattle.text.specs.Prelude.{◌=?◌, LF}
use Rattle.igc_log.specs.Pieces.{joined, Whole}

-- A byte in front of so many bytes of whole lines.
unfoldable pub grow : ℕ → ℕ → ℕ
grow b zero = pick (b =? LF) 1 0
grow b (suc n) = suc (suc n)

-- How many bytes there are up to the last LF, that LF with them.
unfoldable pub whole_length_of : List ℕ → ℕ
whole_length_of [] = 0
whole_length_of (b ∷ s) = grow b (whole_length_of s)

-- Of the last piece all, of another its whole lines.
unfoldable pub piece_end_of : Bool → List ℕ → ℕ
piece_end_of true s = length s
piece_end_of false s = whole_length_of s

-- The pieces of which some reads go through a window, with the rest of those before them in front: of the last one all.
unfoldable pub pieces : List ℕ → List (List ℕ) → List (List ℕ)
pieces rest [] = rest ∷ []
pieces rest (r ∷ []) = (rest ++ r) ∷ []
pieces rest (r ∷ q ∷ rs) =
    let w = rest ++ r in
    let n = piece_end_of false w in
    take n w ∷ pieces (drop n w) (q ∷ rs)

-- However a log is read, its pieces are runs of whole lines, and no byte is lost, doubled or out of its order.
pub record ThroughWindows : Type 0 where
  pub whole : (rest : List ℕ) (reads : List (List ℕ)) → Whole (pieces rest reads)
  pub all : (rest : List ℕ) (reads : List (List ℕ)) → joined (pieces rest reads) ≡ rest ++ joined reads

-- A log goes through a window whole.
use Rattle.text.specs.Prelude.{ℕ, ◌≡◌, true, false, List, [], ◌∷◌, ◌++◌, take, drop}
use Rattle.text.proofs.Prelude.{refl, append_assoc}
use lib.ListN.{take-append-drop}
use Rattle.igc_log.specs.Log.{closed}
use Rattle.igc_log.specs.Pieces.{joined, Whole}
use Rattle.window.specs.Piece.{piece_end_of, pieces, ThroughWindows}
use Rattle.window.proofs.Wholes.{whole_closed}

-- whole lines in front of the pieces are one more piece
in_front : (p rest : List ℕ) (reads : List (List ℕ)) → closed p ≡ true → Whole (pieces rest reads) →
    Whole (p ∷ pieces rest reads)
unfolding pieces
in_front p rest [] h k = (h, k)
in_front p rest (r ∷ []) h k = (h, k)
in_front p rest (r ∷ q ∷ rs) h k = (h, k)

-- each piece is whole lines, the last may lack its LF
all_whole : (rest : List ℕ) (reads : List (List ℕ)) → Whole (pieces rest reads)
unfolding pieces piece_end_of
all_whole rest [] = tt
all_whole rest (r ∷ []) = tt
all_whole rest (r ∷ q ∷ rs) = in_front _ _ (q ∷ rs) (whole_closed (rest ++ r))
    (all_whole (drop (piece_end_of false (rest ++ r)) (rest ++ r)) (q ∷ rs))

-- together they are the rest and the reads
none_lost : (rest : List ℕ) (reads : List (List ℕ)) → joined (pieces rest reads) ≡ rest ++ joined reads
unfolding pieces joined
none_lost rest [] = refl
none_lost rest (r ∷ []) = append_assoc rest r []
none_lost rest (r ∷ q ∷ rs) =
    let w = rest ++ r in
    let n = piece_end_of false w in
    rw (none_lost (drop n w) (q ∷ rs), ← append_assoc (take n w) (drop n w) _, take-append-drop n w)
    (append_assoc rest r _)

-- so a log that is read through a window is read whole
pub through_windows : ThroughWindows
through_windows = record { whole = all_whole; all = none_lost }

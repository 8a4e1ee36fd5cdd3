-- The text of the paper's program, by the length of the log.
use Rattle.text.specs.Prelude.{ℕ, ◌≤◌, ◌<◌, ◌≡◌, List, length, ◌≤?◌}
use Rattle.text.proofs.Prelude.{arith, refl, sym, first, second, yes≤, no≤, is≤, isnt≤, by_test}
use Rattle.listing_text.specs.Listing.{listing_text_of, room_for}
use Rattle.listing_text.specs.Paper.{too_long_of, paper_text, PaperHasRoom}
use Rattle.listing_text.proofs.Room.{has_room}

pub paper_short : (log : List ℕ) → length log ≤ 65536 → listing_text_of log ≡ paper_text log
unfolding paper_text
paper_short log h = first _ (yes≤ h) refl

pub paper_long : (log : List ℕ) → 65536 < length log → too_long_of ≡ paper_text log
unfolding paper_text
paper_long log h = second _ (no≤ h) refl

-- it has room in the bytes that the program has
pub paper_has_room : PaperHasRoom
unfolding room_for too_long_of
paper_has_room log =
    by_test (length log ≤? 65536)
    (λ e. rw (sym (paper_short log (is≤ e))) (omega (arith, has_room log (omega (arith, is≤ e)), is≤ e)))
    (λ e. rw (sym (paper_long log (isnt≤ e))) (omega arith))

use Rattle.text.specs.Prelude.{ℕ, ◌+◌, ◌-◌, ◌*◌, ◌/◌, ◌≤◌, ◌≡◌, ◌≤?◌}
use Rattle.text.proofs.Prelude.{arith, sym, ◌∙◌, yes≤, no≤, is≤, isnt≤, tested, by_test}
use lib.Dec.{leb}
use Rattle.listing_text.specs.Listing.{room_for}
use Rattle.listing_text.proofs.listing.has_room.Goals as goal

-- as many lines as have room beside the trailer
room : (n r : ℕ) → 65 ≤ r → leb n ((r - 65) / 38) ≡ (38 * n + 65 ≤? r)
room n r h =
    sym (tested n ((r - 65) / 38))
    ∙ by_test (38 * n + 65 ≤? r) (λ e. yes≤ (omega (arith, is≤ e)) ∙ sym e) (λ e. no≤ (omega (arith, isnt≤ e)) ∙ sym e)

pub returns-then-room-ge65 : goal.returns-then-room-ge65
unfolding room_for
returns-then-room-ge65 c = room _ _ c.if-room-ge65.true

pub returns-else-room-ge65 : goal.returns-else-room-ge65
unfolding room_for
returns-else-room-ge65 c = sym (tested 65 _) ∙ no≤ c.if-room-ge65.false ∙ sym (no≤ (omega arith))

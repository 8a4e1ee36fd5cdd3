use Rattle.text.specs.Prelude.{ℕ, ◌+◌, ◌-◌, ◌≤◌, ◌≡◌, ◌≤?◌, largest}
use Rattle.text.proofs.Prelude.{arith, sym, ◌∙◌, yes≤, no≤, is≤, isnt≤, by_test, tested}
use lib.Dec.{leb}
use Rattle.claims.specs.Claims.{has_room_of}
use Rattle.claims.proofs.has_room.Goals as goal

-- what is left up to the largest is room
room_left : (place n : ℕ) → place ≤ largest → leb n (largest - place) ≡ (place + n ≤? largest)
room_left place n h =
    sym (tested n (largest - place)) ∙ by_test (n ≤? (largest - place))
    (λ e. e ∙ sym (yes≤ (omega (arith, is≤ e))))
    (λ e. e ∙ sym (no≤ (omega (arith, isnt≤ e))))

pub returns : goal.returns
unfolding has_room_of
returns c = room_left _ _ (omega arith)

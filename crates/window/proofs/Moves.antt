-- Bytes moved down to the front of a window.
use Rattle.text.specs.Prelude.{ℕ, ◌-◌, ◌≤◌, ◌≡◌, List, length, drop}
use Rattle.text.proofs.Prelude.{arith, sym, length-drop, sets}
use lib.Seq.{sets-eq, paste, take-length}

-- the bytes from there on, pasted over the front, are set there
pub front_pasted : (w : List ℕ) (from : ℕ) → from ≤ length w →
    paste w 0 (drop from w) (length w - from) ≡ sets w 0 (drop from w)
front_pasted w from h =
    let e : length w - from ≡ length (drop from w) = omega (arith, length-drop from w) in
    rw (e, take-length (drop from w)) (sym (sets-eq (drop from w) w 0 (omega (arith, length-drop from w))))

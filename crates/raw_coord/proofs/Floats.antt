-- Degrees in either format.
use Rattle.text.specs.Prelude.{ℕ, ◌≡◌, pos}
use Rattle.text.proofs.Prelude.{refl}
use lib.Count.{count_trailing_zeros}
use lib.Ieee.{Format, binary32, binary64, add, div, of_int, of_bits, of_fields, odd, round, size, span, climb, units}
use Rattle.raw_coord.specs.Degrees.{by_sign, degrees_of}
use Rattle.raw_coord.specs.declared.{Compass.Compass, RawCoord.RawCoord}

-- the bits of the code's 60000.0
abbrev pub bits : Format → ℕ
bits binary32 = 0x476a_6000
bits binary64 = 0x40ed_4c00_0000_0000

sixty_thousand : (f : Format) → of_bits f (bits f) ≡ of_int f (pos 60000)
unfolding of_bits of_fields odd of_int round size span climb units count_trailing_zeros
sixty_thousand binary32 = refl
sixty_thousand binary64 = refl

-- what the code computes, by the direction
pub by_sign_lem : (f : Format) (c : RawCoord) {s : Compass} → c.sign ≡ s
    → by_sign s (add f (of_int f (pos c.degrees))
    (div f (of_int f (pos c.minute_thousandths)) (of_bits f (bits f)))) ≡ degrees_of f c
unfolding degrees_of
by_sign_lem f c e = rw (e, sixty_thousand f)

-- A height, and 0 where it is below 0.
use Rattle.text.specs.Prelude.{ℕ, ◌^◌, ◌<◌, ◌≡◌, ℤ, pos, negsuc}
use Rattle.text.proofs.Prelude.{arith}
use Rattle.std.proofs.Common.{to_z-of_z, w16, SFits, to_z, of_z}
use Rattle.bench_loops.specs.Timed.{above}

above_small : {z : ℤ} → SFits w16 z → above z < 2 ^ 15
unfolding above
above_small {z = pos n} f = f.sfits
above_small {z = negsuc n} f = omega arith

-- of one that comes back from a local; a sum of a few does not reach 64 bits
pub above_is : {z : ℤ} {r : ℕ} → SFits w16 z → r ≡ above (to_z w16 (of_z w16 z)) → (r ≡ above z) × (r < 2 ^ 15)
above_is f e = let i = rw (to_z-of_z f) at e in (i, omega (arith, i, above_small f))

-- Lent bytes that are filled by calls of `read`, each behind what came before.
use Rattle.std.specs.Prelude.{Result, Ok, Err}
use Rattle.text.specs.Prelude.{ℕ, List}
use Rattle.text.proofs.Prelude.{arith}
use Rattle.files.specs.Input.{FilledBehind, Within, Behind, MoreBehind}
use Rattle.files.specs.declared.input.{Filled.Filled, Came.Came, NotRead.NotRead}

-- where the input ended is inside
pub ended_inside : (r : Result Filled NotRead) {from : ℕ} {b b' : List ℕ} → FilledBehind from b b' r → Within r b'
ended_inside (Ok (Filled.Ended n)) f = omega (arith, f.inside.1, f.long)
ended_inside (Ok Filled.Full) f = tt
ended_inside (Err e) f = tt

-- bytes that came are some, and inside
pub came_inside : (r : Result Came NotRead) {from : ℕ} {b b' : List ℕ} → MoreBehind from b b' r → Behind from b' r
came_inside (Ok (Came.Bytes n)) f = (f.inside.0, omega (arith, f.inside.1, f.long))
came_inside (Ok Came.Ended) f = omega (arith, f.inside, f.long)
came_inside (Ok Came.NoRoom) f = omega (arith, f.inside, f.long)
came_inside (Err e) f = tt

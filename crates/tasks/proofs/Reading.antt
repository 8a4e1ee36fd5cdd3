-- A file that was read to its end lies in the bytes that were lent for it.
use Rattle.std.specs.Prelude.{Some, Result, Ok, Err}
use Rattle.text.specs.Prelude.{ℕ, ◌≤◌, ◌≡◌, List, length}
use Rattle.text.proofs.Prelude.{arith}
use Rattle.files.specs.Input.{Within}
use Rattle.files.specs.declared.{input.Filled.Filled, input.NotRead.NotRead}
use Rattle.tasks.specs.Answer.{whole_in}

pub whole_inside : (f : Result Filled NotRead) (b : List ℕ) {n : ℕ} → Some n ≡ whole_in f → Within f b → n ≤ length b
whole_inside (Ok (Filled.Ended m)) b {n} e h = let z : n ≡ m = cc in omega arith
whole_inside (Ok Filled.Full) b e h = let z : ◌≡◌ {A = ℕ} 0 1 = cc in absurd (omega arith)
whole_inside (Err x) b e h = let z : ◌≡◌ {A = ℕ} 0 1 = cc in absurd (omega arith)

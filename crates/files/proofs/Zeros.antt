-- An array of zeros is as long as it is declared: by the law, since counting them one by one is deeper than the checker
-- goes.
use Rattle.text.specs.Prelude.{ℕ, ◌≡◌, length, replicate}
use Rattle.text.proofs.Prelude.{sym}
use lib.ListN.{length-replicate}

pub zeros_long : (n z : ℕ) → n ≡ length (replicate n z)
zeros_long n z = sym (length-replicate n z)

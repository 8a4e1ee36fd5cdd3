-- What the block that a text begins with is, by the place that its reader came to.
use Rattle.text.specs.Prelude.{ℕ, ◌-◌, ◌≡◌, true, false, List, length}
use Rattle.text.proofs.Prelude.{arith, refl, length-drop}
use Rattle.total.specs.Total.{Totals, no_logs}
use Rattle.block_read.specs.Block.{read_all, block_in, block_of}
use Rattle.block_read.specs.Held.{Came}
use Rattle.block_read.specs.declared.{number.Place.Place}
use Rattle.block_read.proofs.Coming.{here, got_there, wrong_there}

module _ (text : List ℕ) {end : Place} {t : Totals} (c : Came text (record { at = 0; good = true }) read_all end t) where
  read_length : length text - length (here text end) ≡ end.at
  read_length = omega (arith, length-drop end.at text, c.inside)

  pub block_good : end.good ≡ true → record { total = t; end = end.at; good = true } ≡ block_of text
  unfolding block_of block_in
  block_good g = rw (got_there c g, read_length)

  pub block_wrong : end.good ≡ false → record { total = no_logs; end = end.at; good = false } ≡ block_of text
  unfolding block_of block_in
  block_wrong g = rw (wrong_there c refl g, read_length)

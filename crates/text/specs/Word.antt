-- What 64 bits hold.
use Rattle.std.specs.Prelude.{ℕ}

-- The largest number of 64 bits: no place and no count passes it.
abbrev pub largest : ℕ
largest = 0xffff_ffff_ffff_ffff

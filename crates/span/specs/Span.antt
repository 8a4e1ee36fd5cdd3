-- The heights of one datum over some logs: each with its log, shifted by logs before it, and whether that fits.
use Rattle.std.specs.Prelude.{◌∷◌}
use Rattle.text.specs.Prelude.{ℕ, Bool, true, List, [], pick, ◌≤?◌, ◌∧?◌, largest}
use Rattle.std.specs.Int.Signed.{lt_z}
use Rattle.report.specs.Range.{Range, none, between}
use Rattle.report.specs.Peak.{PressurePeak, GpsPeak}
use Rattle.span.specs.Spot.{PressureSpot, GpsSpot, spot_of, later_spot}

-- ---- heights with their log

-- A pressure height of the log n: its place is log number and byte offset.
abbrev pub pressure_spot : ℕ → PressurePeak → PressureSpot
pressure_spot n p = spot_of n p

-- A GPS height of the log n: its place is log number and byte offset.
abbrev pub gps_spot : ℕ → GpsPeak → GpsSpot
gps_spot n p = spot_of n p

-- The first pressure height is the lower, wherever the two were seen.
unfoldable pub lower_pressure : PressureSpot → PressureSpot → Bool
lower_pressure a b = lt_z a.height.0 b.height.0

-- The first GPS height is the lower, wherever the two were seen.
unfoldable pub lower_gps : GpsSpot → GpsSpot → Bool
lower_gps a b = lt_z a.height.0 b.height.0

-- The same range of other things.
unfoldable pub mapped : {P Q : Type 0} → (P → Q) → Range P → Range Q
mapped f none = none
mapped f (between high low) = between (f high) (f low)

-- ---- with logs more before them

-- A pressure height with k logs more before its own.
abbrev pub later_pressure : ℕ → PressureSpot → PressureSpot
later_pressure k s = later_spot k s

-- A GPS height with k logs more before its own.
abbrev pub later_gps : ℕ → GpsSpot → GpsSpot
later_gps k s = later_spot k s

-- Each of some numbers fits 64 bits.
unfoldable pub all_fit : List ℕ → Bool
all_fit [] = true
all_fit (n ∷ ns) = (n ≤? largest) ∧? all_fit ns

-- The log numbers of a highest and a lowest.
unfoldable pub numbers_of : {P : Type 0} → (P → ℕ) → Range P → List ℕ
numbers_of number none = []
numbers_of number (between high low) = number high ∷ number low ∷ []

-- What f makes of a range where its log numbers fit 64 bits, else the range as it was.
unfoldable pub shifted : {P : Type 0} → (P → ℕ) → (P → P) → Range P → Range P
shifted number f r = pick (all_fit (numbers_of number (mapped f r))) (mapped f r) r

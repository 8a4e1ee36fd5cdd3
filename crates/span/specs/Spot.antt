-- Heights with the log and the place of the first fix that reached them.
use Rattle.std.specs.Prelude.{◌+◌}
use Rattle.text.specs.Prelude.{ℕ, Option}
use Rattle.b_record.specs.declared.{height.PressureAlt.PressureAlt, height.GpsAlt.GpsAlt}
use Rattle.report.specs.declared.{peak.Peak.Peak, range.Extremes.Extremes}
use Rattle.span.specs.declared.Spot.{Spot}

-- A pressure height with its log and its place.
abbrev pub PressureSpot : Type 0
PressureSpot = Spot PressureAlt

-- A GPS height with its log and its place.
abbrev pub GpsSpot : Type 0
GpsSpot = Spot GpsAlt

-- What the code holds of pressure heights.
abbrev pub PressureSpan : Type 0
PressureSpan = Option (Extremes PressureSpot)

-- What the code holds of GPS heights.
abbrev pub GpsSpan : Type 0
GpsSpan = Option (Extremes GpsSpot)

-- A height of the log n: its place is log number and byte offset.
abbrev pub spot_of : {H : Type 0} → ℕ → Peak H → Spot H
spot_of n p = record { log = n; place = p.place; height = p.height }

-- A height with k logs more before its own.
abbrev pub later_spot : {H : Type 0} → ℕ → Spot H → Spot H
later_spot k s = record { log = k + s.log; place = s.place; height = s.height }

-- Heights with their places, and what the code holds of a range.
use Rattle.text.specs.Prelude.{ℕ, Option, Some, None}
use Rattle.b_record.specs.declared.{height.PressureAlt.PressureAlt, height.GpsAlt.GpsAlt}
use Rattle.report.specs.Range.{Range, none, between}
use Rattle.report.specs.declared.{peak.Peak.Peak, range.Extremes.Extremes}

-- A pressure height with its place.
abbrev pub PressurePeak : Type 0
PressurePeak = Peak PressureAlt

-- A GPS height with its place.
abbrev pub GpsPeak : Type 0
GpsPeak = Peak GpsAlt

-- What the code holds of pressure heights.
abbrev pub PressureRange : Type 0
PressureRange = Option (Extremes PressurePeak)

-- What the code holds of GPS heights.
abbrev pub GpsRange : Type 0
GpsRange = Option (Extremes GpsPeak)

-- What the code holds of times.
abbrev pub TimeRange : Type 0
TimeRange = Option (Extremes ℕ)

-- Nothing was seen; or the highest and the lowest.
abbrev pub range_in : {P : Type 0} → Option (Extremes P) → Range P
range_in None = none
range_in (Some e) = between e.high e.low

-- What the code holds that is viewed as a range.
abbrev pub made : {P : Type 0} → Range P → Option (Extremes P)
made none = None
made (between high low) = Some (record { high = high; low = low })

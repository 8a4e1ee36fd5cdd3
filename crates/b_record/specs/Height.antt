-- Heights and their numbers, on two datums that are types apart.
use Rattle.text.specs.Prelude.{ℤ}
use Rattle.b_record.specs.declared.{height.PressureAlt.PressureAlt, height.GpsAlt.GpsAlt}

-- The number of a pressure height.
abbrev pub pressure_metres : PressureAlt → ℤ
pressure_metres h = h.0

-- The number of a GPS height.
abbrev pub gps_metres : GpsAlt → ℤ
gps_metres h = h.0

-- The pressure height of that number.
abbrev pub at_pressure : ℤ → PressureAlt
at_pressure z = record { 0 = z }

-- The GPS height of that number.
abbrev pub at_gps : ℤ → GpsAlt
at_gps z = record { 0 = z }

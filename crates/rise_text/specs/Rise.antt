-- What a line of a log raises of the running summits, and the text of it.
use Rattle.std.specs.Prelude.{◌∷◌, ◌++◌}
use Rattle.text.specs.Prelude.{ℕ, ℤ, Bool, List, [], Option, Some, None, pick, LF, padded, signed}
use Rattle.text.specs.Spelt.{spelt}
use Rattle.b_record.specs.Height.{pressure_metres, gps_metres}
use Rattle.b_record.specs.declared.{height.PressureAlt.PressureAlt, height.GpsAlt.GpsAlt}
use Rattle.report.specs.Peak.{GpsPeak, PressurePeak}
use Rattle.report.specs.Range.{Range, none, between}
use Rattle.report.specs.declared.peak.Peak.{Peak}

-- ---- what a line raises

-- Of two ranges, the highest of the later, where it is above that of the earlier, or the earlier has none.
unfoldable pub raised : {P : Type 0} → (P → P → Bool) → Range P → Range P → Option P
raised below before none = None
raised below none (between high low) = Some high
raised below (between high low) (between high' low') = pick (below high high') (Some high') None

-- The height that was risen to.
unfoldable pub rise_of : {H : Type 0} → Option (Peak H) → Option H
rise_of None = None
rise_of (Some p) = Some p.height

-- The pressure height that was risen to.
abbrev pub pressure_rise : Option PressurePeak → Option PressureAlt
pressure_rise p = rise_of p

-- The GPS height that was risen to.
abbrev pub gps_rise : Option GpsPeak → Option GpsAlt
gps_rise p = rise_of p

-- ---- what is written of it

-- A line's number, the datum, and the height.
unfoldable pub rise_text_of : ℕ → List ℕ → List ℕ → List ℕ
rise_text_of n datum height = padded 1 n ++ (datum ++ (height ++ (LF ∷ [])))

-- The height on a datum that line n rose to; where it rose to none, nothing.
unfoldable pub rise_line : {H : Type 0} → List ℕ → (H → ℤ) → ℕ → Option H → List ℕ
rise_line datum metres n None = []
rise_line datum metres n (Some h) = rise_text_of n datum (signed 1 (metres h))

-- The word of pressure heights.
abbrev pub pressure_word : List ℕ
pressure_word = spelt " pressure "

-- The word of GPS heights.
abbrev pub gps_word : List ℕ
gps_word = spelt " gps "

-- The pressure height that line n rose to; where it rose to none, nothing.
abbrev pub pressure_line : ℕ → Option PressureAlt → List ℕ
pressure_line n rise = rise_line pressure_word pressure_metres n rise

-- The GPS height that line n rose to; where it rose to none, nothing.
abbrev pub gps_line : ℕ → Option GpsAlt → List ℕ
gps_line n rise = rise_line gps_word gps_metres n rise

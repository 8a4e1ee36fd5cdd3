-- The figures of a report. P and G, pressure heights and GPS heights with their places, are types apart.
use Rattle.std.specs.Prelude.{◌+◌}
use Rattle.text.specs.Prelude.{ℕ, Bool, List, ◌≤?◌}
use Rattle.report.specs.Range.{Range, none, joined}
use Rattle.report.specs.Counts.{by_number, added}

pub record Figures (P G : Type 0) : Type 0 where
  -- Lines.
  pub lines : ℕ
  -- Lines by answer number, from 0 on.
  pub answers : List ℕ
  -- Accepted B lines.
  pub fixes : ℕ
  -- Heights of the fixes marked A.
  pub pressure : Range P
  pub gps : Range G
  -- Seconds since midnight of the accepted B lines: the latest and the earliest.
  pub times : Range ℕ

-- The first of two times is the earlier.
unfoldable pub earlier : ℕ → ℕ → Bool
earlier a b = a + 1 ≤? b

-- The figures of nothing.
unfoldable pub empty : {P G : Type 0} → Figures P G
empty = record { lines = 0; answers = by_number (λ n. 0); fixes = 0; pressure = none; gps = none; times = none }

-- The figures of what was read first and of what was read later, as one.
unfoldable pub both : {P G : Type 0} → (P → P → Bool) → (G → G → Bool) → Figures P G → Figures P G → Figures P G
both belowP belowG a b = record {
  lines = a.lines + b.lines;
  answers = added a.answers b.answers;
  fixes = a.fixes + b.fixes;
  pressure = joined belowP a.pressure b.pressure;
  gps = joined belowG a.gps b.gps;
  times = joined earlier a.times b.times;
}

-- The listing of a log: a line for each reading of a fresh walk, and the trailer over them.
use Rattle.std.specs.Prelude.{◌+◌, ◌*◌, ◌≤◌, ◌++◌}
use Rattle.text.specs.Prelude.{ℕ, List, length, largest}
use Rattle.igc_log.specs.Log.{readings}
use Rattle.igc_log.specs.Fold.{over, texts}
use Rattle.walk.specs.Readings.{LineReading, reader}
use Rattle.trailer_text.specs.Trailer.{nothing, count_step, trailer_text_of}
use Rattle.listing_text.specs.Line.{listing_line}

-- The line of the listing for a reading.
unfoldable pub line_of : LineReading → List ℕ
line_of x = listing_line x.number x.line x.answer

-- What is listed of a walk's readings.
unfoldable pub listed : List LineReading → List ℕ
listed xs = texts line_of xs ++ trailer_text_of (over count_step nothing xs)

-- The listing of a log.
unfoldable pub listing_text_of : List ℕ → List ℕ
listing_text_of log = listed (readings reader log)

-- ---- how long it is

-- Room for the listing of any log of n bytes: 38 for each line, of which there are no more than bytes, and 65 for the
-- trailer.
unfoldable pub room_for : ℕ → ℕ
room_for n = 38 * n + 65

-- No log that a machine can hold has a longer listing.
abbrev pub HasRoom : Type 0
HasRoom = (log : List ℕ) → length log ≤ largest → length (listing_text_of log) ≤ room_for (length log)

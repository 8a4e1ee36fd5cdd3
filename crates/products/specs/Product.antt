-- What the desk writes of a log: its listing, the fields of its lines, or the finer positions of its fixes.
use Rattle.std.specs.Prelude.{◌++◌}
use Rattle.text.specs.Prelude.{ℕ, List, [], Res}
use Rattle.records.specs.declared.Record.{Record}
use Rattle.igc_log.specs.Log.{readings}
use Rattle.igc_log.specs.Fold.{over, texts}
use Rattle.held.specs.declared.tables.Tables.{Tables}
use Rattle.walk.specs.Readings.{LineReading, reader}
use Rattle.trailer_text.specs.Trailer.{nothing, count_step, trailer_text_of}
use Rattle.trailer_text.specs.declared.Trailer.{Trailer}
use Rattle.listing_text.specs.Line.{listing_line}
use Rattle.fields_text.specs.Line.{fields_line}
use Rattle.positions_text.specs.Positions.{positions_line}
use Rattle.products.specs.declared.Product.{Product}
use Rattle.products.specs.declared.Product.TheVariants.{Listing, Fields, Positions}

-- Line n with the text s, answered m, at which h is in force, with the names asked for.
unfoldable pub product_line : Product → List ℕ → ℕ → List ℕ → Res Record → Tables → List ℕ
product_line Listing names n s m h = listing_line n s m
product_line Fields names n s m h = fields_line n s m h names
product_line Positions names n s m h = positions_line n s m h

-- The line of a reading.
unfoldable pub product_line_of : Product → List ℕ → LineReading → List ℕ
product_line_of p names x = product_line p names x.number x.line x.answer x.held

-- What closes the text: a listing's trailer.
unfoldable pub closing : Product → Trailer → List ℕ
closing Listing t = trailer_text_of t
closing Fields t = []
closing Positions t = []

-- The whole text: a line for each reading of a fresh walk, and what closes it.
unfoldable pub product_text : Product → List ℕ → List ℕ → List ℕ
product_text p names log =
    texts (product_line_of p names) (readings reader log) ++ closing p (over count_step nothing (readings reader log))

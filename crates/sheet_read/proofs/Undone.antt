-- A season's sheet is read as its total.
use Rattle.text.specs.Prelude.{◌≡◌, true, [], pick, ◌=?◌, ◌∧?◌}
use Rattle.text.specs.Spelt.{spelt, spelt_from}
use Rattle.text.proofs.Prelude.{refl, append-nil}
use Rattle.total.specs.Total.{Totals}
use Rattle.sheet_text.specs.Sheet.{number_line, all_text}
use Rattle.block_read.specs.Read.{got, next, starts_with}
use Rattle.block_read.specs.Block.{read_all}
use Rattle.block_read.specs.Laws.{InFields}
use Rattle.block_read.proofs.Undone.{reads_back}
use Rattle.sheet_read.specs.Sheet.{from_all_of, sheet_of, read_sheet_of}
use Rattle.sheet_read.specs.Laws.{SheetBack}
use Rattle.sheet_read.proofs.Skipping.{log_texts_lem}

from_all : (t : Totals) → from_all_of true (all_text t) ≡ all_text t
unfolding from_all_of all_text number_line starts_with spelt spelt_from ◌=?◌ ◌∧?◌ pick
from_all t = refl

block_read : (t : Totals) → InFields t → read_all (all_text t) ≡ got t []
block_read t fits = rw append-nil at (reads_back.reads t [] fits)

pub sheet_back : SheetBack
unfolding read_sheet_of sheet_of next pick ◌=?◌
sheet_back n fs t fits = rw ((log_texts_lem n fs).passed (all_text t), from_all t, block_read t fits)

use Rattle.text.proofs.Prelude.{arith, refl, ap, ◌∙◌, came, never}
use Rattle.block_read.specs.Block.{block_read}
use Rattle.sheet_read.specs.Sheet.{no_sheet}
use Rattle.sheet_read.proofs.Lines.{rest_of, sheet_whole, sheet_stopped, stop_inside}
use Rattle.sheet_read.proofs.read_sheet.Goals as goal

pub overflow_add-stop : goal.overflow_add-stop
overflow_add-stop c =
    let f = c.find_all-at in
    let read = rw (rest_of _ f.result) at (came (ap block_read c.in-Ok.is) c.read_block.ensures) in
    record { fits = omega (arith, stop_inside _ f.result f.ensures.upper_bound f.ensures.text_value read) }

pub returns-then-stop-text : goal.returns-then-stop-text
returns-then-stop-text c =
    let f = c.find_all-at in
    let read = rw (rest_of _ f.result) at (came (ap block_read c.in-Ok.is) c.read_block.ensures) in
    sheet_whole _ f.result f.ensures.upper_bound f.ensures.text_value read c.if-stop-text.true

pub wrong_at-requires : goal.wrong_at-requires
wrong_at-requires c =
    let f = c.find_all-at in
    let read = rw (rest_of _ f.result) at (came (ap block_read c.in-Ok.is) c.read_block.ensures) in
    stop_inside _ f.result f.ensures.upper_bound f.ensures.text_value read

pub overflow_add-at : goal.overflow_add-at
overflow_add-at c =
    let f = c.find_all-at in
    let read = rw (rest_of _ f.result) at (came (ap block_read c.in-Err.is) c.read_block.ensures) in
    record { fits = omega (arith, stop_inside _ f.result f.ensures.upper_bound f.ensures.text_value read) }

pub wrong_at-requires-in-Err : goal.wrong_at-requires-in-Err
wrong_at-requires-in-Err c =
    let f = c.find_all-at in
    let read = rw (rest_of _ f.result) at (came (ap block_read c.in-Err.is) c.read_block.ensures) in
    stop_inside _ f.result f.ensures.upper_bound f.ensures.text_value read

pub returns-else-stop-text : goal.returns-else-stop-text
returns-else-stop-text c =
    let f = c.find_all-at in
    let read = rw (rest_of _ f.result) at (came (ap block_read c.in-Ok.is) c.read_block.ensures) in
    ap no_sheet c.wrong_at.ensures
    ∙ sheet_stopped _ f.result f.ensures.upper_bound f.ensures.text_value read (λ g e. c.if-stop-text.false e)

pub returns-in-Err : goal.returns-in-Err
returns-in-Err c =
    let f = c.find_all-at in
    let read = rw (rest_of _ f.result) at (came (ap block_read c.in-Err.is) c.read_block.ensures) in
    ap no_sheet c.wrong_at-in-Err.ensures
    ∙ sheet_stopped _ f.result f.ensures.upper_bound f.ensures.text_value read (λ g e. never g refl)

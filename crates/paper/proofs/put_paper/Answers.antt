use Rattle.text.proofs.Prelude.{arith}
use Rattle.listing_text.proofs.Limit.{paper_has_room}
use Rattle.paper.proofs.Fitting.{all_written, not_refused}
use Rattle.paper.proofs.put_paper.Goals as goal

pub returns-in-Ok : goal.returns-in-Ok
returns-in-Ok c =
    let room = paper_has_room c.args.log.now in
    all_written (omega (arith, room, c.requires)) (rw c.in-Ok.is at c.print_paper.ensures)

pub returns-in-Err : goal.returns-in-Err
returns-in-Err c =
    let room = paper_has_room c.args.log.now in
    absurd (not_refused (omega (arith, room, c.requires)) (rw c.in-Err.is at c.print_paper.ensures))

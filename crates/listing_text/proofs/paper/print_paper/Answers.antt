use Rattle.text.specs.Prelude.{[], ok}
use Rattle.text.proofs.Prelude.{arith, refl, sym, ap}
use Rattle.put.specs.Put.{Wrote}
use Rattle.print.proofs.Printing.{no_room, written}
use Rattle.listing_text.specs.Paper.{too_long_of}
use Rattle.listing_text.proofs.Limit.{paper_short, paper_long}
use Rattle.listing_text.proofs.paper.print_paper.Goals as goal

-- the words, tried on no bytes
tried : Wrote [] 0 too_long_of [] 9
unfolding too_long_of
tried = record { next = refl; content = refl; short = omega arith }

pub returns-then-log-le65536 : goal.returns-then-log-le65536
returns-then-log-le65536 c = rw (sym (paper_short c.args.log.now c.if-log-le65536.true)) c.print_listing.ensures

pub returns-then-buf-lt9 : goal.returns-then-buf-lt9
returns-then-buf-lt9 c = no_room (ap ok (paper_long _ c.if-log-le65536.false)) tried c.if-buf-lt9.true

pub returns : goal.returns
unfolding too_long_of
returns c = written (ap ok (paper_long _ c.if-log-le65536.false)) tried c.if-buf-lt9.false c.put_bytes.ensures

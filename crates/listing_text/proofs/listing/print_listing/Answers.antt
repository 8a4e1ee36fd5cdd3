use Rattle.text.proofs.Prelude.{arith, refl, sym, ◌∙◌, is≤}
use Rattle.print.proofs.Printing.{no_room, written}
use Rattle.listing_text.proofs.Room.{has_room}
use Rattle.listing_text.proofs.listing.print_listing.Goals as goal

-- where there is room for the listing of any log as long
pub returns-then-has_room : goal.returns-then-has_room
returns-then-has_room c =
    let room = is≤ (sym c.has_room.ensures ∙ c.if-has_room.true) in
    let w = c.put_listing.ensures in
    written refl w (omega (arith, w.next, has_room c.args.log.now (omega arith), room)) w

pub returns-then-buf-put_listing : goal.returns-then-buf-put_listing
returns-then-buf-put_listing c = no_room refl c.put_listing-2.ensures c.if-buf-put_listing.true

pub returns : goal.returns
returns c = written refl c.put_listing-2.ensures c.if-buf-put_listing.false c.put_listing-3.ensures

-- Whatever the pieces of a log were, what is written for them is the text of the whole log.
use Rattle.text.specs.Prelude.{ℕ, ◌+◌, ◌≤◌, ◌≡◌, true, List, ◌++◌, largest}
use Rattle.text.proofs.Prelude.{arith, refl, sym, ap, ◌∙◌, append-nil, length-take-le}
use Rattle.igc_log.specs.Fold as fold
use Rattle.igc_log.specs.Pieces.{joined, Whole, fed_all, texts_all}
use Rattle.igc_log.proofs.Pieces.{in_pieces as pieces, place_is}
use Rattle.igc_log.proofs.Reached as reached
use Rattle.held.specs.declared.tables.Tables.{Tables}
use Rattle.cursor.specs.Cursor.{start}
use Rattle.walk.specs.Readings.{reader}
use Rattle.trailer_text.specs.Trailer.{nothing, count_step}
use Rattle.trailer_text.specs.declared.Trailer.{Trailer}
use Rattle.trailer_text.proofs.Counting.{one_refused}
use Rattle.listing_text.specs.Listing.{line_of, listed, listing_text_of}
use Rattle.fields_text.specs.Line.{fields_of, fields_text_of}
use Rattle.positions_text.specs.Positions.{positions_of, positions_text_of}
use Rattle.products.specs.Product.{product_line, product_line_of, closing, product_text}
use Rattle.products.specs.Feed.{at_first_of, view, is_ready_of, Feeds}
use Rattle.products.specs.Whole.{Rows, none, next, InPieces}
use Rattle.products.specs.declared.{Product.Product, Carried.Carried, Fed.Fed}
use Rattle.products.specs.declared.Product.TheVariants.{Listing, Fields, Positions}
use Rattle.products.proofs.Feeding.{one_line_fed, within_64_bits, so_ready, called}

-- The product of a listing is the listing.
listing_is : (names log : List ℕ) → product_text Listing names log ≡ listing_text_of log
unfolding product_text listing_text_of listed product_line_of product_line line_of closing
listing_is names log = refl

-- That of fields is the fields of the lines.
fields_is : (names log : List ℕ) → product_text Fields names log ≡ fields_text_of names log
unfolding product_text fields_text_of product_line_of product_line fields_of closing
fields_is names log = append-nil _

-- That of positions is the positions of the fixes.
positions_is : (names log : List ℕ) → product_text Positions names log ≡ positions_text_of log
unfolding product_text positions_text_of product_line_of product_line positions_of closing
positions_is names log = append-nil _

-- ---- calls one after the other

module _ {p : Product} {names : List ℕ} where
  -- They feed all the pieces, and write their texts.
  all_fed : {c c' : Carried} {ps : List (List ℕ)} {t : List ℕ} → Rows p names c ps c' t →
      (view c' ≡ fed_all reader count_step (view c) ps)
      × (t ≡ texts_all reader count_step (product_line_of p names) (view c) ps)
  unfolding fed_all texts_all
  all_fed none = (refl, refl)
  all_fed {c} (next s b b' r k rows) =
      let one = called p names c s b b' r k in
      let others = all_fed rows in
      (others.0 ∙ rw one.0.made, rw (one.1, sym one.0.made, others.1))

  -- So they make the text of the whole log.
  whole_is : {c : Carried} {ps : List (List ℕ)} {t : List ℕ} →
      Rows p names at_first_of ps c t → Whole ps → t ++ closing p c.trailer ≡ product_text p names (joined ps)
  unfolding product_text at_first_of nothing start
  whole_is {ps} rows h =
      let law = pieces reader count_step in
      let all = all_fed rows in
      let made = ap (λ (k : fold.Carried Tables Trailer). k.made) (all.0 ∙ law.all _ ps h) in
      rw (
        all.1 ∙ law.text (product_line_of p names) _ ps h,
        made ∙ law.made _ (joined ps),
        law.read nothing
            (joined ps),
      )

-- ---- no count passes 64 bits

-- A log of fewer than 2 ^ 64 bytes is ready at first.
first_ready : (n : ℕ) → n ≤ largest → is_ready_of at_first_of n ≡ true
unfolding at_first_of nothing start
first_ready n h = so_ready at_first_of n (omega arith) (omega arith) (omega arith) (omega arith)

-- What is left of it stays ready.
still_ready : (p : Product) (names : List ℕ) (c : Carried) (s b b' : List ℕ) (r : Fed) (n : ℕ) →
    Feeds p names c s b b' r → is_ready_of c (r.taken + n) ≡ true → is_ready_of r.carried n ≡ true
still_ready p names c s b b' r n k e =
    let at = (called p names c s b b' r k).0 in
    let w = within_64_bits c (r.taken + n) e in
    let place = ap (λ (k : fold.Carried Tables Trailer). k.place) at.made ∙ place_is reader count_step (view c) _ in
    so_ready r.carried n
    (omega (arith, w.0, place, length-take-le r.taken s at.inside))
    (omega (arith, w.1, reached.few at))
    (omega (arith, w.2, reached.at_most at (λ t. t.lines) one_line_fed))
    (omega (arith, w.3, reached.at_most at (λ t. t.refused) one_refused))

-- The law of a log in pieces holds.
pub in_pieces : InPieces
in_pieces = record {
  listing = listing_is;
  fields = fields_is;
  positions = positions_is;
  whole = whole_is;
  at_first = first_ready;
  later = still_ready;
}

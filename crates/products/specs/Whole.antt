-- Whatever the pieces of a log were, what is written for them is the text of the whole log.
use Rattle.std.specs.Prelude.{◌+◌, ◌≤◌, ◌≡◌, ◌∷◌, ◌++◌}
use Rattle.text.specs.Prelude.{ℕ, true, List, [], take, largest}
use Rattle.igc_log.specs.Pieces.{joined, Whole}
use Rattle.listing_text.specs.Listing.{listing_text_of}
use Rattle.fields_text.specs.Line.{fields_text_of}
use Rattle.positions_text.specs.Positions.{positions_text_of}
use Rattle.products.specs.Product.{closing, product_text}
use Rattle.products.specs.Feed.{at_first_of, is_ready_of, Feeds}
use Rattle.products.specs.declared.{Product.Product, Carried.Carried, Fed.Fed}
use Rattle.products.specs.declared.Product.TheVariants.{Listing, Fields, Positions}

module _ (p : Product) (names : List ℕ) where
  -- Calls one after the other, from c to c': the bytes that were taken at each, and the texts, in a row.
  pub data Rows : Carried → List (List ℕ) → Carried → List ℕ → Type 0 where
    none : {c : Carried} → Rows c [] c []
    next : {c c' : Carried} {t : List ℕ} {ps : List (List ℕ)} (s b b' : List ℕ) (r : Fed) → Feeds p names c s b b' r →
        Rows r.carried ps c' t → Rows c (take r.taken s ∷ ps) c' (take r.end b' ++ t)

-- What calls in a row write, whatever the pieces, is the text of the whole log.
pub record InPieces : Type 0 where
  -- The texts are those of the papers.
  pub listing : (names log : List ℕ) → product_text Listing names log ≡ listing_text_of log
  pub fields : (names log : List ℕ) → product_text Fields names log ≡ fields_text_of names log
  pub positions : (names log : List ℕ) → product_text Positions names log ≡ positions_text_of log
  -- What was written for the pieces of a log, and what closes it, are its text.
  pub whole : {p : Product} {names : List ℕ} {c : Carried} {ps : List (List ℕ)} {t : List ℕ} →
      Rows p names at_first_of ps c t → Whole ps → t ++ closing p c.trailer ≡ product_text p names (joined ps)
  -- Counts pass 64 bits of no log that has fewer than 2 ^ 64 bytes.
  pub at_first : (n : ℕ) → n ≤ largest → is_ready_of at_first_of n ≡ true
  pub later : (p : Product) (names : List ℕ) (c : Carried) (s b b' : List ℕ) (r : Fed) (n : ℕ) →
      Feeds p names c s b b' r → is_ready_of c (r.taken + n) ≡ true → is_ready_of r.carried n ≡ true

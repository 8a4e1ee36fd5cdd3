-- The highest and the lowest of some things that are seen one after the other.
use Rattle.std.specs.Prelude.{◌≡◌, ◌∷◌, ◌++◌}
use Rattle.text.specs.Prelude.{Bool, true, false, List, [], pick}

-- Nothing was seen; or the highest and the lowest.
pub data Range (P : Type 0) : Type 0 where
  none : Range P
  between : P → P → Range P

-- X holds of every element.
abbrev pub Every : {P : Type 0} → (P → Type 0) → List P → Type 0
Every X [] = Unit
Every X (p ∷ ps) = X p × Every X ps

-- `below` orders things by some measure of theirs, as heights by their metres: of two with one measure neither is below
-- the other.
pub record Order {P : Type 0} (below : P → P → Bool) : Type 0 where
  pub one_way : (a b : P) → below a b ≡ true → below b a ≡ false
  pub through : (a b c : P) → below a b ≡ false → below b c ≡ false → below a c ≡ false

-- The other way up.
abbrev pub turned : {P : Type 0} → (P → P → Bool) → P → P → Bool
turned below a b = below b a

-- The higher of two, and of equals the one that was seen first.
unfoldable pub higher : {P : Type 0} → (P → P → Bool) → P → P → P
higher below a b = pick (below a b) b a

module _ {P : Type 0} (below : P → P → Bool) where
  -- What was seen first, and what was seen later, as one.
  unfoldable pub joined : Range P → Range P → Range P
  joined none later = later
  joined (between high low) none = between high low
  joined (between high low) (between high' low') = between (higher below high high') (higher (turned below) low low')

  -- The range of some things.
  unfoldable pub range_of : List P → Range P
  range_of [] = none
  range_of (p ∷ ps) = joined (between p p) (range_of ps)

  -- p is the highest of ps, and the first of them that reached it: all before it are below it, and it is below none
  -- after it.
  pub record Highest (ps : List P) (p : P) : Type 0 where
    pub before : List P
    pub after : List P
    pub here : ps ≡ before ++ (p ∷ after)
    pub first : Every (λ q. below q p ≡ true) before
    pub most : Every (λ q. below p q ≡ false) after

-- What a range says of some things: none where there are none; else the highest is the first that reached it, and so is
-- the lowest.
abbrev pub IsRange : {P : Type 0} → (P → P → Bool) → List P → Range P → Type 0
IsRange below ps none = ps ≡ []
IsRange below ps (between high low) = Highest below ps high × Highest (turned below) ps low

-- The range of some things: seen in parts it is the same, and it is what it says.
use Rattle.text.specs.Prelude.{◌≡◌, Bool, true, false, List, [], ◌∷◌, ◌++◌, length, pick}
use Rattle.text.proofs.Prelude.{arith, refl, sym, ap, ◌∙◌, length-append, never}
use Rattle.text.proofs.Prelude.{by_test}
use Rattle.report.specs.Range.{Range, none, between, Every, Order, turned, higher, joined, range_of, Highest}
use Rattle.report.specs.Range.{IsRange}
use Rattle.report.specs.Laws.{OneRange}

-- ---- orders

-- an order is one the other way up too
turn : {P : Type 0} {below : P → P → Bool} → Order below → Order (turned below)
turn o = record { one_way = λ a b h. o.one_way b a h; through = λ a b c p q. o.through c b a q p }

module _ {P : Type 0} {below : P → P → Bool} (o : Order below) where
  -- what is below one is below what is above that
  below_trans : (a b c : P) → below a b ≡ true → below b c ≡ true → below a c ≡ true
  below_trans a b c p q = by_test (below a c) (λ e. e) (λ e. never p (o.through a c b e (o.one_way b c q)))

  higher_assoc : (a b c : P) → higher below (higher below a b) c ≡ higher below a (higher below b c)
  unfolding higher pick
  higher_assoc a b c =
      by_test (below a b)
      (λ ab. by_test (below b c) (λ bc. rw (ab, bc, below_trans a b c ab bc)) (λ bc. rw (ab, bc, ab)))
      (λ ab. by_test (below b c) (λ bc. rw (ab, bc)) (λ bc. rw (ab, bc, o.through a b c ab bc, ab)))

-- ---- in parts

module _ {P : Type 0} {below : P → P → Bool} (o : Order below) where
  pub joined_assoc : (a b c : Range P) → joined below (joined below a b) c ≡ joined below a (joined below b c)
  unfolding joined
  joined_assoc none b c = refl
  joined_assoc (between h l) none c = refl
  joined_assoc (between h l) (between h₁ l₁) none = refl
  joined_assoc (between h l) (between h₁ l₁) (between h₂ l₂) =
      rw (higher_assoc o h h₁ h₂, higher_assoc (turn o) l l₁ l₂)

  -- the range of things in two parts is that of the one and of the other, as one
  pub range_append : (ps qs : List P) → range_of below (ps ++ qs) ≡ joined below (range_of below ps) (range_of below qs)
  unfolding range_of joined
  range_append [] qs = refl
  range_append (p ∷ ps) qs =
      rw (range_append ps qs) (sym (joined_assoc (between p p) (range_of below ps) (range_of below qs)))

module _ {P : Type 0} (below : P → P → Bool) where
  pub joined_none : (r : Range P) → joined below r none ≡ r
  unfolding joined
  joined_none none = refl
  joined_none (between h l) = refl

  pub none_joined : (r : Range P) → joined below none r ≡ r
  unfolding joined
  none_joined r = refl

  pub range_none : range_of below [] ≡ none
  unfolding range_of
  range_none = refl

  pub range_one : (p : P) → range_of below (p ∷ []) ≡ between p p
  unfolding range_of
  range_one p = joined_none (between p p)

-- ---- what it says

-- what holds of every element, and what follows from it
every_map : {P : Type 0} (X Y : P → Type 0) (ps : List P) → ((p : P) → X p → Y p) → Every X ps → Every Y ps
every_map X Y [] f x = tt
every_map X Y (p ∷ ps) f x = (f p x.0, every_map X Y ps f x.1)

pub every_append : {P : Type 0} (X : P → Type 0) (ps qs : List P) → Every X ps → Every X qs → Every X (ps ++ qs)
every_append X [] qs x y = y
every_append X (p ∷ ps) qs x y = (x.0, every_append X ps qs x.1 y)

-- the highest of one and more
abbrev top : {P : Type 0} → (P → P → Bool) → P → List P → P
top below p [] = p
top below p (q ∷ qs) = higher below p (top below q qs)

range_top : {P : Type 0} (below : P → P → Bool) (p : P) (ps : List P) →
    range_of below (p ∷ ps) ≡ between (top below p ps) (top (turned below) p ps)
unfolding range_of joined
range_top below p [] = refl
range_top below p (q ∷ qs) = ap (joined below (between p p)) (range_top below q qs)

module _ {P : Type 0} {below : P → P → Bool} (o : Order below) where
  -- none of those is above p that has t above none of them, or below it
  none_above : (p t : P) (ps : List P) → Highest below ps t → below p t ≡ false → Every (λ q. below p q ≡ false) ps
  none_above p t ps h e =
      let N : P → Type 0 = λ q. below p q ≡ false in
      rw h.here
      (every_append N h.before (t ∷ h.after)
      (every_map _ N h.before (λ q k. o.through p t q e (o.one_way q t k)) h.first)
      (e, every_map _ N h.after (λ q k. o.through p t q e k) h.most))

  -- one more in front: it is the highest itself, unless it is below
  higher_highest : (p t : P) (ps : List P) → Highest below ps t → Highest below (p ∷ ps) (higher below p t)
  unfolding higher pick
  higher_highest p t ps h =
      by_test (below p t)
      (λ e. rw e (record {
        before = p ∷ h.before;
        after = h.after;
        here = ap (λ l. p ∷ l) h.here;
        first = (e, h.first);
        most = h.most;
      }))
      (λ e. rw e (record { before = []; after = ps; here = refl; first = tt; most = none_above p t ps h e }))

  top_highest : (p : P) (ps : List P) → Highest below (p ∷ ps) (top below p ps)
  top_highest p [] = record { before = []; after = []; here = refl; first = tt; most = tt }
  top_highest p (q ∷ qs) = higher_highest p (top below q qs) (q ∷ qs) (top_highest q qs)

range_is : {P : Type 0} {below : P → P → Bool} → Order below → (ps : List P) → IsRange below ps (range_of below ps)
unfolding range_of
range_is o [] = refl
range_is {below} o (p ∷ ps) = rw (range_top below p ps) (top_highest o p ps, top_highest (turn o) p ps)

-- ---- and nothing else is

pub every_at : {P : Type 0} (X : P → Type 0) (ps : List P) (q : P) (qs : List P) → Every X (ps ++ (q ∷ qs)) → X q
every_at X [] q qs x = x.0
every_at X (p ∷ ps) q qs x = every_at X ps q qs x.1

module _ {P : Type 0} (below : P → P → Bool) where
  -- all before p are below it, and it is below none after it
  abbrev Tops : List P → P → List P → Type 0
  Tops before p after = Every (λ q. below q p ≡ true) before × Every (λ q. below p q ≡ false) after

  -- two that split one list so are one
  one_split : (b a b' a' : List P) (p q : P) → b ++ (p ∷ a) ≡ b' ++ (q ∷ a') → Tops b p a → Tops b' q a' → p ≡ q
  one_split [] a [] a' p q e s t = cc
  one_split [] a (x ∷ b') a' p q e s t =
      let h : p ≡ x = cc in
      let k : a ≡ b' ++ (q ∷ a') = cc in
      never (rw (sym h) at t.0.0) (every_at (λ x. below p x ≡ false) b' q a' (rw k at s.1))
  one_split (x ∷ b) a [] a' p q e s t =
      let h : q ≡ x = cc in
      let k : a' ≡ b ++ (p ∷ a) = cc in
      never (rw (sym h) at s.0.0) (every_at (λ x. below q x ≡ false) b p a (rw k at t.1))
  one_split (x ∷ b) a (y ∷ b') a' p q e s t =
      let k : b ++ (p ∷ a) ≡ b' ++ (q ∷ a') = cc in
      one_split b a b' a' p q k (s.0.1, s.1) (t.0.1, t.1)

  one_highest : (ps : List P) (p q : P) → Highest below ps p → Highest below ps q → p ≡ q
  one_highest ps p q h k =
      one_split h.before h.after k.before k.after p q (sym h.here ∙ k.here) (h.first, h.most)
      (k.first, k.most)

  none_highest : (ps : List P) (p : P) → ps ≡ [] → Highest below ps p → ⊥
  none_highest ps p e h = omega (arith, simp length-append at (ap length (sym e ∙ h.here)))

same_range : {P : Type 0} (below : P → P → Bool) (ps : List P) (r q : Range P) → IsRange below ps r →
    IsRange below ps q → r ≡ q
same_range below ps none none e f = refl
same_range below ps none (between h l) e f = absurd (none_highest below ps h e f.0)
same_range below ps (between h l) none e f = absurd (none_highest below ps h f e.0)
same_range below ps (between h l) (between h' l') e f =
    rw (one_highest below ps h h' e.0 f.0, one_highest (turned below) ps l l' e.1 f.1)

-- over any order the range of some things says what they are, and no other range does
pub ordered_range : {P : Type 0} {below : P → P → Bool} → Order below → OneRange below
ordered_range {below} o = record {
  is = range_is o;
  only = λ ps r w. same_range below ps r (range_of below ps) w (range_is o ps);
}

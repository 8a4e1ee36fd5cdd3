-- From place to place: where a reader comes to, one law for each way of putting readers in a row.
use Rattle.text.specs.Prelude.{ℕ, ◌≤◌, ◌≡◌, Bool, true, false, List, length, drop, pick}
use Rattle.text.proofs.Prelude.{arith, refl, sym, ap, ◌∙◌, by_test}
use Rattle.block_read.specs.Read.{Read, got, wrong, next}
use Rattle.block_read.specs.Held.{held_at, onward, Came}
use Rattle.block_read.specs.declared.{number.Place.Place}

-- the text from a place on
abbrev pub here : List ℕ → Place → List ℕ
here text p = drop p.at text

-- what was read is not wrong
pub got_wrong : {A B : Type 0} {a : A} {s r : List ℕ} → got a s ≡ wrong r → B
got_wrong h = let z : ◌≡◌ {A = ℕ} 0 1 = cc in absurd (omega arith)

-- ---- one reader

module _ {A : Type 0} {text : List ℕ} {from to : Place} {f : List ℕ → Read A} {a : A} where
  -- what a good place says of the reader that came there
  pub from_good : Came text from f to a → to.good ≡ true → from.good ≡ true
  unfolding held_at onward pick
  from_good c e = by_test from.good (λ g. g) (λ g. got_wrong (rw (e, g) at c.is))

  pub got_there : Came text from f to a → to.good ≡ true → f (here text from) ≡ got a (here text to)
  unfolding held_at onward pick
  got_there c e = sym (rw (e, from_good c e) at c.is)

  -- what one that is not good says, where all before the reader was good
  pub wrong_there : Came text from f to a → from.good ≡ true → to.good ≡ false →
      f (here text from) ≡ wrong (here text to)
  unfolding held_at onward pick
  wrong_there c g e = sym (rw (e, g) at c.is)

  -- the other way round
  pub comes : from.good ≡ true → to.good ≡ true → to.at ≤ length text → got a (here text to) ≡ f (here text from) →
      Came text from f to a
  unfolding held_at onward pick
  comes g e l h = record { is = rw (g, e) h; inside = l }

  pub stops : from.at ≤ length text → to ≡ record { at = from.at; good = false } →
      (from.good ≡ true → wrong (here text from) ≡ f (here text from)) → Came text from f to a
  unfolding held_at onward pick
  stops l e h = rw e (record { is = by_test from.good (λ t. rw t (h t)) (λ t. rw t); inside = l })

  -- a reader that says the same of this text comes to the same place
  pub alike : {g : List ℕ → Read A} → Came text from f to a →
      (from.good ≡ true → f (here text from) ≡ g (here text from)) → Came text from g to a
  unfolding onward pick
  alike c e = record { is = c.is ∙ by_test from.good (λ t. rw t (e t)) (λ t. rw t); inside = c.inside }

-- ---- readers in a row

next_pick : {A B : Type 0} (g : A → List ℕ → Read B) (t : Bool) (m : Read A) (s : List ℕ) →
    next (pick t m (wrong s)) g ≡ pick t (next m g) (wrong s)
unfolding next pick
next_pick g true m s = refl
next_pick g false m s = refl

-- a reader and then the next are one
pub then : {A B : Type 0} {text : List ℕ} {from p to : Place} {f : List ℕ → Read A} {a : A} {b : B}
    (g : List ℕ → A → List ℕ → Read B) → Came text from f p a → Came text p (g (here text from) a) to b →
    Came text from (λ s. next (f s) (g s)) to b
unfolding held_at onward next
then {text} {from} {p} {f} {a} g c d =
    let k = g (here text from) in
    record {
      is = d.is ∙ sym (next_pick k p.good (got a (here text p)) _) ∙ ap (λ m. next m k) c.is
          ∙ next_pick k from.good (f (here text from)) _;
      inside = d.inside;
    }

-- nothing is left to read
pub done : {A : Type 0} {text : List ℕ} {p : Place} {a : A} → p.at ≤ length text → Came text p (got a) p a
unfolding held_at onward
done l = record { is = refl; inside = l }

-- all was wrong already
pub stays : {A : Type 0} {text : List ℕ} {p : Place} (f : List ℕ → Read A) (a : A) → p.good ≡ false →
    p.at ≤ length text → Came text p f p a
unfolding held_at onward pick
stays f a e l = record { is = rw e; inside = l }

-- from one good place back to another
pub back : {A : Type 0} {text : List ℕ} {from to : Place} {a : A} → from.good ≡ true → to.good ≡ true →
    to.at ≤ length text → Came text from (λ _. got a (here text to)) to a
back g e l = comes g e l refl

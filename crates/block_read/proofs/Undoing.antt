-- Reading undoes printing: what that says, and a law for each way in which readers are put together.
use Rattle.text.specs.Prelude.{ℕ, ◌≡◌, true, List, [], ◌∷◌, ◌++◌, length, drop, pick}
use Rattle.text.proofs.Prelude.{arith, refl, sym, ap, ◌∙◌, append_assoc, yes=, is=, both, holds, by_test, never}
use Rattle.block_read.specs.Read.{Read, got, wrong, next, starts_with, read_words_of}

-- What was read of s as b, up to r, is made of a value that prints as what stands there.
pub record Printed {A B : Type 0} (Ok : A → Type 0) (print : A → List ℕ) (made : A → B) (s : List ℕ) (b : B)
    (r : List ℕ) : Type 0 where
  pub value : A
  pub is : b ≡ made value
  pub text : s ≡ print value ++ r
  pub ok : Ok value

-- So it is with all that is read.
abbrev pub Prints : {A B : Type 0} → (A → Type 0) → (A → List ℕ) → (A → B) → (List ℕ → Read B) → Type 0
Prints {B} Ok print made read = (s : List ℕ) (b : B) (r : List ℕ) → read s ≡ got b r → Printed Ok print made s b r

-- What a value that is ok prints is read as what is made of it, whatever stands behind it; and nothing else is read.
pub record Undoes {A B : Type 0} (Ok : A → Type 0) (print : A → List ℕ) (made : A → B)
    (read : List ℕ → Read B) : Type 0 where
  pub reads : (a : A) (r : List ℕ) → Ok a → read (print a ++ r) ≡ got (made a) r
  pub printed : Prints Ok print made read

-- ---- what was read

pub not_got : {A X : Type 0} {s r : List ℕ} {a : A} → wrong s ≡ got a r → X
not_got h = let z : ◌≡◌ {A = ℕ} 0 1 = cc in let f : ⊥ = omega arith in absurd f

pub got_same : {A : Type 0} {a b : A} {q r : List ℕ} → got a q ≡ got b r → (a ≡ b) × (q ≡ r)
got_same h = (cc, cc)

pub came_from : {A B : Type 0} (m : Read A) (f : A → List ℕ → Read B) {b : B} {r : List ℕ} → next m f ≡ got b r →
    (a : A) × (q : List ℕ) × (m ≡ got a q) × (f a q ≡ got b r)
unfolding next
came_from (got a q) f h = (a, q, refl, h)
came_from (wrong s) f h = not_got h

-- ---- one after the other

abbrev pub Both : {A B : Type 0} → (A → Type 0) → (B → Type 0) → A × B → Type 0
Both OkA OkB x = OkA x.0 × OkB x.1

abbrev pub in_row : {A B : Type 0} → (A → List ℕ) → (B → List ℕ) → A × B → List ℕ
in_row printA printB x = printA x.0 ++ printB x.1

module _ {A B C : Type 0} {OkA : A → Type 0} {OkB : B → Type 0} {printA : A → List ℕ} {printB : B → List ℕ}
    {read_a : List ℕ → Read A} {made : A → B → C} {read : A → List ℕ → Read C} where
  pub then_printed : Prints OkA printA (λ a. a) read_a → ((a : A) → Prints OkB printB (made a) (read a)) →
      Prints (Both OkA OkB) (in_row printA printB) (λ x. made x.0 x.1) (λ s. next (read_a s) read)
  then_printed f g s c r h =
      let m = came_from (read_a s) read h in
      let p = f s m.0 m.1 m.2 in
      let q = g m.0 m.1 c r m.3 in
      record {
        value = (p.value, q.value);
        is = q.is ∙ ap (λ a. made a q.value) p.is;
        text =
            p.text ∙ ap (λ t. printA p.value ++ t) q.text
            ∙ sym (append_assoc (printA p.value) (printB q.value) r);
        ok = (p.ok, q.ok);
      }

  -- the first need be read only where the second stands behind it
  pub then_before :
      ((a : A) (b : B) (r : List ℕ) → OkA a → read_a (printA a ++ (printB b ++ r)) ≡ got a (printB b ++ r)) →
      Prints OkA printA (λ a. a) read_a → ((a : A) → Undoes OkB printB (made a) (read a)) →
      Undoes (Both OkA OkB) (in_row printA printB) (λ x. made x.0 x.1) (λ s. next (read_a s) read)
  unfolding next
  then_before f g u = record {
    reads = λ x r ok. rw (append_assoc, f x.0 x.1 r ok.0) ((u x.0).reads x.1 r ok.1);
    printed = then_printed g (λ a. (u a).printed);
  }

  pub then : Undoes OkA printA (λ a. a) read_a → ((a : A) → Undoes OkB printB (made a) (read a)) →
      Undoes (Both OkA OkB) (in_row printA printB) (λ x. made x.0 x.1) (λ s. next (read_a s) read)
  then u = then_before (λ a b r. u.reads a (printB b ++ r)) u.printed

-- ---- what is made of a value, and how it is seen

pub into_printed : {A B C : Type 0} {Ok : A → Type 0} {print : A → List ℕ} {made : A → B} {read : List ℕ → Read B} →
    Prints Ok print made read → (f : B → C) →
    Prints Ok print (λ a. f (made a)) (λ s. next (read s) (λ b r. got (f b) r))
into_printed {print} {read} g f s c r h =
    let m = came_from (read s) (λ b r. got (f b) r) h in
    let p = g s m.0 m.1 m.2 in
    let e = got_same m.3 in
    record {
      value = p.value;
      is = sym e.0 ∙ ap f p.is;
      text = p.text ∙ ap (λ t. print p.value ++ t) e.1;
      ok = p.ok;
    }

module _ {A B : Type 0} {Ok : A → Type 0} {print : A → List ℕ} {made : A → B} {read : List ℕ → Read B}
    (u : Undoes Ok print made read) where
  pub into : {C : Type 0} (f : B → C) → Undoes Ok print (λ a. f (made a)) (λ s. next (read s) (λ b r. got (f b) r))
  unfolding next
  into f = record { reads = λ a r ok. rw (u.reads a r ok); printed = into_printed u.printed f }

  -- the same values, seen as others
  pub seen : {C : Type 0} {Ok' : C → Type 0} (view : C → A) (back : A → C) → ((a : A) → view (back a) ≡ a) →
      ((c : C) → Ok' c → Ok (view c)) → ((a : A) → Ok a → Ok' (back a)) →
      Undoes Ok' (λ c. print (view c)) (λ c. made (view c)) read
  seen view back same ok ok' = record {
    reads = λ c r k. u.reads (view c) r (ok c k);
    printed = λ s b r h.
        let p = u.printed s b r h in
        record {
          value = back p.value;
          is = rw (same p.value) p.is;
          text = rw (same p.value) p.text;
          ok = ok' p.value p.ok;
        };
  }

  -- the same texts, told otherwise
  pub told : {print' : A → List ℕ} → ((a : A) → print a ≡ print' a) → Undoes Ok print' made read
  told same = record {
    reads = λ a r ok. rw (← same a) (u.reads a r ok);
    printed = λ s b r h.
        let p = u.printed s b r h in
        record { value = p.value; is = p.is; text = rw (← same p.value) p.text; ok = p.ok };
  }

-- ---- words

pub starts_with_lem : (ws r : List ℕ) → starts_with ws (ws ++ r) ≡ true
unfolding starts_with
starts_with_lem [] r = refl
starts_with_lem (w ∷ ws) r = holds (yes= refl) (starts_with_lem ws r)

pub drop_front : (ws r : List ℕ) → drop (length ws) (ws ++ r) ≡ r
drop_front [] r = refl
drop_front (w ∷ ws) r = drop_front ws r

pub starts_so : (ws s : List ℕ) → starts_with ws s ≡ true → s ≡ ws ++ drop (length ws) s
unfolding starts_with
starts_so [] s h = refl
starts_so (w ∷ ws) [] h = never h refl
starts_so (w ∷ ws) (b ∷ s) h = let k = both h in rw (is= k.0) (ap (λ t. b ∷ t) (starts_so ws s k.1))

pub words_read : (ws r : List ℕ) → read_words_of ws (ws ++ r) ≡ got tt r
unfolding read_words_of pick
words_read ws r = rw (starts_with_lem ws r, drop_front ws r)

pub words_printed : (ws s q : List ℕ) (u : Unit) → read_words_of ws s ≡ got u q → s ≡ ws ++ q
unfolding read_words_of pick
words_printed ws s q u h =
    by_test (starts_with ws s)
    (λ e. starts_so ws s e ∙ ap (λ t. ws ++ t) (got_same (rw e at h)).1)
    (λ e. not_got (rw e at h))

pub behind : (ws : List ℕ) {A B : Type 0} {Ok : A → Type 0} {print : A → List ℕ} {made : A → B}
    {read : List ℕ → Read B} → Undoes Ok print made read →
    Undoes Ok (λ a. ws ++ print a) made (λ s. next (read_words_of ws s) (λ _ r. read r))
unfolding next
behind ws {print} {read} u = record {
  reads = λ a r ok. rw (append_assoc, words_read ws (print a ++ r)) (u.reads a r ok);
  printed = λ s b r h.
      let m = came_from (read_words_of ws s) (λ _ r. read r) h in
      let p = u.printed m.1 b r m.3 in
      record {
        value = p.value;
        is = p.is;
        text =
            words_printed ws s m.1 m.0 m.2 ∙ ap (λ t. ws ++ t) p.text
            ∙ sym (append_assoc ws (print p.value) r);
        ok = p.ok;
      };
}

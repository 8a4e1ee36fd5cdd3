-- A test that every byte of a text passes: one law for the loops over bytes.
use Rattle.text.specs.Prelude.{ℕ, suc, ◌+◌, ◌≤◌, ◌<◌, ◌≡◌, Bool, true, false, List, [], ◌∷◌, length, drop, get_or, pick}
use Rattle.text.specs.Prelude.{◌∧?◌}
use Rattle.text.proofs.Prelude.{refl, sym, ap, ◌∙◌, drop_of_length-le, drop-cons, holds}
use native.Mathlib.Numerals.{add-one}

pub ∧?-assoc : (a b c : Bool) → ((a ∧? b) ∧? c) ≡ (a ∧? (b ∧? c))
unfolding ◌∧?◌ pick
∧?-assoc true b c = refl
∧?-assoc false b c = refl

∧?-comm : (a b : Bool) → (a ∧? b) ≡ (b ∧? a)
unfolding ◌∧?◌ pick
∧?-comm true true = refl
∧?-comm true false = refl
∧?-comm false true = refl
∧?-comm false false = refl

-- `all` holds of a text whose bytes all pass the test
pub record Every (test : ℕ → Bool) (all : List ℕ → Bool) : Type 0 where
  pub all_nil : all [] ≡ true
  pub all_cons : (b : ℕ) (s : List ℕ) → all (b ∷ s) ≡ (test b ∧? all s)

module _ {test : ℕ → Bool} {all : List ℕ → Bool} (every : Every test all) (s : List ℕ) (i : ℕ) where
  -- the byte at i, and those after it, from j on
  pub all_at : (j : ℕ) {rest : Bool} → j ≡ i + 1 → i < length s → all (drop j s) ≡ rest → all (drop i s)
      ≡ (test (get_or s i 0) ∧? rest)
  all_at j e inside q = rw (drop-cons s i 0 inside, ← q, e, add-one) (every.all_cons (get_or s i 0) (drop (suc i) s))

  -- a turn of a loop with no way out: what is seen of the bytes before i and what is left, from here, are the whole
  pub next_seen : (seen : Bool) {now t : Bool} → i < length s → (seen ∧? all (drop i s)) ≡ t → now
      ≡ (test (get_or s i 0) ∧? seen) → (now ∧? all (drop (i + 1) s)) ≡ t
  next_seen seen inside inv e = rw (e, ∧?-comm (test (get_or s i 0)) seen)
      (∧?-assoc _ _ _ ∙ ap (λ left. seen ∧? left) (sym (all_at (i + 1) refl inside refl)) ∙ inv)

  pub all_seen : {seen t : Bool} → length s ≤ i → (seen ∧? all (drop i s)) ≡ t → seen ≡ t
  all_seen {seen} past inv = sym (∧?-comm seen true ∙ holds refl refl)
      ∙ (rw (drop_of_length-le s past, every.all_nil) at inv)

  -- a turn of a loop that is left at the first byte that fails: what is left, from here, is the whole
  module _ {t : Bool} (inside : i < length s) (inv : all (drop i s) ≡ t) where
    pub every_fails : test (get_or s i 0) ≡ false → false ≡ t
    unfolding ◌∧?◌ pick
    every_fails h = next_seen true {now = false} inside inv (rw h)

    pub every_next : test (get_or s i 0) ≡ true → all (drop (i + 1) s) ≡ t
    unfolding ◌∧?◌ pick
    every_next h = next_seen true {now = true} inside inv (rw h)

  pub every_done : {t : Bool} → length s ≤ i → all (drop i s) ≡ t → true ≡ t
  every_done past inv = all_seen past (holds refl inv)

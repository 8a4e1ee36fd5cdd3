-- The list of makers: who stands at a place, the search from a place on, and what a row tells of its maker's codes.
use Rattle.text.specs.Prelude.{ℕ, ◌+◌, ◌/◌, ◌%◌, ◌<◌, ◌≤◌, ◌≡◌, Option, Some, Bool, true, false, drop, get_or, pick, ◌=?◌, ◌∧?◌}
use Rattle.text.proofs.Prelude.{arith, refl, sym, ap, ◌∙◌, yes=, and, drop-cons, drop_of_length-le}
use native.Mathlib.Numerals.{add-one}
use Rattle.field.specs.declared.Mnemonic.{Mnemonic}
use Rattle.manufacturer.specs.Maker.{known, first_of, is_triple, triple_number}
use Rattle.manufacturer.proofs.Codes.{is_triple_lem}
use Rattle.manufacturer.specs.declared.{Manufacturer.Manufacturer}

-- ---- places

-- the maker at a place of the list
abbrev pub maker_at : ℕ → Manufacturer
maker_at place = get_or known place Manufacturer.Zander

-- ---- a search, over any test

module _ (test : Manufacturer → Bool) (other : Manufacturer) (place : ℕ) where
  -- from a place on the first is the maker there, or the first from the next place on
  pub turn : {m : Manufacturer} → place < 23 → m ≡ maker_at place
      → pick (test m) m (first_of test other (drop (place + 1) known)) ≡ first_of test other (drop place known)
  unfolding first_of
  turn h p = rw (add-one, drop-cons known place Manufacturer.Zander h, p)

  pub ended : 23 ≤ place → other ≡ first_of test other (drop place known)
  unfolding first_of
  ended h = rw (drop_of_length-le known h)

-- ---- what a row tells of its maker's triple

isnt : (b : Bool) → (b ≡ true → ⊥) → b ≡ false
isnt true h = absurd (h refl)
isnt false h = refl

-- a number tells its three bytes
abbrev triple_bytes : ℕ → Mnemonic
triple_bytes n = (n / 65536, n / 256 % 256, n % 256)

triple_bytes_number : (t : Mnemonic) → t.1 < 256 → t.2 < 256 → t ≡ triple_bytes (triple_number t)
unfolding triple_number
triple_bytes_number t g h =
    let a : t.0 ≡ triple_number t / 65536 = omega arith in
    let b : t.1 ≡ triple_number t / 256 % 256 = omega arith in
    let c : t.2 ≡ triple_number t % 256 = omega arith in
    let e : ◌≡◌ {A = Mnemonic} (t.0, t.1, t.2) (triple_bytes (triple_number t)) = cc in
    e

module _ (t : Mnemonic) {u : Mnemonic} {x : Option Mnemonic} (row : Some u ≡ x) where
  pub triple_found : t.1 < 256 → t.2 < 256 → u.1 < 256 → u.2 < 256 → triple_number u ≡ triple_number t → is_triple t x
      ≡ true
  unfolding is_triple
  triple_found a b c d e =
      let same = triple_bytes_number u c d ∙ ap triple_bytes e ∙ sym (triple_bytes_number t a b) in
      ap (is_triple t) (sym row ∙ ap Some same) ∙ and (yes= refl) (and (yes= refl) (yes= refl))

  pub triple_passed : (triple_number u ≡ triple_number t → ⊥) → is_triple t x ≡ false
  triple_passed n = isnt (is_triple t x) (λ h. let e = row ∙ is_triple_lem x h in let same : u ≡ t = cc in
      n (ap triple_number same))

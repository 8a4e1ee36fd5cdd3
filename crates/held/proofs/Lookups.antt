-- Lookup by name: when two names are one, a turn of the loop over a table's definitions, and what a refused line leaves.
use Rattle.std.specs.Prelude.{◌&&◌, eqb}
use Rattle.text.specs.Prelude.{ℕ, ◌+◌, ◌≤◌, ◌<◌, ◌≡◌, Bool, true, false, ◌=?◌, ◌∧?◌, List, length, drop, get_or}
use Rattle.text.specs.Prelude.{Res, ok, no, pick}
use Rattle.text.proofs.Prelude.{refl, sym, ap, ◌∙◌, drop_of_length-le, drop-cons, off}
use native.Mathlib.Numerals.{add-one}
use Rattle.text.specs.declared.refusal.Refusal.{Refusal}
use Rattle.text.specs.declared.refusal.Refusal.TheVariants.{NoTable, SpoiledTable, NotDefined}
use Rattle.part.specs.declared.Part.{Part}
use Rattle.field.specs.declared.Mnemonic.{Mnemonic}
use Rattle.table.specs.Table.{empty}
use Rattle.extension.specs.declared.Extension.{Extension}
use Rattle.held.specs.Held.{no_table, spoiled, set_by_of, same_name, first_named_of, in_force, define, look_up}
use Rattle.held.specs.declared.Held.{Held}

-- ---- two names

both_tests : (x y : Bool) → (x && y) ≡ (x ∧? y)
unfolding ◌∧?◌ pick
both_tests true y = refl
both_tests false y = refl

-- the derived equality is that of the three bytes
pub equal_names : (a b : Mnemonic) → (eqb a.0 b.0 && (eqb a.1 b.1 && eqb a.2 b.2)) ≡ same_name a b
unfolding same_name ◌=?◌
equal_names a b = both_tests _ _ ∙ ap (λ t. eqb a.0 b.0 ∧? t) (both_tests _ _)

-- ---- the loop: what is left from i on

module _ (l : List Extension) (name : Mnemonic) (i : ℕ) where
  -- the definition at i where it has the name, and else what is left after it
  pub first_or_later : i < length l
      → pick (same_name (get_or l i empty).mnemonic name) (ok (get_or l i empty)) (first_named_of name (drop (i + 1) l))
      ≡ first_named_of name (drop i l)
  unfolding first_named_of
  first_or_later more = rw (drop-cons l i empty more, add-one)

  -- past the last there is none
  pub none_left : length l ≤ i → no NotDefined ≡ first_named_of name (drop i l)
  unfolding first_named_of
  none_left end = rw (drop_of_length-le l end)

-- ---- no table

module _ (base : ℕ) (rest : Part) (h : Held) (name : Mnemonic) (s : List ℕ) where
  -- what is no table in force is what the lookup answers
  look_none : {n : Refusal} → no n ≡ in_force h → look_up base rest h name s ≡ no n
  unfolding look_up define
  look_none e = sym (off _ (off _ e))

  -- with no line of the letter so far every lookup is 13
  pub look_never : h ≡ no_table → look_up base rest h name s ≡ no NoTable
  unfolding in_force
  look_never e = look_none (ap in_force (sym e))

  -- after one that was refused it is 14
  pub look_spoiled : h ≡ spoiled → look_up base rest h name s ≡ no SpoiledTable
  unfolding in_force
  look_spoiled e = look_none (ap in_force (sym e))

-- a refused line spoils the table
pub refused_spoils : (n : Refusal) (m : Res (List Extension)) → m ≡ no n → set_by_of m ≡ spoiled
unfolding set_by_of
refused_spoils n m refused = rw refused

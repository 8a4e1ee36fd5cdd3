-- The cases in which a lookup by name refuses, and the value that it gives in every other.
use Rattle.std.specs.Prelude.{◌+◌, ◌-◌, ◌≤◌, ◌<◌, ◌≡◌}
use Rattle.text.specs.Prelude.{ℕ, List, length, ok, no, number_of}
use Rattle.text.specs.declared.refusal.Refusal.{Refusal}
use Rattle.text.specs.declared.refusal.Refusal.TheVariants.{NoTable, SpoiledTable, NotDefined, OutsideLine}
use Rattle.text.specs.declared.refusal.Refusal.TheVariants.{BadExtension, MissingExtension}
use Rattle.part.specs.declared.Part.{Part}
use Rattle.field.specs.declared.Mnemonic.{Mnemonic}
use Rattle.table.specs.Table.{defs_of}
use Rattle.extension.specs.declared.Extension.{Extension}
use Rattle.held.specs.Held.{first_named_of, define, look_up}
use Rattle.table.specs.declared.Table.{Table}
use Rattle.held.specs.declared.Held.{Held}

module _ (base : ℕ) (rest : Part) (h : Held) (name : Mnemonic) (s : List ℕ) where
  -- The table in force defines the name as e.
  pub record Defined (e : Extension) : Type 0 where
    pub table : Table
    pub in_force_lem : h ≡ Held.Set table
    pub count : table.count ≤ 99
    pub first : first_named_of name (defs_of table) ≡ ok e

  -- Why a lookup refuses with n, in the order of the checks.
  pub data Why (n : Refusal) : Type 0 where
    no_line : n ≡ NoTable → h ≡ Held.Never → Why n
    last_refused : n ≡ SpoiledTable → h ≡ Held.Spoiled → Why n
    over_99 : n ≡ NotDefined → (t : Table) → h ≡ Held.Set t → 99 < t.count → Why n
    no_name : n ≡ NotDefined → (t : Table) → h ≡ Held.Set t → first_named_of name (defs_of t) ≡ no NotDefined → Why n
    outside : n ≡ OutsideLine → length s < rest.start + rest.len → Why n
    start_in_base : n ≡ BadExtension → (e : Extension) → Defined e → e.start_byte ≤ base → Why n
    end_before_start : n ≡ BadExtension → (e : Extension) → Defined e → e.end_byte < e.start_byte → Why n
    past_the_rest : n ≡ MissingExtension → (e : Extension) → Defined e → rest.len < e.end_byte - base → Why n

  -- No case but those named refuses.
  abbrev pub Refuses : Type 0
  Refuses = (n : Refusal) → look_up base rest h name s ≡ no n → Why n

  -- Which of 13, 14 and 15 holds follows from the state and the name alone: on whatever line, it is the definition's
  -- refusal.
  abbrev pub StateAlone : Type 0
  StateAlone = (n : Refusal) → 13 ≤ number_of n → look_up base rest h name s ≡ no n → define h name ≡ no n

  -- In every other it gives the part of the rest from start - (base + 1) up to end - base.
  abbrev pub Gives : Type 0
  Gives =
      (e : Extension) → Defined e → rest.start + rest.len ≤ length s → base < e.start_byte
      → e.start_byte ≤ e.end_byte
      → e.end_byte - base ≤ rest.len
      → look_up base rest h name s
      ≡ ok (record {
        start = rest.start + (e.start_byte - (base + 1));
        len = (e.end_byte - base) - (e.start_byte - (base + 1));
      })

-- A lookup by name refuses in the named cases alone, and gives the stated value in every other.
use Rattle.text.specs.Prelude.{ℕ, ◌+◌, ◌≤◌, ◌≡◌, Bool, true, false, List, [], ◌∷◌, Res, ok, no, bind, guard, pick}
use Rattle.text.specs.Prelude.{◌≤?◌, number_of}
use Rattle.text.proofs.Prelude.{arith, refl, sym, ap, ◌∙◌, subst, on, pass, yes≤, is≤, isnt≤}
use Rattle.part.specs.Part.{find_part}
use Rattle.text.specs.declared.refusal.Refusal.{Refusal}
use Rattle.text.specs.declared.refusal.Refusal.TheVariants.{NotDefined, OutsideLine, BadExtension, MissingExtension}
use Rattle.part.specs.declared.Part.{Part}
use Rattle.part.proofs.Parts.{inside}
use Rattle.text.proofs.Finds.{Finds, finds_ok, finds_no, finds_bind, finds_guard}
use Rattle.field.specs.declared.Mnemonic.{Mnemonic}
use Rattle.table.specs.Table.{defs_of}
use Rattle.extension.specs.Value.{find_value}
use Rattle.extension.specs.declared.Extension.{Extension}
use Rattle.table.specs.declared.Table.{Table}
use Rattle.held.specs.Held.{same_name, first_named_of, in_force, define, look_up}
use Rattle.held.specs.declared.Held.{Held}
use Rattle.promises.specs.Lookup.{Defined, Why, no_line, last_refused, over_99, no_name, outside, start_in_base}
use Rattle.promises.specs.Lookup.{end_before_start, past_the_rest, Refuses, StateAlone, Gives}

-- Where a row of answers refuses with n, W holds: one law for each way of putting answers in a row.
pub record Stops {A : Type 0} (m : Res A) (W : Refusal → Type 0) : Type 0 where
  pub stopped : (n : Refusal) → m ≡ no n → W n

module _ {A : Type 0} {W : Refusal → Type 0} where
  -- what is found refuses nothing
  stops_ok : {a : A} → Stops (ok a) W
  stops_ok = record { stopped = λ n e. let z : ◌≡◌ {A = ℕ} 0 1 = cc in absurd (omega arith) }

  -- a refusal is its own
  stops_no : {n : Refusal} → W n → Stops {A = A} (no n) W
  stops_no {n} p = record { stopped = λ k e. let same : n ≡ k = cc in subst W same p }

  -- a test that fails refuses, or what stands behind it
  stops_guard : (n : Refusal) {t : Bool} {m : Res A} → (t ≡ false → W n) → (t ≡ true → Stops m W)
      → Stops (guard t n m) W
  unfolding guard
  stops_guard n {t = true} p q = q refl
  stops_guard n {t = false} p q = record { stopped = λ k e. let same : n ≡ k = cc in subst W same (p refl) }

  -- the first refuses, or what is made of what it found
  stops_bind : {B : Type 0} {m : Res B} {f : B → Res A} → Stops m W → ((b : B) → m ≡ ok b → Stops (f b) W)
      → Stops (bind m f) W
  unfolding bind
  stops_bind {m = ok b} p q = q b refl
  stops_bind {m = no n} p q = record { stopped = λ k e. let same : n ≡ k = cc in p.stopped k (ap no same) }

-- ---- the table in force

-- it is the one that is held
in_force_lem : (h : Held) → Finds (in_force h) (λ t. h ≡ Held.Set t)
unfolding in_force
in_force_lem Held.Never = finds_no
in_force_lem Held.Spoiled = finds_no
in_force_lem (Held.Set t) = finds_ok refl

is_in_force : {h : Held} (t : Table) → h ≡ Held.Set t → ok t ≡ in_force h
unfolding in_force
is_in_force t e = rw e

module _ (base : ℕ) (rest : Part) (h : Held) (name : Mnemonic) (s : List ℕ) where
  abbrev W : Refusal → Type 0
  W = Why base rest h name s

  -- a name that is not defined answers 15
  first_15 : (ds : List Extension) (n : Refusal) → first_named_of name ds ≡ no n → n ≡ NotDefined
  unfolding first_named_of pick
  first_15 [] n e = cc
  first_15 (d ∷ ds) n e = by (same_name d.mnemonic name) e (first_15 ds n)
    where
      by : (t : Bool) → pick t (ok d) (first_named_of name ds) ≡ no n → (first_named_of name ds ≡ no n → n ≡ NotDefined)
          → n ≡ NotDefined
      by true e more = let z : ◌≡◌ {A = ℕ} 0 1 = cc in absurd (omega arith)
      by false e more = more e

  -- there is no table in the first two cases alone
  stops_in_force : (k : Held) → h ≡ k → Stops (in_force k) W
  unfolding in_force
  stops_in_force Held.Never e = stops_no (no_line refl e)
  stops_in_force Held.Spoiled e = stops_no (last_refused refl e)
  stops_in_force (Held.Set t) e = stops_ok

  -- no definition is found in these and the next two
  stops_define : Stops (define h name) W
  unfolding define
  stops_define =
      stops_bind (stops_in_force h refl) (λ t f.
      let set : h ≡ Held.Set t = (in_force_lem h).found t f in
      stops_guard _ (λ k. over_99 refl t set (isnt≤ k)) (λ k.
      record { stopped = λ n f. let i = first_15 (defs_of t) n f in no_name i t set (f ∙ ap no i) }))

  -- one that is found is the table's
  defined : (e : Extension) → define h name ≡ ok e → Defined base rest h name s e
  unfolding define
  defined e d =
      let all : Finds (define h name) (Defined base rest h name s) =
      finds_bind (in_force_lem h) (λ t p. finds_guard _ (λ k.
      record { found = λ x f. record { table = t; in_force_lem = p; count = is≤ k; first = f } })) in
      all.found e d

  -- the cases, in the order of the checks
  pub refuses : Refuses base rest h name s
  unfolding look_up find_value find_part
  refuses n r =
      (stops_bind stops_define (λ e d.
      stops_bind (stops_guard _ (λ k. outside refl (isnt≤ k)) (λ k. stops_ok)) (λ q f.
      let same : q ≡ rest = (inside rest s (sym f)).same in
      stops_guard _ (λ (k : (base + 1 ≤? e.start_byte) ≡ false).
      start_in_base refl e (defined e d) (omega (arith, isnt≤ k))) (λ k.
      stops_guard _ (λ k. end_before_start refl e (defined e d) (isnt≤ k)) (λ k.
      stops_guard _ (λ k. past_the_rest refl e (defined e d) (rw (← same) (isnt≤ k))) (λ k. stops_ok)))))).stopped n r

  -- all checks pass in every other
  pub gives : Gives base rest h name s
  unfolding look_up define find_value find_part
  gives e d i b o l =
      sym (on _ (on _ (is_in_force d.table d.in_force_lem) (pass _ (yes≤ d.count) (sym d.first)))
      (on _ (pass _ (yes≤ i) refl) (pass _ (yes≤ (omega arith)) (pass _ (yes≤ o) (pass _ (yes≤ l) refl)))))

  -- where it is 13 or more it is the definition's
  abbrev Alone : Refusal → Type 0
  Alone k = 13 ≤ number_of k → define h name ≡ no k

  -- what refuses behind the definition has another number
  other : (k : Refusal) → number_of k ≤ 12 → Alone k
  other k small large = absurd (omega (arith, small, large))

  stops_alone : Stops (look_up base rest h name s) Alone
  unfolding look_up find_value find_part
  stops_alone =
      stops_bind (record { stopped = λ k e large. e }) (λ e d.
      stops_bind (stops_guard _ (λ k. other OutsideLine (omega arith)) (λ k. stops_ok)) (λ q f.
      stops_guard _ (λ k. other BadExtension (omega arith)) (λ k.
      stops_guard _ (λ k. other BadExtension (omega arith)) (λ k.
      stops_guard _ (λ k. other MissingExtension (omega arith)) (λ k. stops_ok)))))

  pub state_alone : StateAlone base rest h name s
  state_alone n large r = stops_alone.stopped n r large

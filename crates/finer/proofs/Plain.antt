-- Plain thousandths are a coordinate with no digits more; and where lookup finds digits.
use Rattle.text.specs.Prelude.{ℕ, ◌+◌, ◌*◌, ◌^◌, ◌≤◌, ◌≡◌, List, length, Res, ok, moved, guard, all_digits_of}
use Rattle.text.specs.Prelude.{value_from}
use Rattle.text.proofs.Prelude.{arith, sym, ap, ◌∙◌, subst, yes≤, is≤}
use native.Mathlib.Nat.{pow-zero}
use Rattle.text.proofs.Finds.{Finds, finds_any, finds_ok, finds_bind, finds_guard}
use Rattle.part.specs.Part.{bytes_of}
use Rattle.part.specs.declared.Part.{Part}
use Rattle.part.proofs.Parts.{inside}
use Rattle.field.specs.declared.Mnemonic.{Mnemonic}
use Rattle.raw_coord.specs.declared.RawCoord.{RawCoord}
use Rattle.extension.specs.Value.{find_value}
use Rattle.held.specs.Held.{look_up}
use Rattle.held.specs.declared.Held.{Held}
use Rattle.finer.specs.Finer.{thousandths, plainly, finely, read_plain_of, after, narrow, read_finer, Lies}

-- no digits
abbrev pub nothing : Part
nothing = record { start = 0; len = 0 }

pub none_lies : (s : List ℕ) → Lies (ok nothing) s
none_lies s p e = let same : nothing ≡ p = cc in subst (λ q. q.start + q.len ≤ length s) same (omega arith)

-- with none the number is the coordinate's own thousandths
pub no_digits_plain : (c : RawCoord) → finely 0 0 c ≡ plainly c
unfolding finely plainly
no_digits_plain c = let e : thousandths c * 10 ^ 0 + 0 ≡ thousandths c = rw (pow-zero 10) (omega arith) in rw e

-- so it is read from no bytes
pub none_read : (c : RawCoord) (s : List ℕ) → read_finer (ok nothing) c s ≡ ok (plainly c)
unfolding read_finer after narrow read_plain_of moved guard all_digits_of value_from bytes_of
none_read c s = rw (yes≤ {a = 0} {b = 5} (omega arith)) (ap ok (no_digits_plain c))

-- what lookup finds lies inside the line, and is not empty
look_finds : (base : ℕ) (rest : Part) (h : Held) (name : Mnemonic) (s : List ℕ) →
    Finds (look_up base rest h name s) (λ p. (p.start + p.len ≤ length s) × (1 ≤ p.len))
unfolding look_up find_value
look_finds base rest h name s =
    finds_bind finds_any (λ e _.
    finds_bind (record { found = λ r k. inside rest s (sym k) }) (λ r i.
    finds_guard _ (λ a. finds_guard _ (λ b. finds_guard _ (λ c.
    finds_ok (omega (arith, i.ends, is≤ a, is≤ b, is≤ c), omega (arith, is≤ a, is≤ b, is≤ c)))))))

pub look_some : (base : ℕ) (rest : Part) (h : Held) (name : Mnemonic) (s : List ℕ) (p : Part) →
    look_up base rest h name s ≡ ok p → 1 ≤ p.len
look_some base rest h name s p k = ((look_finds base rest h name s).found p k).1

pub look_lies : (base : ℕ) (rest : Part) (h : Held) (name : Mnemonic) (s : List ℕ) {m : Res Part} →
    m ≡ look_up base rest h name s → Lies m s
look_lies base rest h name s e p k = ((look_finds base rest h name s).found p (sym e ∙ k)).0

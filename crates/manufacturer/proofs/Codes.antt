-- Codes and makers: what is read has the code that it was read from, and a maker's code is read as that maker.
use Rattle.text.specs.Prelude.{None, Option, Some}
use Rattle.text.specs.Prelude.{ℕ, ◌≡◌, Bool, true, false, List, [], ◌∷◌, pick, ◌=?◌, ◌∧?◌}
use Rattle.text.proofs.Prelude.{refl, sym, ap, subst, is=, both, never}
use mathlib.Core.Logic.{◌⊎◌, inl, inr}
use Rattle.field.specs.declared.Mnemonic.{Mnemonic}
use Rattle.manufacturer.specs.Maker.{letter_of_lem, triple_of, known, first_of, is_letter, is_triple}
use Rattle.manufacturer.specs.Maker.{letter_maker}
use Rattle.manufacturer.specs.Maker.{triple_maker}
use Rattle.manufacturer.specs.declared.{Manufacturer.Manufacturer}

-- ---- what is read has its code

pub is_letter_lem : {l : ℕ} (x : (Option ℕ)) → is_letter l x ≡ true → x ≡ Some l
unfolding is_letter
is_letter_lem None h = never h refl
is_letter_lem (Some k) h = ap Some (sym (is= h))

pub is_triple_lem : {t : Mnemonic} (x : (Option Mnemonic)) → is_triple t x ≡ true → x ≡ Some t
unfolding is_triple
is_triple_lem None h = never h refl
is_triple_lem {t} (Some u) h =
    let k = both h in let j = both k.1 in
    let a = is= k.0 in let b = is= j.0 in let c = is= j.1 in
    let e : ◌≡◌ {A = Mnemonic} (u.0, u.1, u.2) (t.0, t.1, t.2) = cc in
    ap Some e

-- what holds of the other, and of whoever passes the test, holds of the maker found
module _ (P : Manufacturer → Type 0) {test : Manufacturer → Bool} {other : Manufacturer} (else : P other)
    (passes : (m : Manufacturer) → test m ≡ true → P m) where
  picked_has : (b : Bool) {m n : Manufacturer} → (b ≡ true → P m) → P n → P (pick b m n)
  unfolding pick
  picked_has true p q = p refl
  picked_has false p q = q

  first_of_has : (ms : List Manufacturer) → P (first_of test other ms)
  unfolding first_of
  first_of_has [] = else
  first_of_has (m ∷ ms) = picked_has (test m) (passes m) (first_of_has ms)

pub letter_read : (l : ℕ) → letter_of_lem (letter_maker l) ≡ Some l
unfolding letter_maker letter_of_lem
letter_read l = first_of_has (λ m. letter_of_lem m ≡ Some l) refl (λ m h. is_letter_lem (letter_of_lem m) h) known

pub triple_read : (t : Mnemonic) → triple_of (triple_maker t) ≡ Some t
unfolding triple_maker triple_of
triple_read t = first_of_has (λ m. triple_of m ≡ Some t) refl (λ m h. is_triple_lem (triple_of m) h) known

-- ---- a maker's code is read as that maker

-- An unknown maker is the exception, since it may carry a known code: `UnknownSingle` with C has a letter that is read
-- as Cambridge.
abbrev ByLetter : Manufacturer → Option ℕ → Type 0
ByLetter m None = Unit
ByLetter m (Some l) = (letter_maker l ≡ m) ⊎ (m ≡ Manufacturer.UnknownSingle l)

abbrev ByTriple : Manufacturer → Option Mnemonic → Type 0
ByTriple m None = Unit
ByTriple m (Some t) = (triple_maker t ≡ m) ⊎ (m ≡ Manufacturer.UnknownTriple t)

codes : (m : Manufacturer) → ByLetter m (letter_of_lem m) × ByTriple m (triple_of m)
unfolding letter_of_lem triple_of letter_maker triple_maker first_of is_letter is_triple pick ◌=?◌ ◌∧?◌
codes Manufacturer.Aircotec = (inl refl, inl refl)
codes Manufacturer.CambridgeAeroInstruments = (inl refl, inl refl)
codes Manufacturer.ClearNavInstruments = (tt, inl refl)
codes Manufacturer.DataSwan = (inl refl, inl refl)
codes Manufacturer.EwAvionics = (inl refl, inl refl)
codes Manufacturer.Filser = (inl refl, inl refl)
codes Manufacturer.Flarm = (inl refl, inl refl)
codes Manufacturer.Flytech = (tt, inl refl)
codes Manufacturer.Garrecht = (inl refl, inl refl)
codes Manufacturer.ImiGlidingEquipment = (inl refl, inl refl)
codes Manufacturer.Logstream = (tt, inl refl)
codes Manufacturer.LxNavigation = (inl refl, inl refl)
codes Manufacturer.LxNav = (inl refl, inl refl)
codes Manufacturer.Naviter = (tt, inl refl)
codes Manufacturer.NewTechnologies = (inl refl, inl refl)
codes Manufacturer.NielsenKellerman = (inl refl, inl refl)
codes Manufacturer.Peschges = (inl refl, inl refl)
codes Manufacturer.PressFinishElectronics = (tt, inl refl)
codes Manufacturer.PrintTechnik = (inl refl, inl refl)
codes Manufacturer.Scheffel = (inl refl, inl refl)
codes Manufacturer.StreamlineDataInstruments = (inl refl, inl refl)
codes Manufacturer.TriadisEngineering = (inl refl, inl refl)
codes Manufacturer.Zander = (inl refl, inl refl)
codes (Manufacturer.UnknownSingle l) = (inr refl, tt)
codes (Manufacturer.UnknownTriple t) = (tt, inr refl)

pub read_letter : (m : Manufacturer) {l : ℕ} → letter_of_lem m ≡ Some l → (letter_maker l ≡ m) ⊎
    (m ≡ Manufacturer.UnknownSingle l)
read_letter m e = subst (λ (x : (Option ℕ)). ByLetter m x) e (codes m).0

pub read_triple_lem : (m : Manufacturer) {t : Mnemonic} → triple_of m ≡ Some t → (triple_maker t ≡ m) ⊎
    (m ≡ Manufacturer.UnknownTriple t)
read_triple_lem m e = subst (λ (x : (Option Mnemonic)). ByTriple m x) e (codes m).1

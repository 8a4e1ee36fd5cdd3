-- Makers of recorders: their codes, and the maker that a code is read as.
use Rattle.text.specs.Prelude.{None, Option, Some}
use Rattle.std.specs.Prelude.{◌+◌, ◌*◌, ◌∷◌}
use Rattle.text.specs.Prelude.{ℕ, zero, suc, code, String, char_at, Bool, false, List, [], pick, ◌=?◌, ◌∧?◌}
use Rattle.field.specs.declared.Mnemonic.{Mnemonic}
use Rattle.manufacturer.specs.declared.{Manufacturer.Manufacturer}

-- The letter of a maker that has one.
unfoldable pub letter_of_lem : Manufacturer → Option ℕ
letter_of_lem Manufacturer.Aircotec = Some (code "I")
letter_of_lem Manufacturer.CambridgeAeroInstruments = Some (code "C")
letter_of_lem Manufacturer.ClearNavInstruments = None
letter_of_lem Manufacturer.DataSwan = Some (code "D")
letter_of_lem Manufacturer.EwAvionics = Some (code "E")
letter_of_lem Manufacturer.Filser = Some (code "F")
letter_of_lem Manufacturer.Flarm = Some (code "G")
letter_of_lem Manufacturer.Flytech = None
letter_of_lem Manufacturer.Garrecht = Some (code "A")
letter_of_lem Manufacturer.ImiGlidingEquipment = Some (code "M")
letter_of_lem Manufacturer.Logstream = None
letter_of_lem Manufacturer.LxNavigation = Some (code "L")
letter_of_lem Manufacturer.LxNav = Some (code "V")
letter_of_lem Manufacturer.Naviter = None
letter_of_lem Manufacturer.NewTechnologies = Some (code "N")
letter_of_lem Manufacturer.NielsenKellerman = Some (code "K")
letter_of_lem Manufacturer.Peschges = Some (code "P")
letter_of_lem Manufacturer.PressFinishElectronics = None
letter_of_lem Manufacturer.PrintTechnik = Some (code "R")
letter_of_lem Manufacturer.Scheffel = Some (code "H")
letter_of_lem Manufacturer.StreamlineDataInstruments = Some (code "S")
letter_of_lem Manufacturer.TriadisEngineering = Some (code "T")
letter_of_lem Manufacturer.Zander = Some (code "Z")
letter_of_lem (Manufacturer.UnknownSingle l) = Some l
letter_of_lem (Manufacturer.UnknownTriple t) = None

-- The triple that a text of three characters spells.
abbrev pub triple_spelt : String → Option Mnemonic
triple_spelt s = Some (code (char_at s 0), code (char_at s 1), code (char_at s 2))

-- The triple of a maker that has one.
unfoldable pub triple_of : Manufacturer → Option Mnemonic
triple_of Manufacturer.Aircotec = triple_spelt "ACT"
triple_of Manufacturer.CambridgeAeroInstruments = triple_spelt "CAM"
triple_of Manufacturer.ClearNavInstruments = triple_spelt "CNI"
triple_of Manufacturer.DataSwan = triple_spelt "DSX"
triple_of Manufacturer.EwAvionics = triple_spelt "EWA"
triple_of Manufacturer.Filser = triple_spelt "FIL"
triple_of Manufacturer.Flarm = triple_spelt "FLA"
triple_of Manufacturer.Flytech = triple_spelt "FLY"
triple_of Manufacturer.Garrecht = triple_spelt "GCS"
triple_of Manufacturer.ImiGlidingEquipment = triple_spelt "IMI"
triple_of Manufacturer.Logstream = triple_spelt "LGS"
triple_of Manufacturer.LxNavigation = triple_spelt "LXN"
triple_of Manufacturer.LxNav = triple_spelt "LXV"
triple_of Manufacturer.Naviter = triple_spelt "NAV"
triple_of Manufacturer.NewTechnologies = triple_spelt "NTE"
triple_of Manufacturer.NielsenKellerman = triple_spelt "NKL"
triple_of Manufacturer.Peschges = triple_spelt "PES"
triple_of Manufacturer.PressFinishElectronics = triple_spelt "PFE"
triple_of Manufacturer.PrintTechnik = triple_spelt "PRT"
triple_of Manufacturer.Scheffel = triple_spelt "SCH"
triple_of Manufacturer.StreamlineDataInstruments = triple_spelt "SDI"
triple_of Manufacturer.TriadisEngineering = triple_spelt "TRI"
triple_of Manufacturer.Zander = triple_spelt "ZAN"
triple_of (Manufacturer.UnknownSingle l) = None
triple_of (Manufacturer.UnknownTriple t) = Some t

-- The makers with codes of their own.
abbrev pub known : List Manufacturer
known =
    Manufacturer.Aircotec ∷ Manufacturer.CambridgeAeroInstruments ∷ Manufacturer.ClearNavInstruments ∷
    Manufacturer.DataSwan ∷
    Manufacturer.EwAvionics ∷ Manufacturer.Filser ∷ Manufacturer.Flarm ∷ Manufacturer.Flytech ∷
    Manufacturer.Garrecht ∷ Manufacturer.ImiGlidingEquipment ∷ Manufacturer.Logstream ∷ Manufacturer.LxNavigation ∷
    Manufacturer.LxNav ∷ Manufacturer.Naviter ∷ Manufacturer.NewTechnologies ∷ Manufacturer.NielsenKellerman ∷
    Manufacturer.Peschges ∷ Manufacturer.PressFinishElectronics ∷ Manufacturer.PrintTechnik ∷ Manufacturer.Scheffel ∷
    Manufacturer.StreamlineDataInstruments ∷ Manufacturer.TriadisEngineering ∷ Manufacturer.Zander ∷ []

-- The first maker of a list that passes a test, and `other` where none does.
unfoldable pub first_of : (Manufacturer → Bool) → Manufacturer → List Manufacturer → Manufacturer
first_of test other [] = other
first_of test other (m ∷ ms) = pick (test m) m (first_of test other ms)

-- A code is the letter l.
unfoldable pub is_letter : ℕ → Option ℕ → Bool
is_letter l None = false
is_letter l (Some k) = l =? k

-- A code is the triple t.
unfoldable pub is_triple : Mnemonic → Option Mnemonic → Bool
is_triple t None = false
is_triple t (Some u) = (t.0 =? u.0) ∧? (t.1 =? u.1) ∧? (t.2 =? u.2)

-- The maker that a letter is read as: the known one, or else an unknown one that carries it.
unfoldable pub letter_maker : ℕ → Manufacturer
letter_maker l = first_of (λ m. is_letter l (letter_of_lem m)) (Manufacturer.UnknownSingle l) known

-- The maker that a triple is read as, likewise.
unfoldable pub triple_maker : Mnemonic → Manufacturer
triple_maker t = first_of (λ m. is_triple t (triple_of m)) (Manufacturer.UnknownTriple t) known

-- The letter that a byte of the list stands for; 0 stands for none.
abbrev pub row_letter : ℕ → Option ℕ
row_letter zero = None
row_letter (suc b) = Some (suc b)

-- Three bytes as one number.
unfoldable pub triple_number : Mnemonic → ℕ
triple_number t = t.0 * 65536 + t.1 * 256 + t.2

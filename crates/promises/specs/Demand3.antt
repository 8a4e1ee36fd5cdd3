-- Demand 3, for this reader, its fresh walks and its lookups by name.
--
-- What of a walk's state is compared: its place, its line number and its tables, which is what a `LineReading` has of it
-- (`walk` Readings `read_by`). The report that it keeps is left out (K8): a replaced fix may have been the summit.
use Rattle.std.specs.Prelude.{◌+◌, ◌≡◌, ◌∷◌, ◌++◌}
use Rattle.text.specs.Prelude.{ℕ, Bool, true, not, List, [], length, take, drop, Res, ok, no}
use Rattle.text.specs.Prelude.{false, pick, ◌∨?◌}
use Rattle.text.specs.declared.refusal.Refusal.TheVariants.{NoTable, SpoiledTable}
use Rattle.part.specs.declared.Part.{Part}
use Rattle.field.specs.declared.Mnemonic.{Mnemonic}
use Rattle.b_record.specs.declared.BRecord.{BRecord}
use Rattle.k_record.specs.declared.KRecord.{KRecord}
use Rattle.records.specs.Record.{read_line_of}
use Rattle.records.specs.declared.Record.{Record}
use Rattle.igc_log.specs.Line.{line_text}
use Rattle.igc_log.specs.Log.{chunks, closed, readings, Letter}
use Rattle.igc_log.specs.Demand.{Moved, Each, some}
use Rattle.held.specs.Held.{look_up}
use Rattle.held.specs.declared.Held.{Held}
use Rattle.walk.specs.Readings.{reader, letter_i, letter_j, LineReading}

-- A kind of record with extension values: the lines that name them and the table which those leave, how many fixed
-- columns the record has, and its rest.
pub record Extended (R : Type 0) : Type 0 where
  pub named : Letter reader Held
  pub base : ℕ
  pub kind : R → Record
  pub rest : R → Part

-- I lines with the values on B lines.
abbrev pub i_on_b : Extended BRecord
i_on_b = record { named = letter_i; base = 35; kind = λ r. Record.B r; rest = λ r. r.rest }

-- J lines with the values on K lines.
abbrev pub j_on_k : Extended KRecord
j_on_k = record { named = letter_j; base = 7; kind = λ r. Record.K r; rest = λ r. r.rest }

-- The readings of the lines after a run that stands behind the lines `pre`.
abbrev pub after_run : List ℕ → List ℕ → List ℕ → List LineReading
after_run pre run post = drop (length (chunks pre) + length (chunks run)) (readings reader (pre ++ (run ++ post)))

module _ {R : Type 0} (E : Extended R) where
  -- Lookup by name on a line that was answered with the record r, in the table in force there.
  abbrev pub value_on : R → Mnemonic → LineReading → Res Part
  value_on r name x = look_up E.base (E.rest r) (E.named.view x.held) name x.line

  -- On an accepted line of the kind every lookup by name answers in x what it answers in y.
  abbrev pub SameValues : LineReading → LineReading → Type 0
  SameValues x y = (r : R) (name : Mnemonic) → x.answer ≡ ok (E.kind r) → value_on r name x ≡ value_on r name y

  -- Where `stay` holds these lines keep their extension values; else they do from the next line on that begins with the
  -- letter.
  abbrev pub ValuesStay : Bool → List LineReading → List LineReading → Type 0
  ValuesStay stay [] [] = Unit
  ValuesStay stay [] (y ∷ ys) = ⊥
  ValuesStay stay (x ∷ xs) [] = ⊥
  ValuesStay stay (x ∷ xs) (y ∷ ys) =
      ((stay ∨? E.named.begins x.line) ≡ true → SameValues x y)
      × ValuesStay (stay ∨? E.named.begins x.line) xs ys

  -- None of these lines begins with the letter and is accepted.
  abbrev pub NoneAccepted : List (List ℕ) → Type 0
  NoneAccepted [] = Unit
  NoneAccepted (c ∷ cs) =
      (E.named.begins (line_text c) ≡ true → (r : Record) → read_line_of (line_text c) ≡ ok r → ⊥)
      × NoneAccepted cs

  -- On every accepted line of the kind every lookup by name is refused: with 13 where no line up to there begins with
  -- the letter, and with 14 otherwise. `seen` says whether one stands before these lines.
  abbrev pub NoValues : Bool → List LineReading → Type 0
  NoValues seen [] = Unit
  NoValues seen (x ∷ xs) =
      ((r : R) (name : Mnemonic) → x.answer ≡ ok (E.kind r) →
      value_on r name x ≡ no (pick (seen ∨? E.named.begins x.line) SpoiledTable NoTable))
      × NoValues (seen ∨? E.named.begins x.line) xs

  -- What the demand says of one letter and of the values that its lines name, where behind the whole lines `pre` the
  -- run `old` is replaced by the run `new`.
  pub record Values (pre old new post : List ℕ) : Type 0 where
    -- If neither run has a line beginning with the letter, the values of the lines after it stay; if one has, they stay
    -- from the next line after the run that begins with it.
    pub stay :
        ValuesStay (not (some reader E.named (chunks new) ∨? some reader E.named (chunks old)))
        (after_run pre new post)
        (after_run pre old post)
    -- If the removed run held all the log's lines of the letter and the new run has none that is accepted, every lookup
    -- of an extension by name on an accepted line of the kind is refused, with 13 or 14. (A refused line that begins
    -- with the letter may stay anywhere: it sets no table.)
    pub refused : NoneAccepted (chunks pre) → NoneAccepted (chunks new) → NoneAccepted (chunks post) →
        NoValues false (readings reader (pre ++ (new ++ post)))

-- Of a log that begins with the whole lines `pre`, the run `old` of whole lines behind them is replaced by the run
-- `new`.
pub record Replaced (pre old new post : List ℕ) : Type 0 where
  -- Lines before it read as before.
  pub before :
      take (length (chunks pre)) (readings reader (pre ++ (new ++ post)))
      ≡ take (length (chunks pre)) (readings reader (pre ++ (old ++ post)))
  -- Lines after it keep answer, fields and text, with line number and place shifted by the difference alone.
  pub later :
      Each reader (Moved reader (length (chunks new)) (length (chunks old)) (length new) (length old))
      (after_run pre new post)
      (after_run pre old post)
  -- Their extension values, each letter apart: I lines with the values on B lines,
  pub on_b : Values i_on_b pre old new post
  -- and J lines with the values on K lines.
  pub on_k : Values j_on_k pre old new post

-- The demand: at every line's start, for every two runs of whole lines.
abbrev pub Demand3 : Type 0
Demand3 = (pre old new post : List ℕ) → closed pre ≡ true → closed old ≡ true → closed new ≡ true
    → Replaced pre old new post

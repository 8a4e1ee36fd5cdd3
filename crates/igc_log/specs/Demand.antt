-- Demand 3, over any reader of lines and any letter's table.
use Rattle.std.specs.Prelude.{◌+◌, ◌≡◌, ◌∷◌, ◌++◌}
use Rattle.text.specs.Prelude.{ℕ, Bool, true, false, not, List, [], length, take, drop, pick}
use Rattle.text.specs.Prelude.{◌∨?◌}
use Rattle.igc_log.specs.Line.{line_text}
use Rattle.igc_log.specs.Log.{chunks, closed, Reader, LineRead, readings, Letter}

module _ {A T : Type 0} (R : Reader A T) where
  -- x reads what y reads, its number and its place shifted by the difference alone.
  pub record Moved (n₁ n₂ p₁ p₂ : ℕ) (x y : LineRead A T) : Type 0 where
    pub number : x.number + n₂ ≡ y.number + n₁
    pub place : x.place + p₂ ≡ y.place + p₁
    pub line : x.line ≡ y.line
    pub answer : x.answer ≡ y.answer

  -- Two lists of readings have one length, and P holds line by line.
  abbrev pub Each : (LineRead A T → LineRead A T → Type 0) → List (LineRead A T) → List (LineRead A T) → Type 0
  Each P [] [] = Unit
  Each P [] (y ∷ ys) = ⊥
  Each P (x ∷ xs) [] = ⊥
  Each P (x ∷ xs) (y ∷ ys) = P x y × Each P xs ys

  module _ {U : Type 0} (L : Letter R U) where
    -- Some of these lines begins with the letter.
    unfoldable pub some : List (List ℕ) → Bool
    some [] = false
    some (c ∷ cs) = L.begins (line_text c) ∨? some cs

    -- Where `same` holds the tables before these lines agree, and then they agree at each; else they agree from the
    -- next line on that begins with the letter.
    abbrev pub Kept : Bool → List (LineRead A T) → List (LineRead A T) → Type 0
    Kept same [] [] = Unit
    Kept same [] (y ∷ ys) = ⊥
    Kept same (x ∷ xs) [] = ⊥
    Kept same (x ∷ xs) (y ∷ ys) =
        ((same ∨? L.begins x.line) ≡ true → L.view x.held ≡ L.view y.held)
        × Kept (same ∨? L.begins x.line) xs ys

    -- Each of these lines that begins with the letter leaves u.
    abbrev pub Leaves : U → List (List ℕ) → Type 0
    Leaves u [] = Unit
    Leaves u (c ∷ cs) = (L.begins (line_text c) ≡ true → L.leaves (line_text c) ≡ u) × Leaves u cs

    -- What is in force at each of these lines: what a fresh walk starts with, and from the first line on that begins
    -- with the letter u. `seen` says whether one stands before them.
    abbrev pub Turns : U → Bool → List (LineRead A T) → Type 0
    Turns u seen [] = Unit
    Turns u seen (x ∷ xs) =
        (L.view x.held ≡ pick (seen ∨? L.begins x.line) u (L.view R.start))
        × Turns u (seen ∨? L.begins x.line) xs

  -- In a log, behind whole lines `pre`, the run `old` of whole lines is replaced by the run `new` of whole lines.
  pub record Replaced (pre old new post : List ℕ) : Type 1 where
    -- Lines before it read as before.
    pub before :
        take (length (chunks pre)) (readings R (pre ++ (new ++ post)))
        ≡ take (length (chunks pre)) (readings R (pre ++ (old ++ post)))
    -- Lines after it keep answer, fields and text, with line number and place shifted by the difference alone.
    pub later :
        Each (Moved (length (chunks new)) (length (chunks old)) (length new) (length old))
        (drop (length (chunks pre) + length (chunks new)) (readings R (pre ++ (new ++ post))))
        (drop (length (chunks pre) + length (chunks old)) (readings R (pre ++ (old ++ post))))
    -- If neither run has a line that begins with the letter, its tables stay; if one has, they stay from the next line
    -- after the run that begins with it.
    pub tables : {U : Type 0} (L : Letter R U) →
        Kept L (not (some L (chunks new) ∨? some L (chunks old)))
        (drop (length (chunks pre) + length (chunks new)) (readings R (pre ++ (new ++ post))))
        (drop (length (chunks pre) + length (chunks old)) (readings R (pre ++ (old ++ post))))
    -- If in what is left of the log and in the new run every line that begins with the letter leaves one and the same u
    -- (as where the removed run held all that are accepted, and u is what a refused one leaves), then up to the first
    -- of them what a walk starts with is in force, and from there on u.
    pub removed : {U : Type 0} (L : Letter R U) (u : U) →
        Leaves L u (chunks pre) → Leaves L u (chunks new) → Leaves L u (chunks post) →
        Turns L u false (readings R (pre ++ (new ++ post)))

  -- The demand: at every line's start, for every two runs of whole lines.
  abbrev pub Demand3 : Type 1
  Demand3 = (pre old new post : List ℕ) → closed pre ≡ true → closed old ≡ true → closed new ≡ true
      → Replaced pre old new post

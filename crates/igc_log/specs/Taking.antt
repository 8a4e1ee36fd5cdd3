-- Lines of a piece taken into lent bytes, as long as each one's text has room.
use Rattle.std.specs.Prelude.{◌+◌, ◌-◌, ◌≤◌, ◌<◌, ◌≡◌, ◌∷◌, ◌++◌}
use Rattle.text.specs.Prelude.{ℕ, true, List, [], length, take, drop, pick, ◌≤?◌}
use Rattle.std.proofs.lemmas.List.Edits.{sets}
use Rattle.igc_log.specs.Line.{line_text}
use Rattle.igc_log.specs.Log.{chunks, closed, Reader, LineRead}
use Rattle.igc_log.specs.Fold.{texts, Carried, read_at_of, read_on, past_line, fed}

module _ {A H T : Type 0} (R : Reader A H) (step : T → LineRead A H → T) (f : LineRead A H → List ℕ) where
  -- How many bytes of some lines are taken, with so much room for their texts: up to the first line that has none.
  unfoldable pub taken_in : Carried H T → List (List ℕ) → ℕ → ℕ
  taken_in c [] room = 0
  taken_in c (k ∷ ks) room =
      let t = f (read_at_of R c (line_text k)) in
      pick (length t ≤? room) (length k + taken_in (past_line R step c (line_text k) (length k)) ks (room - length t)) 0

  -- The text of the line behind the first n bytes; where there is none, nothing.
  unfoldable pub next_text : Carried H T → List ℕ → ℕ → List ℕ
  next_text c s n = pick (length s ≤? n) [] (f (read_at_of R (fed R step c (take n s)) (line_text (drop n s))))

  -- The first n of the bytes s were taken into the bytes b, which became b': c' is what they make of c, and `end` is
  -- where their text ends. Behind it stands the next line's text, as far as it had room.
  pub record Took (c : Carried H T) (s b b' : List ℕ) (c' : Carried H T) (n end : ℕ) : Type 0 where
    pub taken : n ≡ taken_in c (chunks s) (length b)
    pub carried : c' ≡ fed R step c (take n s)
    pub text_end_of : end ≡ length (texts f (read_on R c (take n s)))
    pub content : b' ≡ sets b 0 (texts f (read_on R c (take n s)) ++ next_text c s n)
    -- So they are whole lines, unless all were taken, and their text has room.
    pub inside : n ≤ length s
    pub whole : n < length s → closed (take n s) ≡ true
    pub fits : end ≤ length b

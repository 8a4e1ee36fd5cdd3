-- Where a line of a log ends: at LF; one CR directly before that LF is dropped; bytes after the last LF are a line.
use Rattle.std.specs.Prelude.{◌+◌, ◌-◌, ◌∷◌}
use Rattle.text.specs.Prelude.{ℕ, suc, Bool, List, [], length, take, drop, pick, ◌≤?◌, ◌=?◌, ◌∧?◌, LF}
use Rattle.text.specs.Prelude.{CR, byte}
use Rattle.igc_log.specs.declared.Cut.{Cut}

-- How many bytes stand before the first LF, or all of them where there is none.
unfoldable pub up_to : List ℕ → ℕ
up_to [] = 0
up_to (b ∷ s) = pick (b =? LF) 0 (suc (up_to s))

-- Some bytes have an LF.
unfoldable pub has_lf_of : List ℕ → Bool
has_lf_of s = up_to s + 1 ≤? length s

-- The end of the text that begins at a place and whose LF stands at lf: without one CR directly before that LF.
unfoldable pub end_of : ℕ → ℕ → List ℕ → ℕ
end_of at lf s = pick ((at + 1 ≤? lf) ∧? (byte (lf - 1) s =? CR)) (lf - 1) lf

-- The length of the first line's text.
unfoldable pub text_length : List ℕ → ℕ
text_length s = pick (has_lf_of s) (end_of 0 (up_to s) s) (up_to s)

-- How many bytes that line takes, its LF with it.
unfoldable pub width : List ℕ → ℕ
width s = pick (has_lf_of s) (up_to s + 1) (up_to s)

-- The text of the first line.
unfoldable pub line_text : List ℕ → List ℕ
line_text s = take (text_length s) s

-- The line that begins at a place of the log, and the place after it.
unfoldable pub cut_at : ℕ → List ℕ → Cut
cut_at at s = record { line = record { start = at; len = text_length (drop at s) }; next = at + width (drop at s) }

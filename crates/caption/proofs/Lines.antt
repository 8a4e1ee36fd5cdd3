-- The n-th line of a text, by what the cut at a place tells of the lines that are left.
use Rattle.text.specs.Prelude.{ℕ, zero, suc, ◌+◌, ◌-◌, ◌≤◌, ◌<◌, ◌≡◌, List, ◌∷◌, length, drop, guard, ◌≤?◌}
use native.Mathlib.Omega.{arith}
use mathlib.Core.Path.{refl}
use lib.ListN.{length-drop, length-take, drop_of_length-le}
use lib.Seq.{length-take-le}
use borrow.Author.Tests.{le-leb}
use Rattle.part.specs.Part.{find_part, shown}
use Rattle.part.specs.declared.Part.{Part}
use Rattle.igc_log.specs.Line.{text_length, line_text}
use Rattle.igc_log.specs.Log.{chunks}
use Rattle.igc_log.specs.declared.Cut.{Cut}
use Rattle.ahead.specs.Ahead.{cut_bytes, Ahead}
use Rattle.caption.specs.Caption.{nowhere, nth}

-- ---- from a place on

nth_step : (p n : ℕ) (c : List ℕ) (cs : List (List ℕ)) → nth p (suc (suc n)) (c ∷ cs) ≡ nth (p + length c) (suc n) cs
unfolding nth
nth_step p n c cs = refl

-- past the end there is no line
pub nth_past : (s : List ℕ) (p n : ℕ) → length s ≤ p → nth p n (chunks (drop p s)) ≡ nowhere
unfolding nth chunks
nth_past s p zero h = refl
nth_past s p (suc n) h = rw (drop_of_length-le s h)

module _ {s : List ℕ} {p : ℕ} {c : Cut} (a : Ahead s p c) (h : p < length s) where
  -- the first line from here is the one that is cut here
  pub nth_here : c.line ≡ nth p 1 (chunks (drop p s))
  unfolding nth
  nth_here = rw (a.first h) (a.line h)

  long : length (cut_bytes s p c) ≡ c.next - p
  long = length-take-le (c.next - p) (drop p s) (omega (arith, (a.next h).1, length-drop p s))

  -- a later one is one nearer from the next place
  pub nth_next : (n : ℕ) → 1 < n → nth p n (chunks (drop p s)) ≡ nth c.next (n - 1) (chunks (drop c.next s))
  nth_next zero l = absurd (omega arith)
  nth_next (suc zero) l = absurd (omega arith)
  nth_next (suc (suc n)) l =
      let z : suc (suc n) - 1 ≡ suc n = omega arith in
      let e : p + length (cut_bytes s p c) ≡ c.next = omega (arith, long, (a.next h).0) in
      rw (z, a.first h, nth_step, e)

  -- and it lies inside the text
  pub here_inside : c.line.start + c.line.len ≤ length s
  unfolding line_text
  here_inside =
      let text = length-take (text_length (cut_bytes s p c)) (cut_bytes s p c) in
      rw (a.line h) (omega (arith, text, long, (a.next h).1))

-- ---- a part inside a text is shown as it is

pub inside_shown : (p : Part) (s : List ℕ) → p.start + p.len ≤ length s → shown (find_part p s) ≡ p
unfolding shown find_part guard ◌≤?◌
inside_shown p s h = rw (le-leb _ _ h)

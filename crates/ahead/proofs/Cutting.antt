-- The cut at a place is the first line of what is left.
use Rattle.text.specs.Prelude.{ℕ, ◌+◌, ◌-◌, ◌≤◌, ◌<◌, ◌≡◌, List, ◌∷◌, length, take, drop}
use Rattle.text.proofs.Prelude.{arith, refl, sym, ◌∙◌, length-drop, drop-drop, length-take-le}
use Rattle.part.specs.Part.{bytes_of, part_bytes}
use Rattle.igc_log.specs.Line.{text_length, width, line_text, cut_at}
use Rattle.igc_log.specs.Log.{chunks}
use Rattle.igc_log.specs.declared.Cut.{Cut}
use Rattle.igc_log.proofs.Ends.{text_length_le, line_text_first}
use Rattle.igc_log.proofs.Chunks.{chunks_some}
use Rattle.igc_log.proofs.Cuts.{next_gt, next_le, cut_viewed}
use Rattle.ahead.specs.Ahead.{cut_bytes, Ahead}

module _ (s : List ℕ) (at : ℕ) where
  -- the bytes that are cut are the first line's
  bytes_cut : cut_bytes s at (cut_at at s) ≡ take (width (drop at s)) (drop at s)
  unfolding cut_at
  bytes_cut = let w : at + width (drop at s) - at ≡ width (drop at s) = omega arith in rw w

  -- and have its text
  text_cut : line_text (cut_bytes s at (cut_at at s)) ≡ line_text (drop at s)
  text_cut = rw (bytes_cut) (line_text_first (drop at s))

  long : length (line_text (drop at s)) ≡ text_length (drop at s)
  unfolding line_text
  long = length-take-le (text_length (drop at s)) (drop at s) (text_length_le (drop at s))

  line_is : (cut_at at s).line ≡ record { start = at; len = text_length (drop at s) }
  unfolding cut_at
  line_is = refl

  line_cut : (cut_at at s).line ≡ record { start = at; len = length (line_text (cut_bytes s at (cut_at at s))) }
  line_cut = rw (text_cut, long) line_is

  bytes_are : bytes_of (cut_at at s).line s ≡ line_text (drop at s)
  unfolding bytes_of cut_at line_text
  bytes_are = refl

  seen_cut : at ≤ length s → part_bytes (cut_at at s).line s ≡ line_text (cut_bytes s at (cut_at at s))
  seen_cut h = cut_viewed s at h ∙ rw text_cut bytes_are

  -- the others are left from the next place on
  rest_cut : drop (width (drop at s)) (drop at s) ≡ drop (cut_at at s).next s
  unfolding cut_at
  rest_cut = drop-drop (width (drop at s)) at s

  first_cut : at < length s → chunks (drop at s) ≡ cut_bytes s at (cut_at at s) ∷ chunks (drop (cut_at at s).next s)
  first_cut h =
      rw (bytes_cut, sym rest_cut) (chunks_some (drop at s) (omega (arith, length-drop at s)))

  pub ahead : {c : Cut} → c ≡ cut_at at s → Ahead s at c
  ahead e = rw e
      (record {
        cut = refl;
        first = first_cut;
        line = λ h. line_cut;
        text = λ h. seen_cut (omega arith);
        next = λ h. (next_gt s at h, next_le s at (omega arith));
      })

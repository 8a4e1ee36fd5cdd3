-- The cut at a place is the first line of what is left.
use Rattle.text.specs.Prelude.{ℕ, ◌+◌, ◌-◌, ◌≤◌, ◌<◌, ◌≡◌, List, [], ◌∷◌, length, drop, ok, pick}
use Rattle.text.proofs.Prelude.{arith, refl, sym, ap, ◌∙◌, length-drop, drop_of_length-le, drop-drop, length-take-le}
use Rattle.text.proofs.Prelude.{pass, yes≤, no≤}
use Rattle.part.specs.Part.{bytes_of, part_bytes, find_part}
use Rattle.part.proofs.Parts.{shown_found}
use Rattle.igc_log.specs.Line.{up_to, has_lf_of, end_of, text_length, width, line_text, cut_at}
use Rattle.igc_log.specs.Log.{chunks, Reader, read_from}
use Rattle.igc_log.specs.declared.Cut.{Cut}
use Rattle.igc_log.proofs.Ends.{end_of_drop, text_length_le, width_le, width_some, line_text_first}
use Rattle.igc_log.proofs.Chunks.{chunks_some}

-- ---- the cut that the code makes

-- lf is the first LF from p on
module _ (s : List ℕ) (p lf : ℕ) (here : lf ≡ p + up_to (drop p s)) where
  end_is : (end : ℕ) → end ≡ end_of p lf s → end ≡ p + end_of 0 (up_to (drop p s)) (drop p s)
  end_is end e = e ∙ ap (λ k. end_of p k s) here ∙ end_of_drop p (up_to (drop p s)) s

  pub not_before : (end : ℕ) → end ≡ end_of p lf s → p ≤ end
  not_before end e = omega (arith, end_is end e)

  pub cut_closed : lf < length s → (end : ℕ) → end ≡ end_of p lf s →
      ◌≡◌ {A = Cut} (record { line = record { start = p; len = end - p }; next = lf + 1 }) (cut_at p s)
  unfolding cut_at text_length width pick has_lf_of
  cut_closed h end e =
      let l : end - p ≡ end_of 0 (up_to (drop p s)) (drop p s) = omega (arith, end_is end e) in
      let n : lf + 1 ≡ p + (up_to (drop p s) + 1) = omega arith in
      rw (yes≤ {a = up_to (drop p s) + 1} {b = length (drop p s)} (omega (arith, length-drop p s)), l, n)

  pub cut_open : length s ≤ lf →
      ◌≡◌ {A = Cut} (record { line = record { start = p; len = lf - p }; next = lf }) (cut_at p s)
  unfolding cut_at text_length width pick has_lf_of
  cut_open h =
      let l : lf - p ≡ up_to (drop p s) = omega arith in
      rw (no≤ {a = up_to (drop p s) + 1} {b = length (drop p s)} (omega (arith, length-drop p s)), l, here)

-- ---- it lies inside the log, and the next place lies past it

module _ (s : List ℕ) (p : ℕ) where
  pub next_gt : p < length s → p < (cut_at p s).next
  unfolding cut_at
  next_gt h = omega (arith, width_some (drop p s) (omega (arith, length-drop p s)))

  pub next_le : p ≤ length s → (cut_at p s).next ≤ length s
  unfolding cut_at
  next_le h = omega (arith, width_le (drop p s), length-drop p s)

  pub cut_inside : p ≤ length s → find_part (cut_at p s).line s ≡ ok (cut_at p s).line
  unfolding cut_at find_part
  cut_inside h = sym (pass _ (yes≤ (omega (arith, text_length_le (drop p s), length-drop p s))) refl)

  -- and is viewed as it is
  pub cut_viewed : p ≤ length s → part_bytes (cut_at p s).line s ≡ bytes_of (cut_at p s).line s
  cut_viewed h = ap (λ q. bytes_of q s) (shown_found (sym (cut_inside h)))

-- ---- the law that a loop over a log cites

-- what is read from a place on is the line that is cut there, and then what is read from the next place on
module _ {A T : Type 0} (R : Reader A T) (s : List ℕ) (n p : ℕ) (t : T) where
  pub read_past : length s ≤ p → read_from R n p t (chunks (drop p s)) ≡ []
  unfolding read_from chunks
  read_past h = rw (drop_of_length-le s h)

  pub read_line : p < length s → read_from R n p t (chunks (drop p s)) ≡
      record {
        number = n + 1;
        place = p;
        line = bytes_of (cut_at p s).line s;
        answer = R.read (bytes_of (cut_at p s).line s);
        held = R.after p t (bytes_of (cut_at p s).line s);
      }
      ∷ read_from R (n + 1) (cut_at p s).next (R.after p t (bytes_of (cut_at p s).line s))
      (chunks (drop (cut_at p s).next s))
  unfolding read_from cut_at bytes_of line_text
  read_line h =
      let l = length-take-le (width (drop p s)) (drop p s) (width_le (drop p s)) in
      rw (
        chunks_some (drop p s) (omega (arith, length-drop p s)),
        line_text_first (drop p s),
        l,
        drop-drop
            (width (drop p s)) p s,
      )

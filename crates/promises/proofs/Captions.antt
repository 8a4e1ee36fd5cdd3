-- The caption's bytes are what the plain words say.
use Rattle.text.specs.Prelude.{ℕ, zero, suc, ◌-◌, ◌≤◌, ◌<◌, ◌≡◌, true, false, List, [], map, length, drop, pick}
use Rattle.text.specs.Prelude.{◌≤?◌, ◌=?◌}
use Rattle.text.proofs.Prelude.{arith, refl, sym, ap, ◌∙◌, drop_of_length-le, yes=, no=, is≤, isnt≤, by_test}
use Rattle.part.specs.Part.{bytes_of, find_maybe, maybe_bytes, shown}
use Rattle.igc_log.specs.Line.{line_text, cut_at}
use Rattle.igc_log.specs.Log.{chunks}
use Rattle.igc_log.proofs.Chunks.{chunks_none}
use Rattle.ahead.proofs.Cutting.{ahead}
use Rattle.caption.specs.Caption.{nowhere, nth, caption_of, caption_text}
use Rattle.caption.proofs.Lines.{nth_past, nth_here, nth_next, here_inside, inside_shown}
use Rattle.caption.proofs.Names.{shown_length}
use Rattle.promises.specs.TaskSheets.{nth_text, label_text, name_or_label, InWords}

no_bytes : (s : List ℕ) → bytes_of nowhere s ≡ []
unfolding bytes_of nowhere
no_bytes s = refl

no_texts : (n : ℕ) → nth_text n [] ≡ []
unfolding nth_text
no_texts zero = refl
no_texts (suc n) = refl

-- the line that is cut at a place has the text of the first that is left
cut_text : (s : List ℕ) (p : ℕ) → p < length s →
    bytes_of (nth p 1 (chunks (drop p s))) s ≡ nth_text 1 (map line_text (chunks (drop p s)))
unfolding nth_text
cut_text s p h =
    let a = ahead s p refl in
    rw (sym (nth_here a h), sym (ap (λ q. bytes_of q s) (inside_shown _ s (here_inside a h))), a.first h) (a.text h)

-- past the end there is neither a line nor a text
past_text : (s : List ℕ) (n p : ℕ) → length s ≤ p →
    bytes_of (nth p n (chunks (drop p s))) s ≡ nth_text n (map line_text (chunks (drop p s)))
past_text s n p h =
    rw (nth_past s p n h, drop_of_length-le s h, chunks_none) (no_bytes s ∙ sym (no_texts n))

-- the bytes of the n-th line are its text, from a place on
nth_text_lem : (s : List ℕ) (n p : ℕ) →
    bytes_of (nth p n (chunks (drop p s))) s ≡ nth_text n (map line_text (chunks (drop p s)))
unfolding nth nth_text
nth_text_lem s zero p = no_bytes s
nth_text_lem s (suc zero) p =
    by_test (length s ≤? p) (λ e. past_text s 1 p (is≤ e)) (λ e. cut_text s p (isnt≤ e))
nth_text_lem s (suc (suc n)) p =
    by_test (length s ≤? p)
    (λ e. past_text s (suc (suc n)) p (is≤ e))
    (λ e.
    let h = isnt≤ e in
    let a = ahead s p refl in
    let z : suc (suc n) - 1 ≡ suc n = omega arith in
    rw (nth_next a h (suc (suc n)) (omega arith), z, a.first h) (nth_text_lem s (suc n) (cut_at p s).next))

-- a name is shown with as many bytes as it has, so it is empty where its text is
pub in_words : InWords
unfolding caption_text caption_of name_or_label label_text pick
in_words point n line labels =
    let m = point.turnpoint_name in
    by_test (1 ≤? (shown (find_maybe m line)).len)
    (λ e.
    let some : (length (maybe_bytes m line) =? 0) ≡ false =
    no= (λ z. omega (arith, is≤ e, shown_length m line)) in
    rw (e, some))
    (λ e.
    let none : (length (maybe_bytes m line) =? 0) ≡ true =
    yes= (omega (arith, isnt≤ e, shown_length m line)) in
    rw (e, none) (nth_text_lem labels n 0))

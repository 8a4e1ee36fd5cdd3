-- The texts of a line's parts, and what a whole line is printed as.
use Rattle.text.specs.Prelude.{ℕ, ◌+◌, ◌≤◌, ◌≡◌, Bool, false, List, length, drop, Res, ok, bind, pick, ◌≤?◌, cut}
use Rattle.text.proofs.Prelude.{arith, refl, sym, ap, drop_of_length-le, on, pass, yes≤, is≤, by_test}
use native.Mathlib.Nat.{add-sub_cancel_left}
use Rattle.part.specs.Part.{bytes_of, find_part, find_maybe, text_of, part_text, maybe_text, rest_from, name_from}
use Rattle.text.proofs.Lines.{cut_rest}
use Rattle.promises.proofs.Copies.{Copy}

module _ (a : ℕ) (s : List ℕ) where
  pub part_text_lem : (w : ℕ) → a + w ≤ length s → ok (cut a (a + w) s) ≡ part_text (record { start = a; len = w }) s
  unfolding part_text text_of find_part bytes_of cut
  part_text_lem w h = on _ (pass _ (yes≤ h) refl) (rw add-sub_cancel_left)

  pub rest_text : a ≤ length s → ok (drop a s) ≡ part_text (rest_from a s) s
  unfolding part_text text_of find_part bytes_of rest_from
  rest_text h = on _ (pass _ (yes≤ (omega arith)) refl) (ap ok (sym (cut_rest s a)))

  -- an empty name is none, and prints as nothing
  pub name_text_lem : a ≤ length s → ok (drop a s) ≡ maybe_text (name_from a s) s
  unfolding maybe_text find_maybe name_from part_text text_of bytes_of bind pick
  name_text_lem h = by_test (length s ≤? a) (λ e. rw (e, drop_of_length-le s {i = a} (is≤ e))) (λ e. rw e (rest_text h))

-- ---- a line

-- m is a text, and it is the line s itself exactly where s is not odd
pub record Again (odd : Bool) (s : List ℕ) (m : Res (List ℕ)) : Type 0 where
  pub text : List ℕ
  pub prints : ok text ≡ m
  pub same : odd ≡ false → text ≡ s
  pub only : text ≡ s → odd ≡ false

pub printed_again : {o : Bool} {s t : List ℕ} {m : Res (List ℕ)} → ok t ≡ m → Copy o s t → Again o s m
printed_again {t} e c = record { text = t; prints = e; same = c.same; only = c.only }

pub printed_always : {s : List ℕ} {m : Res (List ℕ)} → ok s ≡ m → Again false s m
printed_always {s} e = record { text = s; prints = e; same = λ _. refl; only = λ _. refl }

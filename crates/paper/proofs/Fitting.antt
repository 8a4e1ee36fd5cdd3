-- A printer whose text has room wrote it.
use Rattle.text.specs.Prelude.{ℕ, ◌≤◌, ◌≡◌, List, ◌++◌, length, take, drop, Res, ok, no, bind, guard, pick}
use Rattle.text.proofs.Prelude.{arith, refl, sym, ap, subst, length-append, take_at, yes≤}
use Rattle.text.specs.declared.refusal.Refusal.{Refusal}
use Rattle.print.specs.Print.{answer_to, left_by, Prints}

abbrev length_of : Res ℕ → ℕ
length_of (ok n) = n
length_of (no r) = 0

abbrev Accepted : Res ℕ → Type 0
Accepted (ok n) = Unit {0}
Accepted (no r) = ⊥

module _ {t b b' : List ℕ} (fits : length t ≤ length b) where
  -- of the lent bytes, the first are the text
  pub all_written : {n : ℕ} → Prints (ok t) b b' (ok n) → (n ≤ length b') × (take n b' ≡ t)
  unfolding answer_to left_by bind guard pick
  all_written {n} p =
      let e : ok n ≡ ok (length t) = rw (yes≤ fits) at p.answer in
      let m : n ≡ length t = ap length_of e in
      let c : b' ≡ t ++ drop (length t) b = rw (yes≤ fits) at p.left in
      let l = length-append t (drop (length t) b) in
      rw (c, m) (omega (arith, l), take_at t (drop (length t) b) (length t) refl)

  -- and it is not refused
  pub not_refused : {n : Refusal} → Prints (ok t) b b' (no n) → ⊥
  unfolding answer_to bind guard
  not_refused {n} p = let e : no n ≡ ok (length t) = rw (yes≤ fits) at p.answer in subst Accepted (sym e) tt

-- Printers: three laws prove them all.
use Rattle.text.specs.Prelude.{ℕ, ◌≤◌, ◌<◌, ◌≡◌, List, ◌++◌, length, drop, Res, ok, no, bind, guard, pick}
use Rattle.text.proofs.Prelude.{arith, refl, sym, ◌∙◌, subst, sets, yes≤, no≤}
use native.Mathlib.Nat.{zero-add}
use lib.Seq.{sets-eq}
use Rattle.put.specs.Put.{Wrote}
use Rattle.print.specs.Print.{answer_to, left_by, Prints}
use Rattle.text.specs.declared.{refusal.Refusal.Refusal, refusal.Refusal.TheVariants.NoRoom}

-- there is no text
pub refused : {m : Res (List ℕ)} {n : Refusal} (b : List ℕ) → no n ≡ m → Prints m b b (no n)
unfolding answer_to left_by bind
refused b e = rw (sym e) (record { answer = refl; left = refl })

-- the text t, tried on other bytes, ends at n: there is no room for it
pub no_room : {e e' b t : List ℕ} {m : Res (List ℕ)} {n : ℕ} → ok t ≡ m → Wrote e 0 t e' n → length b < n → Prints m b b
    (no NoRoom)
unfolding answer_to left_by bind guard pick
no_room {b} {t} o d h = let k : length b < length t = omega (arith, d.next) in
    rw (sym o) (record { answer = rw (no≤ k); left = rw (no≤ k) })

-- there is, and t was written from the start on
pub written : {e e' b b' t : List ℕ} {m : Res (List ℕ)} {n r : ℕ} → ok t ≡ m → Wrote e 0 t e' n → n ≤ length b
    → Wrote b 0 t b' r → Prints m b b' (ok r)
unfolding answer_to left_by bind guard pick
written {b} {b'} {t} {n} {r} o d h w =
    let k : length t ≤ length b = omega (arith, d.next, w.short) in
    let z : r ≡ length t = omega (arith, w.next, w.short) in
    let s : sets b 0 t ≡ t ++ drop (length t) b = sets-eq t b 0 (omega arith) ∙ rw zero-add in
    rw (sym o) (record { answer = rw (yes≤ k, z); left = rw (yes≤ k) (w.content ∙ s) })

-- an answer that is the refusal, as `?` hands it on
pub refused_as : {m : Res (List ℕ)} {q : Res ℕ} {n : Refusal} (b : List ℕ) → q ≡ no n → no n ≡ m → Prints m b b q
refused_as b e h = rw e (refused b h)

-- a printer of the text that m finds is a printer of m
pub prints_found : {m : Res (List ℕ)} {t b b' : List ℕ} {r : Res ℕ} → ok t ≡ m → Prints (ok t) b b' r → Prints m b b' r
prints_found {b} {b'} {r} e p = subst (λ (m : Res (List ℕ)). Prints m b b' r) e p

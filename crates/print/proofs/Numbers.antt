-- Numbers written into lent bytes.
use Rattle.text.specs.Prelude.{ℕ, suc, ◌+◌, ◌-◌, ◌/◌, ◌%◌, ◌≡◌, List, [], ◌∷◌, set, ℤ, pos, negsuc, padded, signed}
use Rattle.text.specs.Prelude.{digits}
use Rattle.text.proofs.Prelude.{arith, sym, ap, ◌∙◌, sets}
use Rattle.text.proofs.Decimal.{length_digits}
use Rattle.put.specs.Put.{place, Wrote}
use Rattle.put.proofs.Writing.{sets_snoc, sets_place}
use Rattle.print.specs.Signed.{split_of}
use Rattle.print.specs.declared.number.Signed.TheVariants.{Plus, Minus}

-- the last of k + 1 digits is written, and then the first k
pub digit_before : {b b' : List ℕ} (i k n : ℕ) {j r : ℕ} → j ≡ place (i + k) → Wrote b j ((48 + n % 10) ∷ []) b' r
    → sets b' i (digits k (n / 10)) ≡ sets b i (digits (suc k) n)
unfolding digits
digit_before {b} i k n e w =
    ap (λ (l : List ℕ). sets l i (digits k (n / 10)))
    (w.content ∙ rw e (sets_place b (i + k) ((48 + n % 10) ∷ []) w.short))
    ∙ ap (λ (m : ℕ). sets (set b (i + m) (48 + n % 10)) i (digits k (n / 10))) (sym (length_digits k (n / 10)))
    ∙ sets_snoc b i (digits k (n / 10)) (48 + n % 10)

-- ---- a number by its sign

pub plus_text : (w n : ℕ) (z : ℤ) → Plus n ≡ split_of z → padded w n ≡ signed w z
unfolding signed
plus_text w n (pos m) e = let h : n ≡ m = cc in rw h
plus_text w n (negsuc m) e = let z : ◌≡◌ {A = ℕ} 0 1 = cc in absurd (omega arith)

pub minus_text : (w n : ℕ) (z : ℤ) → Minus n ≡ split_of z → 45 ∷ padded (w - 1) n ≡ signed w z
unfolding signed
minus_text w n (pos m) e = let z : ◌≡◌ {A = ℕ} 0 1 = cc in absurd (omega arith)
minus_text w n (negsuc m) e = let h : n ≡ suc m = cc in rw h

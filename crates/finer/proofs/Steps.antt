-- Steps over the answers of a coordinate in a row.
use Rattle.std.specs.Prelude.{Result}
use Rattle.text.specs.Prelude.{◌≡◌, Bool, true, false, Res, ok, no}
use Rattle.text.proofs.Prelude.{sym, ap, ◌∙◌}
use Rattle.text.specs.declared.refusal.Refusal.{Refusal}
use Rattle.finer.specs.Finer.{after, narrow}
use Rattle.finer.specs.declared.{FinerCoord.FinerCoord, FinerRefusal.FinerRefusal}

-- a was found or read: go on with it
pub go : {A : Type 0} (f : A → Result FinerCoord FinerRefusal) {m : Res A} {a : A}
    {x : Result FinerCoord FinerRefusal} → ok a ≡ m → x ≡ f a → x ≡ after m f
unfolding after
go f p q = q ∙ ap (λ m. after m f) p

-- it was refused
pub halt : {A : Type 0} (f : A → Result FinerCoord FinerRefusal) {m : Res A} {n : Refusal} → no n ≡ m →
    no (FinerRefusal.Read n) ≡ after m f
unfolding after
halt f p = ap (λ m. after m f) p

-- the width is at most 5: go on
pub fitting : {t : Bool} {r x : Result FinerCoord FinerRefusal} → t ≡ true → x ≡ r → x ≡ narrow t r
unfolding narrow
fitting {r} p q = q ∙ ap (λ t. narrow t r) (sym p)

-- it is over 5
pub too_wide : (r : Result FinerCoord FinerRefusal) {t : Bool} → t ≡ false → no FinerRefusal.TooWide ≡ narrow t r
unfolding narrow
too_wide r p = ap (λ t. narrow t r) (sym p)

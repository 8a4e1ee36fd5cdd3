use Rattle.text.specs.Prelude.{ℕ, ◌<◌, ◌≡◌, Bool, false, true, List, ◌∷◌, length, pick, ◌=?◌, ◌∧?◌, zeros}
use Rattle.text.proofs.Prelude.{rules, arith, refl, sym, yes=, no=}
use Rattle.std.specs.Prelude.{◌&&◌}
use Rattle.std.specs.Bool.{MatchBool}
use Rattle.std.specs.List.{AllWithin, HoldsAt}
use borrow.Author.Tests.{tests}
use Rattle.std.proofs.lemmas.List.Recursion.{and_from_places, and_fails_at}
use Rattle.std.proofs.lemmas.Iterator.{cases_from_all, YieldsList-from_slice}
use Rattle.c_record.proofs.all_zeros.Goals as goal

both : (s t : Bool) → pick s t false ≡ (s && t)
unfolding pick
both true t = refl
both false t = refl

step : (b : ℕ) (s : List ℕ) → zeros (b ∷ s) ≡ ((b =? 48) && zeros s)
unfolding zeros ◌∧?◌
step b s = both (b =? 48) (zeros s)

-- what std's answer says of the text
told : (s : List ℕ) (r : Bool) → MatchBool r (AllWithin (λ b. b ≡ 48) s 0 (length s))
    ((i : ℕ) × (i < length s) × HoldsAt (λ b. b ≡ 48 → ⊥) s i) → r ≡ zeros s
unfolding zeros
told s true all = sym (and_from_places zeros (λ b. b =? 48) refl step s 0 (λ i l. yes= (all i 0 (omega arith) l)))
told s false other = sym (and_fails_at zeros (λ b. b =? 48) refl step s other.0 0 other.1 (no= (other.2 0)))

pub returns : goal.returns
returns c =
    let s = c.args.text.now in
    told s _ (cases_from_all _ _ _ (λ b. b ≡ 48) (λ b. b ≡ 48 → ⊥) c.all.ensures.ran (YieldsList-from_slice s cc)
    (λ b q k. search (rules, tests)) (λ b q k. search (rules, tests)))

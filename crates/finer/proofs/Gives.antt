-- Whatever a coordinate's answer gives has a property: one law for each way in which answers are put in a row.
use Rattle.finer.specs.declared.FinerRefusal.{FinerRefusal}
use Rattle.std.specs.Prelude.{Result}
use Rattle.text.specs.Prelude.{ℕ, ◌^◌, ◌≤◌, ◌<◌, ◌≡◌, Bool, true, false, List, Res, ok, no, pick, ◌∨?◌}
use Rattle.text.proofs.Prelude.{arith, refl, ap, subst, is≤}
use Rattle.part.specs.Part.{bytes_of}
use Rattle.part.specs.declared.Part.{Part}
use Rattle.raw_coord.specs.declared.RawCoord.{RawCoord}
use Rattle.b_record.specs.declared.BRecord.{BRecord}
use Rattle.held.specs.Held.{look_up}
use Rattle.held.specs.declared.tables.Tables.{Tables}
use Rattle.finer.specs.Finer.{LAD, LOD, finely, plainly, after, narrow, read_finer, both, is_undefined_of}
use Rattle.finer.specs.Finer.{position_by_of, finer_position, Lies}
use Rattle.finer.specs.Laws.{Given}
use Rattle.finer.specs.declared.{FinerCoord.FinerCoord, FinerPosition.FinerPosition}
use Rattle.finer.proofs.Parts.{wide}
use Rattle.finer.proofs.Reading.{read_below, found_moved}
use Rattle.finer.proofs.Plain.{no_digits_plain, look_lies, look_some}
use Rattle.finer.proofs.Digits.{drops}

record Gives (x : Result FinerCoord FinerRefusal) (P : FinerCoord → Type 0) : Type 0 where
  it : (f : FinerCoord) → x ≡ ok f → P f

module _ {P : FinerCoord → Type 0} where
  gives_ok : {f : FinerCoord} → P f → Gives (ok f) P
  gives_ok {f} p = record { it = λ g e. let same : f ≡ g = cc in subst P same p }

  gives_after : {A : Type 0} {m : Res A} {g : A → Result FinerCoord FinerRefusal} →
      ((a : A) → m ≡ ok a → Gives (g a) P) → Gives (after m g) P
  unfolding after
  gives_after {m = ok a} q = q a refl
  gives_after {m = no n} q = record { it = λ f e. let z : ◌≡◌ {A = ℕ} 0 1 = cc in absurd (omega arith) }

  gives_narrow : {t : Bool} {r : Result FinerCoord FinerRefusal} → (t ≡ true → Gives r P) → Gives (narrow t r) P
  unfolding narrow
  gives_narrow {t = true} q = q refl
  gives_narrow {t = false} q = record { it = λ f e. let z : ◌≡◌ {A = ℕ} 0 1 = cc in absurd (omega arith) }

-- digits more, at most five
with_digits : (c : RawCoord) (n d : ℕ) → n ≤ 5 → d < 10 ^ n → Given c (finely n d c)
unfolding finely
with_digits c n d l h = record { digits = d; few = l; below = h; is = refl; drops = drops c n d h }

plain_given : (c : RawCoord) → Given c (plainly c)
plain_given c = subst (Given c) (no_digits_plain c) (with_digits c 0 0 (omega arith) (omega arith))

-- what lookup found is given so
read_given : (m : Res Part) (c : RawCoord) (s : List ℕ) → Lies m s → Gives (read_finer m c s) (Given c)
unfolding read_finer
read_given m c s lies =
    gives_after (λ p found. gives_narrow (λ few. gives_after (λ d read.
    gives_ok (with_digits c p.len d (is≤ few)
    (subst (λ n. d < 10 ^ n) (wide p s (lies p found)) (read_below (bytes_of p s) (found_moved _ _ read)))))))

-- both coordinates of a position
both_given : (a b : Result FinerCoord FinerRefusal) (p : FinerPosition) → both a b ≡ ok p →
    (a ≡ ok p.lat.0) × (b ≡ ok p.lon.0)
unfolding both
both_given (no n) b p e = let z : ◌≡◌ {A = ℕ} 0 1 = cc in absurd (omega arith)
both_given (ok lat) (no n) p e = let z : ◌≡◌ {A = ℕ} 0 1 = cc in absurd (omega arith)
both_given (ok lat) (ok lon) p e =
    let same : ◌≡◌ {A = FinerPosition} (record { lat = record { 0 = lat }; lon = record { 0 = lon } }) p = cc in
    (ap (λ q. ok q.lat.0) same, ap (λ q. ok q.lon.0) same)

position_given : (lad lod : Res Part) (lat lon : RawCoord) (s : List ℕ) (p : FinerPosition) → Lies lad s → Lies lod s →
    position_by_of lad lod lat lon s ≡ ok p →
    Given lat p.lat.0 × Given lon p.lon.0
unfolding position_by_of pick
position_given lad lod lat lon s p l k e = by (is_undefined_of lad ∨? is_undefined_of lod) e
  where
    by : (t : Bool) →
        pick t (both (ok (plainly lat)) (ok (plainly lon)))
        (both (read_finer lad lat s) (read_finer lod lon s)) ≡ ok p →
        Given lat p.lat.0 × Given lon p.lon.0
    by true h =
        let g = both_given _ _ p h in (
          (gives_ok {P = Given lat} (plain_given lat)).it _ g.0,
          (gives_ok {P = Given lon} (plain_given lon)).it _ g.1,
        )
    by false h =
        let g = both_given _ _ p h in
        ((read_given lad lat s l).it _ g.0, (read_given lod lon s k).it _ g.1)

pub given : (fix : BRecord) (t : Tables) (s : List ℕ) (p : FinerPosition) →
    finer_position fix t s ≡ ok p →
    Given fix.pos.lat.0 p.lat.0 × Given fix.pos.lon.0 p.lon.0
unfolding finer_position
given fix t s p e =
    position_given _ _ fix.pos.lat.0 fix.pos.lon.0 s p
    (look_lies 35 fix.rest t.i LAD s refl) (look_lies 35 fix.rest t.i LOD s refl) e

-- ---- a digit at least

read_some : (m : Res Part) (c : RawCoord) (s : List ℕ) → ((p : Part) → m ≡ ok p → 1 ≤ p.len) →
    Gives (read_finer m c s) (λ f. 1 ≤ f.n)
unfolding read_finer finely
read_some m c s long =
    gives_after (λ p found. gives_narrow (λ _. gives_after (λ _ _. gives_ok (long p found))))

pub some : (fix : BRecord) (t : Tables) (s : List ℕ) (p : FinerPosition) →
    is_undefined_of (look_up 35 fix.rest t.i LAD s) ≡ false →
    is_undefined_of (look_up 35 fix.rest t.i LOD s) ≡ false →
    finer_position fix t s ≡ ok p →
    (1 ≤ p.lat.0.n) × (1 ≤ p.lon.0.n)
unfolding finer_position position_by_of ◌∨?◌ pick
some fix t s p d k e =
    let g = both_given _ _ p (rw (d, k) at e) in (
      (read_some _ fix.pos.lat.0 s (look_some 35 fix.rest t.i LAD s)).it _ g.0,
      (read_some _ fix.pos.lon.0 s (look_some 35 fix.rest t.i LOD s)).it _ g.1,
    )

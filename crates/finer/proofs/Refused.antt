-- A position is refused in the named cases alone.
use Rattle.std.specs.Prelude.{Result}
use Rattle.text.specs.Prelude.{ℕ, ◌+◌, ◌≤◌, ◌<◌, ◌≡◌, Bool, true, false, List, [], ◌∷◌, length, Res, ok}
use Rattle.text.specs.Prelude.{no, moved, moved_by, placed, guard, pick, byte, largest, is_digit_of, all_digits_of}
use Rattle.text.specs.Prelude.{first_other_of, value_from, ◌≤?◌, ◌∧?◌, ◌∨?◌}
use Rattle.text.proofs.Prelude.{arith, refl, sym, ap, ◌∙◌, subst, get_or-drop, get_or-take, never, neither, is≤, isnt≤}
use Rattle.text.specs.declared.refusal.Refusal.{Refusal}
use Rattle.text.specs.declared.refusal.Refusal.TheVariants.{UnreadableNumber}
use Rattle.part.specs.Part.{bytes_of}
use Rattle.part.specs.declared.Part.{Part}
use Rattle.raw_coord.specs.declared.RawCoord.{RawCoord}
use Rattle.b_record.specs.declared.BRecord.{BRecord}
use Rattle.held.specs.Held.{look_up}
use Rattle.held.specs.declared.tables.Tables.{Tables}
use Rattle.finer.specs.Finer.{LAD, LOD, plainly, finely, read_plain_of, after, narrow, read_finer, both}
use Rattle.finer.specs.Finer.{is_undefined_of, position_by_of, finer_position, Lies}
use Rattle.finer.specs.Laws.{Why, as_lookup, over_five, no_digit, WhyNone, latitude, longitude}
use Rattle.finer.specs.declared.{FinerCoord.FinerCoord, FinerRefusal.FinerRefusal}
use Rattle.finer.proofs.Parts.{wide}
use Rattle.finer.proofs.Plain.{look_lies}

-- ---- the first byte that is no digit

-- it stands in the text, and is none
unfoldable There : List ℕ → Type 0
There s = (first_other_of s < length s) × (is_digit_of (byte (first_other_of s) s) ≡ false)

there_by : (b : ℕ) (s : List ℕ) → (all_digits_of s ≡ false → There s) → all_digits_of (b ∷ s) ≡ false → (t : Bool) →
    is_digit_of b ≡ t → There (b ∷ s)
unfolding There all_digits_of first_other_of ◌∧?◌ pick
there_by b s more h true e =
    let rest : all_digits_of s ≡ false = rw e at h in
    let k = more rest in
    rw e (omega (arith, k.0), k.1)
there_by b s more h false e = (rw e (omega arith), rw e e)

other_there : (s : List ℕ) → all_digits_of s ≡ false → There s
unfolding all_digits_of
other_there [] h = never refl h
other_there (b ∷ s) h = there_by b s (other_there s) h (is_digit_of b) refl

-- so of digits that are refused
digits_refused : (s : List ℕ) (n : Refusal) → read_plain_of s ≡ no n →
    (n ≡ UnreadableNumber (first_other_of s)) × There s
unfolding read_plain_of guard
digits_refused s n h = by (all_digits_of s) refl h
  where
    by : (t : Bool) → all_digits_of s ≡ t →
        guard t (UnreadableNumber (first_other_of s)) (ok (value_from 0 s)) ≡ no n →
        (n ≡ UnreadableNumber (first_other_of s)) × There s
    by true e k = let z : ◌≡◌ {A = ℕ} 0 1 = cc in absurd (omega arith)
    by false e k = (cc, other_there s e)

-- ---- one coordinate

-- a byte of a part is a byte of the line
byte_of : (p : Part) (s : List ℕ) (k : ℕ) → k < p.len → byte k (bytes_of p s) ≡ byte (p.start + k) s
unfolding bytes_of
byte_of p s k h = rw (get_or-take, get_or-drop)

module _ (s : List ℕ) (short : length s ≤ largest) (p : Part) (lies : p.start + p.len ≤ length s) where
  -- the place is counted from the line's start
  counted : (k : ℕ) → k < p.len → moved_by p.start (UnreadableNumber k) ≡ UnreadableNumber (p.start + k)
  unfolding moved_by placed
  counted k h = ap UnreadableNumber (omega arith)

  part_by : (n : Refusal) → p.len ≤ 5 → (m : Res ℕ) → read_plain_of (bytes_of p s) ≡ m → moved p.start m ≡ no n →
      Why (ok p) s (FinerRefusal.Read n)
  unfolding moved There
  part_by n few (ok v) e h = let z : ◌≡◌ {A = ℕ} 0 1 = cc in absurd (omega arith)
  part_by n few (no m) e h =
      let d = digits_refused (bytes_of p s) m e in
      let k = first_other_of (bytes_of p s) in
      let at : k < p.len = rw (wide p s lies) at d.1.0 in
      let same : moved_by p.start m ≡ n = cc in
      no_digit p k refl few at (omega arith)
      (ap is_digit_of (sym (byte_of p s k at)) ∙ d.1.1)
      (ap FinerRefusal.Read (sym same ∙ ap (moved_by p.start) d.0 ∙ counted k at))

  digits_by : (g : ℕ → FinerCoord) (r : FinerRefusal) → p.len ≤ 5 → (m : Res ℕ) →
      moved p.start (read_plain_of (bytes_of p s)) ≡ m → after m (λ d. ok (g d)) ≡ no r →
      Why (ok p) s r
  unfolding after
  digits_by g r few (ok d) e h = let z : ◌≡◌ {A = ℕ} 0 1 = cc in absurd (omega arith)
  digits_by g r few (no n) e h =
      let same : FinerRefusal.Read n ≡ r = cc in
      subst (Why (ok p) s) same (part_by n few (read_plain_of (bytes_of p s)) refl e)

  width_by : (g : ℕ → FinerCoord) (r : FinerRefusal) (t : Bool) → (p.len ≤? 5) ≡ t →
      narrow t (after (moved p.start (read_plain_of (bytes_of p s))) (λ d. ok (g d))) ≡ no r →
      Why (ok p) s r
  unfolding narrow
  width_by g r true e h = digits_by g r (is≤ e) (moved p.start (read_plain_of (bytes_of p s))) refl h
  width_by g r false e h = let same : FinerRefusal.TooWide ≡ r = cc in over_five p refl (isnt≤ e) (sym same)

coord_refused : (m : Res Part) (c : RawCoord) (s : List ℕ) (r : FinerRefusal) → length s ≤ largest → Lies m s →
    read_finer m c s ≡ no r → Why m s r
unfolding read_finer after
coord_refused (no n) c s r short lies h = let same : FinerRefusal.Read n ≡ r = cc in as_lookup n refl (sym same)
coord_refused (ok p) c s r short lies h =
    width_by s short p (lies p refl) (λ d. finely p.len d c) r (p.len ≤? 5) refl h

-- ---- a position

module _ (lad lod : Res Part) (lat : RawCoord) (s : List ℕ) (r : FinerRefusal) (short : length s ≤ largest)
    (lies-lad : Lies lad s) (lies-lod : Lies lod s) where
  both_by : (lon : RawCoord) → is_undefined_of lad ≡ false → is_undefined_of lod ≡ false →
      (a b : Result FinerCoord FinerRefusal) → read_finer lad lat s ≡ a → read_finer lod lon s ≡ b →
      both a b ≡ no r → WhyNone lad lod lat s r
  unfolding both
  both_by lon d e (no n) b x y h =
      let same : n ≡ r = cc in
      latitude d e (coord_refused lad lat s r short lies-lad (x ∙ ap no same))
  both_by lon d e (ok f) (no n) x y h =
      let same : n ≡ r = cc in
      longitude d e f x (coord_refused lod lon s r short lies-lod (y ∙ ap no same))
  both_by lon d e (ok f) (ok g) x y h = let z : ◌≡◌ {A = ℕ} 0 1 = cc in absurd (omega arith)

  position_by : (lon : RawCoord) (t : Bool) → (is_undefined_of lad ∨? is_undefined_of lod) ≡ t →
      pick t (both (ok (plainly lat)) (ok (plainly lon)))
      (both (read_finer lad lat s) (read_finer lod lon s)) ≡ no r → WhyNone lad lod lat s r
  unfolding pick both
  position_by lon true e h = let z : ◌≡◌ {A = ℕ} 0 1 = cc in absurd (omega arith)
  position_by lon false e h =
      let n = neither e in both_by lon n.0 n.1 (read_finer lad lat s) (read_finer lod lon s) refl refl h

pub refused : (fix : BRecord) (t : Tables) (s : List ℕ) (r : FinerRefusal) → length s ≤ largest →
    finer_position fix t s ≡ no r →
    WhyNone (look_up 35 fix.rest t.i LAD s) (look_up 35 fix.rest t.i LOD s) fix.pos.lat.0 s r
unfolding finer_position position_by_of
refused fix t s r short e =
    let lad = look_up 35 fix.rest t.i LAD s in
    let lod = look_up 35 fix.rest t.i LOD s in
    position_by lad lod fix.pos.lat.0 s r short
    (look_lies 35 fix.rest t.i LAD s refl) (look_lies 35 fix.rest t.i LOD s refl)
    fix.pos.lon.0 (is_undefined_of lad ∨? is_undefined_of lod) refl e

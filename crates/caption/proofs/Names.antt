-- A name that is shown: how long it is, and what that tells of the caption.
use Rattle.part.specs.declared.Part.{Part}
use Rattle.text.specs.Prelude.{None, Option, Some}
use denote.Ref.{Bor}
use Rattle.text.specs.Prelude.{ℕ, ◌+◌, ◌≤◌, ◌<◌, ◌≡◌, Bool, true, false, List, length, drop, guard, pick, ◌≤?◌}
use native.Mathlib.Omega.{arith}
use mathlib.Core.Path.{ap, ◌∙◌, refl}
use lib.ListN.{length-drop}
use lib.Seq.{length-take-le}
use borrow.Author.Tests.{le-leb, lt-leb, leb-true}
use Rattle.part.specs.Part.{bytes_of, find_part, find_maybe, maybe_bytes, shown, Shows}
use Rattle.c_turnpoint_record.specs.declared.CRecordTurnpoint.{CRecordTurnpoint}
use Rattle.igc_log.specs.Log.{chunks}
use Rattle.caption.specs.Caption.{nth, caption_of, ShowsOne}

-- what is shown of a name lies inside the line
shown_inside : (m : (Option Part)) (s : List ℕ) → (shown (find_maybe m s)).start + (shown (find_maybe m s)).len ≤ length s
unfolding find_maybe find_part shown guard ◌≤?◌
shown_inside None s = omega arith
shown_inside (Some p) s = by (p.start + p.len ≤? length s) refl
  where
    by : (t : Bool) → (p.start + p.len ≤? length s) ≡ t →
        (shown (find_part p s)).start + (shown (find_part p s)).len ≤ length s
    by true e = rw e (leb-true _ _ e)
    by false e = rw e (omega arith)

-- so its bytes are as many as it says
pub shown_length : (m : (Option Part)) (s : List ℕ) → length (maybe_bytes m s) ≡ (shown (find_maybe m s)).len
unfolding bytes_of
shown_length m s =
    let p = shown (find_maybe m s) in
    length-take-le p.len (drop p.start s) (omega (arith, shown_inside m s, length-drop p.start s))

module _ (point : CRecordTurnpoint) (n : ℕ) {line r : Bor (List ℕ)} (labels : Bor (List ℕ))
    (v : Shows line (shown (find_maybe point.turnpoint_name (line.now))) r) where
  long : length (r.now) ≡ (shown (find_maybe point.turnpoint_name (line.now))).len
  long = ap length v.bytes ∙ shown_length point.turnpoint_name (line.now)

  -- a name with something in it is the caption
  pub named : 0 < length (r.now) → ShowsOne line labels (caption_of point n (line.now) (labels.now)) r
  unfolding caption_of pick ◌≤?◌
  named h =
      rw (le-leb 1 (shown (find_maybe point.turnpoint_name (line.now))).len (omega (arith, long)))
      (record { bytes = v.bytes; lies = v.lies })

  -- after one with nothing in it the n-th label is
  pub labelled : (q : Bor (List ℕ)) → length (r.now) ≡ 0 → Shows labels (nth 0 n (chunks (labels.now))) q →
      ShowsOne line labels (caption_of point n (line.now) (labels.now)) q
  unfolding caption_of pick ◌≤?◌
  labelled q h w =
      rw (lt-leb 1 (shown (find_maybe point.turnpoint_name (line.now))).len (omega (arith, long)))
      (record { bytes = w.bytes; lies = w.lies })

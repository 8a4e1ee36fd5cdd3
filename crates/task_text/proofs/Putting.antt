-- The loop that writes points: what was written, and what is left to write from here, make up the whole.
use Rattle.text.specs.Prelude.{ℕ, zero, suc, ◌+◌, ◌-◌, ◌≤◌, ◌<◌, ◌≡◌, List, [], ◌++◌, length, drop, largest}
use native.Mathlib.Omega.{arith}
use mathlib.Core.Path.{refl, sym, ap, ◌∙◌}
use mathlib.Core.List.{append-nil, append_assoc}
use lib.ListN.{drop_of_length-le}
use Rattle.c_turnpoint_record.specs.declared.CRecordTurnpoint.{CRecordTurnpoint}
use Rattle.part.specs.Part.{part_bytes}
use Rattle.put.specs.Put.{Wrote}
use Rattle.put.proofs.Writing.{then, wrote_nothing}
use Rattle.igc_log.specs.Log.{chunks, read_from, readings}
use Rattle.task_line.specs.Lines.{TaskLine, line_of, task_lines, Sees}
use Rattle.task_line.specs.declared.{Kind.Kind, Seen.Seen}
use Rattle.task_text.specs.Points.{point_text, points_text}

-- ---- what is left to write

-- a line that is no point has no text
pub no_point_text : (labels : List ℕ) (n : ℕ) (k : Kind) (l : List ℕ) →
    ((r : CRecordTurnpoint) → k ≡ Kind.Point r → ⊥) → point_text labels n (line_of k l) ≡ []
unfolding point_text line_of
no_point_text labels n (Kind.Declaration count) l h = refl
no_point_text labels n (Kind.Point r) l h = absurd (h r refl)
no_point_text labels n Kind.Other l h = refl

pub all_texts : (labels : List ℕ) (n k : ℕ) (ls : List TaskLine) → k ≡ 0 → points_text labels n k ls ≡ []
unfolding points_text
all_texts labels n k ls h = rw h

-- past the end there is none
pub no_text : (s : List ℕ) (p : ℕ) (labels : List ℕ) (n k : ℕ) → length s ≤ p →
    points_text labels n k (task_lines (drop p s)) ≡ []
unfolding points_text task_lines readings read_from chunks
no_text s p labels n zero q = refl
no_text s p labels n (suc k) q = rw (drop_of_length-le s q)

-- else the text of the line that is seen here, and then that of the others
a_text_lem : {s : List ℕ} {p : ℕ} {x : Seen} → Sees s p x → p < length s →
    (labels : List ℕ) (n m m' : ℕ) → m ≡ suc m' →
    points_text labels n m (task_lines (drop p s))
    ≡ point_text labels n (line_of x.kind (part_bytes x.line s))
    ++ points_text labels (n + 1) m' (task_lines (drop x.next s))
unfolding points_text
a_text_lem a h labels n m m' z = rw (z, a.first h)

-- ---- what was written

module _ (log labels b₀ : List ℕ) (at from points : ℕ) where
  -- After i points, at the place.
  pub record Putting (b : List ℕ) (end place i : ℕ) : Type 0 where
    pub inside : i ≤ points
    pub text : List ℕ
    pub wrote : Wrote b₀ at text b end
    pub rest : text ++ points_text labels (i + 1) (points - i) (task_lines (drop place log))
        ≡ points_text labels 1 points (task_lines (drop from log))

module _ {log labels : List ℕ} {from points : ℕ} where
  -- before the first
  pub at_start : {b : List ℕ} {at : ℕ} → length b < largest → at ≤ largest →
      Putting log labels b at from points b at from 0
  at_start {b} {at} h k =
      let z : points - 0 ≡ points = omega arith in
      record { inside = omega arith; text = []; wrote = wrote_nothing b at h k; rest = rw z }

  module _ {b₀ b : List ℕ} {at end place i : ℕ} (f : Putting log labels b₀ at from points b end place i) where
    -- one more
    pub next_put : {x : Seen} {l b' : List ℕ} {end' : ℕ} → Sees log place x → i < points → place < length log →
        l ≡ part_bytes x.line log → Wrote b end (point_text labels (i + 1) (line_of x.kind l)) b' end' →
        Putting log labels b₀ at from points b' end' x.next (i + 1)
    next_put {x} {l} a h p v w =
        let z : points - i ≡ suc (points - (i + 1)) = omega arith in
        record {
          inside = omega arith;
          text = f.text ++ point_text labels (i + 1) (line_of x.kind l);
          wrote = then f.wrote w;
          rest = rw (append_assoc, v)
              (sym (ap (λ t. f.text ++ t) (a_text_lem a p labels (i + 1) _ _ z)) ∙ f.rest);
        }

    -- nothing is left
    pub all_put : points_text labels (i + 1) (points - i) (task_lines (drop place log)) ≡ [] →
        Wrote b₀ at (points_text labels 1 points (task_lines (drop from log))) b end
    all_put e = rw (sym f.rest, e, append-nil) f.wrote

-- Lines before the last block go by: a sheet is read alike without them, but for the number of a line.
use Rattle.text.specs.Prelude.{ℕ, ◌+◌, ◌-◌, ◌≤◌, ◌≡◌, Bool, true, false, List, [], ◌∷◌, ◌++◌, length, take, drop, pick}
use Rattle.text.specs.Prelude.{◌=?◌, ◌∧?◌, LF}
use Rattle.text.proofs.Prelude.{arith, refl, sym, ap, ◌∙◌, subst, append_assoc, length-append, first, second, by_test}
use Rattle.text.proofs.Prelude.{never, yes=, no=, is=, holds, fails, both}
use Rattle.text.specs.Spelt.{spelt_from, spelt}
use lib.Seq.{take-append-add, take-append_seam}
use lib.ListN.{take-append-drop}
use Rattle.igc_log.specs.Log.{closed_from, closed}
use Rattle.window.specs.Piece.{whole_length_of, piece_end_of}
use Rattle.window.proofs.Wholes.{whole_closed}
use Rattle.total.specs.Total.{Totals}
use Rattle.block_read.specs.Read.{Read, got, wrong, starts_with}
use Rattle.block_read.specs.Block.{read_all}
use Rattle.block_read.proofs.Leaving.{Leaves, leaves_next, leaves_pick, leaves_got, leaves_wrong, leaves_all}
use Rattle.sheet_read.specs.Sheet.{from_all_of, ends, line_at, Sheet, whole, no_sheet, sheet_of, read_sheet_of}
use Rattle.sheet_file.specs.File.{passing}

-- ---- a line's start

-- words that no LF is in
unfoldable pub in_line : List ℕ → Bool
in_line [] = true
in_line (w ∷ ws) = pick (w =? LF) false (in_line ws)

in_line_lem : {w : ℕ} (ws : List ℕ) → in_line (w ∷ ws) ≡ true → (w ≡ LF → ⊥) × (in_line ws ≡ true)
unfolding in_line pick
in_line_lem {w} ws h = by_test (w =? LF) (λ e. never (rw e at h) refl) (λ e. ((λ q. never (yes= q) e), (rw e at h)))

-- where lines begin with such words does not go by what is behind them
starts_line : (ws : List ℕ) → in_line ws ≡ true → (b : ℕ) (g s : List ℕ) → closed_from b g ≡ true →
    starts_with ws (b ∷ (g ++ s)) ≡ starts_with ws (b ∷ g)
unfolding starts_with closed_from
starts_line [] h b g s c = refl
starts_line (w ∷ ws) h b [] s c =
    let e : (w =? b) ≡ false = no= (λ q. (in_line_lem ws h).0 (q ∙ is= c)) in
    fails _ e ∙ sym (fails _ e)
starts_line (w ∷ []) h b (x ∷ g) s c = refl
starts_line (w ∷ v ∷ ws) h b (x ∷ g) s c =
    ap (λ t. (w =? b) ∧? t) (starts_line (v ∷ ws) (in_line_lem (v ∷ ws) h).1 x g s c)

all_in_line : in_line (spelt "all ") ≡ true
unfolding in_line spelt spelt_from pick ◌=?◌
all_in_line = refl

-- ---- lines that go by

no_cons : {b : ℕ} {s : List ℕ} → b ∷ s ≡ [] → ⊥
no_cons h = absurd (omega (arith, ap length h))

-- before bytes of which no line begins with `all `, whatever is behind
from_behind : (start : Bool) (b : ℕ) (g s : List ℕ) → closed_from b g ≡ true → from_all_of start (b ∷ g) ≡ [] →
    from_all_of start (b ∷ (g ++ s)) ≡ from_all_of true s
unfolding from_all_of closed_from
from_behind start b [] s c h =
    by_test (start ∧? starts_with (spelt "all ") (b ∷ []))
    (λ e. absurd (no_cons (first _ e refl ∙ h)))
    (λ e. sym (second _ (ap (λ t. start ∧? t) (starts_line (spelt "all ") all_in_line b [] s c) ∙ e)
    (ap (λ t. from_all_of t s) (sym c))))
from_behind start b (x ∷ g) s c h =
    by_test (start ∧? starts_with (spelt "all ") (b ∷ x ∷ g))
    (λ e. absurd (no_cons (first _ e refl ∙ h)))
    (λ e. sym (second _ (ap (λ t. start ∧? t) (starts_line (spelt "all ") all_in_line b (x ∷ g) s c) ∙ e)
    (sym (from_behind (b =? LF) x g s c (second _ e refl ∙ h)))))

pub all_behind : (g s : List ℕ) → closed g ≡ true → from_all_of true g ≡ [] → from_all_of true (g ++ s) ≡ from_all_of true s
unfolding closed
all_behind [] s c h = refl
all_behind (b ∷ g) s c h = from_behind true b g s c h

from_le : (start : Bool) (s : List ℕ) → length (from_all_of start s) ≤ length s
unfolding from_all_of pick
from_le start [] = omega arith
from_le start (b ∷ s) =
    by_test (start ∧? starts_with (spelt "all ") (b ∷ s))
    (λ e. rw e (omega arith))
    (λ e. rw e (omega (arith, from_le (b =? LF) s)))

-- ---- the number of a line

pub ends_append : (s t : List ℕ) → ends (s ++ t) ≡ ends s + ends t
unfolding ends
ends_append [] t = omega arith
ends_append (b ∷ s) t = omega (arith, ends_append s t)

line_behind : (g s r : List ℕ) → length r ≤ length s → line_at (g ++ s) r ≡ ends g + line_at s r
unfolding line_at
line_behind g s r h =
    let e : length (g ++ s) - length r ≡ length g + (length s - length r) = omega (arith, length-append g s) in
    let t = ends_append g (take (length s - length r) s) in
    rw (e, take-append-add g s (length s - length r)) (omega (arith, t))

-- ---- a sheet

-- the same sheet with k lines before it
abbrev pub later : ℕ → Sheet → Sheet
later k (whole t) = whole t
later k (no_sheet n) = no_sheet (k + n)

sheet_behind : (g s : List ℕ) (x : Read Totals) → Leaves (length s) x →
    sheet_of (g ++ s) x ≡ later (ends g) (sheet_of s x)
unfolding sheet_of
sheet_behind g s (got t r) h = refl
sheet_behind g s (wrong r) h = ap no_sheet (line_behind g s r h.most)

pub read_behind : (g s : List ℕ) → closed g ≡ true → from_all_of true g ≡ [] →
    read_sheet_of (g ++ s) ≡ later (ends g) (read_sheet_of s)
unfolding read_sheet_of
read_behind g s c h =
    rw (all_behind g s c h)
    (sheet_behind g s _
    (leaves_next (read_all (from_all_of true s)) _ (leaves_all _ (from_le true s)) (λ t r k.
    leaves_pick (length r =? 0) (leaves_got t r k) (leaves_wrong r k))))

-- ---- the lines of a window that go by

-- what stands before the first line that begins with `all `
unfoldable ahead : Bool → List ℕ → List ℕ
ahead start [] = []
ahead start (b ∷ s) = pick (start ∧? starts_with (spelt "all ") (b ∷ s)) [] (b ∷ ahead (b =? LF) s)

ahead_from : (start : Bool) (s : List ℕ) → ahead start s ++ from_all_of start s ≡ s
unfolding ahead from_all_of pick
ahead_from start [] = refl
ahead_from start (b ∷ s) =
    by_test (start ∧? starts_with (spelt "all ") (b ∷ s))
    (λ e. rw e)
    (λ e. rw e (ap (λ t. b ∷ t) (ahead_from (b =? LF) s)))

starts_more : (ws s t : List ℕ) → starts_with ws s ≡ true → starts_with ws (s ++ t) ≡ true
unfolding starts_with
starts_more [] s t h = refl
starts_more (w ∷ ws) [] t h = never h refl
starts_more (w ∷ ws) (b ∷ s) t h = holds (both h).0 (starts_more ws s t (both h).1)

-- no line of them begins so
ahead_none : (start : Bool) (s : List ℕ) → from_all_of start (ahead start s) ≡ []
unfolding ahead from_all_of pick
ahead_none start [] = refl
ahead_none start (b ∷ s) =
    by_test (start ∧? starts_with (spelt "all ") (b ∷ s))
    (λ e. rw e)
    (λ e. by_test (start ∧? starts_with (spelt "all ") (b ∷ ahead (b =? LF) s))
    (λ t. let more = starts_more (spelt "all ") (b ∷ ahead (b =? LF) s) (from_all_of (b =? LF) s) (both t).1 in
    never (holds (both t).0 (subst (λ x. starts_with (spelt "all ") (b ∷ x) ≡ true) (ahead_from (b =? LF) s) more)) e)
    (λ t. rw (e, t) (ahead_none (b =? LF) s)))

-- they are whole lines
ahead_closed_from : (b : ℕ) (s : List ℕ) → closed_from b s ≡ true → closed_from b (ahead (b =? LF) s) ≡ true
unfolding ahead closed_from pick
ahead_closed_from b [] h = h
ahead_closed_from b (x ∷ s) h =
    by_test ((b =? LF) ∧? starts_with (spelt "all ") (x ∷ s))
    (λ e. rw e (both e).0)
    (λ e. rw e (ahead_closed_from x s h))

ahead_closed : (s : List ℕ) → closed s ≡ true → closed (ahead true s) ≡ true
unfolding ahead closed pick
ahead_closed [] h = refl
ahead_closed (b ∷ s) h =
    by_test (true ∧? starts_with (spelt "all ") (b ∷ s))
    (λ e. rw e)
    (λ e. rw e (ahead_closed_from b s h))

-- the first so many bytes of the window
passing_ahead : (w : List ℕ) → take (passing w) w ≡ ahead true (take (whole_length_of w) w)
unfolding passing piece_end_of
passing_ahead w =
    let x = take (whole_length_of w) w in
    let is = ahead_from true x in
    let n : length x - length (from_all_of true x) ≡ length (ahead true x) =
    omega (arith, ap length is, length-append (ahead true x) (from_all_of true x)) in
    let rest = from_all_of true x ++ drop (whole_length_of w) w in
    let parts : ahead true x ++ rest ≡ w =
    sym (append_assoc (ahead true x) (from_all_of true x) (drop (whole_length_of w) w))
    ∙ ap (λ t. t ++ drop (whole_length_of w) w) is
    ∙ take-append-drop (whole_length_of w) w in
    rw n (ap (take (length (ahead true x))) (sym parts) ∙ take-append_seam (ahead true x) rest)

pub passing_none : (w : List ℕ) → from_all_of true (take (passing w) w) ≡ []
passing_none w = rw (passing_ahead w) (ahead_none true _)

pub passing_closed : (w : List ℕ) → closed (take (passing w) w) ≡ true
passing_closed w = rw (passing_ahead w) (ahead_closed _ (whole_closed w))

-- The lines of a window, some of them at a time, and from read to read.
use Rattle.std.specs.Prelude.{Option, None, is_none, Result, Ok, Err, is_err}
use Rattle.text.specs.Prelude.{ℕ, ◌+◌, ◌-◌, ◌≤◌, ◌<◌, ◌≡◌, Bool, true, false, List, [], ◌++◌, length, take, drop}
use Rattle.text.proofs.Prelude.{arith, refl, sym, ap, ◌∙◌, append_assoc, length-drop, length-take-le}
use Rattle.text.proofs.Prelude.{sets, take_all, never}
use native.Mathlib.Nat.{zero-add}
use lib.ListN.{take-append-drop}
use lib.Seq.{take-add, take-take, drop-append-le, sets-eq}
use Rattle.igc_log.specs.Fold.{Carried, fed}
use Rattle.igc_log.proofs.Chunks.{closed_none, closed_append}
use Rattle.igc_log.proofs.Pieces.{fed_none, fed_append}
use Rattle.igc_log.proofs.Reached.{Reached}
use Rattle.window.specs.Piece.{piece_end_of}
use Rattle.window.proofs.Wholes.{whole_closed, whole_le}
use Rattle.files.specs.Outcome.{Outcome}
use Rattle.files.specs.declared.{input.Came.Came, input.NotRead.NotRead}
use Rattle.watch_text.specs.Watch.{Running, watcher}
use Rattle.watch_text.specs.Feed.{Nothing, no_step, view, Watches}
use Rattle.watch_text.specs.declared.{Watch.Watch, Watched.Watched}
use Rattle.watch_text.proofs.Feeding.{called}
use Rattle.watches.specs.Watching.{Written, Goes, Moves, Finished, Turned, stopped}
use Rattle.watches.specs.declared.{Went.Went, Turn.Turn}

-- Up to a place of the lines, w made this.
abbrev pub Writing : Watch → List ℕ → ℕ → Watch → Type 0
Writing w lines from w' = Reached watcher no_step (view w) lines from (view w')

module _ {w w' : Watch} {lines : List ℕ} {from : ℕ} (f : Writing w lines from w') where
  -- it went on to the end
  pub went_on : {o : Outcome} → length lines ≤ from →
      Written w lines (record { watch = w'; taken = from; outcome = o })
  went_on h = record {
    inside = f.inside;
    whole = f.whole;
    carried = f.made;
    all = λ d. omega (arith, f.inside);
  }

  -- it stopped, for a reason
  pub failed : {o : Outcome} → is_err o ≡ true → Written w lines (record { watch = w'; taken = from; outcome = o })
  failed e = record { inside = f.inside; whole = f.whole; carried = f.made; all = λ d. never e d }

module _ (w w' : Watch) {lines : List ℕ} {from : ℕ} (f : Writing w lines from w') (b b' : List ℕ) (r : Watched)
    (i : from < length lines) (k : Watches w' (take (length lines - from) (drop from lines)) b b' r) where
  -- some lines more were put, and their text has room
  pub put_more : Writing w lines (from + r.taken) r.watch × (r.end ≤ length b)
  put_more =
      let d = length-drop from lines in
      let e : take (length lines - from) (drop from lines) ≡ drop from lines =
      take_all (length lines - from) (drop from lines) (omega arith) in
      let g = called w' (drop from lines) b b' r (rw e at k) in
      let t = take-add from r.taken lines in
      let c = f.whole i in
      let all = fed_append watcher no_step (view w) (take from lines) (take r.taken (drop from lines)) c in
      let more : Writing w lines (from + r.taken) r.watch = record {
        inside = omega (arith, g.0.inside);
        whole = λ h. rw t (closed_append _ _ c (g.0.whole (omega arith)));
        made = g.0.made ∙ rw (f.made, t) (sym all);
      } in
      (more, g.2)

-- ---- from read to read

-- nothing went
pub goes_nowhere : {c : Carried Running Nothing} {more : Bool} → Goes c c more
goes_nowhere {c} = record { bytes = []; made = sym (fed_none watcher no_step c); whole = λ h. closed_none }

-- what went, where nothing is to follow
pub goes_last_of : {c c' : Carried Running Nothing} {more : Bool} → Goes c c' more → Goes c c' false
goes_last_of f = record { bytes = f.bytes; made = f.made; whole = λ h. never h refl }

-- and where a read is to follow
pub goes_more : {c c' : Carried Running Nothing} {e : Option Outcome} → e ≡ None → Goes c c' (is_none e) →
    Goes c c' true
goes_more h f = rw h at f

-- some bytes went, and then others
pub goes_on : {c₀ c c' : Carried Running Nothing} {more : Bool} → Goes c₀ c true → Goes c c' more → Goes c₀ c' more
goes_on {c₀} f g =
    let w = f.whole refl in
    record {
      bytes = f.bytes ++ g.bytes;
      made = g.made ∙ rw f.made (sym (fed_append watcher no_step c₀ f.bytes g.bytes w));
      whole = λ h. closed_append _ _ w (g.whole h);
    }

module _ {w : Watch} {lines : List ℕ} {r : Went} (f : Written w lines r) where
  -- what went of the last lines
  pub goes_last : Goes (view w) (view r.watch) false
  goes_last = record { bytes = take r.taken lines; made = f.carried; whole = λ h. never h refl }

  -- where nothing went wrong that is all of them
  all_made : is_err r.outcome ≡ false → view r.watch ≡ fed watcher no_step (view w) lines
  all_made h = f.carried ∙ ap (fed watcher no_step (view w)) (take_all r.taken lines (omega (arith, f.all h)))

  -- the end
  pub finished : {t : Turn} → t ≡ stopped r.watch r.outcome → Finished w lines t
  unfolding stopped
  finished e = rw e (record { goes = goes_last; outcome = r.outcome; last = refl; made = all_made })

-- ---- the bytes at the window's front

-- what is written over the first n bytes of a window, as a part of it, is written over the window
front_part : (win t : List ℕ) (n : ℕ) → n ≤ length win → length t ≤ n →
    sets (take n win) 0 t ++ drop n win ≡ sets win 0 t
front_part win t n h k =
    let l = length-take-le n win h in
    let part : sets (take n win) 0 t ≡ t ++ drop (length t) (take n win) =
    sets-eq t (take n win) 0 (omega (arith, l)) ∙ rw zero-add in
    let all : sets win 0 t ≡ t ++ drop (length t) win = sets-eq t win 0 (omega arith) ∙ rw zero-add in
    let behind : drop (length t) (take n win) ++ drop n win ≡ drop (length t) win =
    sym (drop-append-le (length t) (take n win) (drop n win) (omega (arith, l)))
    ∙ ap (drop (length t)) (take-append-drop n win) in
    rw (part, all) (append_assoc t (drop (length t) (take n win)) (drop n win) ∙ ap (λ z. t ++ z) behind)

-- all their whole lines went, and the others were kept
pub moved : {w : Watch} {win win' : List ℕ} {r : Went} {n whole fill : ℕ} → n ≤ length win →
    whole ≡ piece_end_of false (take n win) → Written w (take whole win) r → is_err r.outcome ≡ false →
    fill ≡ length (take n win) - whole → win' ≡ sets (take n win) 0 (drop whole (take n win)) ++ drop n win →
    Moves w win win' (take n win) (record { watch = r.watch; fill = fill; ended = None })
unfolding piece_end_of
moved {w} {win} {win'} {r} {n} {whole} inside e f h k l =
    let front = take n win in
    let long = length-take-le n win inside in
    let le : whole ≤ n = omega (arith, e, whole_le front) in
    let m = all_made (rw (sym (take-take whole n win le)) at f) h in
    let rest : win' ≡ sets win 0 (drop whole front) =
    l ∙ front_part win (drop whole front) n inside (omega (arith, length-drop whole front)) in (
      record { bytes = take (piece_end_of false front) front; made = rw e at m; whole = λ _. whole_closed front },
      λ _. record { made = rw e at m; fill = rw e at k; rest = rw e at rest },
    )

-- a turn, by what came
pub goes_turned : (c : Result Came NotRead) (w : Watch) (win : List ℕ) (n : ℕ) (win' : List ℕ) (r : Turn) →
    Turned c w win n win' r → Goes (view w) (view r.watch) (is_none r.ended)
unfolding stopped
goes_turned (Ok (Came.Bytes k)) w win n win' r t = t.0
goes_turned (Ok Came.Ended) w win n win' r t = rw t.last t.goes
goes_turned (Ok Came.NoRoom) w win n win' r t = rw t goes_nowhere
goes_turned (Err e) w win n win' r t = rw t goes_nowhere

-- The lines of a window, some of them at a time.
use Rattle.std.specs.Prelude.{Option, Some, None, is_none, Result, Ok, Err, is_err}
use Rattle.text.specs.Prelude.{ℕ, ◌+◌, ◌-◌, ◌≤◌, ◌<◌, ◌≡◌, Bool, true, false, List, [], ◌++◌, length, take, drop}
use Rattle.text.proofs.Prelude.{arith, refl, sym, ap, ◌∙◌, length-drop, sets, take_all, never}
use lib.Seq.{take-add}
use Rattle.igc_log.proofs.Chunks.{closed_none, closed_append}
use Rattle.igc_log.specs.Fold.{fed}
use Rattle.igc_log.proofs.Pieces.{fed_none, fed_append}
use Rattle.igc_log.proofs.Reached.{Reached}
use Rattle.window.specs.Piece.{piece_end_of}
use Rattle.window.proofs.Wholes.{whole_closed}
use Rattle.walk.specs.Readings.{reader}
use Rattle.trailer_text.specs.Trailer.{count_step}
use Rattle.products.specs.Feed.{view, Feeds}
use Rattle.products.specs.declared.{Product.Product, Carried.Carried, Fed.Fed}
use Rattle.products.proofs.Feeding.{called}
use Rattle.files.specs.Outcome.{Outcome}
use Rattle.files.specs.declared.{input.Filled.Filled, input.NotRead.NotRead}
use Rattle.stream.specs.Stream.{Streamed, Goes, Drains, Finished, Turned}
use Rattle.stream.specs.declared.{Went.Went, Turn.Turn}

-- Up to a place of the lines, c made this.
abbrev pub Streaming : Carried → List ℕ → ℕ → Carried → Type 0
Streaming c lines from c' = Reached reader count_step (view c) lines from (view c')

module _ {c c' : Carried} {lines : List ℕ} {from : ℕ} (f : Streaming c lines from c') where
  -- it went on to the end
  pub went_on : {o : Outcome} → length lines ≤ from →
      Streamed c lines (record { carried = c'; taken = from; outcome = o })
  went_on h = record {
    inside = f.inside;
    whole = f.whole;
    carried = f.made;
    all = λ d. omega (arith, f.inside);
  }

  -- it stopped, for a reason
  pub stopped : {o : Outcome} → is_err o ≡ true →
      Streamed c lines (record { carried = c'; taken = from; outcome = o })
  stopped e = record { inside = f.inside; whole = f.whole; carried = f.made; all = λ d. never e d }

  module _ (p : Product) (names b b' : List ℕ) (r : Fed) (i : from < length lines)
      (k : Feeds p names c' (take (length lines - from) (drop from lines)) b b' r) where
    -- some lines more were put, and their text has room
    pub put_more : Streaming c lines (from + r.taken) r.carried × (r.end ≤ length b)
    put_more =
        let d = length-drop from lines in
        let e : take (length lines - from) (drop from lines) ≡ drop from lines =
        take_all (length lines - from) (drop from lines) (omega arith) in
        let g = called p names c' (drop from lines) b b' r (rw e at k) in
        let t = take-add from r.taken lines in
        let w = f.whole i in
        let all = fed_append reader count_step (view c) (take from lines) (take r.taken (drop from lines)) w in
        let more : Streaming c lines (from + r.taken) r.carried = record {
          inside = omega (arith, g.0.inside);
          whole = λ h. rw t (closed_append _ _ w (g.0.whole (omega arith)));
          made = g.0.made ∙ rw (f.made, t) (sym all);
        } in
        (more, g.2)

-- ---- from read to read

-- nothing went
pub goes_nowhere : {c : Carried} {more : Bool} → Goes c c more
goes_nowhere {c} = record { bytes = []; made = sym (fed_none reader count_step (view c)); whole = λ h. closed_none }

-- what went, where nothing is to follow
pub goes_last_of : {c c' : Carried} {more : Bool} → Goes c c' more → Goes c c' false
goes_last_of f = record { bytes = f.bytes; made = f.made; whole = λ h. never h refl }

-- and where a read is to follow
pub goes_more : {c c' : Carried} {e : Option Outcome} → e ≡ None → Goes c c' (is_none e) → Goes c c' true
goes_more h f = rw h at f

-- some bytes went, and then others
pub goes_on : {c₀ c c' : Carried} {more : Bool} → Goes c₀ c true → Goes c c' more → Goes c₀ c' more
goes_on {c₀} f g =
    let w = f.whole refl in
    record {
      bytes = f.bytes ++ g.bytes;
      made = g.made ∙ rw f.made (sym (fed_append reader count_step (view c₀) f.bytes g.bytes w));
      whole = λ h. closed_append _ _ w (g.whole h);
    }

module _ {c : Carried} {lines : List ℕ} {w : Went} (f : Streamed c lines w) where
  -- what went of the last lines
  pub goes_last : Goes c w.carried false
  goes_last = record { bytes = take w.taken lines; made = f.carried; whole = λ h. never h refl }

  -- where nothing went wrong that is all of them
  pub all_made : is_err w.outcome ≡ false → view w.carried ≡ fed reader count_step (view c) lines
  all_made h = f.carried ∙ ap (fed reader count_step (view c)) (take_all w.taken lines (omega (arith, f.all h)))

  -- the end, with an outcome that is good only if all of them went
  pub finished : {o : Outcome} {r : Turn} → (is_err o ≡ false → is_err w.outcome ≡ false) →
      r ≡ record { carried = w.carried; fill = 0; ended = Some o } →
      Goes c r.carried (is_none r.ended) × Finished c lines r
  finished {o} h e = rw e (goes_last, record { outcome = o; last = refl; made = λ d. all_made (h d) })

-- a full window: all its whole lines went, and the rest was kept
pub drained : {c : Carried} {win win' : List ℕ} {w : Went} {n fill : ℕ} → n ≡ piece_end_of false win →
    Streamed c (take (n - 0) win) w → is_err w.outcome ≡ false → fill ≡ length win - n →
    win' ≡ sets win 0 (drop n win) →
    Drains c win win' (record { carried = w.carried; fill = fill; ended = None })
unfolding piece_end_of
drained {c} {win} {w} {n} e f h k l =
    let z : n - 0 ≡ piece_end_of false win = omega (arith, e) in
    let m : view w.carried ≡ fed reader count_step (view c) (take (piece_end_of false win) win) =
    all_made (rw z at f) h in (
      record { bytes = take (piece_end_of false win) win; made = m; whole = λ _. whole_closed win },
      λ _. record { made = m; fill = rw e at k; rest = rw e at l },
    )

-- a turn, however far the window was filled
pub goes_turned : (f : Result Filled NotRead) (c : Carried) (win win' : List ℕ) (r : Turn) → Turned f c win win' r →
    Goes c r.carried (is_none r.ended)
goes_turned (Ok (Filled.Ended n)) c win win' r t = t.0
goes_turned (Ok Filled.Full) c win win' r t = t.0
goes_turned (Err e) c win win' r t = rw t goes_nowhere

use Rattle.std.specs.Prelude.{is_none}
use Rattle.text.specs.Prelude.{◌-◌, ◌≤◌, ◌≡◌, length}
use Rattle.text.proofs.Prelude.{rules, arith, ap, ◌∙◌, length-take}
use native.Mathlib.Nat.{sub-zero}
use Rattle.window.specs.Piece.{piece_end_of}
use Rattle.window.proofs.Wholes.{whole_le}
use Rattle.sheet_file.specs.File.{Onward, stopped, passing, passed, window_after}
use Rattle.sheet_file.proofs.Going.{unmoved, found_is, none_pass, some_pass}
use Rattle.sheet_file.proofs.pass.Goals as goal
use Rattle.sheet_file.proofs.pass.Goals.{After-piece_end-whole, After-find_all-gone}

-- the whole lines are inside
inside : (c : After-piece_end-whole) → c.piece_end-whole.result ≤ length c.args.win.now
unfolding piece_end_of
inside c = rw c.piece_end-whole.ensures (whole_le _)

-- so much goes by
found : (c : After-find_all-gone) → c.find_all-gone.result ≡ passing c.args.win.now
found c =
    let f = rw sub-zero at c.find_all-gone.ensures.text_value in
    let g = rw sub-zero at c.find_all-gone.ensures.upper_bound in
    found_is _ c.piece_end-whole.ensures f g

-- and it is inside
gone : (c : After-find_all-gone) → c.find_all-gone.result ≤ length c.args.win.now
gone c = omega (arith, c.find_all-gone.ensures.upper_bound, length-take (c.piece_end-whole.result - 0) c.args.win.now)

pub slice_bounds-find_all-end : goal.slice_bounds-find_all-end
slice_bounds-find_all-end c = let h = inside (search rules) in search rules

pub returns-then-gone-eq0 : goal.returns-then-gone-eq0
unfolding stopped
returns-then-gone-eq0 c =
    let e = rw c.count_on.ensures at c.stop.ensures in
    record {
      result_value = e ∙ none_pass _ _ (found (search rules)) c.if-gone-eq0.true;
      win_after = unmoved _ _ (ap (λ (t : Onward). is_none t.ended) c.stop.ensures);
    }

pub slice_bounds-count_ends-end : goal.slice_bounds-count_ends-end
slice_bounds-count_ends-end c = let h = gone (search rules) in search rules

pub returns : goal.returns
unfolding passed window_after
returns c =
    let keep = c.keep_rest-fill in
    record {
      result_value =
          rw (c.count_on-2.ensures, c.count_ends-lines.ensures, keep.ensures.value, sub-zero)
          (some_pass _ _ (found (search rules)) c.if-gone-eq0.false);
      win_after = rw (← found (search rules)) keep.ensures.win_after;
    }

-- Demand 3 holds, for every reader of lines and every letter's table.
use Rattle.text.specs.Prelude.{ℕ, ◌+◌, ◌≡◌, Bool, true, false, not, List, [], ◌∷◌, ◌++◌, length, take, drop, pick}
use Rattle.text.specs.Prelude.{◌∨?◌}
use Rattle.text.proofs.Prelude.{arith, refl, sym, ◌∙◌, append_assoc, length-append, take_at, second, neither, never}
use Rattle.text.proofs.Prelude.{by_test}
use native.Mathlib.Nat.{zero-add}
use lib.Seq.{drop_at}
use borrow.Author.Tests.{not-true}
use Rattle.igc_log.specs.Line.{line_text}
use Rattle.igc_log.specs.Log.{chunks, closed, Reader, LineRead, read_from, readings, Letter}
use Rattle.igc_log.specs.Demand.{Moved, Each, some, Kept, Leaves, Turns, Demand3}
use Rattle.igc_log.specs.Fold.{Carried, fresh, read_on, past_line, past_lines, fed}
use Rattle.igc_log.proofs.Chunks.{chunks_append, closed_append}
use Rattle.igc_log.proofs.Pieces.{all_read, read_append, fed_append, number_is, place_is, length_readings}

module _ {A T : Type 0} (R : Reader A T) where
  -- ---- a log with a run of whole lines behind whole lines

  -- nothing is made of the readings: what counts is what is carried
  abbrev nothing_made : Unit {0} → LineRead A T → Unit {0}
  nothing_made a x = tt

  -- what is carried past some bytes of a fresh walk
  abbrev carried_past : List ℕ → Carried T (Unit {0})
  carried_past s = fed R nothing_made (fresh R tt) s

  -- whole lines in front of a log are read as by themselves, and what follows from where they left off
  readings_append : (s t : List ℕ) → closed s ≡ true → readings R (s ++ t) ≡ readings R s ++ read_on R (carried_past s) t
  readings_append s t h = sym (all_read R nothing_made tt (s ++ t)) ∙ read_append R nothing_made (fresh R tt) s t h
      ∙ rw (all_read R nothing_made tt s)

  before_run : (pre t : List ℕ) → closed pre ≡ true →
      take (length (chunks pre)) (readings R (pre ++ t)) ≡ readings R pre
  before_run pre t h = rw (readings_append pre t h) (take_at (readings R pre) _ _ (length_readings R pre))

  after_run : (pre run post : List ℕ) → closed pre ≡ true → closed run ≡ true →
      drop (length (chunks pre) + length (chunks run)) (readings R (pre ++ (run ++ post))) ≡ read_on R
      (carried_past (pre ++ run)) post
  after_run pre run post p r =
      let l : length (readings R (pre ++ run)) ≡ length (chunks pre) + length (chunks run) =
      length_readings R (pre ++ run) ∙ rw (chunks_append pre run p, length-append) in
      rw (sym (append_assoc pre run post), readings_append (pre ++ run) post (closed_append pre run p r))
      (drop_at (readings R (pre ++ run)) _ _ l)

  run_number : (pre run : List ℕ) → closed pre ≡ true →
      (carried_past (pre ++ run)).number ≡ length (chunks pre) + length (chunks run)
  run_number pre run p = number_is R nothing_made (fresh R tt) (pre ++ run)
      ∙ rw (chunks_append pre run p, length-append, zero-add)

  run_place : (pre run : List ℕ) → (carried_past (pre ++ run)).place ≡ length pre + length run
  run_place pre run = place_is R nothing_made (fresh R tt) (pre ++ run) ∙ rw (length-append, zero-add)

  -- ---- the same lines read from two starts

  readings_moved : (n₁ n₂ p₁ p₂ n m p q : ℕ) (t u : T) (cs : List (List ℕ)) → n + n₂ ≡ m + n₁ → p + p₂ ≡ q + p₁ →
      Each R (Moved R n₁ n₂ p₁ p₂) (read_from R n p t cs) (read_from R m q u cs)
  unfolding read_from
  readings_moved n₁ n₂ p₁ p₂ n m p q t u [] hn hp = tt
  readings_moved n₁ n₂ p₁ p₂ n m p q t u (c ∷ cs) hn hp = (
    record { number = omega arith; place = hp; line = refl; answer = refl },
    readings_moved n₁ n₂ p₁ p₂ (n + 1) (m + 1) (p + length c) (q + length c) _ _ cs (omega arith) (omega arith),
  )

  module _ {U : Type 0} (L : Letter R U) where
    -- one line keeps what agreed, and makes agree where it begins with the letter
    line_agrees : (same : Bool) (p q : ℕ) (t u : T) (l : List ℕ) → (same ≡ true → L.view t ≡ L.view u) →
        (same ∨? L.begins l) ≡ true → L.view (R.after p t l) ≡ L.view (R.after q u l)
    unfolding pick ◌∨?◌
    line_agrees same p q t u l h e =
        by_test (L.begins l)
        (λ b. rw (L.law p t l, L.law q u l, b))
        (λ b. rw (L.law p t l, L.law q u l, b) (by_test same h (λ s. never (rw (s, b) at e) refl)))

    lines_agree : (same : Bool) (n m p q : ℕ) (t u : T) (cs : List (List ℕ)) → (same ≡ true → L.view t ≡ L.view u) →
        Kept R L same (read_from R n p t cs) (read_from R m q u cs)
    unfolding read_from
    lines_agree same n m p q t u [] h = tt
    lines_agree same n m p q t u (c ∷ cs) h =
        let k = line_agrees same p q t u (line_text c) h in
        (k, lines_agree (same ∨? L.begins (line_text c)) (n + 1) (m + 1) (p + length c) (q + length c) _ _ cs k)

    -- lines that do not begin with the letter leave its table
    others_leave : (c : Carried T (Unit {0})) (cs : List (List ℕ)) → some R L cs ≡ false →
        L.view (past_lines R nothing_made c cs).held ≡ L.view c.held
    unfolding past_lines past_line some
    others_leave c [] e = refl
    others_leave c (k ∷ ks) e =
        let n = neither e in
        others_leave (past_line R nothing_made c (line_text k) (length k)) ks n.1 ∙ L.law c.place c.held (line_text k) ∙ sym (second _ n.0 refl)

    leave_run : (pre run : List ℕ) → closed pre ≡ true → some R L (chunks run) ≡ false →
        L.view (carried_past (pre ++ run)).held ≡ L.view (carried_past pre).held
    unfolding fed
    leave_run pre run p e = rw (fed_append R nothing_made (fresh R tt) pre run p)
        (others_leave (carried_past pre) (chunks run) e)

    leave_both : (pre old new : List ℕ) → closed pre ≡ true →
        not (some R L (chunks new) ∨? some R L (chunks old)) ≡ true →
        L.view (carried_past (pre ++ new)).held ≡ L.view (carried_past (pre ++ old)).held
    leave_both pre old new p e = let n = neither (not-true _ e) in leave_run pre new p n.0
        ∙ sym (leave_run pre old p n.1)

  -- ---- lines of the letter that leave one and the same

  module _ {U : Type 0} (L : Letter R U) (u : U) where
    leaves_append : (cs ds : List (List ℕ)) → Leaves R L u cs → Leaves R L u ds → Leaves R L u (cs ++ ds)
    leaves_append [] ds h k = k
    leaves_append (c ∷ cs) ds h k = (h.0, leaves_append cs ds h.1 k)

    -- one line: it turns to u where it begins with the letter, and stays what it was else
    line_turns : (seen : Bool) (p : ℕ) (t : T) (l : List ℕ) → L.view t ≡ pick seen u (L.view R.start) →
        (L.begins l ≡ true → L.leaves l ≡ u) →
        L.view (R.after p t l) ≡ pick (seen ∨? L.begins l) u (L.view R.start)
    unfolding pick ◌∨?◌
    line_turns true p t l e h = L.law p t l ∙ by_test (L.begins l) (λ b. rw b (h b)) (λ b. rw b e)
    line_turns false p t l e h = L.law p t l ∙ by_test (L.begins l) (λ b. rw b (h b)) (λ b. rw b e)

    lines_turn : (seen : Bool) (n p : ℕ) (t : T) (cs : List (List ℕ)) →
        L.view t ≡ pick seen u (L.view R.start) → Leaves R L u cs → Turns R L u seen (read_from R n p t cs)
    unfolding read_from
    lines_turn seen n p t [] e h = tt
    lines_turn seen n p t (c ∷ cs) e h =
        let l = line_text c in
        let k = line_turns seen p t l e h.0 in
        (k, lines_turn (seen ∨? L.begins l) (n + 1) (p + length c) (R.after p t l) cs k h.1)

    log_turns : (pre run post : List ℕ) → closed pre ≡ true → closed run ≡ true →
        Leaves R L u (chunks pre) → Leaves R L u (chunks run) → Leaves R L u (chunks post) →
        Turns R L u false (readings R (pre ++ (run ++ post)))
    unfolding readings pick
    log_turns pre run post p r a h b =
        let whole = leaves_append (chunks pre) (chunks run ++ chunks post) a
        (leaves_append (chunks run) (chunks post) h b) in
        rw (chunks_append pre (run ++ post) p, chunks_append run post r)
        (lines_turn false 0 0 R.start (chunks pre ++ (chunks run ++ chunks post)) refl whole)

  -- ---- the demand

  pub demand_3 : Demand3 R
  unfolding read_on
  demand_3 pre old new post p o n =
      let after-new = after_run pre new post p n in
      let after-old = after_run pre old post p o in
      record {
        before = before_run pre (new ++ post) p ∙ sym (before_run pre (old ++ post) p);
        later =
            rw (after-new, after-old)
            (readings_moved (length (chunks new)) (length (chunks old)) (length new)
            (length old) _ _ _ _ _ _ (chunks post)
            (omega (arith, run_number pre new p, run_number pre old p))
            (omega (arith, run_place pre new, run_place pre old)));
        tables = λ L.
            rw (after-new, after-old)
            (lines_agree L (not (some R L (chunks new) ∨? some R L (chunks old))) _ _ _ _ _ _ (chunks post)
            (leave_both L pre old new p));
        removed = λ L u. log_turns L u pre new post p n;
      }

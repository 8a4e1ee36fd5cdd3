-- What the verdict says.
use Rattle.text.specs.Prelude.{ℕ, zero, suc, ◌+◌, ◌≤◌, ◌<◌, max, ◌≡◌, Bool, true, false, List, [], ◌∷◌, ◌++◌, length}
use Rattle.text.specs.Prelude.{◌-◌, take, drop, pick, ◌≤?◌, ◌=?◌, ◌∨?◌}
use Rattle.text.proofs.Prelude.{arith, refl, sym, ap, ◌∙◌, first, second, take_all, no=, is≤, isnt≤, and, by_test}
use Rattle.text.proofs.Prelude.{never}
use native.Mathlib.Nat.{add-zero}
use lib.Seq.{take-add}
use Rattle.igc_log.specs.Fold.{over}
use Rattle.walk.specs.Readings.{LineReading}
use Rattle.claim_line.specs.Asked.{asked_of}
use Rattle.claim_line.specs.declared.Asked.{Asked}
use Rattle.claim.specs.Rules.{is_none, holds, breaks}
use Rattle.claim.specs.Claim.{all_hold, first_broken, least_not, failing_line, claim_of}
use Rattle.claim.specs.Step.{is_yes, fresh, line_verdict_of, passed, failed, judged, claim_step, verdict_at_end}
use Rattle.claim.specs.Laws.{order_of, NamesFirst, Says}
use Rattle.claim.specs.declared.{verdict.Rule.Rule, verdict.Verdict.Verdict, Sofar.Sofar}
use Rattle.claim.proofs.Deciding.{holds_all, all_holds, decides}
use Rattle.claim.proofs.Stepping.{no_stays_over}
use Rattle.claim.proofs.Tests.{∨?-true, broken_here}
use Rattle.claim.proofs.Lines.{one_more_line}

-- ---- the least number for which a test fails

module _ (t : ℕ → Bool) where
  least_from : (k n : ℕ) → k ≤ least_not t k n
  unfolding least_not pick
  least_from k zero = omega arith
  least_from k (suc n) =
      by_test (t k) (λ e. rw e (omega (arith, least_from (k + 1) n))) (λ e. rw e (omega arith))

  least_before : (k n j : ℕ) → k ≤ j → j < least_not t k n → t j ≡ true
  unfolding least_not pick
  least_before k zero j a b = let f : ⊥ = omega arith in absurd f
  least_before k (suc n) j a b =
      by_test (t k)
      (λ e. by_test (j ≤? k)
      (λ h. let q : j ≡ k = omega (arith, is≤ h) in rw q e)
      (λ h. least_before (k + 1) n j (omega (arith, isnt≤ h)) (rw e at b)))
      (λ e. let h : j < k = rw e at b in let f : ⊥ = omega arith in absurd f)

  least_fails : (k n : ℕ) → t (k + n) ≡ false → (least_not t k (suc n) ≤ k + n) × (t (least_not t k (suc n)) ≡ false)
  unfolding least_not pick
  least_fails k zero e = let h : t k ≡ false = rw (add-zero k) at e in rw h (omega arith, h)
  least_fails k (suc n) e =
      let q : k + suc n ≡ k + 1 + n = omega arith in
      by_test (t k)
      (λ h. let l = least_fails (k + 1) n (rw q at e) in rw h (omega (arith, l.0), l.1))
      (λ h. rw h (omega arith, h))

-- ---- the first rule that does not hold

pick_low : (t : Bool) (r q : Rule) {n : ℕ} → order_of r ≤ n → order_of q ≤ n → order_of (pick t r q) ≤ n
unfolding pick
pick_low true r q a b = a
pick_low false r q a b = b

picked_low : (r q : Rule) → order_of (pick true r q) ≤ order_of r
unfolding pick
picked_low r q = omega arith

module _ (xs : List LineReading) where
  -- none that fails stands before it in the order
  broken_low : (q : Rule) → holds q xs ≡ false → order_of (first_broken xs) ≤ order_of q
  unfolding first_broken order_of
  broken_low Rule.First h = rw h (picked_low _ _)
  broken_low Rule.Table h = rw h (pick_low _ _ _ (omega arith) (picked_low _ _))
  broken_low Rule.Long h =
      rw h (pick_low _ _ _ (omega arith) (pick_low _ _ _ (omega arith) (picked_low _ _)))
  broken_low Rule.Refused h =
      rw h
      (pick_low _ _ _ (omega arith)
      (pick_low _ _ _ (omega arith) (pick_low _ _ _ (omega arith) (picked_low _ _))))
  broken_low Rule.Book h =
      rw h
      (pick_low _ _ _ (omega arith)
      (pick_low _ _ _ (omega arith)
      (pick_low _ _ _ (omega arith) (pick_low _ _ _ (omega arith) (picked_low _ _)))))
  broken_low Rule.Time h =
      pick_low _ _ _ (omega arith)
      (pick_low _ _ _ (omega arith)
      (pick_low _ _ _ (omega arith)
      (pick_low _ _ _ (omega arith) (pick_low _ _ _ (omega arith) (omega arith)))))

  -- where the others hold the last fails
  last_fails : all_hold xs ≡ false → holds Rule.First xs ≡ true → holds Rule.Table xs ≡ true →
      holds Rule.Long xs ≡ true → holds Rule.Refused xs ≡ true → holds Rule.Book xs ≡ true → holds Rule.Time xs ≡ false
  unfolding all_hold
  last_fails n a b c d e =
      by_test (holds Rule.Time xs) (λ f. never (and a (and b (and c (and d (and e f))))) n) (λ f. f)

  -- and it fails itself
  broken_fails : all_hold xs ≡ false → holds (first_broken xs) xs ≡ false
  unfolding first_broken pick
  broken_fails n =
      by_test (holds Rule.First xs)
      (λ a. by_test (holds Rule.Table xs)
      (λ b. by_test (holds Rule.Long xs)
      (λ c. by_test (holds Rule.Refused xs)
      (λ d. by_test (holds Rule.Book xs)
      (λ e. rw (a, b, c, d, e) (last_fails n a b c d e))
      (λ e. rw (a, b, c, d, e) e))
      (λ d. rw (a, b, c, d) d))
      (λ c. rw (a, b, c) c))
      (λ b. rw (a, b) b))
      (λ a. rw a a)

-- ---- the line that breaks it

-- the first n + 1 lines are the first n and the next
take_next : (xs : List LineReading) (n : ℕ) (x : LineReading) (later : List LineReading) → drop n xs ≡ x ∷ later →
    take (n + 1) xs ≡ take n xs ++ (x ∷ [])
take_next xs n x later e = take-add n 1 xs ∙ rw e

-- so far a rule holds that holds of all that are fewer, from 1 on
so_far : (xs : List LineReading) (n : ℕ) (r : Rule) → (1 ≤ n → holds r (take n xs) ≡ true) →
    (is_none (take n xs) ∨? holds r (take n xs)) ≡ true
unfolding is_none ◌=?◌ ◌∨?◌ pick
so_far xs zero r h = refl
so_far xs (suc n) r h = rw (h (omega arith)) (∨?-true (is_none (take (suc n) xs)))

breaks_there : (xs : List LineReading) (n : ℕ) (r : Rule) → (1 ≤ n → holds r (take n xs) ≡ true) →
    holds r (take (n + 1) xs) ≡ false → (x : LineReading) (later : List LineReading) → drop n xs ≡ x ∷ later →
    breaks r (take n xs) x ≡ true
breaks_there xs n r h f x later e =
    let w : holds r (take n xs ++ (x ∷ [])) ≡ false = rw (take_next xs n x later e) at f in
    broken_here (so_far xs n r h) (one_more_line.line r (take n xs) x) ∙ rw w

-- ---- the verdict

-- the line that a no names, and that one fails there
failing : (xs : List LineReading) → all_hold xs ≡ false →
    (failing_line xs ≤ max 1 (length xs)) × (all_hold (take (failing_line xs) xs) ≡ false)
unfolding failing_line least_not
failing [] h = (omega arith, h)
failing (x ∷ ys) h =
    let whole : take (1 + length ys) (x ∷ ys) ≡ x ∷ ys = take_all (1 + length ys) (x ∷ ys) (omega arith) in
    let l = least_fails (λ k. all_hold (take k (x ∷ ys))) 1 (length ys) (rw whole h) in
    (omega (arith, l.0), l.1)

no_is : (xs : List LineReading) → all_hold xs ≡ false →
    Verdict.No (failing_line xs) (first_broken (take (failing_line xs) xs)) ≡ claim_of xs
unfolding claim_of
no_is xs h = second _ h refl

yes_is : (xs : List LineReading) → all_hold xs ≡ true → Verdict.Yes ≡ claim_of xs
unfolding claim_of
yes_is xs h = first _ h refl

says_yes : (xs : List LineReading) → claim_of xs ≡ Verdict.Yes → all_hold xs ≡ true
unfolding is_yes
says_yes xs e =
    by_test (all_hold xs) (λ h. h) (λ h. let z : false ≡ true = ap is_yes (no_is xs h ∙ e) in never z refl)

says_no : (xs : List LineReading) (k : ℕ) (r : Rule) → claim_of xs ≡ Verdict.No k r → all_hold xs ≡ false
unfolding is_yes
says_no xs k r e =
    by_test (all_hold xs) (λ h. let z : true ≡ false = ap is_yes (yes_is xs h ∙ e) in never refl z) (λ h. h)

names_first : (xs : List LineReading) (k : ℕ) (r : Rule) → claim_of xs ≡ Verdict.No k r → NamesFirst xs k r
unfolding failing_line
names_first xs k r e =
    let n = says_no xs k r e in
    let named = no_is xs n ∙ e in
    let line : k ≡ failing_line xs = cc in
    let rule : r ≡ first_broken (take (failing_line xs) xs) = cc in
    let fails = failing xs n in
    let t : ℕ → Bool = λ k. all_hold (take k xs) in
    let from_one = least_from t 1 (length xs) in
    let next : failing_line xs - 1 + 1 ≡ failing_line xs = omega (arith, from_one) in
    let broken = broken_fails (take (failing_line xs) xs) fails.1 in
    rw (line, rule) (record {
      from_one = from_one;
      inside = fails.0;
      earlier_lines = λ j a b q. all_holds (take j xs) (least_before t 1 (length xs) j a b) q;
      fails = broken;
      earlier_rules = λ q h. by_test (holds q (take (failing_line xs) xs)) (λ a. a)
          (λ a. let f : ⊥ = omega (arith, broken_low (take (failing_line xs) xs) q a) in absurd f);
      at_line = breaks_there xs (failing_line xs - 1) _
          (λ a. all_holds _ (least_before t 1 (length xs) (failing_line xs - 1) a (omega (arith, from_one))) _)
          (rw next broken);
    })

-- ---- what follows

over_append : (c : Sofar) (xs ys : List LineReading) →
    over claim_step c (xs ++ ys) ≡ over claim_step (over claim_step c xs) ys
unfolding over
over_append c [] ys = refl
over_append c (x ∷ xs) ys = over_append (claim_step c x) xs ys

-- where all have passed there are some
abbrev Some : Sofar → Type 0
Some c = is_yes c.verdict ≡ true → 1 ≤ c.lines

some_judged : (c : Sofar) (l : Asked) → Some (judged c l)
unfolding judged passed failed pick
some_judged c l =
    by_test (is_yes (line_verdict_of c l)) (λ e. rw e (λ h. omega arith)) (λ e. rw e (λ h. never h e))

some_after : (c : Sofar) (x : LineReading) → Some (claim_step c x)
unfolding claim_step pick
some_after c x =
    by_test (is_yes c.verdict)
    (λ e. rw e (some_judged c (asked_of x.line x.answer)))
    (λ e. rw e (λ h. never h e))

some_over : (c : Sofar) (xs : List LineReading) → Some c → Some (over claim_step c xs)
unfolding over
some_over c [] s = s
some_over c (x ∷ xs) s = some_over (claim_step c x) xs (some_after c x)

-- so a no is of a line
of_line : (c : Sofar) (k : ℕ) (r : Rule) → Some c → verdict_at_end c ≡ Verdict.No k r → is_yes c.verdict ≡ false
unfolding verdict_at_end is_yes pick
of_line c k r s e =
    by_test (is_yes c.verdict)
    (λ y.
    let n : (c.lines =? 0) ≡ false = no= (λ z. let f : ⊥ = omega (arith, s y) in f) in
    let z : true ≡ false = ap is_yes (rw (y, n) at e) in
    never refl z)
    (λ h. h)

stays : (xs ys : List LineReading) (k : ℕ) (r : Rule) → 1 ≤ length xs → claim_of xs ≡ Verdict.No k r →
    claim_of (xs ++ ys) ≡ Verdict.No k r
unfolding over
stays [] ys k r h e = let f : ⊥ = omega arith in absurd f
stays (x ∷ xs) ys k r h e =
    let c = over claim_step fresh (x ∷ xs) in
    let end : verdict_at_end c ≡ Verdict.No k r = decides.decides (x ∷ xs) ∙ e in
    let n = of_line c k r (some_over (claim_step fresh x) xs (some_after fresh x)) end in
    sym (decides.decides ((x ∷ xs) ++ ys)) ∙ rw (over_append fresh (x ∷ xs) ys, no_stays_over c ys n) end

pub says : Says
says = record {
  yes = λ xs e r. all_holds xs (says_yes xs e) r;
  all = λ xs h. sym (yes_is xs (holds_all xs h));
  no = names_first;
  stays = stays;
}

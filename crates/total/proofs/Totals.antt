-- The total of some logs and then others, of some and then one more, and what a total says.
use Rattle.span.specs.Spot.{GpsSpot, PressureSpot}
use Rattle.report.specs.Peak.{GpsPeak, PressurePeak}
use Rattle.text.specs.Prelude.{ℕ, suc, ◌+◌, ◌≤◌, ◌<◌, ◌≡◌, Bool, List, [], ◌∷◌, ◌++◌, map, length, Res, pick}
use Rattle.text.proofs.Prelude.{arith, refl, sym, ap, ◌∙◌, append-nil, append_assoc, length-append, by_test}
use mathlib.Core.Path.{fun_ext}
use mathlib.Core.List.{map-append, map-map, map-id}
use native.Mathlib.Nat.{zero-add, add-zero, add_assoc}
use Rattle.records.specs.declared.Record.{Record}
use Rattle.igc_log.specs.Log.{LineRead}
use Rattle.report.specs.Range.{Range, none, between, Every, Order, turned, higher, joined, range_of, IsRange}
use Rattle.report.specs.Counts.{numbers, by_number, summed, added}
use Rattle.report.specs.Figures.{Figures, earlier, empty, both}
use Rattle.report.specs.Report.{below_pressure, below_gps, pressure_at, gps_at, time_at, answered_with, fixes_of, shown}
use Rattle.report.specs.Report.{report_of}
use Rattle.report.proofs.Ranges.{range_append, ordered_range, every_append, every_at}
use Rattle.report.proofs.Counts.{added_from}
use Rattle.report.proofs.Figures.{heights_order, times_order}
use Rattle.span.specs.Span.{pressure_spot, gps_spot, lower_pressure, lower_gps, mapped, later_pressure, later_gps}
use Rattle.total.specs.Total.{Totals, in_order, Logs, pressure_shown, gps_shown, time_shown, total_of, no_logs, in_log_of}
use Rattle.total.specs.Total.{one_log, add_of, later_by, join_of}
use Rattle.total.specs.Laws.{OfBoth, Numbers, Sound, TotalAgrees}

-- ---- orders

pub pressure_order : Order lower_pressure
unfolding lower_pressure
pressure_order = heights_order (λ (s : PressureSpot). s.height.0)

pub gps_order : Order lower_gps
unfolding lower_gps
gps_order = heights_order (λ (s : GpsSpot). s.height.0)

-- ---- what f makes of some things has the order of what it makes

higher_mapped : {P Q : Type 0} (below : Q → Q → Bool) (f : P → Q) (a b : P) →
    f (higher (λ a b. below (f a) (f b)) a b) ≡ higher below (f a) (f b)
unfolding higher pick
higher_mapped below f a b = by_test (below (f a) (f b)) (λ e. rw e) (λ e. rw e)

module _ {P Q : Type 0} (below : Q → Q → Bool) (f : P → Q) where
  pub joined_mapped : (r s : Range P) →
      mapped f (joined (λ a b. below (f a) (f b)) r s) ≡ joined below (mapped f r) (mapped f s)
  unfolding mapped joined
  joined_mapped none s = refl
  joined_mapped (between h l) none = refl
  joined_mapped (between h l) (between h' l') =
      rw (higher_mapped below f h h', higher_mapped (turned below) f l l')

  range_mapped : (ps : List P) → range_of below (map f ps) ≡ mapped f (range_of (λ a b. below (f a) (f b)) ps)
  unfolding range_of mapped
  range_mapped [] = refl
  range_mapped (p ∷ ps) =
      rw (range_mapped ps) (sym (joined_mapped (between p p) (range_of (λ a b. below (f a) (f b)) ps)))

-- ---- one after the other

pub mapped_mapped : {P Q R : Type 0} (g : Q → R) (f : P → Q) (h : P → R) → ((p : P) → g (f p) ≡ h p) → (r : Range P) →
    mapped g (mapped f r) ≡ mapped h r
unfolding mapped
mapped_mapped g f h e none = refl
mapped_mapped g f h e (between a b) = rw (e a, e b)

pub mapped_same : {P : Type 0} (f : P → P) → ((p : P) → f p ≡ p) → (r : Range P) → mapped f r ≡ r
unfolding mapped
mapped_same f e none = refl
mapped_same f e (between a b) = rw (e a, e b)

-- ---- in parts

summed_append : {L : Type 0} (f : L → ℕ) (ls ms : List L) →
    summed (map f (ls ++ ms)) ≡ summed (map f ls) + summed (map f ms)
unfolding summed
summed_append f [] ms = sym (zero-add (summed (map f ms)))
summed_append f (l ∷ ls) ms = omega (arith, summed_append f ls ms)

summed_one : {L : Type 0} (f : L → ℕ) (l : L) → summed (map f (l ∷ [])) ≡ f l
unfolding summed
summed_one f l = add-zero (f l)

in_order_append : {L X : Type 0} (f : ℕ → L → List X) (n : ℕ) (ls ms : List L) →
    in_order f n (ls ++ ms) ≡ in_order f n ls ++ in_order f (n + length ls) ms
unfolding in_order
in_order_append f n [] ms = rw (add-zero n)
in_order_append f n (l ∷ ls) ms =
    let e : n + 1 + length ls ≡ n + suc (length ls) = omega arith in
    rw (in_order_append f (n + 1) ls ms, e) (sym (append_assoc (f n l) _ _))

-- where each that is shown of a log with k logs more before it is later by k
module _ {L Q : Type 0} (f : ℕ → L → List Q) (later : ℕ → Q → Q)
    (shift : (k n : ℕ) (l : L) → f (k + n) l ≡ map (later k) (f n l)) where
  in_order_later : (k n : ℕ) (ls : List L) → in_order f (k + n) ls ≡ map (later k) (in_order f n ls)
  unfolding in_order
  in_order_later k n [] = refl
  in_order_later k n (l ∷ ls) =
      let e : k + n + 1 ≡ k + (n + 1) = add_assoc k n 1 in
      rw (shift k n l, e, in_order_later k (n + 1) ls, map-append (later k) (f n l) (in_order f (n + 1) ls))

  range_in_order : {below : Q → Q → Bool} → Order below →
      ((k : ℕ) → ◌≡◌ {A = Q → Q → Bool} (λ a b. below (later k a) (later k b)) below) → (ls ms : List L) →
      range_of below (in_order f 1 (ls ++ ms)) ≡
      joined below (range_of below (in_order f 1 ls)) (mapped (later (length ls)) (range_of below (in_order f 1 ms)))
  range_in_order {below} o keeps ls ms =
      let k = length ls in
      let e : 1 + k ≡ k + 1 = omega arith in
      rw (
        in_order_append f 1 ls ms,
        e,
        in_order_later k 1 ms,
        range_append o (in_order f 1 ls) (map (later k) (in_order f 1 ms)),
        range_mapped below (later k) (in_order f 1 ms),
        keeps k,
      )

-- ---- two lists of logs

module _ {T : Type 0} where
  answers_append : (a b : Logs T) →
      by_number (λ n. summed (map (answered_with n) (a ++ b))) ≡
      added (by_number (λ n. summed (map (answered_with n) a))) (by_number (λ n. summed (map (answered_with n) b)))
  unfolding by_number
  answers_append a b =
      ap by_number (fun_ext (λ n. summed_append (answered_with n) a b))
      ∙ sym (added_from numbers 0 (λ n. summed (map (answered_with n) a)) (λ n. summed (map (answered_with n) b)))

  pub total_append : (a b : Logs T) → total_of (a ++ b) ≡ join_of (total_of a) (total_of b)
  unfolding total_of join_of both later_by pressure_shown lower_pressure gps_shown lower_gps time_shown
  total_append a b = rw (
    length-append a b,
    summed_append length a b,
    answers_append a b,
    summed_append fixes_of a b,
    range_in_order pressure_shown later_pressure
        (λ k n xs. sym (map-map (later_pressure k) (pressure_spot n) (shown pressure_at xs)))
        pressure_order (λ k. refl) a b,
    range_in_order gps_shown later_gps
        (λ k n xs. sym (map-map (later_gps k) (gps_spot n) (shown gps_at xs)))
        gps_order (λ k. refl) a b,
    range_in_order time_shown (λ k t. t) (λ k n xs. sym (map-id (shown time_at xs))) times_order (λ k. refl) a b,
    mapped_same (λ (t : ℕ). t) (λ t. refl) (range_of earlier (in_order time_shown 1 b)),
  )

-- ---- one log more

later_log : (k n : ℕ) (f : Figures PressurePeak GpsPeak) → later_by k (in_log_of n f) ≡ in_log_of (k + n) f
unfolding later_by in_log_of
later_log k n f = rw (
  mapped_mapped (later_pressure k) (pressure_spot n) (pressure_spot (k + n)) (λ p. refl) f.pressure,
  mapped_mapped (later_gps k) (gps_spot n) (gps_spot (k + n)) (λ p. refl) f.gps,
)

pub add_joins : (t : Totals) (f : Figures PressurePeak GpsPeak) → add_of t f ≡ join_of t (one_log f)
unfolding add_of join_of one_log
add_joins t f = rw (later_log t.logs 1 f)

module _ {T : Type 0} where
  -- heights of a log, with its number
  pressure_shown_lem : (n : ℕ) (xs : List (LineRead (Res Record) T)) →
      range_of lower_pressure (pressure_shown n xs) ≡ mapped (pressure_spot n) (report_of xs).pressure
  unfolding pressure_shown report_of lower_pressure below_pressure
  pressure_shown_lem n xs = range_mapped lower_pressure (pressure_spot n) (shown pressure_at xs)

  gps_shown_lem : (n : ℕ) (xs : List (LineRead (Res Record) T)) →
      range_of lower_gps (gps_shown n xs) ≡ mapped (gps_spot n) (report_of xs).gps
  unfolding gps_shown report_of lower_gps below_gps
  gps_shown_lem n xs = range_mapped lower_gps (gps_spot n) (shown gps_at xs)

  total_one : (xs : List (LineRead (Res Record) T)) → total_of (xs ∷ []) ≡ one_log (report_of xs)
  unfolding total_of one_log in_log_of in_order summed report_of time_shown
  total_one xs = rw (
    summed_one length xs,
    ap by_number (fun_ext (λ n. summed_one (answered_with n) xs)),
    summed_one fixes_of xs,
    append-nil (pressure_shown 1 xs),
    pressure_shown_lem 1 xs,
    append-nil (gps_shown 1 xs),
    gps_shown_lem 1 xs,
    append-nil (shown time_at xs),
  )

  one_more : (logs : Logs T) (xs : List (LineRead (Res Record) T)) →
      total_of (logs ++ (xs ∷ [])) ≡ add_of (total_of logs) (report_of xs)
  one_more logs xs =
      let t = total_of logs in
      total_append logs (xs ∷ []) ∙ ap (join_of t) (total_one xs) ∙ sym (add_joins t (report_of xs))

-- ---- log numbers

every_mapped : {P Q : Type 0} (X : Q → Type 0) (f : P → Q) → ((p : P) → X (f p)) → (ps : List P) → Every X (map f ps)
every_mapped X f x [] = tt
every_mapped X f x (p ∷ ps) = (x p, every_mapped X f x ps)

-- what holds of all that is shown of each log
every_in_order : {L Q : Type 0} (X : Q → Type 0) (f : ℕ → L → List Q) (n : ℕ) (ls : List L) →
    ((k : ℕ) (l : L) → n ≤ k → k < n + length ls → Every X (f k l)) → Every X (in_order f n ls)
unfolding in_order
every_in_order X f n [] x = tt
every_in_order X f n (l ∷ ls) x =
    every_append X (f n l) (in_order f (n + 1) ls) (x n l (omega arith) (omega arith))
    (every_in_order X f (n + 1) ls (λ k m a b. x k m (omega arith) (omega arith)))

-- what holds of all of some things holds of the highest and of the lowest
range_every : {P : Type 0} (X : P → Type 0) {below : P → P → Bool} → Order below → (ps : List P) → Every X ps →
    OfBoth X (range_of below ps)
range_every {P = P} X {below} o ps x = by (range_of below ps) ((ordered_range o).is ps)
  where
    by : (r : Range P) → IsRange below ps r → OfBoth X r
    by none is = tt
    by (between high low) is = (
      every_at X is.0.before high is.0.after (rw is.0.here at x),
      every_at X is.1.before low is.1.after (rw is.1.here at x),
    )

-- where each is given its log's number
own_logs : {L P Q : Type 0} {below : Q → Q → Bool} → Order below → (number : Q → ℕ) (spot : ℕ → P → Q) →
    ((k : ℕ) (p : P) → number (spot k p) ≡ k) → (show : L → List P) (ls : List L) →
    OfBoth (λ s. Numbers (length ls) (number s)) (range_of below (in_order (λ n l. map (spot n) (show l)) 1 ls))
own_logs o number spot is show ls =
    range_every _ o (in_order (λ n l. map (spot n) (show l)) 1 ls)
    (every_in_order _ _ 1 ls
    (λ k l a b. every_mapped _ (spot k) (λ p. (omega (arith, is k p), omega (arith, is k p))) (show l)))

sound : {T : Type 0} (logs : Logs T) → Sound (total_of logs)
unfolding total_of pressure_shown gps_shown
sound logs = record {
  pressure = own_logs pressure_order (λ s. s.log) pressure_spot (λ k p. refl) (shown pressure_at) logs;
  gps = own_logs gps_order (λ s. s.log) gps_spot (λ k p. refl) (shown gps_at) logs;
}

-- ---- all of it

pub total_agrees : (T : Type 0) → TotalAgrees T
unfolding total_of no_logs empty in_order summed range_of
total_agrees T = record {
  pressure = λ logs. (ordered_range pressure_order).is (in_order pressure_shown 1 logs);
  gps = λ logs. (ordered_range gps_order).is (in_order gps_shown 1 logs);
  times = λ logs. (ordered_range times_order).is (in_order time_shown 1 logs);
  sound = sound;
  no_logs_lem = refl;
  one_more = one_more;
}

-- Whatever the pieces of a log were, what is written for them is the text of the whole log; and what its lines raise is
-- said by the reports of the lines before them.
use Rattle.text.specs.Prelude.{ℕ, zero, suc, ◌+◌, ◌≤◌, ◌≡◌, true, List, [], ◌∷◌, length, take, drop, get_or, largest}
use Rattle.text.proofs.Prelude.{arith, refl, sym, ap, ◌∙◌, length-take, length-take-le}
use native.Mathlib.Numerals.{add-one}
use Rattle.igc_log.specs.Log.{chunks, read_from, readings}
use Rattle.igc_log.specs.Fold.{over, Carried}
use Rattle.igc_log.specs.Pieces.{joined, Whole, fed_all, texts_all}
use Rattle.igc_log.proofs.Chunks.{chunks_le}
use Rattle.igc_log.proofs.Pieces.{in_pieces as pieces, place_is, length_readings}
use Rattle.igc_log.proofs.Reached as reached
use Rattle.report.specs.Figures.{empty}
use Rattle.report.specs.Report.{report_of, report_step}
use Rattle.report.proofs.Reports.{agrees}
use Rattle.watch_text.specs.Watch.{Running, WatchReading, watcher, risen, nothing_raised, watch_line_of, watch_text_of}
use Rattle.watch_text.specs.Feed.{Nothing, no_step, view, at_first_of, is_ready_of, Watches}
use Rattle.watch_text.specs.Laws.{Rows, none, next, InPieces, Rises}
use Rattle.watch_text.specs.declared.{Watch.Watch, Watched.Watched}
use Rattle.watch_text.proofs.Feeding.{within_64_bits, so_ready, called}

-- ---- calls one after the other

-- They feed all the pieces, and write their texts.
all_fed : {w w' : Watch} {ps : List (List ℕ)} {t : List ℕ} → Rows w ps w' t →
    (view w' ≡ fed_all watcher no_step (view w) ps) × (t ≡ texts_all watcher no_step watch_line_of (view w) ps)
unfolding fed_all texts_all
all_fed none = (refl, refl)
all_fed {w} (next s b b' r k rows) =
    let one = called w s b b' r k in
    let others = all_fed rows in
    (others.0 ∙ rw one.0.made, rw (one.1, sym one.0.made, others.1))

-- So they make the text of the whole log.
whole_is : {w w' : Watch} {ps : List (List ℕ)} {t : List ℕ} → view w ≡ at_first_of → Rows w ps w' t → Whole ps →
    t ≡ watch_text_of (joined ps)
unfolding watch_text_of
whole_is {ps} first rows h =
    let law = pieces watcher no_step in
    (all_fed rows).1 ∙ rw (first, law.text watch_line_of at_first_of ps h, law.read tt (joined ps))

-- ---- no count passes 64 bits

-- A log of fewer than 2 ^ 64 bytes is ready at first.
first_ready : (n : ℕ) → n ≤ largest → is_ready_of at_first_of n ≡ true
first_ready n h = so_ready at_first_of n (omega arith) (omega arith)

-- What is left of it stays ready.
still_ready : (w : Watch) (s b b' : List ℕ) (r : Watched) (n : ℕ) → Watches w s b b' r →
    is_ready_of (view w) (r.taken + n) ≡ true → is_ready_of (view r.watch) n ≡ true
still_ready w s b b' r n k e =
    let at = (called w s b b' r k).0 in
    let ready = within_64_bits (view w) (r.taken + n) e in
    let place = ap (λ (k : Carried Running Nothing). k.place) at.made ∙ place_is watcher no_step (view w) _ in
    so_ready (view r.watch) n
    (omega (arith, ready.0, place, length-take-le r.taken s at.inside))
    (omega (arith, ready.1, reached.few at))

-- The law of a log in pieces holds.
pub in_pieces : InPieces
in_pieces = record { whole = whole_is; at_first = first_ready; later = still_ready }

-- ---- what a line raises

-- The reading behind k others, by what the step makes of these and of it.
risen_from : (n p : ℕ) (t : Running) (ks : List (List ℕ)) (k : ℕ) (x : WatchReading) (later : List WatchReading) →
    let xs = read_from watcher n p t ks in
    drop k xs ≡ x ∷ later →
    (x.number ≡ n + suc k)
    × (x.held ≡ risen (over report_step t.report (take k xs)) (over report_step t.report (take (suc k) xs)))
unfolding read_from over report_step risen
risen_from n p t [] zero x later e = absurd (omega (arith, ap length e))
risen_from n p t [] (suc k) x later e = absurd (omega (arith, ap length e))
risen_from n p t (c ∷ ks) zero x later e = rw (ap (λ (xs : List WatchReading). get_or xs 0 x) (sym e)) (refl, refl)
risen_from n p t (c ∷ ks) (suc k) x later e =
    let others = risen_from (n + 1) (p + length c) _ ks k x later e in
    (omega (arith, others.0), others.1)

risen_at : (log : List ℕ) (k : ℕ) (x : WatchReading) (later : List WatchReading) → length log ≤ largest →
    let xs = readings watcher log in
    drop k xs ≡ x ∷ later →
    (x.number ≡ k + 1) × (x.held ≡ risen (report_of (take k xs)) (report_of (take (k + 1) xs)))
unfolding readings nothing_raised
risen_at log k x later h e =
    let xs = readings watcher log in
    let few : length xs ≤ largest = omega (arith, length_readings watcher log, chunks_le log) in
    let taken : (j : ℕ) → over report_step empty (take j xs) ≡ report_of (take j xs) =
    λ j. agrees.steps (take j xs) (omega (arith, length-take j xs)) in
    let one = risen_from 0 0 nothing_raised (chunks log) k x later e in
    (omega (arith, one.0), rw (add-one, sym (taken k), sym (taken (suc k))) one.1)

-- The law of what a line raises holds.
pub rises : Rises
rises = record { at_line = risen_at }

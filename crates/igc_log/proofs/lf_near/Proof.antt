use Rattle.text.specs.Prelude.{ℕ, ◌+◌, ◌<◌, ◌≡◌, true, List, length, drop, byte}
use Rattle.text.proofs.Prelude.{rules, arith, refl}
use mir.Syntax.{w64}
use mir.Val.{Fits}
use borrow.Author.Tests.{leb-true}
use lib.Dec.{leb}
use Rattle.igc_log.specs.Line.{up_to}
use Rattle.igc_log.proofs.Ends.{up_to_here, up_to_next}
use Rattle.igc_log.proofs.lf_near.Statement.{statement}
use Rattle.igc_log.proofs.lf_near.Tie as tie

-- there are eight bytes; said here once for each k, since a search from every test would be slow
module _ (t : tie.Start) where
  abbrev log : List ℕ
  log = t.args.log.now

  abbrev place : ℕ → ℕ
  place k = t.args.from + k

  abbrev lf : ℕ
  lf = place (up_to (drop t.args.from log))

  -- k of them are no LF
  abbrev Past : ℕ → Type 0
  Past k = place k + up_to (drop (place k) log) ≡ lf

  module _ (k : ℕ) where
    fits : leb k 7 ≡ true → Fits w64 (place k)
    fits h = let l = leb-true k 7 h in search (rules, l)

    inside : leb k 7 ≡ true → place k < length log
    inside h = omega (arith, leb-true k 7 h)

    hit : leb k 7 ≡ true → byte (place k) log ≡ 10 → Past k → place k ≡ lf
    hit h b q = up_to_here _ _ (inside h) b q

    miss : leb k 7 ≡ true → (byte (place k) log ≡ 10 → ⊥) → Past k → Past (k + 1)
    miss h b q = up_to_next _ _ _ (omega arith) (inside h) b q

past1 : (c : tie.Else-log-from-eq10) → Past (search rules) 1
past1 c = up_to_next _ _ _ refl (search rules) c.if-log-from-eq10.false refl

past2 : (c : tie.Else-log-from-eq10-2) → Past (search rules) 2
past2 c = miss (search rules) 1 refl c.if-log-from-eq10-2.false (past1 (search rules))

past3 : (c : tie.Else-log-from-eq10-3) → Past (search rules) 3
past3 c = miss (search rules) 2 refl c.if-log-from-eq10-3.false (past2 (search rules))

past4 : (c : tie.Else-log-from-eq10-4) → Past (search rules) 4
past4 c = miss (search rules) 3 refl c.if-log-from-eq10-4.false (past3 (search rules))

past5 : (c : tie.Else-log-from-eq10-5) → Past (search rules) 5
past5 c = miss (search rules) 4 refl c.if-log-from-eq10-5.false (past4 (search rules))

past6 : (c : tie.Else-log-from-eq10-6) → Past (search rules) 6
past6 c = miss (search rules) 5 refl c.if-log-from-eq10-6.false (past5 (search rules))

past7 : (c : tie.Else-log-from-eq10-7) → Past (search rules) 7
past7 c = miss (search rules) 6 refl c.if-log-from-eq10-7.false (past6 (search rules))

-- and the eighth is one
last : tie.Need-returns
last c = omega (arith, past7 c)

pub lf_near_spec : {M : Type 1} → statement M
lf_near_spec =
    tie.close
    (tie.spec
    (search rules)
    (λ c. up_to_here _ _ (search rules) c.if-log-from-eq10.true refl)
    (λ c. fits (search rules) 1 refl)
    (λ c. inside (search rules) 1 refl)
    (λ c. fits (search rules) 1 refl)
    (λ c. hit (search rules) 1 refl c.if-log-from-eq10-2.true (past1 (search rules)))
    (λ c. fits (search rules) 2 refl)
    (λ c. inside (search rules) 2 refl)
    (λ c. fits (search rules) 2 refl)
    (λ c. hit (search rules) 2 refl c.if-log-from-eq10-3.true (past2 (search rules)))
    (λ c. fits (search rules) 3 refl)
    (λ c. inside (search rules) 3 refl)
    (λ c. fits (search rules) 3 refl)
    (λ c. hit (search rules) 3 refl c.if-log-from-eq10-4.true (past3 (search rules)))
    (λ c. fits (search rules) 4 refl)
    (λ c. inside (search rules) 4 refl)
    (λ c. fits (search rules) 4 refl)
    (λ c. hit (search rules) 4 refl c.if-log-from-eq10-5.true (past4 (search rules)))
    (λ c. fits (search rules) 5 refl)
    (λ c. inside (search rules) 5 refl)
    (λ c. fits (search rules) 5 refl)
    (λ c. hit (search rules) 5 refl c.if-log-from-eq10-6.true (past5 (search rules)))
    (λ c. fits (search rules) 6 refl)
    (λ c. inside (search rules) 6 refl)
    (λ c. fits (search rules) 6 refl)
    (λ c. hit (search rules) 6 refl c.if-log-from-eq10-7.true (past6 (search rules)))
    (λ c. fits (search rules) 7 refl)
    last)

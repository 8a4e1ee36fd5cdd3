use Rattle.text.specs.Prelude.{ℕ, ◌+◌, ◌-◌, ◌≡◌, List, replicate}
use Rattle.text.proofs.Prelude.{arith, refl}
use lib.ListN.{length-replicate, replicate-append-replicate}
use Rattle.put.specs.Put.{Wrote}
use Rattle.put.proofs.Writing.{then, wrote_length, wrote_past}
use Rattle.print.proofs.number.put_zeros.Goals as goal

-- j zeros and then m are k
zeros_then : {b b' b'' : List ℕ} {i a e : ℕ} (j m k : ℕ) → j + m ≡ k → Wrote b i (replicate j 48) b' a → Wrote b' a
    (replicate m 48) b'' e → Wrote b i (replicate k 48) b'' e
zeros_then j m k e p q = rw (replicate-append-replicate {A = ℕ} j m 48, e) at (then p q)

pub returns-then-buf-next : goal.returns-then-buf-next
returns-then-buf-next c =
    let l = c.loop-j in
    zeros_then l.j (c.args.k - l.j) c.args.k (omega arith) l.invariant
    (wrote_past _ c.if-buf-next.true (omega (arith, wrote_length l.invariant, l.invariant.short))
    (rw length-replicate c.after.ensures))

pub loop-j-preserved : goal.loop-j-preserved
loop-j-preserved c = zeros_then c.loop-j.j 1 _ refl c.loop-j.invariant c.put_byte-next.ensures

-- A turn of a loop over a log that asks about its lines: what a walk reads there is what was asked about.
use Rattle.text.specs.Prelude.{ℕ, ◌-◌, ◌<◌, ◌≡◌, List, length}
use Rattle.text.proofs.Prelude.{refl}
use Rattle.part.specs.Part.{part_bytes}
use Rattle.walk.specs.Turn.{got_at}
use Rattle.walk.specs.Readings.{LineReading}
use Rattle.walk.specs.declared.turn.Got.{Got}
use Rattle.walk.proofs.Turns as turns
use Rattle.walk.proofs.Turns.{Made, got_read}
use Rattle.claim_line.specs.Asked.{asked_of, asked_at_of}
use Rattle.claim_line.specs.declared.{Asked.Asked, AskedAt.AskedAt}

-- the line as the code reads it and asks about it
pub asks : (s : List ℕ) (at : ℕ) {l : List ℕ} {g : Got} {x : Asked} →
    g ≡ got_at at s → l ≡ part_bytes g.line s → x ≡ asked_of l g.reading →
    ◌≡◌ {A = AskedAt} (record { asked = x; next = g.next }) (asked_at_of at s)
unfolding got_at asked_at_of
asks s at e v a = rw (a, v, e)

module _ {T : Type 0} {step : T → LineReading → T} {a₀ a : T} {s : List ℕ} {at : ℕ} {g : AskedAt}
    (i : at < length s) (m : Made step a₀ s at a) (e : g ≡ asked_at_of at s) where
  -- the line here, with a' made of it
  pub line : {a' : T} → ((x : LineReading) → g.asked ≡ asked_of x.line x.answer → a' ≡ step a x) →
      Made step a₀ s g.next a'
  unfolding got_at asked_at_of
  line k = rw e (turns.line {g = got_at at s} i m refl (λ n h. k (got_read (got_at at s) s n at h) (rw e)))

  pub near : length s - g.next < length s - at
  unfolding got_at asked_at_of
  near = rw e (turns.near {g = got_at at s} i m refl)

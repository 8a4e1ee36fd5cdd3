-- The law of a turn, for this reader of lines and every step.
use Rattle.records.specs.declared.Record.{Record}
use Rattle.text.specs.Prelude.{Res}
use Rattle.text.specs.Prelude.{ℕ, ◌+◌, ◌-◌, ◌≤◌, ◌<◌, ◌≡◌, Bool, true, false, List, ◌++◌, length, take, pick}
use Rattle.text.proofs.Prelude.{arith, refl}
use mathlib.Core.Option.{Option, none, some}
use Rattle.part.specs.Part.{part_bytes, bytes_of}
use Rattle.records.specs.Record.{read_line_of}
use Rattle.igc_log.specs.Line.{cut_at}
use Rattle.igc_log.specs.Log.{readings}
use Rattle.igc_log.specs.Fold.{over, texts, or_else, first_with, keep, Carried, fresh, read_on}
use Rattle.igc_log.specs.declared.Cut.{Cut}
use Rattle.igc_log.proofs.Reached as log
use Rattle.igc_log.proofs.Reached.{Reached}
use Rattle.held.specs.declared.tables.Tables.{Tables}
use Rattle.walk.specs.Turn.{got_at}
use Rattle.walk.specs.Readings.{LineReading, reader}
use Rattle.walk.specs.declared.turn.Got.{Got}
use Rattle.walk.proofs.Laws.{cut_shown}

-- the line as the code cuts it, views it and reads it
pub got : (s : List ℕ) (at : ℕ) {l : List ℕ} {cut : Cut} {r : (Res Record)} →
    cut ≡ cut_at at s → l ≡ part_bytes cut.line s → r ≡ read_line_of l →
    ◌≡◌ {A = Got} (record { reading = r; line = cut.line; next = cut.next }) (got_at at s)
unfolding got_at
got s at {r} e v a = rw (a, v, e)

-- what was read there, as line n at the place p with h held after it
abbrev pub got_read : Got → List ℕ → ℕ → ℕ → Tables → LineReading
got_read g s n p h =
    record { number = n; place = p; line = part_bytes g.line s; answer = g.reading; held = h }

module _ (at : ℕ) (s : List ℕ) {g : Got} (e : g ≡ got_at at s) where
  -- its part and the next place are the cut's
  pub cut_of : ◌≡◌ {A = Cut} (record { line = g.line; next = g.next }) (cut_at at s)
  unfolding got_at
  cut_of = rw e

  -- and its answer is the one to the part's bytes
  pub answer_of : g.reading ≡ read_line_of (part_bytes g.line s)
  unfolding got_at
  answer_of = rw e

-- ---- a turn, with all that is carried

module _ {T : Type 0} {step : T → LineReading → T} {c₀ : Carried Tables T} {s : List ℕ} {at n p : ℕ} {h : Tables} {a : T}
    {g : Got}
    (i : at < length s) (r : Reached reader step c₀ s at (record { number = n; place = p; held = h; made = a }))
    (e : g ≡ got_at at s) where
  -- what is held after the line
  abbrev after : Tables
  after = reader.after p h (part_bytes g.line s)

  -- the line read here, with h' held after it and a' made of it, at the next place
  pub turn : {p' : ℕ} {h' : Tables} {a' : T} → p' + at ≡ p + g.next → h' ≡ after →
      a' ≡ step a (got_read g s (n + 1) p after) →
      Reached reader step c₀ s g.next (record { number = n + 1; place = p'; held = h'; made = a' })
  turn q k m =
      log.line {cut = record { line = g.line; next = g.next }} i r (cut_of at s e) refl q k
      (rw (answer_of at s e) at m)

  -- the line is the one that is cut there, and the answer is the one to it
  pub cut_here : let l = bytes_of (cut_at at s).line s in (part_bytes g.line s ≡ l)
      × (g.reading ≡ read_line_of l)
  unfolding got_at
  cut_here = rw (e, cut_shown s at r.inside) (refl, refl)

  -- the text of what was read up to the next place
  pub text_turn : (f : LineReading → List ℕ) → texts f (read_on reader c₀ (take g.next s)) ≡
      texts f (read_on reader c₀ (take at s)) ++ f (got_read g s (n + 1) p after)
  unfolding got_at
  text_turn f = let k = cut_here in rw (k.0, k.1) (rw e (log.text_next r i f))

  pub less_left : length s - g.next < length s - at
  less_left = log.less_left r i (cut_of at s e)

-- ---- a product of a whole log that looks at no line's number and at no table

module _ {T : Type 0} (step : T → LineReading → T) (a₀ : T) (s : List ℕ) where
  -- a is what the lines before the place make of a₀
  pub record Made (at : ℕ) (a : T) : Type 0 where
    pub number : ℕ
    pub held : Tables
    pub reached : Reached reader step (fresh reader a₀) s
        at (record { number = number; place = at; held = held; made = a })

module _ {T : Type 0} {step : T → LineReading → T} where
  -- before the first line
  pub at_start : {a : T} {s : List ℕ} → Made step a s 0 a
  at_start = record { number = _; held = _; reached = log.at_start }

  module _ {a₀ a : T} {s : List ℕ} {at : ℕ} where
    -- after the last line
    pub at_end : length s ≤ at → Made step a₀ s at a → a ≡ over step a₀ (readings reader s)
    at_end i m = log.product i m.reached

    -- a count that a line raises by at most one
    pub few : (m : T → ℕ) → ((a : T) (x : LineReading) → m (step a x) ≤ m a + 1) → Made step a₀ s at a → m a ≤ m a₀ + at
    few m h k = log.at_most k.reached m h

    module _ {g : Got} (i : at < length s) (m : Made step a₀ s at a) (e : g ≡ got_at at s) where
      -- the line read here, with a' made of it
      pub line : {a' : T} → ((n : ℕ) (h : Tables) → a' ≡ step a (got_read g s n at h)) → Made step a₀ s g.next a'
      line k = record { number = _; held = _; reached = turn i m.reached e (omega arith) refl (k _ _) }

      pub near : length s - g.next < length s - at
      near = less_left i m.reached e

pub one_at_most : (t : Bool) → pick t 1 0 ≤ 1
unfolding pick
one_at_most true = omega arith
one_at_most false = omega arith

-- ---- the same of the first line that has something

module _ {T : Type 0} (f : LineReading → Option T) {s : List ℕ} {at : ℕ} where
  pub not_found : length s ≤ at → Made (keep f) none s at none → none ≡ first_with f (readings reader s)
  not_found i m = log.not_found f m.reached i refl

  module _ {g : Got} (i : at < length s) (m : Made (keep f) none s at none) (e : g ≡ got_at at s) where
    pub keep_passes : ((n : ℕ) (h : Tables) → none ≡ f (got_read g s n at h)) → Made (keep f) none s g.next none
    unfolding keep or_else
    keep_passes k = line i m e k

    pub keep_finds : {b : T} → ((n : ℕ) (h : Tables) → some b ≡ f (got_read g s n at h)) →
        some b ≡ first_with f (readings reader s)
    unfolding keep or_else
    keep_finds k = log.found f (line i m e k).reached refl

-- The loop that takes the lines of a piece, as far as there is room for their text.
use Rattle.text.specs.Prelude.{ℕ, ◌+◌, ◌≤◌, ◌<◌, ◌≡◌, Bool, true, false, List, ◌++◌, length, take}
use Rattle.text.specs.Prelude.{largest}
use Rattle.text.proofs.Prelude.{arith, refl, ap, ◌∙◌, append-nil, sets, yes≤, is≤, both, and}
use Rattle.part.specs.Part.{part_bytes, bytes_of}
use Rattle.put.specs.Put.{Wrote}
use Rattle.put.proofs.Writing.{wrote_length, wrote_nothing, then}
use Rattle.igc_log.specs.Line.{cut_at}
use Rattle.igc_log.specs.Log.{chunks}
use Rattle.igc_log.specs.Fold as fold
use Rattle.igc_log.specs.Fold.{texts, read_at_of, read_on}
use Rattle.igc_log.specs.Taking.{taken_in, next_text, Took}
use Rattle.igc_log.proofs.Pieces.{no_text}
use Rattle.igc_log.proofs.Reached as reached
use Rattle.igc_log.proofs.Reached.{Reached}
use Rattle.igc_log.proofs.Taking.{Left, left_all, left_none, left_full, left_line, next_none, next_is, Called}
use Rattle.igc_log.proofs.Taking.{took_called, none_called}
use Rattle.held.specs.declared.tables.Tables.{Tables}
use Rattle.walk.specs.Turn.{got_at}
use Rattle.walk.specs.Readings.{LineReading, reader}
use Rattle.walk.specs.declared.turn.Got.{Got}
use Rattle.walk.proofs.Turns.{got_read, cut_of, answer_of, turn, text_turn, cut_here}
use Rattle.trailer_text.specs.Trailer.{counted, tallied, count_step}
use Rattle.trailer_text.specs.declared.Trailer.{Trailer}
use Rattle.trailer_text.proofs.Counting.{tallied_is, one_refused}
use Rattle.products.specs.Product.{product_line, product_line_of}
use Rattle.products.specs.Feed.{view, is_ready_of, FedOf, Feeds}
use Rattle.products.specs.declared.{Product.Product, Carried.Carried, Fed.Fed}

-- A line raises the count of lines by one.
pub one_line_fed : (t : Trailer) (x : LineReading) → (count_step t x).lines ≤ t.lines + 1
unfolding count_step counted
one_line_fed t x = omega arith

-- Where a piece is ready no place and no count passes 64 bits over its bytes.
pub within_64_bits : (c : Carried) (n : ℕ) → is_ready_of c n ≡ true →
    (c.at.place + n ≤ largest)
    × (c.at.number + n ≤ largest)
    × (c.trailer.lines + n ≤ largest)
    × (c.trailer.refused + n ≤ largest)
unfolding is_ready_of
within_64_bits c n e =
    let k = both e in
    let l = both k.1 in
    let m = both l.1 in
    (is≤ k.0, is≤ l.0, is≤ m.0, is≤ m.1)

-- Where none does the piece is ready.
pub so_ready : (c : Carried) (n : ℕ) → c.at.place + n ≤ largest → c.at.number + n ≤ largest →
    c.trailer.lines + n ≤ largest → c.trailer.refused + n ≤ largest → is_ready_of c n ≡ true
unfolding is_ready_of
so_ready c n place number lines refused = and (yes≤ place) (and (yes≤ number) (and (yes≤ lines) (yes≤ refused)))

-- ---- the loop

-- The place so many bytes behind c, and what is carried there.
abbrev placed : Carried → ℕ → ℕ
placed c at = c.at.place + at

abbrev behind : Carried → Tables → ℕ → Trailer → ℕ → fold.Carried Tables Trailer
behind c h n t at = record { number = n; place = placed c at; held = h; made = t }

module _ (p : Product) (names : List ℕ) (c : Carried) (s b₀ : List ℕ) where
  -- The lines before the place were taken.
  pub record Feeding (b : List ℕ) (h : Tables) (n : ℕ) (t : Trailer) (at end : ℕ) : Type 0 where
    pub reached : Reached reader count_step (view c) s at (behind c h n t at)
    pub left : Left reader count_step (product_line_of p names) (view c) s (length b₀) at (behind c h n t at) end
    pub wrote : Wrote b₀ 0 (texts (product_line_of p names) (read_on reader (view c) (take at s))) b end
    pub fits : end ≤ length b₀
    pub ready : is_ready_of c (length s) ≡ true

module _ {p : Product} {names : List ℕ} {c : Carried} {s b₀ : List ℕ} where
  -- Before the first line.
  pub at_start : is_ready_of c (length s) ≡ true → length b₀ < largest →
      Feeding p names c s b₀ b₀ c.held c.at.number c.trailer 0 0
  at_start e short =
      let z : c.at.place + 0 ≡ c.at.place = omega arith in
      record {
        reached = rw z reached.at_start;
        left = rw z left_all;
        wrote = rw (no_text reader (product_line_of p names) (view c)) (wrote_nothing b₀ 0 short (omega arith));
        fits = omega arith;
        ready = e;
      }

  module _ {b : List ℕ} {h : Tables} {n : ℕ} {t : Trailer} {at end : ℕ}
      (f : Feeding p names c s b₀ b h n t at end) where
    -- No place passes 64 bits.
    pub place_small : placed c at ≤ largest
    place_small = omega (arith, (within_64_bits c (length s) f.ready).0, f.reached.inside)

    -- Neither the number of a line does, nor a count over the lines.
    pub counts_small : at < length s → (n < largest) × (t.lines < largest) × (t.refused < largest)
    counts_small i =
        let k = within_64_bits c (length s) f.ready in (
          omega (arith, k.1, reached.few f.reached),
          omega (arith, k.2, reached.at_most f.reached (λ t. t.lines) one_line_fed),
          omega (arith, k.3, reached.at_most f.reached (λ t. t.refused) one_refused),
        )

    -- Who stops here has taken what is before the place.
    stops : {b' : List ℕ} → at ≡ taken_in reader count_step (product_line_of p names) (view c) (chunks s) (length b₀) →
        b' ≡ sets b₀ 0 (texts (product_line_of p names) (read_on reader (view c) (take at s))
        ++ next_text reader count_step (product_line_of p names) (view c) s at) →
        Took reader count_step (product_line_of p names) (view c) s b₀ b' (behind c h n t at) at end
    stops taken content = record {
      taken = taken;
      carried = f.reached.made;
      text_end_of = omega (arith, f.wrote.next, f.wrote.short, f.fits);
      content = content;
      inside = f.reached.inside;
      whole = f.reached.whole;
      fits = f.fits;
    }

    -- After the last line.
    pub at_end : length s ≤ at → Took reader count_step (product_line_of p names) (view c) s b₀ b (behind c h n t at)
        at end
    at_end i =
        let none = next_none reader count_step (product_line_of p names) (view c) s at i in
        stops (left_none f.left i) (rw (none, append-nil) f.wrote.content)

    module _ {g : Got} {l b' : List ℕ} {h' : Tables} {to : ℕ} (i : at < length s) (e : g ≡ got_at at s)
        (v : l ≡ part_bytes g.line s) (k : h' ≡ reader.after (placed c at) h l)
        (u : Wrote b end (product_line p names (n + 1) l g.reading h') b' to) where
      -- The text of the line, as that of its reading.
      abbrev text : List ℕ
      text =
          product_line_of p names
          (got_read g s (n + 1) (placed c at) (reader.after (placed c at) h (part_bytes g.line s)))

      -- It was written.
      wrote_text : Wrote b end text b' to
      unfolding product_line_of
      wrote_text = rw (k, v) at u

      -- It is that of the line which is cut here.
      text_here : text ≡ product_line_of p names (read_at_of reader (behind c h n t at) (bytes_of (cut_at at s).line s))
      text_here = let cut = cut_here i f.reached e in rw (cut.0, cut.1)

      -- A line whose text has room.
      pub line : {t' : Trailer} → t' ≡ tallied t (placed c at) l g.reading → to ≤ length b' →
          Feeding p names c s b₀ b' h' (n + 1) t' g.next to
      unfolding count_step
      line m r =
          let small = counts_small i in
          let made = rw v at (m ∙ tallied_is t _ _ _ small.1 small.2) in
          let q : placed c g.next + at ≡ placed c at + g.next = omega arith in
          let held = k ∙ ap (reader.after (placed c at) h) v in
          let long : to ≡ end + length text =
          omega (arith, wrote_text.next, wrote_text.short, wrote_length wrote_text) in
          let fits : to ≤ length b₀ = omega (arith, wrote_length wrote_text, wrote_length f.wrote) in
          let answer = answer_of at s e in
          record {
            reached = turn i f.reached e q held made;
            left = left_line i f.left (cut_of at s e) refl q held (rw answer at made) (rw answer at long) fits;
            wrote = rw (text_turn i f.reached e (product_line_of p names)) (then f.wrote wrote_text);
            fits = fits;
            ready = f.ready;
          }

      -- One whose text has none.
      pub full : length b' < to →
          Took reader count_step (product_line_of p names) (view c) s b₀ b' (behind c h n t at) at end
      full r =
          let over : length b₀ < end + length text =
          omega (arith, wrote_text.next, wrote_length wrote_text, wrote_length f.wrote) in
          stops
          (left_full f.left i (omega (arith, f.fits, rw text_here at over)))
          (rw (next_is reader count_step (product_line_of p names) f.reached i)
          (rw text_here at (then f.wrote wrote_text).content))

-- ---- what a caller goes on with

module _ (p : Product) (names : List ℕ) (c : Carried) (s b b' : List ℕ) (r : Fed) where
  abbrev CalledOf : Type 0
  CalledOf = Called reader count_step (product_line_of p names) (view c) s b b' (view r.carried) r.taken r.end

  fed_of : (ready : Bool) → FedOf ready p names c s b b' r → CalledOf
  fed_of true k = took_called reader count_step (product_line_of p names) (view c) s b b' k
  fed_of false k = rw k.0 (none_called reader count_step (product_line_of p names) (view c) s b b')

  -- That holds after every call.
  pub called : Feeds p names c s b b' r → CalledOf
  called k = fed_of (is_ready_of c (length s)) k

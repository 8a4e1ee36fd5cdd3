-- The loop that takes the lines of a piece, as far as there is room for their text.
use Rattle.report.specs.Peak.{GpsPeak, PressurePeak}
use Rattle.text.specs.Prelude.{ℕ, ◌+◌, ◌-◌, ◌≤◌, ◌<◌, ◌≡◌, Bool, true, false, List, ◌++◌, length, take, Res, Option, largest}
use Rattle.text.proofs.Prelude.{arith, refl, sym, ap, ◌∙◌, append-nil, length-take-le, sets, yes≤, is≤, both}
use Rattle.text.proofs.Prelude.{and}
use Rattle.part.specs.Part.{part_bytes, bytes_of}
use Rattle.put.specs.Put.{Wrote}
use Rattle.put.proofs.Writing.{wrote_length, wrote_nothing, then}
use Rattle.records.specs.Record.{read_line_of}
use Rattle.records.specs.declared.Record.{Record}
use Rattle.igc_log.specs.Line.{cut_at}
use Rattle.igc_log.specs.Log.{chunks}
use Rattle.igc_log.specs.Fold.{texts, Carried, read_at_of, read_on, past_line}
use Rattle.igc_log.specs.Taking.{taken_in, next_text, Took}
use Rattle.igc_log.specs.declared.Cut.{Cut}
use Rattle.igc_log.proofs.Cuts.{next_gt, next_le, cut_viewed}
use Rattle.igc_log.proofs.Pieces.{no_text, place_is}
use Rattle.igc_log.proofs.Reached as reached
use Rattle.igc_log.proofs.Reached.{Reached, text_next}
use Rattle.igc_log.proofs.Taking.{Left, left_all, left_none, left_full, left_line, next_none, next_is, Called}
use Rattle.igc_log.proofs.Taking.{took_called, none_called}
use Rattle.report.specs.Figures.{Figures}
use Rattle.report.specs.Peak.{range_in}
use Rattle.report.specs.Report.{below_pressure, below_gps, taken_by, figures_in}
use Rattle.report.specs.declared.{Report.Report}
use Rattle.rise_text.specs.Rise.{raised, pressure_rise, gps_rise}
use Rattle.b_record.specs.declared.{height.PressureAlt.PressureAlt, height.GpsAlt.GpsAlt}
use Rattle.watch_text.specs.Watch.{Running, risen, watcher, watch_line, watch_line_of}
use Rattle.watch_text.specs.Feed.{Nothing, no_step, view, is_ready_of, WatchedOf, Watches}
use Rattle.watch_text.specs.declared.{Watch.Watch, Watched.Watched}

-- Where a piece is ready neither the place nor the number passes 64 bits over its bytes.
pub within_64_bits : (c : Carried Running Nothing) (n : ℕ) → is_ready_of c n ≡ true →
    (c.place + n ≤ largest) × (c.number + n ≤ largest)
unfolding is_ready_of
within_64_bits c n e = let k = both e in (is≤ k.0, is≤ k.1)

-- Where neither does the piece is ready.
pub so_ready : (c : Carried Running Nothing) (n : ℕ) → c.place + n ≤ largest → c.number + n ≤ largest →
    is_ready_of c n ≡ true
unfolding is_ready_of
so_ready c n place number = and (yes≤ place) (yes≤ number)

-- ---- a line

-- What is held after it, from the figures before it and now.
module _ (f : Figures PressurePeak GpsPeak) (p : ℕ) (l : List ℕ) (report : Report) where
  pub held_after : {pressure : Option PressureAlt} {gps : Option GpsAlt} {m : Res Record} →
      figures_in report ≡ taken_by f p m → m ≡ read_line_of l →
      pressure ≡ pressure_rise (raised below_pressure f.pressure (range_in report.pressure)) →
      gps ≡ gps_rise (raised below_gps f.gps (range_in report.gps)) →
      ◌≡◌ {A = Running} (record { report = figures_in report; pressure = pressure; gps = gps })
      (risen f (taken_by f p (read_line_of l)))
  unfolding risen
  held_after e a pressure gps = rw (pressure, gps) (ap (risen f) (e ∙ rw a))

-- Behind it.
pub past_line_lem : (c : Carried Running Nothing) (l : List ℕ) (width : ℕ) {h : Running} →
    h ≡ watcher.after c.place c.held l →
    ◌≡◌ {A = Carried Running Nothing}
    (record { number = c.number + 1; place = c.place + width; held = h; made = tt })
    (past_line watcher no_step c l width)
unfolding past_line
past_line_lem c l width e = rw e

-- ---- the loop

module _ (c₀ : Carried Running Nothing) (s b₀ : List ℕ) where
  -- The lines before the place were taken.
  pub record Feeding (b : List ℕ) (c : Carried Running Nothing) (at end : ℕ) : Type 0 where
    pub reached : Reached watcher no_step c₀ s at c
    pub left : Left watcher no_step watch_line_of c₀ s (length b₀) at c end
    pub wrote : Wrote b₀ 0 (texts watch_line_of (read_on watcher c₀ (take at s))) b end
    pub fits : end ≤ length b₀
    pub ready : is_ready_of c₀ (length s) ≡ true

module _ {c₀ : Carried Running Nothing} {s b₀ : List ℕ} where
  -- Before the first line.
  pub at_start : is_ready_of c₀ (length s) ≡ true → length b₀ < largest → Feeding c₀ s b₀ b₀ c₀ 0 0
  at_start e short = record {
    reached = reached.at_start;
    left = left_all;
    wrote = rw (no_text watcher watch_line_of c₀) (wrote_nothing b₀ 0 short (omega arith));
    fits = omega arith;
    ready = e;
  }

  module _ {b : List ℕ} {c : Carried Running Nothing} {at end : ℕ} (f : Feeding c₀ s b₀ b c at end) where
    -- The place is as many bytes further.
    at_place : c.place ≡ c₀.place + at
    at_place =
        ap (λ (k : Carried Running Nothing). k.place) f.reached.made ∙ place_is watcher no_step c₀ (take at s)
        ∙ rw (length-take-le at s f.reached.inside)

    -- Who stops here has taken what is before the place.
    stops : {b' : List ℕ} → at ≡ taken_in watcher no_step watch_line_of c₀ (chunks s) (length b₀) →
        b' ≡ sets b₀ 0 (texts watch_line_of (read_on watcher c₀ (take at s))
        ++ next_text watcher no_step watch_line_of c₀ s at) →
        Took watcher no_step watch_line_of c₀ s b₀ b' c at end
    stops taken content = record {
      taken = taken;
      carried = f.reached.made;
      text_end_of = omega (arith, f.wrote.next, f.wrote.short, f.fits);
      content = content;
      inside = f.reached.inside;
      whole = f.reached.whole;
      fits = f.fits;
    }

    -- After the last line.
    pub at_end : length s ≤ at → Took watcher no_step watch_line_of c₀ s b₀ b c at end
    at_end i =
        let none = next_none watcher no_step watch_line_of c₀ s at i in
        stops (left_none f.left i) (rw (none, append-nil) f.wrote.content)

    module _ {cut : Cut} (i : at < length s) (e : cut ≡ cut_at at s) where
      -- The line that is cut here ends behind its start, and inside.
      pub cut_ends : (at < cut.next) × (cut.next ≤ length s)
      cut_ends = rw e (next_gt s at i, next_le s at f.reached.inside)

      -- Neither the place behind it nor its number passes 64 bits.
      pub counts_small : (c.place + (cut.next - at) ≤ largest) × (c.number < largest)
      counts_small =
          let k = within_64_bits c₀ (length s) f.ready in (
            omega (arith, k.0, at_place, cut_ends.0, cut_ends.1),
            omega (arith, k.1, reached.few f.reached),
          )

      module _ {l b' : List ℕ} {c' : Carried Running Nothing} {to : ℕ} (v : l ≡ part_bytes cut.line s)
          (k : c' ≡ past_line watcher no_step c l (cut.next - at))
          (u : Wrote b end (watch_line c'.number c'.held) b' to) where
        -- The text of the line is that of its reading.
        text_is : watch_line c'.number c'.held ≡ watch_line_of (read_at_of watcher c l)
        unfolding watch_line_of past_line
        text_is = rw k

        -- The line is the one that is cut here.
        line_here : l ≡ bytes_of (cut_at at s).line s
        line_here = v ∙ rw e (cut_viewed s at f.reached.inside)

        wrote_text : Wrote b end (watch_line_of (read_at_of watcher c l)) b' to
        wrote_text = rw text_is at u

        -- A line whose text has room.
        pub line : to ≤ length b' → Feeding c₀ s b₀ b' c' cut.next to
        unfolding past_line
        line r =
            let q : c.place + (cut.next - at) + at ≡ c.place + cut.next = omega (arith, cut_ends.0) in
            let long : to ≡ end + length (watch_line_of (read_at_of watcher c l)) =
            omega (arith, wrote_text.next, wrote_text.short, wrote_length wrote_text) in
            let fits : to ≤ length b₀ = omega (arith, wrote_length wrote_text, wrote_length f.wrote) in
            let text = rw (sym line_here, sym e) at (text_next f.reached i watch_line_of) in
            rw k (record {
              reached = reached.line i f.reached e v q refl refl;
              left = left_line i f.left e v q refl refl long fits;
              wrote = rw text (then f.wrote wrote_text);
              fits = fits;
              ready = f.ready;
            })

        -- One whose text has none.
        pub full : length b' < to → Took watcher no_step watch_line_of c₀ s b₀ b' c at end
        full r =
            let over : length b₀ < end + length (watch_line_of (read_at_of watcher c l)) =
            omega (arith, wrote_text.next, wrote_length wrote_text, wrote_length f.wrote) in
            stops
            (left_full f.left i (omega (arith, f.fits, rw line_here at over)))
            (rw (next_is watcher no_step watch_line_of f.reached i)
            (rw line_here at (then f.wrote wrote_text).content))

-- ---- what a caller goes on with

module _ (w : Watch) (s b b' : List ℕ) (r : Watched) where
  abbrev CalledOf : Type 0
  CalledOf = Called watcher no_step watch_line_of (view w) s b b' (view r.watch) r.taken r.end

  watched_of : (ready : Bool) → WatchedOf ready w s b b' r → CalledOf
  watched_of true k = took_called watcher no_step watch_line_of (view w) s b b' k
  watched_of false k = rw k.0 (none_called watcher no_step watch_line_of (view w) s b b')

  -- That holds after every call.
  pub called : Watches w s b b' r → CalledOf
  called k = watched_of (is_ready_of (view w) (length s)) k

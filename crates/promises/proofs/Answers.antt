-- Answers are determined: each crate's laws on its own answers, as one list.
use Rattle.std.specs.Prelude.{Result}
use Rattle.text.specs.Prelude.{ℕ, ◌≡◌, ok, no, pick}
use Rattle.text.proofs.Prelude.{refl, sym, ap, ◌∙◌}
use Rattle.part.proofs.Answers.{shows_one}
use Rattle.print.proofs.Answers.{prints_one, wrote_one}
use Rattle.report.specs.Report.{report_made}
use Rattle.report.specs.Peak.{made}
use Rattle.report.proofs.Answers.{range_undone, report_undone}
use Rattle.reported.specs.Reported.{SoFar}
use Rattle.reported.specs.declared.Sofar.{Sofar}
use Rattle.total.proofs.Answers.{total_made, joined_made, total_undone, joined_undone}
use Rattle.total.specs.declared.Total.{Total}
use Rattle.block_read.specs.Block.{Block, block_read}
use Rattle.igc_log.specs.Fold.{Carried}
use Rattle.watch_text.specs.Watch.{Running}
use Rattle.watch_text.specs.Feed.{Nothing}
use Rattle.watch_text.specs.declared.Watch.{Watch}
use Rattle.sheet_read.specs.Sheet.{Sheet, whole, no_sheet, sheet_in}
use Rattle.sheet_read.specs.declared.Wrong.{Wrong}
use Rattle.bench_loops.specs.Timed.{Out}
use Rattle.promises.specs.Determined.{Tells, Determined}

-- a view from which the answer can be made again tells
tells_as : {A E : Type 0} {view : E → A} (f : A → E) → ((r : E) → f (view r) ≡ r) → Tells view
tells_as f undone r q e = sym (undone r) ∙ ap f e ∙ undone q

-- the code's report so far, with the place of the next line
abbrev so_far_made : SoFar → Sofar
so_far_made c = record { report = report_made c.figures; place = c.place }

-- the code's state of the screen
abbrev watch_made : Carried Running Nothing → Watch
watch_made c = record {
  report = report_made c.held.report;
  at = record { place = c.place; number = c.number };
  pressure = c.held.pressure;
  gps = c.held.gps;
}

-- a block as the code answers it
abbrev block_made : Block → Result (Total × ℕ) ℕ
block_made b = pick b.good (ok (total_made b.total, b.end)) (no b.end)

block_undone : (r : Result (Total × ℕ) ℕ) → block_made (block_read r) ≡ r
unfolding pick
block_undone (ok b) = rw (total_undone b.0)
block_undone (no end) = refl

-- a sheet as the code answers it
abbrev sheet_made : Sheet → Result Total Wrong
sheet_made (whole t) = ok (total_made t)
sheet_made (no_sheet n) = no (record { line = n })

sheet_undone : (r : Result Total Wrong) → sheet_made (sheet_in r) ≡ r
sheet_undone (ok t) = rw (total_undone t)
sheet_undone (no w) = refl

-- each way of stating an answer
pub determined : Determined
determined = record {
  equal = λ p q. p ∙ sym q;
  report = tells_as report_made report_undone;
  so_far = tells_as so_far_made (λ c. rw (report_undone c.report));
  range = tells_as made range_undone;
  total = tells_as total_made total_undone;
  joined = tells_as joined_made joined_undone;
  block = tells_as block_made block_undone;
  sheet = tells_as sheet_made sheet_undone;
  watch = tells_as watch_made (λ w. rw (report_undone w.report));
  ahead = λ p q. p.cut ∙ sym q.cut;
  sees = λ p q. p.seen ∙ sym q.seen;
  shows = shows_one;
  shows_one = λ p q. (p.bytes ∙ sym q.bytes, p.lies ∙ sym q.lies);
  wrote = wrote_one;
  prints = prints_one;
  prints_sheet = λ p q. (p.answer ∙ sym q.answer, p.left ∙ sym q.left);
  outs = λ p q. let e = sym p ∙ q in (ap (λ (o : Out). o.sum) e, ap (λ (o : Out). o.bytes) e);
  took = λ p q.
      let n = p.taken ∙ sym q.taken in (
        rw n at p.carried ∙ sym q.carried,
        n,
        rw n at p.text_end_of ∙ sym q.text_end_of,
        rw n at p.content ∙ sym q.content,
      );
}

-- Answers are determined. Every public function states its answer in one of eleven ways: r ≡ a definition; a view of r
-- ≡ a definition; Ahead, of a line that is cut; Sees, of one that a task sees; Shows, of a slice; ShowsOne, of a slice
-- of one of two; Wrote, of a piece; Prints, of a printer; PrintsSheet, of the task sheet's; the answer and the bytes it
-- leaves, as one value ≡ a definition; Took, of lines taken into lent bytes. In each way, any two permitted answers are
-- equal, and so are the bytes that they leave.
use Rattle.task.specs.declared.TaskRefusal.{TaskRefusal}
use Rattle.std.specs.Borrow.{Bor}
use Rattle.std.specs.Prelude.{Result, ◌≡◌}
use Rattle.text.specs.Prelude.{ℕ, List, Res}
use Rattle.part.specs.Part.{Shows}
use Rattle.part.specs.declared.Part.{Part}
use Rattle.put.specs.Put.{Wrote}
use Rattle.print.specs.Print.{Prints}
use Rattle.report.specs.Report.{figures_in}
use Rattle.reported.specs.Reported.{so_far_in}
use Rattle.report.specs.Peak.{range_in}
use Rattle.total.specs.Total.{total_in, joined_in}
use Rattle.block_read.specs.Block.{block_read}
use Rattle.sheet_read.specs.Sheet.{sheet_in}
use Rattle.watch_text.specs.Feed.{view}
use Rattle.igc_log.specs.Log.{Reader, LineRead}
use Rattle.igc_log.specs.Fold.{Carried}
use Rattle.igc_log.specs.Taking.{Took}
use Rattle.igc_log.specs.declared.Cut.{Cut}
use Rattle.ahead.specs.Ahead.{Ahead}
use Rattle.caption.specs.Caption.{Where, ShowsOne}
use Rattle.task_line.specs.Lines.{Sees}
use Rattle.task_line.specs.declared.Seen.{Seen}
use Rattle.task.specs.Sheet.{Sheet, PrintsSheet}
use Rattle.bench_loops.specs.Timed.{Out}

-- Two answers with one view are equal.
abbrev pub Tells : {A E : Type 0} → (E → A) → Type 0
Tells {A} {E} view = (r q : E) → view r ≡ view q → r ≡ q

-- Whatever form a contract takes, two answers that it permits are equal.
pub record Determined : Type 1 where
  -- An answer that is a definition's, whatever its type: all readers, and what is found, counted, tested or looked up.
  pub equal : {A : Type 0} {r q m : A} → r ≡ m → q ≡ m → r ≡ q
  pub report : Tells figures_in
  pub so_far : Tells so_far_in
  pub range : {P : Type 0} → Tells (range_in {P = P})
  pub total : Tells total_in
  pub joined : Tells joined_in
  pub block : Tells block_read
  pub sheet : Tells sheet_in
  pub watch : Tells view
  pub ahead : {s : List ℕ} {at : ℕ} {r₁ r₂ : Cut} → Ahead s at r₁ → Ahead s at r₂ → r₁ ≡ r₂
  pub sees : {s : List ℕ} {at : ℕ} {r₁ r₂ : Seen} → Sees s at r₁ → Sees s at r₂ → r₁ ≡ r₂
  pub shows : {line r₁ r₂ : Bor (List ℕ)} {p : Part} → Shows line p r₁ → Shows line p r₂ →
      (r₁.now ≡ r₂.now) × (r₁.ref_ptr ≡ r₂.ref_ptr)
  pub shows_one : {line labels r₁ r₂ : Bor (List ℕ)} {w : Where} → ShowsOne line labels w r₁ →
      ShowsOne line labels w r₂ → (r₁.now ≡ r₂.now) × (r₁.ref_ptr ≡ r₂.ref_ptr)
  pub wrote : {b t b₁ b₂ : List ℕ} {at r₁ r₂ : ℕ} → Wrote b at t b₁ r₁ → Wrote b at t b₂ r₂ → (r₁ ≡ r₂) × (b₁ ≡ b₂)
  pub prints : {m : Res (List ℕ)} {b b₁ b₂ : List ℕ} {r₁ r₂ : Res ℕ} → Prints m b b₁ r₁ → Prints m b b₂ r₂ →
      (r₁ ≡ r₂) × (b₁ ≡ b₂)
  pub prints_sheet : {m : Sheet} {b b₁ b₂ : List ℕ} {r₁ r₂ : Result ℕ TaskRefusal} → PrintsSheet m b b₁ r₁ →
      PrintsSheet m b b₂ r₂ → (r₁ ≡ r₂) × (b₁ ≡ b₂)
  pub outs : {o : Out} {r₁ r₂ : ℕ} {b₁ b₂ : List ℕ} → o ≡ record { sum = r₁; bytes = b₁ } →
      o ≡ record { sum = r₂; bytes = b₂ } →
      (r₁ ≡ r₂) × (b₁ ≡ b₂)
  pub took : {A H T : Type 0} {R : Reader A H} {step : T → LineRead A H → T} {f : LineRead A H → List ℕ}
      {c c₁ c₂ : Carried H T}
      {s b b₁ b₂ : List ℕ} {n₁ n₂ e₁ e₂ : ℕ} → Took R step f c s b b₁ c₁ n₁ e₁ → Took R step f c s b b₂ c₂ n₂ e₂ →
      (c₁ ≡ c₂) × (n₁ ≡ n₂) × (e₁ ≡ e₂) × (b₁ ≡ b₂)

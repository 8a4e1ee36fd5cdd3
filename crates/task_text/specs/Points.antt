-- The points of a task as text.
use Rattle.std.specs.Prelude.{◌+◌, ◌∷◌, ◌++◌}
use Rattle.text.specs.Prelude.{ℕ, zero, suc, code, List, [], LF}
use Rattle.position.specs.Position.{position_text}
use Rattle.caption.specs.Caption.{caption_text}
use Rattle.task_line.specs.Lines.{TaskLine, declaration, point, other}

-- The n-th point: caption, space, position as printed, LF. (A line that is no point has no text.)
unfoldable pub point_text : List ℕ → ℕ → TaskLine → List ℕ
point_text labels n (declaration count) = []
point_text labels n (point r line) =
    caption_text r n line labels ++ ((code " " ∷ []) ++ (position_text r.position ++ (LF ∷ [])))
point_text labels n other = []

-- The first k lines as points, the first of them the n-th.
unfoldable pub points_text : List ℕ → ℕ → ℕ → List TaskLine → List ℕ
points_text labels n zero ls = []
points_text labels n (suc k) [] = []
points_text labels n (suc k) (l ∷ ls) = point_text labels n l ++ points_text labels (n + 1) k ls

-- The text of a verdict.
use Rattle.std.specs.Prelude.{◌∷◌, ◌++◌}
use Rattle.text.specs.Prelude.{ℕ, code, List, [], LF, padded}
use Rattle.text.specs.Spelt.{spelt}
use Rattle.claim.specs.declared.{verdict.Rule.Rule, verdict.Verdict.Verdict}

-- The word of a rule.
unfoldable pub rule_text : Rule → List ℕ
rule_text Rule.First = spelt "first"
rule_text Rule.Table = spelt "table"
rule_text Rule.Long = spelt "long"
rule_text Rule.Refused = spelt "refused"
rule_text Rule.Book = spelt "book"
rule_text Rule.Time = spelt "time"

-- A no: the line, and the word of the rule.
unfoldable pub no_text : ℕ → Rule → List ℕ
no_text line rule = spelt "no " ++ (padded 1 line ++ ((code " " ∷ []) ++ rule_text rule))

-- The whole line.
unfoldable pub verdict_text : Verdict → List ℕ
verdict_text Verdict.Yes = spelt "yes" ++ (LF ∷ [])
verdict_text (Verdict.No line rule) = no_text line rule ++ (LF ∷ [])

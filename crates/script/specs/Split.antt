-- A script's lines, one by one.
use Rattle.std.specs.Prelude.{◌≡◌, ℕ, ◌+◌, List, [], ◌∷◌, Option, MatchOption}
use Rattle.script.specs.declared.split.Lines.{Lines}
use Rattle.script.specs.declared.split.ScriptLine.{ScriptLine}
use Rattle.script.specs.Lint.{lines}

abbrev pub lines_left : Lines → List (List ℕ)
lines_left l = lines l.rest.now

abbrev pub next_number : Lines → ℕ
next_number l = l.number

-- a step gives the first line that is left with its number; where none is left it gives none,
-- and changes nothing
abbrev pub GivesLine : Lines → Option ScriptLine → Lines → Type 0
GivesLine s r t = MatchOption r ((lines_left s ≡ []) × ((lines_left t ≡ []) × (next_number t ≡ next_number s))) (λ x. (x.number ≡ next_number s) × ((lines_left s ≡ x.text.now ∷ lines_left t) × (next_number t ≡ next_number s + 1)))

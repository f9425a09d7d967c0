-- How an answer is written.
use Rattle.std.specs.Prelude.{ℕ, cond, List, ◌++◌, codes, decimal}
use Rattle.runs.specs.declared.turns.Answer.{Answer}
use Rattle.runs.specs.declared.turns.Answer.TheVariants.{Announced, Posted, Delivered, Advanced}
use Rattle.desk.specs.declared.said.Said.{Said}
use Rattle.desk.specs.declared.said.Said.TheVariants.{Opened, Did}

-- words with one number behind them, and with two
abbrev pub one : List ℕ → ℕ → List ℕ
one head a = head ++ (decimal a ++ codes ")")

abbrev pub two : List ℕ → ℕ → List ℕ → ℕ → List ℕ
two head a middle b = head ++ (decimal a ++ (middle ++ (decimal b ++ codes "))")))

abbrev pub answer_text : Answer → List ℕ
answer_text (Announced a) = two (codes "(announced (serial ") a.serial (codes ") (sent ") a.posted
answer_text (Posted n) = one (codes "(sent ") n
answer_text (Delivered d) = two (codes "(took (sent ") d.posted (codes ") (entered ") (cond d.accepted 1 0)
answer_text (Advanced a) = two (codes "(advanced (round ") a.round (codes ") (sent ") a.posted

-- the text of what a form is answered
abbrev pub said_text : Said → List ℕ
said_text Opened = codes "(opened)"
said_text (Did a) = answer_text a

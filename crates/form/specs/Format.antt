-- How a form is written, and which forms a program can hold.
use Rattle.std.specs.Prelude.{ℕ, ◌^◌, ◌<◌, ◌≤◌, List, [], ◌∷◌, ◌++◌, length, codes, decimal}
use Rattle.std.specs.List.{AllByRecursion}
use Rattle.protocol.specs.declared.messages.Step.{Step}
use Rattle.protocol.specs.declared.messages.Step.TheVariants.{Initial, Echo, Ready}
use Rattle.protocol.specs.declared.messages.Subject.{Subject}
use Rattle.protocol.specs.declared.messages.Subject.TheVariants.{Item, Ballot}
use Rattle.form.specs.declared.forms.LineForm.{LineForm}
use Rattle.form.specs.declared.forms.ForgeForm.{ForgeForm}
use Rattle.form.specs.declared.forms.Form.{Form}
use Rattle.form.specs.declared.forms.Form.TheVariants.{Line, Announce, Open as Opening, Forge, Deliver, Advance}

abbrev pub marks_written : List ℕ → List ℕ
marks_written [] = []
marks_written (m ∷ ms) = codes " " ++ (decimal m ++ marks_written ms)

abbrev pub stepped : Step → List ℕ
stepped Initial = codes "initial"
stepped Echo = codes "echo"
stepped Ready = codes "ready"

abbrev pub subjected : Subject → List ℕ
subjected (Item o n) = codes "(item " ++ (decimal o ++ (codes " " ++ (decimal n ++ codes ")")))
subjected (Ballot o c r) = codes "(ballot " ++ (decimal o ++ (codes " " ++ (decimal c ++ (codes " " ++ (decimal r ++ codes ")")))))

abbrev pub lined : LineForm → List ℕ
lined l =
    codes "(line (counters " ++ (decimal l.counters ++ (codes ") (tolerate " ++ (decimal l.tolerate ++ (codes ") (strange" ++ (marks_written l.strange ++ codes "))")))))

abbrev pub forge_written : ForgeForm → List ℕ
forge_written g =
    codes "(forge (from " ++ (decimal g.from ++ (codes ") (to " ++ (decimal g.to ++ (codes ") (" ++ (stepped g.step ++ (codes " " ++ (subjected g.subject ++ (codes ") (body " ++ (decimal g.body ++ codes "))")))))))))

-- the text of a form
abbrev pub written : Form → List ℕ
written (Line l) = lined l
written (Announce c t) = codes "(announce (counter " ++ (decimal c ++ (codes ") (tag " ++ (decimal t ++ codes "))")))
written (Opening c n v) =
    codes "(open (counter " ++ (decimal c ++ (codes ") (case " ++ (decimal n ++ (codes ") (vote " ++ (decimal v ++ codes "))")))))
written (Forge g) = forge_written g
written (Deliver c n) = codes "(deliver (counter " ++ (decimal c ++ (codes ") (pick " ++ (decimal n ++ codes "))")))
written (Advance c n) = codes "(advance (counter " ++ (decimal c ++ (codes ") (case " ++ (decimal n ++ codes "))")))

abbrev pub Fits64 : ℕ → Type 0
Fits64 n = n < 2 ^ 64

abbrev pub SubjectFits : Subject → Type 0
SubjectFits (Item o n) = Fits64 o × Fits64 n
SubjectFits (Ballot o c r) = Fits64 o × (Fits64 c × Fits64 r)

-- at most 16 marks
abbrev pub MarksFit : List ℕ → Type 0
MarksFit ms = (length ms ≤ 16) × AllByRecursion Fits64 ms

-- a form that a program can hold: its numbers have 64 bits
abbrev pub FormFits : Form → Type 0
FormFits (Line l) = Fits64 l.counters × (Fits64 l.tolerate × MarksFit l.strange)
FormFits (Announce c t) = Fits64 c × Fits64 t
FormFits (Opening c n v) = Fits64 c × (Fits64 n × Fits64 v)
FormFits (Forge g) = Fits64 g.from × (Fits64 g.to × (SubjectFits g.subject × Fits64 g.body))
FormFits (Deliver c n) = Fits64 c × Fits64 n
FormFits (Advance c n) = Fits64 c × Fits64 n

-- The answers of a rehearsal are the replies of a session.
use Rattle.std.proofs.Common.{◌≡◌, ℕ, ◌+◌, ◌≤◌, List, [], ◌∷◌, ◌++◌, length, Ok, Err, Result, refl, ap, ◌∙◌}
use Rattle.std.proofs.lemmas.Bool.{cond-false, le-ltb}
use Rattle.form.specs.declared.forms.Form.{Form}
use Rattle.script.specs.declared.fault.ScriptFault.{ScriptFault}
use Rattle.script.specs.Lint.{told, checked, lines, whole}
use Rattle.rules.specs.Runs.{Event}
use Rattle.desk.specs.Desk.{AtDesk, acts}
use Rattle.desk.specs.Telling.{Stands}
use Rattle.desk.specs.Wording.{said_text}
use Rattle.desk.specs.declared.said.Said.{Said}
use Rattle.desk.proofs.Telling.{tells}
use Rattle.rehearse.specs.Rehearsed.{refused_as_fault, reply_to, line_reply, answers, at_start, rehearsed}
use Rattle.rehearse.specs.Session.{Session, at_end, not_read, form_read, printed, Rehearsal}

module _ (places : ℕ) where
  -- a session that prints these answers
  record Printing (d : AtDesk) (es : List Event) (n : ℕ) (ls : List (List ℕ)) (text : List ℕ) : Type 0 where
    replied : List (Result Said ScriptFault)
    shows : text ≡ printed replied
    session : Session places d es n ls replied

  line_replied : (d : AtDesk) (es : List Event) (n : ℕ) (line : List ℕ) (ls : List (List ℕ)) (r : Result Form ScriptFault) → Stands places d es → checked n line ≡ r → ((e : AtDesk) (fs : List Event) → Stands places e fs → Printing e fs (n + 1) ls (answers places e (n + 1) ls)) → Printing d es n (line ∷ ls) (told said_text (reply_to places d r).said ++ (10 ∷ answers places (reply_to places d r).desk (n + 1) ls))
  line_replied d es n line ls (Err e) stands is rest =
      let more = rest d es stands in
      record {
        replied = Err e ∷ more.replied;
        shows = ap (λ (t : List ℕ). told said_text (reply_to places d (Err e)).said ++ (10 ∷ t)) more.shows;
        session = not_read e is more.session;
      }
  line_replied d es n line ls (Ok f) stands is rest =
      let done = acts places d f in
      let t = tells places d f in
      let after = t.stands es stands in
      let more = rest done.desk (t.told ++ es) after in
      record {
        replied = refused_as_fault done.said ∷ more.replied;
        shows = ap (λ (x : List ℕ). told said_text (refused_as_fault done.said) ++ (10 ∷ x)) more.shows;
        session = form_read f is t.acted after more.session;
      }

  lines_replied : (ls : List (List ℕ)) (d : AtDesk) (es : List Event) (n : ℕ) → Stands places d es → Printing d es n ls (answers places d n ls)
  unfolding line_reply
  lines_replied [] d es n stands = record { replied = []; shows = refl; session = at_end }
  lines_replied (line ∷ ls) d es n stands = line_replied d es n line ls (checked n line) stands refl (λ e fs x. lines_replied ls e fs (n + 1) x)

-- what the definition prints for a script within the limit
pub rehearsal : (s text : List ℕ) → text ≡ rehearsed s → length s ≤ 4096 → Rehearsal s text
rehearsal s text is within =
    let by = lines_replied 400 (lines s) at_start [] 1 refl in
    record {
      replies = by.replied;
      shows = is ∙ ap (whole (answers 400 at_start) s) (cond-false _ _ _ (le-ltb 4096 (length s) within)) ∙ by.shows;
      session = by.session;
    }

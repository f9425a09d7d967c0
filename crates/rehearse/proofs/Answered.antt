-- What a line is answered, by what reading it and acting on it answer.
use Rattle.std.proofs.Common.{◌≡◌, ℕ, ◌+◌, List, ◌∷◌, ◌++◌, Ok, Err, Result, refl, ap, ◌∙◌}
use Rattle.protocol.specs.declared.refusals.Refusal.{Refusal}
use Rattle.form.specs.declared.forms.Form.{Form}
use Rattle.script.specs.declared.fault.ScriptFault.{ScriptFault}
use Rattle.script.specs.Lint.{checked, told, Responds}
use Rattle.desk.specs.Desk.{AtDesk, DeskAfter, desk_after, acts}
use Rattle.desk.specs.Wording.{said_text}
use Rattle.desk.specs.declared.said.Said.{Said}
use Rattle.rehearse.specs.Rehearsed.{reply, refused_as_fault, reply_to, line_reply, answers}

module _ (places n : ℕ) (d : AtDesk) (line : List ℕ) where
  reply_is : (r : Result Form ScriptFault) → r ≡ checked n line → reply_to places d r ≡ line_reply places n d line
  unfolding line_reply
  reply_is r e = ap (reply_to places d) e

  responds : (r : Result Said ScriptFault) (after : AtDesk) (room : ℕ) → reply r after ≡ line_reply places n d line → room ≡ places → Responds said_text (answers places d) (answers room after) n line r
  responds r after room e same = λ ls i. told said_text (e i).said ++ (10 ∷ answers (same i) (e i).desk (n + 1) ls)

  -- a line that does not read
  pub unread : (e : ScriptFault) → Err e ≡ checked n line → Responds said_text (answers places d) (answers places d) n line (Err e)
  unread e f = responds (Err e) d places (reply_is (Err e) f) refl

  -- a form that was acted on
  pub acted_on : (after : AtDesk) (room : ℕ) (form : Form) (r : Result Said Refusal) → Ok form ≡ checked n line → desk_after r after ≡ acts places d form → room ≡ places → Responds said_text (answers places d) (answers room after) n line (refused_as_fault r)
  acted_on after room form r e step same = responds (refused_as_fault r) after room (ap (λ (a : DeskAfter). reply (refused_as_fault a.said) a.desk) step ∙ reply_is (Ok form) e) same

use Rattle.std.proofs.Common.{◌≡◌, Bool, true, false, cond, refl, ◌∙◌, append_assoc}
use mir.Val.{bool_byte}
use Rattle.text.proofs.Chain.{at_arm}
use Rattle.desk.specs.Wording.{answer_text}
use Rattle.desk.proofs.said.Said.put_answer.Goals as goal

pub returns-in_ok-put_field-in-Announced-2 : goal.returns-in_ok-put_field-in-Announced-2
returns-in_ok-put_field-in-Announced-2 c =
    at_arm answer_text c.put.result _ _ _ c.in-Announced.is (simp (c.in_ok-put_field-in-Announced-2.ensures.text, c.in_ok-put_field-in-Announced.ensures.text, append_assoc) at c.put.ensures.text)

byte : (b : Bool) → bool_byte b ≡ cond b 1 0
byte true = refl
byte false = refl

pub returns-in_ok-put_field-in-Delivered-2 : goal.returns-in_ok-put_field-in-Delivered-2
returns-in_ok-put_field-in-Delivered-2 c =
    let number = c.from.ensures ∙ byte c.in-Delivered.delivered.accepted in
    at_arm answer_text c.put-in-Delivered.result _ _ _ c.in-Delivered.is (simp (c.in_ok-put_field-in-Delivered-2.ensures.text, c.in_ok-put_field-in-Delivered.ensures.text, number, append_assoc) at c.put-in-Delivered.ensures.text)

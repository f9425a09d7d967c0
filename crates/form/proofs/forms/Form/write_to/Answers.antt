use Rattle.std.proofs.Common.{append_assoc}
use Rattle.form.proofs.forms.Form.write_to.Goals as goal

pub returns-in_ok-put_field-in-Open-3 : goal.returns-in_ok-put_field-in-Open-3
returns-in_ok-put_field-in-Open-3 c =
    rw c.in-Open.is (simp (c.in_ok-put_field-in-Open-3.ensures.text, c.in_ok-put_field-in-Open-2.ensures.text, c.in_ok-put_field-in-Open.ensures.text, append_assoc) at c.put-in-Open.ensures.text)

pub returns-in_ok-put_field-in-Deliver-2 : goal.returns-in_ok-put_field-in-Deliver-2
returns-in_ok-put_field-in-Deliver-2 c =
    rw c.in-Deliver.is (simp (c.in_ok-put_field-in-Deliver-2.ensures.text, c.in_ok-put_field-in-Deliver.ensures.text, append_assoc) at c.put-in-Deliver.ensures.text)

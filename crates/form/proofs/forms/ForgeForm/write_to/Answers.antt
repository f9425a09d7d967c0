use Rattle.std.proofs.Common.{append_assoc}
use Rattle.form.proofs.forms.ForgeForm.write_to.Goals as goal

pub returns : goal.returns
returns c =
    simp (c.in_ok-put_field-3.ensures.text, c.in_ok-put_subject.ensures, c.in_ok-text-2.ensures.text, c.in_ok-put_step.ensures, c.in_ok-text.ensures.text, c.in_ok-put_field-2.ensures.text, c.in_ok-put_field.ensures.text, append_assoc) at c.put-3.ensures.text

use Rattle.std.proofs.Common.{append_assoc}
use Rattle.form.proofs.forms.LineForm.write_to.Goals as goal

pub returns : goal.returns
returns c = simp (c.in_ok-put_marks.ensures, c.in_ok-text.ensures.text, c.in_ok-put_field-2.ensures.text, c.in_ok-put_field.ensures.text, append_assoc) at c.put-2.ensures.text

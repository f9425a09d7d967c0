use Rattle.std.proofs.Common.{append_assoc}
use Rattle.script.proofs.fault.put_place.Goals as goal

pub returns : goal.returns
returns c =
    simp (c.in_ok-put_field-2.ensures.text, c.in_ok-put_field.ensures.text, c.in_ok-text.ensures.text, c.in_ok-put.ensures.text, append_assoc) at c.put-3.ensures.text

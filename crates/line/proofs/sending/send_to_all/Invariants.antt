use Rattle.protocol.specs.Sending.{to_all}
use Rattle.line.specs.Sent.{Sent}
use Rattle.line.proofs.sending.send_to_all.Given as goal

abbrev pub invariant-loop-addressee : goal.invariant-loop-addressee
invariant-loop-addressee g l = Sent g.C.Carrier.waiting g.C.Carrier.capacity g.C.Carrier.posting l.initial.carrier (to_all l.addressee l.sender l.step l.subject l.body) l.carrier

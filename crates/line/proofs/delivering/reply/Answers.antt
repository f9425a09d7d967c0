use Rattle.std.proofs.Common.{cond, [], arith}
use Rattle.protocol.specs.Sending.{to_all}
use Rattle.protocol.specs.declared.messages.Step.TheVariants.{Echo, Ready}
use Rattle.line.specs.Sent.{Sent}
use Rattle.line.proofs.Rows.{nothing_sent, sent_join, sent_length, to_length, due_le}
use Rattle.line.proofs.delivering.reply.Goals as goal
use Rattle.line.proofs.delivering.reply.Goals.{Joined-reaction, then-reaction, else-reaction}

-- the echoes were sent, if they were due
echoed : (g : _) (c : Joined-reaction g) → Sent g.C.Carrier.waiting g.C.Carrier.capacity g.C.Carrier.posting c.args.carrier.now (cond c.args.reaction.echo (to_all c.args.line.now.plan.n c.args.message.now.addressee Echo c.args.message.now.subject c.args.message.now.body) []) c.if-reaction.carrier
echoed g c = elim c.if-reaction.branch [
  | then-reaction w ↦ rw (w.if-reaction.true, w.carrier-is) w.pass_on-posted.ensures.sent
  | else-reaction w ↦ rw (w.if-reaction.false, w.carrier-is) (nothing_sent _ _ _ _)
]

pub pass_on-posted-requires-then-reaction-2 : goal.pass_on-posted-requires-then-reaction-2
pass_on-posted-requires-then-reaction-2 g c =
    let sent = echoed g (goal.at.pass_on-posted-requires-then-reaction-2 g c).Joined-reaction in
    record { room = omega (arith, sent_length _ _ _ _ _ _ sent, sent.kept, due_le c.args.reaction.echo c.args.line.now.plan.n c.args.message.now.addressee Echo c.args.message.now.subject c.args.message.now.body) }

pub overflow_add-posted-then-reaction-2 : goal.overflow_add-posted-then-reaction-2
overflow_add-posted-then-reaction-2 g c =
    let m = c.args.message.now in
    let readies = to_length m.addressee Ready m.subject m.body c.args.line.now.plan.n in
    elim c.if-reaction.branch [
      | then-reaction w ↦ omega (arith, readies, w.posted-is, w.pass_on-posted.ensures.count, to_length m.addressee Echo m.subject m.body c.args.line.now.plan.n)
      | else-reaction w ↦ omega (arith, readies, w.posted-is)
    ]

pub returns-then-reaction-2-clause-sent : goal.returns-then-reaction-2-clause-sent
returns-then-reaction-2-clause-sent g c =
    rw c.if-reaction-2.true
    (sent_join g.C.Carrier.waiting g.C.Carrier.capacity g.C.Carrier.posting _ _ _ _ _ (echoed g (goal.at.returns-then-reaction-2-clause-sent g c).Joined-reaction) c.pass_on-posted-then-reaction-2.ensures.sent)

pub returns-else-reaction-2-clause-sent : goal.returns-else-reaction-2-clause-sent
returns-else-reaction-2-clause-sent g c =
    rw c.if-reaction-2.false
    (sent_join g.C.Carrier.waiting g.C.Carrier.capacity g.C.Carrier.posting _ _ _ _ _ (echoed g (goal.at.returns-else-reaction-2-clause-sent g c).Joined-reaction) (nothing_sent _ _ _ _))

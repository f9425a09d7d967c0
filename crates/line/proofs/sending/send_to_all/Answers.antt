use Rattle.std.proofs.Common.{sym, ap, ◌∙◌, arith}
use Rattle.plan.specs.declared.plans.Plan.{Plan}
use Rattle.line.proofs.Rows.{to_length, sent_none, sent_more, sent_length, post_ok}
use Rattle.line.proofs.sending.send_to_all.Goals as goal

pub loop-addressee-init : goal.loop-addressee-init
loop-addressee-init g c = sent_none _ _ _ _ _ _ _ _

pub unwrap-requires : goal.unwrap-requires
unwrap-requires g c =
    let inv = c.loop-addressee.invariant in
    post_ok _ _ _ _ _ c.post.ensures.posted
    (omega (arith, ap (λ (p : Plan). p.n) c.plan.ensures, sent_length _ _ _ _ _ _ inv, to_length c.args.sender c.args.step c.args.subject c.args.body c.loop-addressee.addressee, inv.kept))

pub loop-addressee-preserved : goal.loop-addressee-preserved
loop-addressee-preserved g c =
    let posted = rw c.unwrap.ensures at c.post.ensures.posted in
    sent_more _ _ _ c.args.sender c.args.step c.args.subject c.args.body _ c.loop-addressee.addressee c.loop-addressee.carrier _ c.unwrap-message.result
    c.requires.sender
    (omega arith)
    (sym c.unwrap-message.ensures ∙ c.new.ensures)
    c.loop-addressee.invariant
    c.post.ensures.kept
    posted.same
    (rw c.unwrap.ensures at c.post.ensures.told)

pub returns-clause-count : goal.returns-clause-count
returns-clause-count g c = omega (arith, ap (λ (p : Plan). p.n) c.plan.ensures, to_length c.args.sender c.args.step c.args.subject c.args.body c.args.line.now.plan.n)

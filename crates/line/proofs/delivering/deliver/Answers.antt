use Rattle.std.proofs.Common.{◌≡◌, false, sym, refl, ◌∙◌, arith}
use Rattle.memory.specs.Contents.{held}
use Rattle.broadcast.specs.Receiving.{outcome}
use Rattle.broadcast.specs.Stages.{nothing}
use Rattle.rules.specs.Turns.{faulty}
use Rattle.line.proofs.Rows.{nothing_sent}
use Rattle.line.proofs.Taking.{take_ok, room_left, drops, reacts, took}
use Rattle.line.proofs.delivering.deliver.Goals as goal

pub unwrap-message-requires : goal.unwrap-message-requires
unwrap-message-requires g c = take_ok c.args.line.now c.args.process _ _ c.in_ok-check_delivery.ensures _ _ c.take.ensures.taken

pub returns-then-is_faulty-clause-turn : goal.returns-then-is_faulty-clause-turn
returns-then-is_faulty-clause-turn g c =
    let carrier = g.C.Carrier in
    let removed = rw c.unwrap-message.ensures at c.take.ensures.taken in
    took removed c.args.line.now {waiting = carrier.waiting} {capacity = carrier.capacity} (outcome (held c.args.memory.now) nothing) refl (rw c.unwrap-message.ensures at c.take.ensures.told) c.in_ok-check_process.ensures.first c.in_ok-check_delivery.ensures
    (drops removed c.args.line.now _ (sym c.is_faulty.ensures.value ∙ c.if-is_faulty.true))
    refl
    (nothing_sent carrier.waiting carrier.capacity carrier.posting c.take.new.self)
    refl
    refl

pub reply-posted-requires : goal.reply-posted-requires
reply-posted-requires g c =
    let removed = rw c.unwrap-message.ensures at c.take.ensures.taken in
    let role : faulty c.args.line.now c.args.process ≡ false = sym c.is_faulty.ensures.value ∙ c.if-is_faulty.false in
    omega (arith, room_left removed c.args.line.now (g.C.Carrier.fits c.args.carrier.now) c.in_ok-check_delivery.ensures role, c.take.ensures.kept)

pub returns-clause-turn : goal.returns-clause-turn
returns-clause-turn g c =
    let carrier = g.C.Carrier in
    let removed = rw c.unwrap-message.ensures at c.take.ensures.taken in
    took removed c.args.line.now {waiting = carrier.waiting} {capacity = carrier.capacity} (outcome (held c.receive-reaction.new.memory) c.receive-reaction.result) refl (rw c.unwrap-message.ensures at c.take.ensures.told) c.in_ok-check_process.ensures.first c.in_ok-check_delivery.ensures
    (reacts removed c.args.line.now _ (sym c.is_faulty.ensures.value ∙ c.if-is_faulty.false) c.plan.ensures c.receive-reaction.ensures)
    refl
    c.reply-posted.ensures.sent
    c.reply-posted.ensures.count
    refl

use Rattle.std.proofs.Common.{refl}
use Rattle.rules.specs.Runs.{announced, opened, forged, delivered, advanced}
use Rattle.runs.proofs.Turning.{done_turn, refused_turn}
use Rattle.runs.proofs.performing.perform.Goals as goal

pub returns-in_err-announce-in-Announce-clause-event : goal.returns-in_err-announce-in-Announce-clause-event
returns-in_err-announce-in-Announce-clause-event g c = refused_turn g.I.Item.packed c.in-Announce.is c.from_residual.ensures.1 c.in_err-announce-in-Announce.ensures.turn c.in_err-announce-in-Announce.ensures.untouched

pub returns-in_ok-announce-in-Announce-clause-event : goal.returns-in_ok-announce-in-Announce-clause-event
returns-in_ok-announce-in-Announce-clause-event g c =
    let done = c.in_ok-announce-in-Announce.ensures in
    let a = c.in_ok-announce-in-Announce.field-0 in
    done_turn g.I.Item.packed c.in-Announce.is (announced c.in-Announce.process (g.I.Item.packed c.in-Announce.value) a.serial a.posted) refl (record { happens = done.turn; carried = done.order }) done.fits

pub returns-in_err-open_case-in-Open-clause-event : goal.returns-in_err-open_case-in-Open-clause-event
returns-in_err-open_case-in-Open-clause-event g c = refused_turn g.I.Item.packed c.in-Open.is c.from_residual-in_err-open_case-in-Open.ensures.1 c.in_err-open_case-in-Open.ensures.turn c.in_err-open_case-in-Open.ensures.untouched

pub returns-in_ok-open_case-in-Open-clause-event : goal.returns-in_ok-open_case-in-Open-clause-event
returns-in_ok-open_case-in-Open-clause-event g c =
    let done = c.in_ok-open_case-in-Open.ensures in
    let a = c.in_ok-open_case-in-Open.field-0 in
    done_turn g.I.Item.packed c.in-Open.is (opened c.in-Open.process c.in-Open.case c.in-Open.vote a) refl (record { happens = done.turn; carried = done.order }) tt

pub returns-in_err-forge-in-Forge-clause-event : goal.returns-in_err-forge-in-Forge-clause-event
returns-in_err-forge-in-Forge-clause-event g c = refused_turn g.I.Item.packed c.in-Forge.is c.from_residual-in_err-forge-in-Forge.ensures.1 c.in_err-forge-in-Forge.ensures.turn c.in_err-forge-in-Forge.ensures.untouched

pub returns-in_ok-forge-in-Forge-clause-event : goal.returns-in_ok-forge-in-Forge-clause-event
returns-in_ok-forge-in-Forge-clause-event g c =
    let done = c.in_ok-forge-in-Forge.ensures in
    let a = c.in_ok-forge-in-Forge.field-0 in
    done_turn g.I.Item.packed c.in-Forge.is (forged c.in-Forge.message a) refl (record { happens = done.turn; carried = done.order }) tt

pub returns-in_err-deliver-in-Deliver-clause-event : goal.returns-in_err-deliver-in-Deliver-clause-event
returns-in_err-deliver-in-Deliver-clause-event g c = refused_turn g.I.Item.packed c.in-Deliver.is c.from_residual-in_err-deliver-in-Deliver.ensures.1 c.in_err-deliver-in-Deliver.ensures.turn c.in_err-deliver-in-Deliver.ensures.untouched

pub returns-in_ok-deliver-in-Deliver-clause-event : goal.returns-in_ok-deliver-in-Deliver-clause-event
returns-in_ok-deliver-in-Deliver-clause-event g c =
    let done = c.in_ok-deliver-in-Deliver.ensures in
    let a = c.in_ok-deliver-in-Deliver.field-0 in
    done_turn g.I.Item.packed c.in-Deliver.is (delivered c.in-Deliver.process c.in-Deliver.pick done.turn.message a.posted a.accepted) refl (record { happens = done.turn.happens; carried = done.turn.order }) tt

pub returns-in_err-advance-in-Advance-clause-event : goal.returns-in_err-advance-in-Advance-clause-event
returns-in_err-advance-in-Advance-clause-event g c = refused_turn g.I.Item.packed c.in-Advance.is c.from_residual-in_err-advance-in-Advance.ensures.1 c.in_err-advance-in-Advance.ensures.turn c.in_err-advance-in-Advance.ensures.untouched

pub returns-in_ok-advance-in-Advance-clause-event : goal.returns-in_ok-advance-in-Advance-clause-event
returns-in_ok-advance-in-Advance-clause-event g c =
    let done = c.in_ok-advance-in-Advance.ensures in
    let a = c.in_ok-advance-in-Advance.field-0 in
    done_turn g.I.Item.packed c.in-Advance.is (advanced c.in-Advance.process c.in-Advance.case done.turn.round done.turn.forced done.turn.decides a.round a.posted) refl (record { happens = done.turn.happens; carried = (done.turn.happens.step, done.turn.happens.by, done.turn.order) }) tt

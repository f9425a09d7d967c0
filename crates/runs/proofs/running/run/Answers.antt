use Rattle.std.proofs.Common.{[], sym, refl, ◌∙◌, subst, arith}
use Rattle.memory.specs.Contents.{held}
use Rattle.rules.specs.Runs.{Run}
use Rattle.line.proofs.Opened.{opened_idle}
use Rattle.runs.proofs.Leading.{is_run, led_none, led_more, led_all, values}
use Rattle.runs.proofs.running.run.Goals as goal

pub loop-turn-init : goal.loop-turn-init
loop-turn-init g c =
    let carrier = g.C.Carrier in
    let item = g.I.Item in (
      refl,
      led_none carrier.waiting carrier.posting carrier.taking item.ok item.packed item.unpacked c.in_ok-line.line (carrier.capacity c.args.carrier.now) (g.K.Coin.shows c.args.coin.now) c.args.turns.now (held c.open_line.new.memory) c.args.carrier.now,
    )

pub loop-turn-preserved : goal.loop-turn-preserved
loop-turn-preserved g c =
    let carrier = g.C.Carrier in
    let item = g.I.Item in
    let done = c.perform.ensures in
    let before = c.loop-turn.invariant in (
      done.kept ∙ before.0,
      led_more carrier.waiting carrier.posting carrier.taking item.ok item.packed item.unpacked c.in_ok-line.line (carrier.capacity c.args.carrier.now) (g.K.Coin.shows c.args.coin.now) c.args.turns.now (held c.open_line.new.memory) c.args.carrier.now c.loop-turn.turn-index c.turn-item.result (carrier.capacity c.loop-turn.carrier) (held c.loop-turn.memory) (held c.perform.new.memory) c.loop-turn.carrier c.perform.new.carrier (omega arith) c.turn-item.is before.0 done.event before.1,
    )

pub returns-clause-ran : goal.returns-clause-ran
returns-clause-ran g c =
    let carrier = g.C.Carrier in
    let item = g.I.Item in
    let opened = c.in_ok-line.ensures in
    let coin = g.K.Coin.shows c.args.coin.now in
    let capacity = carrier.capacity c.args.carrier.now in
    let line = c.in_ok-line.line in
    let start = held c.open_line.new.memory in
    let led = led_all carrier.waiting carrier.posting carrier.taking item.ok item.packed item.unpacked line capacity coin c.args.turns.now start c.args.carrier.now c.loop-turn.turn-index (held c.loop-turn.memory) c.loop-turn.carrier (omega arith) c.loop-turn.invariant.1 in
    let begins = subst (λ ws. Run line capacity coin [] start ws) (sym (opened_idle c.args.draft.plan (held c.args.memory.now) (carrier.waiting c.args.carrier.now) opened.answer.allowed)) (opened.promise.run coin) in
    let run = is_run carrier.waiting carrier.posting carrier.taking line capacity coin start c.args.carrier.now begins led.events _ _ led.straight in
    let promises = opened.promise.kept coin led.events _ _ run in
    record {
      start = start;
      opened = opened.answer;
      led = led;
      run = run;
      promises = promises;
      values = values _ _ _ g.met.I.Item.faithful line coin led.events _ _ led.fits promises;
    }

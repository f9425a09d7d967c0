use Rattle.std.proofs.Common.{rules, ◌≡◌, ℕ, Some, Option, ◌+◌, ◌/◌, true, length, sym, refl, ap, ◌∙◌, subst}
use Rattle.protocol.specs.declared.messages.Subject.{Subject}
use Rattle.memory.specs.Contents.{held, case_at, with_case}
use Rattle.memory.specs.declared.records.CaseRecord.{CaseRecord}
use Rattle.cases.specs.Steps.{step_at, round_at, chosen}
use Rattle.cases.proofs.Going.{law}
use Rattle.rules.specs.Turns.{said, decision_after, subject_after, sent_for, room_for_ballot}
use Rattle.line.specs.Sent.{Sent}
use Rattle.line.proofs.Voting.{some_place, may_go_on}
use Rattle.line.proofs.advancing.advance.Goals as goal

pub returns-clause-turn : goal.returns-clause-turn
returns-clause-turn g c =
    let carrier = g.C.Carrier in
    let line = c.args.line.now in
    let h = held c.args.memory.now in
    let i = c.args.process in
    let k = c.args.case in
    let step = c.in_ok-step.step in
    let at = c.in_ok-at.at in
    let before = c.in_ok-check_correct.ensures in
    let place = some_place line.plan i k before.correct.0 at c.in_ok-at.ensures in
    let by : Some step ≡ step_at line.plan h i k = search rules in
    let old = c.case_record-record.ensures ∙ ap (λ (at : ℕ). case_at h at) place.0 in
    let from = c.from-round.result in
    let round : from ≡ round_at line.plan h i k = c.from-round.ensures ∙ ap (λ (r : CaseRecord). r.round) old in
    let coin = g.K.Coin.shows c.args.coin.now in
    let ballot = c.said-ballot.ensures ∙ ap (λ (r : ℕ). said step.next (coin i k (r / 3))) (sym c.from-round.ensures) in
    let next = c.subject_after-next.ensures in
    let sends : sent_for line c.subject_after-next.result c.said-ballot.result ≡ sent_for line (subject_after line i k from) (said step.next (coin i k (from / 3))) = λ j. sent_for line (next j) (ballot j) in
    let sent = subst (λ ms. Sent carrier.waiting carrier.capacity carrier.posting c.args.carrier.now ms c.send_next-posted.new.carrier) sends c.send_next-posted.ensures.sent in
    let written = λ (at r : ℕ) (x : CaseRecord). with_case at (record { round = r + 1; decision = decision_after x.decision step.decides (r / 3); slip = x.slip }) h in
    record {
      round = from;
      forced = step.forced;
      decides = step.decides;
      happens =
          record {
            step = step;
            by = sym by;
            from = round;
            set = chosen line.plan h i k;
            law = (law line.plan h i k (Some step) by).goes step refl;
            forces = refl;
            decision = refl;
            answer = refl;
            done =
                record {
                  allowed = may_go_on line (carrier.capacity c.args.carrier.now) h (carrier.waiting c.args.carrier.now) i k before.first place.1 step by (subst (λ (o : Option Subject). room_for_ballot line o (carrier.capacity c.args.carrier.now) (carrier.waiting c.args.carrier.now) ≡ true) (next ∙ ap (subject_after line i k) round) c.in_ok-check_room_for_next.ensures);
                  memory =
                      c.set_case_record.ensures
                      ∙ (λ j. with_case at (record { round = c.moved.ensures.round j; decision = c.moved.ensures.decision j; slip = c.moved.ensures.slip j }) h)
                      ∙ (λ j. written (place.0 j) (sym c.from-round.ensures j) (old j));
                  carrier = sent.same;
                  counted = c.send_next-posted.ensures.count ∙ ap length sends;
                };
          };
      order = sent.posts;
    }

use Rattle.std.proofs.Common.{None, ◌∙◌}
use Rattle.protocol.specs.declared.votes.Ballot.{Ballot}
use Rattle.protocol.specs.declared.votes.Ballot.TheVariants.{Keep, Release, ProposeKeep, ProposeRelease, Open}
use Rattle.memory.proofs.Counting.{count_places}
use Rattle.ballots.specs.Tallies.{is_ballot}
use Rattle.ballots.proofs.counting.count.Goals as goal

pub returns : goal.returns
returns c =
    let places = λ (b : Ballot). count_places (is_ballot b) None c.args.row.now 16 c.told-row in
    λ i. record {
      keep = (c.count_of.ensures ∙ places Keep) i;
      release = (c.count_of-2.ensures ∙ places Release) i;
      propose_keep = (c.count_of-3.ensures ∙ places ProposeKeep) i;
      propose_release = (c.count_of-4.ensures ∙ places ProposeRelease) i;
      «open» = (c.count_of-5.ensures ∙ places Open) i;
    }

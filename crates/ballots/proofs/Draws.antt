-- What some of the ballots of a round can allow, by how many there are of each.
use Rattle.std.proofs.Common.{◌≡◌, ℕ, ◌+◌, ◌-◌, ◌*◌, ◌/◌, ◌<◌, ◌≤◌, min, Bool, true, ◌&&◌, ltb, leb, sym, refl, ap, ◌∙◌, inl, inr, ⊎_elim, arith}
use Rattle.std.proofs.lemmas.Bool.Decides.{nat_tests}
use Rattle.std.proofs.lemmas.Bool.{or_cases, or_right, leb-true, le-leb, cases_lt}
use Rattle.protocol.specs.Numbers.{ballot_number, vote, proposal}
use Rattle.protocol.specs.declared.votes.Side.{Side}
use Rattle.protocol.specs.declared.votes.Side.TheVariants as side
use Rattle.protocol.specs.declared.votes.Ballot.{Ballot}
use Rattle.protocol.specs.declared.votes.Ballot.TheVariants.{Keep, Release, ProposeKeep, ProposeRelease, Open}
use Rattle.protocol.specs.declared.votes.Kind.{Kind}
use Rattle.protocol.specs.declared.votes.Kind.TheVariants.{First, Second, Third}
use Rattle.consensus.specs.Rounds.{Allows}
use Rattle.consensus.proofs.Sides.{both_sides, keep_ahead, release_ahead}
use Rattle.ballots.specs.Tallies.{part}
use Rattle.ballots.proofs.Counts.{total}
use Rattle.ballots.specs.Votes.{allowed_after}
use Rattle.ballots.specs.declared.tallies.ByBallot.{ByBallot}

-- n - t of the ballots that c counts, which allow b
pub record Draw (n t : ℕ) (q : Kind) (c : ByBallot ℕ) (b : ℕ) : Type 0 where
  pub of : ByBallot ℕ
  pub within : (d : Ballot) → part of d ≤ part c d
  pub size : total of ≡ n - t
  pub allows : Allows n t q (part of) b

-- a round of a kind has ballots of that kind only
abbrev pub OfKind : Kind → ByBallot ℕ → Type 0
OfKind First c = (c.propose_keep ≡ 0) × (c.propose_release ≡ 0) × (c.«open» ≡ 0)
OfKind Second c = (c.propose_keep ≡ 0) × (c.propose_release ≡ 0) × (c.«open» ≡ 0)
OfKind Third c = (c.keep ≡ 0) × (c.release ≡ 0)

some_votes : ℕ → ℕ → ByBallot ℕ
some_votes k r = record { keep = k; release = r; propose_keep = 0; propose_release = 0; «open» = 0 }

some_proposals : ℕ → ℕ → ℕ → ByBallot ℕ
some_proposals k r o = record { keep = 0; release = 0; propose_keep = k; propose_release = r; «open» = o }

module _ {n t : ℕ} {q : Kind} {c : ByBallot ℕ} {b : ℕ} where
  votes_draw : (k r : ℕ) → k ≤ c.keep → r ≤ c.release → k + r ≡ n - t → Allows n t q (part (some_votes k r)) b → Draw n t q c b
  unfolding some_votes
  votes_draw k r x y size allows = record { of = some_votes k r; within = within; size = omega (arith, size); allows = allows }
    where
      within : (d : Ballot) → part (some_votes k r) d ≤ part c d
      within Keep = x
      within Release = y
      within ProposeKeep = omega arith
      within ProposeRelease = omega arith
      within Open = omega arith

  proposals_draw : (k r o : ℕ) → k ≤ c.propose_keep → r ≤ c.propose_release → o ≤ c.«open» → k + r + o ≡ n - t → Allows n t q (part (some_proposals k r o)) b → Draw n t q c b
  unfolding some_proposals
  proposals_draw k r o x y z size allows = record { of = some_proposals k r o; within = within; size = omega (arith, size); allows = allows }
    where
      within : (d : Ballot) → part (some_proposals k r o) d ≤ part c d
      within Keep = omega arith
      within Release = omega arith
      within ProposeKeep = x
      within ProposeRelease = y
      within Open = z

-- a ballot of number b that is among those that are allowed
pub record Taken (a : ByBallot Bool) (b : ℕ) : Type 0 where
  pub is : Ballot
  pub number : b ≡ ballot_number is
  pub allowed : part a is ≡ true

module _ (n t : ℕ) where
  drawn_first : (c : ByBallot ℕ) (b : Ballot) → part (allowed_after n t First c) b ≡ true → Draw n t First c (ballot_number b)
  unfolding allowed_after some_votes
  drawn_first c Keep e =
      let k = min c.keep (n - t) in
      let many : n - t ≤ c.keep + c.release = grind (arith, nat_tests) in
      let half : n - t ≤ 2 * k = grind (arith, nat_tests) in
      votes_draw k (n - t - k) (omega arith) (omega arith) (omega arith) (sym (ap (λ v. ballot_number (vote v)) (keep_ahead (part (some_votes k (n - t - k))) (omega arith))))
  drawn_first c Release e =
      let r = min c.release (n - t) in
      let many : n - t ≤ c.keep + c.release = grind (arith, nat_tests) in
      let half : n - t < 2 * r = grind (arith, nat_tests) in
      votes_draw (n - t - r) r (omega arith) (omega arith) (omega arith) (sym (ap (λ v. ballot_number (vote v)) (release_ahead (part (some_votes (n - t - r) r)) (omega arith))))
  drawn_first c ProposeKeep e = absurd cc
  drawn_first c ProposeRelease e = absurd cc
  drawn_first c Open e = absurd cc

  drawn_second : (c : ByBallot ℕ) (b : Ballot) → part (allowed_after n t Second c) b ≡ true → Draw n t Second c (ballot_number b)
  unfolding allowed_after some_votes
  drawn_second c Keep e = absurd cc
  drawn_second c Release e = absurd cc
  drawn_second c ProposeKeep e =
      let k = min c.keep (n - t) in
      let many : n - t ≤ c.keep + c.release = grind (arith, nat_tests) in
      let most : n < 2 * k = grind (arith, nat_tests) in
      votes_draw k (n - t - k) (omega arith) (omega arith) (omega arith) (inl (side.Keep, omega arith, refl))
  drawn_second c ProposeRelease e =
      let r = min c.release (n - t) in
      let many : n - t ≤ c.keep + c.release = grind (arith, nat_tests) in
      let most : n < 2 * r = grind (arith, nat_tests) in
      votes_draw (n - t - r) r (omega arith) (omega arith) (omega arith) (inl (side.Release, omega arith, refl))
  drawn_second c Open e =
      let few = leb-true _ _ e in
      let k = min (min c.keep (n / 2)) (n - t) in
      let r = n - t - k in
      votes_draw k r (omega arith) (omega arith) (omega arith) (inr (both_sides (λ v. 2 * part (some_votes k r) (vote v) ≤ n) (omega arith) (omega arith), refl))

  -- neither side has more than t, and any may be said
  tossed_third : (c : ByBallot ℕ) (v : Side) → n - t ≤ min c.propose_keep t + min c.propose_release t + c.«open» → Draw n t Third c (ballot_number (vote v))
  unfolding some_proposals
  tossed_third c v few =
      let k = min (min c.propose_keep t) (n - t) in
      let r = min (min c.propose_release t) (n - t - k) in
      let o = n - t - k - r in
      proposals_draw k r o (omega arith) (omega arith) (omega arith) (omega arith) (inr (both_sides (λ u. part (some_proposals k r o) (proposal u) ≤ t) (omega arith) (omega arith), (v, refl)))

  -- The side that is forced takes its own proposals first.
  drawn_third : (c : ByBallot ℕ) (b : Ballot) → part (allowed_after n t Third c) b ≡ true → Draw n t Third c (ballot_number b)
  unfolding allowed_after some_proposals
  drawn_third c Keep e = ⊎_elim forced (λ x. tossed_third c side.Keep (leb-true _ _ x)) (or_cases _ _ e)
    where
      forced : (leb (n - t) (c.propose_keep + c.propose_release + c.«open») && ltb t (min c.propose_keep (n - t))) ≡ true → Draw n t Third c 0
      forced f =
          let k = min c.propose_keep (n - t) in
          let many : n - t ≤ c.propose_keep + c.propose_release + c.«open» = grind (arith, nat_tests) in
          let most : t < k = grind (arith, nat_tests) in
          let r = min c.propose_release (n - t - k) in
          let o = n - t - k - r in
          proposals_draw k r o (omega arith) (omega arith) (omega arith) (omega arith) (inl (side.Keep, omega arith, refl))
  drawn_third c Release e = ⊎_elim forced (λ x. tossed_third c side.Release (leb-true _ _ x)) (or_cases _ _ e)
    where
      forced : (leb (n - t) (c.propose_keep + c.propose_release + c.«open») && ltb t (min c.propose_release (n - t))) ≡ true → Draw n t Third c 1
      forced f =
          let r = min c.propose_release (n - t) in
          let many : n - t ≤ c.propose_keep + c.propose_release + c.«open» = grind (arith, nat_tests) in
          let most : t < r = grind (arith, nat_tests) in
          let k = min c.propose_keep (n - t - r) in
          let o = n - t - k - r in
          proposals_draw k r o (omega arith) (omega arith) (omega arith) (omega arith) (inl (side.Release, omega arith, refl))
  drawn_third c ProposeKeep e = absurd cc
  drawn_third c ProposeRelease e = absurd cc
  drawn_third c Open e = absurd cc

  pub drawn : (q : Kind) (c : ByBallot ℕ) (b : Ballot) → part (allowed_after n t q c) b ≡ true → Draw n t q c (ballot_number b)
  drawn First = drawn_first
  drawn Second = drawn_second
  drawn Third = drawn_third

  -- and what a draw allows is among what is allowed
  module _ (c : ByBallot ℕ) (b : ℕ) where
    drawn_from : {q : Kind} (d : Draw n t q c b) → (d.of.keep ≤ c.keep) × (d.of.release ≤ c.release) × (d.of.propose_keep ≤ c.propose_keep) × (d.of.propose_release ≤ c.propose_release) × (d.of.«open» ≤ c.«open») × (total d.of ≡ n - t)
    drawn_from d = (d.within Keep, d.within Release, d.within ProposeKeep, d.within ProposeRelease, d.within Open, d.size)

    taken_first : OfKind First c → Draw n t First c b → Taken (allowed_after n t First c) b
    unfolding allowed_after
    taken_first none d = ⊎_elim behind even (cases_lt d.of.keep d.of.release)
      where
        behind : d.of.keep < d.of.release → Taken (allowed_after n t First c) b
        behind l =
            let w = drawn_from d in
            record { is = Release; number = d.allows ∙ ap (λ v. ballot_number (vote v)) (release_ahead (part d.of) l); allowed = grind (arith, nat_tests) }

        even : d.of.release ≤ d.of.keep → Taken (allowed_after n t First c) b
        even l =
            let w = drawn_from d in
            record { is = Keep; number = d.allows ∙ ap (λ v. ballot_number (vote v)) (keep_ahead (part d.of) l); allowed = grind (arith, nat_tests) }

    taken_second : OfKind Second c → Draw n t Second c b → Taken (allowed_after n t Second c) b
    unfolding allowed_after
    taken_second none d =
        ⊎_elim (λ a. record { is = proposal a.0; number = a.2; allowed = most a.0 a.1 }) (λ a. record { is = Open; number = a.1; allowed = few a.0 }) d.allows
      where
        most : (v : Side) → n < 2 * part d.of (vote v) → part (allowed_after n t Second c) (proposal v) ≡ true
        most side.Keep l = let w = drawn_from d in grind (arith, nat_tests)
        most side.Release l = let w = drawn_from d in grind (arith, nat_tests)

        few : ((v : Side) → 2 * part d.of (vote v) ≤ n) → part (allowed_after n t Second c) Open ≡ true
        few f =
            let w = drawn_from d in
            let k = f side.Keep in
            let r = f side.Release in
            grind (arith, nat_tests)

    taken_third : OfKind Third c → Draw n t Third c b → Taken (allowed_after n t Third c) b
    unfolding allowed_after
    taken_third none d =
        ⊎_elim (λ a. record { is = vote a.0; number = a.2; allowed = forced a.0 a.1 }) (λ a. record { is = vote a.1.0; number = a.1.1; allowed = tossed a.1.0 a.0 }) d.allows
      where
        forced : (v : Side) → t < part d.of (proposal v) → part (allowed_after n t Third c) (vote v) ≡ true
        forced side.Keep l = let w = drawn_from d in grind (arith, nat_tests)
        forced side.Release l = let w = drawn_from d in grind (arith, nat_tests)

        few : ((v : Side) → part d.of (proposal v) ≤ t) → leb (n - t) (min c.propose_keep t + min c.propose_release t + c.«open») ≡ true
        few f =
            let w = drawn_from d in
            let k = f side.Keep in
            let r = f side.Release in
            le-leb _ _ (omega arith)

        tossed : (v : Side) → ((u : Side) → part d.of (proposal u) ≤ t) → part (allowed_after n t Third c) (vote v) ≡ true
        tossed side.Keep f = or_right _ _ (few f)
        tossed side.Release f = or_right _ _ (few f)

  pub taken : (q : Kind) (c : ByBallot ℕ) (b : ℕ) → OfKind q c → Draw n t q c b → Taken (allowed_after n t q c) b
  taken First = taken_first
  taken Second = taken_second
  taken Third = taken_third

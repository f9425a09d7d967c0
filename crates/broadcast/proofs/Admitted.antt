-- What holds where plan and memory admit a message.
use Rattle.std.proofs.Common.{◌≡◌, ℕ, ◌+◌, ◌-◌, ◌<◌, ◌≤◌, Bool, true, length, Some, sym, ap, ◌∙◌, arith}
use Rattle.std.proofs.lemmas.Bool.{cond-true}
use Rattle.std.proofs.lemmas.Bool.Decides.{nat_tests}
use Rattle.std.proofs.lemmas.Option.{cond_some}
use Rattle.protocol.specs.declared.messages.Message.{Message}
use Rattle.protocol.specs.declared.messages.Subject.{Subject}
use Rattle.plan.specs.declared.plans.Plan.{Plan}
use Rattle.memory.specs.Contents.{Held}
use Rattle.memory.specs.Places.{enough, within, record_place, record_places, place_of, Laid}
use Rattle.memory.specs.declared.places.Place.{Place}
use Rattle.memory.proofs.Sizes.{sizes}
use Rattle.broadcast.specs.Receiving.{admits, received, handled}

-- what a place that was found says
record Found (plan : Plan) (process : ℕ) (s : Subject) (p : Place) : Type 0 where
  at : p ≡ record_places plan (record_place plan process s)
  below : process < plan.n
  inside : within plan s ≡ true

found : (plan : Plan) (process : ℕ) (s : Subject) (p : Place) → Some p ≡ place_of plan process s → Found plan process s p
found plan process s p e =
    let x = cond_some _ _ p (sym e) in
    record { at = sym x.1; below = grind (arith, nat_tests); inside = grind (arith, nat_tests) }

-- the record and the places that the message is heard in are there, and the message is handled
pub record Admitted (plan : Plan) (process : ℕ) (m : Message) (h : Held) (p : Place) : Type 0 where
  pub at : p.«record» < length h.broadcasts
  pub echoes : p.echoes + plan.n ≤ length h.bodies
  pub readies : p.readies + plan.n ≤ length h.bodies
  pub handles : handled plan p m h ≡ received plan process m h

pub admitted :
    (plan : Plan) (process : ℕ) (m : Message) (h : Held) (p : Place) (s : Subject) (all : Bool)
    → m.sender < plan.n
    → all ≡ enough plan h
    → all ≡ true
    → s ≡ m.subject
    → Some p ≡ place_of plan process s
    → Laid plan
    → Admitted plan process m h p
admitted plan process m h p s all from is_enough enough_so subject_is e laid =
    let f = found plan process m.subject p (e ∙ ap (λ (z : Subject). place_of plan process z) subject_is) in
    let fits = sym is_enough ∙ enough_so in
    let size = sizes plan h fits in
    let inside = laid.inside process m.subject f.below f.inside in
    let last = laid.ready_inside (record_place plan process m.subject) (plan.n - 1) inside (omega (arith, plan.tolerated)) in
    let admits_it : admits plan process m h ≡ true = grind (arith, nat_tests, f.inside) in
    record {
      at = rw f.at (omega (arith, size.broadcasts));
      echoes = rw f.at (omega (arith, size.bodies));
      readies = rw f.at (omega (arith, size.bodies));
      handles = rw f.at (sym (cond-true _ _ _ admits_it));
    }

-- Where memory keeps what a process knows of a subject and of a case.
use Rattle.std.specs.Prelude.{◌≡◌, ℕ, ◌+◌, ◌-◌, ◌*◌, ◌<◌, Bool, true, cond, ◌&&◌, length, Some, None, Option, ◌≢◌, nat_le, nat_lt}
use Rattle.protocol.specs.Messages.{originator_of}
use Rattle.protocol.specs.declared.messages.Subject.{Subject}
use Rattle.protocol.specs.declared.messages.Subject.TheVariants.{Item, Ballot}
use Rattle.plan.specs.declared.plans.Plan.{Plan}
use Rattle.plan.specs.Plans.{rounds, subjects, needs_of}
use Rattle.memory.specs.declared.places.Place.{Place}
use Rattle.memory.specs.Contents.{Held, stage_at, accepted_body}

-- whether each part has the places that the plan needs
abbrev pub enough : Plan → Held → Bool
enough plan h =
    let needs = needs_of plan in
    nat_le needs.broadcast_records (length h.broadcasts)
    && (nat_le needs.body_places (length h.bodies)
    && (nat_le needs.case_records (length h.cases) && nat_le needs.next_serials (length h.serials)))

-- whether the plan has the subject: rounds are numbered from 1
abbrev pub within : Plan → Subject → Bool
within plan (Item i k) = nat_lt i plan.n && nat_lt k plan.serials
within plan (Ballot i c r) = nat_lt i plan.n && (nat_lt c plan.cases && (nat_le 1 r && nat_le r (rounds plan)))

-- the number of a subject among those of its originator: the items, and then the rounds of case
-- after case
abbrev pub subject_number : Plan → Subject → ℕ
subject_number plan (Item i k) = k
subject_number plan (Ballot i c r) = plan.serials + rounds plan * c + (r - 1)

-- the broadcast record that process i keeps of a subject
abbrev pub record_place : Plan → ℕ → Subject → ℕ
record_place plan i subject = (i * plan.n + originator_of subject) * subjects plan + subject_number plan subject

-- the body that the record of process i has as accepted for a subject
abbrev pub body_at : Plan → Held → ℕ → Subject → Option ℕ
body_at plan h i s = accepted_body (stage_at h (record_place plan i s))

-- where record k keeps the echo and the ready of process 0; the sender's number is added
abbrev pub echoes : Plan → ℕ → ℕ
echoes plan k = 2 * plan.n * k

abbrev pub readies : Plan → ℕ → ℕ
readies plan k = 2 * plan.n * k + plan.n

-- the places of record k
abbrev pub record_places : Plan → ℕ → Place
record_places plan k = record { «record» = k; echoes = echoes plan k; readies = readies plan k }

-- the places of the record of a subject, if the plan has process and subject
abbrev pub place_of : Plan → ℕ → Subject → Option Place
place_of plan i subject = cond (nat_lt i plan.n && within plan subject) (Some (record_places plan (record_place plan i subject))) None

-- the case record that process i keeps of case c
abbrev pub case_place : Plan → ℕ → ℕ → ℕ
case_place plan i c = i * plan.cases + c

-- the same, if the plan has process and case
abbrev pub case_place_of : Plan → ℕ → ℕ → Option ℕ
case_place_of plan i c = cond (nat_lt i plan.n && nat_lt c plan.cases) (Some (case_place plan i c)) None

-- all places are among those that the plan needs, and no two things share one
pub record Laid (plan : Plan) : Type 0 where
  pub inside : (i : ℕ) (s : Subject) → i < plan.n → within plan s ≡ true → record_place plan i s < (needs_of plan).broadcast_records
  pub apart : (i j : ℕ) (s z : Subject) → i < plan.n → j < plan.n → within plan s ≡ true → within plan z ≡ true → record_place plan i s ≡ record_place plan j z → (i ≡ j) × (s ≡ z)
  pub echo_inside : (k j : ℕ) → k < (needs_of plan).broadcast_records → j < plan.n → echoes plan k + j < (needs_of plan).body_places
  pub ready_inside : (k j : ℕ) → k < (needs_of plan).broadcast_records → j < plan.n → readies plan k + j < (needs_of plan).body_places
  pub echo_apart : (k l i j : ℕ) → i < plan.n → j < plan.n → echoes plan k + i ≡ echoes plan l + j → (k ≡ l) × (i ≡ j)
  pub ready_apart : (k l i j : ℕ) → i < plan.n → j < plan.n → readies plan k + i ≡ readies plan l + j → (k ≡ l) × (i ≡ j)
  pub steps_apart : (k l i j : ℕ) → i < plan.n → j < plan.n → echoes plan k + i ≢ readies plan l + j
  pub case_inside : (i c : ℕ) → i < plan.n → c < plan.cases → case_place plan i c < (needs_of plan).case_records
  pub case_apart : (i j c d : ℕ) → c < plan.cases → d < plan.cases → case_place plan i c ≡ case_place plan j d → (i ≡ j) × (c ≡ d)

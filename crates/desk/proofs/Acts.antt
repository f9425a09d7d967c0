-- A carrier that keeps its messages in order of age does what `act` says.
use Rattle.std.proofs.Common.{◌≡◌, ℕ, ◌+◌, List, [], ◌∷◌, ◌++◌, Some, None, Ok, Err, Option, Result, sym, refl, ap, ◌∙◌, append_assoc, append-nil}
use Rattle.protocol.specs.declared.messages.Message.{Message}
use Rattle.protocol.specs.declared.refusals.Refusal.{Refusal}
use Rattle.plan.specs.Kinds.{Line}
use Rattle.carrier.specs.Posting.{Posts, none, more}
use Rattle.memory.specs.Contents.{Held}
use Rattle.row.specs.Order.{TookAt, left_at, picked}
use Rattle.cases.specs.Steps.{round_at}
use Rattle.cases.specs.declared.steps.Progress.{Progress}
use Rattle.rules.specs.Turns.{Turn, Coin, Effect, Done, refusal, reacted, announcing, delivering, advancing}
use Rattle.rules.specs.Runs.{Event, refused, announced, opened, forged, delivered, advanced, turn_of, Happens}
use Rattle.runs.specs.Performed.{answer_of, asked, Carried, Performed}
use Rattle.runs.specs.declared.turns.Turn as runs
use Rattle.runs.specs.declared.turns.Answer.{Answer}
use Rattle.runs.specs.declared.turns.Answer.TheVariants.{Announced, Posted, Delivered, Advanced}
use Rattle.carriers.specs.Kinds.{Basket}
use Rattle.coin.specs.Sides.{word_side}
use Rattle.form.specs.declared.forms.Form.{Form}
use Rattle.item.specs.Tags.{tag_body}
use Rattle.item.specs.declared.tags.Tag.{Tag}
use Rattle.desk.specs.Desk.{waiting_in, places_of, keeping, asks, desk, desk_after, answered, turned, turns, acts_at, acts}
use Rattle.desk.specs.Act.{acted, does, takes, goes, doing, acting_by, act}

alike : {r s : Result Answer Refusal} {h k : Held} {ws us : List Message} → r ≡ s → h ≡ k → ws ≡ us → acted r h ws ≡ acted s k us
alike e f g = λ i. record { answer = e i; memory = f i; waiting = g i }

abbrev step_or : Progress → Option Progress → Progress
step_or s None = s
step_or s (Some t) = t

some_step : {s t : Progress} → Some s ≡ Some t → s ≡ t
some_step {s} e = ap (step_or s) e

module _ {C : Type 0} (listing : C → List Message) where
  abbrev pub behind : C → Message → C → Type 0
  behind x m y = listing y ≡ listing x ++ (m ∷ [])

  abbrev pub picking : C → ℕ → ℕ → Message → C → Type 0
  picking x process pick m y = TookAt process (picked process pick (listing x)) (listing x) m (listing y)

  -- what is posted waits behind the others
  posted : (x : C) {ms : List Message} {y : C} → Posts behind x ms y → listing y ≡ listing x ++ ms
  posted x none = sym (append-nil (listing x))
  posted x (more {ms} {m} {mid} before e) = e ∙ ap (λ (zs : List Message). zs ++ (m ∷ [])) (posted x before) ∙ append_assoc (listing x) ms (m ∷ [])

  module _ (line : Line) (coin : Coin) (h : Held) (capacity : ℕ) (x : C) where
    abbrev ws : List Message
    ws = listing x

    allowed : (turn : Turn) → refusal line capacity h ws turn ≡ None → act line coin h ws capacity turn ≡ doing line coin h ws turn
    unfolding act
    allowed turn e = ap (λ (o : Option Refusal). acting_by line coin h ws o turn) e

    denied : (turn : Turn) (e : Refusal) → refusal line capacity h ws turn ≡ Some e → act line coin h ws capacity turn ≡ acted (Err e) h ws
    unfolding act
    denied turn e f = ap (λ (o : Option Refusal). acting_by line coin h ws o turn) f

    did : {why : Option Refusal} {e : Effect} {next : Held} {us left zs : List Message} {n : ℕ} (before : List Message) (answer : ℕ → Answer) → Done why e next us left n → zs ≡ before ++ e.sent → does e before answer ≡ acted (Ok (answer n)) next zs
    did before answer end waits = alike (ap (λ (k : ℕ). Ok (answer k)) (sym end.counted)) (sym end.memory) (sym waits)

    happened : (e : Event) (next : Held) (y : C) → Happens line capacity h ws coin e next (listing y) → Carried listing behind picking line coin h e x y → act line coin h ws capacity (turn_of e) ≡ acted (answer_of e) next (listing y)
    happened (refused turn e) next y end carried = denied turn e end.first ∙ alike refl (sym end.memory) (sym end.carrier)
    happened (announced i b k n) next y a carried =
        let answer : ℕ → ℕ → Answer = λ z m. Announced (record { serial = z; posted = m }) in
        allowed (turn_of (announced i b k n)) a.done.allowed
        ∙ ap (λ (z : ℕ). does (announcing line h i z b) ws (answer z)) (sym a.serial)
        ∙ did ws (answer k) a.done (posted x carried)
    happened (opened i c v n) next y end carried = allowed (turn_of (opened i c v n)) end.allowed ∙ did ws Posted end (posted x carried)
    happened (forged m n) next y end carried = allowed (turn_of (forged m n)) end.allowed ∙ did ws Posted end (posted x carried)
    happened (delivered i pick m n accepted) next y d carried =
        let left = left_at i (picked i pick ws) ws in
        let waits = posted carried.mid carried.posts ∙ ap (λ (zs : List Message). zs ++ (delivering line h m).sent) carried.took.left in
        allowed (turn_of (delivered i pick m n accepted)) d.done.allowed
        ∙ ap (λ (r : Result Message Refusal). takes line coin h ws r left) carried.took.taken
        ∙ did left (λ k. Delivered (record { posted = k; accepted = (reacted line m h).reaction.accepted })) d.done waits
        ∙ (λ j. acted (Ok (Delivered (record { posted = n; accepted = sym d.answer j }))) next (listing y))
    happened (advanced i c r forced decides reached n) next y a carried =
        let answer : ℕ → ℕ → Answer = λ z m. Advanced (record { round = z; posted = m }) in
        let same : carried.0 ≡ a.step = some_step (sym carried.1 ∙ a.by) in
        let waits = posted x carried.2 ∙ ap (λ (t : Progress). ws ++ (advancing line h coin i c r t).sent) same in
        allowed (turn_of (advanced i c r forced decides reached n)) a.done.allowed
        ∙ ap (goes line coin h ws i c (round_at line.plan h i c)) a.by
        ∙ ap (λ (z : ℕ). does (advancing line h coin i c z a.step) ws (answer (z + 1))) (sym a.from)
        ∙ did ws (answer (r + 1)) a.done waits
        ∙ (λ j. acted (Ok (answer (sym a.answer j) n)) next (listing y))

    -- a turn that was performed
    performed : {I : Type 0} (ok : I → Type 0) (packed : I → ℕ) (turn : runs.Turn I) (r : Result Answer Refusal) (next : Held) (y : C) → Performed listing behind picking line coin h ok packed capacity turn r x next y → acted r next (listing y) ≡ act line coin h ws capacity (asked packed turn)
    performed ok packed turn r next y p =
        sym (ap (act line coin h ws capacity) (sym p.told) ∙ happened p.event next y p.occurs.happens p.occurs.carried ∙ alike (sym p.answer) refl refl)

-- a turn that was made where a line is open, with a coin that shows keep
pub turn_made : (standing : Option Line) (h : Held) (basket : Basket) (line : Line) (form : Form) (ok : Tag → Type 0) (turn : runs.Turn Tag) (word : ℕ) (r : Result Answer Refusal) (next : Held) (after : Basket) → standing ≡ Some line → Ok (asked tag_body turn) ≡ asks form → word ≡ 0 → Performed waiting_in (behind waiting_in) (picking waiting_in) line (λ process. word_side word) h ok tag_body (places_of basket) turn r basket next after → desk_after (answered r) (desk standing next (waiting_in after)) ≡ acts (places_of basket) (desk standing h (waiting_in basket)) form
turn_made standing h basket line form ok turn word r next after is_open told keeps made =
    let ws = waiting_in basket in
    let places = places_of basket in
    let acts_so : acted r next (waiting_in after) ≡ act line keeping h ws places (asked tag_body turn) =
    performed waiting_in line (λ process. word_side word) h places basket ok tag_body turn r next after made
    ∙ ap (λ (w : ℕ). act line (λ process. word_side w) h ws places (asked tag_body turn)) keeps in
    (λ j. desk_after (answered r) (desk (is_open j) next (waiting_in after)))
    ∙ (ap (turned line) (acts_so ∙ ap (turns places line h ws) told)
    ∙ ap (λ (l : Option Line). acts_at places l h ws form) (sym is_open))

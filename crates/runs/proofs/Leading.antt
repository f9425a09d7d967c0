-- Turns one after another.
use Rattle.std.proofs.Common.{◌≡◌, ℕ, ◌+◌, ◌<◌, ◌≤◌, List, [], ◌∷◌, map, reverse, length, Option, get_or, take, sym, refl, ap, ◌∙◌, subst, ⊎_elim}
use mathlib.Core.List.{map-append, reverse-append}
use Rattle.std.proofs.lemmas.List.{take_more, take_all}
use Rattle.protocol.specs.declared.messages.Message.{Message}
use Rattle.protocol.specs.declared.messages.Subject.TheVariants.{Item}
use Rattle.protocol.specs.declared.votes.Side.{Side}
use Rattle.plan.specs.Kinds.{Line}
use Rattle.coin.specs.Sides.{Shared}
use Rattle.memory.specs.Contents.{Held}
use Rattle.item.specs.Laws.{Faithful}
use Rattle.rules.specs.Turns.{Coin}
use Rattle.rules.specs.Runs.{Event, refused, announced, opened, forged, delivered, advanced, Run, after, turn_of, Announced, Announcing}
use Rattle.rules.specs.Promises.{Luck, Promises}
use Rattle.runs.specs.declared.turns.Turn.{Turn}
use Rattle.runs.specs.declared.turns.Turn.TheVariants.{Announce, Open, Forge, Deliver, Advance}
use Rattle.runs.specs.Performed.{asked, answer_of, Fits, Occurs, Performed}
use Rattle.runs.specs.Ran.{Straight, at_opening, one_more, Led, IsOf, Values, SharedLuck}

module _ {C : Type 0} (waiting : C → List Message) (posting : C → Message → C → Type 0) (taking : C → ℕ → ℕ → Message → C → Type 0) (line : Line) (capacity : ℕ) (coin : Coin) where
  -- what occurs is a run
  pub is_run : (start : Held) (from : C) → Run line capacity coin [] start (waiting from) → (es : List Event) (h : Held) (at : C) → Straight waiting posting taking line capacity coin start from es h at → Run line capacity coin es h (waiting at)
  is_run start from run _ _ _ at_opening = run
  is_run start from run _ _ _ (one_more {es} {h} {next} {before} {after = end} straight e occurs) = after (is_run start from run es h before straight) e occurs.happens

module _ {C I : Type 0} (waiting : C → List Message) (posting : C → Message → C → Type 0) (taking : C → ℕ → ℕ → Message → C → Type 0) (ok : I → Type 0) (packed : I → ℕ) (unpacked : ℕ → Option I) (line : Line) (capacity : ℕ) (coin : Coin) where
  module _ (turns : List (Turn I)) (start : Held) (from : C) where
    abbrev LedTo : List (Turn I) → Held → C → Type 0
    LedTo ts h at = Led waiting posting taking ok packed unpacked line capacity coin ts start from h at

    pub led_none : LedTo (take 0 turns) start from
    led_none = record { events = []; told = refl; straight = at_opening; fits = λ i k b t. absurd t }

    told_more : (k : ℕ) (t : Turn I) (e : Event) (es : List Event) → k < length turns → t ≡ get_or turns k t → turn_of e ≡ asked packed t → map turn_of es ≡ reverse (map (asked packed) (take k turns)) → map turn_of (e ∷ es) ≡ reverse (map (asked packed) (take (k + 1) turns))
    told_more k t e es lt is same before =
        let f = asked packed in
        (λ j. (same ∙ ap f is) j ∷ before j)
        ∙ sym (reverse-append (map f (take k turns)) (f (get_or turns k t) ∷ []))
        ∙ ap reverse (sym (map-append f (take k turns) (get_or turns k t ∷ [])))
        ∙ ap (λ xs. reverse (map f xs)) (sym (take_more turns k t lt))

    -- an announcement is of a value
    announces_value : (t : Turn I) (e : Event) → turn_of e ≡ asked packed t → Fits ok t (answer_of e) → (i k b : ℕ) → Announcing i k b e → (value : I) × ok value × (packed value ≡ b)
    announces_value (Announce i value) (announced j c l posted) same fits o k b is = (value, fits, cc)
    announces_value (Open i c v) (announced j d l posted) same fits o k b is = absurd cc
    announces_value (Forge m) (announced j d l posted) same fits o k b is = absurd cc
    announces_value (Deliver i pick) (announced j d l posted) same fits o k b is = absurd cc
    announces_value (Advance i c) (announced j d l posted) same fits o k b is = absurd cc
    announces_value t (refused u e) same fits o k b is = absurd is
    announces_value t (opened j d v posted) same fits o k b is = absurd is
    announces_value t (forged m posted) same fits o k b is = absurd is
    announces_value t (delivered j pick m posted accepted) same fits o k b is = absurd is
    announces_value t (advanced j d r f x reached posted) same fits o k b is = absurd is

    pub led_more : (k : ℕ) (t : Turn I) (room : ℕ) (h next : Held) (before at : C) → k < length turns → t ≡ get_or turns k t → room ≡ capacity → {r : _} → Performed waiting posting taking line coin h ok packed room t r before next at → LedTo (take k turns) h before → LedTo (take (k + 1) turns) next at
    led_more k t room h next before at lt is same done led =
        let e = done.event in
        let occurs = subst (λ (c : ℕ). Occurs waiting posting taking line coin h c e before next at) same done.occurs in
        record {
          events = e ∷ led.events;
          told = told_more k t e led.events lt is done.told led.told;
          straight = one_more led.straight e occurs;
          fits = λ i m b. ⊎_elim (announces_value t e done.told (subst (Fits ok t) done.answer done.fits) i m b) (led.fits i m b);
        }

    pub led_all : (k : ℕ) (h : Held) (at : C) → length turns ≤ k → LedTo (take k turns) h at → LedTo turns h at
    led_all k h at le led = subst (λ (ts : List (Turn I)). LedTo ts h at) (take_all k turns le) led

-- what is promised of bodies holds of values
pub values : {I : Type 0} (ok : I → Type 0) (packed : I → ℕ) (unpacked : ℕ → Option I) → Faithful ok packed unpacked → (line : Line) (coin : Coin) (es : List Event) (h : Held) (ws : List Message) → ((i k b : ℕ) → Announced es i k b → (value : I) × ok value × (packed value ≡ b)) → Promises line coin es h ws → Values packed unpacked line es h ws
values ok packed unpacked faithful line coin es h ws fits p = record {
  accepted = λ s i j b c ci cj x y. let same = p.agreement.bodies s i j b c ci cj x y in (same, ap unpacked same);
  items = λ i j k b ci cj x. let told = p.agreement.items i j k b ci cj x in (told, value_of i k b told);
  announced = λ rest i j k b ci cj x. (p.recorded.kept (Item i k) j b cj ((p.rest rest).announced i j k b ci cj x), value_of i k b x);
}
  where
    value_of : (i k b : ℕ) → Announced es i k b → (value : _) × IsOf packed unpacked b value
    value_of i k b x = let v = fits i k b x in (v.0, record { body = v.2; read = ap unpacked (sym v.2) ∙ faithful.full v.0 v.1 })

-- what a shared coin decides
pub shared_luck : (line : Line) (coin : Coin) (side : ℕ → ℕ → Side) (es : List Event) → Shared coin side → Luck line coin es → SharedLuck line side es
shared_luck line coin side es shared luck c k first only i ci ended = luck c k (side c k) first (λ o co. shared o c k) only i ci ended

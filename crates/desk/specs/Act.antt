-- What one turn does where the messages that wait stand in order of age and the one that is picked
-- is taken.
use Rattle.std.specs.Prelude.{ℕ, ◌+◌, List, ◌++◌, length, Some, None, Ok, Err, Option, Result}
use Rattle.protocol.specs.declared.messages.Message.{Message}
use Rattle.protocol.specs.declared.refusals.Refusal.{Refusal}
use Rattle.protocol.specs.declared.refusals.Refusal.TheVariants.{MayNotAdvance}
use Rattle.plan.specs.Kinds.{Line}
use Rattle.memory.specs.Contents.{Held, serial_at}
use Rattle.row.specs.Order.{answer_at, left_at, picked}
use Rattle.cases.specs.Steps.{round_at, step_at}
use Rattle.cases.specs.declared.steps.Progress.{Progress}
use Rattle.rules.specs.Turns.{Turn, Announce, Open, Forge, Deliver, Advance, Coin, Effect, refusal, reacted, announcing, opening, forging, delivering, advancing}
use Rattle.runs.specs.declared.turns.Answer.{Answer}
use Rattle.runs.specs.declared.turns.Answer.TheVariants.{Announced, Posted, Delivered, Advanced}

-- the answer, and what is then in memory and waits
pub record Acted : Type 0 where
  pub answer : Result Answer Refusal
  pub memory : Held
  pub waiting : List Message

abbrev pub acted : Result Answer Refusal → Held → List Message → Acted
acted r h ws = record { answer = r; memory = h; waiting = ws }

-- what a turn does, with an answer that is told how many messages are sent: these wait behind the
-- others
abbrev pub does : Effect → List Message → (ℕ → Answer) → Acted
does e ws answer = acted (Ok (answer (length e.sent))) e.held (ws ++ e.sent)

module _ (line : Line) (coin : Coin) (h : Held) (ws : List Message) where
  -- the message that was taken does its work
  abbrev pub takes : Result Message Refusal → List Message → Acted
  takes (Err e) left = acted (Err e) h ws
  takes (Ok m) left = does (delivering line h m) left (λ k. Delivered (record { posted = k; accepted = (reacted line m h).reaction.accepted }))

  abbrev pub goes : ℕ → ℕ → ℕ → Option Progress → Acted
  goes i c r None = acted (Err MayNotAdvance) h ws
  goes i c r (Some step) = does (advancing line h coin i c r step) ws (λ k. Advanced (record { round = r + 1; posted = k }))

  -- a turn that is not refused
  abbrev pub doing : Turn → Acted
  doing (Announce i b) = let k = serial_at h i in does (announcing line h i k b) ws (λ n. Announced (record { serial = k; posted = n }))
  doing (Open i c v) = does (opening line h i c v) ws Posted
  doing (Forge m) = does (forging line h m) ws Posted
  doing (Deliver i pick) = takes (answer_at i (picked i pick ws) ws) (left_at i (picked i pick ws) ws)
  doing (Advance i c) = goes i c (round_at line.plan h i c) (step_at line.plan h i c)

  -- a refused turn changes nothing
  abbrev pub acting_by : Option Refusal → Turn → Acted
  acting_by (Some e) turn = acted (Err e) h ws
  acting_by None turn = doing turn

  unfoldable pub act : ℕ → Turn → Acted
  act capacity turn = acting_by (refusal line capacity h ws turn) turn

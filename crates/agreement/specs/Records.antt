-- What a process keeps of one broadcast, and what an arriving message makes of it: the rule of
-- stage and step again, by which bodies were sent. That code and machine do the same is shown with
-- the rules of turns.
use Rattle.std.specs.Prelude.{ℕ, Bool, cond, Some, None, Option, ◌==◌, nat_le}
use Rattle.protocol.specs.Heard.{has}
use Rattle.protocol.specs.declared.messages.Step.{Step}
use Rattle.protocol.specs.declared.messages.Step.TheVariants.{Initial, Echo, Ready}
use Rattle.agreement.specs.Worlds.{World}

-- what a process keeps of one broadcast
pub record Rec : Type 0 where
  -- the body that this process echoed, sent ready for, accepted
  pub echoed : Option ℕ
  pub readied : Option ℕ
  pub accepted : Option ℕ
  -- the first body that each sender echoed to it, and sent ready for
  pub echo : ℕ → Option ℕ
  pub ready : ℕ → Option ℕ

-- the first value stands
abbrev pub first : Option ℕ → ℕ → Option ℕ
first None b = Some b
first (Some c) b = Some c

-- if q holds, body b is set where nothing stands
abbrev pub when : Bool → Option ℕ → ℕ → Option ℕ
when q o b = cond q (first o b) o

-- what was heard, after body b from process k: the first of each process stands
unfoldable pub heard_after : (ℕ → Option ℕ) → ℕ → ℕ → ℕ → Option ℕ
heard_after f k b j = when (j == k) (f j) b

-- how much the processes weigh that f has with body b
unfoldable pub support : World → (ℕ → Option ℕ) → ℕ → ℕ
support w f b = w.weight (λ k. has (f k) b)

-- What a message with body b from process k makes of a record of process o's broadcast, before
-- anything is accepted. An initial is echoed if it is the originator's. An echo or a ready is
-- heard; if its body then has enough support, the process echoes it and sends ready for it, each
-- unless it has done so for some body before. With more readies it accepts.
abbrev pub receive : World → ℕ → Step → ℕ → ℕ → Rec → Rec
receive w o Initial k b r =
    record {
      echoed = when (k == o) r.echoed b;
      readied = r.readied;
      accepted = r.accepted;
      echo = r.echo;
      ready = r.ready;
    }
receive w o Echo k b r =
    let heard = heard_after r.echo k b in
    let enough = nat_le w.echo (support w heard b) in
    record {
      echoed = when enough r.echoed b;
      readied = when enough r.readied b;
      accepted = r.accepted;
      echo = heard;
      ready = r.ready;
    }
receive w o Ready k b r =
    let heard = heard_after r.ready k b in
    let enough = nat_le w.ready (support w heard b) in
    record {
      echoed = when enough r.echoed b;
      readied = when enough r.readied b;
      accepted = when (nat_le w.accept (support w heard b)) r.accepted b;
      echo = r.echo;
      ready = heard;
    }

-- Once a body is accepted nothing changes.
abbrev pub once_accepted : Option ℕ → Rec → Rec → Rec
once_accepted None new old = new
once_accepted (Some c) new old = old

-- the record after a message
unfoldable pub handle : World → ℕ → Step → ℕ → ℕ → Rec → Rec
handle w o step k b r = once_accepted r.accepted (receive w o step k b r) r

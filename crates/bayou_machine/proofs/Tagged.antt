-- What a session is answered at a place that it has begun.
use Rattle.std.proofs.Common.{◌≡◌, ◌∙◌, ◌⊎◌, inl, inr, ℕ, ◌+◌, ◌<◌, Bool, true, false, List, Option, None, Some, IfSome, IsSome, Result, Ok, Err, ap, subst, sym, refl}
use Rattle.bayou_answers.specs.declared.answer.Answer.{Answer}
use Rattle.bayou_base.specs.declared.answer.Seen.{Seen}
use Rattle.bayou_base.specs.declared.limits.TheConstants.{MAX_PLACES}
use Rattle.bayou_base.specs.declared.session.SessionId.{SessionId}
use Rattle.bayou_base.specs.declared.tag.Tag.{Tag}
use Rattle.bayou_lang.specs.declared.program.Program.{Program}
use Rattle.bayou_server.specs.declared.answer.Written.{Written}
use Rattle.bayou_server.specs.declared.fault.Behind.{Behind}
use Rattle.bayou_server.specs.declared.fault.WriteFault.{WriteFault}
use Rattle.bayou_server.specs.Writes.{Writes}
use Rattle.bayou_session.specs.Needs.{IsTagOf, write_need}
use Rattle.bayou_machine.specs.declared.script_server.ScriptServer.{ScriptServer}
use Rattle.bayou_machine.specs.Inner.Tagged.{AnswersTag}
use Rattle.bayou_machine.specs.ScriptServer.{AnswersWrite, GetsNoReply, IsRead, IsWritten, IsWrittenAgain, no_place, stopped}
use Rattle.bayou_machine.specs.Seats.{Asked, Seat, asks_at, asks_once_more, begins_read, told_of_read, told_of_write}

-- what holds of the program that is lent holds of the one that is asked
pub of_asked : (asked : Option Asked) (program : Program) (P : Program → Type 0) → IfSome asked (λ a. program ≡ a.program) → P program → IfSome asked (λ a. P a.program)
of_asked None program P is holds = tt
of_asked (Some a) program P is holds = subst P is holds

-- what follows of each is so of the one that is asked
pub each_asked : (asked : Option Asked) (P Q : Asked → Type 0) → ((a : Asked) → P a → Q a) → IfSome asked P → IfSome asked Q
each_asked None P Q follows holds = tt
each_asked (Some a) P Q follows holds = follows a holds

pub any_asked : (asked : Option Asked) (Q : Asked → Type 0) → ((a : Asked) → Q a) → IfSome asked Q
any_asked None Q always = tt
any_asked (Some a) Q always = always a

-- what is answered under the tag is answered to the session that began the place for it
pub at_place : (who : SessionId) (number : ℕ) (tag : Tag) (program : Program) (begins : Seat → Seat) (before after : ScriptServer) (old begun now : Seat) (answer : Answer)
    → old.told.begun < MAX_PLACES → IsTagOf old.told number tag → begun ≡ begins old → write_need (begins old).told ≡ write_need old.told
    → AnswersTag who tag old.drops program before begun answer after now
    → (GetsNoReply who begins before old answer now × (after ≡ before)) ⊎ AnswersWrite who number program begins before old answer after now
at_place who number tag program begins before after old begun now answer left tagged is need (inl silent) =
    inl (stopped silent.left silent.was left silent.answered (silent.same ∙ is), silent.is)
at_place who number tag program begins before after old begun now answer left tagged is need (inr replied) = inr (record {
  old = replied.old;
  new = replied.new;
  tag = tag;
  result = replied.result;
  was = replied.was;
  left = left;
  asked = tagged;
  writes = subst (λ (n : List ℕ). Writes replied.old.core tag n program replied.result replied.new.core) (ap (λ (s : Seat). write_need s.told) is ∙ need) replied.writes;
  stores = replied.stores;
  sound = replied.sound;
  others = replied.others;
  safe = replied.safe;
  calls = replied.calls;
  answered = replied.answered;
  is = replied.is;
  told_of = replied.told_of ∙ ap (λ (s : Seat). told_of_write old.drops s replied.result) is;
})

-- and to one that began it to ask again
pub again_at_place : (who : SessionId) (tag : Tag) (program : Program) (before after : ScriptServer) (old begun now : Seat) (answer : Answer) (asked : Option ℕ)
    → old.told.begun < MAX_PLACES → old.told.asked ≡ asked → IsSome asked → IfSome asked (λ number. IsTagOf old.told number tag) → begun ≡ asks_once_more old
    → AnswersTag who tag old.drops program before begun answer after now → IsWrittenAgain who program before old answer after now
again_at_place who tag program before after old begun now answer None left is some tagged begins answered = absurd (cc)
again_at_place who tag program before after old begun now answer (Some number) left is some tagged begins answered =
    elim (at_place who number tag program asks_once_more before after old begun now answer left tagged begins refl answered) as (λ _. IsWrittenAgain who program before old answer after now) [
      | inl none ↦ inl none
      | inr replied ↦ inr (number, is, replied)
    ]

-- ---- what may be asked again then was asked where it might be before

pub told_within : (W : Asked → Type 0) (drops : Bool) (seat : Seat) (reply : Result Written WriteFault) → IfSome seat.asked W → IfSome (told_of_write drops seat reply).asked W
told_within W true seat reply within = within
told_within W false seat (Ok written) within = tt
told_within W false seat (Err refusal) within = within

pub no_reply_within : (W : Asked → Type 0) (who : SessionId) (begins : Seat → Seat) (replica : ScriptServer) (seat now : Seat) (answer : Answer)
    → GetsNoReply who begins replica seat answer now → IfSome seat.asked W → IfSome (begins seat).asked W → IfSome now.asked W
no_reply_within W who begins replica seat now answer (no_place full is same) old begun = subst (λ (s : Seat). IfSome s.asked W) (sym same) old
no_reply_within W who begins replica seat now answer (stopped left was room is same) old begun = subst (λ (s : Seat). IfSome s.asked W) (sym same) begun

pub reply_within : (W : Asked → Type 0) (who : SessionId) (number : ℕ) (program : Program) (begins : Seat → Seat) (before after : ScriptServer) (seat now : Seat) (answer : Answer)
    → AnswersWrite who number program begins before seat answer after now → IfSome (begins seat).asked W → IfSome now.asked W
reply_within W who number program begins before after seat now answer replied begun =
    subst (λ (s : Seat). IfSome s.asked W) (sym replied.told_of) (told_within W seat.drops (begins seat) replied.result begun)

pub written_within : (W : Asked → Type 0) (who : SessionId) (place : ℕ) (program : Program) (before after : ScriptServer) (seat now : Seat) (answer : Answer)
    → IsWritten who place program before seat answer after now → IfSome seat.asked W → IfSome (asks_at place program seat).asked W → IfSome now.asked W
written_within W who place program before after seat now answer (inl none) old begun = no_reply_within W who (asks_at place program) before seat now answer none.0 old begun
written_within W who place program before after seat now answer (inr replied) old begun =
    reply_within W who (seat.told.begun + 1) program (asks_at place program) before after seat now answer replied begun

pub again_within : (W : Asked → Type 0) (who : SessionId) (program : Program) (before after : ScriptServer) (seat now : Seat) (answer : Answer)
    → IsWrittenAgain who program before seat answer after now → IfSome seat.asked W → IfSome now.asked W
again_within W who program before after seat now answer (inl none) old = no_reply_within W who asks_once_more before seat now answer none.0 old old
again_within W who program before after seat now answer (inr (number, is, replied)) old =
    reply_within W who number program asks_once_more before after seat now answer replied old

pub again_kept : (W : Asked → Type 0) (who : SessionId) (before after : ScriptServer) (seat now : Seat) (answer : Answer) (asked : Option Asked) → IsSome asked
    → IfSome asked (λ a. IsWrittenAgain who a.program before seat answer after now) → IfSome seat.asked W → IfSome now.asked W
again_kept W who before after seat now answer None some does old = absurd (cc)
again_kept W who before after seat now answer (Some a) some does old = again_within W who a.program before after seat now answer does old

read_told_within : (W : Asked → Type 0) (drops : Bool) (seat : Seat) (reply : Result Seen Behind) → IfSome seat.asked W → IfSome (told_of_read drops seat reply).asked W
read_told_within W true seat reply within = within
read_told_within W false seat (Ok seen) within = within
read_told_within W false seat (Err behind) within = within

pub read_within : (W : Asked → Type 0) (who : SessionId) (key : List ℕ) (replica : ScriptServer) (seat now : Seat) (answer : Answer)
    → IsRead who key replica seat answer now → IfSome seat.asked W → IfSome now.asked W
read_within W who key replica seat now answer (inl none) old = no_reply_within W who begins_read replica seat now answer none old tt
read_within W who key replica seat now answer (inr served) old =
    subst (λ (s : Seat). IfSome s.asked W) (sym served.told_of) (read_told_within W seat.drops (begins_read seat) served.result tt)

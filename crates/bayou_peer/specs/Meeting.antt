-- What a pull makes of Writes that another server sends it (anti-entropy, Petersen et al. 1997).
use Rattle.std.specs.Prelude.{◌≡◌, ◌≤◌, ℕ, List, [], ◌∷◌, ◌++◌, Option, None, Some, Result, Ok, Err, if◌then◌else◌, length, nat_le, take}
use Rattle.bayou_lang.specs.declared.write.Write.{Write}
use Rattle.bayou_frames.specs.declared.fault.ChannelFault.TheVariants as faults
use Rattle.bayou_peer.specs.declared.fault.PullFault.{PullFault}
use Rattle.bayou_peer.specs.declared.fault.PullFault.TheVariants.{Stream, Refused}
use Rattle.bayou_peer.specs.declared.pulling.PullStopped.{PullStopped}
use Rattle.bayou_peer.specs.declared.pulling.Pulled.{Pulled}
use Rattle.bayou_peer.specs.Pulls.{Ways}
use Rattle.bayou_frames.specs.Spelled.{answer_bytes, items_of}
use Rattle.bayou_server.specs.TakesAll.{TakesEach, hads, news}
use Rattle.bayou_server.specs.declared.answer.Took.{Took}
use Rattle.bayou_wire.specs.Stream.{spellings}

-- The answer of these Writes, cut after so many Items where that is asked. Where fewer come, nothing is cut.
abbrev pub cut_answer : Option ℕ → List Write → List ℕ
cut_answer None sent = answer_bytes sent
cut_answer (Some items) sent = if nat_le items (length sent) then spellings (items_of (take items sent)) else answer_bytes sent

-- the Writes of which Items come
abbrev pub coming : Option ℕ → List Write → List Write
coming None sent = sent
coming (Some items) sent = take items sent

-- no End comes
abbrev pub IsCutOff : Option ℕ → List Write → Type 0
IsCutOff None sent = ⊥
IsCutOff (Some items) sent = items ≤ length sent

-- The first of the Writes were given one after another, each was taken, and these are left.
pub record TakesFirst {S : Type 0} (ways : Ways S) (writes : List Write) (start now : S) (taken had : ℕ) (left : List Write) : Type 0 where
  pub given : List Write
  pub tooks : List Took
  pub split : writes ≡ given ++ left
  pub took : TakesEach ways.takes start given tooks now
  pub new : taken ≡ news tooks
  pub held : had ≡ hads tooks

-- How a pull ends early that is sent these Writes in memory, one after another, and what it leaves: all that came were taken, and their End was cut
-- off; or one of them was refused; or memory ended it after some that were taken.
abbrev pub MeetsStopped : {S : Type 0} → Ways S → (sent : List Write) → (cut : Option ℕ) → (start : S) → (before : Pulled) → PullFault → (now : S) → Type 0
MeetsStopped {S} ways sent cut start before (Refused refusal) now =
    (mid : S) × (write : Write) × (left : List Write)
    × TakesFirst ways (coming cut sent) start mid before.taken before.had (write ∷ left) × ways.takes mid write (Err refusal) now
MeetsStopped ways sent cut start before (Stream faults.Cut) now = IsCutOff cut sent × TakesFirst ways (coming cut sent) start now before.taken before.had []
MeetsStopped ways sent cut start before (Stream faults.BadFrame) now = ⊥
MeetsStopped ways sent cut start before (Stream faults.Write) now = ⊥
MeetsStopped ways sent cut start before (Stream faults.Read) now = ⊥
MeetsStopped ways sent cut start before (Stream faults.TooManyTurns) now = ⊥
MeetsStopped ways sent cut start before (Stream faults.OutOfMemory) now = (left : List Write) × TakesFirst ways (coming cut sent) start now before.taken before.had left

-- How a pull ends that is sent these Writes in memory: an End of their number came, and all of them were taken; or it ended early.
abbrev pub Meets : {S : Type 0} → Ways S → (sent : List Write) → (cut : Option ℕ) → (start : S) → Result Pulled PullStopped → (now : S) → Type 0
Meets ways sent cut start (Ok pulled) now = ¬ (IsCutOff cut sent) × TakesFirst ways (coming cut sent) start now pulled.taken pulled.had []
Meets ways sent cut start (Err stopped) now = MeetsStopped ways sent cut start stopped.before stopped.fault now

-- What becomes of a server of a script that is to take Writes from another (anti-entropy, Petersen et al. 1997).
use Rattle.std.specs.Prelude.{◌≡◌, ◌⊎◌, ℕ, List, Option, Some, replicate}
use Rattle.bayou_base.specs.declared.limits.TheConstants.{SERVERS}
use Rattle.bayou_device.specs.Memory.{Memory}
use Rattle.bayou_device.specs.MemoryDevice.{memory_device}
use Rattle.bayou_lang.specs.Writes.{count_of, lacking_of}
use Rattle.bayou_server.specs.TakesAll.{TakesAt}
use Rattle.bayou_peer.specs.Meeting.{Meets}
use Rattle.bayou_peer.specs.Pulls.{Ways}
use Rattle.bayou_server.specs.declared.answer.Stopped.{Stopped as StoppedServer}
use Rattle.bayou_answers.specs.declared.answer.Answer.{Answer}
use Rattle.bayou_answers.specs.declared.answer.Answer.TheVariants.{Exchanged}
use Rattle.bayou_answers.specs.declared.answer.Transfer.{Transfer}
use Rattle.bayou_answers.specs.declared.answer.Transfer.TheVariants.{NotRunning, Ended}
use Rattle.bayou_machine.specs.declared.script_server.ScriptServer.{ScriptServer}
use Rattle.bayou_machine.specs.declared.script_server.ScriptServer.TheVariants.{Running, Stopped}
use Rattle.bayou_machine.specs.Standing.{Standing, StandsAt, with_server}
use Rattle.bayou_machine.specs.ScriptServer.{Serving, held_by}

-- how a server on a device in memory holds its Writes, and how it takes one
abbrev pub serving_ways : Ways Serving
serving_ways = record { list = λ server. Some server.core.held; takes = TakesAt memory_device }

abbrev pub IsStopped : ScriptServer → Type 0
IsStopped replica = (left : StoppedServer Memory) × (replica ≡ Stopped left)

-- Where the first offers these counts, and the second runs too, the second's Writes that they don't cover are sent to it, one after another
-- in stamp order, and it takes those that come.
abbrev pub IsExchanged : List ℕ → Option ℕ → (before source : ScriptServer) → Transfer → (after : ScriptServer) → Type 0
IsExchanged counts cut before source NotRunning after = (IsStopped before ⊎ IsStopped source) × (after ≡ before)
IsExchanged counts cut before source (Ended result) after =
    (old new other : Serving) × (before ≡ Running old) × (source ≡ Running other) × (after ≡ Running new)
    × Meets serving_ways (lacking_of counts other.core.held) cut old result new

-- what a server offers that asks for what it lacks: for each server the number of its Writes that it holds
abbrev pub own_counts : ScriptServer → List ℕ
own_counts replica = count_of (held_by replica)

-- and one that asks for all
abbrev pub zero_counts : ScriptServer → List ℕ
zero_counts replica = replicate SERVERS 0

-- What is exchanged between the two changes how the first stands, and nothing else.
pub record Exchanges (counts : ScriptServer → List ℕ) (cut : Option ℕ) (old : Standing) (to source : ℕ) (answer : Answer) (new : Standing) : Type 0 where
  pub before : ScriptServer
  pub sender : ScriptServer
  pub after : ScriptServer
  pub exchange : Transfer
  pub takes : StandsAt old to before
  pub sends : StandsAt old source sender
  pub answered : answer ≡ Exchanged exchange
  pub does : IsExchanged (counts before) cut before sender exchange after
  pub only : new ≡ with_server old to after

-- What one server sends to another, and what that makes of it. No public clause cites this.
use Rattle.std.specs.Prelude.{◌≡◌, ◌≤◌, ℕ, List, None, Option, Err, All, length}
use Rattle.bayou_base.specs.declared.limits.TheConstants.{MAX_WRITES}
use Rattle.bayou_lang.specs.declared.write.Write.{Write}
use Rattle.bayou_lang.specs.Ranges.{IsWrite}
use Rattle.bayou_lang.specs.Writes.{lacking_of}
use Rattle.bayou_frames.specs.declared.fault.ChannelFault.TheVariants.{OutOfMemory}
use Rattle.bayou_peer.specs.declared.fault.PullFault.TheVariants.{Stream}
use Rattle.bayou_peer.specs.Meeting.{Meets}
use Rattle.bayou_peer.specs.Pulls.{nothing_pulled}
use Rattle.bayou_frames.specs.Spelled.{answer_bytes}
use Rattle.bayou_answers.specs.declared.answer.Transfer.{Transfer}
use Rattle.bayou_answers.specs.declared.answer.Transfer.TheVariants.{NotRunning, Ended}
use Rattle.bayou_machine.specs.declared.script_server.ScriptServer.{ScriptServer}
use Rattle.bayou_machine.specs.declared.script_server.ScriptServer.TheVariants.{Running}
use Rattle.bayou_machine.specs.Exchange.{IsStopped, serving_ways}
use Rattle.bayou_machine.specs.ScriptServer.{Serving}

-- the bytes are the answer of these Writes
pub record Sends (sent : List Write) (bytes : List ℕ) : Type 0 where
  pub valid : All IsWrite sent
  pub few : length sent ≤ MAX_WRITES
  pub spelled : bytes ≡ answer_bytes sent

-- the server runs, and the bytes are its answer to an Offer of these counts
abbrev pub IsAnswer : List ℕ → ScriptServer → List ℕ → Type 0
IsAnswer counts replica bytes = (server : Serving) × (replica ≡ Running server) × Sends (lacking_of counts server.core.held) bytes

-- there is no answer
abbrev pub IsNoAnswer : ScriptServer → Transfer → Type 0
IsNoAnswer replica NotRunning = IsStopped replica
IsNoAnswer replica (Ended result) = (server : Serving) × (replica ≡ Running server) × (result ≡ Err (record { fault = Stream OutOfMemory; before = nothing_pulled; refused = None }))

-- what a server makes of these Writes, cut or not
abbrev pub IsGiven : List Write → Option ℕ → ScriptServer → Transfer → ScriptServer → Type 0
IsGiven sent cut before NotRunning after = IsStopped before × (after ≡ before)
IsGiven sent cut before (Ended result) after = (old new : Serving) × (before ≡ Running old) × (after ≡ Running new) × Meets serving_ways sent cut old result new

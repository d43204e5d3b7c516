-- What becomes of a server that takes Writes from another.
use Rattle.std.proofs.Common.{◌≡◌, inl, inr, ℕ, List, [], Option, Err, subst, sym, refl}
use Rattle.bayou_lang.specs.declared.write.Write.{Write}
use Rattle.bayou_lang.specs.Writes.{lacking_of}
use Rattle.bayou_frames.specs.declared.fault.ChannelFault.TheVariants.{OutOfMemory}
use Rattle.bayou_peer.specs.declared.fault.PullFault.TheVariants.{Stream}
use Rattle.bayou_peer.specs.Meeting.{Meets, MeetsStopped, coming}
use Rattle.bayou_peer.specs.Pulls.{nothing_pulled}
use Rattle.bayou_answers.specs.declared.answer.Transfer.{Transfer}
use Rattle.bayou_answers.specs.declared.answer.Transfer.TheVariants.{NotRunning, Ended}
use Rattle.bayou_machine.specs.declared.script_server.ScriptServer.{ScriptServer}
use Rattle.bayou_machine.specs.declared.script_server.ScriptServer.TheVariants.{Running}
use Rattle.bayou_machine.specs.Exchange.{IsExchanged, serving_ways}
use Rattle.bayou_machine.specs.Inner.Sent.{IsGiven, IsNoAnswer}
use Rattle.bayou_machine.specs.ScriptServer.{Serving}

none_for_memory : (sent : List Write) (cut : Option ℕ) (server : Serving) → MeetsStopped serving_ways sent cut server nothing_pulled (Stream OutOfMemory) server
none_for_memory sent cut server = (coming cut sent, record { given = []; tooks = []; split = refl; took = refl; new = refl; held = refl })

-- where there is no answer nothing was taken
pub no_answer : (counts : List ℕ) (cut : Option ℕ) (before sender : ScriptServer) (exchange : Transfer) (server : Serving) → before ≡ Running server → IsNoAnswer sender exchange
    → IsExchanged counts cut before sender exchange before
no_answer counts cut before sender NotRunning server runs stopped = (inr stopped, refl)
no_answer counts cut before sender (Ended result) server runs (other, is, memory) =
    (server, server, other, runs, is, runs, subst (λ r. Meets serving_ways (lacking_of counts other.core.held) cut server r server) (sym memory) (none_for_memory (lacking_of counts other.core.held) cut server))

-- what was given is what was sent
pub given : (counts : List ℕ) (cut : Option ℕ) (before sender after : ScriptServer) (exchange : Transfer) (other : Serving) → sender ≡ Running other
    → IsGiven (lacking_of counts other.core.held) cut before exchange after → IsExchanged counts cut before sender exchange after
given counts cut before sender after NotRunning other is (stopped, same) = (inl stopped, same)
given counts cut before sender after (Ended result) other is (old, new, was, now, meets) = (old, new, other, was, is, now, meets)

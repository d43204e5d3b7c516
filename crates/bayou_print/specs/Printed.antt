-- What is printed for an answer: this project's own lines.
use Rattle.std.specs.Prelude.{ℕ, List, [], ◌∷◌, ◌++◌, Option, None, Some, Ok, Err, zero, suc, map, flat_map, slice_index, codes, decimal}
use Rattle.std.specs.Fmt.{signed_decimal}
use Rattle.std.specs.List.{join_with_byte}
use Rattle.serde_json.specs.Data.{string}
use Rattle.serde_json.specs.Written.{compact_text}
use Rattle.bayou_audit.specs.declared.totals.Totals.{Totals}
use Rattle.bayou_base.specs.declared.refusal.Refusal.{Refusal}
use Rattle.bayou_base.specs.declared.refusal.Refusal.TheVariants as refusals
use Rattle.bayou_base.specs.Refusal.{refusal_word}
use Rattle.bayou_base.specs.declared.value.Value.{Value}
use Rattle.bayou_base.specs.declared.value.Value.TheVariants.{Num, Text}
use Rattle.bayou_lang.specs.declared.eval.Outcome.{Outcome}
use Rattle.bayou_lang.specs.declared.eval.Outcome.TheVariants.{Updated, Merged, Nothing}
use Rattle.bayou_judge.specs.History.{lists_of}
use Rattle.bayou_log.specs.declared.listing.Listed.{Listed}
use Rattle.bayou_base.specs.declared.wid.Wid.{Wid}
use Rattle.bayou_server.specs.declared.fault.StartFault.{StartFault}
use Rattle.bayou_server.specs.declared.fault.StartFault.TheVariants as starting
use Rattle.bayou_answers.specs.declared.answer.Answer.{Answer}
use Rattle.bayou_answers.specs.declared.answer.Answer.TheVariants.{Done, Wrote, Read, Refused, Lost, NotAgain, Logged, Stopped, Recovered, Exchanged, Counted, Judged, Surveyed, Booked}
use Rattle.bayou_frames.specs.declared.fault.ChannelFault.TheVariants as streams
use Rattle.bayou_peer.specs.declared.fault.PullFault.{PullFault}
use Rattle.bayou_peer.specs.declared.fault.PullFault.TheVariants as pulling
use Rattle.bayou_server.specs.declared.fault.TakeFault.{TakeFault}
use Rattle.bayou_server.specs.declared.fault.TakeFault.TheVariants as taking
use Rattle.bayou_answers.specs.declared.answer.Transfer.{Transfer}
use Rattle.bayou_answers.specs.declared.answer.Transfer.TheVariants.{NotRunning as NothingRuns, Ended}
use Rattle.bayou_answers.specs.declared.answer.Recovery.{Recovery}
use Rattle.bayou_answers.specs.declared.answer.Recovery.TheVariants.{Reopened, NotReopened, NotRunning, Restarted, NotRestarted}
use Rattle.bayou_node.specs.declared.node_settled.NodeSettled.{NodeSettled}
use Rattle.bayou_print.specs.Booked.{book_text}
use Rattle.bayou_print.specs.Verdicts.{refused_text, surveyed_text, verdict_text}

-- the counts of the first servers, in order
abbrev pub first_counts : ℕ → List ℕ → List ℕ
first_counts zero counts = []
first_counts (suc servers) counts = first_counts servers counts ++ slice_index counts servers ∷ []

-- these counts, joined by commas
abbrev pub counts_text : ℕ → List ℕ → List ℕ
counts_text servers counts = join_with_byte 44 (map decimal (first_counts servers counts))

-- what a read found: nothing, a number in decimal, or a text as a JSON string
abbrev pub value_text : Option Value → List ℕ
value_text None = codes "none"
value_text (Some (Num number)) = codes "num " ++ signed_decimal number
value_text (Some (Text text)) = codes "text " ++ compact_text (string text)

-- why an operation was refused
abbrev pub refusal_text : ℕ → Refusal → List ℕ
refusal_text servers (refusals.Behind vector) = codes "behind at " ++ counts_text servers vector
refusal_text servers refusal = refusal_word refusal

-- why a server wasn't started
abbrev pub starting_text : StartFault → List ℕ
starting_text (starting.Journal why) = codes "journal"
starting_text (starting.BadRecord at) = codes "record"
starting_text (starting.Gap at) = codes "gap"
starting_text starting.LogFull = codes "full"
starting_text starting.OutOfMemory = codes "memory"

-- the name of a Write
abbrev pub wid_text : Wid → List ℕ
wid_text wid = decimal wid.origin.index ++ (codes ":" ++ decimal wid.seq)

-- the Write that a reopening adopted, if any
abbrev pub adopted_text : Option Wid → List ℕ
adopted_text None = codes "none"
adopted_text (Some wid) = wid_text wid

-- the end of a Write's line: what became of it; alternatives are counted from 0 on
abbrev pub outcome_text : Outcome → List ℕ
outcome_text Updated = codes " updated\n"
outcome_text (Merged index) = codes " merged " ++ (decimal index ++ codes "\n")
outcome_text Nothing = codes " nothing\n"

-- the line of a Write in the log of a server
abbrev pub listed_text : ℕ → Listed → List ℕ
listed_text server listed =
    codes "log " ++ (decimal server ++ (codes " " ++ (decimal listed.wid.origin.index ++ (codes ":" ++ (decimal listed.wid.seq
    ++ (codes " clock " ++ (decimal listed.stamp.clock ++ outcome_text listed.outcome)))))))

-- the lines of an answer that has one for each of its parts: of the Writes in a log, of the sessions in a survey, of a book
abbrev pub lines_text : Answer → List ℕ
lines_text (Logged server listing vector) = flat_map (listed_text server.index) listing.items
lines_text (Surveyed (Ok list)) = flat_map surveyed_text list.items
lines_text (Surveyed (Err refusal)) = []
lines_text (Booked file) = book_text file.count file.entries.items (lists_of file.dumps.items)
lines_text (Judged verdict) = []
lines_text Done = []
lines_text (Wrote session accepted) = []
lines_text (Read session key seen) = []
lines_text (Refused session refusal) = []
lines_text (Lost session) = []
lines_text (NotAgain session) = []
lines_text (Stopped server) = []
lines_text (Recovered recovery) = []
lines_text (Exchanged transfer) = []
lines_text (Counted totals) = []

-- the line of a server that was to be reopened or restarted
abbrev pub recovery_text : Recovery → List ℕ
recovery_text (Reopened server adopted) =
    codes "reopened " ++ (decimal server.index ++ (codes " adopted " ++ (adopted_text adopted ++ codes "\n")))
recovery_text (NotReopened refusal) = codes "reopen refused " ++ (refusal_word refusal ++ codes "\n")
recovery_text NotRunning = codes "reopen refused stopped\n"
recovery_text (Restarted server holds dropped) =
    codes "restarted " ++ (decimal server.index ++ (codes " holds " ++ (decimal holds ++ (codes " dropped " ++ (decimal dropped ++ codes "\n")))))
recovery_text (NotRestarted refusal) = codes "restart refused " ++ (starting_text refusal ++ codes "\n")

-- why a Write that came wasn't taken
abbrev pub taking_text : TakeFault → List ℕ
taking_text taking.Conflict = codes "conflict"
taking_text taking.Down = codes "down"
taking_text taking.OwnLost = codes "ownlost"
taking_text taking.Gap = codes "gap"
taking_text taking.BadStamp = codes "stamp"
taking_text taking.LogFull = codes "full"
taking_text taking.OutOfMemory = codes "memory"
taking_text taking.Journal = codes "journal"

-- why a pull ended before its End
abbrev pub pulling_text : PullFault → List ℕ
pulling_text (pulling.Refused refusal) = taking_text refusal
pulling_text (pulling.Stream streams.Read) = codes "read"
pulling_text (pulling.Stream streams.Write) = codes "write"
pulling_text (pulling.Stream streams.Cut) = codes "cut"
pulling_text (pulling.Stream streams.BadFrame) = codes "frame"
pulling_text (pulling.Stream streams.TooManyTurns) = codes "turns"
pulling_text (pulling.Stream streams.OutOfMemory) = codes "memory"

-- the line of a server that was to take Writes from another
abbrev pub transfer_text : Transfer → List ℕ
transfer_text NothingRuns = codes "pull fault lost\n"
transfer_text (Ended (Ok pulled)) = codes "pulled " ++ (decimal pulled.taken ++ (codes " had " ++ (decimal pulled.had ++ codes "\n")))
transfer_text (Ended (Err stopped)) = codes "pull fault " ++ (pulling_text stopped.fault ++ codes "\n")

-- how many reads, Writes and refusals were filed, and how many slips are out
abbrev pub totals_text : Totals → List ℕ
totals_text totals =
    codes "totals reads " ++ (decimal totals.reads ++ (codes " writes " ++ (decimal totals.writes
    ++ (codes " refusals " ++ (decimal totals.refusals ++ (codes " slips " ++ (decimal totals.slips ++ codes "\n")))))))

-- how many Writes a server accepted, and how many it adopted as it was reopened
abbrev pub settled_text : ℕ → NodeSettled → List ℕ
settled_text server settled =
    codes "settled " ++ (decimal server ++ (codes " accepted " ++ (decimal settled.accepted ++ (codes " adopted " ++ (decimal settled.adopted ++ codes "\n")))))

-- the last line that is printed for an answer, or nothing where there is nothing to tell
abbrev pub last_text : ℕ → Answer → List ℕ
last_text servers Done = []
last_text servers (Wrote session accepted) =
    decimal session.index ++ (codes " wrote " ++ (decimal accepted.wid.origin.index ++ (codes ":" ++ (decimal accepted.wid.seq
    ++ (codes " clock " ++ (decimal accepted.stamp.clock ++ (codes " deps " ++ (counts_text servers accepted.deps ++ codes "\n"))))))))
last_text servers (Read session key seen) =
    decimal session.index ++ (codes " read " ++ (key ++ (codes " " ++ (value_text seen.value
    ++ (codes " at " ++ (counts_text servers seen.vector ++ codes "\n"))))))
last_text servers (Refused session refusal) =
    decimal session.index ++ (codes " refused " ++ (refusal_text servers refusal ++ codes "\n"))
last_text servers (Lost session) = decimal session.index ++ codes " lost\n"
last_text servers (NotAgain session) = decimal session.index ++ codes " again none\n"
last_text servers (Logged server listing vector) =
    codes "log " ++ (decimal server.index ++ (codes " at " ++ (counts_text servers vector ++ codes "\n")))
last_text servers (Stopped server) = codes "stopped " ++ (decimal server.index ++ codes "\n")
last_text servers (Recovered recovery) = recovery_text recovery
last_text servers (Exchanged transfer) = transfer_text transfer
last_text servers (Counted totals) = totals_text totals
last_text servers (Judged verdict) = verdict_text verdict
last_text servers (Surveyed (Ok list)) = []
last_text servers (Surveyed (Err refusal)) = refused_text refusal
last_text servers (Booked file) = []

-- what is printed for an answer: the lines of its parts go before its last
abbrev pub answer_text : ℕ → Answer → List ℕ
answer_text servers answer = lines_text answer ++ last_text servers answer

-- What is printed as JSON for an answer: an object a line (RFC 8259), this project's own.
use Rattle.std.specs.Prelude.{ℕ, zero, suc, List, [], ◌++◌, Option, None, Some, Ok, Err, flat_map, codes, decimal}
use Rattle.std.specs.Fmt.{signed_decimal}
use Rattle.serde_json.specs.Data.{string}
use Rattle.serde_json.specs.Written.{compact_text}
use Rattle.bayou_answers.specs.declared.answer.Answer.{Answer}
use Rattle.bayou_answers.specs.declared.answer.Answer.TheVariants.{Done, Wrote, Read, Refused, Lost, NotAgain, Logged, Stopped, Recovered, Exchanged, Counted, Judged, Surveyed, Booked}
use Rattle.bayou_answers.specs.declared.answer.Recovery.{Recovery}
use Rattle.bayou_answers.specs.declared.answer.Recovery.TheVariants.{Reopened, NotReopened, NotRunning, Restarted, NotRestarted}
use Rattle.bayou_answers.specs.declared.answer.Transfer.{Transfer}
use Rattle.bayou_answers.specs.declared.answer.Transfer.TheVariants.{NotRunning as NothingRuns, Ended}
use Rattle.bayou_audit.specs.declared.totals.Totals.{Totals}
use Rattle.bayou_base.specs.Refusal.{refusal_word}
use Rattle.bayou_base.specs.declared.answer.Accepted.{Accepted}
use Rattle.bayou_base.specs.declared.answer.Seen.{Seen}
use Rattle.bayou_base.specs.declared.entry.Entry.{Entry}
use Rattle.bayou_base.specs.declared.refusal.Refusal.{Refusal}
use Rattle.bayou_base.specs.declared.refusal.Refusal.TheVariants as refusals
use Rattle.bayou_base.specs.declared.server.ServerId.{ServerId}
use Rattle.bayou_base.specs.declared.session.SessionId.{SessionId}
use Rattle.bayou_base.specs.declared.value.Value.{Value}
use Rattle.bayou_base.specs.declared.value.Value.TheVariants.{Num, Text}
use Rattle.bayou_base.specs.declared.wid.Wid.{Wid}
use Rattle.bayou_explain.specs.Json.{surveys_json, verdict_json}
use Rattle.bayou_judge.specs.History.{dump_of, lists_of}
use Rattle.bayou_lang.specs.declared.eval.Outcome.{Outcome}
use Rattle.bayou_lang.specs.declared.eval.Outcome.TheVariants.{Updated, Merged, Nothing}
use Rattle.bayou_lang.specs.declared.write.Write.{Write}
use Rattle.bayou_log.specs.declared.listing.Listed.{Listed}
use Rattle.bayou_peer.specs.declared.pulling.Pulled.{Pulled}
use Rattle.bayou_print.specs.Booked.{entry_said}
use Rattle.bayou_print.specs.Printed.{counts_text, pulling_text, starting_text}
use Rattle.bayou_text.specs.Said.{Said, servers as servers_said, held}
use Rattle.bayou_text.specs.Spelling.{line_json}

-- an object in a line: its kind, and its other members
abbrev pub object_json : List ℕ → List ℕ → List ℕ
object_json kind members = codes "{\"kind\":\"" ++ (kind ++ (codes "\"," ++ (members ++ codes "}\n")))

-- which session it was
abbrev pub session_members : SessionId → List ℕ
session_members session = codes "\"session\":" ++ decimal session.index

-- which server it was
abbrev pub server_members : ServerId → List ℕ
server_members server = codes "\"server\":" ++ decimal server.index

-- why something wasn't done, by its word
abbrev pub why_members : List ℕ → List ℕ
why_members word = codes "\"why\":\"" ++ (word ++ codes "\"")

-- of a Write that was accepted: its name, its clock, and the counts that its server held before
abbrev pub wrote_members : ℕ → SessionId → Accepted → List ℕ
wrote_members servers session accepted =
    codes "\"session\":" ++ (decimal session.index ++ (codes ",\"wid\":[" ++ (decimal accepted.wid.origin.index ++ (codes "," ++ (decimal accepted.wid.seq
    ++ (codes "],\"clock\":" ++ (decimal accepted.stamp.clock ++ (codes ",\"deps\":[" ++ (counts_text servers accepted.deps ++ codes "]")))))))))

-- what a read found: null, a number, or a text
abbrev pub value_json : Option Value → List ℕ
value_json None = codes "null"
value_json (Some (Num number)) = signed_decimal number
value_json (Some (Text text)) = compact_text (string text)

-- of a read that was served: its key, what it found, and the counts that its server held
abbrev pub read_members : ℕ → SessionId → List ℕ → Seen → List ℕ
read_members servers session key seen =
    codes "\"session\":" ++ (decimal session.index ++ (codes ",\"key\":\"" ++ (key ++ (codes "\",\"value\":" ++ (value_json seen.value
    ++ (codes ",\"at\":[" ++ (counts_text servers seen.vector ++ codes "]")))))))

-- why an operation was refused; of a server that is behind, the counts that it held too
abbrev pub refusal_members : ℕ → Refusal → List ℕ
refusal_members servers (refusals.Behind vector) = codes "\"why\":\"behind\",\"at\":[" ++ (counts_text servers vector ++ codes "]")
refusal_members servers refusal = why_members (refusal_word refusal)

-- of an operation that was refused
abbrev pub refused_members : ℕ → SessionId → Refusal → List ℕ
refused_members servers session refusal = codes "\"session\":" ++ (decimal session.index ++ (codes "," ++ refusal_members servers refusal))

-- what became of a Write; alternatives are counted from 0 on
abbrev pub outcome_members : Outcome → List ℕ
outcome_members Updated = codes "\"outcome\":\"updated\",\"alternative\":null"
outcome_members (Merged index) = codes "\"outcome\":\"merged\",\"alternative\":" ++ decimal index
outcome_members Nothing = codes "\"outcome\":\"nothing\",\"alternative\":null"

-- of a Write in the log of a server
abbrev pub listed_members : ℕ → Listed → List ℕ
listed_members server listed =
    codes "\"server\":" ++ (decimal server ++ (codes ",\"wid\":[" ++ (decimal listed.wid.origin.index ++ (codes "," ++ (decimal listed.wid.seq
    ++ (codes "],\"clock\":" ++ (decimal listed.stamp.clock ++ (codes "," ++ outcome_members listed.outcome))))))))

-- its object
abbrev pub listed_json : ℕ → Listed → List ℕ
listed_json server listed = object_json (codes "listed") (listed_members server listed)

-- the counts of what is in the log of a server
abbrev pub log_members : ℕ → ServerId → List ℕ → List ℕ
log_members servers server vector = codes "\"server\":" ++ (decimal server.index ++ (codes ",\"at\":[" ++ (counts_text servers vector ++ codes "]")))

-- the Write that a reopening adopted, if any
abbrev pub adopted_json : Option Wid → List ℕ
adopted_json None = codes "null"
adopted_json (Some wid) = codes "[" ++ (decimal wid.origin.index ++ (codes "," ++ (decimal wid.seq ++ codes "]")))

abbrev pub reopened_members : ServerId → Option Wid → List ℕ
reopened_members server adopted = codes "\"server\":" ++ (decimal server.index ++ (codes ",\"adopted\":" ++ adopted_json adopted))

-- how many Writes a server holds that was started again, and how many bytes were cut after them
abbrev pub restarted_members : ServerId → (holds dropped : ℕ) → List ℕ
restarted_members server holds dropped =
    codes "\"server\":" ++ (decimal server.index ++ (codes ",\"holds\":" ++ (decimal holds ++ (codes ",\"dropped\":" ++ decimal dropped))))

-- the object of a server that was to be reopened or restarted
abbrev pub recovery_json : Recovery → List ℕ
recovery_json (Reopened server adopted) = object_json (codes "reopened") (reopened_members server adopted)
recovery_json (NotReopened refusal) = object_json (codes "not_reopened") (why_members (refusal_word refusal))
recovery_json NotRunning = object_json (codes "not_reopened") (why_members (codes "stopped"))
recovery_json (Restarted server holds dropped) = object_json (codes "restarted") (restarted_members server holds dropped)
recovery_json (NotRestarted refusal) = object_json (codes "not_restarted") (why_members (starting_text refusal))

-- how many Writes came that were new, and how many were held already
abbrev pub pulled_members : Pulled → List ℕ
pulled_members pulled = codes "\"taken\":" ++ (decimal pulled.taken ++ (codes ",\"had\":" ++ decimal pulled.had))

-- the object of a server that was to take Writes from another
abbrev pub transfer_json : Transfer → List ℕ
transfer_json NothingRuns = object_json (codes "not_pulled") (why_members (codes "lost"))
transfer_json (Ended (Ok pulled)) = object_json (codes "pulled") (pulled_members pulled)
transfer_json (Ended (Err stopped)) = object_json (codes "not_pulled") (why_members (pulling_text stopped.fault))

-- how many reads, Writes and refusals were filed, and how many slips are out
abbrev pub totals_members : Totals → List ℕ
totals_members totals =
    codes "\"reads\":" ++ (decimal totals.reads ++ (codes ",\"writes\":" ++ (decimal totals.writes
    ++ (codes ",\"refusals\":" ++ (decimal totals.refusals ++ (codes ",\"slips\":" ++ decimal totals.slips))))))

-- a line of a book: the one spelling of what is said, in an object
abbrev pub booked_json : Said → List ℕ
booked_json said = codes "{\"kind\":\"book\",\"line\":" ++ (compact_text (line_json said) ++ codes "}\n")

-- what a server holds, a line for each Write
abbrev pub held_json : ℕ → ℕ → List Write → List ℕ
held_json count place dump = flat_map (λ write. booked_json (held place write count)) dump

-- what each of the first servers holds, in their order
abbrev pub dumps_json : ℕ → List (List Write) → ℕ → List ℕ
dumps_json count dumps zero = []
dumps_json count dumps (suc place) = dumps_json count dumps place ++ held_json count place (dump_of dumps place)

-- what sessions were served
abbrev pub entries_json : ℕ → List Entry → List ℕ
entries_json count entries = flat_map (λ what. booked_json (entry_said count what)) entries

-- and then what servers hold
abbrev pub evidence_json : ℕ → List Entry → List (List Write) → List ℕ
evidence_json count entries dumps = entries_json count entries ++ dumps_json count dumps count

-- the whole file, a line for each of its own
abbrev pub book_json : ℕ → List Entry → List (List Write) → List ℕ
book_json count entries dumps = booked_json (servers_said count None) ++ evidence_json count entries dumps

-- the objects of the parts of an answer, where each is printed by itself: of the Writes in a log, of the lines of a book
abbrev pub lines_json : Answer → List ℕ
lines_json (Logged server listing vector) = flat_map (listed_json server.index) listing.items
lines_json (Booked file) = book_json file.count file.entries.items (lists_of file.dumps.items)
lines_json (Surveyed survey) = []
lines_json (Judged verdict) = []
lines_json Done = []
lines_json (Wrote session accepted) = []
lines_json (Read session key seen) = []
lines_json (Refused session refusal) = []
lines_json (Lost session) = []
lines_json (NotAgain session) = []
lines_json (Stopped server) = []
lines_json (Recovered recovery) = []
lines_json (Exchanged transfer) = []
lines_json (Counted totals) = []

-- what is printed last for an answer: an object, those of a survey, or nothing where there is nothing to tell
abbrev pub last_json : ℕ → Answer → List ℕ
last_json servers Done = []
last_json servers (Wrote session accepted) = object_json (codes "wrote") (wrote_members servers session accepted)
last_json servers (Read session key seen) = object_json (codes "read") (read_members servers session key seen)
last_json servers (Refused session refusal) = object_json (codes "refused") (refused_members servers session refusal)
last_json servers (Lost session) = object_json (codes "lost") (session_members session)
last_json servers (NotAgain session) = object_json (codes "not_again") (session_members session)
last_json servers (Logged server listing vector) = object_json (codes "log") (log_members servers server vector)
last_json servers (Stopped server) = object_json (codes "stopped") (server_members server)
last_json servers (Recovered recovery) = recovery_json recovery
last_json servers (Exchanged transfer) = transfer_json transfer
last_json servers (Counted totals) = object_json (codes "totals") (totals_members totals)
last_json servers (Judged verdict) = verdict_json verdict
last_json servers (Surveyed (Ok list)) = surveys_json list.items
last_json servers (Surveyed (Err refusal)) = verdict_json (Err refusal)
last_json servers (Booked file) = []

-- what is printed for an answer: the objects of its parts go before the last
abbrev pub answer_json : ℕ → Answer → List ℕ
answer_json servers answer = lines_json answer ++ last_json servers answer

-- What becomes of requests, one after another (Terry et al. 1994; anti-entropy, Petersen et al. 1997), in this project's own frames.
use Rattle.std.specs.Prelude.{◌≡◌, ◌≢◌, ◌⊎◌, ℕ, List, [], ◌∷◌, ◌++◌, Option, Result, Ok, Err, IfSome, length}
use Rattle.std.specs.Io.KnownBytes.{Appends}
use Rattle.std.specs.List.{AllByRecursion}
use Rattle.bayou_base.specs.declared.answer.Seen.{Seen}
use Rattle.bayou_base.specs.declared.tag.Tag.{Tag}
use Rattle.bayou_lang.specs.declared.program.Program.{Program}
use Rattle.bayou_lang.specs.declared.write.Write.{Write}
use Rattle.bayou_lang.specs.Writes.{lacking_of}
use Rattle.bayou_net.specs.Replies.{read_reply, reopen_reply, write_reply}
use Rattle.bayou_frames.specs.declared.fault.ChannelFault.{ChannelFault}
use Rattle.bayou_frames.specs.declared.fault.ChannelFault.TheVariants as faults
use Rattle.bayou_frames.specs.Spelled.{answer_bytes}
use Rattle.bayou_server.specs.declared.answer.Reopened.{Reopened}
use Rattle.bayou_server.specs.declared.answer.Written.{Written}
use Rattle.bayou_server.specs.declared.fault.Behind.{Behind}
use Rattle.bayou_server.specs.declared.fault.ReopenFault.{ReopenFault}
use Rattle.bayou_server.specs.declared.fault.WriteFault.{WriteFault}
use Rattle.bayou_streams.specs.Written.{AppendsFront}
use Rattle.bayou_wire.specs.declared.fault.DecodeFault.{DecodeFault}
use Rattle.bayou_wire.specs.declared.frame.Frame.{Frame}
use Rattle.bayou_wire.specs.declared.frame.Frame.TheVariants as frames
use Rattle.bayou_base.specs.declared.refusal.Refusal.TheVariants as refusals
use Rattle.bayou_wire.specs.Spelling.{IsFrame}
use Rattle.bayou_wire.specs.Stream.{IsFaulty, IsPartial, spelling, spellings}

-- how something serves: the Writes that it holds, where it tells them, and how it answers a read, a program with the tag of its asking, and a reopening
pub record Steps (S : Type 0) : Type 1 where
  pub list : S → Option (List Write)
  pub reads : S → (need key : List ℕ) → Result Seen Behind → Type 0
  pub writes : S → Tag → (need : List ℕ) → Program → Result Written WriteFault → S → Type 0
  pub reopens : S → Result Reopened ReopenFault → S → Type 0

-- the frame asks for something
abbrev pub IsRequest : Frame → Type 0
IsRequest (frames.Read need key) = Unit {0}
IsRequest (frames.Write tag need program) = Unit {0}
IsRequest frames.Reopen = Unit {0}
IsRequest frames.Dump = Unit {0}
IsRequest (frames.Offer counts) = Unit {0}
IsRequest (frames.Seen seen) = ⊥
IsRequest (frames.Accepted accepted) = ⊥
IsRequest (frames.Refused refusal) = ⊥
IsRequest (frames.Reopened adopted) = ⊥
IsRequest (frames.Item write) = ⊥
IsRequest (frames.End number) = ⊥

-- There was no memory for what is asked for: that is reported, and nothing is changed.
abbrev pub IsWanting : {S : Type 0} → S → (reply : List ℕ) → S → Type 0
IsWanting old reply new = (reply ≡ spelling (frames.Refused refusals.OutOfMemory)) × (new ≡ old)

-- A request is done, and this is its reply: the one frame of the answer; of a Dump an Item of each Write held, in order of receipt, and
-- an End of their number; and of an Offer the same of those that it lacks, in stamp order.
abbrev pub Serves : {S : Type 0} → Steps S → S → Frame → (reply : List ℕ) → S → Type 0
Serves steps old (frames.Read need key) reply new =
    (answer : Result Seen Behind) × steps.reads old need key answer × (reply ≡ spelling (read_reply answer)) × (new ≡ old)
Serves steps old (frames.Write tag need program) reply new =
    (answer : Result Written WriteFault) × steps.writes old tag need program answer new × (reply ≡ spelling (write_reply answer))
Serves steps old frames.Reopen reply new =
    (answer : Result Reopened ReopenFault) × steps.reopens old answer new × (reply ≡ spelling (reopen_reply answer))
Serves steps old frames.Dump reply new =
    ((writes : List Write) × IfSome (steps.list old) (λ held. writes ≡ held) × (reply ≡ answer_bytes writes) × (new ≡ old))
    ⊎ IsWanting old reply new
Serves steps old (frames.Offer counts) reply new =
    (writes : List Write) × IfSome (steps.list old) (λ held. writes ≡ lacking_of counts held) × (reply ≡ answer_bytes writes) × (new ≡ old)
Serves steps old (frames.Seen seen) reply new = ⊥
Serves steps old (frames.Accepted accepted) reply new = ⊥
Serves steps old (frames.Refused refusal) reply new = ⊥
Serves steps old (frames.Reopened adopted) reply new = ⊥
Serves steps old (frames.Item write) reply new = ⊥
Serves steps old (frames.End number) reply new = ⊥

-- requests are done in their order, and their replies stand in that order
abbrev pub ServesAll : {S : Type 0} → Steps S → S → List Frame → (replies : List ℕ) → S → Type 0
ServesAll steps old [] replies new = (replies ≡ []) × (new ≡ old)
ServesAll {S} steps old (request ∷ requests) replies new =
    (mid : S) × (reply more : List ℕ) × Serves steps old request reply mid × (replies ≡ reply ++ more) × ServesAll steps mid requests more new

-- What was read are so many requests and this rest. They were done, and these are their replies.
pub record HasDone {S : Type 0} (steps : Steps S) (old now : S) (read rest : List ℕ) (number : ℕ) (replies : List ℕ) : Type 0 where
  pub requests : List Frame
  pub whole : read ≡ spellings requests ++ rest
  pub each : AllByRecursion IsFrame requests
  pub done : ServesAll steps old requests replies now
  pub count : number ≡ length requests

-- ... and were written, whole
abbrev pub HasServed : {S : Type 0} → Steps S → (old now : S) → (read rest : List ℕ) → ℕ → (before after : Option (List ℕ)) → Type 0
HasServed steps old now read rest number before after =
    (replies : List ℕ) × HasDone steps old now read rest number replies × Appends before after replies

-- Some requests were done, and a front of their replies was written.
abbrev pub HasBroken : {S : Type 0} → Steps S → (old now : S) → (read : List ℕ) → (before after : Option (List ℕ)) → Type 0
HasBroken steps old now read before after =
    (rest : List ℕ) × (number : ℕ) × (replies : List ℕ) × HasDone steps old now read rest number replies × AppendsFront before after replies

-- the bytes begin with what is no request: a fault in a frame's place, or a reply
abbrev pub IsNoRequest : List ℕ → Type 0
IsNoRequest bytes =
    ((fault : DecodeFault) × IsFaulty bytes fault)
    ⊎ ((frame : Frame) × (behind : List ℕ) × IsFrame frame × (bytes ≡ spelling frame ++ behind) × (¬ (IsRequest frame)))

-- How serving ends that read these bytes, and where this says whether the input has ended: at its end between two frames, with the number
-- of requests; at its end within one; where the reader failed; at what is no request, which has no reply; or, with a front of the replies
-- written, where the writer, the turns or memory ended it.
abbrev pub ServeEnds : {S : Type 0} → Steps S → (old now : S) → (read : List ℕ) → (before after : Option (List ℕ)) → (is_end : Type 0) → Result ℕ ChannelFault → Type 0
ServeEnds steps old now read before after is_end (Ok number) = is_end × HasServed steps old now read [] number before after
ServeEnds steps old now read before after is_end (Err faults.Cut) =
    is_end × ((rest : List ℕ) × (number : ℕ) × (rest ≢ []) × IsPartial rest × HasServed steps old now read rest number before after)
ServeEnds steps old now read before after is_end (Err faults.Read) =
    (rest : List ℕ) × (number : ℕ) × IsPartial rest × HasServed steps old now read rest number before after
ServeEnds steps old now read before after is_end (Err faults.BadFrame) =
    (rest : List ℕ) × (number : ℕ) × IsNoRequest rest × HasServed steps old now read rest number before after
ServeEnds steps old now read before after is_end (Err faults.Write) = HasBroken steps old now read before after
ServeEnds steps old now read before after is_end (Err faults.TooManyTurns) = HasBroken steps old now read before after
ServeEnds steps old now read before after is_end (Err faults.OutOfMemory) = HasBroken steps old now read before after

-- What a server that may have lost Writes of its own asks of another (anti-entropy, Petersen et al. 1997): this project's own.
use Rattle.std.specs.Prelude.{◌≡◌, ◌≢◌, ◌⊎◌, ℕ, ◌<◌, Bool, true, false, List, [], Result, Ok, Err, replicate, slice_set}
use Rattle.bayou_base.specs.declared.limits.TheConstants.{MAX_WRITES, SERVERS}
use Rattle.bayou_frames.specs.declared.fault.ChannelFault.{ChannelFault}
use Rattle.bayou_frames.specs.declared.fault.ChannelFault.TheVariants.{Read, Write as WriteFault, Cut, BadFrame, TooManyTurns, OutOfMemory}
use Rattle.bayou_frames.specs.First.{BeginsWith}
use Rattle.bayou_lang.specs.declared.write.Write.{Write}
use Rattle.bayou_wire.specs.declared.fault.DecodeFault.{DecodeFault}
use Rattle.bayou_wire.specs.declared.frame.Frame.{Frame}
use Rattle.bayou_wire.specs.declared.frame.Frame.TheVariants.{End, Item}
use Rattle.bayou_wire.specs.Stream.{IsFaulty, IsPartial}

-- the counts that all Writes are within, but for those of this server, of which so many are counted
abbrev pub all_but : (server own : ℕ) → List ℕ
all_but server own = slice_set (replicate SERVERS MAX_WRITES) server own

-- a Write of this server after its first `own`
abbrev pub IsBeyond : (server own : ℕ) → Write → Type 0
IsBeyond server own write = (write.wid.origin.index ≡ server) × (own < write.wid.seq)

-- the bytes begin with what is no answer: a fault in a frame's place, or a frame that is neither an Item of such a Write nor an End of none
abbrev pub IsNoAnswer : (server own : ℕ) → List ℕ → Type 0
IsNoAnswer server own read =
    ((fault : DecodeFault) × IsFaulty read fault)
    ⊎ ((frame : Frame) × BeginsWith read frame × (frame ≢ End 0) × ((write : Write) → IsBeyond server own write → frame ≢ Item write))

-- How a look at the first frame of an answer ends that reads these bytes, and where this says whether the input has ended: there is such a
-- Write, or none; or it isn't known. Where the Offer wasn't sent, nothing is read.
abbrev pub LossRead : (server own : ℕ) → (read : List ℕ) → (is_end : Type 0) → Result Bool ChannelFault → Type 0
LossRead server own read is_end (Ok true) = (write : Write) × IsBeyond server own write × BeginsWith read (Item write)
LossRead server own read is_end (Ok false) = BeginsWith read (End 0)
LossRead server own read is_end (Err BadFrame) = IsNoAnswer server own read
LossRead server own read is_end (Err Cut) = is_end × IsPartial read
LossRead server own read is_end (Err Read) = IsPartial read
LossRead server own read is_end (Err TooManyTurns) = IsPartial read
LossRead server own read is_end (Err OutOfMemory) = Unit {0}
LossRead server own read is_end (Err WriteFault) = read ≡ []

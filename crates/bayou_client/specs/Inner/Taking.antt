-- What the steps of reading a reply come to. No public clause cites it.
use Rattle.std.specs.Prelude.{◌≡◌, ℕ, Bool, List, ◌++◌, Option, None, Some, Result, Ok, Err}
use Rattle.bayou_client.specs.declared.reading.Reply.{Reply}
use Rattle.bayou_client.specs.Replies.{Begins, IsLast, IsNoReply, IsReply, IsUnfinished}
use Rattle.bayou_lang.specs.declared.write.Write.{Write}
use Rattle.bayou_frames.specs.declared.fault.ChannelFault.{ChannelFault}
use Rattle.bayou_frames.specs.declared.fault.ChannelFault.TheVariants.{Read, Write as WriteFault, Cut, BadFrame, TooManyTurns, OutOfMemory}
use Rattle.bayou_wire.specs.declared.frame.Frame.{Frame}
use Rattle.bayou_wire.specs.Stream.{IsPartial, spelling}

-- what may end it at what came
abbrev pub Ends : Bool → List ℕ → ChannelFault → Type 0
Ends many read Read = ⊥
Ends many read WriteFault = ⊥
Ends many read Cut = ⊥
Ends many read BadFrame = IsNoReply many read
Ends many read TooManyTurns = ⊥
Ends many read OutOfMemory = Unit {0}

-- after Items
abbrev pub TakesItems : {T : Type 0} → Bool → (read behind : List ℕ) → List Write → Result T ChannelFault → Type 0
TakesItems many read behind writes (Ok done) = Begins many read writes behind
TakesItems many read behind writes (Err fault) = Ends many read fault

-- after frames, with this after them: Items alone came, or the last frame too
abbrev pub TakesFrames : Bool → (read behind : List ℕ) → List Write → Result (Option Frame) ChannelFault → Type 0
TakesFrames many read behind writes (Ok None) = Begins many read writes behind
TakesFrames many read behind writes (Ok (Some last)) = Begins many read writes (spelling last ++ behind) × IsLast many last
TakesFrames many read behind writes (Err fault) = Ends many read fault

-- after a piece: what is held back is less than a frame, or the reply is whole
abbrev pub TakesPiece : Bool → (read : List ℕ) → (frames : Option (List ℕ)) → List Write → Result (Option Frame) ChannelFault → Type 0
TakesPiece many read frames writes (Ok None) = (rest : List ℕ) × IsPartial rest × (frames ≡ Some rest) × Begins many read writes rest
TakesPiece many read frames writes (Ok (Some last)) = IsReply many read writes last
TakesPiece many read frames writes (Err fault) = Ends many read fault

-- how a read of a reply ends
abbrev pub ReplyRead : Bool → (read : List ℕ) → (is_end : Type 0) → Result Reply ChannelFault → Type 0
ReplyRead many read is_end (Ok reply) = IsReply many read reply.writes.items reply.last
ReplyRead many read is_end (Err Cut) = is_end × IsUnfinished many read
ReplyRead many read is_end (Err Read) = IsUnfinished many read
ReplyRead many read is_end (Err TooManyTurns) = IsUnfinished many read
ReplyRead many read is_end (Err BadFrame) = IsNoReply many read
ReplyRead many read is_end (Err OutOfMemory) = Unit {0}
ReplyRead many read is_end (Err WriteFault) = ⊥

-- What a client reads as the reply to one request: this project's own.
use Rattle.std.specs.Prelude.{◌≡◌, ◌≢◌, ◌⊎◌, ◌≤◌, ℕ, Bool, true, false, List, [], ◌++◌, length}
use Rattle.std.specs.List.{AllByRecursion}
use Rattle.bayou_base.specs.declared.limits.TheConstants.{MAX_WRITES}
use Rattle.bayou_lang.specs.declared.write.Write.{Write}
use Rattle.bayou_lang.specs.Ranges.{IsWrite}
use Rattle.bayou_frames.specs.Spelled.{item_bytes}
use Rattle.bayou_wire.specs.declared.fault.DecodeFault.{DecodeFault}
use Rattle.bayou_wire.specs.declared.frame.Frame.{Frame}
use Rattle.bayou_wire.specs.declared.frame.Frame.TheVariants.{Item}
use Rattle.bayou_wire.specs.Spelling.{IsFrame}
use Rattle.bayou_wire.specs.Stream.{IsFaulty, IsPartial, spelling}

-- The bytes begin with the Items of these Writes, as many as a server holds at the most, and then there is a rest. Where no Items are asked for
-- there are none.
pub record Begins (many : Bool) (bytes : List ℕ) (writes : List Write) (rest : List ℕ) : Type 0 where
  pub whole : bytes ≡ item_bytes writes ++ rest
  pub each : AllByRecursion IsWrite writes
  pub few : many ≡ false → writes ≡ []
  pub within : length writes ≤ MAX_WRITES

-- the frame ends a reply: it is no Item, where Items are asked for
abbrev pub IsLast : Bool → Frame → Type 0
IsLast many frame = IsFrame frame × (many ≡ true → (write : Write) → frame ≢ Item write)

-- the bytes are one whole reply, and nothing after it
pub record IsReply (many : Bool) (bytes : List ℕ) (writes : List Write) (last : Frame) : Type 0 where
  pub begins : Begins many bytes writes (spelling last)
  pub ends : IsLast many last

-- the bytes are less than a whole reply, and no fault so far
abbrev pub IsUnfinished : Bool → List ℕ → Type 0
IsUnfinished many bytes = (writes : List Write) × (rest : List ℕ) × IsPartial rest × Begins many bytes writes rest

-- The bytes begin no reply, or more than one: a fault stands in a frame's place, or something after the last frame, or one Item more than a
-- server holds at the most.
abbrev pub IsNoReply : Bool → List ℕ → Type 0
IsNoReply many bytes = (writes : List Write) × (rest : List ℕ) × Begins many bytes writes rest
    × (((fault : DecodeFault) × IsFaulty rest fault)
    ⊎ (((last : Frame) × (behind : List ℕ) × IsLast many last × (behind ≢ []) × (rest ≡ spelling last ++ behind))
    ⊎ ((write : Write) × (behind : List ℕ) × (length writes ≡ MAX_WRITES) × (rest ≡ spelling (Item write) ++ behind))))

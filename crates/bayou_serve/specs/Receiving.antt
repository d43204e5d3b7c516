-- What becomes of a connection that is served: this project's own.
use Rattle.std.specs.Prelude.{ℕ, ◌==◌, List, Option, Result, if◌then◌else◌}
use Rattle.std.specs.Io.KnownBytes.{Consumes, IsAtEnd}
use Rattle.bayou_frames.specs.declared.fault.ChannelFault.{ChannelFault}
use Rattle.bayou_net.specs.Halting.{halting}
use Rattle.bayou_net.specs.Lent.{desk_steps}
use Rattle.bayou_net.specs.Serving.{ServeEnds}
use Rattle.bayou_node.specs.Books.{Begun}
use Rattle.bayou_serve.specs.declared.reception.First.{First}
use Rattle.bayou_serve.specs.declared.reception.First.TheVariants.{Hello, Offer, Other}
use Rattle.bayou_wire.specs.declared.layout.TheConstants.{KIND_HELLO, KIND_OFFER}

-- who asks greets, or asks as a peer does, or asks anything else, by the kind of what comes first
abbrev pub first_by : (kind : ℕ) → First
first_by kind = if kind == KIND_HELLO then Hello else (if kind == KIND_OFFER then Offer else Other)

-- A front of the input was read, its requests were done in their order, each with its reply written, and the desk was paid for the Writes
-- that were made of them and for nothing else. Once the server is known to have lost Writes of its own, none is made any more. How that ended
-- isn't said.
abbrev pub ServedOver : Begun → (paid_before paid : ℕ) → (input written : Option (List ℕ)) → Type 0
ServedOver begun paid_before paid input written =
    (answer : Result ℕ ChannelFault) × (rest after : Option (List ℕ)) × (read : List ℕ)
    × Consumes input rest read × ServeEnds (halting (desk_steps begun)) paid_before paid read written after (IsAtEnd rest) answer

-- What a server asks a peer before it serves: whether that has Writes of its own which it lacks (anti-entropy, Petersen et al. 1997): this
-- project's own.
use Rattle.std.specs.Prelude.{◌≡◌, ℕ, Bool, List, Option, Result}
use Rattle.std.specs.Io.KnownBytes.{Consumes, IsAtEnd}
use Rattle.bayou_frames.specs.declared.fault.ChannelFault.{ChannelFault}
use Rattle.bayou_node.specs.Answers.{InSome}
use Rattle.bayou_node.specs.Books.{Begun}
use Rattle.bayou_peer.specs.Losing.{LossRead, all_but}
use Rattle.bayou_server.specs.Server.{own_count}
use Rattle.bayou_streams.specs.Written.{AppendsFront}
use Rattle.bayou_wire.specs.declared.frame.Frame.TheVariants.{Offer}
use Rattle.bayou_wire.specs.Stream.{spelling}

-- The server's own Writes after those that the node may hold were asked for, or a front of that was written; and of the answer a front was
-- read, whose first frame tells whether there is one.
abbrev pub AsksForOwn : Begun → (input written : Option (List ℕ)) → Result Bool ChannelFault → Type 0
AsksForOwn begun input written answer =
    (own : ℕ) × InSome begun (λ core. own ≡ own_count core)
    × ((after : Option (List ℕ)) × AppendsFront written after (spelling (Offer (all_but begun.server own))))
    × ((rest : Option (List ℕ)) × (read : List ℕ) × Consumes input rest read × LossRead begun.server own read (IsAtEnd rest) answer)

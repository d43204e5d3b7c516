-- What was asked of a peer, by what the node holds.
use Rattle.std.proofs.Common.{◌≡◌, ◌∙◌, ℕ, Bool, List, Option, Result, ap, subst, sym}
use Rattle.std.specs.Prelude.{slice_index}
use Rattle.std.specs.Io.KnownBytes.{Consumes, IsAtEnd}
use Rattle.bayou_frames.specs.declared.fault.ChannelFault.{ChannelFault}
use Rattle.bayou_lang.specs.Writes.{count_of}
use Rattle.bayou_node.specs.Answers.{InSome}
use Rattle.bayou_node.specs.Books.{Begun}
use Rattle.bayou_peer.specs.Losing.{LossRead, all_but}
use Rattle.bayou_serve.specs.Losing.{AsksForOwn}
use Rattle.bayou_server.specs.Server.{own_count}
use Rattle.bayou_streams.specs.Written.{AppendsFront}
use Rattle.bayou_wire.specs.declared.frame.Frame.TheVariants.{Offer}
use Rattle.bayou_wire.specs.Stream.{spelling}

-- by the number of the server, and what it counts of its own Writes
pub asks_for_own : (begun : Begun) (counts : List ℕ) (id own : ℕ) (input rest written after : Option (List ℕ)) (read : List ℕ) (answer : Result Bool ChannelFault)
    → InSome begun (λ core. counts ≡ count_of core.held) → id ≡ begun.server → own ≡ slice_index counts id
    → AppendsFront written after (spelling (Offer (all_but id own))) → Consumes input rest read → LossRead id own read (IsAtEnd rest) answer
    → AsksForOwn begun input written answer
asks_for_own begun counts id own input rest written after read answer (core, may, holds) whose counted wrote consumes looks =
    let is : own ≡ own_count core = counted ∙ ap (λ (c : List ℕ). slice_index c id) holds ∙ ap (slice_index (count_of core.held)) (whose ∙ sym may.is.whose) in (
      own,
      (core, may, is),
      (after, subst (λ server. AppendsFront written after (spelling (Offer (all_but server own)))) whose wrote),
      (rest, read, consumes, subst (λ server. LossRead server own read (IsAtEnd rest) answer) whose looks),
    )

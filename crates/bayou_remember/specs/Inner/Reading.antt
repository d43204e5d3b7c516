-- What is kept, between the reader in src/ and its spelling. No public clause cites this.
use Rattle.bayou_client.specs.Operating.{Asking}
use Rattle.std.specs.Prelude.{◌≡◌, ◌≤◌, ℕ, List, IfSome}
use Rattle.std.specs.List.{AllByRecursion}
use Rattle.bayou_remember.specs.declared.head.Head.{Head}
use Rattle.bayou_remember.specs.Memory.{KeepsNothing}
use Rattle.bayou_remember.specs.Spelling.{AreAskedFrames, frames_of, server_of}
use Rattle.bayou_remember.specs.declared.memory.RememberFault.{RememberFault}
use Rattle.bayou_remember.specs.declared.memory.RememberFault.TheVariants.{Journal, NotKept, OutOfMemory}
use Rattle.bayou_journal.specs.Versions.{Body}
use Rattle.bayou_wire.specs.declared.frame.Frame.{Frame}
use Rattle.bayou_wire.specs.Spelling.{IsFrame}
use Rattle.bayou_wire.specs.Stream.{spellings}

-- the bytes are frames, each of which has a spelling, and nothing else
pub record AreFrames (bytes : List ℕ) (all : List Frame) : Type 0 where
  pub each : AllByRecursion IsFrame all
  pub spelled : bytes ≡ spellings all

-- it is what this head and these frames keep
pub record IsKeptBy (head : Head) (all : List Frame) (kept : Asking) : Type 0 where
  pub whose : kept.session.id.index ≡ head.session.index
  pub asks_are : kept.session.asks ≡ head.asks
  pub begun_is : kept.session.begun ≡ head.begun
  pub asked_within : IfSome kept.session.asked (λ number. number ≤ kept.session.begun)
  pub server_is : server_of kept.asked ≡ head.server
  pub asking : List Frame
  pub asked : AreAskedFrames kept.session kept.asked asking
  pub frames_are : all ≡ frames_of kept asking

-- why what the bodies keep can't be read
abbrev pub CantTell : List Body → RememberFault → Type 0
CantTell bodies (Journal fault) = ⊥
CantTell bodies (NotKept at) = KeepsNothing bodies at
CantTell bodies OutOfMemory = Unit {0}

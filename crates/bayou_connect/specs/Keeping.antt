-- What is kept of an operation before it is sent, and before anybody hears of it: this project's own.
use Rattle.std.specs.Prelude.{◌≡◌, ◌⊎◌, ℕ, List, Option, Some, IfSome, IsSome, slice_get, slice_set}
use Rattle.bayou_base.specs.declared.server.ServerId.{ServerId}
use Rattle.bayou_client.specs.Operating.{Asking}
use Rattle.bayou_connect.specs.declared.asking.Requested.{Requested}
use Rattle.bayou_connect.specs.declared.reach.Access.{Access}
use Rattle.bayou_connect.specs.declared.remembering.StateFile.{StateFile}
use Rattle.bayou_connect.specs.declared.told.ServerTold.{ServerTold}
use Rattle.bayou_connect.specs.declared.told.ServerTold.TheVariants.{Away, Lost}
use Rattle.bayou_connect.specs.Operating.{HasDone}
use Rattle.bayou_remember.specs.Memory.{EndsWith}

-- where a file keeps sessions, it has this one last
abbrev pub IsKeptLast : Option StateFile → Asking → Type 0
IsKeptLast state kept = IfSome state (λ file. EndsWith file.memory kept)

-- the Write that a session has begun may be sent: where a file keeps sessions, it has that session last, with the Write
pub record IsReady (state : Option StateFile) (begun : Asking) : Type 0 where
  pub asked : IsSome begun.asked
  pub kept : IsKeptLast state begun

-- Nothing was sent: no server was reached, or there is no such session, or it has no place left.
pub record IsUnsent (old new : List (Option Asking)) (told : ServerTold) : Type 0 where
  pub same : new ≡ old
  pub none : (told ≡ Away) ⊎ (told ≡ Lost)

-- The session did this at the server of that place, and is kept last as it heard; each other session stays as it was.
pub record IsTold (places : List Access) (at : ℕ) (attempt : Requested) (old new : List (Option Asking)) (state : Option StateFile) (who : ℕ) (told : ServerTold) : Type 0 where
  pub server : ServerId
  pub place : IfSome (slice_get places at) (λ access. access.place.id ≡ server)
  pub was : Asking
  pub had : slice_get old who ≡ Some (Some was)
  pub kept : Asking
  pub done : HasDone attempt server was kept told
  pub is : new ≡ slice_set old who (Some kept)
  pub last : IsKeptLast state kept

abbrev pub HasAsked : (places : List Access) (at : ℕ) → Requested → (old new : List (Option Asking)) → Option StateFile → (who : ℕ) → ServerTold → Type 0
HasAsked places at attempt old new state who told = IsUnsent old new told ⊎ IsTold places at attempt old new state who told

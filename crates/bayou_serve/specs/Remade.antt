-- A server whose own Writes were made again, on a journal that held nothing, and that then took all that its peers have: this project's own.
use Rattle.std.specs.Prelude.{◌≡◌, ◌⊎◌, ℕ, List, [], ◌∷◌, All, Any, Contains, length, map, slice_index}
use Rattle.bayou_lang.specs.declared.write.Write.{Write}
use Rattle.bayou_lang.specs.Writes.{count_of}
use Rattle.bayou_restore.specs.Restoring.{own_of}
use Rattle.bayou_serve.specs.declared.plan.Peer.{Peer}
use Rattle.bayou_serve.specs.declared.plan.ServicePlan.{ServicePlan}
use Rattle.bayou_serve.specs.declared.remaking.TakenWhole.{TakenWhole}
use Rattle.bayou_server.specs.Server.{Core, IsUp}

-- It is the server of the plan. Its own Writes are just those among the ones that a peer has, in their order, and it holds no other than a peer
-- has.
pub record IsRemade (plan : ServicePlan) (writes : List Write) (core : Core) : Type 0 where
  pub own : own_of plan.id.index core.held ≡ own_of plan.id.index writes
  pub others : All (λ write. Contains writes write) core.held
  pub up : IsUp core
  pub id : core.id ≡ plan.id.index
  pub count : core.count ≡ plan.servers
  pub limit : core.limit ≡ plan.habits.limit

-- The server held what it holds, and now each of these Writes too, and no other one. None of these that it lacked is its own.
pub record TakesAllOf (old : Core) (writes : List Write) (new : Core) : Type 0 where
  pub all : All (λ write. Contains new.held write) writes
  pub kept : All (λ write. Contains new.held write) old.held
  pub others : All (λ write. Contains old.held write ⊎ Contains writes write) new.held
  pub own : own_of old.id new.held ≡ own_of old.id old.held
  pub doubt : new.doubt ≡ old.doubt
  pub id : new.id ≡ old.id
  pub count : new.count ≡ old.count
  pub limit : new.limit ≡ old.limit

-- the Writes of each of these answers, one after another
abbrev pub TakesEachOf : Core → List (List Write) → Core → Type 0
TakesEachOf old [] new = new ≡ old
TakesEachOf old (answer ∷ answers) new = (mid : Core) × TakesAllOf old answer mid × TakesEachOf mid answers new

-- all that each of these peers has was taken, once
abbrev pub AreFromEach : List Peer → List TakenWhole → Type 0
AreFromEach peers taken = map (λ (one : TakenWhole). one.peer) taken ≡ map (λ (peer : Peer). peer.id.index) peers

-- The server of the plan has its own Writes just as they are among the ones that a peer has, all that each of its peers answered then, and no more; so
-- many Writes are its own.
pub record IsRestoring (plan : ServicePlan) (writes : List Write) (own_number : ℕ) : Type 0 where
  pub core : Core
  pub answers : List (List Write)
  pub number : length answers ≡ length plan.peers.items
  pub all : All (λ answer. All (λ write. Contains core.held write) answer) answers
  pub others : All (λ write. Any (λ answer. Contains answer write) (writes ∷ answers)) core.held
  pub own : own_of plan.id.index core.held ≡ own_of plan.id.index writes
  pub counts : own_number ≡ slice_index (count_of core.held) plan.id.index
  pub up : IsUp core
  pub id : core.id ≡ plan.id.index
  pub count : core.count ≡ plan.servers
  pub limit : core.limit ≡ plan.habits.limit

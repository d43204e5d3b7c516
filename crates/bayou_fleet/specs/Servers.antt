-- Which servers a network has, each as its node was made, and what is said of one of them.
use Rattle.std.specs.Prelude.{◌≡◌, ℕ, IfSome, List, slice_get}
use Rattle.std.specs.List.{AllZip}
use Rattle.bayou_lang.specs.declared.write.Write.{Write}
use Rattle.bayou_node.specs.declared.node_settled.NodeSettled.{NodeSettled}
use Rattle.bayou_node.specs.Answers.{InSome}
use Rattle.bayou_node.specs.Books.{Begun}
use Rattle.bayou_node.specs.Settles.{IsNodeSettled}
use Rattle.bayou_server.specs.Server.{Core}

-- it is so in something that may be behind the lock of the server of this index, if there is one
abbrev pub InOne : List Begun → (at : ℕ) → (Core → Type 0) → Type 0
InOne servers at IsSo = IfSome (slice_get servers at) (λ begun. InSome begun IsSo)

-- these Writes are what something has that may be behind the server's lock
abbrev pub IsDump : Begun → List Write → Type 0
IsDump begun writes = InSome begun (λ core. writes ≡ core.held)

-- the same of each server, in order
abbrev pub AreDumps : List Begun → List (List Write) → Type 0
AreDumps servers dumps = AllZip IsDump servers dumps

-- what the books of the server come to, with some desks, all of which are back
abbrev pub IsServerSettled : Begun → NodeSettled → Type 0
IsServerSettled begun settled = (made : ℕ) × (desks : List ℕ) × IsNodeSettled begun made desks settled

-- the same of each server, in order
abbrev pub SettlesAll : List Begun → List NodeSettled → Type 0
SettlesAll servers settled = AllZip IsServerSettled servers settled

-- what the servers come to: what each holds, and its books
pub record IsFleetSettled (servers : List Begun) (dumps : List (List Write)) (nodes : List NodeSettled) : Type 0 where
  pub held : AreDumps servers dumps
  pub settled : SettlesAll servers nodes

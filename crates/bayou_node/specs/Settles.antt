-- What a server behind its lock comes to in the end: this project's own.
use Rattle.std.specs.Prelude.{◌≡◌, ℕ, ◌+◌, List, length, slice_index, sum}
use Rattle.bayou_lang.specs.Writes.{count_of}
use Rattle.bayou_node.specs.declared.node_settled.NodeSettled.{NodeSettled}
use Rattle.bayou_node.specs.Answers.{InSome}
use Rattle.bayou_node.specs.Books.{Begun, Booked}

-- All desks were given back: what was accepted is their sum, and the books' own number; what was adopted and what is held are as the books
-- have it.
pub record IsSettled {D : Type 0} (booked : Booked D) (made : ℕ) (desks : List ℕ) (settled : NodeSettled) : Type 0 where
  pub all : length desks ≡ made
  pub sums : settled.accepted ≡ sum desks
  pub accepted : settled.accepted ≡ booked.accepted
  pub adopted : settled.adopted ≡ booked.adopted
  pub vector : settled.vector ≡ count_of booked.server.core.held

-- The same where a lock hides the books: the server's own Writes are those that it began with, the accepted and the adopted.
pub record IsNodeSettled (begun : Begun) (made : ℕ) (desks : List ℕ) (settled : NodeSettled) : Type 0 where
  pub all : length desks ≡ made
  pub sums : settled.accepted ≡ sum desks
  pub vector : InSome begun (λ core. settled.vector ≡ count_of core.held)
  pub own : slice_index settled.vector begun.server ≡ begun.stored + settled.accepted + settled.adopted

-- How a server greets its peers, and who may ask it: this project's own.
use Rattle.std.specs.Prelude.{◌≡◌, ℕ, IfSome, IsSomeAnd, List, Option, Some}
use Rattle.bayou_base.specs.declared.server.ServerId.{ServerId}
use Rattle.bayou_greeting.specs.Proofs.{client_proof}
use Rattle.bayou_greeting.specs.declared.proofs_of_key.Nonces.{Nonces}
use Rattle.bayou_handshake.specs.declared.server_end.StoreServer.{StoreServer}
use Rattle.bayou_serve.specs.declared.greeting.LetIn.{LetIn}
use Rattle.bayou_wire.specs.declared.greeting.Hello.{Hello}
use Rattle.bayou_wire.specs.declared.layout.TheConstants.{GREETING_VERSION}

-- it takes the other end for that peer, and says which server it is itself, and how many there are
abbrev pub hello_to : StoreServer → (peer : ServerId) → (nonce : List ℕ) → Hello
hello_to own peer nonce = record {
  version = GREETING_VERSION;
  asked = Some peer;
  from = Some own.id;
  servers = Some own.servers;
  nonce = nonce;
}

-- what both drew for this greeting
abbrev pub nonces_of : LetIn → Nonces
nonces_of let_in = record { client = let_in.guest.hello.nonce; server = let_in.nonce }

-- Who asks may ask: at an open store anybody, and at one that has a key who greeted and proved to have it, by what both ends drew for that greeting.
abbrev pub MayAsk : StoreServer → Option LetIn → Type 0
MayAsk own let_in = IfSome own.key (λ key. IsSomeAnd let_in (λ (let_in : LetIn). let_in.guest.proving.proof ≡ client_proof key (nonces_of let_in)))

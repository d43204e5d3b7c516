-- How a greeting ends at a server, and at who asks one: this project's own.
use Rattle.std.specs.Prelude.{◌≡◌, ℕ, List, ◌++◌, Option, None, Some, replicate}
use Rattle.std.specs.Option.{option_map}
use Rattle.bayou_greeting.specs.declared.proofs_of_key.Nonces.{Nonces}
use Rattle.bayou_greeting.specs.declared.store_key.StoreKey.{StoreKey}
use Rattle.bayou_greeting.specs.Greets.{IsExpected, IsOfStore, nonces_of}
use Rattle.bayou_greeting.specs.Proofs.{IsAdmitted, client_proof, server_proof}
use Rattle.bayou_handshake.specs.declared.client_end.Met.{Met}
use Rattle.bayou_handshake.specs.declared.server_end.Guest.{Guest}
use Rattle.bayou_handshake.specs.declared.server_end.StoreServer.{StoreServer}
use Rattle.bayou_wire.specs.declared.greeting.Greeting.TheVariants as greetings
use Rattle.bayou_wire.specs.declared.greeting.Hello.{Hello}
use Rattle.bayou_wire.specs.declared.greeting.Held.{Held}
use Rattle.bayou_wire.specs.declared.greeting.Known.{Known}
use Rattle.bayou_wire.specs.declared.greeting.Welcome.{Welcome}
use Rattle.bayou_wire.specs.declared.layout.TheConstants.{GREETING_VERSION, PROOF_BYTES}
use Rattle.bayou_wire.specs.Greetings.{greeting_bytes}

-- at an open store each proof is zeros
abbrev pub no_proof : List ℕ
no_proof = replicate PROOF_BYTES 0

-- a server's proof for these nonces
abbrev pub proof_of_server : StoreServer → Nonces → List ℕ
proof_of_server server nonces = proof_by server.key
  where
    proof_by : Option StoreKey → List ℕ
    proof_by None = no_proof
    proof_by (Some key) = server_proof key nonces server.id server.servers

-- who greets is answered so by this server, which drew this nonce
abbrev pub welcome_of : StoreServer → Hello → (nonce : List ℕ) → Welcome
welcome_of server hello nonce = record {
  version = GREETING_VERSION;
  id = server.id;
  servers = server.servers;
  name = option_map (λ (key : StoreKey). key.name) server.key;
  nonce = nonce;
  proof = proof_of_server server (record { client = hello.nonce; server = nonce });
}

-- A guest was let in: it greeted and was answered by this Welcome, and what it then sent is the proof that its store asks for.
pub record IsLetIn (server : StoreServer) (nonce read written : List ℕ) (guest : Guest) : Type 0 where
  pub came : read ≡ greeting_bytes (greetings.Hello guest.hello) ++ greeting_bytes (greetings.Proof guest.proving)
  pub answered : written ≡ greeting_bytes (greetings.Welcome (welcome_of server guest.hello nonce))
  pub admitted : IsAdmitted server.key (record { client = guest.hello.nonce; server = nonce }) guest.proving.proof

-- what proves who greets to the server that answered so
abbrev pub proof_of_client : Option StoreKey → Nonces → List ℕ
proof_of_client None nonces = no_proof
proof_of_client (Some key) nonces = client_proof key nonces

-- A server is known to who greeted it: it is the one that was greeted, of the same store, and what came are its Welcome and what it holds.
pub record IsKnownServer (hello : Hello) (key : Option StoreKey) (held : Option Held) (read written : List ℕ) (known : Known) : Type 0 where
  pub welcome : Welcome
  pub expected : IsExpected hello welcome
  pub of_store : IsOfStore hello key welcome
  pub came : read ≡ greeting_bytes (greetings.Welcome welcome) ++ greeting_bytes (greetings.Known known)
  pub sent : written ≡ greeting_bytes (greetings.Hello hello)
      ++ greeting_bytes (greetings.Proof (record { proof = proof_of_client key (nonces_of hello welcome); held = held }))

-- and its store has so many servers, as its Welcome says
abbrev pub IsMetServer : Hello → Option StoreKey → Option Held → (read written : List ℕ) → Met → Type 0
IsMetServer hello key held read written met = (server : IsKnownServer hello key held read written met.known) × (met.servers ≡ server.welcome.servers)

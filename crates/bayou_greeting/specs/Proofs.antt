-- Proofs that an end knows the key of its store: this project's own, by the HMAC of RFC 2104 over SHA-256. The two roles differ in their first
-- bytes, so that a proof of one is none of the other.
use Rattle.std.specs.Prelude.{◌≡◌, ℕ, List, [], ◌∷◌, ◌++◌, Option, None, Some, codes, length}
use Rattle.bayou_base.specs.declared.server.ServerId.{ServerId}
use Rattle.bayou_wire.specs.declared.greeting.ServerCount.{ServerCount}
use Rattle.bayou_wire.specs.declared.layout.TheConstants.{NONCE_BYTES}
use Rattle.bayou_greeting.specs.declared.proofs_of_key.Nonces.{Nonces}
use Rattle.bayou_greeting.specs.declared.store_key.StoreKey.{StoreKey}
use Rattle.bayou_greeting.specs.Hmac.{hmac_sha256}

-- each of the two has its bytes
abbrev pub AreNonces : Nonces → Type 0
AreNonces nonces = (length nonces.client ≡ NONCE_BYTES) × (length nonces.server ≡ NONCE_BYTES)

-- what a server proves: both nonces, the client's first, which server it says itself to be, and how many there are
abbrev pub server_text : Nonces → ServerId → ServerCount → List ℕ
server_text nonces id servers = codes "server" ++ (nonces.client ++ (nonces.server ++ (id.index ∷ servers.count ∷ [])))

-- what a client proves: both nonces, the server's first
abbrev pub client_text : Nonces → List ℕ
client_text nonces = codes "client" ++ (nonces.server ++ nonces.client)

abbrev pub server_proof : StoreKey → Nonces → ServerId → ServerCount → List ℕ
server_proof key nonces id servers = hmac_sha256 key.secret (server_text nonces id servers)

abbrev pub client_proof : StoreKey → Nonces → List ℕ
client_proof key nonces = hmac_sha256 key.secret (client_text nonces)

-- who greets with this proof is let in: at an open store with any, at one with a key with the proof of its client alone
abbrev pub IsAdmitted : Option StoreKey → Nonces → List ℕ → Type 0
IsAdmitted None nonces found = Unit {0}
IsAdmitted (Some key) nonces found = found ≡ client_proof key nonces

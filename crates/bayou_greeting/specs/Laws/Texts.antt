-- What is proved is of one end, and of one greeting.
use Rattle.std.proofs.Common.{◌≡◌, ◌≢◌, ℕ, List, [], ◌∷◌, ◌++◌, length, take, drop, get_or, sym, ap, ◌∙◌, arith}
use Rattle.std.proofs.lemmas.List.{take_at, drop_at}
use Rattle.bayou_base.specs.declared.server.ServerId.{ServerId}
use Rattle.bayou_wire.specs.declared.greeting.ServerCount.{ServerCount}
use Rattle.bayou_wire.specs.declared.layout.TheConstants.{NONCE_BYTES}
use Rattle.bayou_greeting.specs.declared.proofs_of_key.Nonces.{Nonces}
use Rattle.bayou_greeting.specs.Laws.Equality.{one_server, one_count}
use Rattle.bayou_greeting.specs.Proofs.{AreNonces, client_text, server_text}

-- a server's text is no client's
pub texts_differ : (nonces others : Nonces) (id : ServerId) (servers : ServerCount) → server_text nonces id servers ≢ client_text others
texts_differ nonces others id servers same = let first : 115 ≡ 99 = ap (λ text. get_or text 0 0) same in absurd (omega (arith, first))

-- two parts, of which the first has so many bytes, are told apart
parted : (n : ℕ) (a b x y : List ℕ) → length a ≡ n → length b ≡ n → a ++ x ≡ b ++ y → (a ≡ b) × (x ≡ y)
parted n a b x y of_a of_b same =
    (sym (take_at a x n of_a) ∙ ap (take n) same ∙ take_at b y n of_b, sym (drop_at a x n of_a) ∙ ap (drop n) same ∙ drop_at b y n of_b)

pub one_client_text : (nonces others : Nonces) → AreNonces nonces → AreNonces others → client_text nonces ≡ client_text others → nonces ≡ others
one_client_text nonces others are other_are same =
    let parts = parted NONCE_BYTES nonces.server others.server nonces.client others.client are.1 other_are.1 (ap (drop 6) same) in
    let made : List ℕ → List ℕ → Nonces = λ client server. record { client = client; server = server } in
    ap (λ client. made client nonces.server) parts.1 ∙ ap (made others.client) parts.0

pub one_server_text : (nonces others : Nonces) (id other_id : ServerId) (servers other_servers : ServerCount) → AreNonces nonces → AreNonces others
    → server_text nonces id servers ≡ server_text others other_id other_servers → (nonces ≡ others) × (id ≡ other_id) × (servers ≡ other_servers)
one_server_text nonces others id other_id servers other_servers are other_are same =
    let place : List ℕ = id.index ∷ servers.count ∷ [] in
    let other_place : List ℕ = other_id.index ∷ other_servers.count ∷ [] in
    let first = parted NONCE_BYTES nonces.client others.client (nonces.server ++ place) (others.server ++ other_place) are.0 other_are.0 (ap (drop 6) same) in
    let second = parted NONCE_BYTES nonces.server others.server place other_place are.1 other_are.1 first.1 in
    let made : List ℕ → List ℕ → Nonces = λ client server. record { client = client; server = server } in (
      ap (λ client. made client nonces.server) first.0 ∙ ap (made others.client) second.0,
      one_server id other_id (ap (λ list. get_or list 0 0) second.1),
      one_count servers other_servers (ap (λ list. get_or list 1 0) second.1),
    )

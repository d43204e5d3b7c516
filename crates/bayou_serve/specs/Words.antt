-- What the words of a command line say of a server that lives: this project's own.
use Rattle.std.specs.Prelude.{◌≡◌, ◌≢◌, ◌==◌, ℕ, ◌<◌, ◌≤◌, Bool, false, List, [], All, Contains, length, slice_index_or}
use Rattle.std.specs.List.{AllZip, after_first, before_first, position_or_len}
use Rattle.std.specs.Net.Addr.{IsLoopbackV4, IsLoopbackV6, MatchIp}
use Rattle.std.specs.Net.Grammar.{IsSocketText}
use Rattle.std.specs.Net.Socket.{socket_ip}
use Rattle.std.specs.declared.net.socket_addr.SocketAddr.{SocketAddr}
use Rattle.std.specs.Str.Parse.{IsNumeral, digits_value, without_leading_plus}
use Rattle.bayou_serve.specs.declared.plan.Peer.{Peer}
use Rattle.bayou_serve.specs.declared.plan.ServicePlanFault.{ServicePlanFault}
use Rattle.bayou_base.specs.declared.server.ServerId.{ServerId}
use Rattle.bayou_serve.specs.declared.plan.Beginning.{Beginning}
use Rattle.bayou_serve.specs.declared.plan.Beginning.TheVariants.{Restore}
use Rattle.bayou_serve.specs.declared.plan.ServicePlanFault.TheVariants.{NoServer, NoAddress, OpenToAnyone, NoPeer, SamePeer, TwoBeginnings, NoOther, NothingRestored, Unnamed, OutOfMemory}

-- the sign between a server's number and its address
abbrev pub is_equals_sign : ℕ → Bool
is_equals_sign byte = byte == 61

-- the word says the peer and where it listens: I=ADDRESS:PORT
pub record SaysPeer (word : List ℕ) (peer : Peer) : Type 0 where
  pub split : position_or_len is_equals_sign word < length word
  pub numeral : IsNumeral 10 (without_leading_plus (before_first is_equals_sign word))
  pub number : peer.id.index ≡ digits_value 10 (without_leading_plus (before_first is_equals_sign word))
  pub listens : IsSocketText (after_first is_equals_sign word) peer.address

-- nobody but its own machine reaches the address
abbrev pub IsLoopback : SocketAddr → Type 0
IsLoopback address = MatchIp (socket_ip address) IsLoopbackV4 IsLoopbackV6

-- The word says the address: ADDRESS:PORT. Only where the server serves anyone strangers may reach it.
pub record SaysListen (word : List ℕ) (serves_anyone : Bool) (address : SocketAddr) : Type 0 where
  pub text : IsSocketText word address
  pub guarded : serves_anyone ≡ false → IsLoopback address

-- the peer is another one of so many servers
abbrev pub IsAnother : (server servers : ℕ) → Peer → Type 0
IsAnother server servers peer = (peer.id.index < servers) × (peer.id.index ≢ server)

-- the word says no other one of so many servers
abbrev pub SaysNoOther : (server servers : ℕ) → (word : List ℕ) → Type 0
SaysNoOther server servers word = (peer : Peer) → SaysPeer word peer → ¬ (IsAnother server servers peer)

-- two of the words say the same server
pub record SayOneTwice (words : List (List ℕ)) : Type 0 where
  pub first : ℕ
  pub second : ℕ
  pub behind : first < second
  pub among : second < length words
  pub one : Peer
  pub other : Peer
  pub one_said : SaysPeer (slice_index_or words first []) one
  pub other_said : SaysPeer (slice_index_or words second []) other
  pub same : one.id.index ≡ other.id.index

-- why a word doesn't say where a server is to listen: it is no address; or strangers reach it, and the server isn't to serve anyone
abbrev pub RefusesListen : (word : List ℕ) → (serves_anyone : Bool) → ServicePlanFault → Type 0
RefusesListen word serves_anyone NoAddress = (address : SocketAddr) → ¬ (IsSocketText word address)
RefusesListen word serves_anyone OpenToAnyone = (serves_anyone ≡ false) × ((address : SocketAddr) × IsSocketText word address × ¬ (IsLoopback address))
RefusesListen word serves_anyone _ = ⊥

-- why words don't say its peers: one of them says no other server, or two say one; or memory is wanting
abbrev pub RefusesPeers : (server servers : ℕ) → (words : List (List ℕ)) → ServicePlanFault → Type 0
RefusesPeers server servers words NoPeer = (word : List ℕ) × Contains words word × SaysNoOther server servers word
RefusesPeers server servers words SamePeer = SayOneTwice words
RefusesPeers server servers words OutOfMemory = Unit {0}
RefusesPeers server servers words _ = ⊥

-- the word says the server: I
pub record SaysServer (word : List ℕ) (server : ServerId) : Type 0 where
  pub numeral : IsNumeral 10 (without_leading_plus word)
  pub number : server.index ≡ digits_value 10 (without_leading_plus word)

-- the server may be left out: it is another one of so many, and no peer
pub record IsLeftOut (server servers : ℕ) (peers : List Peer) (number : ℕ) : Type 0 where
  pub below : number < servers
  pub other : number ≢ server
  pub no_peer : All (λ peer. peer.id.index ≢ number) peers

-- the word says none that may be
abbrev pub SaysNoneLeftOut : (server servers : ℕ) → (peers : List Peer) → (word : List ℕ) → Type 0
SaysNoneLeftOut server servers peers word = (left : ServerId) → SaysServer word left → ¬ (IsLeftOut server servers peers left.index)

-- the server is no peer, and isn't left out
pub record IsApart (peers : List Peer) (left_out : List ServerId) (number : ℕ) : Type 0 where
  pub no_peer : All (λ peer. peer.id.index ≢ number) peers
  pub kept : All (λ left. left.index ≢ number) left_out

-- each other one of so many servers is a peer, or left out
abbrev pub AreNamed : (server servers : ℕ) (peers : List Peer) (left_out : List ServerId) → Type 0
AreNamed server servers peers left_out = (number : ℕ) → number < servers → number ≢ server → ¬ (IsApart peers left_out number)

-- this one is neither
pub record IsUnnamed (server servers : ℕ) (peers : List Peer) (left_out : List ServerId) (number : ℕ) : Type 0 where
  pub below : number < servers
  pub other : number ≢ server
  pub apart : IsApart peers left_out number

-- why words don't say servers that are left out: one of them says none that may be; or memory is wanting
abbrev pub RefusesLeftOut : (server servers : ℕ) → (peers : List Peer) → (words : List (List ℕ)) → ServicePlanFault → Type 0
RefusesLeftOut server servers peers words NoOther = (word : List ℕ) × Contains words word × SaysNoneLeftOut server servers peers word
RefusesLeftOut server servers peers words OutOfMemory = Unit {0}
RefusesLeftOut server servers peers words _ = ⊥

-- why a server doesn't begin so: it isn't restored, and one is left out; or it is, and one of so many is no peer, and not left out
abbrev pub RefusesBeginning : (server servers : ℕ) → (peers : List Peer) → (left_out : List ServerId) → Beginning → ServicePlanFault → Type 0
RefusesBeginning server servers peers left_out beginning NothingRestored = (beginning ≢ Restore) × (left_out ≢ [])
RefusesBeginning server servers peers left_out beginning (Unnamed number) = (beginning ≡ Restore) × IsUnnamed server servers peers left_out number
RefusesBeginning server servers peers left_out beginning _ = ⊥

-- the words say these peers, and these servers that are left out
pub record SayOthers (peer_words left_words : List (List ℕ)) (peers : List Peer) (left_out : List ServerId) : Type 0 where
  pub peers_said : AllZip SaysPeer peer_words peers
  pub left_said : AllZip SaysServer left_words left_out

-- Why words make no plan: the server is none of so many, or one of these.
abbrev pub Refuses : (server servers : ℕ) → (listen : List ℕ) → (serves_anyone : Bool) → (peer_words left_words : List (List ℕ)) → Beginning → ServicePlanFault → Type 0
Refuses server servers listen serves_anyone peer_words left_words beginning NoServer = servers ≤ server
Refuses server servers listen serves_anyone peer_words left_words beginning NoAddress = RefusesListen listen serves_anyone NoAddress
Refuses server servers listen serves_anyone peer_words left_words beginning OpenToAnyone = RefusesListen listen serves_anyone OpenToAnyone
Refuses server servers listen serves_anyone peer_words left_words beginning NoPeer = RefusesPeers server servers peer_words NoPeer
Refuses server servers listen serves_anyone peer_words left_words beginning SamePeer = RefusesPeers server servers peer_words SamePeer
Refuses server servers listen serves_anyone peer_words left_words beginning TwoBeginnings = ⊥
Refuses server servers listen serves_anyone peer_words left_words beginning NoOther =
    (peers : List Peer) × AllZip SaysPeer peer_words peers × RefusesLeftOut server servers peers left_words NoOther
Refuses server servers listen serves_anyone peer_words left_words beginning NothingRestored = (beginning ≢ Restore) × (left_words ≢ [])
Refuses server servers listen serves_anyone peer_words left_words beginning (Unnamed number) =
    (beginning ≡ Restore) × ((peers : List Peer) × (left_out : List ServerId) × SayOthers peer_words left_words peers left_out × IsUnnamed server servers peers left_out number)
Refuses server servers listen serves_anyone peer_words left_words beginning OutOfMemory = Unit {0}

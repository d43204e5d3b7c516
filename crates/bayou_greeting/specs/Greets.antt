-- Whether who answers a greeting is the one that was greeted: this project's own rules. Who greets says what it goes by in its Hello.
use Rattle.std.specs.Prelude.{◌≡◌, Option, None, Some, IfSome}
use Rattle.bayou_wire.specs.declared.greeting.Hello.{Hello}
use Rattle.bayou_wire.specs.declared.greeting.Welcome.{Welcome}
use Rattle.bayou_greeting.specs.declared.proofs_of_key.Nonces.{Nonces}
use Rattle.bayou_greeting.specs.declared.store_key.StoreKey.{StoreKey}
use Rattle.bayou_greeting.specs.Proofs.{server_proof}

-- it speaks the version that was spoken
abbrev pub SpeaksAs : Hello → Welcome → Type 0
SpeaksAs hello welcome = welcome.version ≡ hello.version

-- it is the server that was asked for, if one was
abbrev pub IsAsked : Hello → Welcome → Type 0
IsAsked hello welcome = IfSome hello.asked (λ server. welcome.id ≡ server)

-- it counts as many servers as who greets, if that counts them
abbrev pub CountsAs : Hello → Welcome → Type 0
CountsAs hello welcome = IfSome hello.servers (λ servers. welcome.servers ≡ servers)

-- all three
abbrev pub IsExpected : Hello → Welcome → Type 0
IsExpected hello welcome = SpeaksAs hello welcome × IsAsked hello welcome × CountsAs hello welcome

-- what both drew for this greeting
abbrev pub nonces_of : Hello → Welcome → Nonces
nonces_of hello welcome = record { client = hello.nonce; server = welcome.nonce }

-- it proves that it knows the key, as the server that it says itself to be
abbrev pub Proves : Hello → StoreKey → Welcome → Type 0
Proves hello key welcome = welcome.proof ≡ server_proof key (nonces_of hello welcome) welcome.id welcome.servers

-- it is of the key's store: it has the name and proves that it knows the key; without a key, it is of an open store
abbrev pub IsOfStore : Hello → Option StoreKey → Welcome → Type 0
IsOfStore hello None welcome = welcome.name ≡ None
IsOfStore hello (Some key) welcome = (welcome.name ≡ Some key.name) × Proves hello key welcome

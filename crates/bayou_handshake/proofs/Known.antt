-- That a server is known to who greeted it.
use Rattle.std.proofs.Common.{◌≡◌, ◌++◌, ℕ, List, Option, Some, ap, ap₂, refl, subst}
use Rattle.std.specs.Prelude.{IfSome, IsSomeAnd}
use Rattle.bayou_greeting.specs.declared.store_key.StoreKey.{StoreKey}
use Rattle.bayou_greeting.specs.Greets.{IsExpected, IsOfStore, nonces_of}
use Rattle.bayou_handshake.specs.Ends.{IsKnownServer, proof_of_client}
use Rattle.bayou_wire.specs.declared.greeting.Greeting.TheVariants as greetings
use Rattle.bayou_wire.specs.declared.greeting.Hello.{Hello}
use Rattle.bayou_wire.specs.declared.greeting.Held.{Held}
use Rattle.bayou_wire.specs.declared.greeting.Known.{Known}
use Rattle.bayou_wire.specs.declared.greeting.Welcome.{Welcome}
use Rattle.bayou_wire.specs.Greetings.{SpellsGreeting, greeting_bytes}

-- with how many servers its store has, by its Welcome
pub met_by : (hello : Hello) (key : Option StoreKey) (held : Option Held) (found : Option Welcome) (welcome : Welcome) (proved first second : List ℕ) (known : Known)
    → found ≡ Some welcome → IsSomeAnd found (λ w. IsExpected hello w × IsOfStore hello key w) → IfSome found (λ w. SpellsGreeting first (greetings.Welcome w))
    → proved ≡ proof_of_client key (nonces_of hello welcome) → SpellsGreeting second (greetings.Known known)
    → (server : IsKnownServer hello key held (first ++ second) (greeting_bytes (greetings.Hello hello) ++ greeting_bytes (greetings.Proof (record { proof = proved; held = held }))) known) × (welcome.servers ≡ server.welcome.servers)
met_by hello key held found welcome proved first second known is good came proves ends =
    let of_it = subst (λ (o : Option Welcome). IsSomeAnd o (λ w. IsExpected hello w × IsOfStore hello key w)) is good in
    let spells = subst (λ (o : Option Welcome). IfSome o (λ w. SpellsGreeting first (greetings.Welcome w))) is came in (
      record {
        welcome = welcome;
        expected = of_it.0;
        of_store = of_it.1;
        came = ap₂ (λ (a b : List ℕ). a ++ b) spells.spelled ends.spelled;
        sent = ap (λ (p : List ℕ). greeting_bytes (greetings.Hello hello) ++ greeting_bytes (greetings.Proof (record { proof = p; held = held }))) proves;
      },
      refl,
    )

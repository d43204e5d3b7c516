-- Who was let in may ask.
use Rattle.std.proofs.Common.{◌≡◌, IfSome, List, None, Option, Some, ℕ}
use Rattle.bayou_greeting.specs.Proofs.{IsAdmitted, client_proof}
use Rattle.bayou_greeting.specs.declared.proofs_of_key.Nonces.{Nonces}
use Rattle.bayou_greeting.specs.declared.store_key.StoreKey.{StoreKey}

-- whose proof is the one that the store asks for has that of a client, where the store has a key
pub proved : (key : Option StoreKey) (nonces : Nonces) (proof : List ℕ) → IsAdmitted key nonces proof → IfSome key (λ key. proof ≡ client_proof key nonces)
proved None nonces proof admitted = tt
proved (Some key) nonces proof admitted = admitted

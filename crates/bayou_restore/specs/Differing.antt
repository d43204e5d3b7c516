-- Where two servers have other Writes under a name that one server gave: that server went on from a journal that lacked some of its own. This
-- project's own.
use Rattle.std.specs.Prelude.{◌≡◌, ◌≢◌, ◌<◌, ℕ, List, Contains}
use Rattle.bayou_lang.specs.declared.write.Write.{Write}

-- the Write of this number that this server made
abbrev pub IsNamed : (server number : ℕ) → Write → Type 0
IsNamed server number write = (write.wid.origin.index ≡ server) × (write.wid.seq ≡ number)

-- both lists have a Write of this server under this number, and the two aren't the same
pub record Differ (one other : List Write) (server number : ℕ) : Type 0 where
  pub write : Write
  pub another : Write
  pub among : Contains one write × IsNamed server number write
  pub among_other : Contains other another × IsNamed server number another
  pub differ : write ≢ another

-- whatever both lists have of this server under this number is the same in both
abbrev pub Agree : (one other : List Write) → (server number : ℕ) → Type 0
Agree one other server number =
    (write another : Write) → Contains one write → Contains other another → IsNamed server number write → IsNamed server number another → write ≡ another

-- under this number the two differ, and under each smaller one they agree
pub record IsFirstDifference (one other : List Write) (server number : ℕ) : Type 0 where
  pub differ : Differ one other server number
  pub first : (smaller : ℕ) → smaller < number → Agree one other server smaller

-- whatever both lists have of this server under one number is the same in both
abbrev pub AgreeOnAll : (one other : List Write) → (server : ℕ) → Type 0
AgreeOnAll one other server = (number : ℕ) → Agree one other server number

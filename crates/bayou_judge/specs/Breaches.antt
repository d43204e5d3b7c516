-- Pairs of operations that violate a guarantee (Terry et al. 1994), and the order in which they are reported, which is this
-- project's own.
use Rattle.std.specs.Prelude.{◌≡◌, ℕ, ◌<◌, Bool, false, ◌&&◌, ◌||◌, ◌==◌, nat_lt, List, [], ◌∷◌, Contains}
use Rattle.bayou_base.specs.declared.asks.Asks.{Asks}
use Rattle.bayou_base.specs.declared.wid.Wid.{Wid}
use Rattle.bayou_lang.specs.declared.write.Write.{Write}
use Rattle.bayou_judge.specs.declared.breach.Guarantee.{Guarantee}
use Rattle.bayou_judge.specs.declared.breach.Guarantee.TheVariants as guarantees
use Rattle.bayou_judge.specs.declared.breach.Breach.{Breach}
use Rattle.bayou_judge.specs.History.{History}
use Rattle.bayou_judge.specs.Guarantees.{PrecedesIn, ReadYourWrites, MonotonicReads, WritesFollowReads, MonotonicWrites}

-- at this server the one Write doesn't precede the other
abbrev pub FailsToPrecede : History → ℕ → Write → Write → Type 0
FailsToPrecede history server earlier later = (database : List Write) × history.Had server database × ¬ PrecedesIn database earlier later

-- The operations at two places of a session violate the guarantee: at this server the Write of this name is missing, or isn't
-- before the later Write.
abbrev pub Violates : History → Guarantee → (session first second server : ℕ) → Wid → Type 0
Violates history guarantees.ReadYourWrites session first second server wid = (write : Write) × (database : List Write)
    × history.Wrote session first write × history.Read session second server database × (write.wid ≡ wid) × ¬ Contains database write
Violates history guarantees.MonotonicReads session first second server wid = (other : ℕ) × (earlier : List Write) × (later : List Write) × (write : Write)
    × history.Read session first other earlier × history.Read session second server later
    × Contains earlier write × (write.wid ≡ wid) × ¬ Contains later write
Violates history guarantees.WritesFollowReads session first second server wid = (other : ℕ) × (database : List Write) × (write : Write) × (earlier : Write)
    × history.Read session first other database × history.Wrote session second write
    × Contains database earlier × (earlier.wid ≡ wid) × FailsToPrecede history server earlier write
Violates history guarantees.MonotonicWrites session first second server wid = (earlier : Write) × (later : Write)
    × history.Wrote session first earlier × history.Wrote session second later
    × (earlier.wid ≡ wid) × FailsToPrecede history server earlier later

-- a breach of its guarantee in its session
pub record IsBreach (history : History) (breach : Breach) : Type 0 where
  pub in_order : breach.first < breach.second
  pub violates : Violates history breach.guarantee breach.session.index breach.first breach.second breach.server.index breach.wid

-- the guarantees in the order in which they are judged
abbrev pub rank : Guarantee → ℕ
rank guarantees.ReadYourWrites = 0
rank guarantees.MonotonicReads = 1
rank guarantees.WritesFollowReads = 2
rank guarantees.MonotonicWrites = 3

-- what breaches are ordered by: the first of these that differs decides
abbrev pub key_of : Breach → List ℕ
key_of breach = breach.session.index ∷ rank breach.guarantee ∷ breach.second ∷ breach.first ∷ breach.server.index
    ∷ breach.wid.origin.index ∷ breach.wid.seq ∷ []

-- the first number that differs is less
abbrev pub is_less : List ℕ → List ℕ → Bool
is_less [] others = false
is_less (number ∷ numbers) [] = false
is_less (number ∷ numbers) (other ∷ others) = nat_lt number other || ((number == other) && is_less numbers others)

-- whether the guarantee is asked for
abbrev pub is_asked : Asks → Guarantee → Bool
is_asked asks guarantees.ReadYourWrites = asks.ryw
is_asked asks guarantees.MonotonicReads = asks.mr
is_asked asks guarantees.WritesFollowReads = asks.wfr
is_asked asks guarantees.MonotonicWrites = asks.mw

-- the guarantee, of a session
abbrev pub Holds : History → Guarantee → ℕ → Type 0
Holds history guarantees.ReadYourWrites = ReadYourWrites history
Holds history guarantees.MonotonicReads = MonotonicReads history
Holds history guarantees.WritesFollowReads = WritesFollowReads history
Holds history guarantees.MonotonicWrites = MonotonicWrites history

-- the least breach of one guarantee in one session
pub record IsLeastOf (history : History) (guarantee : Guarantee) (session : ℕ) (breach : Breach) : Type 0 where
  pub guarantee_is : breach.guarantee ≡ guarantee
  pub session_is : breach.session.index ≡ session
  pub is : IsBreach history breach
  pub least : (other : Breach) → other.guarantee ≡ guarantee → other.session.index ≡ session → IsBreach history other
      → is_less (key_of other) (key_of breach) ≡ false

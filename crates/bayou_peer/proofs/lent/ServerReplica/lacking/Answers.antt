use Rattle.std.proofs.Common.{◌≡◌, ◌∙◌, ℕ, List, Result, Ok, Err, IfOk, take, drop, ap, subst, length}
use Rattle.bayou_base.specs.declared.limits.TheConstants.{SERVERS}
use Rattle.bayou_base.specs.Vector.{AreCounts}
use Rattle.bayou_lang.specs.declared.write.Write.{Write}
use Rattle.bayou_lang.specs.Writes.{AreFitting, lacking_of, raised_by}
use Rattle.bayou_lang.specs.Laws.Lacking.{lacking_of-goes_on}
use Rattle.bayou_peer.proofs.lent.ServerReplica.lacking.Goals as goal

listed-goes_on : {A E : Type 0} (listed : A → List Write) (result : Result A E) (count most : ℕ) (counts : List ℕ) (held : List Write)
    → AreFitting count held → length counts ≡ SERVERS → IfOk result (λ writes. listed writes ≡ take most (lacking_of counts held))
    → IfOk result (λ writes. lacking_of (raised_by counts (listed writes)) held ≡ drop most (lacking_of counts held))
listed-goes_on listed (Ok writes) count most counts held fitting one_each is =
    ap (λ told. lacking_of (raised_by counts told) held) is ∙ lacking_of-goes_on count most counts held fitting one_each
listed-goes_on listed (Err refused) count most counts held fitting one_each is = is

pub returns-clause-goes_on : goal.returns-clause-goes_on
returns-clause-goes_on g c =
    let are = subst AreCounts c.counts-each.ensures.value c.counts-each.ensures.valid in
    let core = c.args.self.now.core in
    listed-goes_on (λ writes. writes.items) c.lacking.result core.count c.args.most c.args.counts.now core.held
    c.lacking.ensures.sound.holds.sound.fitting are.one_each c.lacking.ensures.value

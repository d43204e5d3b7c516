use Rattle.std.proofs.Common.{◌≡◌, ◌∙◌, ℕ, List, Result, Ok, Err, IfOk, take, drop, ap, subst, length}
use Rattle.bayou_base.specs.declared.limits.TheConstants.{SERVERS}
use Rattle.bayou_base.specs.Vector.{AreCounts}
use Rattle.bayou_lang.specs.declared.write.Write.{Write}
use Rattle.bayou_lang.specs.Writes.{AreFitting, lacking_of, raised_by}
use Rattle.bayou_lang.specs.Laws.Lacking.{lacking_of-goes_on}
use Rattle.bayou_restore.specs.Gathering.{Gathering}
use Rattle.bayou_restore.proofs.gathering.GatheredReplica.lacking.Goals as goal

listed-goes_on : {A E : Type 0} (listed : A → List Write) (result : Result A E) (count most : ℕ) (counts : List ℕ) (held : List Write)
    → AreFitting count held → length counts ≡ SERVERS → IfOk result (λ writes. listed writes ≡ take most (lacking_of counts held))
    → IfOk result (λ writes. lacking_of (raised_by counts (listed writes)) held ≡ drop most (lacking_of counts held))
listed-goes_on listed (Ok writes) count most counts held fitting one_each is =
    ap (λ told. lacking_of (raised_by counts told) held) is ∙ lacking_of-goes_on count most counts held fitting one_each
listed-goes_on listed (Err refused) count most counts held fitting one_each is = is

pub returns-clause-goes_on : goal.returns-clause-goes_on
returns-clause-goes_on c =
    let are = subst AreCounts c.counts-each.ensures.value c.counts-each.ensures.valid in
    let log = c.self.inside.log in
    let fitting = subst (AreFitting log.count) c.receipts-fitting.ensures.value c.receipts-fitting.ensures.fitting in
    let goes_on = listed-goes_on (λ writes. writes.items) c.lacking.result log.count c.args.most c.args.counts.now log.receipts fitting are.one_each c.lacking.ensures in
    subst (λ (gathering : Gathering). IfOk c.lacking.result (λ writes. lacking_of (raised_by c.args.counts.now writes.items) gathering.writes ≡ drop c.args.most (lacking_of c.args.counts.now gathering.writes)))
    c.self.view_is goes_on

-- What is reported of the visits to a peer: this project's own.
use Rattle.std.specs.Prelude.{◌≡◌, ◌⊎◌, Option, Some}
use Rattle.bayou_peer.specs.declared.fault.PullFault.{PullFault}
use Rattle.bayou_peer.specs.declared.pulling.Pulled.{Pulled as Counts}
use Rattle.bayou_serve.specs.declared.visit.News.{News}
use Rattle.bayou_serve.specs.declared.visit.News.TheVariants as news
use Rattle.bayou_serve.specs.declared.visit.Visit.{Visit}
use Rattle.bayou_serve.specs.declared.visit.Visit.TheVariants.{Away, Pulled, Failed}

-- the last visit took what there was
abbrev pub EndedWell : Option Visit → Type 0
EndedWell last = (counts : Counts) × (last ≡ Some (Pulled counts))

-- Nothing is reported exactly where the peer was away both times, or ended in the same fault both times, or ended well both times and nothing was
-- taken now.
abbrev pub IsNoNews : (last : Option Visit) → (now : Visit) → Type 0
IsNoNews last now =
    ((now ≡ Away) × (last ≡ Some Away))
    ⊎ (((fault : PullFault) × (now ≡ Failed fault) × (last ≡ Some (Failed fault)))
    ⊎ ((counts : Counts) × (now ≡ Pulled counts) × (counts.taken ≡ 0) × EndedWell last))

-- What is reported is what the visit came to: a peer that ended well is reported as reached where it hadn't before.
abbrev pub Tells : (last : Option Visit) → (now : Visit) → News → Type 0
Tells last now news.Away = now ≡ Away
Tells last now (news.Reached counts) = (now ≡ Pulled counts) × ¬ (EndedWell last)
Tells last now (news.Pulled counts) = (now ≡ Pulled counts) × EndedWell last
Tells last now (news.Failed fault) = now ≡ Failed fault

use Rattle.bayou_peer.proofs.Beyond.{asked_each, asked_own}
use Rattle.bayou_peer.proofs.Looked.{kept_is_none, lost_is_held, never_bad, never_cut}
use Rattle.bayou_peer.proofs.losing.what_is_asked_for_is_own.Goals as goal

pub returns-clause-own : goal.returns-clause-own
returns-clause-own c server own held among = asked_own server own held among

pub returns-clause-each : goal.returns-clause-each
returns-clause-each c server own held write among has beyond = asked_each server own held write among has beyond

pub returns-clause-lost : goal.returns-clause-lost
returns-clause-lost c server own held read left among each few whole lost = lost_is_held server own held read left among each whole lost

pub returns-clause-kept : goal.returns-clause-kept
returns-clause-kept c server own held read left among each few whole kept = kept_is_none server own held read left among each whole kept

pub returns-clause-known : goal.returns-clause-known
returns-clause-known c server own held read left among each few whole =
    (never_bad server own held read left among each whole, λ cut. never_cut server own held read left each whole cut.0 cut.1)

use Rattle.std.proofs.Common.{◌≡◌, ◌≢◌, ◌-◌, ℕ, List, All, Contains, length, ◌∙◌, ap, sym, subst, arith, take, vec_len}
use Rattle.bayou_base.specs.declared.stamp.Stamp.{Stamp}
use Rattle.bayou_lang.specs.declared.eval.Outcome.{Outcome}
use Rattle.bayou_lang.specs.declared.write.Write.{Write}
use Rattle.bayou_lang.specs.Database.{empty}
use Rattle.bayou_lang.specs.Laws.SetOfWrites.{IsStrict}
use Rattle.bayou_lang.specs.Writes.{in_stamp_order}
use Rattle.bayou_log.specs.Inner.Beside.{listed_with}
use Rattle.bayou_log.specs.Inner.Fields.{picked}
use Rattle.bayou_log.specs.Listing.{TellsOf, listing_of}
use Rattle.bayou_log.specs.Log.{Log, applied}
use Rattle.bayou_log.proofs.Agrees.{applied_few}
use Rattle.bayou_log.proofs.Became.{listed_with-is, outcomes_few}
use Rattle.bayou_log.proofs.CatchingUp.{applied_in_order}
use Rattle.bayou_log.proofs.Named.{All-front, one_stamp, strict_front, unlisted}
use Rattle.bayou_log.proofs.write_log.WriteLog.outcome_of.Goals as goal

pub returns-in_default : goal.returns-in_default
returns-in_default c =
    let log = c.args.self.now in
    unlisted (in_stamp_order (applied log)) empty c.args.wid
    (All-front (λ (held : Write). held.wid ≢ c.args.wid) log.receipts (length log.receipts - log.waiting) c.in_default.ensures.missing)

pub listed_of-requires-clause-ordered : goal.listed_of-requires-clause-ordered
listed_of-requires-clause-ordered c =
    let inside = c.self.inside in
    let writes = inside.writes.items in
    let order = inside.order.items in
    let pick : picked c.deref.result.now c.deref-2.result.now ≡ in_stamp_order (take (length order) writes) =
    ap (λ list. picked list c.deref-2.result.now) c.deref.ensures.value ∙ ap (picked writes) c.deref-2.ensures.value
    ∙ applied_in_order writes order inside.db inside.undone.undos c.self.invariant.2 in
    subst IsStrict (sym pick) (strict_front inside.count writes (length order) c.self.invariant.0.fitting)

pub listed_of-requires-clause-stamped : goal.listed_of-requires-clause-stamped
listed_of-requires-clause-stamped c =
    let inside = c.self.inside in
    let writes = inside.writes.items in
    let order = inside.order.items in
    let write : Write = c.in-Some.write.now in
    let pick : picked c.deref.result.now c.deref-2.result.now ≡ in_stamp_order (take (length order) writes) =
    ap (λ list. picked list c.deref-2.result.now) c.deref.ensures.value ∙ ap (picked writes) c.deref-2.ensures.value
    ∙ applied_in_order writes order inside.db inside.undone.undos c.self.invariant.2 in
    let found : Contains writes write = subst (λ (log : Log). Contains log.receipts write) (sym c.self.view_is) c.in-Some.ensures.held.0 in
    let all : All (λ (held : Write). held.wid ≡ c.args.wid → held.stamp ≡ c.stamp.result) writes =
    subst (λ (stamp : Stamp). All (λ (held : Write). held.wid ≡ c.args.wid → held.stamp ≡ stamp) writes) (sym c.stamp.ensures)
    (one_stamp inside.count writes write c.args.wid c.self.invariant.0.fitting found c.in-Some.ensures.held.1) in
    subst (λ (list : List Write). All (λ (held : Write). held.wid ≡ c.args.wid → held.stamp ≡ c.stamp.result) list) (sym pick)
    (All-front (λ (held : Write). held.wid ≡ c.args.wid → held.stamp ≡ c.stamp.result) writes (length order) all)

pub listed_of-requires-clause-as_many : goal.listed_of-requires-clause-as_many
listed_of-requires-clause-as_many c =
    let inside = c.self.inside in
    let few = applied_few inside.writes.items inside.order.items inside.db inside.undone.undos c.self.invariant.2 in
    omega (
      arith,
      outcomes_few inside.writes.items (length inside.order.items) inside.outcomes.items _ few.0 c.self.invariant.5,
      ap {A = List Outcome} length c.deref-3.ensures.value,
      ap {A = List ℕ} length c.deref-2.ensures.value,
    )

pub returns : goal.returns
returns c =
    let inside = c.self.inside in
    let writes = inside.writes.items in
    let order = inside.order.items in
    let first = in_stamp_order (take (length order) writes) in
    let few = applied_few writes order inside.db inside.undone.undos c.self.invariant.2 in
    let number : length order ≡ length writes - (vec_len inside.writes - vec_len inside.order) = omega (arith, few.0, inside.writes.ok.0, inside.order.ok.0) in
    let turn : listed_with (picked c.deref.result.now c.deref-2.result.now) c.deref-3.result.now ≡ listing_of (take (length writes - (vec_len inside.writes - vec_len inside.order)) writes) =
    ap (λ list. listed_with (picked list c.deref-2.result.now) c.deref-3.result.now) c.deref.ensures.value
    ∙ ap (λ list. listed_with (picked writes list) c.deref-3.result.now) c.deref-2.ensures.value
    ∙ ap (listed_with (picked writes order)) c.deref-3.ensures.value
    ∙ ap (λ list. listed_with list inside.outcomes.items) (applied_in_order writes order inside.db inside.undone.undos c.self.invariant.2)
    ∙ ap (listed_with first) c.self.invariant.5.each
    ∙ listed_with-is first empty
    ∙ ap (λ n. listing_of (take n writes)) number in
    subst (λ (log : Log). TellsOf (listing_of (applied log)) c.args.wid c.listed_of.result) c.self.view_is
    (subst (λ target. TellsOf target c.args.wid c.listed_of.result) turn c.listed_of.ensures)

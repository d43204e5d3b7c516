use Rattle.std.proofs.Common.{◌≡◌, ◌≢◌, ◌+◌, ◌<◌, ◌≤◌, ℕ, List, Option, Some, None, IfNone, MatchOption, All, Contains, get_or, slice_index, subst, arith, Bor}
use Rattle.std.proofs.lemmas.List.Elements.{All-contains}
use Rattle.bayou_base.specs.declared.wid.Wid.{Wid}
use Rattle.bayou_lang.specs.declared.write.Write.{Write}
use Rattle.bayou_lang.specs.declared.resting.RestingWrite.{RestingWrite}
use Rattle.bayou_lang.specs.Laws.Equality.{server-ext, wid-ext}
use Rattle.bayou_lang.specs.Laws.Fitting.{fitting_is_prefix_closed}
use Rattle.bayou_lang.specs.Writes.{AreFitting, count_of}
use Rattle.bayou_restore.specs.Inner.Counting.{IsDue}
use Rattle.bayou_restore.proofs.restoring.next_of.Goals as goal

-- where the next Write of the server isn't there, none is due
none_due : (count : ℕ) (writes : List Write) (wid : Wid) (counts told : List ℕ) → AreFitting count writes → wid.seq ≡ slice_index told wid.origin.index + 1
    → All (λ other. other.wid ≢ wid) writes → All (λ other. other.wid.origin.index ≡ wid.origin.index → ¬ IsDue counts told other) writes
none_due count writes wid counts told fitting next missing k d within at due =
    let other = get_or writes k d in
    let closed = fitting_is_prefix_closed count writes fitting in
    let beyond = subst (λ s. other.wid.seq ≤ slice_index (count_of writes) s) at (closed.none_beyond k d within) in
    let behind = subst (λ s. slice_index told s < other.wid.seq) at due.0 in
    let any = closed.none_missing wid.origin.index wid.seq wid.in_range.0 (omega (arith, next, beyond, behind)) in
    All-contains (λ (w : Write). w.wid ≢ wid) writes any.1 missing (any.0, any.2, any.3)
    (wid-ext any.1.wid wid (server-ext any.1.wid.origin wid.origin any.4.0) any.4.1)

none_of : (count : ℕ) (writes : List Write) (wid : Wid) (counts told : List ℕ) (found : Option (Bor RestingWrite)) → AreFitting count writes → wid.seq ≡ slice_index told wid.origin.index + 1
    → MatchOption found (All (λ other. other.wid ≢ wid) writes) (λ write. Contains writes write.now × (write.now.wid ≡ wid))
    → IfNone found (All (λ other. other.wid.origin.index ≡ wid.origin.index → ¬ IsDue counts told other) writes)
none_of count writes wid counts told (Some write) fitting next is = tt
none_of count writes wid counts told None fitting next is = none_due count writes wid counts told fitting next is

pub returns-clause-none : goal.returns-clause-none
returns-clause-none c =
    none_of c.args.gathered.now.count c.args.gathered.now.writes _ c.args.counts.now c.args.told.now c.find.result c.requires (omega (arith, c.get-behind.ensures.value)) c.find.ensures

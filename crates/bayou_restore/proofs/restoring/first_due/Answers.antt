use Rattle.std.proofs.Common.{◌≡◌, ◌+◌, ◌≤◌, IfNone, IfSome, Contains, List, Option, Some, None, All, ℕ, option_copied, slice_index, sym, subst, arith, Bor}
use Rattle.bayou_lang.specs.declared.write.Write.{Write}
use Rattle.bayou_lang.specs.declared.resting.RestingWrite.{RestingWrite}
use Rattle.bayou_restore.specs.Inner.Counting.{IsDue, IsDueFirst}
use Rattle.bayou_restore.proofs.Due.{IsNextOf, first_of_more}
use Rattle.bayou_restore.proofs.restoring.first_due.Goals as goal

next_from : (server : ℕ) (counts told : List ℕ) (writes : List Write) (found : Option (Bor RestingWrite))
    → IfSome found (λ write. Contains writes write.now)
    → IfSome found (λ write. (write.now.wid.origin.index ≡ server) × (write.now.wid.seq ≡ slice_index told server + 1) × (write.now.wid.seq ≤ slice_index counts server))
    → IfNone found (All (λ other. other.wid.origin.index ≡ server → ¬ IsDue counts told other) writes) → IsNextOf server counts told writes (option_copied found)
next_from server counts told writes (Some write) among named none = (among, named.0, named.1, named.2)
next_from server counts told writes None among named none = none

pub loop-index-init : goal.loop-index-init
loop-index-init c = λ k d within below. absurd (omega arith)

pub loop-index-preserved : goal.loop-index-preserved
loop-index-preserved c =
    let counts = c.args.counts.now in
    let told = c.args.told.now in
    let writes = c.args.gathered.now.writes in
    let server = c.loop-index.index in
    let next = next_from server counts told writes c.next_of.result c.next_of.ensures.among c.next_of.ensures.named c.next_of.ensures.none in
    subst (IsDueFirst (server + 1) counts told writes) (sym c.earlier-first.ensures)
    (first_of_more c.args.gathered.now.count writes server counts told (option_copied c.loop-index.first) (option_copied c.next_of.result) c.requires c.loop-index.invariant next)

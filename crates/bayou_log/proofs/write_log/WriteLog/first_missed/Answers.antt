use Rattle.std.proofs.Common.{◌≡◌, ◌+◌, ◌≤◌, IfNone, IfSome, Contains, List, Option, Some, None, ℕ, option_copied, slice_index, sym, subst, arith, Bor}
use Rattle.bayou_base.specs.declared.limits.TheConstants.{SERVERS}
use Rattle.bayou_base.specs.Vector.{Dominates}
use Rattle.bayou_log.specs.Log.{Log}
use Rattle.bayou_lang.specs.declared.write.Write.{Write}
use Rattle.bayou_lang.specs.declared.resting.RestingWrite.{RestingWrite}
use Rattle.bayou_lang.specs.Writes.{count_of}
use Rattle.bayou_log.specs.Inner.Lacking.{IsFirstMissed}
use Rattle.bayou_log.proofs.Missed.{first_of_fewer, first_of_more, none_missed, IsNextOf}
use Rattle.bayou_log.proofs.write_log.WriteLog.first_missed.Goals as goal

next_from : (server : ℕ) (counts : List ℕ) (writes : List Write) (found : Option (Bor RestingWrite))
    → IfSome found (λ write. Contains writes write.now)
    → IfSome found (λ write. (write.now.wid.origin.index ≡ server) × (write.now.wid.seq ≡ slice_index counts server + 1))
    → IfNone found (slice_index (count_of writes) server ≤ slice_index counts server) → IsNextOf server counts writes (option_copied found)
next_from server counts writes (Some write) held named none = (held, named.0, named.1)
next_from server counts writes None held named none = none

pub loop-server-init : goal.loop-server-init
loop-server-init c = λ k d within below. absurd (omega arith)

pub loop-server-preserved : goal.loop-server-preserved
loop-server-preserved c =
    let counts = c.counts-counts.result.now in
    let writes = c.args.self.now.receipts in
    let server = c.loop-server.server in
    let next = next_from server counts writes c.next_of.result c.next_of.ensures.held c.next_of.ensures.named c.next_of.ensures.none in
    subst (IsFirstMissed (server + 1) counts writes) (sym c.earlier-first.ensures)
    (first_of_more c.args.self.now.count writes server counts (option_copied c.loop-server.first) (option_copied c.next_of.result) c.next_of.ensures.fitting c.loop-server.invariant next)

pub returns-clause-first : goal.returns-clause-first
returns-clause-first c =
    let writes = c.args.self.now.receipts in
    subst (λ counts. IsFirstMissed SERVERS counts writes (option_copied c.loop-server.first)) c.counts-counts.ensures.value
    (first_of_fewer writes SERVERS c.loop-server.server c.counts-counts.result.now (option_copied c.loop-server.first) c.loop-server-test.false c.loop-server.invariant)

pub returns-then-dominates-clause-first : goal.returns-then-dominates-clause-first
returns-then-dominates-clause-first c =
    let inside = c.self.inside in
    let told = c.args.told.now in
    let greater = subst (Dominates told) c.self.invariant.1.counted (c.dominates.ensures.counts.0 c.if-dominates.true) in
    subst (λ (log : Log). IsFirstMissed SERVERS told log.receipts None) c.self.view_is
    (none_missed inside.count inside.writes.items told c.self.invariant.0.fitting greater)

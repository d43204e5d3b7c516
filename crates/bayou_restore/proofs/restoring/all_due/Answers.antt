use Rattle.std.proofs.Common.{◌≡◌, ◌+◌, ◌≤◌, ◌∙◌, [], ◌∷◌, ◌++◌, List, ℕ, ap, length, length-append, refl, subst, sym, arith}
use Rattle.bayou_base.specs.declared.limits.TheConstants.{MAX_WRITES, SERVERS}
use Rattle.bayou_base.specs.Vector.{AreCounts, raised}
use Rattle.bayou_lang.specs.declared.write.Write.{Write}
use Rattle.bayou_restore.specs.Inner.Counting.{AreDue}
use Rattle.bayou_restore.proofs.Due.{due_more}
use Rattle.bayou_restore.proofs.Gap.{gap, gap-less, gap-most, length-raised, times}
use Rattle.bayou_restore.proofs.restoring.all_due.Goals as goal

pub loop-write-init : goal.loop-write-init
loop-write-init c =
    let counts = c.args.counts.now in
    let are = subst AreCounts c.counts-counts.ensures.value c.counts-counts.ensures.valid in
    let were = subst AreCounts c.counts-held.ensures.value c.counts-held.ensures.valid in
    let most : gap counts c.args.held ≤ times SERVERS MAX_WRITES =
    subst (λ (n : ℕ). gap counts c.args.held ≤ times n MAX_WRITES) are.one_each (gap-most counts c.args.held MAX_WRITES are.in_range) in
    record {
      due = subst (λ (due : List Write). AreDue counts c.args.gathered.now.writes c.args.held due c.args.held) (sym c.new-due.ensures.items) refl;
      few = omega (arith, most, ap length c.new-due.ensures.items);
      one_each = were.one_each;
    }

pub loop-write-smaller : goal.loop-write-smaller
loop-write-smaller c =
    let write = c.in-Some.write.now in
    let first = c.in-Some.ensures in
    let counts = c.args.counts.now in
    let told = c.loop-write.told in
    let now : c.raise.new.self ≡ raised told write.wid = c.raise.ensures ∙ ap (raised told) c.wid.ensures in
    let less = gap-less counts told write.wid.origin.index write.wid.seq (omega (arith, write.wid.origin.in_range, c.loop-write.invariant.one_each)) first.next first.counted in
    let after : gap counts c.raise.new.self + 1 ≡ gap counts told = ap (λ (t : List ℕ). gap counts t + 1) now ∙ less in
    omega (arith, after)

pub loop-write-preserved : goal.loop-write-preserved
loop-write-preserved c =
    let write = c.in-Some.write.now in
    let first = c.in-Some.ensures in
    let counts = c.args.counts.now in
    let writes = c.args.gathered.now.writes in
    let told = c.loop-write.told in
    let due = c.loop-write.due.items in
    let now : c.raise.new.self ≡ raised told write.wid = c.raise.ensures ∙ ap (raised told) c.wid.ensures in
    let less = gap-less counts told write.wid.origin.index write.wid.seq (omega (arith, write.wid.origin.in_range, c.loop-write.invariant.one_each)) first.next first.counted in
    let after : gap counts c.raise.new.self + 1 ≡ gap counts told = ap (λ (t : List ℕ). gap counts t + 1) now ∙ less in
    let pushed : c.push.new.self.items ≡ due ++ write ∷ [] = c.in_ok-push.ensures.items ∙ ap (λ (copy : Write). due ++ copy ∷ []) c.in_ok-copy.ensures in
    let more = due_more counts writes c.args.held told due write c.loop-write.invariant.due first in
    let behind = subst (λ (t : List ℕ). AreDue counts writes c.args.held (due ++ write ∷ []) t) (sym now) more in
    record {
      due = subst (λ (d : List Write). AreDue counts writes c.args.held d c.raise.new.self) (sym pushed) behind;
      few = omega (arith, c.loop-write.invariant.few, after, ap {A = List Write} length pushed, length-append due (write ∷ []));
      one_each = ap {A = List ℕ} length now ∙ length-raised told write.wid ∙ c.loop-write.invariant.one_each;
    }

use Rattle.std.proofs.Common.{◌≡◌, ℕ, [], false, List, Option, filter, length, ap, sym, ◌∙◌, subst, arith}
use Rattle.std.specs.List.Sorted.{IsStrictlySortedBy}
use Rattle.std.specs.Map.{keys_of}
use Rattle.std.specs.Int.{from_bool}
use Rattle.std.specs.Option.{is_some}
use Rattle.std.specs.Ordering.{nat_cmp}
use Rattle.std.specs.Cmp.Lexicographic.{slice_cmp}
use Rattle.std.specs.BTreeMap.Range.{entries_between}
use Rattle.std.specs.declared.ops.Bound.TheVariants.{Unbounded}
use Rattle.bayou_base.specs.declared.value.Value.{Value}
use Rattle.bayou_lang.specs.Database.{begins_with, number_with}
use Rattle.bayou_log.specs.Db.{Slots, database_of}
use Rattle.bayou_log.proofs.Prefixed.{Ascends, Ascends-rest, capped_over, capped_under, counts, is_from, none_counts, number_with-slots, one_at_most, one_counts, range_ascends, range_counts}
use Rattle.bayou_log.proofs.present.count.Goals as goal
use Rattle.bayou_log.proofs.present.count.Goals.{then-number-most-via-then-number-most, then-number-most-via-else-number-most+then-not-begins_with}

pub loop-key-init : goal.loop-key-init
loop-key-init c =
    let prefix = c.args.prefix.now in
    let slots : Slots = c.args.slots.now.entries in
    let ordered : IsStrictlySortedBy (slice_cmp nat_cmp) (keys_of slots) = c.range-key-items.ensures.ordered in
    let from : c.into_iter-key-iterator.result ≡ filter (is_from prefix) slots =
    c.into_iter-key-iterator.ensures.into_iter_gives ∙ c.range-key-items.ensures.between tt
    ∙ ap (λ start. entries_between (slice_cmp nat_cmp) start Unbounded slots) c.start_of.ensures in
    record {
      sum = omega (arith, ap (λ list. length (filter (counts prefix) list)) from, ap length (range_counts prefix slots), number_with-slots prefix slots ordered);
      ascends = subst (Ascends prefix) (sym from) (range_ascends prefix slots ordered);
      within = omega arith;
    }

pub returns-then-number-most : goal.returns-then-number-most
returns-then-number-most c =
    let prefix = c.args.prefix.now in
    let so_far = c.loop-key in
    let total = number_with prefix (database_of c.args.slots.now.entries) in
    elim c.then-number-most.branch [
      | then-number-most-via-then-number-most w ↦
          capped_over so_far.number (length (filter (counts prefix) so_far.key-iterator)) total c.args.most so_far.invariant.sum w.if-number-most.true so_far.invariant.within
      | then-number-most-via-else-number-most+then-not-begins_with w ↦
          let other : begins_with prefix c.in-Some.key.now ≡ false = sym w.begins_with.ensures ∙ w.if-not-begins_with.true in
          let none : filter (counts prefix) so_far.key-iterator ≡ [] =
          ap (filter (counts prefix)) c.in-Some.ensures.steps
          ∙ none_counts prefix (c.in-Some.key.now, c.in-Some.slot.now) c.next.new.self (subst (Ascends prefix) c.in-Some.ensures.steps so_far.invariant.ascends) other in
          capped_under so_far.number total c.args.most (omega (arith, so_far.invariant.sum, ap length none)) so_far.invariant.within
    ]

pub loop-key-preserved : goal.loop-key-preserved
loop-key-preserved c =
    let prefix = c.args.prefix.now in
    let so_far = c.loop-key in
    let slot : List ℕ × Option Value = (c.in-Some.key.now, c.in-Some.slot.now) in
    let left = c.next.new.self in
    let one : c.from-number.result ≡ from_bool (is_some slot.1) = c.from-number.ensures ∙ ap from_bool c.is_some.ensures in
    record {
      sum = omega (arith, so_far.invariant.sum, ap (λ list. length (filter (counts prefix) list)) c.in-Some.ensures.steps, one, one_counts prefix slot left (sym c.if-not-begins_with.ensures));
      ascends = Ascends-rest prefix slot left (subst (Ascends prefix) c.in-Some.ensures.steps so_far.invariant.ascends);
      within = omega (arith, c.if-number-most.false, one, one_at_most (is_some slot.1));
    }

pub returns : goal.returns
returns c =
    let prefix = c.args.prefix.now in
    let so_far = c.loop-key in
    capped_under so_far.number (number_with prefix (database_of c.args.slots.now.entries)) c.args.most
    (omega (arith, so_far.invariant.sum, ap (λ list. length (filter (counts prefix) list)) c.in-None.ensures.steps.0)) so_far.invariant.within

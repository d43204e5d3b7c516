use Rattle.std.proofs.Common.{◌≡◌, ℕ, ◌++◌, ◌∷◌, [], false, true, List, Option, None, Some, IsTrue, filter, length, option_copied, take, ap, sym, ◌∙◌, subst, arith}
use Rattle.std.specs.Prelude.{◌↔◌, ◌<◌}
use Rattle.std.specs.List.Sorted.{IsStrictlySortedBy}
use Rattle.std.specs.Map.{keys_of}
use Rattle.std.specs.Ordering.{nat_cmp}
use Rattle.std.specs.Cmp.Lexicographic.{slice_cmp}
use Rattle.std.specs.BTreeMap.Range.{entries_between}
use Rattle.std.specs.declared.ops.Bound.TheVariants.{Unbounded}
use Rattle.bayou_base.specs.declared.value.Value.{Value}
use Rattle.bayou_lang.specs.Database.{begins_with}
use Rattle.bayou_log.specs.Db.{Slots, database_of}
use Rattle.bayou_log.specs.Inner.Walking.{rows_in}
use Rattle.bayou_log.specs.Rows.{rows_after}
use Rattle.bayou_log.proofs.Prefixed.{Ascends, Ascends-rest}
use Rattle.bayou_log.proofs.Walked.{begins, is_all, is_in, none_begins, one_more_row, walk_ascends, walk_rows}
use Rattle.bayou_log.proofs.rows.first_rows.Goals as goal

pub loop-key-init : goal.loop-key-init
loop-key-init g c =
    let prefix = c.args.prefix.now in
    let after = option_copied c.args.after in
    let slots : Slots = c.args.slots.now.entries in
    let left = c.into_iter-key-iterator.result in
    let ordered : IsStrictlySortedBy (slice_cmp nat_cmp) (keys_of slots) = c.range-key-items.ensures.ordered in
    let from : left ≡ filter (is_in prefix after) slots =
    c.into_iter-key-iterator.ensures.into_iter_gives ∙ c.range-key-items.ensures.between tt
    ∙ ap (λ start. entries_between (slice_cmp nat_cmp) start Unbounded slots) c.start_behind.ensures in
    record {
      told = ap (λ rows. rows ++ filter (begins prefix) (rows_in left)) c.clear.ensures
          ∙ ap (λ slots. filter (begins prefix) (rows_in slots)) from ∙ walk_rows prefix after slots ordered;
      ascends = subst (Ascends prefix) (sym from) (walk_ascends prefix after slots ordered);
      within = omega (arith, ap length c.clear.ensures);
    }

pub returns-then-not-begins_with-clause-rows : goal.returns-then-not-begins_with-clause-rows
returns-then-not-begins_with-clause-rows g c =
    let prefix = c.args.prefix.now in
    let slot : List ℕ × Option Value = (c.in-Some.key.now, c.in-Some.slot.now) in
    let total = rows_after prefix (option_copied c.args.after) (database_of c.args.slots.now.entries) in
    let other : begins_with prefix c.in-Some.key.now ≡ false = sym c.begins_with.ensures ∙ c.if-not-begins_with.true in
    let none : filter (begins prefix) (rows_in c.loop-key.key-iterator) ≡ [] =
    ap (λ slots. filter (begins prefix) (rows_in slots)) c.in-Some.ensures.steps
    ∙ none_begins prefix slot c.next.new.self (subst (Ascends prefix) c.in-Some.ensures.steps c.loop-key.invariant.ascends) other in
    (is_all c.loop-key.rows.items _ total c.min-limit.result c.loop-key.invariant.told none c.loop-key.invariant.within).0 ∙ ap (λ most. take most total) c.min-limit.ensures

pub returns-then-not-begins_with-clause-more : goal.returns-then-not-begins_with-clause-more
returns-then-not-begins_with-clause-more g c =
    let prefix = c.args.prefix.now in
    let slot : List ℕ × Option Value = (c.in-Some.key.now, c.in-Some.slot.now) in
    let total = rows_after prefix (option_copied c.args.after) (database_of c.args.slots.now.entries) in
    let other : begins_with prefix c.in-Some.key.now ≡ false = sym c.begins_with.ensures ∙ c.if-not-begins_with.true in
    let none : filter (begins prefix) (rows_in c.loop-key.key-iterator) ≡ [] =
    ap (λ slots. filter (begins prefix) (rows_in slots)) c.in-Some.ensures.steps
    ∙ none_begins prefix slot c.next.new.self (subst (Ascends prefix) c.in-Some.ensures.steps c.loop-key.invariant.ascends) other in
    subst (λ most. IsTrue false ↔ (most < length total)) c.min-limit.ensures
    (is_all c.loop-key.rows.items _ total c.min-limit.result c.loop-key.invariant.told none c.loop-key.invariant.within).1

pub loop-key-preserved-in-Some-slot : goal.loop-key-preserved-in-Some-slot
loop-key-preserved-in-Some-slot g c =
    let prefix = c.args.prefix.now in
    let key = c.in-Some.key.now in
    let value = c.in-Some-slot.value in
    let slot : List ℕ × Option Value = (key, c.in-Some.slot.now) in
    let so_far = c.loop-key.rows.items in
    let left = c.next.new.self in
    let total = rows_after prefix (option_copied c.args.after) (database_of c.args.slots.now.entries) in
    let here : begins_with prefix key ≡ true = sym c.begins_with.ensures ∙ c.if-not-begins_with.false in
    let steps : c.loop-key.key-iterator ≡ (key, Some value) ∷ left = c.in-Some.ensures.steps ∙ ap (λ found. (key, found) ∷ left) c.in-Some-slot.is in
    let pushed : c.push.new.self.items ≡ so_far ++ (key, value) ∷ [] =
    c.push.ensures.items ∙ ap (λ row. so_far ++ row ∷ []) (λ i. (c.copy.ensures i, c.copy-in-Some-slot.ensures i)) in
    record {
      told = ap (λ rows. rows ++ filter (begins prefix) (rows_in left)) pushed
          ∙ one_more_row prefix so_far total key value left here (ap (λ slots. so_far ++ filter (begins prefix) (rows_in slots)) (sym steps) ∙ c.loop-key.invariant.told);
      ascends = Ascends-rest prefix slot left (subst (Ascends prefix) c.in-Some.ensures.steps c.loop-key.invariant.ascends);
      within = omega (arith, c.push.ensures.len, c.len.ensures.value, c.if-len-limit.false);
    }

pub loop-key-preserved : goal.loop-key-preserved
loop-key-preserved g c =
    let prefix = c.args.prefix.now in
    let key = c.in-Some.key.now in
    let slot : List ℕ × Option Value = (key, c.in-Some.slot.now) in
    let so_far = c.loop-key.rows.items in
    let left = c.next.new.self in
    let steps : c.loop-key.key-iterator ≡ (key, None) ∷ left = c.in-Some.ensures.steps ∙ ap (λ found. (key, found) ∷ left) c.in_default.is in
    record {
      told = ap (λ slots. so_far ++ filter (begins prefix) (rows_in slots)) (sym steps) ∙ c.loop-key.invariant.told;
      ascends = Ascends-rest prefix slot left (subst (Ascends prefix) c.in-Some.ensures.steps c.loop-key.invariant.ascends);
      within = c.loop-key.invariant.within;
    }

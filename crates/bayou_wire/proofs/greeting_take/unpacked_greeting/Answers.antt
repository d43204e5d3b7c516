use Rattle.std.proofs.Common.{arith, sym}
use Rattle.bayou_wire.specs.Laws.Inner.Greetings.{is_greeting_kind-true, is_greeting_kind-false, unpacked-none, unpacked-whole, unpacked-more}
use Rattle.bayou_wire.proofs.greeting_take.unpacked_greeting.Goals as goal

pub returns-then-not-is_greeting_kind : goal.returns-then-not-is_greeting_kind
returns-then-not-is_greeting_kind c = is_greeting_kind-false _ (sym c.if-not-is_greeting_kind.ensures)

pub returns-in-None : goal.returns-in-None
returns-in-None c = unpacked-none _ _ c.args.behind.now (is_greeting_kind-true _ (sym c.if-not-is_greeting_kind.ensures)) c.in-None.ensures

pub returns-in-empty : goal.returns-in-empty
returns-in-empty c =
    unpacked-whole _ _ _ _ _ (λ i. omega (arith, c.type_inv.payload i)) c.in-Some-default-empty.ensures c.in-Some-default-empty.len_below c.in-empty.len_below

pub returns-in-len1-up : goal.returns-in-len1-up
returns-in-len1-up c =
    unpacked-more _ _ _ _ _ (λ i. omega (arith, c.type_inv.payload i)) c.in-Some-default-empty.ensures (omega (arith, c.in-len1-up.len_at_least))

pub returns-in-Some-default-len1-up : goal.returns-in-Some-default-len1-up
returns-in-Some-default-len1-up c =
    unpacked-more _ _ _ _ _ (λ i. omega (arith, c.type_inv.payload i)) c.in-Some-default-len1-up.ensures (omega (arith, c.in-Some-default-len1-up.len_at_least))

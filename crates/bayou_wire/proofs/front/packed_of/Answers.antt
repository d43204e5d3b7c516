use Rattle.std.proofs.Common.{arith, sym}
use Rattle.bayou_wire.specs.Laws.Inner.Payloads.{is_kind-true, is_kind-false}
use Rattle.bayou_wire.specs.Laws.Inner.Fronts.{packed-none, packed-whole, packed-more}
use Rattle.bayou_wire.proofs.Giving.{gives_none, gives_some}
use Rattle.bayou_wire.proofs.front.packed_of.Goals as goal

pub returns-then-not-is_kind : goal.returns-then-not-is_kind
returns-then-not-is_kind c = is_kind-false _ (sym c.if-not-is_kind.ensures)

pub returns-in-None : goal.returns-in-None
returns-in-None c = packed-none _ _ (is_kind-true _ (sym c.if-not-is_kind.ensures)) (gives_none _ _ _ c.in_ok-payload_of.ensures c.in-None.is)

pub returns-in-Some-default-empty : goal.returns-in-Some-default-empty
returns-in-Some-default-empty c = packed-whole _ _ _ _ (λ i. omega (arith, c.type_inv.payload i)) (gives_some _ _ _ _ c.in_ok-payload_of.ensures c.in-Some-default-empty.is) c.in-Some-default-empty.len_below

pub returns-in-Some-default-len1-up : goal.returns-in-Some-default-len1-up
returns-in-Some-default-len1-up c = packed-more _ _ _ _ (λ i. omega (arith, c.type_inv.payload i)) (gives_some _ _ _ _ c.in_ok-payload_of.ensures c.in-Some-default-len1-up.is) c.in-Some-default-len1-up.len_at_least

-- The checks of lines.
use Rattle.std.proofs.Common.{◌≢◌, inl, inr, ℕ, List, [], refl}
use Rattle.bayou_text.specs.declared.line.LineFault.{LineFault}
use Rattle.bayou_text.specs.declared.line.LineFault.TheVariants as line
use Rattle.bayou_text.specs.Lines.{IsRefusalOf}
use Rattle.bayou_text.specs.Said.{Said}
use Rattle.bayou_script.specs.Inner.Taking.{FaultAt, refusal_of}
use Rattle.bayou_script.specs.Order.{Order, in_itself}

-- a line's own fault is told under its number
pub own_fault : (order : Order) (number : ℕ) (front : List Said) (bytes : List ℕ) (why : LineFault) → bytes ≢ [] → IsRefusalOf bytes why
    → FaultAt order number front bytes (refusal_of number why)
own_fault order number front bytes line.OutOfMemory some known = tt
own_fault order number front bytes line.NotJson some (inl e) = let bad = e.0 in absurd (cc)
own_fault order number front bytes line.NotJson some (inr is) = (refl, in_itself line.NotJson some is refl)
own_fault order number front bytes (line.BadShape what) some (inl e) = let bad = e.0 in absurd (cc)
own_fault order number front bytes (line.BadShape what) some (inr is) = (refl, in_itself (line.BadShape what) some is refl)
own_fault order number front bytes (line.Key why) some (inl e) = let bad = e.0 in absurd (cc)
own_fault order number front bytes (line.Key why) some (inr is) = (refl, in_itself (line.Key why) some is refl)
own_fault order number front bytes (line.Program why) some (inl e) = let bad = e.0 in absurd (cc)
own_fault order number front bytes (line.Program why) some (inr is) = (refl, in_itself (line.Program why) some is refl)

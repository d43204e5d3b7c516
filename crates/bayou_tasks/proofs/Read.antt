-- Inputs that were read, to their end or in part.
use Rattle.std.proofs.Common.{◌∙◌, ◌++◌, ℕ, List, Option, None, Some, IfSome, ap, sym, subst, append-nil}
use Rattle.std.specs.Io.KnownBytes.{Consumes, IsAtEnd}
use Rattle.bayou_script.specs.declared.fault.InputRefusal.{InputRefusal}
use Rattle.bayou_script.specs.declared.fault.InputRefusal.TheVariants.{Line, OutOfMemory}
use Rattle.bayou_script.specs.Reading.{IsRefusedSoFar}
use Rattle.bayou_script.specs.Order.{IsRefusedBy, Order, RefusedBy, lines_of}
use Rattle.bayou_print.specs.Fault.{fault_of}
use Rattle.bayou_tasks.specs.Faults.{IsReadFault}

-- what holds of the bytes that came, where none is left, holds of the input
pub at_end : (known left : Option (List ℕ)) (bytes : List ℕ) (P : List ℕ → Type 0) → Consumes known left bytes → IsAtEnd left → P bytes → IfSome known P
at_end None left bytes P came end holds = tt
at_end (Some text) None bytes P came end holds = absurd came
at_end (Some text) (Some rest) bytes P came end holds = subst P (sym (came ∙ ap (λ l. bytes ++ l) end ∙ append-nil bytes)) holds

-- what holds whatever follows them holds of the input
of_front : (known left : Option (List ℕ)) (bytes : List ℕ) (P : List ℕ → Type 0) → Consumes known left bytes → ((more : List ℕ) → P (bytes ++ more)) → IfSome known P
of_front None left bytes P came holds = tt
of_front (Some text) None bytes P came holds = absurd came
of_front (Some text) (Some rest) bytes P came holds = subst P (sym came) (holds rest)

-- what came is refused, whatever follows
pub refused_front : (order : Order) (known left : Option (List ℕ)) (bytes : List ℕ) (refusal : InputRefusal) → Consumes known left bytes → IsRefusedSoFar order bytes refusal
    → IsReadFault order known (fault_of refusal)
refused_front order known left bytes (Line number fault) came refused = of_front known left bytes (λ text. IsRefusedBy order (lines_of text) number fault) came refused
refused_front order known left bytes OutOfMemory came refused = tt

-- all of it is
pub refused_all : (order : Order) (known left : Option (List ℕ)) (bytes : List ℕ) (refusal : InputRefusal) → Consumes known left bytes → IsAtEnd left → RefusedBy order (lines_of bytes) refusal
    → IsReadFault order known (fault_of refusal)
refused_all order known left bytes (Line number fault) came end refused = at_end known left bytes (λ text. IsRefusedBy order (lines_of text) number fault) came end refused
refused_all order known left bytes OutOfMemory came end refused = tt

-- What a reader gave, where it is known which of the two it is.
use Rattle.std.proofs.Common.{◌≡◌, ℕ, List, Option, None, Some, Err, subst}
use Rattle.bayou_wire.specs.declared.fault.DecodeFault.{DecodeFault}
use Rattle.bayou_wire.specs.declared.fault.RestingFault.{RestingFault}
use Rattle.bayou_wire.specs.declared.fault.RestingFault.TheVariants.{Fault}
use Rattle.bayou_wire.specs.Forms.{UnlessWanting}
use Rattle.bayou_wire.specs.Inner.Reading.{Gives, PackedAnswer}
use Rattle.bayou_wire.specs.Stream.{IsPackedFault}

pub gives_none : {X Y : Type 0} (view : X → Y) (given : Option X) (read : Option Y) → Gives view given read → given ≡ None → read ≡ None
gives_none view given read gives is = subst (λ (g : Option _). Gives view g read) is gives

pub gives_some : {X Y : Type 0} (view : X → Y) (given : Option X) (read : Option Y) (x : X) → Gives view given read → given ≡ Some x → read ≡ Some (view x)
gives_some view given read x gives is = subst (λ (g : Option _). Gives view g read) is gives

pub packed_fault : (kind : ℕ) (payload : List ℕ) (told : RestingFault) (fault : DecodeFault) → UnlessWanting (PackedAnswer kind payload) (Err told) → told ≡ Fault fault → IsPackedFault kind payload fault
packed_fault kind payload told fault unless same = subst (λ (f : RestingFault). UnlessWanting (PackedAnswer kind payload) (Err f)) same unless

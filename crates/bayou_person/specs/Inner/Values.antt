-- What keeps a word from being a value.
use Rattle.bayou_base.specs.declared.value.Value.{Value}
use Rattle.bayou_person.specs.Wishes.{IsNoValue, IsValueOf, Word}
use Rattle.bayou_person.specs.declared.wish.WishFault.{WishFault}
use Rattle.bayou_person.specs.declared.wish.WishFault.TheVariants as fault

-- it is none, for this reason; or memory ran out
abbrev pub IsValueFault : Word → WishFault → Type 0
IsValueFault word fault.Word = ⊥
IsValueFault word fault.Count = ⊥
IsValueFault word (fault.Key why) = ⊥
IsValueFault word (fault.Value why) = IsNoValue word why × ((value : Value) → ¬ (IsValueOf word value))
IsValueFault word fault.Number = ⊥
IsValueFault word fault.Server = ⊥
IsValueFault word fault.Name = ⊥
IsValueFault word fault.OutOfMemory = Unit {0}

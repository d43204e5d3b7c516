-- The alternatives of a claim.
use Rattle.std.specs.Prelude.{◌≡◌, ℕ, List, [], ◌∷◌}
use Rattle.bayou_base.specs.declared.value.Value.{Value}
use Rattle.bayou_lang.specs.declared.program.Alt.{Alt}
use Rattle.bayou_lang.specs.declared.program.Cond.TheVariants.{Absent}
use Rattle.bayou_lang.specs.declared.program.Op.TheVariants.{Put}
use Rattle.bayou_lang.specs.declared.program.Term.TheVariants.{Lit}

-- it sets the key to the value, where the key is absent
pub record IsFallback (value : Value) (alt : Alt) (key : List ℕ) : Type 0 where
  pub when : alt.when.items ≡ Absent key ∷ []
  pub ops : alt.ops.items ≡ Put key (Lit value) ∷ []

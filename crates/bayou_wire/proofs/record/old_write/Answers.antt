use Rattle.std.proofs.Common.{◌≡◌, ◌∙◌, false, true, List, ℕ, MatchOption, Option, sym, subst}
use Rattle.bayou_lang.specs.declared.write.Write.{Write}
use Rattle.bayou_wire.specs.Laws.Records.{no_old_write}
use Rattle.bayou_wire.specs.Records.{widened}
use Rattle.bayou_wire.specs.Spelling.{SpellsWrite}
use Rattle.bayou_wire.proofs.record.old_write.Goals as goal

-- where it is known whether a Write was given
given_of : (bytes : List ℕ) (given is : Option Write) → given ≡ is → MatchOption given ((write : Write) → ¬ (SpellsWrite bytes write)) (λ write. SpellsWrite bytes write)
    → MatchOption is ((write : Write) → ¬ (SpellsWrite bytes write)) (λ write. SpellsWrite bytes write)
given_of bytes given is same told = subst (λ (option : Option Write). MatchOption option ((write : Write) → ¬ (SpellsWrite bytes write)) (λ write. SpellsWrite bytes write)) same told

pub returns : goal.returns
returns c =
    let wide : c.deref.result.now ≡ widened c.args.bytes.now = c.deref.ensures.value ∙ c.in_ok-wide.ensures in
    let spells : SpellsWrite c.deref.result.now c.in-Some.write = given_of c.deref.result.now _ _ c.in-Some.is c.in_ok-write.ensures in
    no_old_write c.args.bytes.now c.in-Some.write (subst (λ b. SpellsWrite b c.in-Some.write) wide spells)
    (λ old. absurd (let e : false ≡ true = sym c.if-is_old_write.false ∙ c.is_old_write.ensures.1 old in cc))

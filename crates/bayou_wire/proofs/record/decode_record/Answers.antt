use Rattle.std.proofs.Common.{◌≡◌, List, ℕ, MatchOption, Option, subst, arith}
use Rattle.bayou_lang.specs.declared.write.Write.{Write}
use Rattle.bayou_wire.specs.Laws.Records.{no_head, no_write, spelled_by}
use Rattle.bayou_wire.specs.Inner.Reading.{SpellsIn}
use Rattle.bayou_wire.specs.declared.record.Form.{Form}
use Rattle.bayou_wire.proofs.Giving.{gives_none, gives_some}
use Rattle.bayou_wire.proofs.record.decode_record.Goals as goal

-- where it is known whether a Write was given
given_of : (form : Form) (bytes : List ℕ) (given is : Option Write) → given ≡ is → MatchOption given ((write : Write) → ¬ (SpellsIn form bytes write)) (λ write. SpellsIn form bytes write)
    → MatchOption is ((write : Write) → ¬ (SpellsIn form bytes write)) (λ write. SpellsIn form bytes write)
given_of form bytes given is same told = subst (λ (option : Option Write). MatchOption option ((write : Write) → ¬ (SpellsIn form bytes write)) (λ write. SpellsIn form bytes write)) same told

pub returns-in_default : goal.returns-in_default
returns-in_default c = no_head c.args.form c.args.bytes.now (gives_none _ _ _ c.head_of.ensures c.in_default.is)

pub returns-in_default-2 : goal.returns-in_default-2
returns-in_default-2 c =
    no_write c.args.form c.args.bytes.now c.in-Some.rest.now c.in-Some.tag (gives_some _ _ _ _ c.head_of.ensures c.in-Some.is)
    (given_of c.args.form c.in-Some.rest.now _ _ c.in_default-2.is c.in_ok-write.ensures)

pub returns : goal.returns
returns c =
    spelled_by c.args.form c.args.bytes.now c.in-Some.rest.now c.in-Some.tag c.in-Some-2.write (λ i. omega (arith, c.type_inv.bytes i)) (gives_some _ _ _ _ c.head_of.ensures c.in-Some.is)
    (given_of c.args.form c.in-Some.rest.now _ _ c.in-Some-2.is c.in_ok-write.ensures)

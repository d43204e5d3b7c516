use Rattle.std.proofs.Common.{Some, ◌∙◌, ap, sym}
use Rattle.bayou_lang.specs.declared.write.Write.{Write}
use Rattle.bayou_lang.specs.Laws.Equality.{write-ext}
use Rattle.bayou_wire.specs.Laws.Inner.Readers.{write_at-made}
use Rattle.bayou_wire.proofs.Giving.{gives_some}
use Rattle.bayou_wire.proofs.resting.resting_write_of.Goals as goal

pub returns : goal.returns
returns c =
    let made = write_at-made _ _ _ _ _ c.in-Some.head.one_origin c.in-Some.ensures (gives_some _ _ _ _ c.in_ok-program.ensures c.in-Some-2.is) in
    made ∙ ap (λ (write : Write). Some (write, c.in-Some-2.rest.now)) (write-ext _ _ (sym c.new.ensures.0) (sym c.new.ensures.1) (sym c.new.ensures.2) (sym c.new.ensures.3))

use Rattle.std.proofs.Common.{ap, ◌∙◌}
use Rattle.bayou_lang.specs.declared.write.Write.{Write}
use Rattle.bayou_lang.specs.Laws.Equality.{write-ext}
use Rattle.bayou_lang.proofs.resting.RestingWrite.copy.Goals as goal

pub returns : goal.returns
returns c =
    write-ext _ c.args.self.now
    (ap (λ (write : Write). write.wid) c.self.view_is)
    (ap (λ (write : Write). write.stamp) c.self.view_is)
    (ap (λ (write : Write). write.deps) c.self.view_is)
    (c.in_ok-copy.ensures ∙ ap (λ (write : Write). write.program) c.self.view_is)

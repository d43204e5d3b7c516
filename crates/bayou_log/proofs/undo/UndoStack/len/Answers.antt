use Rattle.std.proofs.Common.{ap, sym, ◌∙◌, length}
use Rattle.bayou_log.specs.Inner.Undone.{Stack}
use Rattle.bayou_log.proofs.Undone.{length-undos_of}
use Rattle.bayou_log.proofs.undo.UndoStack.len.Goals as goal

pub returns : goal.returns
returns c =
    c.len.ensures ∙ c.self.inside.sizes.ok.0 ∙ sym (length-undos_of c.self.inside.sizes.items c.self.inside.changes.items) ∙ ap (λ (stack : Stack). length stack.undos) c.self.view_is

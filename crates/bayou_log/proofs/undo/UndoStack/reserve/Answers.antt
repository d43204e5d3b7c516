use Rattle.std.proofs.Common.{◌≤◌, length, sym, subst, arith}
use Rattle.bayou_log.proofs.Undone.{length-undos_of}
use Rattle.bayou_log.proofs.undo.UndoStack.reserve.Goals as goal

pub returns-clause-ok : goal.returns-clause-ok
returns-clause-ok c = (
  c.in_ok-reserve.ensures.ok,
  omega (arith, c.len.ensures, c.in_ok-try_reserve.ensures.ok, c.in_ok-try_reserve.ensures.len),
)

pub overflow_sub-held : goal.overflow_sub-held
overflow_sub-held c =
    let held = subst (λ stack. length stack.undos ≤ c.args.held) (sym c.self.view_is) c.requires.held in
    omega (arith, held, length-undos_of c.self.inside.sizes.items c.self.inside.changes.items, c.len.ensures, c.self.inside.sizes.ok.0)

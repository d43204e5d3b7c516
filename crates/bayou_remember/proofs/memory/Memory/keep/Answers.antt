use Rattle.std.proofs.Common.{◌∙◌, ◌++◌, ap, rules, sym, subst}
use Rattle.bayou_journal.specs.Chain.{entry, link}
use Rattle.bayou_journal.specs.Journal.{JournalState}
use Rattle.bayou_remember.specs.Memory.{HasAll, MemoryState}
use Rattle.bayou_remember.proofs.Having.{adds_one}
use Rattle.bayou_remember.proofs.memory.Memory.keep.Goals as goal

pub returns-in-Ok-clause-all : goal.returns-in-Ok-clause-all
returns-in-Ok-clause-all g c = λ modelled all has.
    let old : MemoryState g.row.D.Denot = record { device = c.self.inside.journal.device; last = c.self.inside.journal.last; is_down = c.self.inside.journal.is_down; entries = c.self.inside.entries } in
    let new : MemoryState g.row.D.Denot = record { device = c.append.new.self.device; last = c.append.new.self.last; is_down = c.append.new.self.is_down; entries = c.saturating_add-self-inside.result } in
    adds_one g.D.Device c.an_append_leaves_an_honest_device.ensures.added old new c.args.kept.now c.in_ok-body.body.items (record { some = search rules; within = search rules }) c.in_ok-body.ensures
    (c.in-Ok.ensures.added modelled ∙ ap (λ b. g.D.Device.content c.self.inside.journal.device ++ entry c.self.inside.journal.last b) c.deref.ensures.value)
    c.in-Ok.ensures.synced
    (ap (λ (j : JournalState g.row.D.Denot). j.last) c.in-Ok.ensures.ends ∙ ap (link c.self.inside.journal.last) c.deref.ensures.value)
    all (subst (λ (m : MemoryState g.row.D.Denot). HasAll g.D.Device m all) (sym c.self.view_is) has)

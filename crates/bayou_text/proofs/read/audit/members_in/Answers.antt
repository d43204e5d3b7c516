use Rattle.std.proofs.Common.{ap, refl, arith}
use Rattle.bayou_base.specs.declared.stamp.Stamp.{Stamp}
use Rattle.bayou_base.specs.declared.wid.Wid.{Wid}
use Rattle.bayou_text.specs.Audit.{members_in}
use Rattle.bayou_text.specs.Laws.Inner.Lists.{item_then, none_then}
use Rattle.bayou_text.specs.Laws.Inner.Named.{write_is}
use Rattle.bayou_text.proofs.read.audit.members_in.Goals as goal

pub returns : goal.returns
unfolding members_in
returns c =
    let parts = c.args.parts.now in
    let members = item_then parts _ 0 c.origin-item.result (omega arith) c.origin-item.is
    (item_then parts _ 1 c.seq-item.result (omega arith) c.seq-item.is
    (item_then parts _ 2 c.clock-item.result (omega arith) c.clock-item.is
    (item_then parts _ 3 c.deps-item.result (omega arith) c.deps-item.is
    (item_then parts _ 4 c.program-item.result (omega arith) c.program-item.is
    (none_then parts 5 (omega arith)))))) in
    let made = c.new.ensures in
    rw (
      members,
      c.in_ok-origin.ensures,
      ← c.in_ok-seq_in.ensures.value,
      ← c.in_ok-clock_in.ensures.value,
      ← c.in_ok-deps.ensures,
      c.in_ok-program.ensures,
      write_is c.in_ok-origin.origin.index c.in_ok-seq_in.field-0 c.in_ok-clock_in.field-0 c.in_ok-deps.deps c.in_ok-program.program c.new.result
          (ap (λ (w : Wid). w.origin.index) made.0) (ap (λ (w : Wid). w.seq) made.0) (ap (λ (s : Stamp). s.clock) made.1) made.2 made.3,
    ) refl

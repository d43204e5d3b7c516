use Rattle.std.proofs.Common.{◌++◌, List, subst}
use Rattle.std.proofs.lemmas.Result.{err_from_is_err_and}
use Rattle.std.specs.List.{AllByRecursion}
use Rattle.bayou_wire.specs.declared.frame.Frame.{Frame}
use Rattle.bayou_wire.specs.Spelling.{IsFrame}
use Rattle.bayou_wire.specs.Stream.{spelling}
use Rattle.bayou_client.proofs.Growing.{each_before, frame_some, newest_behind, rest_is}
use Rattle.bayou_client.proofs.reading.take_came.Goals as goal

pub returns-in_err-take_items-clause-takes : goal.returns-in_err-take_items-clause-takes
returns-in_err-take_items-clause-takes c read behind all before =
    let newest = c.in-Some.newest in
    let same = c.in-Some.ensures.items in
    let each = each_before c.pop.new.self.items newest (subst (λ (fs : List Frame). AllByRecursion IsFrame fs) same all) in
    let stands = rest_is c.args.many read c.args.writes.now.items _ _ (newest_behind c.pop.new.self.items newest c.args.frames.now.items behind same) before in
    let p = err_from_is_err_and c.from_residual.result c.from_residual.ensures.1 in
    rw (p.1, p.2) (c.in_err-take_items.ensures.takes read (spelling newest ++ behind) (frame_some newest behind) (rw c.deref.ensures.value each.0) (rw c.deref.ensures.value stands))

pub returns-clause-takes : goal.returns-clause-takes
returns-clause-takes c read behind all before =
    let newest = c.in-Some.newest in
    let same = c.in-Some.ensures.items in
    let each = each_before c.pop.new.self.items newest (subst (λ (fs : List Frame). AllByRecursion IsFrame fs) same all) in
    let stands = rest_is c.args.many read c.args.writes.now.items _ _ (newest_behind c.pop.new.self.items newest c.args.frames.now.items behind same) before in
    let kept = c.in_ok-take_items.ensures.takes read (spelling newest ++ behind) (frame_some newest behind) (rw c.deref.ensures.value each.0) (rw c.deref.ensures.value stands) in
    c.take_frame.ensures.takes read behind each.1 kept

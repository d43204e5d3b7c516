use Rattle.std.proofs.Common.{◌++◌, rules}
use Rattle.bayou_connect.proofs.Lining.{put_both, takes_end, takes_more, takes_none}
use Rattle.bayou_connect.proofs.lines.InputLines.take_line.Goals as goal

pub returns-then-not-branch : goal.returns-then-not-branch
returns-then-not-branch g c =
    let (passed, taken, is) = c.loop.invariant in
    takes_none _ _ _ passed c.loop.line.items c.loop.has_any taken is c.in_ok-has_more.ensures.same (search rules)

pub returns-then-branch : goal.returns-then-branch
returns-then-branch g c =
    let (passed, taken, is) = c.loop.invariant in
    let (part, given, more) = c.in_ok-take_into.ensures in
    takes_end _ _ _ _ passed part c.loop.line.items c.take_into.new.line.items c.loop.has_any taken c.in_ok-has_more.ensures.same (search rules) is more

pub loop-preserved : goal.loop-preserved
loop-preserved g c =
    let (passed, taken, is) = c.loop.invariant in
    let (part, given, more) = c.in_ok-take_into.ensures in
    (passed ++ part, takes_more _ _ _ _ passed part c.loop.has_any taken c.in_ok-has_more.ensures.same (search rules), put_both passed part c.loop.line.items c.take_into.new.line.items is more)

use Rattle.std.proofs.Common.{◌∙◌, ap, drop, sym, take-append-drop}
use Rattle.bayou_journal.proofs.Tails.{is_tear}
use Rattle.bayou_journal.proofs.careful.CarefulDeviceDevice.cut.Goals as goal

pub returns-in_default-clause-front : goal.returns-in_default-clause-front
returns-in_default-clause-front g c =
    let before = g.D.Device.kept c.args.self.now.device in
    (drop c.args.len before, ap g.D.Device.kept c.count_failure.ensures.others.0 ∙ sym (take-append-drop c.args.len before))

pub returns-in_default-tear_behind-clause-front : goal.returns-in_default-tear_behind-clause-front
returns-in_default-tear_behind-clause-front g c =
    let before = g.D.Device.kept c.args.self.now.device in
    (drop c.args.len before, ap g.D.Device.kept c.count_failure-in_default-tear_behind.ensures.others.0 ∙ sym (take-append-drop c.args.len before))

pub returns-in-Ok-clause-torn : goal.returns-in-Ok-clause-torn
returns-in-Ok-clause-torn g c = λ modelled.
    let is = c.args.self.now.known modelled c.in-Some.ending (sym c.take.ensures.value ∙ c.in-Some.is) in
    let some = c.in-Some-tear_behind.ensures.some in
    (c.in-Some-tear_behind.tear, is_tear (g.D.Device.content c.args.self.now.device) c.args.len c.in-Some.ending c.in-Some-tear_behind.tear is (c.requires modelled) some.1 some.0)

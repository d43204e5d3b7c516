use Rattle.std.proofs.Common.{sym, ◌∙◌, ap, subst}
use Rattle.std.specs.Option.{option_map}
use Rattle.bayou_log.specs.Inner.Counting.{HasKeysOf, Shows}
use Rattle.bayou_log.proofs.Marked.{HasKeysOf-noted}
use Rattle.bayou_log.proofs.present.PresentKeys.set.Goals as goal

pub returns : goal.returns
returns c = λ database value told shows.
    let had : HasKeysOf c.in-Some.keys.entries database =
    subst (λ kept. Shows kept database) (sym c.self.view_is ∙ ap (option_map (λ keys. keys.entries)) (sym c.take.ensures.value ∙ c.in-Some.is)) shows in
    HasKeysOf-noted c.args.key.now c.args.is_there c.in-Some.keys.entries c.note.new.keys.entries database value told c.in-Ok.ensures had

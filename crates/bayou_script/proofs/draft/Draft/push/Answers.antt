use Rattle.std.proofs.Common.{rules, ◌≡◌, ◌∷◌, ◌++◌, ◌∙◌, [], true, List, ap, map, subst, sym}
use Rattle.std.proofs.lemmas.List.{map-append}
use Rattle.bayou_text.specs.Said.{Said, command_said}
use Rattle.bayou_text.specs.declared.command.Command.{Command}
use Rattle.bayou_script.specs.Inner.Stage.{IsStageOf}
use Rattle.bayou_script.specs.Script.{script_order, use_of}
use Rattle.bayou_script.proofs.Placed.{command_behind, in_time}
use Rattle.bayou_script.proofs.draft.Draft.push.Goals as goal

pub returns : goal.returns
returns c number front early draft =
    let asked = c.args.command in
    let told = command_said asked in
    let items = c.args.self.now.commands.items in
    let others = map command_said items in
    let admitted : c.admit.result ≡ true = search rules in
    let more = ap (λ (l : List Command). map command_said l) c.in_ok-push_back.ensures.items ∙ map-append command_said items (asked ∷ []) in
    let staged = c.admit.ensures.stage others front told draft c.used_by.ensures admitted in
    let placed : true ≡ script_order number front told =
    sym admitted ∙ c.admit.ensures.place others front (use_of told) draft c.used_by.ensures ∙ sym (command_behind asked front) ∙ in_time number front told early in
    record {
      place = placed;
      kept = λ _. subst (λ (l : List Said). IsStageOf c.admit.new.self l (front ++ told ∷ [])) (sym more) staged;
    }

use Rattle.std.proofs.Common.{rules, ◌≡◌, ◌&&◌, ◌∷◌, ◌++◌, ◌∙◌, [], Bool, true, List, ap, map, subst, sym}
use Rattle.std.proofs.lemmas.List.{map-append}
use Rattle.bayou_text.specs.Said.{Said, command_said}
use Rattle.bayou_script.specs.declared.network.NetworkCommand.{NetworkCommand}
use Rattle.bayou_script.specs.Inner.Stage.{IsStageOf}
use Rattle.bayou_script.specs.Laws.Network.{command_runs}
use Rattle.bayou_script.specs.Network.{runs_over_network}
use Rattle.bayou_script.specs.NetworkSaid.{network_said}
use Rattle.bayou_script.specs.Script.{script_order, use_of}
use Rattle.bayou_script.proofs.Placed.{command_behind, in_time}
use Rattle.bayou_script.proofs.network_draft.NetworkDraft.push.Goals as goal

pub returns : goal.returns
returns c number front early draft =
    let asked = c.args.command in
    let told = command_said asked in
    let kept = c.in-Some.command in
    let items = c.args.self.now.commands.items in
    let others = map network_said items in
    let same : network_said kept ≡ told = c.in-Some.ensures in
    let admitted : c.admit.result ≡ true = search rules in
    let more = ap (λ (l : List NetworkCommand). map network_said l) c.in_ok-push_back.ensures.items ∙ map-append network_said items (kept ∷ [])
    ∙ ap (λ (said : Said). others ++ said ∷ []) same in
    let staged = c.admit.ensures.stage others front told draft c.used_by-uses.ensures admitted in
    let placed : true ≡ script_order number front told =
    sym admitted ∙ c.admit.ensures.place others front (use_of told) draft c.used_by-uses.ensures ∙ sym (command_behind asked front) ∙ in_time number front told early in
    let runs : runs_over_network told ≡ true = sym (ap runs_over_network same) ∙ command_runs kept in
    record {
      place = placed ∙ sym (ap (λ (b : Bool). b && script_order number front told) runs);
      kept = λ _. subst (λ (l : List Said). IsStageOf c.admit.new.self l (front ++ told ∷ [])) (sym more) staged;
    }

use Rattle.std.proofs.Common.{◌≡◌, ◌∙◌, ap, map, rules, unwrap_or, []}
use Rattle.clap.proofs.WalkLemmas.{raw_values-rows}
use Rattle.clap.specs.Words.{found_of}
use Rattle.bayou_command.proofs.options.texts_in.Goals.{in-Some+in_ok-extend_from_slice, in_default}
use Rattle.bayou_command.proofs.options.texts_in.Goals as goal

pub returns : goal.returns
returns c =
    let rows = raw_values-rows (found_of c.args.found.now) c.args.name.now in
    elim c.match-get_strs.branch [
      | in-Some+in_ok-extend_from_slice w ↦
          let added : c.match-get_strs.texts.items ≡ w.in-Some.given.now = search rules in
          ap (map (λ s. s.now)) added ∙ ap (λ o. unwrap_or o []) (w.in-Some.ensures ∙ rows)
      | in_default w ↦
          let none : c.match-get_strs.texts.items ≡ [] = search rules in
          ap (map (λ s. s.now)) none ∙ ap (λ o. unwrap_or o []) (w.in_default.ensures ∙ rows)
    ]

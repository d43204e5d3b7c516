use Rattle.std.proofs.Common.{◌≡◌, ◌∙◌, string_bytes, rules, tests}
use Rattle.std.specs.List.{list_all}
use Rattle.std.specs.BTreeMap.{keys}
use Rattle.std.proofs.lemmas.Iterator.Consumers.{YieldsList-from_rest}
use Rattle.std.proofs.lemmas.Iterator.Search.{all_from_yields_List}
use Rattle.bayou_text.specs.Programs.{is_alt_name}
use Rattle.bayou_text.proofs.Views.{names_view}
use Rattle.bayou_text.proofs.read.program.are_of_alt.Goals as goal

pub returns : goal.returns
returns c =
    let known : c.all.result ≡ list_all (λ key. is_alt_name (string_bytes key)) (keys c.args.members.now) =
    all_from_yields_List (λ key. is_alt_name (string_bytes key)) _ _ c.all.result c.all.ensures.ran
    (YieldsList-from_rest (keys c.args.members.now) cc) (λ x b q k. search (rules, tests)) in
    known ∙ names_view is_alt_name c.args.members.now.entries

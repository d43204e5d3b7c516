use Rattle.std.proofs.Common.{◌≡◌, ◌∙◌, rules, tests}
use Rattle.std.specs.List.{list_any}
use Rattle.std.proofs.lemmas.Iterator.{YieldsList-from_slice}
use Rattle.std.proofs.lemmas.Iterator.Search.{any_from_yields_List}
use Rattle.serde_json.specs.View.{view}
use Rattle.bayou_text.specs.Reading.{says}
use Rattle.bayou_text.proofs.Views.{any_view}
use Rattle.bayou_text.proofs.read.asks.have.Goals as goal

pub returns : goal.returns
returns c =
    let word = c.args.word.now in
    let found : c.any.result ≡ list_any (λ v. says word (view v)) c.args.words.now =
    any_from_yields_List (λ v. says word (view v)) _ _ c.any.result c.any.ensures.ran
    (YieldsList-from_slice c.args.words.now cc) (λ x b q k. search (rules, tests)) in
    found ∙ any_view (says word) c.args.words.now

use Rattle.std.proofs.Common.{◌≡◌, ◌∙◌, rules, tests}
use Rattle.std.specs.List.{list_all}
use Rattle.std.proofs.lemmas.Iterator.{YieldsList-from_slice}
use Rattle.std.proofs.lemmas.Iterator.Search.{all_from_yields_List}
use Rattle.serde_json.specs.View.{view}
use Rattle.bayou_text.specs.Asks.{is_ask}
use Rattle.bayou_text.proofs.Views.{all_view}
use Rattle.bayou_text.proofs.read.asks.are_asks.Goals as goal

pub returns : goal.returns
returns c =
    let found : c.all.result ≡ list_all (λ v. is_ask (view v)) c.args.words.now =
    all_from_yields_List (λ v. is_ask (view v)) _ _ c.all.result c.all.ensures.ran
    (YieldsList-from_slice c.args.words.now cc) (λ x b q k. search (rules, tests)) in
    found ∙ all_view is_ask c.args.words.now

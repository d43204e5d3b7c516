use Rattle.std.proofs.Common.{◌≡◌, ◌∙◌, [], ◌++◌, arith, ap}
use Rattle.json.specs.Lex.{tokens}
use Rattle.json.specs.Print.{print}
use Rattle.serde_json.proofs.Texts.{print-outline}
use Rattle.bayou_text.specs.AtOnce.{tokens_of, update_held_json}
use Rattle.bayou_text.proofs.AtOnce.{read_again}
use Rattle.bayou_text.proofs.HeldAtOnce.{held_read}
use Rattle.bayou_text.proofs.read.spelled_held.held_spelling.Goals as goal

pub returns-clause-compact : goal.returns-clause-compact
returns-clause-compact c =
    let datum = update_held_json c.args.is_whole c.args.server.index c.args.write.now c.args.counts in
    let written = c.write_held.new.writer in
    let added = c.in_ok-write_held.ensures.spelling in
    let none : written.before ≡ [] = added.0 ∙ c.new-writer.ensures.before ∙ c.in_ok-with_capacity.ensures.items in
    let same : written.tokens ≡ tokens_of datum = added.1 ∙ ap (λ first. first ++ tokens_of datum) c.new-writer.ensures.tokens in
    c.into_inner.ensures.items ∙ ap (λ before. before ++ print written.tokens) none ∙ ap print same ∙ print-outline datum

pub returns-clause-again : goal.returns-clause-again
returns-clause-again c =
    let item = c.args.write.now in
    let datum = update_held_json c.args.is_whole c.args.server.index item c.args.counts in
    let written = c.write_held.new.writer in
    let added = c.in_ok-write_held.ensures.spelling in
    let none : written.before ≡ [] = added.0 ∙ c.new-writer.ensures.before ∙ c.in_ok-with_capacity.ensures.items in
    let same : written.tokens ≡ tokens_of datum = added.1 ∙ ap (λ first. first ++ tokens_of datum) c.new-writer.ensures.tokens in
    read_again c.into_inner.result.items 6 datum (omega arith)
    (held_read c.args.is_whole c.args.server item c.args.counts c.in_ok-write_held.ensures.kept c.in_ok-write_held.ensures.ops.0)
    (ap tokens (c.into_inner.ensures.items ∙ ap (λ before. before ++ print written.tokens) none) ∙ c.into_inner.ensures.reads_back ∙ same)

use Rattle.std.proofs.Common.{◌≡◌, ◌∙◌, [], ◌++◌, arith, ap}
use Rattle.json.specs.Lex.{tokens}
use Rattle.json.specs.Print.{print}
use Rattle.serde_json.proofs.Texts.{print-outline}
use Rattle.bayou_text.specs.AtOnce.{tokens_of}
use Rattle.bayou_text.specs.Spelling.{told_json}
use Rattle.bayou_text.proofs.AtOnce.{read_again, told_read}
use Rattle.bayou_text.proofs.read.spelled.entry_spelling.Goals as goal

pub returns-clause-compact : goal.returns-clause-compact
returns-clause-compact c =
    let told = c.args.entry.now in
    let datum = told_json told told.what c.args.counts in
    let written = c.write_entry.new.writer in
    let added = c.in_ok-write_entry.ensures.spelling in
    let none : written.before ≡ [] = added.0 ∙ c.new-writer.ensures.before ∙ c.in_ok-with_capacity.ensures.items in
    let same : written.tokens ≡ tokens_of datum = added.1 ∙ ap (λ first. first ++ tokens_of datum) c.new-writer.ensures.tokens in
    c.into_inner.ensures.items ∙ ap (λ before. before ++ print written.tokens) none ∙ ap print same ∙ print-outline datum

pub returns-clause-again : goal.returns-clause-again
returns-clause-again c =
    let told = c.args.entry.now in
    let datum = told_json told told.what c.args.counts in
    let written = c.write_entry.new.writer in
    let added = c.in_ok-write_entry.ensures.spelling in
    let kept = c.in_ok-write_entry.ensures.kept in
    let none : written.before ≡ [] = added.0 ∙ c.new-writer.ensures.before ∙ c.in_ok-with_capacity.ensures.items in
    let same : written.tokens ≡ tokens_of datum = added.1 ∙ ap (λ first. first ++ tokens_of datum) c.new-writer.ensures.tokens in
    read_again c.into_inner.result.items 2 datum (omega arith) (told_read told told.what c.args.counts kept.0 kept.1)
    (ap tokens (c.into_inner.ensures.items ∙ ap (λ before. before ++ print written.tokens) none) ∙ c.into_inner.ensures.reads_back ∙ same)

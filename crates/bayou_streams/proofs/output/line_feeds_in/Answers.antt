use Rattle.std.proofs.Common.{◌∙◌, ◌==◌, ap, length}
use Rattle.memchr.proofs.lemmas.CallerLemmas.{length-places}
use Rattle.bayou_streams.proofs.output.line_feeds_in.Goals as goal

pub returns : goal.returns
returns c = c.count.ensures ∙ ap length c.memchr_iter.ensures.value ∙ length-places (λ byte. byte == 10) c.args.text.now

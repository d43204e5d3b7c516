use Rattle.bayou_greeting.specs.Laws.Texts.{texts_differ}
use Rattle.bayou_greeting.proofs.laws.no_text_is_of_both_ends.Goals as goal

pub returns : goal.returns
returns c nonces others id servers = texts_differ nonces others id servers

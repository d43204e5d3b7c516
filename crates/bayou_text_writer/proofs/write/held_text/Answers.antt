use Rattle.bayou_text.specs.Said.{held}
use Rattle.bayou_text_writer.proofs.write.held_text.Goals as goal

pub returns-clause-spelling : goal.returns-clause-spelling
returns-clause-spelling c =
    c.tree_text.ensures.spelling (held c.args.server.index c.args.write.now c.args.counts) c.in_ok-held_json.ensures.spelling

pub returns-clause-again : goal.returns-clause-again
returns-clause-again c =
    c.tree_text.ensures.again (held c.args.server.index c.args.write.now c.args.counts) c.in_ok-held_json.ensures.spelling

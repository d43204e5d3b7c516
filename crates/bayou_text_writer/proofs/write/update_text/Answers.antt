use Rattle.std.proofs.Common.{◌∙◌, Some, ap}
use Rattle.serde_json.specs.Read.{read}
use Rattle.serde_json.specs.Written.{compact_text}
use Rattle.bayou_text_writer.proofs.Plain.{held_whole}
use Rattle.bayou_text_writer.proofs.write.update_text.Goals as goal

pub returns-clause-spelling : goal.returns-clause-spelling
returns-clause-spelling c =
    c.text_of_bytes.ensures ∙ c.in_ok-bytes.ensures.compact
    ∙ ap compact_text (held_whole c.args.server.index c.args.write.now c.args.counts c.requires.alone.0 c.requires.alone.1)

pub returns-clause-again : goal.returns-clause-again
returns-clause-again c =
    ap read c.text_of_bytes.ensures ∙ c.in_ok-bytes.ensures.again
    ∙ ap Some (held_whole c.args.server.index c.args.write.now c.args.counts c.requires.alone.0 c.requires.alone.1)

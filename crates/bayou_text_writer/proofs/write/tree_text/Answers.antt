use Rattle.serde_json.specs.View.{view}
use Rattle.bayou_text_writer.proofs.Written.{text_of_line, text_read}
use Rattle.bayou_text_writer.proofs.write.tree_text.Goals as goal

pub returns-clause-spelling : goal.returns-clause-spelling
returns-clause-spelling c = λ line same. text_of_line c.to_string.result (view c.args.json.now) line same c.to_string.ensures.text

pub returns-clause-again : goal.returns-clause-again
returns-clause-again c = λ line same. text_read c.to_string.result (view c.args.json.now) line same c.to_string.ensures.reads_back

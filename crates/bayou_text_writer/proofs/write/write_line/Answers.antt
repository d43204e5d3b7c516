use Rattle.bayou_text_writer.proofs.Written.{line_short, line_read, line_spelled}
use Rattle.bayou_text_writer.proofs.write.write_line.Goals as goal

pub returns : goal.returns
returns c =
    let line = c.args.line.now in
    let text = c.text_of.result in
    let made = c.text_of.ensures in
    let short = line_short text line made.kept made.spelling in
    let again = line_read text line made.kept short made.again in
    record {
      spelling = made.spelling;
      again = again;
      spells = line_spelled text line short again;
      short = short;
    }

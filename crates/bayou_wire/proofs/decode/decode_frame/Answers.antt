use Rattle.bayou_wire.specs.Laws.Inner.Fronts.{one_frame_answer, frame_answer-whole, frame_answer-more, frame_answer-faulty}
use Rattle.bayou_wire.proofs.decode.decode_frame.Goals as goal

pub returns-in-Faulty-clause-only : goal.returns-in-Faulty-clause-only
returns-in-Faulty-clause-only c other is = one_frame_answer _ _ other (frame_answer-faulty _ _ c.in-Faulty.ensures) is

pub returns-in-Whole-default-empty-clause-only : goal.returns-in-Whole-default-empty-clause-only
returns-in-Whole-default-empty-clause-only c other is =
    let front = c.in-Whole-default-empty.ensures in
    one_frame_answer _ _ other (frame_answer-whole _ _ _ front.0 front.1 c.in-Whole-default-empty.len_below) is

pub returns-in-Whole-default-len1-up-clause-only : goal.returns-in-Whole-default-len1-up-clause-only
returns-in-Whole-default-len1-up-clause-only c other is =
    let front = c.in-Whole-default-len1-up.ensures in
    one_frame_answer _ _ other (frame_answer-more _ _ _ front.0 front.1 c.in-Whole-default-len1-up.len_at_least) is

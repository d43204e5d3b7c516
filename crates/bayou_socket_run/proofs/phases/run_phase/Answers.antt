use Rattle.std.proofs.Common.{[]}
use Rattle.std.proofs.lemmas.Result.{err_from_is_err_and}
use Rattle.bayou_print.specs.Waiting.{stage}
use Rattle.bayou_print.specs.Laws.Gathered.{written, written_part}
use Rattle.bayou_socket_run.proofs.Told.{fault_behind, fault_told, nothing_told, part_behind, part_of_whole, phase_fault, some_of, whole_behind}
use Rattle.bayou_socket_run.proofs.phases.run_phase.Goals as goal

pub returns-in_err-together-clause-told : goal.returns-in_err-together-clause-told
returns-in_err-together-clause-told g c =
    let p = err_from_is_err_and c.from_residual.result c.from_residual.ensures.1 in
    let start = stage g.W.Write.contents c.args.output.now c.args.waiting.now in
    rw (p.1, p.2) (fault_told _ start start c.in_err-together.ensures.fault (part_of_whole start start (nothing_told start)))

pub returns-in_err-ended-clause-told : goal.returns-in_err-ended-clause-told
returns-in_err-ended-clause-told g c =
    let p = err_from_is_err_and c.from_residual-in_err-ended.result c.from_residual-in_err-ended.ensures.1 in
    let now = stage g.W.Write.contents in
    rw (p.1, p.2)
    (fault_behind c.in_err-ended.field-0.0 (now c.args.output.now c.args.waiting.now) (now c.write_answers.new.output c.write_answers.new.waiting)
    (now c.answer_closings.new.output c.answer_closings.new.waiting) c.in_ok-write_answers.ensures.told c.in_err-ended.ensures.told)

pub returns-in_err-write-clause-told : goal.returns-in_err-write-clause-told
returns-in_err-write-clause-told g c =
    let p = err_from_is_err_and c.from_residual-in_err-write.result c.from_residual-in_err-write.ensures.1 in
    let now = stage g.W.Write.contents in
    let start = now c.args.output.now c.args.waiting.now in
    let rested = now c.answer_closings.new.output c.answer_closings.new.waiting in
    let end = now c.write.new.output c.write.new.self in
    let whole = whole_behind start (now c.write_answers.new.output c.write_answers.new.waiting) rested c.in_ok-write_answers.ensures.told c.in_ok-ended.ensures.told in
    rw (p.1, p.2)
    (fault_told c.in_err-write.field-0.0 start end (phase_fault c.in_err-write.field-0.0 c.in_err-write.ensures.fault)
    (part_behind start rested end whole (some_of rested end [] (written_part rested end c.in_err-write.ensures.part c.in_err-write.ensures.none))))

pub returns-clause-told : goal.returns-clause-told
returns-clause-told g c =
    let now = stage g.W.Write.contents in
    let start = now c.args.output.now c.args.waiting.now in
    let rested = now c.answer_closings.new.output c.answer_closings.new.waiting in
    let end = now c.write.new.output c.write.new.self in
    let whole = whole_behind start (now c.write_answers.new.output c.write_answers.new.waiting) rested c.in_ok-write_answers.ensures.told c.in_ok-ended.ensures.told in
    whole_behind start rested end whole ([], written rested end c.in_ok-write.ensures.whole c.in_ok-write.ensures.none)

pub returns-in_err-together-clause-ended : goal.returns-in_err-together-clause-ended
returns-in_err-together-clause-ended g c =
    let p = err_from_is_err_and c.from_residual.result c.from_residual.ensures.1 in
    rw (p.1, p.2) (c.in_err-together.ensures.writes _ _)

use Rattle.std.proofs.lemmas.Result.{err_from_is_err_and}
use Rattle.bayou_print.specs.Waiting.{stage}
use Rattle.bayou_socket_run.proofs.Settled.{told_three}
use Rattle.bayou_socket_run.proofs.Told.{fault_behind, fault_told, part_behind, phase_fault, some_of, whole_behind}
use Rattle.bayou_socket_run.proofs.settling.write_books.Goals as goal

pub returns-in_err-write_nodes-clause-told : goal.returns-in_err-write_nodes-clause-told
returns-in_err-write_nodes-clause-told g c =
    let p = err_from_is_err_and c.from_residual-in_err-write_nodes.result c.from_residual-in_err-write_nodes.ensures.1 in
    let now = stage g.W.Write.contents in
    rw (p.1, p.2)
    (fault_behind c.in_err-write_nodes.field-0.0 (now c.args.output.now c.args.waiting.now) (now c.write_answer.new.output c.write_answer.new.waiting)
    (now c.write_nodes.new.output c.write_nodes.new.waiting) (_, c.in_ok-write_answer.ensures.whole) c.in_err-write_nodes.ensures.told)

pub returns-in_err-write_answer-2-clause-told : goal.returns-in_err-write_answer-2-clause-told
returns-in_err-write_answer-2-clause-told g c =
    let p = err_from_is_err_and c.from_residual-in_err-write_answer-2.result c.from_residual-in_err-write_answer-2.ensures.1 in
    let now = stage g.W.Write.contents in
    let start = now c.args.output.now c.args.waiting.now in
    let noded = now c.write_nodes.new.output c.write_nodes.new.waiting in
    let end = now c.write_answer-2.new.output c.write_answer-2.new.waiting in
    let whole = whole_behind start (now c.write_answer.new.output c.write_answer.new.waiting) noded (_, c.in_ok-write_answer.ensures.whole) c.in_ok-write_nodes.ensures.told in
    rw (p.1, p.2)
    (fault_told c.in_err-write_answer-2.field-0.0 start end (phase_fault c.in_err-write_answer-2.field-0.0 c.in_err-write_answer-2.ensures.fault)
    (part_behind start noded end whole (some_of noded end _ c.in_err-write_answer-2.ensures.part)))

pub returns-clause-told : goal.returns-clause-told
returns-clause-told g c =
    let now = stage g.W.Write.contents in
    let start = now c.args.output.now c.args.waiting.now in
    let noded = now c.write_nodes.new.output c.write_nodes.new.waiting in
    let end = now c.write_answer-2.new.output c.write_answer-2.new.waiting in
    let whole = whole_behind start (now c.write_answer.new.output c.write_answer.new.waiting) noded (_, c.in_ok-write_answer.ensures.whole) c.in_ok-write_nodes.ensures.told in
    whole_behind start noded end whole (_, c.in_ok-write_answer-2.ensures.whole)

pub returns-clause-prints : goal.returns-clause-prints
returns-clause-prints g c =
    let now = stage g.W.Write.contents in
    let start = now c.args.output.now c.args.waiting.now in
    let counted = now c.write_answer.new.output c.write_answer.new.waiting in
    let noded = now c.write_nodes.new.output c.write_nodes.new.waiting in
    let end = now c.write_answer-2.new.output c.write_answer-2.new.waiting in
    (c.of.ensures, told_three start counted noded end _ _ _ c.in_ok-write_answer.ensures.whole (rw c.as_slice.ensures.value at c.in_ok-write_nodes.ensures.prints) c.in_ok-write_answer-2.ensures.whole)

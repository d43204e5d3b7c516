use Rattle.std.proofs.Common.{◌≡◌, ◌∙◌, ◌<◌, ◌≤◌, List, [], ℕ, OnOk, get_or, length, subst, sym}
use Rattle.std.specs.Io.{IsEmptyOrEndsWith}
use Rattle.bayou_print.specs.Laws.Ends.{settled_ends}
use Rattle.bayou_print.specs.Laws.Gathered.{Gathers-nil}
use Rattle.bayou_print.specs.Waiting.{Gathers, stage}
use Rattle.bayou_socket_run.proofs.Settled.{line_none, line_some}
use Rattle.bayou_socket_run.proofs.settling.write_one.Goals as goal

pub print-requires : goal.print-requires
print-requires g c =
    subst (λ (text : List ℕ). IsEmptyOrEndsWith text 10) (sym (c.as_bytes.ensures.value ∙ c.in_ok-line.ensures)) (settled_ends c.args.server.index c.in-Some.settled.now)

pub returns-in_default-clause-prints : goal.returns-in_default-clause-prints
returns-in_default-clause-prints g c =
    let start = stage g.W.Write.contents c.args.output.now c.args.waiting.now in
    let beyond = subst (λ (n : ℕ). length c.args.nodes.now ≤ n) c.from.ensures c.in_default.ensures.lookup.3 in
    subst (λ (text : List ℕ). Gathers start start text []) (sym (line_none c.args.nodes.now c.args.server.index beyond)) (Gathers-nil start)

pub returns-clause-prints : goal.returns-clause-prints
returns-clause-prints g c =
    let now = stage g.W.Write.contents in
    let node = c.in-Some.settled.now in
    let within = subst (λ (n : ℕ). n < length c.args.nodes.now) c.from.ensures c.in-Some.ensures.lookup.3.0 in
    let is = subst (λ (n : ℕ). node ≡ get_or c.args.nodes.now n node) c.from.ensures c.in-Some.ensures.lookup.1 in
    subst (λ (text : List ℕ). OnOk c.print.result (Gathers (now c.args.output.now c.args.waiting.now) (now c.print.new.output c.print.new.self) text []))
    (c.as_bytes.ensures.value ∙ c.in_ok-line.ensures ∙ sym (line_some c.args.nodes.now c.args.server.index node within is)) c.print.ensures.whole

use Rattle.bayou_text.specs.Said.{servers}
use Rattle.bayou_script.specs.Network.{network_order}
use Rattle.bayou_script.proofs.Once.{LineLaws, not_refused, one_plan, one_refusal}
use Rattle.bayou_script.proofs.Told.{network_in_order}
use Rattle.bayou_script.proofs.laws.a_network_script_is_read_in_one_way.Goals as goal

pub returns-clause-one_plan : goal.returns-clause-one_plan
returns-clause-one_plan c lines one other is also =
    let laws : LineLaws = record {
      one_line = c.a_line_is_read_in_one_way.ensures.one_line;
      one_fault = c.a_line_is_read_in_one_way.ensures.one_fault;
      not_both = c.a_line_is_read_in_one_way.ensures.not_both;
    } in one_plan laws lines one other is.script also.script

pub returns-clause-one_refusal : goal.returns-clause-one_refusal
returns-clause-one_refusal c =
    let laws : LineLaws = record {
      one_line = c.a_line_is_read_in_one_way.ensures.one_line;
      one_fault = c.a_line_is_read_in_one_way.ensures.one_fault;
      not_both = c.a_line_is_read_in_one_way.ensures.not_both;
    } in one_refusal network_order laws

pub returns-clause-not_both : goal.returns-clause-not_both
returns-clause-not_both c lines plan number fault is =
    let laws : LineLaws = record {
      one_line = c.a_line_is_read_in_one_way.ensures.one_line;
      one_fault = c.a_line_is_read_in_one_way.ensures.one_fault;
      not_both = c.a_line_is_read_in_one_way.ensures.not_both;
    } in not_refused network_order laws lines (servers plan.count is.script.most) plan.commands number fault (network_in_order lines plan is)

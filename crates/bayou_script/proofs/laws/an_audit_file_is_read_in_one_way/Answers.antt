use Rattle.bayou_text.specs.Said.{servers}
use Rattle.bayou_script.specs.AuditFile.{audit_order}
use Rattle.bayou_script.proofs.Once.{LineLaws, not_refused, one_evidence, one_refusal}
use Rattle.bayou_script.proofs.laws.an_audit_file_is_read_in_one_way.Goals as goal

pub returns-clause-one_evidence : goal.returns-clause-one_evidence
returns-clause-one_evidence c =
    let laws : LineLaws = record {
      one_line = c.a_line_is_read_in_one_way.ensures.one_line;
      one_fault = c.a_line_is_read_in_one_way.ensures.one_fault;
      not_both = c.a_line_is_read_in_one_way.ensures.not_both;
    } in one_evidence laws

pub returns-clause-one_refusal : goal.returns-clause-one_refusal
returns-clause-one_refusal c =
    let laws : LineLaws = record {
      one_line = c.a_line_is_read_in_one_way.ensures.one_line;
      one_fault = c.a_line_is_read_in_one_way.ensures.one_fault;
      not_both = c.a_line_is_read_in_one_way.ensures.not_both;
    } in one_refusal audit_order laws

pub returns-clause-not_both : goal.returns-clause-not_both
returns-clause-not_both c lines evidence number fault file =
    let laws : LineLaws = record {
      one_line = c.a_line_is_read_in_one_way.ensures.one_line;
      one_fault = c.a_line_is_read_in_one_way.ensures.one_fault;
      not_both = c.a_line_is_read_in_one_way.ensures.not_both;
    } in not_refused audit_order laws lines (servers evidence.count file.most) file.others number fault file.in_order

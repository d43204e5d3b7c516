use Rattle.std.proofs.lemmas.Result.{IfOk-weaker}
use Rattle.bayou_errands.proofs.renewed.print_renewed.Goals as goal

pub returns : goal.returns
returns g c = IfOk-weaker c.write_renewed.result _ _ (λ is_printed h. λ yes. record { renewed = c.args.renewed.now; digits = c.as_str.result.now; takes = h yes }) c.write_renewed.ensures

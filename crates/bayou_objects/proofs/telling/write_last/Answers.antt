use Rattle.std.proofs.Common.{◌∙◌, List, ℕ, subst, sym}
use Rattle.std.specs.Io.{IsEmptyOrEndsWith}
use Rattle.bayou_objects.specs.Objects.{last_json}
use Rattle.bayou_objects.specs.Laws.Ends.{last_ends}
use Rattle.bayou_print.specs.Laws.Gathered.{Gathers-none}
use Rattle.bayou_objects.proofs.telling.write_last.Goals as goal

pub print-requires : goal.print-requires
print-requires g c =
    subst (λ (text : List ℕ). IsEmptyOrEndsWith text 10) (sym (c.as_bytes.ensures.value ∙ c.in_ok-last.ensures)) (last_ends c.args.servers c.args.answer.now)

pub returns-in_err-last-clause-part : goal.returns-in_err-last-clause-part
returns-in_err-last-clause-part g c = (last_json c.args.servers c.args.answer.now, Gathers-none _ _)

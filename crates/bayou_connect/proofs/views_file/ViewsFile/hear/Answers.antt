use Rattle.std.proofs.Common.{rules}
use Rattle.bayou_connect.proofs.views_file.ViewsFile.hear.Goals as goal

pub returns-in-Some-clause-heard : goal.returns-in-Some-clause-heard
returns-in-Some-clause-heard c = (c.in-Some.outlook, search rules, search rules)

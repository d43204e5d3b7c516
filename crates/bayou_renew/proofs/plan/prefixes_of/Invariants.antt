-- one prefix for each word so far, as it says
use Rattle.std.proofs.Common.{take}
use Rattle.std.specs.List.{AllZip}
use Rattle.bayou_renew.specs.Words.{SaysPrefix}
use Rattle.bayou_renew.proofs.plan.prefixes_of.Given as goal

abbrev pub invariant-loop-word : goal.invariant-loop-word
invariant-loop-word l = AllZip (λ word prefix. SaysPrefix word.now prefix) (take l.word-index l.words) l.prefixes.items

use Rattle.std.proofs.Common.{false, refl}
use Rattle.std.proofs.lemmas.List.{get_or-replicate}
use Rattle.bayou_base.specs.declared.limits.TheConstants.{SESSIONS}
use Rattle.bayou_script.proofs.stage.Stage.new.Goals as goal

pub returns : goal.returns
returns c = record {
  begins = (refl, refl);
  flags = λ who within. get_or-replicate SESSIONS who false false within;
}

-- What an error of `clap` becomes.
use Rattle.clap.specs.declared.error.kind.ErrorKind.{ErrorKind}
use Rattle.bayou_command.specs.declared.Stop.{Stop}
use Rattle.bayou_command.specs.declared.Stop.TheVariants.{Asked, Refused, Memory}
use Rattle.bayou_command.specs.Words.{IsRequest}

-- what stops at an error of this kind
abbrev pub StopsAt : ErrorKind → Stop → Type 0
StopsAt kind (Asked text) = IsRequest kind
StopsAt kind (Refused text) = ¬ (IsRequest kind)
StopsAt kind Memory = Unit {0}

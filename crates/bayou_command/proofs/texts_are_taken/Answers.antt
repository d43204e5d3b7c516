use Rattle.std.proofs.Common.{◌∷◌, ap, arith, length, lt-ltb, refl}
use Rattle.clap.proofs.OnLiterals.{clap_on_literals}
use Rattle.clap.specs.declared.error.kind.ErrorKind.TheVariants.{InvalidValue}
use Rattle.bayou_command.proofs.Numbers.{told}
use Rattle.bayou_command.proofs.texts_are_taken.Goals as goal

pub returns-clause-listen : goal.returns-clause-listen
unfolding clap_on_literals
returns-clause-listen c text = record { good = refl; entered = refl }

pub returns-clause-dir : goal.returns-clause-dir
unfolding clap_on_literals
returns-clause-dir c byte text = record { good = ap (told InvalidValue) (lt-ltb 0 (length (byte ∷ text)) (omega arith)); entered = refl }

pub returns-clause-peers : goal.returns-clause-peers
unfolding clap_on_literals
returns-clause-peers c first second = record { good = refl; entered = refl }

pub returns-clause-key : goal.returns-clause-key
unfolding clap_on_literals
returns-clause-key c byte text = record { good = ap (told InvalidValue) (lt-ltb 0 (length (byte ∷ text)) (omega arith)); entered = refl }

use Rattle.std.proofs.Common.{◌∷◌, ap, arith, length, lt-ltb, refl}
use Rattle.clap.proofs.OnLiterals.{clap_on_literals}
use Rattle.clap.specs.declared.error.kind.ErrorKind.TheVariants.{InvalidValue, ValueValidation}
use Rattle.bayou_command.specs.Rows.{plain_connection}
use Rattle.bayou_command.specs.Words.{a_connect}
use Rattle.bayou_command.proofs.Numbers.{number_kept, number_taken, told}
use Rattle.bayou_command.proofs.connections_are_taken.Goals as goal

pub returns-clause-count : goal.returns-clause-count
unfolding clap_on_literals
returns-clause-count c = record {
  taken = λ text is. record {
    good = ap (told ValueValidation) is;
    entered = ap (λ number. a_connect (record plain_connection { count = number })) (number_kept 1 16 text (omega arith) is);
  };
  refused = λ text is. ap (told ValueValidation) is;
}

pub returns-clause-wait : goal.returns-clause-wait
unfolding clap_on_literals
returns-clause-wait c = record {
  taken = λ text is. record {
    good = ap (told ValueValidation) is;
    entered = ap (λ number. a_connect (record plain_connection { wait_seconds = number })) (number_taken 0 86400 0 text (omega arith) is);
  };
  refused = λ text is. ap (told ValueValidation) is;
}

pub returns-clause-timeout : goal.returns-clause-timeout
unfolding clap_on_literals
returns-clause-timeout c = record {
  taken = λ text is. record {
    good = ap (told ValueValidation) is;
    entered = ap (λ number. a_connect (record plain_connection { timeout_seconds = number })) (number_taken 1 86400 3 text (omega arith) is);
  };
  refused = λ text is. ap (told ValueValidation) is;
}

pub returns-clause-servers : goal.returns-clause-servers
unfolding clap_on_literals
returns-clause-servers c first second = record { good = refl; entered = refl }

pub returns-clause-asks : goal.returns-clause-asks
unfolding clap_on_literals
returns-clause-asks c text = record { good = refl; entered = refl }

pub returns-clause-state : goal.returns-clause-state
unfolding clap_on_literals
returns-clause-state c byte text = record { good = ap (told InvalidValue) (lt-ltb 0 (length (byte ∷ text)) (omega arith)); entered = refl }

pub returns-clause-book : goal.returns-clause-book
unfolding clap_on_literals
returns-clause-book c byte text = record { good = ap (told InvalidValue) (lt-ltb 0 (length (byte ∷ text)) (omega arith)); entered = refl }

pub returns-clause-key : goal.returns-clause-key
unfolding clap_on_literals
returns-clause-key c byte text = record { good = ap (told InvalidValue) (lt-ltb 0 (length (byte ∷ text)) (omega arith)); entered = refl }

pub returns-clause-log : goal.returns-clause-log
unfolding clap_on_literals
returns-clause-log c byte text = record { good = ap (told InvalidValue) (lt-ltb 0 (length (byte ∷ text)) (omega arith)); entered = refl }

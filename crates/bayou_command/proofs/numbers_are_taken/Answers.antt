use Rattle.std.proofs.Common.{arith, ap}
use Rattle.clap.proofs.OnLiterals.{clap_on_literals}
use Rattle.clap.specs.declared.error.kind.ErrorKind.TheVariants.{ValueValidation}
use Rattle.bayou_command.specs.Rows.{plain_service}
use Rattle.bayou_command.specs.Words.{a_serve}
use Rattle.bayou_command.proofs.Numbers.{number_taken, told}
use Rattle.bayou_command.proofs.numbers_are_taken.Goals as goal

pub returns-clause-id : goal.returns-clause-id
unfolding clap_on_literals
returns-clause-id c = record {
  taken = λ text is. record {
    good = ap (told ValueValidation) is;
    entered = ap (λ number. a_serve (record plain_service { id = number })) (number_taken 0 15 0 text (omega arith) is);
  };
  refused = λ text is. ap (told ValueValidation) is;
}

pub returns-clause-servers : goal.returns-clause-servers
unfolding clap_on_literals
returns-clause-servers c = record {
  taken = λ text is. record {
    good = ap (told ValueValidation) is;
    entered = ap (λ number. a_serve (record plain_service { servers = number })) (number_taken 1 16 1 text (omega arith) is);
  };
  refused = λ text is. ap (told ValueValidation) is;
}

pub returns-clause-every : goal.returns-clause-every
unfolding clap_on_literals
returns-clause-every c = record {
  taken = λ text is. record {
    good = ap (told ValueValidation) is;
    entered = ap (λ number. a_serve (record plain_service { every_seconds = number })) (number_taken 1 86400 1 text (omega arith) is);
  };
  refused = λ text is. ap (told ValueValidation) is;
}

pub returns-clause-limit : goal.returns-clause-limit
unfolding clap_on_literals
returns-clause-limit c = record {
  taken = λ text is. record {
    good = ap (told ValueValidation) is;
    entered = ap (λ number. a_serve (record plain_service { limit = number })) (number_taken 1 65536 65536 text (omega arith) is);
  };
  refused = λ text is. ap (told ValueValidation) is;
}

pub returns-clause-connections : goal.returns-clause-connections
unfolding clap_on_literals
returns-clause-connections c = record {
  taken = λ text is. record {
    good = ap (told ValueValidation) is;
    entered = ap (λ number. a_serve (record plain_service { connections = number })) (number_taken 1 4096 64 text (omega arith) is);
  };
  refused = λ text is. ap (told ValueValidation) is;
}

pub returns-clause-idle : goal.returns-clause-idle
unfolding clap_on_literals
returns-clause-idle c = record {
  taken = λ text is. record {
    good = ap (told ValueValidation) is;
    entered = ap (λ number. a_serve (record plain_service { idle_seconds = number })) (number_taken 1 86400 60 text (omega arith) is);
  };
  refused = λ text is. ap (told ValueValidation) is;
}

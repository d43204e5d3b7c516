-- What stays of a desk: this project's own.
use Rattle.std.specs.Prelude.{◌≡◌}
use Rattle.bayou_connect.specs.Viewing.{IsSameStore}
use Rattle.bayou_connect.specs.declared.desk.PersonDesk.{PersonDesk}

-- the plan, the sessions that lines opened, and the server that is asked first stay
pub record IsSameSeat (old new : PersonDesk) : Type 0 where
  pub servers : new.servers ≡ old.servers
  pub json : new.is_json ≡ old.is_json
  pub run : new.run ≡ old.run
  pub first_number : new.first_number ≡ old.first_number
  pub first : new.first ≡ old.first
  pub rounds : new.rounds ≡ old.rounds
  pub opened : new.opened ≡ old.opened

-- so do the sessions, and what is kept of them
pub record IsSameDesk (old new : PersonDesk) : Type 0 where
  pub seat : IsSameSeat old new
  pub store : IsSameStore old.store new.store

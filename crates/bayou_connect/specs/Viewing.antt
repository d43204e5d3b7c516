-- What servers are asked beside a session's operations: this project's own.
use Rattle.std.specs.Prelude.{◌≡◌}
use Rattle.bayou_connect.specs.declared.store.Store.{Store}

-- no session has read or written anything by it, and the files that keep what they did stay
abbrev pub IsSameStore : (old new : Store) → Type 0
IsSameStore old new = (new.sessions ≡ old.sessions) × (new.state ≡ old.state) × (new.book ≡ old.book)

-- A session's operation at the servers of a store: this project's own.
use Rattle.std.specs.Prelude.{◌≡◌, ◌⊎◌, ◌≤◌, ℕ, IsSomeAnd, slice_get, vec_len}
use Rattle.bayou_base.specs.declared.server.ServerId.{ServerId}
use Rattle.bayou_base.specs.declared.session.SessionId.{SessionId}
use Rattle.bayou_connect.specs.Keeping.{HasAsked}
use Rattle.bayou_connect.specs.Operating.{is_read}
use Rattle.bayou_connect.specs.Round.{AsksInRounds, turns_but_last}
use Rattle.bayou_connect.specs.Silence.{silent_at}
use Rattle.bayou_connect.specs.declared.asking.Requested.{Requested}
use Rattle.bayou_connect.specs.declared.store.Store.{Store}
use Rattle.bayou_connect.specs.declared.told.ServerTold.{ServerTold}
use Rattle.bayou_connect.specs.declared.told.ServerTold.TheVariants.{Away}

-- the session did this at the server of that place
abbrev pub AsksAt : SessionId → Requested → Store → (at : ℕ) → Store → ServerTold → Type 0
AsksAt who attempt old at new told = HasAsked old.accesses.items at attempt old.sessions.items new.sessions.items new.state who.index told

-- at the server of this number, which has a place
abbrev pub AsksServer : SessionId → ServerId → Requested → (old new : Store) → ServerTold → Type 0
AsksServer who server attempt old new told =
    (at : ℕ) × IsSomeAnd (slice_get old.accesses.items at) (λ access. access.place.id ≡ server) × AsksAt who attempt old at new told

-- at all servers in turn, from that place on, those last that count as silent as it begins, and round again so often; where there is no such place, none is
-- asked
abbrev pub AsksAnywhere : SessionId → Requested → (first rounds : ℕ) → (old new : Store) → ServerTold → Type 0
AsksAnywhere who attempt first rounds old new told =
    ((vec_len old.accesses ≤ first) × (new ≡ old) × (told ≡ Away))
    ⊎ ((now : ℕ) × AsksInRounds (AsksAt who attempt) (is_read attempt) (turns_but_last (silent_at now old.accesses.items) first (vec_len old.accesses)) rounds old new told)

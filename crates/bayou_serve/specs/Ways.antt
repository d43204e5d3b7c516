-- What ways there are to a peer: this project's own.
use Rattle.std.specs.Prelude.{◌≡◌, ◌⊎◌, Option, None, IsSome, false, true}
use Rattle.bayou_greeting.specs.declared.store_key.StoreKey.{StoreKey}
use Rattle.bayou_greeting.specs.declared.stranger.Stranger.TheVariants.{Older}
use Rattle.bayou_serve.specs.declared.greeting.Way.{Way}
use Rattle.bayou_serve.specs.declared.greeting.Way.TheVariants.{Away, Stranger, Open, Differs, Apart}

-- A greeting came about: a way that is open then is to a peer that made itself known. Nothing was compared yet, and an older one isn't met by a greeting.
abbrev pub IsGreetedWay : Way → Type 0
IsGreetedWay Away = Unit {0}
IsGreetedWay (Stranger stranger) = ¬ (stranger ≡ Older)
IsGreetedWay (Open stream is_older known) = (is_older ≡ false) × IsSome known
IsGreetedWay (Differs stream origin) = Unit {0}
IsGreetedWay (Apart origin) = ⊥

-- A way that is open is to a peer that made itself known, or, at an open store alone, to an older one that knows no greetings. At a store that has a
-- key, and nowhere else, an older one is a stranger.
abbrev pub IsWay : (key : Option StoreKey) → Way → Type 0
IsWay key Away = Unit {0}
IsWay key (Stranger stranger) = stranger ≡ Older → IsSome key
IsWay key (Open stream is_older known) = ((is_older ≡ false) × IsSome known) ⊎ ((is_older ≡ true) × (known ≡ None) × (key ≡ None))
IsWay key (Differs stream origin) = Unit {0}
IsWay key (Apart origin) = Unit {0}

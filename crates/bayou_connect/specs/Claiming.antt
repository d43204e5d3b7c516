-- What a session reads and writes line by line, and claims, of several keys one: this project's own.
use Rattle.std.specs.Prelude.{◌≡◌, ◌≢◌, ◌↔◌, ◌&&◌, ◌⊎◌, ℕ, Bool, true, false, All, IsSomeAnd, List, [], ◌∷◌, MatchBool, MatchOption, Option, None, Some, is_some, not, slice_get}
use Rattle.bayou_base.specs.declared.answer.Seen.{Seen}
use Rattle.bayou_base.specs.declared.session.SessionId.{SessionId}
use Rattle.bayou_base.specs.declared.server.ServerId.{ServerId}
use Rattle.bayou_base.specs.declared.value.Value.{Value}
use Rattle.bayou_base.specs.declared.value.Value.TheVariants as values
use Rattle.bayou_base.specs.declared.wid.Wid.{Wid}
use Rattle.bayou_connect.specs.Anywhere.{AsksAnywhere, AsksAt}
use Rattle.bayou_connect.specs.Claims.{IsMade}
use Rattle.bayou_connect.specs.Desks.{IsSameDesk, IsSameSeat}
use Rattle.bayou_connect.specs.Finals.{outlook_of}
use Rattle.bayou_connect.specs.Operating.{SeesOther}
use Rattle.bayou_connect.specs.Own.{KeepsOwn, own_write}
use Rattle.bayou_connect.specs.Printing.{changes_something, nothing_text, told_text}
use Rattle.bayou_connect.specs.declared.asking.Requested.TheVariants as attempts
use Rattle.bayou_connect.specs.declared.desk.PersonDesk.{PersonDesk}
use Rattle.bayou_connect.specs.declared.desk.MadeWrite.{MadeWrite}
use Rattle.bayou_connect.specs.declared.reach.Access.{Access}
use Rattle.bayou_connect.specs.declared.told.ServerTold.{ServerTold}
use Rattle.bayou_connect.specs.declared.told.ServerTold.TheVariants as told
use Rattle.bayou_lang.specs.declared.program.Program.{Program}
use Rattle.bayou_print.specs.Connected.{became_text}
use Rattle.bayou_streams.specs.Account.{Account, TakesBytes}
use Rattle.bayou_wire.specs.declared.lookup.Placed.{Placed}

-- The session reads a key, at any server, and what it hears is printed.
pub record ReadsKey (who : SessionId) (key : List ℕ) (old new : PersonDesk) (before after : Account) : Type 0 where
  pub told : ServerTold
  pub asked : AsksAnywhere who (attempts.Read key) old.first old.rounds old.store new.store told
  pub printed : TakesBytes before after (told_text old.servers who (Some key) told)
  pub seat : IsSameSeat old new

-- It writes, at any server, and what it hears is printed: as what the Write was accepted, if it was.
pub record MakesWrite (who : SessionId) (program : Program) (old new : PersonDesk) (before after : Account) (made : Option MadeWrite) : Type 0 where
  pub told : ServerTold
  pub asked : AsksAnywhere who (attempts.Write program) old.first old.rounds old.store new.store told
  pub printed : TakesBytes before after (told_text old.servers who None told)
  pub accepted : IsMade new.store.accesses.items told made
  pub seat : IsSameSeat old new

-- What became of a Write is printed, as far as its server tells it, after the own Write that goes for it. No session has read anything by it.
pub record TellsOutcome (who : SessionId) (made : MadeWrite) (old new : PersonDesk) (before after : Account) (placed : Option Placed) : Type 0 where
  pub kept : Account
  pub keeps : KeepsOwn (outlook_of old.store.views) (own_write made placed) (outlook_of new.store.views) before kept
  pub printed : TakesBytes kept after (became_text who.index made.wid placed)
  pub served : new.is_served ≡ (old.is_served && changes_something placed)
  pub same : IsSameDesk old new

-- Whether the session hears, at any server, that a key has another value than this, or none. What else it hears is printed.
pub record LooksFree (who : SessionId) (value : Value) (key : List ℕ) (old new : PersonDesk) (before after : Account) (is_free : Bool) : Type 0 where
  pub told : ServerTold
  pub asked : AsksAnywhere who (attempts.Read key) old.first old.rounds old.store new.store told
  pub free : is_free ≡ true ↔ SeesOther value told
  pub printed : MatchBool is_free (after ≡ before) (TakesBytes before after (told_text old.servers who (Some key) told))
  pub seat : IsSameSeat old new

-- The same of these keys, one after another, up to the first that isn't free.
unfoldable pub LookFree : SessionId → Value → List (List ℕ) → (old new : PersonDesk) → (before after : Account) → (are_free : Bool) → Type 0
LookFree who value [] old new before after are_free = (are_free ≡ true) × (new ≡ old) × (after ≡ before)
LookFree who value (key ∷ keys) old new before after are_free = (is_free : Bool) × (looked : PersonDesk) × (line : Account)
    × LooksFree who value key old looked before line is_free
    × MatchBool is_free (LookFree who value keys looked new line after are_free) ((are_free ≡ false) × (new ≡ looked) × (after ≡ line))

-- Whether the session hears, at the server of that place, that a key has another value than this, or none. What it hears is printed.
pub record TellsKey (who : SessionId) (value : Value) (at : ℕ) (key : List ℕ) (old new : PersonDesk) (before after : Account) (is_other : Bool) : Type 0 where
  pub told : ServerTold
  pub asked : AsksAt who (attempts.Read key) old.store at new.store told
  pub other : is_other ≡ true ↔ SeesOther value told
  pub printed : TakesBytes before after (told_text old.servers who (Some key) told)
  pub seat : IsSameSeat old new

-- The same of these keys, one after another, up to the first that has no other value.
unfoldable pub TellsKeys : SessionId → Value → (at : ℕ) → List (List ℕ) → (old new : PersonDesk) → (before after : Account) → (are_other : Bool) → Type 0
TellsKeys who value at [] old new before after are_other = (are_other ≡ true) × (new ≡ old) × (after ≡ before)
TellsKeys who value at (key ∷ keys) old new before after are_other = (is_other : Bool) × (told : PersonDesk) × (line : Account)
    × TellsKey who value at key old told before line is_other
    × MatchBool is_other (TellsKeys who value at keys told new line after are_other) ((are_other ≡ false) × (new ≡ told) × (after ≡ line))

-- it is printed that a Write did nothing, which isn't what was asked for
abbrev pub TellsNothing : SessionId → (old new : PersonDesk) → (before after : Account) → Type 0
TellsNothing who old new before after = (new ≡ record old { is_served = false }) × TakesBytes before after (nothing_text who)

-- What a claim came to, by the server that accepted it: what each key has, up to the first that has the value; and that it did nothing, where each has
-- another and it isn't known what became of the Write.
pub record TellsClaim (who : SessionId) (value : Value) (at : ℕ) (keys : List (List ℕ)) (is_known : Bool) (old new : PersonDesk) (before after : Account) : Type 0 where
  pub are_other : Bool
  pub told : PersonDesk
  pub line : Account
  pub keys_told : TellsKeys who value at keys old told before line are_other
  pub rest : MatchBool (are_other && not is_known) (TellsNothing who told new line after) ((new ≡ told) × (after ≡ line))

-- A Write that was accepted as this: what became of it, and what each key of the claim has.
pub record TellsMade (who : SessionId) (value : Value) (keys : List (List ℕ)) (made : MadeWrite) (old new : PersonDesk) (before after : Account) : Type 0 where
  pub placed : Option Placed
  pub told : PersonDesk
  pub line : Account
  pub outcome : TellsOutcome who made old told before line placed
  pub claim : TellsClaim who value made.at keys (is_some placed) told new line after

-- A Write of a claim, and where it was accepted what it came to.
pub record MakesClaim (who : SessionId) (value : Value) (keys : List (List ℕ)) (program : Program) (old new : PersonDesk) (before after : Account) : Type 0 where
  pub made : Option MadeWrite
  pub wrote : PersonDesk
  pub line : Account
  pub write : MakesWrite who program old wrote before line made
  pub rest : MatchOption made ((new ≡ wrote) × (after ≡ line)) (λ made. TellsMade who value keys made wrote new line after)

-- A claim, of these keys one: nothing is written where one of them has the value already, or can't be read.
pub record ClaimsOne (who : SessionId) (value : Value) (keys : List (List ℕ)) (program : Program) (old new : PersonDesk) (before after : Account) : Type 0 where
  pub are_free : Bool
  pub looked : PersonDesk
  pub line : Account
  pub look : LookFree who value keys old looked before line are_free
  pub rest : MatchBool are_free (MakesClaim who value keys program looked new line after) ((new ≡ looked) × (after ≡ line))

abbrev pub is_text_value : Option Value → Bool
is_text_value None = false
is_text_value (Some (values.Num number)) = false
is_text_value (Some (values.Text text)) = true

-- a text was seen
abbrev pub is_text : Option Seen → Bool
is_text None = false
is_text (Some seen) = is_text_value seen.value

-- A Write of no claim, and where it was accepted what became of it.
pub record MakesPlainly (who : SessionId) (program : Program) (old new : PersonDesk) (before after : Account) : Type 0 where
  pub made : Option MadeWrite
  pub wrote : PersonDesk
  pub line : Account
  pub write : MakesWrite who program old wrote before line made
  pub rest : MatchOption made ((new ≡ wrote) × (after ≡ line)) (λ made. (placed : Option Placed) × TellsOutcome who made wrote new line after placed)

-- Where it isn't known what became of an addition, its server is asked for the key, for no session: that it did nothing is printed where that has a text.
pub record LooksForText (who : SessionId) (old new : PersonDesk) (before after : Account) : Type 0 where
  pub seen : Option Seen
  pub same : IsSameDesk old new
  pub rest : MatchBool (is_text seen) ((new.is_served ≡ false) × TakesBytes before after (nothing_text who)) ((new.is_served ≡ old.is_served) × (after ≡ before))

-- An addition that was accepted as this.
pub record TellsAdded (who : SessionId) (made : MadeWrite) (old new : PersonDesk) (before after : Account) : Type 0 where
  pub placed : Option Placed
  pub told : PersonDesk
  pub line : Account
  pub outcome : TellsOutcome who made old told before line placed
  pub rest : MatchOption placed (LooksForText who told new line after) (λ placed. (new ≡ told) × (after ≡ line))

-- An addition, which this program makes.
pub record MakesAddition (who : SessionId) (program : Program) (old new : PersonDesk) (before after : Account) : Type 0 where
  pub made : Option MadeWrite
  pub wrote : PersonDesk
  pub line : Account
  pub write : MakesWrite who program old wrote before line made
  pub rest : MatchOption made ((new ≡ wrote) × (after ≡ line)) (λ made. TellsAdded who made wrote new line after)

-- the place of this server, or that one, where it has none
abbrev pub IsPlaceOr : List Access → ServerId → (other : ℕ) → (at : ℕ) → Type 0
IsPlaceOr accesses server other at =
    (All (λ access. access.place.id ≢ server) accesses × (at ≡ other)) ⊎ IsSomeAnd (slice_get accesses at) (λ access. access.place.id ≡ server)

-- the line of what became of a Write, and of what else the session hears
abbrev pub fate_told : (servers : ℕ) → SessionId → Wid → ServerTold → List ℕ
fate_told servers who wid told.Away = told_text servers who None told.Away
fate_told servers who wid (told.Seen seen) = told_text servers who None (told.Seen seen)
fate_told servers who wid (told.Rows page) = told_text servers who None (told.Rows page)
fate_told servers who wid (told.Fate fate) = became_text who.index wid fate.placed
fate_told servers who wid (told.Accepted accepted) = told_text servers who None (told.Accepted accepted)
fate_told servers who wid (told.Refused fault) = told_text servers who None (told.Refused fault)
fate_told servers who wid told.Lost = told_text servers who None told.Lost

-- it is served: a Write that changed nothing isn't what was asked for
abbrev pub is_fate_service : ServerTold → Bool
is_fate_service told.Away = false
is_fate_service (told.Seen seen) = true
is_fate_service (told.Rows page) = true
is_fate_service (told.Fate fate) = changes_something fate.placed
is_fate_service (told.Accepted accepted) = true
is_fate_service (told.Refused fault) = false
is_fate_service told.Lost = false

-- What became of a Write, as the first server tells the session that serves it: the one that accepted it is asked first.
pub record TellsBecame (who : SessionId) (wid : Wid) (old new : PersonDesk) (before after : Account) : Type 0 where
  pub first : ℕ
  pub told : ServerTold
  pub begins : IsPlaceOr old.store.accesses.items wid.origin old.first first
  pub asked : AsksAnywhere who (attempts.Became wid) first old.rounds old.store new.store told
  pub printed : TakesBytes before after (fate_told old.servers who wid told)
  pub served : new.is_served ≡ (old.is_served && is_fate_service told)
  pub seat : IsSameSeat old new

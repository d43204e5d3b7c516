-- Keys that are read one after another, for a claim or for themselves, and rows that are printed so.
use Rattle.std.proofs.Common.{◌≡◌, ◌∙◌, ◌+◌, ◌<◌, ◌≤◌, ◌∷◌, [], ℕ, List, Bool, true, false, Option, add-one, ap, drop, get_or, length, refl, sym}
use Rattle.std.proofs.Math.Seq.{drop-cons}
use Rattle.std.proofs.lemmas.List.{drop_all}
use Rattle.std.specs.Coded.{le_prop}
use Rattle.bayou_base.specs.declared.limits.TheConstants.{SESSIONS}
use Rattle.bayou_base.specs.declared.session.SessionId.{SessionId}
use Rattle.bayou_base.specs.declared.value.Value.{Value}
use Rattle.bayou_connect.specs.Claiming.{LookFree, LooksFree, TellsKey, TellsKeys}
use Rattle.bayou_connect.specs.Listing.{PrintsRows, Row, row_told, standing_told}
use Rattle.bayou_connect.specs.Wishing.{GetsKey, GetsKeys}
use Rattle.bayou_connect.specs.declared.desk.PersonDesk.{PersonDesk}
use Rattle.bayou_connect.specs.declared.looking.Beyond.{Beyond}
use Rattle.bayou_connect.specs.Sessions.{own_session}
use Rattle.bayou_streams.specs.Account.{Account, TakesBytes}

-- the session of short lines, however it is known that its number is one
abbrev pub own_of : 0 < SESSIONS → SessionId
own_of within = record { index = 0; in_range = within }

pub own_is : (within : 0 < SESSIONS) → own_of within ≡ own_session
own_is within = ap (λ (h : 0 < SESSIONS). own_of h) (le_prop within own_session.in_range)

-- what is left of the keys is the next one and those behind it
pub next_of : {A : Type 0} (items : List A) (at : ℕ) (d : A) → at < length items → drop at items ≡ get_or items at d ∷ drop (at + 1) items
next_of {A} items at d within = drop-cons items at d within ∙ ap (λ (n : ℕ). get_or items at d ∷ drop n items) (sym (add-one at))

pub look_none : (who : SessionId) (value : Value) (desk : PersonDesk) (account : Account) → LookFree who value [] desk desk account account true
unfolding LookFree
look_none who value desk account = (refl, refl, refl)

pub look_on : (who : SessionId) (value : Value) (key : List ℕ) (keys : List (List ℕ)) (old looked new : PersonDesk) (before line after : Account) (are_free : Bool)
    → LooksFree who value key old looked before line true → LookFree who value keys looked new line after are_free → LookFree who value (key ∷ keys) old new before after are_free
unfolding LookFree
look_on who value key keys old looked new before line after are_free one rest = (true, looked, line, one, rest)

pub look_ends : (who : SessionId) (value : Value) (key : List ℕ) (keys : List (List ℕ)) (old new : PersonDesk) (before after : Account)
    → LooksFree who value key old new before after false → LookFree who value (key ∷ keys) old new before after false
unfolding LookFree
look_ends who value key keys old new before after one = (false, new, after, one, (refl, refl, refl))

pub tells_none : (who : SessionId) (value : Value) (at : ℕ) (desk : PersonDesk) (account : Account) → TellsKeys who value at [] desk desk account account true
unfolding TellsKeys
tells_none who value at desk account = (refl, refl, refl)

pub tells_on : (who : SessionId) (value : Value) (at : ℕ) (key : List ℕ) (keys : List (List ℕ)) (old told new : PersonDesk) (before line after : Account) (are_other : Bool)
    → TellsKey who value at key old told before line true → TellsKeys who value at keys told new line after are_other → TellsKeys who value at (key ∷ keys) old new before after are_other
unfolding TellsKeys
tells_on who value at key keys old told new before line after are_other one rest = (true, told, line, one, rest)

pub tells_end : (who : SessionId) (value : Value) (at : ℕ) (key : List ℕ) (keys : List (List ℕ)) (old new : PersonDesk) (before after : Account)
    → TellsKey who value at key old new before after false → TellsKeys who value at (key ∷ keys) old new before after false
unfolding TellsKeys
tells_end who value at key keys old new before after one = (false, new, after, one, (refl, refl, refl))

pub gets_none : (desk : PersonDesk) (account : Account) → GetsKeys [] desk desk account account
unfolding GetsKeys
gets_none desk account = (refl, refl)

pub gets_on : (key : List ℕ) (keys : List (List ℕ)) (old got new : PersonDesk) (before line after : Account) → GetsKey key old got before line → GetsKeys keys got new line after
    → GetsKeys (key ∷ keys) old new before after
unfolding GetsKeys
gets_on key keys old got new before line after one rest = (got, line, one, rest)

pub prints_none : (is_json keeps : Bool) (beyond : Option Beyond) (account : Account) → PrintsRows is_json keeps beyond [] account account
unfolding PrintsRows
prints_none is_json keeps beyond account = refl

pub prints_on : (is_json keeps : Bool) (beyond : Option Beyond) (row : Row) (rows : List Row) (before line after : Account)
    → TakesBytes before line (row_told is_json (standing_told keeps beyond row.0) row) → PrintsRows is_json keeps beyond rows line after
    → PrintsRows is_json keeps beyond (row ∷ rows) before after
unfolding PrintsRows
prints_on is_json keeps beyond row rows before line after one rest = (line, one, rest)

-- none is left behind the last
pub none_left : {A : Type 0} (items : List A) (at : ℕ) → length items ≤ at → drop at items ≡ []
none_left items at within = drop_all at items within

-- How the value of a key stands, as a person learns: this project's own.
use Rattle.std.specs.Prelude.{◌≡◌, List, ℕ, if◌then◌else◌, MatchOption, Option, None, is_some}
use Rattle.bayou_connect.specs.Finals.{IsLearnt, finals_in, keeps_finals, outlook_of}
use Rattle.bayou_connect.specs.Listing.{standing_told}
use Rattle.bayou_connect.specs.declared.desk.PersonDesk.{PersonDesk}
use Rattle.bayou_connect.specs.declared.looking.Beyond.{Beyond}
use Rattle.bayou_connect.specs.declared.store.Store.{Store}
use Rattle.bayou_outlook.specs.declared.outlook.Outlook.{Outlook}
use Rattle.bayou_print.specs.Standing.{key_standing_text}
use Rattle.bayou_streams.specs.Account.{Account, TakesBytes}

-- what the server held that served the last read, where it is kept what is final
abbrev pub view_read : Store → Option (List ℕ)
view_read store = if is_some store.views then store.read_last else None

-- It is learnt which keys may change yet at a server that holds this; or that isn't known, and nothing more is known to be final.
abbrev pub Learns : (old : Option Outlook) → (view : List ℕ) → (new : Option Outlook) → Option Beyond → Type 0
Learns old view new beyond = MatchOption beyond (finals_in new ≡ finals_in old) (IsLearnt old view new)

-- How the value stands of a key that was read last is printed, where it is kept what is final: by the keys that may change yet where it was read.
abbrev pub TellsKeyStanding : (key : List ℕ) → (old new : PersonDesk) → (before after : Account) → Type 0
TellsKeyStanding key old new before after = MatchOption (view_read old.store) (after ≡ before)
    (λ view. (beyond : Option Beyond) × Learns (outlook_of old.store.views) view (outlook_of new.store.views) beyond
    × MatchOption (standing_told (keeps_finals (outlook_of new.store.views)) beyond key) (after ≡ before)
    (λ standing. TakesBytes before after (key_standing_text 0 standing key)))

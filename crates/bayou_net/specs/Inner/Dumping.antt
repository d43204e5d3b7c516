-- How a dump is sent, a part at a time: this project's own. No public clause cites it.
use Rattle.std.specs.Prelude.{◌≡◌, ℕ, List, ◌++◌, Option, Result, Ok, Err, IfSome, drop, length, take}
use Rattle.std.specs.Io.KnownBytes.{Appends}
use Rattle.bayou_base.specs.declared.limits.TheConstants.{ITEMS_AT_ONCE}
use Rattle.bayou_frames.specs.declared.fault.ChannelFault.{ChannelFault}
use Rattle.bayou_frames.specs.Spelled.{item_bytes}
use Rattle.bayou_lang.specs.declared.write.Write.{Write}
use Rattle.bayou_streams.specs.Written.{AppendsFront}

-- the Items of the Writes from this place on, as many as one part has at the most, and their number
abbrev pub IsPart : Option (List Write) → (place : ℕ) → (text : List ℕ) → (number : ℕ) → Type 0
IsPart list place text number =
    (writes : List Write) × IfSome list (λ held. writes ≡ take ITEMS_AT_ONCE (drop place held)) × (text ≡ item_bytes writes) × (number ≡ length writes)

-- the Items of the first so many Writes were sent
abbrev pub HasDumped : Option (List Write) → (before after : Option (List ℕ)) → (number : ℕ) → Type 0
HasDumped list before after number =
    (writes : List Write) × IfSome list (λ held. (rest : List Write) × (held ≡ writes ++ rest)) × Appends before after (item_bytes writes) × (number ≡ length writes)

-- the Items of all Writes were sent, or a front of them
abbrev pub SendsHeld : Option (List Write) → (before after : Option (List ℕ)) → Result ℕ ChannelFault → Type 0
SendsHeld list before after (Ok number) =
    (writes : List Write) × IfSome list (λ held. writes ≡ held) × Appends before after (item_bytes writes) × (number ≡ length writes)
SendsHeld list before after (Err fault) =
    (writes : List Write) × IfSome list (λ held. writes ≡ held) × AppendsFront before after (item_bytes writes)

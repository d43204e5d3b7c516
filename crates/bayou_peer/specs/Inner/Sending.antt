-- How an answer to an Offer is sent, a few Items at a time: this project's own.
use Rattle.std.specs.Prelude.{◌≡◌, ℕ, List, ◌++◌, Option, Result, IfSome, length}
use Rattle.std.specs.Io.KnownBytes.{Appends}
use Rattle.std.specs.List.{AllByRecursion}
use Rattle.bayou_lang.specs.declared.write.Write.{Write}
use Rattle.bayou_lang.specs.Ranges.{IsWrite}
use Rattle.bayou_lang.specs.Writes.{lacking_of}
use Rattle.bayou_frames.specs.declared.fault.ChannelFault.{ChannelFault}
use Rattle.bayou_peer.specs.Offers.{Sends}
use Rattle.bayou_frames.specs.Spelled.{item_bytes}

-- Items of the first Writes that these counts lack were sent; the counts then lack the others.
abbrev pub SendsBatch : Option (List Write) → (told now : List ℕ) → (before after : Option (List ℕ)) → Result ℕ ChannelFault → Type 0
SendsBatch list told now before after result =
    (writes : List Write) × IfSome list (λ held. lacking_of told held ≡ writes ++ lacking_of now held) × Sends item_bytes writes before after result

-- Items of all that these counts lack were sent.
abbrev pub SendsItems : Option (List Write) → List ℕ → (before after : Option (List ℕ)) → Result ℕ ChannelFault → Type 0
SendsItems list counts before after result =
    (writes : List Write) × IfSome list (λ held. writes ≡ lacking_of counts held) × Sends item_bytes writes before after result

-- Items of so many Writes, the first that these counts lack, were sent so far; what is reported now lacks the others.
abbrev pub HasSent : Option (List Write) → (counts told : List ℕ) → (before after : Option (List ℕ)) → ℕ → Type 0
HasSent list counts told before after number =
    (writes : List Write) × IfSome list (λ held. lacking_of counts held ≡ writes ++ lacking_of told held)
    × Appends before after (item_bytes writes) × (number ≡ length writes) × AllByRecursion IsWrite writes

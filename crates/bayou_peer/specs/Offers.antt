-- What comes of an Offer (anti-entropy, Petersen et al. 1997).
use Rattle.std.specs.Prelude.{◌≡◌, ◌⊎◌, ℕ, List, Option, Result, Ok, Err, IfOk, IfSome, OnOk, length}
use Rattle.std.specs.Io.KnownBytes.{Appends}
use Rattle.std.specs.List.{AllByRecursion}
use Rattle.bayou_lang.specs.declared.write.Write.{Write}
use Rattle.bayou_lang.specs.Ranges.{IsWrite}
use Rattle.bayou_lang.specs.Writes.{lacking_of}
use Rattle.bayou_frames.specs.declared.fault.ChannelFault.{ChannelFault}
use Rattle.bayou_frames.specs.First.{BeginsWith, OfferRead}
use Rattle.bayou_frames.specs.Spelled.{answer_bytes}
use Rattle.bayou_frames.specs.Stopping.{IsSendFault}
use Rattle.bayou_streams.specs.Written.{AppendsFront}
use Rattle.bayou_wire.specs.declared.frame.Frame.TheVariants.{Offer}

-- What these Writes are spelled by was written, and their number is answered; where a fault is, a front of it was written.
pub record Sends (spelled : List Write → List ℕ) (writes : List Write) (before after : Option (List ℕ)) (result : Result ℕ ChannelFault) : Type 0 where
  pub whole : OnOk result (Appends before after (spelled writes))
  pub part : AppendsFront before after (spelled writes)
  pub number : IfOk result (λ number. number ≡ length writes)
  pub each : OnOk result (AllByRecursion IsWrite writes)

-- An Item of each of some Writes was sent, and one End of their number: of those that are lacking, where it is known which Writes are held.
abbrev pub Answers : Option (List Write) → List ℕ → (before after : Option (List ℕ)) → Result ℕ ChannelFault → Type 0
Answers list counts before after result =
    (writes : List Write) × IfSome list (λ held. writes ≡ lacking_of counts held) × Sends answer_bytes writes before after result

-- What was read begins with an Offer of these counts, and that is answered.
abbrev pub Answered : Option (List Write) → (read : List ℕ) → (before after : Option (List ℕ)) → Result ℕ ChannelFault → Type 0
Answered list read before after result = (counts : List ℕ) × BeginsWith read (Offer counts) × Answers list counts before after result

-- How serving one Offer ends: where none was read, nothing is written.
abbrev pub OfferServed : Option (List Write) → (read : List ℕ) → (before after : Option (List ℕ)) → (is_end : Type 0) → Result ℕ ChannelFault → Type 0
OfferServed list read before after is_end (Ok number) = Answered list read before after (Ok number)
OfferServed list read before after is_end (Err fault) =
    (OfferRead read is_end (Err fault) × (after ≡ before))
    ⊎ (IsSendFault fault × Answered list read before after (Err fault))

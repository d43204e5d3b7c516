-- The request that is kept of a Write which may be asked again.
use Rattle.std.proofs.Common.{◌≡◌, ℕ, refl, sym, ap, ◌∙◌, List, [], ◌∷◌, ◌++◌, Option, None, Some, append-nil, subst}
use Rattle.std.specs.Prelude.{MatchOption, replicate}
use Rattle.bayou_base.specs.declared.limits.TheConstants.{SERVERS}
use Rattle.bayou_base.specs.declared.tag.Tag.{Tag}
use Rattle.bayou_client.specs.declared.asker.Asked.{Asked}
use Rattle.bayou_remember.specs.Spelling.{AreAskedFrames}
use Rattle.bayou_session.specs.Needs.{IsTagOf, Told}
use Rattle.bayou_wire.specs.declared.frame.Frame.{Frame}
use Rattle.bayou_wire.specs.declared.frame.Frame.TheVariants.{Write}
use Rattle.bayou_wire.specs.Stream.{spelling, spellings}

-- the request, where the tag is that of the Write that may be asked again
pub asked_frames : (session : Told) (asked : Option Asked) (tag : Tag) (what : Asked) (told : Option Tag) → told ≡ Some tag → asked ≡ Some what
    → MatchOption told (session.asked ≡ None) (λ tag. (number : ℕ) × (session.asked ≡ Some number) × IsTagOf session number tag)
    → AreAskedFrames session asked (Write tag (replicate SERVERS 0) what.program ∷ [])
asked_frames session asked tag what told is_tag is_what says = rw is_what (of_tag (subst (λ o. MatchOption o (session.asked ≡ None) (λ tag. (number : ℕ) × (session.asked ≡ Some number) × IsTagOf session number tag)) is_tag says))
  where
    of_tag : ((number : ℕ) × (session.asked ≡ Some number) × IsTagOf session number tag)
        → AreAskedFrames session (Some what) (Write tag (replicate SERVERS 0) what.program ∷ [])
    of_tag known = (known.0, tag, replicate SERVERS 0, known.1, known.2, refl)

-- one frame more
pub one_more : (after before : List ℕ) (frame : Frame) → after ≡ before ++ spelling frame → after ≡ before ++ spellings (frame ∷ [])
one_more after before frame same = same ∙ ap (λ rest. before ++ rest) (sym (append-nil (spelling frame)))

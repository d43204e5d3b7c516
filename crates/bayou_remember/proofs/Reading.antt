-- Frames that a whole stream has.
use Rattle.std.proofs.Common.{◌≡◌, ℕ, List, [], ◌∷◌, ◌++◌, Option, None, Some, Ok, Err, refl, sym, ap, subst, ◌∙◌, append-nil, inl, inr}
use Rattle.std.specs.List.{flat_map}
use Rattle.bayou_remember.specs.Inner.Reading.{AreFrames}
use Rattle.bayou_wire.specs.Laws.Frames.{not_faulty, partial_not_faulty}
use Rattle.bayou_wire.specs.declared.fault.DecodeFault.{DecodeFault}
use Rattle.bayou_wire.specs.declared.frame.Frame.{Frame}
use Rattle.bayou_wire.specs.declared.stream.FeedFault.TheVariants.{Failed, Fault}
use Rattle.bayou_wire.specs.Spelling.{frame_bytes}
use Rattle.bayou_wire.specs.Stream.{Fed, Holds, IsFaulty, Splits, TakesIn, spelling, spellings, stream_of}

abbrev pub OneReading : Type 0
OneReading = (stream : List ℕ) (frames others : List Frame) (rest left : List ℕ) → Splits stream frames rest → Splits stream others left → (frames ≡ others) × (rest ≡ left)

-- of a stream behind which nothing is held back the frames are all
pub whole_stream : (bytes : List ℕ) (frames : List Frame) (old new : Option (List ℕ)) → old ≡ Some [] → new ≡ Some [] → Fed old bytes (Ok frames) new → AreFrames bytes frames
unfolding spelling
whole_stream bytes frames old new first none fed =
    of_taken (subst (λ n. Fed (Some []) bytes (Ok frames) n) none (subst (λ o. Fed o bytes (Ok frames) new) first fed))
  where
    of_left : (left : List ℕ) → bytes ≡ stream_of frames left → Holds left [] → bytes ≡ flat_map frame_bytes frames
    of_left left whole (inl partial) = whole ∙ ap (λ rest. flat_map frame_bytes frames ++ rest) (sym partial.1) ∙ append-nil (flat_map frame_bytes frames)
    of_left left whole (inr bad) = absurd (partial_not_faulty [] bad.0 tt bad.1)

    of_taken : TakesIn bytes frames [] → AreFrames bytes frames
    of_taken taken = record { each = taken.splits.each; spelled = of_left taken.left taken.splits.whole taken.holds }

-- frames are a stream of which nothing is left
all_of_it : (bytes : List ℕ) (all : List Frame) → AreFrames bytes all → Splits bytes all []
unfolding spelling
all_of_it bytes all are = record { whole = are.spelled ∙ sym (append-nil (flat_map frame_bytes all)); each = are.each; rest = inl tt }

-- of frames nothing is held back
pub nothing_left : OneReading → (bytes : List ℕ) (frames : List Frame) (old new : Option (List ℕ)) → old ≡ Some [] → (new ≡ Some [] → ⊥) → Fed old bytes (Ok frames) new → (all : List Frame) → AreFrames bytes all → ⊥
nothing_left law bytes frames old new first some fed all are = of_new new some (subst (λ o. Fed o bytes (Ok frames) new) first fed)
  where
    of_held : (left held : List ℕ) → left ≡ [] → (held ≡ [] → ⊥) → Holds left held → ⊥
    of_held left held none some (inl partial) = some (partial.1 ∙ none)
    of_held left [] none some (inr bad) = some refl
    of_held left (byte ∷ held) none some (inr bad) = let whole = sym none ∙ bad.2.1 in absurd cc

    of_new : (new : Option (List ℕ)) → (new ≡ Some [] → ⊥) → Fed (Some []) bytes (Ok frames) new → ⊥
    of_new None some fed = fed
    of_new (Some held) some taken =
        of_held taken.left held (law bytes frames all taken.left [] taken.splits (all_of_it bytes all are)).1 (λ none. some (ap (λ h. Some h) none)) taken.holds

-- frames have no fault
no_fault : (bytes : List ℕ) (fault : DecodeFault) (all : List Frame) → AreFrames bytes all → IsFaulty bytes fault → ⊥
no_fault bytes fault [] are faulty = partial_not_faulty [] fault tt (subst (λ b. IsFaulty b fault) are.spelled faulty)
no_fault bytes fault (frame ∷ all) are faulty = not_faulty bytes frame (spellings all) fault are.each.0 are.spelled faulty

pub faulty_stream : (bytes : List ℕ) (fault : DecodeFault) (old new : Option (List ℕ)) → old ≡ Some [] → Fed old bytes (Err (Fault fault)) new → (all : List Frame) → AreFrames bytes all → ⊥
faulty_stream bytes fault old new first fed all are = of_new new (subst (λ o. Fed o bytes (Err (Fault fault)) new) first fed)
  where
    of_new : (new : Option (List ℕ)) → Fed (Some []) bytes (Err (Fault fault)) new → ⊥
    of_new None faulty = no_fault bytes fault all are faulty
    of_new (Some held) fed = fed

-- a stream has told no fault before its first
pub not_failed : (bytes : List ℕ) (old new : Option (List ℕ)) → old ≡ Some [] → Fed old bytes (Err Failed) new → ⊥
not_failed bytes old new first fed = subst (λ o. Fed o bytes (Err Failed) new) first fed

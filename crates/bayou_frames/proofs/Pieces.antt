-- What a piece of a stream of frames gives.
use Rattle.std.proofs.Common.{rules, ◌≡◌, ℕ, List, [], ◌++◌, Bool, true, false, Option, None, Some, Ok, Err, refl, sym, ap, subst, ◌∙◌, inl, inr}
use Rattle.std.specs.Prelude.{is_some, MatchOption}
use Rattle.bayou_frames.specs.Framing.{Comes}
use Rattle.bayou_wire.specs.Laws.Frames.{faulty_on}
use Rattle.bayou_wire.specs.declared.fault.DecodeFault.{DecodeFault}
use Rattle.bayou_wire.specs.declared.frame.Frame.{Frame}
use Rattle.bayou_wire.specs.declared.stream.FeedFault.TheVariants as feeds
use Rattle.bayou_wire.specs.Stream.{Fed, Holds, IsFaultAt, IsFaulty, IsPartial, spelling, spellings, stream_of}

pub spelled : (frames : List Frame) (rest : List ℕ) → stream_of frames rest ≡ spellings frames ++ rest
unfolding spelling
spelled frames rest = refl

-- what the fault that was asked for says of the rest
waits_for : (left now : List ℕ) (fault : Option DecodeFault) → Holds left now → IsFaultAt now fault → is_some fault ≡ false → IsPartial left × (Some now ≡ Some left)
waits_for left now None (inl partial) none e = (partial.0, ap Some partial.1)
waits_for left now None (inr bad) none e = absurd (none bad.0 bad.1)
waits_for left now (Some fault) holds at e = search rules

bad_in : (left now : List ℕ) (fault : Option DecodeFault) → Holds left now → IsFaultAt now fault → is_some fault ≡ true → (found : DecodeFault) × IsFaulty left found
bad_in left now None holds none e = search rules
bad_in left now (Some fault) (inl partial) at e = (fault, subst (λ (s : List ℕ). IsFaulty s fault) partial.1 at)
bad_in left now (Some fault) (inr bad) at e = (fault, subst (λ (s : List ℕ). IsFaulty s fault) (sym bad.2.1) (faulty_on now bad.2.0 fault at))

pub comes_whole : (held piece : List ℕ) (frames : List Frame) (old new : Option (List ℕ)) (fault : Option DecodeFault) → old ≡ Some held → Fed old piece (Ok frames) new
    → MatchOption new (fault ≡ None) (λ now. IsFaultAt now fault) → Comes held piece frames (is_some fault) new
comes_whole held piece frames old new fault e fed asked = of_known new fault (subst (λ o. Fed o piece (Ok frames) new) e fed) asked
  where
    of_known : (new : Option (List ℕ)) (fault : Option DecodeFault) → Fed (Some held) piece (Ok frames) new → MatchOption new (fault ≡ None) (λ now. IsFaultAt now fault) → Comes held piece frames (is_some fault) new
    of_known None fault f at = absurd f
    of_known (Some now) fault f at = record {
      rest = f.left;
      whole = f.splits.whole ∙ spelled frames f.left;
      each = f.splits.each;
      waits = λ none. waits_for f.left now fault f.holds at none;
      bad = λ some. bad_in f.left now fault f.holds at some;
    }

pub comes_bad : (held piece : List ℕ) (frames : List Frame) (is_bad : Bool) (old new : Option (List ℕ)) (fault : DecodeFault) → old ≡ Some held → Fed old piece (Err (feeds.Fault fault)) new
    → frames ≡ [] → is_bad ≡ true → Comes held piece frames is_bad new
comes_bad held piece frames is_bad old new fault e fed none true_is =
    rw (none, true_is) (of_known new (subst (λ o. Fed o piece (Err (feeds.Fault fault)) new) e fed))
  where
    of_known : (new : Option (List ℕ)) → Fed (Some held) piece (Err (feeds.Fault fault)) new → Comes held piece [] true new
    of_known (Some now) f = absurd f
    of_known None f = record {
      rest = held ++ piece;
      whole = refl;
      each = tt;
      waits = λ no_way. search rules;
      bad = λ _. (fault, f);
    }

pub comes_never : (held piece : List ℕ) (old new : Option (List ℕ)) → old ≡ Some held → Fed old piece (Err feeds.Failed) new → ⊥
comes_never held piece old new e fed = subst (λ o. Fed o piece (Err feeds.Failed) new) e fed

-- How the sessions of a phase are opened: this project's own (sessions by Terry et al. 1994).
use Rattle.std.specs.Prelude.{◌≡◌, ℕ, List, [], ◌∷◌, MatchOption, slice_get, slice_set}
use Rattle.bayou_base.specs.declared.asks.Asks.{Asks}
use Rattle.bayou_fleet.specs.declared.phase.Opening.{Opening}
use Rattle.bayou_fleet.specs.declared.run_session.RunSession.{RunSession}
use Rattle.bayou_fleet.specs.declared.run_session.RunSession.TheVariants.{Unopened, Open}
use Rattle.bayou_session.specs.Needs.{new_session}

-- a session that wasn't opened yet begins anew, in this run, and asks for this; one that was stays as it is
abbrev pub IsOpened : {K S R W F : Type 0} → (run : ℕ) → Asks → (old new : RunSession K S R W F) → Type 0
IsOpened run asks (Unopened share) (Unopened other) = ⊥
IsOpened run asks (Unopened share) (Open session) = (session.client.session ≡ new_session share.session run asks) × (session.who ≡ share.session)
IsOpened run asks (Open session) new = new ≡ Open session

-- the session of this number is opened so, if there is one; each other stays as it was
abbrev pub OpensOne : {K S R W F : Type 0} → (run : ℕ) → Opening → (old new : List (RunSession K S R W F)) → Type 0
OpensOne {K} {S} {R} {W} {F} run opening old new =
    MatchOption (slice_get old opening.session.index) (new ≡ old)
    (λ was. (now : RunSession K S R W F) × IsOpened run opening.asks was now × (new ≡ slice_set old opening.session.index now))

-- one after another
abbrev pub OpensEach : {K S R W F : Type 0} → (run : ℕ) → List Opening → (old new : List (RunSession K S R W F)) → Type 0
OpensEach run [] old new = new ≡ old
OpensEach {K} {S} {R} {W} {F} run (opening ∷ openings) old new =
    (mid : List (RunSession K S R W F)) × OpensOne run opening old mid × OpensEach run openings mid new

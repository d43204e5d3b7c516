-- A Write that is asked again: what is told of it, and which links stay.
use Rattle.std.proofs.Common.{◌≡◌, ◌≢◌, ◌∙◌, ℕ, zero, suc, List, [], ◌∷◌, Option, None, Some, IfSome, ap, refl, sym, slice_set}
use Rattle.std.proofs.lemmas.Option.{none-some, same_Some}
use Rattle.std.specs.Prelude.{option_map, slice_get}
use Rattle.bayou_answers.specs.declared.answer.Answer.{Answer}
use Rattle.bayou_answers.specs.declared.answer.Answer.TheVariants.{Done, Wrote, Read, Refused, Lost, NotAgain, Logged, Stopped, Recovered, Exchanged, Counted, Judged, Surveyed, Booked}
use Rattle.bayou_base.specs.declared.server.ServerId.{ServerId}
use Rattle.bayou_base.specs.declared.session.SessionId.{SessionId}
use Rattle.bayou_client.specs.declared.asker.Asked.{Asked}
use Rattle.bayou_fleet.specs.Operating.{AnswersAgain, AnswersWrite, IsUnserved, KeepsOthers}
use Rattle.bayou_session.specs.Needs.{Told}

-- where no server is named there is nothing to ask again
pub nothing_asked : (asked : Option Asked) → option_map (λ (a : Asked). a.server) asked ≡ None → asked ≡ None
nothing_asked None is = refl
nothing_asked (Some asked) is = absurd (none-some asked.server (sym is))

pub told_none : (who : SessionId) (told : Told) (asked : Option Asked) → option_map (λ (a : Asked). a.server) asked ≡ None → AnswersAgain who told asked (NotAgain who)
told_none who told None is = refl
told_none who told (Some asked) is = absurd (none-some asked.server (sym is))

-- what answers no operation answers no Write
unserved_write : (who : SessionId) (told : Told) (server : ServerId) (answer : Answer) → IsUnserved who answer → AnswersWrite who told server answer
unserved_write who told server (Wrote session accepted) is = absurd is
unserved_write who told server Done is = is
unserved_write who told server (Read session key seen) is = is
unserved_write who told server (Refused session refusal) is = is
unserved_write who told server (Lost session) is = is
unserved_write who told server (NotAgain session) is = is
unserved_write who told server (Logged place listing vector) is = is
unserved_write who told server (Stopped place) is = is
unserved_write who told server (Recovered recovery) is = is
unserved_write who told server (Exchanged transfer) is = is
unserved_write who told server (Counted totals) is = is
unserved_write who told server (Judged result) is = is
unserved_write who told server (Surveyed result) is = is
unserved_write who told server (Booked file) is = is

pub told_unserved : (who : SessionId) (told : Told) (asked : Option Asked) (server : ServerId) (answer : Answer) → option_map (λ (a : Asked). a.server) asked ≡ Some server → IsUnserved who answer
    → AnswersAgain who told asked answer
told_unserved who told None server answer is so = absurd (none-some server is)
told_unserved who told (Some asked) server answer is so = unserved_write who told asked.server answer so

set_other : {X : Type 0} (xs : List X) (at other : ℕ) (x : X) → other ≢ at → slice_get (slice_set xs at x) other ≡ slice_get xs other
set_other [] at other x differ = refl
set_other (y ∷ ys) zero zero x differ = absurd (differ refl)
set_other (y ∷ ys) zero (suc other) x differ = refl
set_other (y ∷ ys) (suc at) zero x differ = refl
set_other (y ∷ ys) (suc at) (suc other) x differ = set_other ys at other x (λ same. differ (ap suc same))

-- no link was put in another's place
pub kept_all : {Link : Type 0} (asked : Option Asked) (links : List Link) → IfSome asked (λ (a : Asked). KeepsOthers a.server.index links links)
kept_all None links = tt
kept_all (Some asked) links = λ other differ. refl

-- one link was put in another's place
pub kept_others : {Link : Type 0} (asked : Option Asked) (server : ServerId) (at : ℕ) (old new : List Link) (link : Link) → option_map (λ (a : Asked). a.server) asked ≡ Some server → at ≡ server.index
    → new ≡ slice_set old at link → IfSome asked (λ (a : Asked). KeepsOthers a.server.index old new)
kept_others {Link} None server at old new link is place renewed = tt
kept_others {Link} (Some asked) server at old new link is place renewed = λ other differ.
    ap (λ (links : List Link). slice_get links other) renewed
    ∙ set_other old at other link (λ same. differ (same ∙ place ∙ ap (λ (s : ServerId). s.index) (sym (same_Some asked.server server is))))

-- The last frame of what is kept of a session that may ask a Write again.
use Rattle.bayou_client.specs.Operating.{Asking}
use Rattle.std.proofs.Common.{arith, ◌≡◌, ◌≢◌, ℕ, ◌≤◌, List, [], ◌∷◌, ◌++◌, Option, None, Some, length, length-append, sym, ap, subst, ◌∙◌}
use Rattle.std.specs.Prelude.{IfSome}
use Rattle.bayou_base.specs.declared.server.ServerId.{ServerId}
use Rattle.bayou_base.specs.declared.session.SessionId.{SessionId}
use Rattle.bayou_base.specs.declared.tag.Tag.{Tag}
use Rattle.bayou_client.specs.declared.asker.Asked.{Asked}
use Rattle.bayou_lang.specs.declared.program.Program.{Program}
use Rattle.bayou_remember.specs.declared.head.Head.{Head}
use Rattle.bayou_remember.specs.Inner.Reading.{IsKeptBy}
use Rattle.bayou_remember.specs.Spelling.{AreAskedFrames, server_of}
use Rattle.bayou_wire.specs.declared.frame.Frame.{Frame}
use Rattle.bayou_wire.specs.declared.frame.Frame.TheVariants as frames

-- the frames of what is kept with a Write: the two vectors, and the request under a tag of the session, at a place that was begun
record HasRequest (head : Head) (kept : Asking) (all : List Frame) : Type 0 where
  pub tag : Tag
  pub need : List ℕ
  pub program : Program
  pub whose : tag.session.index ≡ head.session.index
  pub begun : tag.number ≤ head.begun
  pub is : all ≡ frames.Offer kept.session.reads ∷ frames.Offer kept.session.writes ∷ frames.Write tag need program ∷ []

has_request : (head : Head) (server : ServerId) (all : List Frame) (kept : Asking) → head.server ≡ Some server → IsKeptBy head all kept → HasRequest head kept all
has_request head server all kept at by = of_asked kept.asked (by.server_is ∙ at) by.asked
  where
    of_asked : (asked : Option Asked) → server_of asked ≡ Some server → AreAskedFrames kept.session asked by.asking → HasRequest head kept all
    of_asked None is are = absurd cc
    of_asked (Some asked) is are =
        let within : are.0 ≤ kept.session.begun = subst (λ o. IfSome o (λ number. number ≤ kept.session.begun)) are.3 by.asked_within in
        record {
          tag = are.1;
          need = are.2;
          program = asked.program;
          whose = ap (λ (s : SessionId). s.index) are.4.0 ∙ by.whose;
          begun = omega (arith, are.4.2, by.begun_is, within);
          is = by.frames_are ∙ ap (λ more. frames.Offer kept.session.reads ∷ frames.Offer kept.session.writes ∷ more) are.5;
        }

-- the last of three
record LastOfThree (front : List Frame) (last a b c : Frame) : Type 0 where
  pub front_is : front ≡ a ∷ b ∷ []
  pub last_is : last ≡ c

last_of_three : (front : List Frame) (last a b c : Frame) → front ++ last ∷ [] ≡ a ∷ b ∷ c ∷ [] → LastOfThree front last a b c
last_of_three [] last a b c same = absurd (omega (arith, ap {A = List Frame} length same))
last_of_three (x ∷ []) last a b c same = absurd (omega (arith, ap {A = List Frame} length same))
last_of_three (x ∷ y ∷ []) last a b c same = record { front_is = cc; last_is = cc }
last_of_three (x ∷ y ∷ z ∷ front) last a b c same = absurd (omega (arith, ap {A = List Frame} length same, length-append front (last ∷ [])))

-- without a frame nothing is kept
pub no_frame : (head : Head) (server : ServerId) (all : List Frame) (kept : Asking) → head.server ≡ Some server → all ≡ [] → IsKeptBy head all kept → ⊥
no_frame head server all kept at none by = let is = has_request head server all kept at by in absurd (omega (arith, ap {A = List Frame} length (sym none ∙ is.is)))

-- nor where the last frame is no request for a Write
pub no_request : (head : Head) (server : ServerId) (front : List Frame) (last : Frame) (all : List Frame) (kept : Asking) → head.server ≡ Some server → all ≡ front ++ last ∷ []
    → ((tag : Tag) (need : List ℕ) (program : Program) → last ≢ frames.Write tag need program) → IsKeptBy head all kept → ⊥
no_request head server front last all kept at split none by =
    let is = has_request head server all kept at by in
    none is.tag is.need is.program (last_of_three front last _ _ _ (sym split ∙ is.is)).last_is

-- nor where it is one under another's tag, or of a place that isn't begun
pub no_tag : (head : Head) (server : ServerId) (front : List Frame) (tag : Tag) (need : List ℕ) (program : Program) (all : List Frame) (kept : Asking) → head.server ≡ Some server
    → all ≡ front ++ frames.Write tag need program ∷ [] → ((tag.session.index ≡ head.session.index) × (tag.number ≤ head.begun) → ⊥) → IsKeptBy head all kept → ⊥
no_tag head server front tag need program all kept at split other by =
    let is = has_request head server all kept at by in
    let last = (last_of_three front (frames.Write tag need program) _ _ _ (sym split ∙ is.is)).last_is in
    let same : is.tag ≡ tag = cc in
    other (sym (ap (λ (t : Tag). t.session.index) same) ∙ is.whose, subst (λ (t : Tag). t.number ≤ head.begun) same is.begun)

-- nor where two vectors don't stand before it
pub no_vectors : (head : Head) (server : ServerId) (front : List Frame) (last : Frame) (kept : Asking) → head.server ≡ Some server
    → ((reads writes : List ℕ) → front ≢ frames.Offer reads ∷ frames.Offer writes ∷ []) → IsKeptBy head (front ++ last ∷ []) kept → ⊥
no_vectors head server front last kept at none by =
    let is = has_request head server (front ++ last ∷ []) kept at by in
    none kept.session.reads kept.session.writes (last_of_three front last _ _ _ is.is).front_is

-- What a head and the frames behind it keep is what the bytes do.
use Rattle.bayou_client.specs.Operating.{Asking}
use Rattle.std.proofs.Common.{◌≡◌, ℕ, ◌≤◌, List, ◌++◌, Option, None, Some, sym, ap, subst, ◌∙◌}
use Rattle.std.specs.List.{AllByRecursion}
use Rattle.std.specs.Prelude.{MatchOption}
use Rattle.bayou_base.specs.declared.limits.TheConstants.{MAX_PLACES}
use Rattle.bayou_remember.specs.declared.head.Head.{Head}
use Rattle.bayou_remember.specs.Inner.Heads.{BeginsWithHead}
use Rattle.bayou_remember.specs.Inner.Reading.{AreFrames, IsKeptBy}
use Rattle.bayou_remember.specs.Spelling.{SpellsKept, frames_of, head_bytes, in_run, server_of}
use Rattle.bayou_remember.proofs.Heads.{SameHead, one_head}
use Rattle.bayou_remember.proofs.Unique.{one_kept, one_spelling}
use Rattle.bayou_wire.specs.declared.frame.Frame.{Frame}
use Rattle.bayou_wire.specs.Spelling.{IsFrame}
use Rattle.bayou_wire.specs.Stream.{spellings}

-- the bytes begin with this head
abbrev pub HeadOf : Head → (bytes rest : List ℕ) → Type 0
HeadOf head bytes rest = bytes ≡ head_bytes head.session.index head.asks head.begun head.server ++ rest

-- bytes that begin with no head keep nothing
pub no_head : (bytes : List ℕ) (kept : Asking) → (BeginsWithHead bytes → ⊥) → SpellsKept bytes kept → ⊥
no_head bytes kept none spells = none (record {
  session = kept.session.id;
  asks = kept.session.asks;
  begun = kept.session.begun;
  server = server_of kept.asked;
  rest = spellings (frames_of kept spells.asking);
  is = spells.spelled;
})

same_head : (head : Head) (bytes rest : List ℕ) (kept : Asking) → HeadOf head bytes rest → (spells : SpellsKept bytes kept)
    → SameHead kept.session.id.index head.session.index kept.session.asks head.asks kept.session.begun head.begun (server_of kept.asked) head.server (spellings (frames_of kept spells.asking)) rest
same_head head bytes rest kept is spells = one_head _ _ _ _ _ _ _ _ _ _ spells.begun head.within (sym spells.spelled ∙ is)

-- nor do those behind whose head no frames stand
pub no_frames : (head : Head) (bytes rest : List ℕ) (kept : Asking) → HeadOf head bytes rest → ((all : List Frame) → AreFrames rest all → ⊥) → SpellsKept bytes kept → ⊥
no_frames head bytes rest kept is none spells =
    none (frames_of kept spells.asking) (record { each = spells.frames; spelled = sym (same_head head bytes rest kept is spells).rest_is })

-- what the bytes keep the head and the frames do
kept_by : (head : Head) (bytes rest : List ℕ) (all : List Frame) (kept : Asking) → HeadOf head bytes rest → AreFrames rest all → SpellsKept bytes kept → IsKeptBy head all kept
kept_by head bytes rest all kept is are spells =
    let same = same_head head bytes rest kept is spells in
    record {
      whose = same.session_is;
      asks_are = same.asks_are;
      begun_is = same.begun_is;
      asked_within = spells.asked;
      server_is = same.server_is;
      asking = spells.asking;
      asked = spells.asks;
      frames_are = one_spelling all (frames_of kept spells.asking) are.each spells.frames (sym are.spelled ∙ sym same.rest_is);
    }

-- and what these keep the bytes do
spells_by : (head : Head) (bytes rest : List ℕ) (all : List Frame) (kept : Asking) → HeadOf head bytes rest → AreFrames rest all → IsKeptBy head all kept → SpellsKept bytes kept
spells_by head bytes rest all kept is are by = record {
  begun = subst (λ n. n ≤ MAX_PLACES) (sym by.begun_is) head.within;
  asked = by.asked_within;
  asking = by.asking;
  asks = by.asked;
  frames = subst (AllByRecursion IsFrame) by.frames_are are.each;
  spelled = is ∙ heads ∙ ap (λ r. head_bytes kept.session.id.index kept.session.asks kept.session.begun (server_of kept.asked) ++ r) (are.spelled ∙ ap spellings by.frames_are);
}
  where
    heads : head_bytes head.session.index head.asks head.begun head.server ++ rest ≡ head_bytes kept.session.id.index kept.session.asks kept.session.begun (server_of kept.asked) ++ rest
    heads =
        ap (λ n. head_bytes n head.asks head.begun head.server ++ rest) (sym by.whose)
        ∙ ap (λ a. head_bytes kept.session.id.index a head.begun head.server ++ rest) (sym by.asks_are)
        ∙ ap (λ n. head_bytes kept.session.id.index kept.session.asks n head.server ++ rest) (sym by.begun_is)
        ∙ ap (λ s. head_bytes kept.session.id.index kept.session.asks kept.session.begun s ++ rest) (sym by.server_is)

-- what a reader of the frames told, in a run
abbrev pub ReadsFrames : (run : ℕ) → Head → List Frame → Option Asking → Type 0
ReadsFrames run head all told = MatchOption told ((kept : Asking) → IsKeptBy head all kept → ⊥) (λ kept. IsKeptBy head all kept × (in_run run kept ≡ kept))

pub told_of : (run : ℕ) (head : Head) (bytes rest : List ℕ) (all : List Frame) (told : Option Asking) → HeadOf head bytes rest → AreFrames rest all → ReadsFrames run head all told
    → MatchOption told ((kept : Asking) → SpellsKept bytes kept → ⊥) (λ kept. SpellsKept bytes kept)
told_of run head bytes rest all None is are none = λ kept spells. none kept (kept_by head bytes rest all kept is are spells)
told_of run head bytes rest all (Some kept) is are some = spells_by head bytes rest all kept is are some.0

pub again_of : (run : ℕ) (head : Head) (bytes rest : List ℕ) (all : List Frame) (told : Option Asking) → HeadOf head bytes rest → AreFrames rest all → ReadsFrames run head all told
    → (kept : Asking) → SpellsKept bytes kept → told ≡ Some (in_run run kept)
again_of run head bytes rest all None is are none kept spells = absurd (none kept (kept_by head bytes rest all kept is are spells))
again_of run head bytes rest all (Some one) is are some kept spells =
    ap (λ k. Some k) (sym some.1 ∙ one_kept run bytes one kept (spells_by head bytes rest all one is are some.0) spells)

-- the same of a reader whose run is the session's own
pub in_any_run : (run : ℕ) (head : Head) (all : List Frame) (told : Option Asking)
    → MatchOption told ((kept : Asking) → IsKeptBy head all kept → ⊥) (λ kept. IsKeptBy head all kept × ((own : ℕ) → in_run own kept ≡ kept)) → ReadsFrames run head all told
in_any_run run head all None none = none
in_any_run run head all (Some kept) some = (some.0, some.1 run)

-- Bytes keep one session at the most, but for its run, where it has nothing to ask again.
use Rattle.bayou_client.specs.Operating.{Asking}
use Rattle.std.proofs.Common.{arith, ◌≡◌, ℕ, List, [], ◌∷◌, length, Option, None, Some, refl, sym, ap, ◌∙◌}
use Rattle.std.specs.List.{AllByRecursion}
use Rattle.bayou_base.specs.declared.asks.Asks.{Asks}
use Rattle.bayou_base.specs.declared.session.SessionId.{SessionId}
use Rattle.bayou_base.specs.declared.tag.Tag.{Tag}
use Rattle.bayou_client.specs.declared.asker.Asked.{Asked}
use Rattle.bayou_remember.specs.Spelling.{AreAskedFrames, SpellsKept, frames_of, in_run, run_in, server_of}
use Rattle.bayou_remember.proofs.Heads.{one_head, session_ext}
use Rattle.bayou_session.specs.Needs.{Told}
use Rattle.bayou_wire.specs.Laws.Frames.{begins_one, frames_size}
use Rattle.bayou_wire.specs.Spelling.{IsFrame}
use Rattle.bayou_wire.specs.Stream.{spellings}
use Rattle.bayou_wire.specs.declared.frame.Frame.{Frame}
use Rattle.bayou_wire.specs.declared.frame.Frame.TheVariants as frames

-- no frames are spelled as some
none_as_some : (frame : Frame) (more : List Frame) → spellings (frame ∷ more) ≡ [] → ⊥
none_as_some frame more same = omega (arith, frames_size (frame ∷ more), ap length same)

-- frames that have a spelling are spelled in one way
pub one_spelling : (xs ys : List Frame) → AllByRecursion IsFrame xs → AllByRecursion IsFrame ys → spellings xs ≡ spellings ys → xs ≡ ys
one_spelling [] [] are_xs are_ys same = refl
one_spelling [] (y ∷ ys) are_xs are_ys same = absurd (none_as_some y ys (sym same))
one_spelling (x ∷ xs) [] are_xs are_ys same = absurd (none_as_some x xs same)
one_spelling (x ∷ xs) (y ∷ ys) are_xs are_ys same =
    let first = begins_one x y (spellings xs) (spellings ys) are_xs.0 are_ys.0 same in
    let x_is = first.0 in
    let rest = one_spelling xs ys are_xs.1 are_ys.1 first.1 in
    cc

-- what two sessions may ask again is one
record SameAsked (one other : Told) (asked what : Option Asked) : Type 0 where
  pub asked_is : one.asked ≡ other.asked
  pub what_is : asked ≡ what
  pub run_is : (run : ℕ) → run_in run one.asked one.run ≡ run_in run other.asked other.run

one_asked : (one other : Told) (asked what : Option Asked) (xs ys : List Frame) → AreAskedFrames one asked xs → AreAskedFrames other what ys → xs ≡ ys → server_of asked ≡ server_of what
    → SameAsked one other asked what
one_asked one other None None xs ys are_xs are_ys same at = record {
  asked_is = are_xs.0 ∙ sym are_ys.0;
  what_is = refl;
  run_is = λ run. ap (λ a. run_in run a one.run) are_xs.0 ∙ sym (ap (λ a. run_in run a other.run) are_ys.0);
}
one_asked one other None (Some what) xs ys are_xs are_ys same at = absurd cc
one_asked one other (Some asked) None xs ys are_xs are_ys same at = absurd cc
one_asked one other (Some asked) (Some what) xs ys a b same at =
    let requests : frames.Write a.1 a.2 asked.program ∷ [] ≡ frames.Write b.1 b.2 what.program ∷ [] = sym a.5 ∙ same ∙ b.5 in
    let tags : a.1 ≡ b.1 = cc in
    let programs : asked.program ≡ what.program = cc in
    let servers : asked.server ≡ what.server = cc in
    let numbers : a.0 ≡ b.0 = sym a.4.2 ∙ ap (λ (t : Tag). t.number) tags ∙ b.4.2 in
    let runs : one.run ≡ other.run = sym a.4.1 ∙ ap (λ (t : Tag). t.run) tags ∙ b.4.1 in
    let same_server : ◌≡◌ {A = Option Asked} (Some asked) (Some (record { server = what.server; program = asked.program })) = ap (λ s. Some (record { server = s; program = asked.program })) servers in
    let same_program : ◌≡◌ {A = Option Asked} (Some (record { server = what.server; program = asked.program })) (Some what) = ap (λ p. Some (record { server = what.server; program = p })) programs in
    record {
      asked_is = a.3 ∙ ap (λ n. Some n) numbers ∙ sym b.3;
      what_is = same_server ∙ same_program;
      run_is = λ run. ap (λ o. run_in run o one.run) a.3 ∙ runs ∙ sym (ap (λ o. run_in run o other.run) b.3);
    }

-- of the same parts one is kept
of_the_same : (made : SessionId → Asks → ℕ → ℕ → Option ℕ → List ℕ → List ℕ → Option Asked → Asking) (id who : SessionId) → id ≡ who → (asks more : Asks) → asks ≡ more → (run go : ℕ) → run ≡ go
    → (begun place : ℕ) → begun ≡ place → (asked number : Option ℕ) → asked ≡ number → (reads seen : List ℕ) → reads ≡ seen → (writes wrote : List ℕ) → writes ≡ wrote → (what again : Option Asked) → what ≡ again
    → made id asks run begun asked reads writes what ≡ made who more go place number seen wrote again
of_the_same made id who ids asks more asking run go runs begun place places asked number numbers reads seen read writes wrote written what again is = cc

-- what bytes keep is one, in a run
pub one_kept : (run : ℕ) (bytes : List ℕ) (one other : Asking) → SpellsKept bytes one → SpellsKept bytes other → in_run run one ≡ in_run run other
one_kept run bytes one other spells tells =
    let head = one_head one.session.id.index other.session.id.index one.session.asks other.session.asks one.session.begun other.session.begun (server_of one.asked) (server_of other.asked)
    (spellings (frames_of one spells.asking)) (spellings (frames_of other tells.asking)) spells.begun tells.begun (sym spells.spelled ∙ tells.spelled) in
    let all : frames_of one spells.asking ≡ frames_of other tells.asking = one_spelling (frames_of one spells.asking) (frames_of other tells.asking) spells.frames tells.frames head.rest_is in
    let reads : one.session.reads ≡ other.session.reads = cc in
    let writes : one.session.writes ≡ other.session.writes = cc in
    let asking : spells.asking ≡ tells.asking = cc in
    let ids = session_ext one.session.id other.session.id head.session_is in
    let again = one_asked one.session other.session one.asked other.asked spells.asking tells.asking spells.asks tells.asks asking head.server_is in
    of_the_same (λ id asks place begun asked reads writes what. record { session = record { id = id; asks = asks; run = place; begun = begun; asked = asked; reads = reads; writes = writes }; asked = what })
    one.session.id other.session.id ids one.session.asks other.session.asks head.asks_are
    (run_in run one.session.asked one.session.run) (run_in run other.session.asked other.session.run) (again.run_is run)
    one.session.begun other.session.begun head.begun_is one.session.asked other.session.asked again.asked_is
    one.session.reads other.session.reads reads one.session.writes other.session.writes writes one.asked other.asked again.what_is

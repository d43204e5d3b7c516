-- The last of each session, one entry behind another.
use Rattle.bayou_client.specs.Operating.{Asking}
use Rattle.std.proofs.Common.{arith, ◌≡◌, ◌≢◌, ℕ, ◌<◌, true, false, eqb, List, [], ◌∷◌, ◌++◌, Option, None, Some, zero, suc, ◌+◌, length, get_or, set, take, append_assoc, refl, sym, ap, subst, ◌∙◌}
use Rattle.std.specs.List.{AllByRecursion, AllZip, slice_get}
use Rattle.std.specs.Prelude.{IfSome, map, replicate}
use Rattle.std.proofs.lemmas.Bool.{eqb-true, eqb-false}
use Rattle.std.proofs.lemmas.List.{length-set, get_or-set_same, get_or-set_other, get_or-replicate, take_more}
use Rattle.std.proofs.lemmas.Option.{get_or_from_slice_get, same_Some, slice_get-get_or}
use Rattle.bayou_base.specs.declared.limits.TheConstants.{SESSIONS}
use Rattle.bayou_journal.specs.Versions.{Body}
use Rattle.bayou_remember.specs.Memory.{AreLast, AreSpelled, IsKeptIn, IsLastOf, KeepsNothing, Remembers}
use Rattle.bayou_remember.specs.Spelling.{SpellsKept, in_run}

-- ---- lists

pub zip_more : {A B : Type 0} (R : A → B → Type 0) (xs : List A) (ys : List B) (x : A) (y : B) → AllZip R xs ys → R x y → AllZip R (xs ++ x ∷ []) (ys ++ y ∷ [])
zip_more R [] [] x y all one = (one, tt)
zip_more R [] (b ∷ ys) x y all one = absurd all
zip_more R (a ∷ xs) [] x y all one = absurd all
zip_more R (a ∷ xs) (b ∷ ys) x y (first, all) one = (first, zip_more R xs ys x y all one)

all_more : {A : Type 0} (P : A → Type 0) (xs : List A) (x : A) → AllByRecursion P xs → P x → AllByRecursion P (xs ++ x ∷ [])
all_more P [] x all one = (one, tt)
all_more P (a ∷ xs) x (first, all) one = (first, all_more P xs x all one)

-- ---- the last

-- where no more is known of another session, its last is as before
last_before : (session : ℕ) (all : List Asking) (kept : Asking) (last : Option Asking) → kept.session.id.index ≢ session → IsLastOf session all last → IsLastOf session (all ++ kept ∷ []) last
last_before session all kept None another none = all_more (λ other. other.session.id.index ≢ session) all kept none another
last_before session all kept (Some last) another is = (
  is.0,
  is.1 ++ kept ∷ [],
  ap (λ xs. xs ++ kept ∷ []) is.2 ∙ append_assoc is.0 (last ∷ is.1) (kept ∷ []),
  is.3,
  all_more (λ other. other.session.id.index ≢ session) is.1 kept is.4 another,
)

if_some : {A : Type 0} (P Q : A → Type 0) (o : Option A) → ((a : A) → P a → Q a) → IfSome o P → IfSome o Q
if_some P Q None on has = tt
if_some P Q (Some a) on has = on a has

-- what is in a list is there
there : {A : Type 0} (xs : List A) (at : ℕ) (x : A) → at < length xs → get_or xs at x ≡ x → slice_get xs at ≡ Some x
there xs at x within is = slice_get-get_or xs at x within ∙ ap (λ a. Some a) is

-- another place of a list is as it was
elsewhere : {A : Type 0} (xs : List A) (at other : ℕ) (x : A) → other ≢ at → other < length xs → slice_get (set xs at x) other ≡ slice_get xs other
elsewhere xs at other x another within =
    slice_get-get_or (set xs at x) other x (omega (arith, length-set xs at x, within))
    ∙ ap (λ a. Some a) (get_or-set_other xs at other x x another) ∙ sym (slice_get-get_or xs other x within)

-- one more is kept: it is the last of its session, and those of others stay
pub one_more_last : (all : List Asking) (kept : Asking) (before : List (Option Asking)) → AreLast all before → kept.session.id.index < SESSIONS
    → AreLast (all ++ kept ∷ []) (set before kept.session.id.index (Some kept))
one_more_last all kept before last within = record {
  one_each = length-set before kept.session.id.index (Some kept) ∙ last.one_each;
  is_last = λ session known.
      elim (eqb session kept.session.id.index) as (λ t. eqb session kept.session.id.index ≡ t → IfSome (slice_get (set before kept.session.id.index (Some kept)) session) (IsLastOf session (all ++ kept ∷ []))) [
        | true ↦ λ same. own session (eqb-true session kept.session.id.index same)
        | false ↦ λ other. others session known (eqb-false session kept.session.id.index other)
      ] refl;
}
  where
    own : (session : ℕ) → session ≡ kept.session.id.index → IfSome (slice_get (set before kept.session.id.index (Some kept)) session) (IsLastOf session (all ++ kept ∷ []))
    own session same =
        let fits : kept.session.id.index < length before = omega (arith, last.one_each, within) in
        let has : slice_get (set before kept.session.id.index (Some kept)) session ≡ Some (Some kept) =
        ap (slice_get (set before kept.session.id.index (Some kept))) same
        ∙ there (set before kept.session.id.index (Some kept)) kept.session.id.index (Some kept) (omega (arith, length-set before kept.session.id.index (Some kept), fits))
        (get_or-set_same before kept.session.id.index (Some kept) (Some kept) fits) in
        subst (λ o. IfSome o (IsLastOf session (all ++ kept ∷ []))) (sym has) (all, [], refl, sym same, tt)

    others : (session : ℕ) → session < SESSIONS → session ≢ kept.session.id.index → IfSome (slice_get (set before kept.session.id.index (Some kept)) session) (IsLastOf session (all ++ kept ∷ []))
    others session known another =
        subst (λ o. IfSome o (IsLastOf session (all ++ kept ∷ []))) (sym (elsewhere before kept.session.id.index session (Some kept) another (omega (arith, last.one_each, known))))
        (if_some (IsLastOf session all) (IsLastOf session (all ++ kept ∷ [])) (slice_get before session) (λ o is. last_before session all kept o (λ e. another (sym e)) is) (last.is_last session known))

-- nothing is kept of no session
pub none_last : AreLast [] (replicate SESSIONS None)
none_last = record {
  one_each = refl;
  is_last = λ session known. subst (λ o. IfSome o (IsLastOf session [])) (sym (there (replicate SESSIONS None) session None known (get_or-replicate SESSIONS session None None known))) tt;
}

-- what one body more keeps
pub one_more_remembered : (run : ℕ) (bodies : List Body) (body : Body) (kept : Asking) (before : List (Option Asking)) → Remembers run bodies before → IsKeptIn run body kept
    → kept.session.id.index < SESSIONS → Remembers run (bodies ++ body ∷ []) (set before kept.session.id.index (Some kept))
one_more_remembered run bodies body kept before so_far is within = record {
  all = so_far.all ++ kept ∷ [];
  each = zip_more (IsKeptIn run) bodies so_far.all body kept so_far.each is;
  last = one_more_last so_far.all kept before so_far.last within;
}

-- the body at a place that there is
record BodyAt (bodies : List Body) (at : ℕ) (bytes : List ℕ) : Type 0 where
  pub body : Body
  pub at_is : slice_get bodies at ≡ Some body
  pub bytes_are : bytes ≡ body.bytes

body_at : (bodies : List Body) (at : ℕ) (bytes : List ℕ) → at < length bodies → IfSome (slice_get bodies at) (λ body. bytes ≡ body.bytes) → BodyAt bodies at bytes
body_at [] at bytes within is = absurd (omega arith)
body_at (body ∷ bodies) zero bytes within is = record { body = body; at_is = refl; bytes_are = is }
body_at (body ∷ bodies) (suc at) bytes within is =
    let next = body_at bodies at bytes (omega arith) is in
    record { body = next.body; at_is = next.at_is; bytes_are = next.bytes_are }

pub keeps_nothing : (bodies : List Body) (at : ℕ) (bytes : List ℕ) → at < length bodies → IfSome (slice_get bodies at) (λ body. bytes ≡ body.bytes) → ((kept : Asking) → SpellsKept bytes kept → ⊥)
    → KeepsNothing bodies at
keeps_nothing bodies at bytes within is none =
    let it = body_at bodies at bytes within is in
    (it.body, it.at_is, λ kept spells. none kept (subst (λ bs. SpellsKept bs kept) (sym it.bytes_are) spells))

pub one_body_more : (run : ℕ) (bodies : List Body) (at : ℕ) (bytes : List ℕ) (kept : Asking) (before : List (Option Asking)) (place : ℕ) → at < length bodies
    → IfSome (slice_get bodies at) (λ body. bytes ≡ body.bytes) → Remembers run (take at bodies) before → SpellsKept bytes kept
    → ((other : Asking) → SpellsKept bytes other → Some kept ≡ Some (in_run run other)) → place ≡ kept.session.id.index → Remembers run (take (at + 1) bodies) (set before place (Some kept))
one_body_more run bodies at bytes kept before place within is so_far spells again here =
    let it = body_at bodies at bytes within is in
    let kept_in : IsKeptIn run it.body kept = record { spelled = subst (λ bs. SpellsKept bs kept) it.bytes_are spells; goes_on = sym (same_Some kept (in_run run kept) (again kept spells)) } in
    let more : take (at + 1) bodies ≡ take at bodies ++ it.body ∷ [] =
    take_more bodies at it.body within ∙ ap (λ b. take at bodies ++ b ∷ []) (get_or_from_slice_get bodies at it.body it.body it.at_is) in
    rw (more, here) (one_more_remembered run (take at bodies) it.body kept before so_far kept_in kept.session.id.in_range)

-- ---- bodies that keep these

abbrev pub KeepOne : Type 0
KeepOne = (run : ℕ) (bytes : List ℕ) (one other : Asking) → SpellsKept bytes one → SpellsKept bytes other → in_run run one ≡ in_run run other

-- what bodies keep in a run is one
pub one_in_run : KeepOne → (run : ℕ) (bodies : List Body) (told all : List Asking) → AllZip (IsKeptIn run) bodies told → AreSpelled bodies all → told ≡ map (in_run run) all
one_in_run law run [] [] [] each spelled = refl
one_in_run law run [] [] (kept ∷ all) each spelled = absurd spelled
one_in_run law run [] (one ∷ told) all each spelled = absurd each
one_in_run law run (body ∷ bodies) [] all each spelled = absurd each
one_in_run law run (body ∷ bodies) (one ∷ told) [] each spelled = absurd spelled
one_in_run law run (body ∷ bodies) (one ∷ told) (kept ∷ all) each spelled =
    let first : one ≡ in_run run kept = sym each.0.goes_on ∙ law run body.bytes one kept each.0.spelled spelled.0 in
    let rest = one_in_run law run bodies told all each.1 spelled.1 in
    ap (λ k. k ∷ told) first ∙ ap (λ l. in_run run kept ∷ l) rest

-- so of each session the last of them is told
pub last_in_run : KeepOne → (run : ℕ) (bodies : List Body) (told : List (Option Asking)) (all : List Asking) → Remembers run bodies told → AreSpelled bodies all → AreLast (map (in_run run) all) told
last_in_run law run bodies told all remembers spelled = subst (λ l. AreLast l told) (one_in_run law run bodies remembers.all all remembers.each spelled) remembers.last

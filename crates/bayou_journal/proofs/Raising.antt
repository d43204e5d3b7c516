-- What bodies tell behind others, and what raising a chain to the newest version does to it.
use Rattle.std.proofs.Common.{◌≡◌, ℕ, ◌<◌, ◌≤◌, Bool, true, false, cond, List, [], ◌∷◌, ◌++◌, Option, None, Some, map, refl, sym, ◌∙◌, ap, arith, subst}
use Rattle.std.specs.Prelude.{◌==◌, unwrap_or}
use Rattle.std.specs.Option.{option_map_or}
use Rattle.std.proofs.lemmas.Bool.{eqb-true}
use Rattle.std.proofs.lemmas.List.{append-nil}
use Rattle.bayou_journal.specs.Chain.{AreBodies, IsBody, entry, link}
use Rattle.bayou_journal.specs.Laws.Chain.{AreBodies-push, chain_end-push, journal-push}
use Rattle.bayou_journal.specs.Inner.Heads.{raised_link}
use Rattle.bayou_journal.specs.Opening.{mark_for}
use Rattle.bayou_journal.specs.Versions.{Body, IsVersion, IsVersionOf, Records, bodies_in, body_in, end_of, journal_of, marked, newest_mark, raised, told, version_behind, version_of}
use Rattle.bayou_journal.specs.declared.format.TheConstants.{NEWEST_VERSION}

-- a body behind others is told behind them, in the version that these leave
pub told-push : (version : ℕ) (bodies : List (List ℕ)) (body : List ℕ) → marked (version_behind version bodies) body ≡ None
    → told version (bodies ++ body ∷ []) ≡ told version bodies ++ body_in (version_behind version bodies) body ∷ []
told-push version [] body plain = ap (λ (m : Option ℕ). option_map_or (λ later. told later []) m (body_in version body ∷ [])) plain
told-push version (first ∷ bodies) body plain =
    elim (marked version first) as (λ m. marked (version_behind (unwrap_or m version) bodies) body ≡ None
    → option_map_or (λ later. told later (bodies ++ body ∷ [])) m (body_in version first ∷ told version (bodies ++ body ∷ []))
    ≡ option_map_or (λ later. told later bodies) m (body_in version first ∷ told version bodies) ++ body_in (version_behind (unwrap_or m version) bodies) body ∷ []) [
      | Some later ↦ λ p. told-push later bodies body p
      | None ↦ λ p. ap (λ (l : List Body). body_in version first ∷ l) (told-push version bodies body p)
    ] plain

-- a mark behind them tells nothing
pub told-mark : (version : ℕ) (bodies : List (List ℕ)) (body : List ℕ) (later : ℕ) → marked (version_behind version bodies) body ≡ Some later
    → told version (bodies ++ body ∷ []) ≡ told version bodies
told-mark version [] body later mark = ap (λ (m : Option ℕ). option_map_or (λ later. told later []) m (body_in version body ∷ [])) mark
told-mark version (first ∷ bodies) body later mark =
    elim (marked version first) as (λ m. marked (version_behind (unwrap_or m version) bodies) body ≡ Some later
    → option_map_or (λ later. told later (bodies ++ body ∷ [])) m (body_in version first ∷ told version (bodies ++ body ∷ []))
    ≡ option_map_or (λ later. told later bodies) m (body_in version first ∷ told version bodies)) [
      | Some other ↦ λ p. told-mark other bodies body later p
      | None ↦ λ p. ap (λ (l : List Body). body_in version first ∷ l) (told-mark version bodies body later p)
    ] mark

-- and the version behind it is the one that it marks, if it marks one
pub version_behind-push : (version : ℕ) (bodies : List (List ℕ)) (body : List ℕ) → version_behind version (bodies ++ body ∷ []) ≡ unwrap_or (marked (version_behind version bodies) body) (version_behind version bodies)
version_behind-push version [] body = refl
version_behind-push version (first ∷ bodies) body = version_behind-push (unwrap_or (marked version first) version) bodies body

-- bodies behind others are told behind them
pub told-append : (version : ℕ) (bodies more : List (List ℕ)) → told version (bodies ++ more) ≡ told version bodies ++ told (version_behind version bodies) more
told-append version [] more = refl
told-append version (first ∷ bodies) more =
    elim (marked version first) as (λ m. option_map_or (λ later. told later (bodies ++ more)) m (body_in version first ∷ told version (bodies ++ more))
    ≡ option_map_or (λ later. told later bodies) m (body_in version first ∷ told version bodies) ++ told (version_behind (unwrap_or m version) bodies) more) [
      | Some later ↦ told-append later bodies more
      | None ↦ ap (λ (l : List Body). body_in version first ∷ l) (told-append version bodies more)
    ]

-- no body marks a later version than the newest
pub marked-newest : (body : List ℕ) → marked NEWEST_VERSION body ≡ None
marked-newest [] = refl
marked-newest (mark ∷ []) = grind arith
marked-newest (first ∷ second ∷ others) = refl

-- and the newest version's mark marks it in every earlier one
pub marked-mark : (version : ℕ) → version < NEWEST_VERSION → marked version newest_mark ≡ Some NEWEST_VERSION
marked-mark version before = grind arith

pub is_newest : IsVersion NEWEST_VERSION
is_newest = (omega arith, omega arith)

-- which each server's journal may have
pub newest_of : (server : ℕ) → IsVersionOf server NEWEST_VERSION
newest_of server = (is_newest, λ before. absurd (omega (arith, before)))

-- a body leads to no version that there isn't
pub leads_within : (version : ℕ) (body : List ℕ) → IsVersion version → IsVersion (unwrap_or (marked version body) version)
leads_within version [] known = known
leads_within version (mark ∷ []) known = grind (arith, known)
leads_within version (first ∷ second ∷ others) known = known

pub version_within : (version : ℕ) (bodies : List (List ℕ)) → IsVersion version → IsVersion (version_behind version bodies)
version_within version [] known = known
version_within version (body ∷ bodies) known = version_within (unwrap_or (marked version body) version) bodies (leads_within version body known)

pub mark_is_body : IsBody newest_mark
mark_is_body = record { some = omega arith; within = omega arith }

-- the records, and the mark behind them
abbrev pub with_mark : Records → Records
with_mark records = record records { bodies = records.bodies ++ newest_mark ∷ [] }

-- whether the mark is missing
pub data Raising (server : ℕ) (records : Records) : Type 0 where
  stays : version_of records ≡ NEWEST_VERSION → raised records ≡ records → mark_for server records ≡ [] → raised_link (version_of records) (end_of server records) ≡ end_of server records → Raising server records
  marks : version_of records < NEWEST_VERSION → raised records ≡ with_mark records → mark_for server records ≡ entry (end_of server records) newest_mark
      → raised_link (version_of records) (end_of server records) ≡ link (end_of server records) newest_mark → Raising server records

pub raising : (server : ℕ) (records : Records) → IsVersion records.version → Raising server records
raising server records known = by (version_of records == NEWEST_VERSION) refl
  where
    within : IsVersion (version_of records)
    within = version_within records.version records.bodies known

    other : (n : ℕ) → n ≤ NEWEST_VERSION → (n == NEWEST_VERSION) ≡ false → n < NEWEST_VERSION
    other n le e = grind (arith, e)

    last : List ℕ
    last = end_of server records

    by : (b : Bool) → (version_of records == NEWEST_VERSION) ≡ b → Raising server records
    by true e = stays (eqb-true (version_of records) NEWEST_VERSION e) (ap (λ (b : Bool). cond b records (with_mark records)) e) (ap (λ (b : Bool). cond b [] (entry last newest_mark)) e)
        (ap (λ (b : Bool). cond b last (link last newest_mark)) e)
    by false e = marks (other (version_of records) within.1 e) (ap (λ (b : Bool). cond b records (with_mark records)) e) (ap (λ (b : Bool). cond b [] (entry last newest_mark)) e)
        (ap (λ (b : Bool). cond b last (link last newest_mark)) e)

pub tells-mark : (records : Records) → version_of records < NEWEST_VERSION → bodies_in (with_mark records) ≡ bodies_in records
tells-mark records before = told-mark records.version records.bodies newest_mark NEWEST_VERSION (marked-mark (version_of records) before)

pub newest-mark : (records : Records) → version_of records < NEWEST_VERSION → version_of (with_mark records) ≡ NEWEST_VERSION
newest-mark records before =
    version_behind-push records.version records.bodies newest_mark
    ∙ ap (λ (m : Option ℕ). unwrap_or m (version_of records)) (marked-mark (version_of records) before)

-- what raising does to what is told, to the version, and to the bytes
pub record IsRaised (server : ℕ) (records : Records) : Type 0 where
  pub tells : bodies_in (raised records) ≡ bodies_in records
  pub newest : version_of (raised records) ≡ NEWEST_VERSION
  pub known : IsVersionOf server (raised records).version
  pub sizes : AreBodies (raised records).bodies
  pub whole : journal_of server (raised records) ≡ journal_of server records ++ mark_for server records
  pub ends : raised_link (version_of records) (end_of server records) ≡ end_of server (raised records)

pub is_raised : (server : ℕ) (records : Records) → IsVersionOf server records.version → AreBodies records.bodies → IsRaised server records
is_raised server records known sizes = by (raising server records known.0)
  where
    by : Raising server records → IsRaised server records
    by (stays newest is none same) = record {
      tells = ap bodies_in is;
      newest = ap version_of is ∙ newest;
      known = subst (λ (r : Records). IsVersionOf server r.version) (sym is) known;
      sizes = subst (λ (r : Records). AreBodies r.bodies) (sym is) sizes;
      whole = ap (journal_of server) is ∙ sym (append-nil (journal_of server records)) ∙ ap (λ (l : List ℕ). journal_of server records ++ l) (sym none);
      ends = same ∙ sym (ap (end_of server) is);
    }
    by (marks before is mark next) = record {
      tells = ap bodies_in is ∙ tells-mark records before;
      newest = ap version_of is ∙ newest-mark records before;
      known = subst (λ (r : Records). IsVersionOf server r.version) (sym is) known;
      sizes = subst (λ (r : Records). AreBodies r.bodies) (sym is) (AreBodies-push records.bodies newest_mark sizes mark_is_body);
      whole = ap (journal_of server) is ∙ journal-push records.version server records.bodies newest_mark ∙ ap (λ (l : List ℕ). journal_of server records ++ l) (sym mark);
      ends = next ∙ sym (ap (end_of server) is ∙ chain_end-push records.version server records.bodies newest_mark);
    }

-- one body more, behind the newest version
pub record IsPushed (records : Records) (body : List ℕ) : Type 0 where
  pub tells : bodies_in (record records { bodies = records.bodies ++ body ∷ [] }) ≡ bodies_in records ++ body_in NEWEST_VERSION body ∷ []
  pub newest : version_of (record records { bodies = records.bodies ++ body ∷ [] }) ≡ NEWEST_VERSION

pub is_pushed : (records : Records) (body : List ℕ) → version_of records ≡ NEWEST_VERSION → IsPushed records body
is_pushed records body newest =
    let plain : marked (version_of records) body ≡ None = ap (λ (v : ℕ). marked v body) newest ∙ marked-newest body in
    record {
      tells = told-push records.version records.bodies body plain ∙ ap (λ (v : ℕ). bodies_in records ++ body_in v body ∷ []) newest;
      newest = version_behind-push records.version records.bodies body ∙ ap (λ (m : Option ℕ). unwrap_or m (version_of records)) plain ∙ newest;
    }

-- a chain at the newest version lacks no mark
pub lacks_none : (server : ℕ) (records : Records) → version_of records ≡ NEWEST_VERSION → mark_for server records ≡ []
lacks_none server records newest = ap (λ (v : ℕ). cond (v == NEWEST_VERSION) [] (entry (end_of server records) newest_mark)) newest

-- behind the newest version stands no other
pub newest_stays : (bodies : List (List ℕ)) → version_behind NEWEST_VERSION bodies ≡ NEWEST_VERSION
newest_stays [] = refl
newest_stays (body ∷ bodies) = ap (λ (m : Option ℕ). version_behind (unwrap_or m NEWEST_VERSION) bodies) (marked-newest body) ∙ newest_stays bodies

-- one body that is no mark
pub told-one : (version : ℕ) (body : List ℕ) → marked version body ≡ None → told version (body ∷ []) ≡ body_in version body ∷ []
told-one version body plain = told-push version [] body plain

-- what is told are some of the bodies
pub told_are_bodies : (version : ℕ) (bodies : List (List ℕ)) → AreBodies bodies → AreBodies (map (λ (body : Body). body.bytes) (told version bodies))
told_are_bodies version [] are = tt
told_are_bodies version (first ∷ bodies) are =
    elim (marked version first) as (λ m. AreBodies (map (λ (body : Body). body.bytes) (option_map_or (λ later. told later bodies) m (body_in version first ∷ told version bodies)))) [
      | Some later ↦ told_are_bodies later bodies are.1
      | None ↦ (are.0, told_are_bodies version bodies are.1)
    ]

-- Servers as they are started: first, and again.
use Rattle.std.proofs.Common.{◌≡◌, inl, inr, ℕ, ◌+◌, List, [], ◌∷◌, ◌++◌, get_or, ap, sym, ◌∙◌, subst, arith, length-append, length, take, refl, ◌≤◌, zero, suc}
use Rattle.std.proofs.lemmas.Bool.{cases_lt}
use Rattle.std.proofs.lemmas.List.{get_or_append_left, get_or_push}
use Rattle.bayou_server.specs.Server.{Core, Holds, holds_of}
use Rattle.bayou_world.specs.declared.world_server.WorldServer.{WorldServer}
use Rattle.bayou_world.specs.declared.role.Role.{Role}
use Rattle.bayou_world.specs.Faults.{number_at, tells_fault, tells_fuse}
use Rattle.bayou_world.specs.Inner.Beginning.{AreStarted}
use Rattle.bayou_world.specs.Inner.Charges.{AreCharged, IsUnused}
use Rattle.bayou_world.specs.Inner.WorldServers.{IsFresh, device_of}

-- what is true of a server's role, is true of the server
pub of_role : (P : (id count limit : ℕ) → Type 0) (role : Role) (core : Core) → role.id.index ≡ core.id → role.count ≡ core.count → role.limit ≡ core.limit → P role.id.index role.count role.limit → P core.id core.count core.limit
of_role P role core id count limit is =
    subst (λ n. P core.id core.count n) limit (subst (λ n. P core.id n role.limit) count (subst (λ n. P n role.count role.limit) id is))

-- a server is its parts
pub same_parts : (id count limit : ℕ) (last : Holds) (core : Core) → id ≡ core.id → count ≡ core.count → limit ≡ core.limit → last ≡ holds_of core
    → record { id = id; count = count; limit = limit; held = last.held; tags = last.tags; doubt = last.doubt; doubt_tag = last.doubt_tag } ≡ core
same_parts id count limit last core same_id same_count same_limit same =
    ap (λ n. record { id = n; count = count; limit = limit; held = last.held; tags = last.tags; doubt = last.doubt; doubt_tag = last.doubt_tag }) same_id
    ∙ ap (λ n. record core { count = n; limit = limit; held = last.held; tags = last.tags; doubt = last.doubt; doubt_tag = last.doubt_tag }) same_count
    ∙ ap (λ n. record core { limit = n; held = last.held; tags = last.tags; doubt = last.doubt; doubt_tag = last.doubt_tag }) same_limit
    ∙ ap (λ (h : Holds). record core { held = h.held; tags = h.tags; doubt = h.doubt; doubt_tag = h.doubt_tag }) same

-- one server more is started
pub started_more : (done count limit : ℕ) (servers : List WorldServer) (world_server : WorldServer) → AreStarted done count limit servers → IsFresh count limit done world_server → IsUnused (device_of world_server)
    → AreStarted (done + 1) count limit (servers ++ world_server ∷ [])
started_more done count limit servers world_server started fresh unused = record {
  many = omega (arith, length-append servers (world_server ∷ []), started.many);
  fresh = λ place d within. elim (cases_lt place done) as (λ _. IsFresh count limit place (get_or (servers ++ world_server ∷ []) place d)) [
    | inl before ↦
        subst (IsFresh count limit place) (sym (get_or_append_left servers (world_server ∷ []) d place (omega (arith, before, started.many)))) (started.fresh place d before)
    | inr past ↦
        let same : done ≡ place = omega (arith, within, past) in
        subst (λ n. IsFresh count limit n (get_or (servers ++ world_server ∷ []) n d)) same
        (subst (IsFresh count limit done) (sym (get_or_push servers world_server d done started.many)) fresh)
  ];
  unused = λ place d within. elim (cases_lt place done) as (λ _. IsUnused (device_of (get_or (servers ++ world_server ∷ []) place d))) [
    | inl before ↦
        subst (λ r. IsUnused (device_of r)) (sym (get_or_append_left servers (world_server ∷ []) d place (omega (arith, before, started.many)))) (started.unused place d before)
    | inr past ↦
        let same : done ≡ place = omega (arith, within, past) in
        subst (λ n. IsUnused (device_of (get_or (servers ++ world_server ∷ []) n d))) same
        (subst (λ r. IsUnused (device_of r)) (sym (get_or_push servers world_server d done started.many)) unused)
  ];
}

-- servers that were started have no fault, and no fuse
pub charged_first : (count limit : ℕ) (servers : List WorldServer) → AreStarted count count limit servers → AreCharged (length servers) [] [] servers
charged_first count limit servers started = record {
  as_many = refl;
  length_is = refl;
  now = λ place d within. started.unused place d (omega (arith, within, started.many));
  before = λ place at d within. none_told place at d;
}
  where
    none_told : (place at : ℕ) (d : WorldServer) → number_at tells_fault place (take at []) (take at []) ≤ number_at tells_fuse place (take at []) (take at []) + (device_of (get_or servers place d)).lacks
    none_told place zero d = omega arith
    none_told place (suc at) d = omega arith

-- The servers of a standing, each in its place.
use Rattle.std.proofs.Common.{◌≡◌, ℕ, zero, suc, ◌<◌, List, [], ◌∷◌, Some, set, length, map, get_or, ap, sym, ◌∙◌, subst, refl, arith}
use Rattle.std.proofs.lemmas.Option.{slice_get_read}
use Rattle.std.proofs.lemmas.List.{get_or_default, length-map, set-get_or}
use Rattle.std.specs.List.{insert, remove, slice_get}
use Rattle.std.specs.Global.{Vec}
use Rattle.bayou_judge.specs.History.{lists_of}
use Rattle.bayou_lang.specs.declared.write.Write.{Write}
use Rattle.bayou_machine.specs.ScriptServer.{held_by}
use Rattle.bayou_machine.specs.declared.script_server.ScriptServer.{ScriptServer}
use Rattle.bayou_machine.specs.Standing.{Standing, with_server}

-- the server that is found at its place stands there
pub stands_at : (replicas servers : List ScriptServer) (count place at : ℕ) (replica : ScriptServer) → replicas ≡ servers → length replicas ≡ count → at ≡ place
    → place < count → replica ≡ get_or replicas at replica → slice_get servers place ≡ Some replica
stands_at replicas servers count place at replica same many here within found =
    subst (λ (list : List ScriptServer). slice_get list place ≡ Some replica) same
    (slice_get_read replicas count place replica (sym many) within (found ∙ ap (λ i. get_or replicas i replica) here))

-- what is taken out of its place and put back there, changed
pub put_back : (replicas : List ScriptServer) (place : ℕ) (replica : ScriptServer) → place < length replicas → insert (remove replicas place) place replica ≡ set replicas place replica
put_back [] place replica within = absurd (omega arith)
put_back (first ∷ replicas) zero replica within = refl
put_back (first ∷ replicas) (suc place) replica within = ap (λ (list : List ScriptServer). first ∷ list) (put_back replicas place replica (omega arith))

-- a server that is put in its place again changes nothing
pub put_same : (replicas : List ScriptServer) (at : ℕ) (replica same : ScriptServer) → replica ≡ get_or replicas at replica → same ≡ replica → set replicas at same ≡ replicas
put_same replicas at replica same here is =
    ap (set replicas at) (is ∙ here) ∙ set-get_or replicas at replica

-- some server stands at a place that there is
pub one_stands : (replicas servers : List ScriptServer) (count place : ℕ) (default : ScriptServer) → replicas ≡ servers → length replicas ≡ count → place < count
    → slice_get servers place ≡ Some (get_or replicas place default)
one_stands replicas servers count place default same many within =
    stands_at replicas servers count place place (get_or replicas place default) same many refl within
    (sym (get_or_default replicas place (get_or replicas place default) default (omega (arith, many, within))))

-- nor in a standing
pub same_machine : (standing : Standing) (replicas : List ScriptServer) (place at : ℕ) (replica : ScriptServer) → replicas ≡ standing.servers → at ≡ place → replica ≡ get_or replicas at replica
    → standing ≡ with_server standing place replica
same_machine standing replicas place at replica servers here found =
    let same : set standing.servers place replica ≡ standing.servers =
    subst (λ (list : List ScriptServer). set list place replica ≡ list) servers
    (subst (λ i. set replicas i replica ≡ replicas) here (put_same replicas at replica replica found refl)) in
    ap (λ (list : List ScriptServer). record standing { servers = list }) (sym same)

-- there is a dump for each server
pub one_dump_each : (dumps : List (Vec Write)) (servers : List ScriptServer) → lists_of dumps ≡ map held_by servers → length dumps ≡ length servers
one_dump_each dumps servers same = sym (length-map dumps (λ (dump : Vec Write). dump.items)) ∙ ap length same ∙ length-map servers held_by

-- one server stands at a place
pub one_there : (servers : List ScriptServer) (place : ℕ) (one other : ScriptServer) → slice_get servers place ≡ Some one → slice_get servers place ≡ Some other → one ≡ other
one_there servers place one other first second = cc

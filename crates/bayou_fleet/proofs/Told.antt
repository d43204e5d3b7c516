-- What is told of the servers so far, and of one more.
use Rattle.std.proofs.Common.{◌≡◌, ◌∙◌, ◌+◌, ◌<◌, ◌≤◌, ℕ, zero, suc, List, [], ◌∷◌, ◌++◌, Option, None, IfSome, Result, Ok, Err, IfOk, ap, arith, get_or, length, map, refl, slice_get, subst, sym, take}
use Rattle.std.proofs.lemmas.List.{map-append, take_more}
use Rattle.std.proofs.lemmas.Option.{slice_get_read}
use Rattle.std.specs.Global.{Vec}
use Rattle.std.specs.List.{AllZip}
use Rattle.bayou_fleet.specs.Servers.{AreDumps, InOne, IsDump}
use Rattle.bayou_judge.specs.History.{lists_of}
use Rattle.bayou_lang.specs.declared.write.Write.{Write}
use Rattle.bayou_node.specs.Answers.{InSome}
use Rattle.bayou_node.specs.Books.{Begun}
use Rattle.bayou_server.specs.Server.{Core}
use Rattle.bayou_fleet.proofs.Answering.{AllZip-push}

one_more : {A : Type 0} (servers : List A) (at : ℕ) (server : A) → at < length servers → server ≡ get_or servers at server → take (at + 1) servers ≡ take at servers ++ server ∷ []
one_more {A} servers at server within read = take_more servers at server within ∙ ap (λ (s : A). take at servers ++ s ∷ []) (sym read)

pub told_more : {A B : Type 0} (R : A → B → Type 0) (servers : List A) (at : ℕ) (server : A) (told more : List B) (one : B) → at < length servers → server ≡ get_or servers at server
    → AllZip R (take at servers) told → R server one → more ≡ told ++ one ∷ [] → AllZip R (take (at + 1) servers) more
told_more {A} {B} R servers at server told more one within read all is pushed =
    subst (AllZip R (take (at + 1) servers)) (sym pushed)
    (subst (λ (xs : List A). AllZip R xs (told ++ one ∷ [])) (sym (one_more servers at server within read)) (AllZip-push R (take at servers) told server one all is))

lists_more : (dumps : List (Vec Write)) (dump : Vec Write) → lists_of (dumps ++ dump ∷ []) ≡ lists_of dumps ++ dump.items ∷ []
lists_more [] dump = refl
lists_more (first ∷ dumps) dump = ap (λ (l : List (List Write)). first.items ∷ l) (lists_more dumps dump)

-- one dump more
pub dumps_more : (servers : List Begun) (at : ℕ) (server : Begun) (dumps more : List (Vec Write)) (dump : Vec Write) → at < length servers → server ≡ get_or servers at server
    → AreDumps (take at servers) (lists_of dumps) → IsDump server dump.items → more ≡ dumps ++ dump ∷ [] → AreDumps (take (at + 1) servers) (lists_of more)
dumps_more servers at server dumps more dump within read all is pushed =
    told_more IsDump servers at server (lists_of dumps) (lists_of more) dump.items within read all is (ap lists_of pushed ∙ lists_more dumps dump)

-- one mailbox more
pub made_more : {S B : Type 0} (f : S → B) (servers : List S) (at : ℕ) (server : S) (made more : List B) (one : B) → at < length servers → server ≡ get_or servers at server
    → made ≡ map f (take at servers) → one ≡ f server → more ≡ made ++ one ∷ [] → more ≡ map f (take (at + 1) servers)
made_more {S} {B} f servers at server made more one within read is same pushed =
    pushed ∙ ap (λ (xs : List B). xs ++ one ∷ []) is ∙ ap (λ (x : B). map f (take at servers) ++ x ∷ []) same ∙ sym (map-append f (take at servers) (server ∷ []))
    ∙ ap (map f) (sym (one_more servers at server within read))

get_none : {A : Type 0} (servers : List A) (at : ℕ) → length servers ≤ at → slice_get servers at ≡ None
get_none [] at beyond = refl
get_none (server ∷ servers) zero beyond = absurd (omega (arith, beyond))
get_none (server ∷ servers) (suc at) beyond = get_none servers at (omega (arith, beyond))

-- what the server of this index tells of itself
pub told_of_one : {A F : Type 0} (servers : List Begun) (at : ℕ) (begun : Begun) (IsSo : A → Core → Type 0) (told : Result A F) → at < length servers → begun ≡ get_or servers at begun
    → IfOk told (λ a. InSome begun (IsSo a)) → IfOk told (λ a. InOne servers at (IsSo a))
told_of_one {A} {F} servers at begun IsSo (Err fault) within read so = tt
told_of_one {A} {F} servers at begun IsSo (Ok a) within read so =
    subst (λ (o : Option Begun). IfSome o (λ b. InSome b (IsSo a))) (sym (slice_get_read servers (length servers) at begun refl within read)) so

-- there is no such server
pub told_of_none : (servers : List Begun) (at : ℕ) (IsSo : Core → Type 0) → length servers ≤ at → InOne servers at IsSo
told_of_none servers at IsSo beyond = subst (λ (o : Option Begun). IfSome o (λ b. InSome b IsSo)) (sym (get_none servers at beyond)) tt

-- Servers that are started one after another.
use Rattle.std.proofs.Common.{◌≡◌, ℕ, ◌+◌, ◌<◌, List, [], ◌∷◌, ◌++◌, Some, length, inl, inr, ap, ◌∙◌, subst, arith}
use Rattle.std.proofs.lemmas.Bool.{cases_lt}
use Rattle.std.proofs.lemmas.List.{length_push, get_or_append_left, get_or_push}
use Rattle.std.proofs.lemmas.Option.{slice_get-get_or, get_or_from_slice_get, slice_get_within}
use Rattle.std.specs.List.{slice_get}
use Rattle.bayou_machine.specs.declared.script_server.ScriptServer.{ScriptServer}
use Rattle.bayou_machine.specs.ScriptServer.{IsBegun}

-- so many servers were started
pub record BegunSoFar (count limit done : ℕ) (replicas : List ScriptServer) : Type 0 where
  pub one_each : length replicas ≡ done
  pub started : (place : ℕ) → place < done → (replica : ScriptServer) × (slice_get replicas place ≡ Some replica) × IsBegun count limit place replica

slice_get-front : (replicas : List ScriptServer) (last replica : ScriptServer) (i : ℕ) → slice_get replicas i ≡ Some replica → slice_get (replicas ++ last ∷ []) i ≡ Some replica
slice_get-front replicas last replica i is =
    let within : i < length replicas = slice_get_within replicas i replica is in
    slice_get-get_or (replicas ++ last ∷ []) i replica (omega (arith, length_push replicas last))
    ∙ ap Some (get_or_append_left replicas (last ∷ []) replica i within ∙ get_or_from_slice_get replicas i replica replica is)

pub BegunSoFar-push : (count limit done : ℕ) (replicas : List ScriptServer) (replica : ScriptServer) → BegunSoFar count limit done replicas
    → IsBegun count limit done replica → BegunSoFar count limit (done + 1) (replicas ++ replica ∷ [])
BegunSoFar-push count limit done replicas replica so_far begun =
    let more = replicas ++ replica ∷ [] in
    let here : slice_get more done ≡ Some replica =
    slice_get-get_or more done replica (omega (arith, length_push replicas replica, so_far.one_each))
    ∙ ap Some (get_or_push replicas replica replica done so_far.one_each) in
    record {
      one_each = length_push replicas replica ∙ ap (λ n. n + 1) so_far.one_each;
      started = λ place within. elim (cases_lt place done) as (λ _. (started : ScriptServer) × (slice_get more place ≡ Some started) × IsBegun count limit place started) [
        | inl before ↦
            let (started, is, was) = so_far.started place before in (started, slice_get-front replicas replica started place is, was)
        | inr past ↦
            let same : done ≡ place = omega arith in (
              replica,
              subst (λ i. slice_get more i ≡ Some replica) same here,
              subst (λ i. IsBegun count limit i replica) same begun,
            )
      ];
    }

-- Operations are counted as commands or as what they say.
use Rattle.std.proofs.Common.{◌≡◌, ℕ, suc, ◌≤◌, Bool, true, false, cond, List, [], ◌∷◌, filter, length, map, take, refl, sym, ap, ◌∙◌}
use Rattle.std.proofs.lemmas.List.{take_all}
use Rattle.std.specs.Option.{is_some}
use Rattle.bayou_text.specs.Said.{Said}
use Rattle.bayou_script.specs.Capacity.{operation_of, operations}

module _ {C : Type 0} (line : C → Said) where
  -- whether a command is one of a session's operations
  abbrev pub is_tried : C → Bool
  is_tried command = is_some (operation_of (line command))

  filtered : (command : C) (commands : List C) (b : Bool) (said others : List Said) → length others ≡ length commands
      → length (cond b (line command ∷ others) others) ≡ length (cond b (command ∷ commands) commands)
  filtered command commands true said others same = ap (λ n. suc n) same
  filtered command commands false said others same = same

  operations_counted : (commands : List C) → operations (map line commands) ≡ length (filter is_tried commands)
  operations_counted [] = refl
  operations_counted (command ∷ commands) =
      filtered command (filter is_tried commands) (is_tried command) [] (filter (λ (said : Said). is_some (operation_of said)) (map line commands)) (operations_counted commands)

  -- all commands were looked at
  pub all_tried : (commands : List C) (at number : ℕ) → number ≡ length (filter is_tried (take at commands)) → length commands ≤ at
      → number ≡ operations (map line commands)
  all_tried commands at number so_far all = so_far ∙ ap (λ (list : List C). length (filter is_tried list)) (take_all at commands all) ∙ sym (operations_counted commands)

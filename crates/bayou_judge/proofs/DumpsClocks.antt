-- What is told of the Writes of a fitting list by their places and counts.
use Rattle.std.proofs.Common.{◌≡◌, ℕ, ◌≤◌, inl, inr, List, slice_index, Contains, Some, arith}
use Rattle.std.specs.List.{slice_get}
use Rattle.std.proofs.lemmas.Bool.{cases_lt}
use Rattle.std.proofs.lemmas.Option.{get_or_from_slice_get, slice_get_within}
use Rattle.bayou_base.specs.declared.limits.TheConstants.{MAX_WRITES}
use Rattle.bayou_lang.specs.declared.write.Write.{Write}
use Rattle.bayou_lang.specs.Laws.Fitting.{fitting_is_prefix_closed}
use Rattle.bayou_lang.specs.Writes.{count_of, AreFitting}

-- the Write at a place is one of the list
pub Contains-from_slice_get : (writes : List Write) (place : ℕ) (write : Write) → slice_get writes place ≡ Some write → Contains writes write
Contains-from_slice_get writes place write got = (place, slice_get_within writes place write got, get_or_from_slice_get writes place write write got)

-- no server has more Writes in a fitting list than a sequence number can tell
pub count_within : (count : ℕ) (writes : List Write) (server : ℕ) → AreFitting count writes → slice_index (count_of writes) server ≤ MAX_WRITES
count_within count writes server fitting =
    elim (cases_lt 0 (slice_index (count_of writes) server)) as (λ _. slice_index (count_of writes) server ≤ MAX_WRITES) [
      | inl some ↦
          let found = (fitting_is_prefix_closed count writes fitting).none_missing server (slice_index (count_of writes) server) some (omega arith) in
          omega (arith, found.4.1, found.1.wid.in_range.1)
      | inr none ↦ omega (arith, none)
    ]

-- How long a reader is waited for: this project's own.
use Rattle.std.specs.Prelude.{◌≡◌, ◌⊎◌, ℕ, ◌+◌, ◌<◌, ◌≤◌, Result, Ok, Err}
use Rattle.bayou_base.specs.declared.limits.TheConstants.{MAX_WAITS}
use Rattle.bayou_streams.specs.Lines.{counted}

-- The reader was called so many times, and it was asked so many times whether to wait.
pub record Waited (asked_before asked_now calls_before calls_now asked calls : ℕ) : Type 0 where
  pub each : asked_now ≡ counted asked_before asked
  pub called : calls_now ≡ counted calls_before calls
  pub at_most : calls ≤ MAX_WAITS

-- One call of the reader for each yes. The last call gave what was read; or it failed, and not by the end of a wait; or the last answer
-- was no; or there were as many calls as there may be.
abbrev pub WaitsFor : {E : Type 0} → (asked_before asked_now calls_before calls_now : ℕ) → (has_failed is_out : Type 0) → Result ℕ E → Type 0
WaitsFor asked_before asked_now calls_before calls_now has_failed is_out (Ok count) =
    (calls : ℕ) × (0 < calls) × Waited asked_before asked_now calls_before calls_now calls calls
WaitsFor asked_before asked_now calls_before calls_now has_failed is_out (Err error) =
    (calls : ℕ)
    × ((((0 < calls) × has_failed × Waited asked_before asked_now calls_before calls_now calls calls)
    ⊎ (is_out × Waited asked_before asked_now calls_before calls_now (calls + 1) calls))
    ⊎ ((calls ≡ MAX_WAITS) × Waited asked_before asked_now calls_before calls_now calls calls))

-- Rounds at servers, one after another, and what each of their answers says.
use Rattle.std.proofs.Common.{arith, ◌≡◌, ℕ, zero, suc, ◌+◌, ◌-◌, ◌<◌, ◌≤◌, Bool, true, false, List, [], ◌∷◌, inl, inr, refl, subst, sym}
use Rattle.bayou_connect.specs.Round.{AsksInRounds, AsksInTurn, GoesRound, after_refusal, may_ask_another}
use Rattle.bayou_connect.specs.declared.told.ServerTold.{ServerTold}
use Rattle.bayou_connect.specs.declared.told.ServerTold.TheVariants as told

-- no other server may be asked, so nothing more is
pub goes_no_further : {S : Type 0} (asks : S → ℕ → S → ServerTold → Type 0) (is_read : Bool) (order : List ℕ) (more at : ℕ) (now : S) (answer : ServerTold) → at < more
    → may_ask_another is_read answer ≡ false → GoesRound asks is_read order (more - at) now answer now answer
goes_no_further {S} asks is_read order more at now answer within never =
    let left : suc (more - at - 1) ≡ more - at = omega (arith, within) in
    subst (λ n. GoesRound asks is_read order n now answer now answer) left (inl (never, refl, refl))

-- no round is left
pub goes_to_the_end : {S : Type 0} (asks : S → ℕ → S → ServerTold → Type 0) (is_read : Bool) (order : List ℕ) (more at : ℕ) (now : S) (answer : ServerTold) → more ≤ at
    → GoesRound asks is_read order (more - at) now answer now answer
goes_to_the_end {S} asks is_read order more at now answer past =
    let left : 0 ≡ more - at = omega (arith, past) in
    subst (λ n. GoesRound asks is_read order n now answer now answer) left (refl, refl)

-- one round more
pub goes_once_more : {S : Type 0} (asks : S → ℕ → S → ServerTold → Type 0) (is_read : Bool) (order : List ℕ) (more at : ℕ) (now next new : S) (answer later result : ServerTold) → at < more
    → may_ask_another is_read answer ≡ true → AsksInTurn asks is_read order told.Away now next later → GoesRound asks is_read order (more - (at + 1)) next later new result
    → GoesRound asks is_read order (more - at) now answer new result
goes_once_more {S} asks is_read order more at now next new answer later result within again asked goes =
    let left : suc (more - (at + 1)) ≡ more - at = omega (arith, within) in
    subst (λ n. GoesRound asks is_read order n now answer new result) left (inr (again, (next, later, asked, goes)))

-- ---- what holds of each answer

later_holds : (P : ServerTold → Type 0) (before answer : ServerTold) → P before → P answer → P (after_refusal before answer)
later_holds P before told.Away had has = had
later_holds P before (told.Seen seen) had has = has
later_holds P before (told.Rows page) had has = has
later_holds P before (told.Fate fate) had has = has
later_holds P before (told.Accepted accepted) had has = has
later_holds P before (told.Refused fault) had has = has
later_holds P before told.Lost had has = has

turn_holds : {S : Type 0} (asks : S → ℕ → S → ServerTold → Type 0) (is_read : Bool) (P : ServerTold → Type 0) → ((old : S) (at : ℕ) (new : S) (answer : ServerTold) → asks old at new answer → P answer)
    → (order : List ℕ) (before : ServerTold) (old new : S) (result : ServerTold) → P before → AsksInTurn asks is_read order before old new result → P result
turn_holds asks is_read P each [] before old new result had (same, is) = subst P (sym is) had
turn_holds asks is_read P each (at ∷ order) before old new result had (middle, answer, asked, inl (never, same, is)) = subst P (sym is) (each old at middle answer asked)
turn_holds asks is_read P each (at ∷ order) before old new result had (middle, answer, asked, inr (again, rest)) =
    turn_holds asks is_read P each order (after_refusal before answer) middle new result (later_holds P before answer had (each old at middle answer asked)) rest

rounds_hold : {S : Type 0} (asks : S → ℕ → S → ServerTold → Type 0) (is_read : Bool) (P : ServerTold → Type 0) → ((old : S) (at : ℕ) (new : S) (answer : ServerTold) → asks old at new answer → P answer) → P told.Away
    → (order : List ℕ) (more : ℕ) (now : S) (answer : ServerTold) (new : S) (result : ServerTold) → P answer → GoesRound asks is_read order more now answer new result → P result
rounds_hold asks is_read P each away order zero now answer new result had (same, is) = subst P (sym is) had
rounds_hold asks is_read P each away order (suc more) now answer new result had (inl (never, same, is)) = subst P (sym is) had
rounds_hold asks is_read P each away order (suc more) now answer new result had (inr (again, (next, later, asked, goes))) =
    rounds_hold asks is_read P each away order more next later new result (turn_holds asks is_read P each order told.Away now next later away asked) goes

-- what holds of each answer, and where none came, holds of what all rounds tell
pub all_hold : {S : Type 0} (asks : S → ℕ → S → ServerTold → Type 0) (is_read : Bool) (P : ServerTold → Type 0) → ((old : S) (at : ℕ) (new : S) (answer : ServerTold) → asks old at new answer → P answer) → P told.Away
    → (order : List ℕ) (more : ℕ) (old new : S) (result : ServerTold) → AsksInRounds asks is_read order more old new result → P result
all_hold asks is_read P each away order more old new result (now, answer, asked, goes) =
    rounds_hold asks is_read P each away order more now answer new result (turn_holds asks is_read P each order told.Away old now answer away asked) goes

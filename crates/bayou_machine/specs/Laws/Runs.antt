-- Runs, one turn after another.
use Rattle.std.proofs.Common.{◌≡◌, ◌≢◌, ℕ, ◌+◌, ◌<◌, ◌≤◌, Bool, true, false, List, [], ◌∷◌, ◌++◌, Option, None, Some, length, filter, ap, sym, refl, subst, arith, length-append, lit≤}
use Rattle.std.specs.Option.{is_some}
use Rattle.std.proofs.Math.Bool.{cond}
use Rattle.bayou_base.specs.declared.entry.Entry.{Entry}
use Rattle.bayou_base.specs.declared.entry.What.{What}
use Rattle.bayou_session.specs.Needs.{Told}
use Rattle.bayou_text.specs.Said.{Said, servers, session, write, read, again, drop, log, fuse, lose, reopen, restart, pull, resend, totals, judge, survey, book, phase, entry, held}
use Rattle.bayou_answers.specs.declared.answer.Answer.{Answer}
use Rattle.bayou_machine.specs.Filed.{Files, Filings, what_told}
use Rattle.bayou_script.specs.Capacity.{operation_of, operations}
use Rattle.bayou_machine.specs.Seats.{Asked}
use Rattle.bayou_machine.specs.Standing.{Standing, asked_by, seat_of, tried_at}
use Rattle.bayou_machine.specs.Run.{AsksAgain, Does, Leaves, ScriptRun, ScriptState, ScriptStep, Tries, Turn}

-- a run goes on by one step
pub Run-more : (old mid new : ScriptState) (done : List Said) (answers : List Answer) (said : Said) (answer : Answer) → ScriptRun old done answers mid
    → Turn mid said answer new → ScriptRun old (done ++ said ∷ []) (answers ++ answer ∷ []) new
Run-more old mid new [] [] said answer run step = (new, subst (λ before. Turn before said answer new) run step, refl)
Run-more old mid new (first ∷ done) (given ∷ answers) said answer (next, taken, run) step =
    (next, taken, Run-more next mid new done answers said answer run step)
Run-more old mid new [] (given ∷ answers) said answer run step = absurd run
Run-more old mid new (first ∷ done) [] said answer run step = absurd run

again-count : (asked : Option Asked) (old new : Standing) (who : ℕ) (answer : Answer) → AsksAgain asked old who answer new → new.count ≡ old.count
again-count None old new who answer (name, is_named, is, same) = ap (λ standing. standing.count) same
again-count (Some asked) old new who answer step = ap (λ standing. standing.count) step.only

-- no step changes how many servers there are
pub ScriptStep-count : (old new : Standing) (said : Said) (answer : Answer) → ScriptStep old said answer new → new.count ≡ old.count
ScriptStep-count old new (servers count limit) answer step = absurd step
ScriptStep-count old new (session who asks) answer step = ap (λ standing. standing.count) step.only
ScriptStep-count old new (write who place program) answer step = ap (λ standing. standing.count) step.only
ScriptStep-count old new (read who place key) answer step = ap (λ standing. standing.count) step.only
ScriptStep-count old new (again who) answer step = again-count (asked_by old who) old new who answer step
ScriptStep-count old new (drop who) answer step = ap (λ standing. standing.count) step.only
ScriptStep-count old new (log place) answer step = ap (λ standing. standing.count) step.0
ScriptStep-count old new (fuse place calls kept) answer step = let change = step.1 in ap (λ standing. standing.count) change.only
ScriptStep-count old new (lose place count) answer step = let change = step.1 in ap (λ standing. standing.count) change.only
ScriptStep-count old new (reopen place) answer (recovery, is, change) = ap (λ standing. standing.count) change.only
ScriptStep-count old new (restart place) answer (recovery, is, change) = ap (λ standing. standing.count) change.only
ScriptStep-count old new (pull to source cut) answer step = ap (λ standing. standing.count) step.only
ScriptStep-count old new (resend to source) answer step = ap (λ standing. standing.count) step.only
ScriptStep-count old new totals answer step = absurd step
ScriptStep-count old new judge answer step = absurd step
ScriptStep-count old new survey answer step = absurd step
ScriptStep-count old new book answer step = absurd step
ScriptStep-count old new phase answer step = ap (λ standing. standing.count) step.0
ScriptStep-count old new (entry what counts) answer step = absurd step
ScriptStep-count old new (held place written counts) answer step = absurd step

-- no turn changes how many servers there are, nor how many entries the book may have, and an operation files one entry at most
pub record Moves (old new : ScriptState) (said : Said) : Type 0 where
  pub count : new.standing.count ≡ old.standing.count
  pub capacity : new.book.capacity ≡ old.book.capacity
  pub filed : length new.book.entries ≤ length old.book.entries + operations (said ∷ [])

filed_one : (who place : ℕ) (told : Told) (what : Option What) (filed : List Entry) → Files who place told what filed → length filed ≤ 1
filed_one who place told None filed is = subst (λ (list : List Entry). length list ≤ 1) (sym is) (lit≤ tt)
filed_one who place told (Some what) filed (one, is, of) = subst (λ (list : List Entry). length list ≤ 1) (sym is) (lit≤ tt)

tried : (old new : ScriptState) (who place : ℕ) (said : Said) (answer : Answer) → operations (said ∷ []) ≡ 1 → Tries old who place said answer new → Moves old new said
tried old new who place said answer one tries = record {
  count = ScriptStep-count old.standing new.standing said answer tries.step;
  capacity = ap (λ (book : Filings). book.capacity) tries.only;
  filed = omega (
    arith,
    one,
    ap (λ (book : Filings). length book.entries) tries.only,
    length-append old.book.entries tries.filed,
    filed_one who place (seat_of old.standing tries.name).told (what_told answer) tries.filed tries.files,
  );
}

left : (old new : ScriptState) (said : Said) (answer : Answer) → Leaves old said answer new → Moves old new said
left old new said answer leaves = record {
  count = ScriptStep-count old.standing new.standing said answer leaves.step;
  capacity = ap (λ (book : Filings). book.capacity) leaves.same;
  filed = omega (arith, ap (λ (book : Filings). length book.entries) leaves.same);
}

stays : (old new : ScriptState) (said : Said) → operations (said ∷ []) ≡ 0 → new ≡ old → Moves old new said
stays old new said none same = record {
  count = ap (λ (state : ScriptState). state.standing.count) same;
  capacity = ap (λ (state : ScriptState). state.book.capacity) same;
  filed = omega (arith, none, ap (λ (state : ScriptState). length state.book.entries) same);
}

again_moves : (op : Option (ℕ × ℕ)) (old new : ScriptState) (who : ℕ) (answer : Answer) → Does op old (again who) answer new → Moves old new (again who)
again_moves None old new who answer turn = left old new (again who) answer turn
again_moves (Some (same, place)) old new who answer turn = tried old new same place (again who) answer refl turn

pub Turn-moves : (old new : ScriptState) (said : Said) (answer : Answer) → Turn old said answer new → Moves old new said
Turn-moves old new (servers count limit) answer turn = left old new _ answer turn
Turn-moves old new (session who asks) answer turn = left old new _ answer turn
Turn-moves old new (write who place program) answer turn = tried old new who place _ answer refl turn
Turn-moves old new (read who place key) answer turn = tried old new who place _ answer refl turn
Turn-moves old new (again who) answer turn = again_moves (tried_at old.standing (again who)) old new who answer turn
Turn-moves old new (drop who) answer turn = left old new _ answer turn
Turn-moves old new (log place) answer turn = left old new _ answer turn
Turn-moves old new (fuse place calls kept) answer turn = left old new _ answer turn
Turn-moves old new (lose place count) answer turn = left old new _ answer turn
Turn-moves old new (reopen place) answer turn = left old new _ answer turn
Turn-moves old new (restart place) answer turn = left old new _ answer turn
Turn-moves old new (pull to source cut) answer turn = left old new _ answer turn
Turn-moves old new (resend to source) answer turn = left old new _ answer turn
Turn-moves old new totals answer turn = stays old new _ refl turn.0
Turn-moves old new judge answer turn = stays old new _ refl turn.0
Turn-moves old new survey answer turn = stays old new _ refl turn.0
Turn-moves old new book answer turn = stays old new _ refl turn.0
Turn-moves old new phase answer turn = left old new _ answer turn
Turn-moves old new (entry what counts) answer turn = left old new _ answer turn
Turn-moves old new (held place written counts) answer turn = left old new _ answer turn

-- the first of the commands, and the others
one_and : (said : Said) (others : List Said) (b : Bool) → length (cond b (said ∷ others) others) ≡ length (cond b (said ∷ []) []) + length others
one_and said others true = omega arith
one_and said others false = omega arith

pub operations-first : (said : Said) (others : List Said) → operations (said ∷ others) ≡ operations (said ∷ []) + operations others
operations-first said others = one_and said (filter (λ (s : Said). is_some (operation_of s)) others) (is_some (operation_of said))

tried_one : (said : Said) (op : Option ℕ) → op ≢ None → length (cond (is_some op) (said ∷ []) []) ≡ 1
tried_one said None some = absurd (some refl)
tried_one said (Some op) some = refl

-- there is room for the next operation
pub has_room : (said : Said) (others : List Said) (filed capacity : ℕ) → filed + operations (said ∷ others) ≤ capacity → operation_of said ≢ None → filed < capacity
has_room said others filed capacity room some = omega (arith, room, operations-first said others, tried_one said (operation_of said) some)

-- What a turn is made of.
use Rattle.std.proofs.Common.{◌≡◌, ℕ, Option, None, Some, sym, subst}
use Rattle.bayou_text.specs.Said.{Said, servers, session, write, read, again, drop, log, fuse, lose, reopen, restart, pull, resend, totals, judge, survey, book, phase, entry, held}
use Rattle.bayou_answers.specs.declared.answer.Answer.{Answer}
use Rattle.bayou_machine.specs.Run.{Does, Leaves, ScriptState, ScriptStep, Tries, Turn}
use Rattle.bayou_machine.specs.Standing.{tried_at}

-- what a turn is made of: a session's operation, or what leaves the book
pub tries_turn : (old new : ScriptState) (who place : ℕ) (said : Said) (answer : Answer) → tried_at old.standing said ≡ Some (who, place)
    → Tries old who place said answer new → Turn old said answer new
tries_turn old new who place (servers count limit) answer is tries = absurd (cc)
tries_turn old new who place (session other asks) answer is tries = absurd (cc)
tries_turn old new who place (write other at program) answer is tries = subst (λ (op : Option (ℕ × ℕ)). Does op old (write other at program) answer new) (sym is) tries
tries_turn old new who place (read other at key) answer is tries = subst (λ (op : Option (ℕ × ℕ)). Does op old (read other at key) answer new) (sym is) tries
tries_turn old new who place (again other) answer is tries = subst (λ (op : Option (ℕ × ℕ)). Does op old (again other) answer new) (sym is) tries
tries_turn old new who place (drop other) answer is tries = absurd (cc)
tries_turn old new who place (log at) answer is tries = absurd (cc)
tries_turn old new who place (fuse at calls kept) answer is tries = absurd (cc)
tries_turn old new who place (lose at count) answer is tries = absurd (cc)
tries_turn old new who place (reopen at) answer is tries = absurd (cc)
tries_turn old new who place (restart at) answer is tries = absurd (cc)
tries_turn old new who place (pull to source cut) answer is tries = absurd (cc)
tries_turn old new who place (resend to source) answer is tries = absurd (cc)
tries_turn old new who place totals answer is tries = absurd (cc)
tries_turn old new who place judge answer is tries = absurd (cc)
tries_turn old new who place survey answer is tries = absurd (cc)
tries_turn old new who place book answer is tries = absurd (cc)
tries_turn old new who place phase answer is tries = absurd (cc)
tries_turn old new who place (entry what counts) answer is tries = absurd (cc)
tries_turn old new who place (held at written counts) answer is tries = absurd (cc)

pub leaves_turn : (old new : ScriptState) (said : Said) (answer : Answer) → tried_at old.standing said ≡ None → Leaves old said answer new → Turn old said answer new
leaves_turn old new (servers count limit) answer is leaves = leaves
leaves_turn old new (session other asks) answer is leaves = leaves
leaves_turn old new (write other at program) answer is leaves = absurd (cc)
leaves_turn old new (read other at key) answer is leaves = absurd (cc)
leaves_turn old new (again other) answer is leaves = subst (λ (op : Option (ℕ × ℕ)). Does op old (again other) answer new) (sym is) leaves
leaves_turn old new (drop other) answer is leaves = leaves
leaves_turn old new (log at) answer is leaves = leaves
leaves_turn old new (fuse at calls kept) answer is leaves = leaves
leaves_turn old new (lose at count) answer is leaves = leaves
leaves_turn old new (reopen at) answer is leaves = leaves
leaves_turn old new (restart at) answer is leaves = leaves
leaves_turn old new (pull to source cut) answer is leaves = leaves
leaves_turn old new (resend to source) answer is leaves = leaves
leaves_turn old new totals answer is leaves = absurd leaves.step
leaves_turn old new judge answer is leaves = absurd leaves.step
leaves_turn old new survey answer is leaves = absurd leaves.step
leaves_turn old new book answer is leaves = absurd leaves.step
leaves_turn old new phase answer is leaves = leaves
leaves_turn old new (entry what counts) answer is leaves = absurd leaves.step
leaves_turn old new (held at written counts) answer is leaves = absurd leaves.step

-- what servers and sessions do alone leaves the book
pub left_turn : (old new : ScriptState) (said : Said) (answer : Answer) → tried_at old.standing said ≡ None → ScriptStep old.standing said answer new.standing → new.book ≡ old.book
    → Turn old said answer new
left_turn old new said answer is step same = leaves_turn old new said answer is (record { step = step; same = same })

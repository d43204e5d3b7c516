-- An entry stands at the front exactly where its length, its room and its digest are right.
use Rattle.std.proofs.Common.{◌≡◌, ◌≤◌, ◌-◌, ℕ, List, length, drop, take, true, false, arith, sym, ◌∙◌, ap, length-drop}
use Rattle.std.proofs.lemmas.List.{take_all}
use Rattle.bayou_journal.specs.Chain.{link}
use Rattle.bayou_journal.proofs.Reading.{reads, found_is}
use Rattle.bayou_journal.proofs.chain.first_entry.Goals as goal
use Rattle.bayou_journal.proofs.chain.first_entry.Goals.{then-length-eq0-via-then-length-eq0, then-length-eq0-via-else-length-eq0+then-length-gt-MAX_BODY_BYTES, then-length-eq0-via-else-length-eq0+else-length-gt-MAX_BODY_BYTES+then-behind-length}

whole : (bytes : List ℕ) → take (length bytes - 2) (drop 2 bytes) ≡ drop 2 bytes
whole bytes = take_all (length bytes - 2) (drop 2 bytes) (omega (arith, length-drop 2 bytes))

pub returns-then-length-eq0-clause-none : goal.returns-then-length-eq0-clause-none
returns-then-length-eq0-clause-none c = λ body is begins.
    let front = reads c.args.before.now c.args.bytes.now body begins.0 is begins.1 in
    let size : c.from-length.result ≡ length body = c.from-length.ensures ∙ c.from_be_bytes.ensures ∙ front.size in
    elim c.then-length-eq0.branch [
      | then-length-eq0-via-then-length-eq0 w ↦ omega (arith, is.some)
      | then-length-eq0-via-else-length-eq0+then-length-gt-MAX_BODY_BYTES w ↦ omega (arith, is.within)
      | then-length-eq0-via-else-length-eq0+else-length-gt-MAX_BODY_BYTES+then-behind-length w ↦ omega (arith, front.long, length-drop 2 c.args.bytes.now)
    ]

pub returns-then-not-is_same-clause-none : goal.returns-then-not-is_same-clause-none
returns-then-not-is_same-clause-none c = λ body is begins.
    let front = reads c.args.before.now c.args.bytes.now body begins.0 is begins.1 in
    let size : c.from-length.result ≡ length body = c.from-length.ensures ∙ c.from_be_bytes.ensures ∙ front.size in
    let same = found_is c.args.before.now c.args.bytes.now body begins.0 c.from-length.result front size in
    let rest : c.from-length.result ≤ length (drop 2 c.args.bytes.now) = omega (arith, front.long) in
    let equal : c.split_at-2.result.0.now ≡ c.as_slice.result.now =
    c.split_at-2.ensures.front ∙ ap (take 32) c.split_at.ensures.back ∙ ap (λ (l : List ℕ). take 32 (drop c.from-length.result l)) (whole c.args.bytes.now) ∙ same
    ∙ ap (λ (l : List ℕ). link c.args.before.now (take c.from-length.result l)) (sym (whole c.args.bytes.now))
    ∙ ap (link c.args.before.now) (sym c.split_at.ensures.front) ∙ sym c.link_of-digest.ensures ∙ sym c.as_slice.ensures in
    let yes = c.is_same.ensures.1 equal in
    let no = c.if-not-is_same.true in
    let wrong : false ≡ true = sym no ∙ yes in cc

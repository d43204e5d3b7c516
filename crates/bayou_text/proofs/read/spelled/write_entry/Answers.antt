use Rattle.std.proofs.Common.{◌∙◌, ◌∷◌, ◌++◌, [], codes, decimal, ap}
use Rattle.json.specs.Token.{string as string_token, number as number_token}
use Rattle.serde_json.specs.Data.{string}
use Rattle.bayou_text.specs.Spelling.{count_json, head_json, vector_json}
use Rattle.bayou_text.proofs.AtOnce.{closed, one_more}
use Rattle.bayou_text.proofs.read.spelled.write_entry.Goals as goal

pub returns-in_ok-write_head-in-Refused-clause-spelling : goal.returns-in_ok-write_head-in-Refused-clause-spelling
returns-in_ok-write_head-in-Refused-clause-spelling c =
    let head = c.in_ok-write_head-in-Refused.ensures.spelling in
    rw c.in-Refused.is (closed c.end_array.result c.args.writer.now c.write_head.new.writer c.end_array.new.self (head_json c.args.entry.now (codes "refused")) c.end_array.ensures
    head.0 head.1)

pub returns-in_ok-write_vector-in-Read-clause-spelling : goal.returns-in_ok-write_vector-in-Read-clause-spelling
returns-in_ok-write_vector-in-Read-clause-spelling c =
    let told = c.args.entry.now in
    let key = c.in-Read.key in
    let vector = c.in-Read.vector in
    let head = c.in_ok-write_head-in-Read.ensures.spelling in
    let keyed = c.in_ok-string-in-Read.ensures in
    let named = keyed.ok ∙ ap (λ name. c.write_head-in-Read.new.writer.tokens ++ string_token name ∷ []) c.as_str.ensures.value in
    let seen = c.in_ok-write_vector-in-Read.ensures.spelling in
    rw c.in-Read.is (closed c.end_array-in-Read.result c.args.writer.now c.write_vector.new.writer c.end_array-in-Read.new.self
    (head_json told (codes "read") ++ string key ∷ vector_json c.args.counts vector ∷ []) c.end_array-in-Read.ensures
    (seen.0 ∙ keyed.room.0 ∙ head.0)
    (one_more _ _ _ (head_json told (codes "read") ++ string key ∷ []) (vector_json c.args.counts vector)
    (one_more _ _ _ (head_json told (codes "read")) (string key) head.1 named) seen.1))

pub returns-in_ok-write_vector-in-Write-clause-spelling : goal.returns-in_ok-write_vector-in-Write-clause-spelling
returns-in_ok-write_vector-in-Write-clause-spelling c =
    let told = c.args.entry.now in
    let wid = c.in-Write.wid in
    let stamp = c.in-Write.stamp in
    let deps = c.in-Write.deps in
    let head = c.in_ok-write_head-in-Write.ensures.spelling in
    let placed = c.in_ok-u64-in-Write.ensures in
    let timed = c.in_ok-u64-in-Write-2.ensures in
    let seen = c.in_ok-write_vector-in-Write.ensures.spelling in
    let at_place = placed.ok ∙ ap (λ n. c.write_head-in-Write.new.writer.tokens ++ number_token (decimal n) ∷ []) c.from.ensures in
    let at_time = timed.ok ∙ ap (λ n. c.u64.new.self.tokens ++ number_token (decimal n) ∷ []) c.from-in-Write.ensures in
    rw c.in-Write.is (closed c.end_array-in-Write.result c.args.writer.now c.write_vector-in-Write.new.writer c.end_array-in-Write.new.self
    (head_json told (codes "write") ++ count_json wid.seq ∷ count_json stamp.clock ∷ vector_json c.args.counts deps ∷ []) c.end_array-in-Write.ensures
    (seen.0 ∙ timed.room.0 ∙ placed.room.0 ∙ head.0)
    (one_more _ _ _ (head_json told (codes "write") ++ count_json wid.seq ∷ count_json stamp.clock ∷ []) (vector_json c.args.counts deps)
    (one_more _ _ _ (head_json told (codes "write") ++ count_json wid.seq ∷ []) (count_json stamp.clock)
    (one_more _ _ _ (head_json told (codes "write")) (count_json wid.seq) head.1 at_place) at_time) seen.1))

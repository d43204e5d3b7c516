use Rattle.std.proofs.lemmas.Result.{err_from_is_err_and}
use Rattle.bayou_person.proofs.Telling.{keys_end, keys_more}
use Rattle.bayou_person.proofs.reading.keys_in.Goals as goal

pub returns-in_err-key_in : goal.returns-in_err-key_in
returns-in_err-key_in c =
    let told = err_from_is_err_and c.from_residual.result c.from_residual.ensures.1 in
    let (why, is, bad) = c.in_err-key_in.ensures in
    rw (told.1, told.2)
    (keys_end c.loop-word.keys.items c.args.words.now c.loop-word.word-index _ why _ c.loop-word.invariant.0 c.loop-word.invariant.1 c.loop-word-test.true is bad)

pub loop-word-preserved : goal.loop-word-preserved
loop-word-preserved c =
    keys_more c.push.new.self.items c.loop-word.keys.items _ c.args.words.now c.loop-word.word-index _ c.push.ensures.items c.loop-word.invariant.0
    c.loop-word.invariant.1 c.loop-word-test.true c.in_ok-key_in.ensures.1 c.in_ok-key_in.ensures.0

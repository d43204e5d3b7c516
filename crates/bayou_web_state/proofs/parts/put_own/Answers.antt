use Rattle.std.proofs.Common.{◌∷◌, [], codes}
use Rattle.std.proofs.lemmas.Result.{on_ok_weaker}
use Rattle.json.specs.Token.{begin_object, end_object, key, string}
use Rattle.bayou_web_state.specs.Parts.{text_token, told_word, wid_text}
use Rattle.bayou_web_state.proofs.Chained.{five_pieces}
use Rattle.bayou_web_state.proofs.parts.put_own.Goals as goal

pub returns-clause-put : goal.returns-clause-put
returns-clause-put c =
    let own = c.args.own.now in
    on_ok_weaker c.end_object.result (λ last.
    five_pieces c.args.out.now.tokens c.begin_object.new.self.tokens c.put_name.new.out.tokens c.put_became.new.out.tokens c.put_text.new.out.tokens
    c.end_object.new.self.tokens
    (begin_object ∷ []) (key (codes "write") ∷ string (wid_text own.write.wid) ∷ []) (key (codes "told") ∷ string (told_word own.write.told) ∷ [])
    (key (codes "line") ∷ text_token own.line ∷ []) (end_object ∷ [])
    c.in_ok-begin_object.ensures.ok c.in_ok-put_name.ensures.put c.in_ok-put_became.ensures.put c.in_ok-put_text.ensures.put last)
    c.end_object.ensures.ok

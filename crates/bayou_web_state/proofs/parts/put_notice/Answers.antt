use Rattle.std.proofs.Common.{◌∷◌, [], codes}
use Rattle.std.proofs.lemmas.Result.{on_ok_weaker}
use Rattle.json.specs.Token.{begin_object, end_object, key}
use Rattle.bayou_web_state.specs.Parts.{numbered_tokens, text_token}
use Rattle.bayou_web_state.proofs.Chained.{four_pieces}
use Rattle.bayou_web_state.proofs.parts.put_notice.Goals as goal

pub returns-clause-put : goal.returns-clause-put
returns-clause-put c = on_ok_weaker c.end_object.result (λ last.
    four_pieces c.args.out.now.tokens c.begin_object.new.self.tokens c.put_numbered.new.out.tokens c.put_text.new.out.tokens c.end_object.new.self.tokens
    (begin_object ∷ []) (numbered_tokens c.args.notice.now) (key (codes "line") ∷ text_token c.args.notice.now.line ∷ []) (end_object ∷ [])
    c.in_ok-begin_object.ensures.ok c.in_ok-put_numbered.ensures.put c.in_ok-put_text.ensures.put last)
    c.end_object.ensures.ok

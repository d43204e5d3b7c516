use Rattle.std.proofs.Common.{◌++◌, ◌∷◌, [], ap, sym, ◌∙◌}
use Rattle.bayou_greeting.specs.Laws.Digests.{digest_behind-more, shorts_behind-more}
use Rattle.bayou_greeting.specs.OriginDigests.{next_digest, no_writes, short, shorts_behind}
use Rattle.bayou_greeting.proofs.origin_digests.OriginDigests.extend.Goals as goal

pub returns-clause-held : goal.returns-clause-held
returns-clause-held c writes are =
    let write = c.args.write.now in
    let last = c.digest_behind-last.ensures ∙ ap (λ before. next_digest before write) are.last in
    record {
      last = last ∙ sym (digest_behind-more no_writes writes write);
      kept =
          c.in_ok-push.ensures.items
          ∙ ap (λ kept. kept ++ c.short_of.result ∷ []) are.kept
          ∙ ap (λ told. shorts_behind no_writes writes ++ told ∷ []) (c.short_of.ensures ∙ ap short last)
          ∙ sym (shorts_behind-more no_writes writes write);
    }

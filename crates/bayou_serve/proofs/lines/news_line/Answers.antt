use Rattle.std.proofs.Common.{◌≡◌, ◌++◌, IfOk, codes, decimal, string_bytes, subst, sym}
use Rattle.bayou_serve.specs.Told.{news_text}
use Rattle.bayou_serve.proofs.lines.news_line.Goals as goal

pub returns-in-Failed : goal.returns-in-Failed
returns-in-Failed c =
    let worded = subst (λ why. IfOk c.format-in-Failed.result (λ line. string_bytes line ≡ codes "bayou: peer " ++ (decimal c.args.peer.id.index ++ (codes " pull fault " ++ (why ++ codes "\n"))))) c.pulling_word-why.ensures c.format-in-Failed.ensures.ok in
    subst (λ news. IfOk c.format-in-Failed.result (λ line. string_bytes line ≡ news_text c.args.peer news)) (sym c.in-Failed.is) worded

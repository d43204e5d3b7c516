use Rattle.std.proofs.Common.{◌≡◌, ◌∙◌, ◌++◌, IfOk, List, Option, ℕ, codes, decimal, string_bytes, subst, sym}
use Rattle.bayou_print.proofs.Shared.{shared}
use Rattle.bayou_print.specs.Connected.{server_text, share_text, without_text}
use Rattle.bayou_print.specs.Printed.{counts_text}
use Rattle.bayou_print.specs.declared.connected.Holds.{Holds}
use Rattle.bayou_print.proofs.connected.server_line.Goals as goal

pub returns-in-None-limit : goal.returns-in-None-limit
returns-in-None-limit c =
    let server = c.args.server.index in
    let held = c.in-Some.held in
    let line = c.format-in-None-limit.result in
    let told = subst (λ (without : List ℕ). IfOk line (λ line. string_bytes line ≡ codes "server " ++ (decimal server ++ (codes " at " ++ (counts_text c.args.servers held.vector ++ (without ++ codes "\n"))))))
    (c.as_str-without.ensures.value ∙ c.in_ok-without-in-Some.ensures) c.format-in-None-limit.ensures.ok in
    let shares = subst (λ (limit : Option ℕ). IfOk line (λ line. string_bytes line ≡ codes "server " ++ (decimal server ++ (codes " at " ++ (counts_text c.args.servers held.vector ++ (share_text held.vector limit ++ (without_text held.without ++ codes "\n")))))))
    (sym c.in-None-limit.is) told in
    subst (λ (held : Option Holds). IfOk line (λ line. string_bytes line ≡ server_text server c.args.servers held)) (sym c.in-Some.is) shares

pub returns : goal.returns
returns c =
    let server = c.args.server.index in
    let held = c.in-Some.held in
    let limit = c.in-Some-limit.limit in
    let line = c.format-in-Some-limit.result in
    let told = subst (λ (without : List ℕ). IfOk line (λ line. string_bytes line ≡ codes "server " ++ (decimal server ++ (codes " at " ++ (counts_text c.args.servers held.vector ++ (codes " holds " ++ (decimal c.total-sum.result ++ (codes " of " ++ (decimal limit ++ (without ++ codes "\n"))))))))))
    (c.as_str-without.ensures.value ∙ c.in_ok-without-in-Some.ensures) c.format-in-Some-limit.ensures.ok in
    let summed = subst (λ (held_number : ℕ). IfOk line (λ line. string_bytes line ≡ codes "server " ++ (decimal server ++ (codes " at " ++ (counts_text c.args.servers held.vector ++ (codes " holds " ++ (decimal held_number ++ (codes " of " ++ (decimal limit ++ (without_text held.without ++ codes "\n"))))))))))
    c.total-sum.ensures told in
    let joined = subst (λ (text : List ℕ). IfOk line (λ line. string_bytes line ≡ codes "server " ++ (decimal server ++ (codes " at " ++ (counts_text c.args.servers held.vector ++ text)))))
    (shared held.vector limit (without_text held.without ++ codes "\n")) summed in
    let shares = subst (λ (limit : Option ℕ). IfOk line (λ line. string_bytes line ≡ codes "server " ++ (decimal server ++ (codes " at " ++ (counts_text c.args.servers held.vector ++ (share_text held.vector limit ++ (without_text held.without ++ codes "\n")))))))
    (sym c.in-Some-limit.is) joined in
    subst (λ (held : Option Holds). IfOk line (λ line. string_bytes line ≡ server_text server c.args.servers held)) (sym c.in-Some.is) shares

-- The JSON of what is seen (RFC 8259): this project's own form.
use Rattle.std.specs.Prelude.{◌≡◌, ℕ, List, [], ◌∷◌, ◌++◌, codes}
use Rattle.bayou_web_state.specs.Parts.{all_own_tokens, notices_tokens, servers_tokens, session_tokens, text_token, told_tokens}
use Rattle.bayou_web_state.specs.Rows.{rows_tokens}
use Rattle.bayou_web_state.specs.declared.seen.StoreSeen.{StoreSeen}
use Rattle.json.specs.Lex.{tokens}
use Rattle.json.specs.Token.{Token, begin_array, begin_object, boolean, end_array, end_object, key}

-- as whom the person claims, and of what the rows are
unfoldable pub head_tokens : StoreSeen → List Token
head_tokens seen =
    key (codes "name") ∷ text_token seen.name ∷ key (codes "current") ∷ boolean seen.is_current ∷ told_tokens seen.servers_number seen.told

-- the servers, and the own Writes
unfoldable pub store_tokens : StoreSeen → List Token
store_tokens seen =
    key (codes "servers") ∷ (servers_tokens seen.servers_number seen.servers.items ++ key (codes "own") ∷ all_own_tokens seen.own.items)

-- the session, and the notices
unfoldable pub person_tokens : StoreSeen → List Token
person_tokens seen =
    key (codes "session") ∷ (session_tokens seen.servers_number seen.session ++ key (codes "notices") ∷ notices_tokens seen.notices.items)

-- the rows whose keys begin so
unfoldable pub table_tokens : (prefix : List ℕ) → StoreSeen → List Token
table_tokens prefix seen = key (codes "rows") ∷ begin_array ∷ (rows_tokens prefix seen.rows.items ++ end_array ∷ [])

-- all of it, with the rows whose keys begin so at its end
abbrev pub seen_tokens : (prefix : List ℕ) → StoreSeen → List Token
seen_tokens prefix seen =
    begin_object ∷ (head_tokens seen ++ (store_tokens seen ++ (person_tokens seen ++ (table_tokens prefix seen ++ end_object ∷ []))))

-- the text is that JSON
abbrev pub Shows : (prefix : List ℕ) → StoreSeen → (text : List ℕ) → Type 0
Shows prefix seen text = tokens text ≡ seen_tokens prefix seen

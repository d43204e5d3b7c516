use Rattle.std.proofs.Common.{◌≡◌, ◌∙◌, ◌++◌, ◌∷◌, [], List, ℕ, ap, codes}
use Rattle.std.proofs.lemmas.Result.{on_ok_weaker}
use Rattle.http_header.specs.FieldValue.{FieldValue, plain_value}
use Rattle.http_server.specs.Response.{fields_of}
use Rattle.bayou_web.proofs.Adding.{after_four}
use Rattle.bayou_web.proofs.reply.put_fields.Goals as goal

-- the value that was added is the one that was meant
meant : (old new : List (List ℕ × List ℕ)) (name bytes : List ℕ) (value : FieldValue) → new ≡ old ++ (name, value.bytes) ∷ [] → value ≡ plain_value bytes
    → new ≡ old ++ (name, bytes) ∷ []
meant old new name bytes value added is = added ∙ ap (λ (v : FieldValue). old ++ (name, v.bytes) ∷ []) is

pub returns-clause-fields : goal.returns-clause-fields
returns-clause-fields c =
    let old = fields_of c.args.response.now in
    let one = fields_of c.add_header.new.self in
    let two = fields_of c.add_header-2.new.self in
    let three = fields_of c.add_header-3.new.self in
    on_ok_weaker c.add_header-4.result (λ last.
    after_four old one two three (fields_of c.add_header-4.new.self) (codes "connection", codes "close") (codes "cache-control", codes "no-store")
    (codes "x-content-type-options", codes "nosniff") (codes "content-type", c.args.kind.bytes)
    (meant old one (codes "connection") (codes "close") c.from_static.result c.in_ok-add_header.ensures.headers c.from_static.ensures)
    (meant one two (codes "cache-control") (codes "no-store") c.from_static-2.result c.in_ok-add_header-2.ensures.headers c.from_static-2.ensures)
    (meant two three (codes "x-content-type-options") (codes "nosniff") c.from_static-3.result c.in_ok-add_header-3.ensures.headers c.from_static-3.ensures)
    last)
    c.add_header-4.ensures.headers

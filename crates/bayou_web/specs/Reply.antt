-- What is answered: statuses by RFC 9110, section 15.
use Rattle.std.specs.Prelude.{ℕ, ◌⊎◌, List, [], ◌∷◌, ◌++◌, Option, Some, None, codes}
use Rattle.http_server.specs.Response.{IsResponse}
use Rattle.http_server.specs.declared.response.Response.{Response}
use Rattle.bayou_web_page.specs.declared.page.TheConstants.{PAGE, POLICY}
use Rattle.bayou_web.specs.declared.wish.RequestRefusal.{RequestRefusal}
use Rattle.bayou_web.specs.declared.wish.TheConstants.{ELSEWHERE, MISSING, ONLY_GET, ONLY_POST, UNKNOWN, FOREIGN, MALFORMED}
use Rattle.bayou_web.specs.declared.wish.RequestRefusal.TheVariants.{Elsewhere, Missing, OnlyGet, OnlyPost, Unknown, Foreign, Malformed}

abbrev pub status_for : RequestRefusal → ℕ
status_for Elsewhere = 421
status_for Missing = 404
status_for OnlyGet = 405
status_for OnlyPost = 405
status_for Unknown = 401
status_for Foreign = 403
status_for Malformed = 400

abbrev pub text_for : RequestRefusal → List ℕ
text_for Elsewhere = ELSEWHERE.now
text_for Missing = MISSING.now
text_for OnlyGet = ONLY_GET.now
text_for OnlyPost = ONLY_POST.now
text_for Unknown = UNKNOWN.now
text_for Foreign = FOREIGN.now
text_for Malformed = MALFORMED.now

-- the fields of each response: it ends its connection, is kept nowhere, and is taken for nothing else than it is
abbrev pub fields_for : (kind : List ℕ) → List (List ℕ × List ℕ)
fields_for kind = (codes "connection", codes "close") ∷ (codes "cache-control", codes "no-store") ∷ (codes "x-content-type-options", codes "nosniff") ∷ (codes "content-type", kind) ∷ []

-- the page tells nobody where it was opened, and a browser holds it to its policy
abbrev pub page_fields : List (List ℕ × List ℕ)
page_fields = fields_for (codes "text/html; charset=utf-8") ++ (codes "referrer-policy", codes "no-referrer") ∷ (codes "content-security-policy", POLICY.now) ∷ []

-- by which method it may be asked, where that was why
abbrev pub allowed_for : RequestRefusal → List (List ℕ × List ℕ)
allowed_for Elsewhere = []
allowed_for Missing = []
allowed_for OnlyGet = (codes "allow", codes "GET") ∷ []
allowed_for OnlyPost = (codes "allow", codes "POST") ∷ []
allowed_for Unknown = []
allowed_for Foreign = []
allowed_for Malformed = []

-- the page, whole, with its policy
abbrev pub IsPage : Response → Type 0
IsPage = IsResponse 200 page_fields PAGE.now

-- this text of JSON
abbrev pub IsText : (text : List ℕ) → Response → Type 0
IsText = IsResponse 200 (fields_for (codes "application/json"))

-- a status that says why, and a text that is the same whoever asks
abbrev pub IsRefusal : RequestRefusal → Response → Type 0
IsRefusal refusal = IsResponse (status_for refusal) (fields_for (codes "text/plain; charset=utf-8") ++ allowed_for refusal) (text_for refusal)

-- memory ran out after what was done
abbrev pub IsFailure : Response → Type 0
IsFailure = IsResponse 500 [] []

-- the text that was given, if one was, or that there was no memory for it
abbrev pub Tells : Option (List ℕ) → Response → Type 0
Tells None response = IsFailure response
Tells (Some text) response = IsText text response ⊎ IsFailure response

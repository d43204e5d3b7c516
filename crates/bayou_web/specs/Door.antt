-- Who may ask what: the origin of a request by RFC 6454, its token by RFC 6750.
use Rattle.std.specs.Prelude.{◌≡◌, ◌≢◌, ◌⊎◌, ℕ, List, ◌++◌, None, codes, string_bytes}
use Rattle.http_uri.specs.Uri.{uri_authority, uri_path}
use Rattle.http.specs.declared.request.Parts.{Parts}
use Rattle.bayou_web.specs.declared.door.PageDoor.{PageDoor}
use Rattle.bayou_web.specs.declared.wish.RequestRefusal.{RequestRefusal}
use Rattle.bayou_web.specs.declared.wish.RequestRefusal.TheVariants.{Elsewhere, Missing, OnlyGet, OnlyPost, Unknown, Foreign, Malformed}
use Rattle.bayou_web.specs.declared.wish.PageWish.{PageWish}
use Rattle.bayou_web.specs.declared.wish.PageWish.TheVariants.{Page, State, Do, Refused}
use Rattle.bayou_web.specs.Head.{HasField, IsAt}

-- the door of who listens at this address, and has told this token
pub record IsDoorOf (address token : List ℕ) (door : PageDoor) : Type 0 where
  pub host : string_bytes door.host ≡ address
  pub origin : string_bytes door.origin ≡ codes "http://" ++ address
  pub bearer : string_bytes door.bearer ≡ codes "Bearer " ++ token

-- sent to the address of the door, in the form that names no other
pub record IsHere (door : PageDoor) (head : Parts) : Type 0 where
  pub form : uri_authority head.uri ≡ None
  pub host : HasField head.headers (codes "host") (string_bytes door.host)

-- from whoever knows the token
abbrev pub Knows : PageDoor → Parts → Type 0
Knows door head = HasField head.headers (codes "authorization") (string_bytes door.bearer)

-- from the page that this door showed
abbrev pub IsOwn : PageDoor → Parts → Type 0
IsOwn door head = HasField head.headers (codes "origin") (string_bytes door.origin)

abbrev pub AsksPage : PageDoor → Parts → Type 0
AsksPage door head = IsHere door head × IsAt head (codes "GET") (codes "/")

abbrev pub MayLook : PageDoor → Parts → Type 0
MayLook door head = IsHere door head × IsAt head (codes "GET") (codes "/state") × Knows door head

abbrev pub MayDo : PageDoor → Parts → Type 0
MayDo door head = IsHere door head × IsAt head (codes "POST") (codes "/do") × Knows door head × IsOwn door head

-- whatever it is, nothing is looked up or done for it
abbrev pub MayAskNothing : PageDoor → Parts → Type 0
MayAskNothing door head = (¬ (MayLook door head)) × (¬ (MayDo door head))

-- why a request may want nothing
abbrev pub Refuses : PageDoor → Parts → RequestRefusal → Type 0
Refuses door head Elsewhere = ¬ (IsHere door head)
Refuses door head Missing = (uri_path head.uri ≢ codes "/") × (uri_path head.uri ≢ codes "/state") × (uri_path head.uri ≢ codes "/do")
Refuses door head OnlyGet = ((uri_path head.uri ≡ codes "/") ⊎ (uri_path head.uri ≡ codes "/state")) × (head.method ≢ codes "GET")
Refuses door head OnlyPost = (uri_path head.uri ≡ codes "/do") × (head.method ≢ codes "POST")
Refuses door head Unknown = ((uri_path head.uri ≡ codes "/state") ⊎ (uri_path head.uri ≡ codes "/do")) × (¬ (Knows door head))
Refuses door head Foreign = (uri_path head.uri ≡ codes "/do") × Knows door head × (¬ (IsOwn door head))
Refuses door head Malformed = ⊥

abbrev pub IsWhy : PageDoor → Parts → PageWish → Type 0
IsWhy door head Page = AsksPage door head
IsWhy door head State = MayLook door head
IsWhy door head Do = MayDo door head
IsWhy door head (Refused refusal) = Refuses door head refusal

-- What becomes of a request.
use Rattle.std.specs.Prelude.{◌≡◌, ◌⊎◌, ℕ, List, Option}
use Rattle.http.specs.declared.request.Parts.{Parts}
use Rattle.http.specs.declared.request.Request.{Request}
use Rattle.http.specs.Request.{body_of, head_of}
use Rattle.http_uri.specs.Uri.{uri_query}
use Rattle.http_server.specs.declared.response.Response.{Response}
use Rattle.bayou_web.specs.declared.site.Site.{Site}
use Rattle.bayou_web.specs.declared.wish.RequestRefusal.{RequestRefusal}
use Rattle.bayou_web.specs.declared.wish.RequestRefusal.TheVariants.{Malformed}
use Rattle.bayou_web.specs.Asked.{AsksNothing, AsksOf}
use Rattle.bayou_web.specs.Body.{SaysLine, SaysNone}
use Rattle.bayou_web.specs.Door.{AsksPage, MayAskNothing, MayDo, MayLook, Refuses}
use Rattle.bayou_web.specs.Reply.{IsPage, IsRefusal, Tells}

module _ {D : Type 0} where
  -- the desk shows what is asked for; of what asks for nothing it isn't asked
  abbrev pub Shows : (shows : D → List ℕ → Option (List ℕ) → D → Type 0) → (old : D) → Parts → Response → (new : D) → Type 0
  Shows shows old head response new =
      ((prefix : List ℕ) × (text : Option (List ℕ)) × AsksOf (uri_query head.uri) prefix × shows old prefix text new × Tells text response)
      ⊎ (AsksNothing (uri_query head.uri) × (new ≡ old) × IsRefusal Malformed response)

  -- The line of the body is done, whether or not there is memory to say what became of it; of a body that says none, nothing is done.
  abbrev pub Acts : (does : D → List ℕ → Option (List ℕ) → D → Type 0) → (old : D) → (body : List ℕ) → Response → (new : D) → Type 0
  Acts does old body response new =
      ((line : List ℕ) × (text : Option (List ℕ)) × SaysLine body line × does old line text new × Tells text response)
      ⊎ (SaysNone body × (new ≡ old) × IsRefusal Malformed response)

  -- Nothing is done but what whoever may ask asks for: the page is shown to all, a state and what became of a line to whoever has the token.
  pub record Answers (shows does : D → List ℕ → Option (List ℕ) → D → Type 0) (old : Site D) (request : Request (List ℕ)) (response : Response) (new : Site D) : Type 0 where
    pub door : new.door ≡ old.door
    pub kept : MayAskNothing old.door (head_of request) → new.desk ≡ old.desk
    pub page : AsksPage old.door (head_of request) → IsPage response
    pub refused : MayAskNothing old.door (head_of request) → ¬ (AsksPage old.door (head_of request))
        → (refusal : RequestRefusal) × Refuses old.door (head_of request) refusal × IsRefusal refusal response
    pub shown : MayLook old.door (head_of request) → Shows shows old.desk (head_of request) response new.desk
    pub done : MayDo old.door (head_of request) → Acts does old.desk (body_of request) response new.desk

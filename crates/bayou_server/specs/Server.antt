-- A server as its callers see it: this project's own.
use Rattle.std.specs.Prelude.{◌≡◌, ◌<◌, ◌≤◌, ℕ, List, [], ◌∷◌, ◌++◌, Option, None, Some, IfSome, IsSome, All, Contains, length, slice_index}
use Rattle.std.specs.List.{AllZip}
use Rattle.bayou_base.specs.declared.tag.Tag.{Tag}
use Rattle.bayou_lang.specs.declared.write.Write.{Write}
use Rattle.bayou_lang.specs.Writes.{Fits, IsNextWrite, IsSound, count_of}
use Rattle.bayou_lang.specs.Ranges.{IsWrite}
use Rattle.bayou_tags.specs.Tags.{AreDistinct}
use Rattle.bayou_wire.specs.declared.record.Record.{Record}

-- What the steps of the store read and change of a server: which one it is, and among how many; how many Writes it may hold;
-- the Writes held, in order of receipt, and beside each the tag of its asking, or none; and, where it is down, the Write in
-- doubt: the one that it was adding as a device call failed, its own or another server's, and its tag, or none.
pub record Core : Type 0 where
  pub id : ℕ
  pub count : ℕ
  pub limit : ℕ
  pub held : List Write
  pub tags : List (Option Tag)
  pub doubt : Option Write
  pub doubt_tag : Option Tag

-- what a server holds: the Writes, the tags beside them, and the Write in doubt with its tag
pub record Holds : Type 0 where
  pub held : List Write
  pub tags : List (Option Tag)
  pub doubt : Option Write
  pub doubt_tag : Option Tag

abbrev pub holds_of : Core → Holds
holds_of core = record { held = core.held; tags = core.tags; doubt = core.doubt; doubt_tag = core.doubt_tag }

-- The core, its device, and the digest that the next entry of its journal stands after, which counts while the server is up; and the other
-- Writes in doubt, after the one that the core has: those that were being stored with it, each another server's, with no tags. There are none
-- while the server is up.
pub record ServerState (D : Type 0) : Type 0 where
  pub core : Core
  pub device : D
  pub last : List ℕ
  pub taking : List Write

-- the server, over another device
abbrev pub with_device : {D : Type 0} → ServerState D → D → ServerState D
with_device server device = record server { device = device }

-- each Write with the tag beside it
abbrev pub records : List Write → List (Option Tag) → List Record
records (write ∷ writes) (tag ∷ tags) = record { write = write; tag = tag } ∷ records writes tags
records [] tags = []
records (write ∷ writes) [] = []

-- what a server keeps of the Writes held
abbrev pub records_of : Core → List Record
records_of core = records core.held core.tags

-- and of the Write in doubt, if one is
abbrev pub in_doubt : Option Write → Option Tag → Option Record
in_doubt None tag = None
in_doubt (Some write) tag = Some (record { write = write; tag = tag })

abbrev pub record_in_doubt : Core → Option Record
record_in_doubt core = in_doubt core.doubt core.doubt_tag

-- the Writes of other servers, each with no tag
abbrev pub untagged : List Write → List Record
untagged [] = []
untagged (write ∷ writes) = record { write = write; tag = None } ∷ untagged writes

-- the server, once it holds another server's Write more
abbrev pub with_taken : Core → Write → Core
with_taken core write = record core { held = core.held ++ write ∷ []; tags = core.tags ++ None ∷ [] }

-- and once it holds these, one after another
abbrev pub with_all : Core → List Write → Core
with_all core [] = core
with_all core (write ∷ writes) = with_all (with_taken core write) writes

-- no Write is in doubt
abbrev pub IsUp : Core → Type 0
IsUp core = core.doubt ≡ None

-- one is
abbrev pub IsDown : Core → Type 0
IsDown core = IsSome core.doubt

-- how many of the Writes held the server made
abbrev pub own_count : Core → ℕ
own_count core = slice_index (count_of core.held) core.id

-- what a server may hold, in order of receipt: it is sound, and no more than its limit
pub record MayHold (server count limit : ℕ) (writes : List Write) : Type 0 where
  pub sound : IsSound server count writes
  pub within : length writes ≤ limit

-- The Write may be added to those that the server holds: it fits, and if the server made it itself, it says that all of them
-- were held.
pub record MayFollow (server count : ℕ) (held : List Write) (write : Write) : Type 0 where
  pub fits : Fits count held write
  pub own : write.wid.origin.index ≡ server → write.deps ≡ count_of held

-- The Write may be in doubt: it has a spelling, there is room for it, it fits what is held, and the server's own is its next.
-- So it may be held as it is.
pub record MayBeInDoubt (server count limit : ℕ) (held : List Write) (write : Write) : Type 0 where
  pub spelled : IsWrite write
  pub room : length held < limit
  pub fits : Fits count held write
  pub own : write.wid.origin.index ≡ server → IsNextWrite held server write.program write

-- Beside each Write there is one tag, or none: none beside another server's, and no tag twice.
pub record AreTags (server : ℕ) (held : List Write) (tags : List (Option Tag)) : Type 0 where
  pub own : AllZip (λ write tag. IsSome tag → write.wid.origin.index ≡ server) held tags
  pub distinct : AreDistinct tags

-- none of these tags is the one
abbrev pub IsNewTag : List (Option Tag) → Option Tag → Type 0
IsNewTag tags None = Unit {0}
IsNewTag tags (Some tag) = ¬ Contains tags (Some tag)

-- The tag may be that of the Write in doubt: it is none, or a new one, and the Write is the server's own. Where no Write is in doubt
-- it is none.
abbrev pub MayBeItsTag : (server : ℕ) → List (Option Tag) → Option Write → Option Tag → Type 0
MayBeItsTag server tags None tag = tag ≡ None
MayBeItsTag server tags (Some doubt) tag = IsNewTag tags tag × (IsSome tag → doubt.wid.origin.index ≡ server)

-- What is true of each server, before and after each call: it is one of the servers, it holds what it may, what it holds has a
-- spelling, and so has the Write in doubt, which it may hold next; and the tags are beside the Writes that they are of.
pub record IsSoundServer (core : Core) : Type 0 where
  pub known : core.id < core.count
  pub holds : MayHold core.id core.count core.limit core.held
  pub spelled : All IsWrite core.held
  pub tagged : AreTags core.id core.held core.tags
  pub doubted : IfSome core.doubt (MayBeInDoubt core.id core.count core.limit core.held)
  pub doubt_tagged : MayBeItsTag core.id core.tags core.doubt core.doubt_tag

-- How a slip of the book is spent on what was heard. No public clause cites it.
use Rattle.std.specs.Prelude.{◌≡◌, Option, None, Some, Result, Ok, Err}
use Rattle.bayou_audit.specs.Totals.{Shared, with_filed, with_slip_spent}
use Rattle.bayou_base.specs.declared.entry.Entry.{Entry}
use Rattle.bayou_client.specs.declared.fault.ClientFault.{ClientFault}
use Rattle.bayou_client.specs.declared.fault.ClientFault.TheVariants.{Link}
use Rattle.bayou_client.specs.declared.fault.LinkFault.{LinkFault}

-- the slip that is out is spent, on the entry or on nothing
abbrev pub Spends : Option Entry → (before after : Shared) → Type 0
Spends None before after = after ≡ with_slip_spent before
Spends (Some entry) before after = after ≡ with_filed before entry

-- what a session hears whose operation had a place in the book
abbrev pub as_told : {A : Type 0} → Result A LinkFault → Result A ClientFault
as_told (Ok answer) = Ok answer
as_told (Err fault) = Err (Link fault)

-- What a session was told of a line that goes from server to server.
use Rattle.std.proofs.Common.{◌≡◌, ℕ, Bool, List, IfOk, OnOk, Result, Ok, Err, inr, subst, true, vec_len}
use Rattle.bayou_base.specs.declared.session.SessionId.{SessionId}
use Rattle.bayou_connect.specs.Anywhere.{AsksAnywhere, AsksAt}
use Rattle.bayou_connect.specs.Open.{DoesAlone}
use Rattle.bayou_connect.specs.Operating.{is_read}
use Rattle.bayou_connect.specs.Round.{AsksInRounds, turns_but_last}
use Rattle.bayou_connect.specs.Silence.{silent_at}
use Rattle.bayou_connect.specs.Speaking.{DoesLine}
use Rattle.bayou_connect.specs.declared.asking.Requested.{Requested}
use Rattle.bayou_connect.specs.declared.desk.PersonDesk.{PersonDesk}
use Rattle.bayou_connect.specs.declared.doing.LineBecame.{LineBecame}
use Rattle.bayou_connect.specs.declared.fault.ConnectFault.{ConnectFault}
use Rattle.bayou_connect.specs.declared.store.Store.{Store}
use Rattle.bayou_connect.specs.declared.told.ServerTold.{ServerTold}
use Rattle.bayou_streams.specs.Account.{Account}
use Rattle.std.specs.Str.{IsTrimAscii}

pub asked_anywhere : {E : Type 0} (who : SessionId) (attempt : Requested) (first rounds : ℕ) (reads : Bool) (order : List ℕ) (now : ℕ) (old new : Store) (result : Result ServerTold E) → reads ≡ is_read attempt
    → order ≡ turns_but_last (silent_at now old.accesses.items) first (vec_len old.accesses) → IfOk result (AsksInRounds (AsksAt who attempt) reads order rounds old new) → IfOk result (AsksAnywhere who attempt first rounds old new)
asked_anywhere {E} who attempt first rounds reads order now old new (Ok told) same is asked =
    inr (
      now,
      subst (λ (o : List ℕ). AsksInRounds (AsksAt who attempt) (is_read attempt) o rounds old new told) is
          (subst (λ (r : Bool). AsksInRounds (AsksAt who attempt) r order rounds old new told) same asked),
    )
asked_anywhere {E} who attempt first rounds reads order now old new (Err fault) same is asked = tt

-- what follows where it went well
pub then_ok : {A E : Type 0} (result : Result A E) (P Q : Type 0) → OnOk result P → (P → Q) → OnOk result Q
then_ok (Ok value) P Q holds means = means holds
then_ok (Err fault) P Q holds means = tt

done_alone : (line : List ℕ) (told : Result LineBecame ConnectFault) (old new : PersonDesk) (before after : Account)
    → (words : List ℕ) × IsTrimAscii line words × DoesLine line words told (record old { is_served = true }) new before after → IfOk told (DoesAlone line old new before after)
done_alone line (Ok became) old new before after does = does
done_alone line (Err fault) old new before after does = tt

-- a line that is done alone is done as any, whatever was served before it
pub does_alone : (line : List ℕ) (told : Result LineBecame ConnectFault) (old begun new : PersonDesk) (before after : Account) → begun ≡ record old { is_served = true }
    → (words : List ℕ) × IsTrimAscii line words × DoesLine line words told begun new before after → IfOk told (DoesAlone line old new before after)
does_alone line told old begun new before after same does =
    done_alone line told old new before after (subst (λ (d : PersonDesk). (words : List ℕ) × IsTrimAscii line words × DoesLine line words told d new before after) same does)

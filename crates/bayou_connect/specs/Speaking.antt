-- What becomes of a line: this project's own.
use Rattle.std.specs.Prelude.{◌≡◌, ◌≢◌, ◌==◌, ◌&&◌, ◌⊎◌, ℕ, Bool, true, false, IsUtf8, List, [], ◌∷◌, if◌then◌else◌, IfOk, OnOk, MatchOption, Option, None, Some, Result, Ok, Err, codes, is_none, not, slice_get}
use Rattle.std.specs.List.{after_first, before_first}
use Rattle.std.specs.Str.{bytes_eq}
use Rattle.std.specs.Str.Parse.{IsNumeral, digits_value}
use Rattle.bayou_connect.specs.Claiming.{TellsOutcome}
use Rattle.bayou_connect.specs.Commands.{DoesCommand, WritesAgain}
use Rattle.bayou_connect.specs.Desks.{IsSameDesk}
use Rattle.bayou_connect.specs.Finals.{outlook_of, own_in}
use Rattle.bayou_connect.specs.Own.{TellsAsLooked, telling_all}
use Rattle.bayou_connect.specs.Sessions.{own_session}
use Rattle.bayou_connect.specs.Wishing.{DoesWish}
use Rattle.bayou_connect.specs.declared.desk.PersonDesk.{PersonDesk}
use Rattle.bayou_connect.specs.declared.desk.MadeWrite.{MadeWrite}
use Rattle.bayou_connect.specs.declared.doing.LineBecame.{LineBecame}
use Rattle.bayou_connect.specs.declared.doing.LineBecame.TheVariants as became
use Rattle.bayou_connect.specs.declared.doing.SpokenLine.{SpokenLine}
use Rattle.bayou_connect.specs.declared.doing.SpokenLine.TheVariants.{Again, Help, Mine, Wait, Quit}
use Rattle.bayou_connect.specs.declared.doing.Wrong.{Wrong}
use Rattle.bayou_connect.specs.declared.doing.Wrong.TheVariants.{Script, Wish as NoWish}
use Rattle.bayou_connect.specs.declared.fault.ConnectFault.{ConnectFault}
use Rattle.bayou_connect.specs.declared.fault.ConnectFault.TheVariants.{Memory}
use Rattle.bayou_connect.specs.declared.help.TheConstants.{HELP}
use Rattle.bayou_person.specs.Wishes.{IsFaultOf, Wishes}
use Rattle.bayou_person.specs.declared.wish.Wish.{Wish}
use Rattle.bayou_person.specs.declared.wish.WishFault.{WishFault}
use Rattle.bayou_person.specs.declared.wish.WishFault.TheVariants.{Word}
use Rattle.bayou_script.specs.declared.fault.ScriptFault.TheVariants as scripts
use Rattle.bayou_streams.specs.Account.{Account, TakesBytes}
use Rattle.bayou_text.specs.Lines.{IsRefusalOf}
use Rattle.bayou_text.specs.Said.{said}
use Rattle.bayou_text.specs.Table.{Spells}
use Rattle.bayou_text.specs.declared.line.Line.{Line}
use Rattle.bayou_text.specs.declared.line.Line.TheVariants as read
use Rattle.bayou_text.specs.declared.line.LineFault.{LineFault}
use Rattle.bayou_text.specs.declared.line.LineFault.TheVariants as lines
use Rattle.bayou_wire.specs.declared.lookup.Placed.{Placed}

-- the line is such a word
abbrev pub spoken_of : List ℕ → Option SpokenLine
spoken_of line =
    if bytes_eq line (codes "again") then Some Again
    else if bytes_eq line (codes "help") then Some Help
    else if bytes_eq line (codes "quit") then Some Quit
    else if bytes_eq line (codes "mine") then Some Mine
    else if bytes_eq line (codes "wait") then Some Wait
    else None

-- a space
abbrev pub is_space : ℕ → Bool
is_space byte = byte == 32

-- the line asks to wait so many seconds: it is the word, a space, and their decimal digits
pub record AsksToWait (line : List ℕ) (seconds : ℕ) : Type 0 where
  pub word : before_first is_space line ≡ codes "wait"
  pub digits : IsNumeral 10 (after_first is_space line)
  pub number : seconds ≡ digits_value 10 (after_first is_space line)

-- what a line of a script that wasn't read is reported as; want of memory ends all
abbrev pub unread_line : LineFault → Result Wrong ConnectFault
unread_line lines.OutOfMemory = Err Memory
unread_line lines.NotJson = Ok (Script scripts.NotJson)
unread_line (lines.BadShape shape) = Ok (Script scripts.BadShape)
unread_line (lines.Key fault) = Ok (Script scripts.BadKey)
unread_line (lines.Program fault) = Ok (Script scripts.BadProgram)

-- A line of a script, read: a command is done, if it can be done here; any other line is of no use here, and nothing is done.
abbrev pub DoesRead : Line → (old new : PersonDesk) → (before after : Account) → (done : Bool) → Type 0
DoesRead (read.Command command) old new before after done = DoesCommand command old new before after done
DoesRead (read.Servers count limit) old new before after done = (done ≡ false) × (new ≡ old) × (after ≡ before)
DoesRead (read.Audit audited) old new before after done = (done ≡ false) × (new ≡ old) × (after ≡ before)

-- the line says that, and it is done, or can't be done here
abbrev pub DoesSaid : (line : List ℕ) → (old new : PersonDesk) → (before after : Account) → (done : Bool) → Type 0
DoesSaid line old new before after done = (one : Line) × Spells line (said one) × DoesRead one old new before after done

-- a line that isn't read, for this reason
abbrev pub IsUnread : (line : List ℕ) → (old new : PersonDesk) → (before after : Account) → Wrong → Type 0
IsUnread line old new before after wrong = (fault : LineFault) × IsRefusalOf line fault × (unread_line fault ≡ Ok wrong) × (new ≡ old) × (after ≡ before)

-- A line of a script, done; or it is reported that it is wrong: it isn't read, or says what can't be done here.
abbrev pub DoesScriptLine : (line : List ℕ) → (old new : PersonDesk) → (before after : Account) → LineBecame → Type 0
DoesScriptLine line old new before after became.Done = DoesSaid line old new before after true
DoesScriptLine line old new before after (became.Wrong wrong) =
    IsUnread line old new before after wrong ⊎ ((wrong ≡ Script scripts.OutOfPlace) × DoesSaid line old new before after false)
DoesScriptLine line old new before after became.Quit = ⊥
DoesScriptLine line old new before after became.Ended = ⊥

-- why a line is no wish: its bytes are no text, or its words say none
abbrev pub IsNoWish : (line : List ℕ) → WishFault → Type 0
IsNoWish line fault = ((fault ≡ Word) × ¬ (IsUtf8 line)) ⊎ IsFaultOf line fault

-- A wish, done; or it is reported that the line is wrong: it is none, or one that can't be done here.
abbrev pub DoesWishLine : (line : List ℕ) → (old new : PersonDesk) → (before after : Account) → LineBecame → Type 0
DoesWishLine line old new before after became.Done = (wish : Wish) × Wishes line wish × DoesWish wish old new before after true
DoesWishLine line old new before after (became.Wrong (NoWish fault)) = IsNoWish line fault × (new ≡ old) × (after ≡ before)
DoesWishLine line old new before after (became.Wrong (Script fault)) =
    (fault ≡ scripts.OutOfPlace) × ((wish : Wish) × Wishes line wish × DoesWish wish old new before after false)
DoesWishLine line old new before after became.Quit = ⊥
DoesWishLine line old new before after became.Ended = ⊥

-- It was waited until each own Write is final: that is what was asked for, unless one is left, or came to nothing.
pub record Waits (old new : PersonDesk) : Type 0 where
  pub served : new.is_served ≡ (old.is_served && not new.is_void && is_none (slice_get (own_in (outlook_of new.store.views)) 0))
  pub same : IsSameDesk old new

-- the Write of short lines that may be asked again, once more; and what became of it, where it was accepted
pub record AsksOnceMore (old new : PersonDesk) (before after : Account) : Type 0 where
  pub made : Option MadeWrite
  pub wrote : PersonDesk
  pub line : Account
  pub again : WritesAgain own_session old wrote before line made
  pub rest : MatchOption made ((new ≡ wrote) × (after ≡ line)) (λ made. (placed : Option Placed) × TellsOutcome own_session made wrote new line after placed)

-- a line that is no such word: to wait so many seconds, or a wish
abbrev pub DoesOther : (line : List ℕ) → (old new : PersonDesk) → (before after : Account) → LineBecame → Type 0
DoesOther line old new before after done =
    ((seconds : ℕ) × AsksToWait line seconds × (done ≡ became.Done) × Waits old new) ⊎ DoesWishLine line old new before after done

-- What a line says of the lines themselves, done: `help` prints what lines there are, and `quit` changes nothing and ends them.
abbrev pub DoesWord : SpokenLine → (old new : PersonDesk) → (before after : Account) → LineBecame → Type 0
DoesWord Again old new before after done = (done ≡ became.Done) × AsksOnceMore old new before after
DoesWord Help old new before after done = (done ≡ became.Done) × (new ≡ old) × TakesBytes before after HELP.now
DoesWord Mine old new before after done = (done ≡ became.Done) × IsSameDesk old new × (new.is_served ≡ old.is_served)
    × TellsAsLooked (telling_all old.is_json) (outlook_of new.store.views) before after
DoesWord Wait old new before after done = (done ≡ became.Done) × Waits old new
DoesWord Quit old new before after done = (done ≡ became.Quit) × (new ≡ old) × (after ≡ before)

-- a short line, done
abbrev pub DoesShort : (line : List ℕ) → (old new : PersonDesk) → (before after : Account) → LineBecame → Type 0
DoesShort line old new before after done = MatchOption (spoken_of line) (DoesOther line old new before after done) (λ word. DoesWord word old new before after done)

-- Such a word, done: `quit` changes nothing and ends the lines, and no other word does; `help` prints what lines there are.
pub record DoesSpoken (spoken : Option SpokenLine) (result : Result LineBecame ConnectFault) (old new : PersonDesk) (before after : Account) : Type 0 where
  pub quits : spoken ≡ Some Quit → (result ≡ Ok became.Quit) × (new ≡ old) × (after ≡ before)
  pub ends : IfOk result (λ done. done ≡ became.Quit → spoken ≡ Some Quit)
  pub helps : spoken ≡ Some Help → OnOk result (TakesBytes before after HELP.now) × (new ≡ old)

-- the line begins with [, as a script's does
abbrev pub is_of_script : (words : List ℕ) → Bool
is_of_script [] = false
is_of_script (byte ∷ bytes) = byte == 91

-- What becomes of a line, of which these are the bytes without the white space around them: a blank one does nothing.
pub record DoesLine (line words : List ℕ) (result : Result LineBecame ConnectFault) (old new : PersonDesk) (before after : Account) : Type 0 where
  pub blank : words ≡ [] → (result ≡ Ok became.Done) × (new ≡ old) × (after ≡ before)
  pub spoken : DoesSpoken (spoken_of words) result old new before after
  pub script : is_of_script words ≡ true → IfOk result (DoesScriptLine line old new before after)
  pub short : words ≢ [] → is_of_script words ≡ false → IfOk result (DoesShort words old new before after)

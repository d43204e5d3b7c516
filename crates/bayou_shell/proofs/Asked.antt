-- Texts that were asked for.
use Rattle.std.proofs.Common.{◌≡◌, ℕ, List, Result, Ok, Err, IfErr, OnOk, sym, subst}
use Rattle.bayou_print.specs.declared.fault.RunFault.{RunFault}
use Rattle.bayou_print.specs.declared.fault.RunFault.TheVariants.{Output}
use Rattle.bayou_shell.specs.Program.{WritesText}
use Rattle.bayou_streams.specs.Account.{Account, TakesBytes, TakesFront}

pub writes_text : (text : List ℕ) (ended : Result (Unit {0}) RunFault) (old new : Account) → OnOk ended (TakesBytes old new text) → IfErr ended (λ fault. fault ≡ Output)
    → TakesFront old new text → WritesText text ended old.contents new.contents
writes_text text (Ok done) old new whole fault part = whole.bytes
writes_text text (Err fault) old new whole is (front, rest, split, took) =
    subst (λ told. WritesText text (Err told) old.contents new.contents) (sym is) (front, rest, split, took.bytes)

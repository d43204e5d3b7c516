use Rattle.std.proofs.Common.{◌≡◌, ◌∙◌, None, Some, codes, rules}
use Rattle.std.specs.Str.{bytes_eq}
use Rattle.clap.specs.Words.{found_of}
use Rattle.bayou_command.proofs.Given.{flag_named}
use Rattle.bayou_command.proofs.options.flag_in.Goals as goal

pub returns-in-Some : goal.returns-in-Some
returns-in-Some c =
    let eq : c.eq.result ≡ bytes_eq c.in-Some.text.now (codes "true") = search rules in
    eq ∙ flag_named (found_of c.args.found.now) c.args.name.now (Some c.in-Some.text.now) c.in-Some.ensures

pub returns-in-None : goal.returns-in-None
returns-in-None c = flag_named (found_of c.args.found.now) c.args.name.now None c.in-None.ensures

-- The words after `key`: what they take.
use Rattle.std.specs.Prelude.{Some, codes, true}
use Rattle.clap.specs.Words.{App, Rule, new_app, with_rule}
use Rattle.clap.specs.declared.builder.value_parser.ValueParser.TheVariants.{NonEmptyString}
use Rattle.bayou_command.specs.Options.{file_rule, needed, option_rule}

-- the file that is made must be named, and its name has a byte
abbrev pub made_file_rule : Rule
made_file_rule = record file_rule { parser = Some NonEmptyString; required = true }

-- `key` takes the name of the store, and that file
abbrev pub key_app : App
key_app = with_rule (with_rule (new_app (codes "key")) (needed (option_rule (codes "name")))) made_file_rule

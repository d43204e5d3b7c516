use Rattle.std.proofs.Common.{None, Some, le-leb}
use Rattle.std.proofs.lemmas.Bool.{lt-leb}
use Rattle.std.specs.Str.Parse.{ExplainsUnsignedError, HasUnsignedDigitsIfOk, ParsesUnsigned}
use Rattle.clap.specs.Words.{found_of}
use Rattle.bayou_command.proofs.Given.{number_above, number_asked, number_below, number_inside, number_missing}
use Rattle.bayou_command.proofs.options.number_if_given.Goals as goal

pub returns-in-Some-clause-value : goal.returns-in-Some-clause-value
returns-in-Some-clause-value c =
    let asked =
    number_asked (λ text number. ParsesUnsigned 32 10 text number × ExplainsUnsignedError 10 text number × HasUnsignedDigitsIfOk text number) (λ u x g. g.0) (found_of c.args.found.now) c.args.name.now (Some c.in-Some.number) c.in-Some.ensures.none c.in-Some.ensures.value in
    number_inside c.args.least c.args.most c.in-Some.number _ asked (le-leb _ _ c.if-least-number.true) (le-leb _ _ c.if-number-most.true)

pub returns-in_default-clause-value : goal.returns-in_default-clause-value
returns-in_default-clause-value c =
    let asked =
    number_asked (λ text number. ParsesUnsigned 32 10 text number × ExplainsUnsignedError 10 text number × HasUnsignedDigitsIfOk text number) (λ u x g. g.0) (found_of c.args.found.now) c.args.name.now (Some c.in-Some.number) c.in-Some.ensures.none c.in-Some.ensures.value in
    number_above c.args.least c.args.most c.in-Some.number _ asked (le-leb _ _ c.if-least-number.true) (lt-leb _ _ c.if-number-most.false)

pub returns-in_default-2-clause-value : goal.returns-in_default-2-clause-value
returns-in_default-2-clause-value c =
    let asked =
    number_asked (λ text number. ParsesUnsigned 32 10 text number × ExplainsUnsignedError 10 text number × HasUnsignedDigitsIfOk text number) (λ u x g. g.0) (found_of c.args.found.now) c.args.name.now (Some c.in-Some.number) c.in-Some.ensures.none c.in-Some.ensures.value in
    number_below c.args.least c.args.most c.in-Some.number _ asked (lt-leb _ _ c.if-least-number.false)

pub returns-in_default-3-clause-value : goal.returns-in_default-3-clause-value
returns-in_default-3-clause-value c =
    let asked =
    number_asked (λ text number. ParsesUnsigned 32 10 text number × ExplainsUnsignedError 10 text number × HasUnsignedDigitsIfOk text number) (λ u x g. g.0) (found_of c.args.found.now) c.args.name.now None c.in_default.ensures.none c.in_default.ensures.value in
    number_missing c.args.least c.args.most _ asked

-- the sessions so far are told
use Rattle.std.proofs.Common.{◌≡◌, take}
use Rattle.std.specs.Prelude.{string_bytes}
use Rattle.bayou_explain.specs.Json.{surveys_json}
use Rattle.bayou_explain.proofs.json.survey_objects.Given as goal

abbrev pub invariant-loop-surveyed : goal.invariant-loop-surveyed
invariant-loop-surveyed l = string_bytes l.text ≡ surveys_json (take l.surveyed-index l.survey)

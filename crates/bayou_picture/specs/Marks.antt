-- Which breaches are drawn.
use Rattle.std.specs.Prelude.{List, [], Result, Ok, Err, map}
use Rattle.std.specs.Global.{Vec}
use Rattle.bayou_explain.specs.Explained.{breaches_of}
use Rattle.bayou_explain.specs.declared.explained.Explained.{Explained}
use Rattle.bayou_judge.specs.declared.breach.Breach.{Breach}
use Rattle.bayou_judge.specs.declared.verdict.BadEvidence.{BadEvidence}
use Rattle.bayou_judge.specs.declared.verdict.Surveyed.{Surveyed}
use Rattle.bayou_picture.specs.declared.drawing.Drawn.{Drawn}
use Rattle.bayou_picture.specs.declared.marks.Marked.{Marked}

-- the breaches that are marked, with the lines that show them
abbrev pub explained_of : List Marked → List Explained
explained_of list = map (λ marked. marked.explained) list

-- the breaches that are marked
abbrev pub breaches_marked : List Marked → List Breach
breaches_marked list = map (λ marked. marked.explained.breach) list

-- the breaches that are drawn
abbrev pub breaches_drawn : List Drawn → List Breach
breaches_drawn list = map (λ drawn. drawn.breach) list

-- the breaches that the judge told: those of a survey, and none where it refused
abbrev pub breaches_found : Result (Vec Surveyed) BadEvidence → List Breach
breaches_found (Ok survey) = breaches_of survey.items
breaches_found (Err bad) = []

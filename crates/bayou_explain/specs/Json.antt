-- An audit as lines of JSON, an object each (RFC 8259): this project's own.
use Rattle.std.specs.Prelude.{◌≡◌, ℕ, List, [], ◌∷◌, ◌++◌, Option, None, Some, Result, Ok, Err, codes, decimal, flat_map}
use Rattle.bayou_judge.specs.declared.breach.Breach.{Breach}
use Rattle.bayou_judge.specs.declared.breach.Guarantee.{Guarantee}
use Rattle.bayou_judge.specs.declared.breach.Guarantee.TheVariants.{ReadYourWrites, MonotonicReads, WritesFollowReads, MonotonicWrites}
use Rattle.bayou_judge.specs.declared.verdict.BadEvidence.{BadEvidence}
use Rattle.bayou_judge.specs.declared.verdict.BadEvidence.TheVariants.{BadDump, Forged}
use Rattle.bayou_judge.specs.declared.verdict.Surveyed.{Surveyed}
use Rattle.bayou_judge.specs.declared.verdict.Verdict.{Verdict}
use Rattle.bayou_judge.specs.declared.verdict.Verdict.TheVariants.{Clean, Broken}

abbrev pub word_of : Guarantee → List ℕ
word_of ReadYourWrites = codes "ryw"
word_of MonotonicReads = codes "mr"
word_of WritesFollowReads = codes "wfr"
word_of MonotonicWrites = codes "mw"

abbrev pub places_json : Breach → List ℕ
places_json breach = codes "\"first\":" ++ (decimal breach.first ++ (codes ",\"second\":" ++ decimal breach.second))

abbrev pub lack_json : Breach → List ℕ
lack_json breach =
    codes "\"server\":" ++ (decimal breach.server.index ++ (codes ",\"wid\":[" ++ (decimal breach.wid.origin.index ++ (codes "," ++ (decimal breach.wid.seq ++ codes "]")))))

-- where a breach shows: its places, the server, and the Write that is missing there
abbrev pub fields_json : Breach → List ℕ
fields_json breach = places_json breach ++ (codes "," ++ lack_json breach)

-- with its guarantee and its session
abbrev pub breach_json : Breach → List ℕ
breach_json breach =
    codes "\"guarantee\":\"" ++ (word_of breach.guarantee ++ (codes "\",\"session\":" ++ (decimal breach.session.index ++ (codes "," ++ fields_json breach))))

-- why there is no verdict
abbrev pub bad_json : BadEvidence → List ℕ
bad_json (BadDump server at) = codes "\"dump\":" ++ (decimal server.index ++ (codes ",\"place\":" ++ decimal at))
bad_json (Forged at) = codes "\"entry\":" ++ decimal at

-- the verdict
abbrev pub verdict_json : Result Verdict BadEvidence → List ℕ
verdict_json (Ok Clean) = codes "{\"kind\":\"verdict\",\"verdict\":\"clean\"}\n"
verdict_json (Ok (Broken breach)) = codes "{\"kind\":\"verdict\",\"verdict\":\"broken\"," ++ (breach_json breach ++ codes "}\n")
verdict_json (Err bad) = codes "{\"kind\":\"verdict\",\"verdict\":\"refused\"," ++ (bad_json bad ++ codes "}\n")

-- what became of a guarantee
abbrev pub found_json : Option Breach → List ℕ
found_json None = codes "null"
found_json (Some breach) = codes "{" ++ (fields_json breach ++ codes "}")

abbrev pub reads_json : Surveyed → List ℕ
reads_json surveyed = codes "\"ryw\":" ++ (found_json surveyed.ryw ++ (codes ",\"mr\":" ++ found_json surveyed.mr))

abbrev pub writes_json : Surveyed → List ℕ
writes_json surveyed = codes "\"wfr\":" ++ (found_json surveyed.wfr ++ (codes ",\"mw\":" ++ found_json surveyed.mw))

-- what became of a session
abbrev pub surveyed_json : Surveyed → List ℕ
surveyed_json surveyed =
    codes "{\"kind\":\"survey\",\"session\":" ++ (decimal surveyed.session.index ++ (codes "," ++ (reads_json surveyed ++ (codes "," ++ (writes_json surveyed ++ codes "}\n")))))

-- a survey, a line for each session
abbrev pub surveys_json : List Surveyed → List ℕ
surveys_json survey = flat_map surveyed_json survey

-- how many breaches there are
abbrev pub counted_json : ℕ → List ℕ
counted_json breaches = codes "{\"kind\":\"breaches\",\"count\":" ++ (decimal breaches ++ codes "}\n")

-- a line of the breach, with the lines that show it
abbrev pub TellsBreachAsJson : Breach → List ℕ → Type 0
TellsBreachAsJson breach text = (lines : List ℕ) × (text ≡ codes "{\"kind\":\"breach\"," ++ (breach_json breach ++ (codes "," ++ (lines ++ codes "}\n"))))

-- lines of these breaches, one after another
abbrev pub TellEachAsJson : List Breach → List ℕ → Type 0
TellEachAsJson [] text = text ≡ []
TellEachAsJson (breach ∷ breaches) text = (first rest : List ℕ) × TellsBreachAsJson breach first × TellEachAsJson breaches rest × (text ≡ first ++ rest)

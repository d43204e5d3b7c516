-- What explains a breach: this project's own lines.
use Rattle.std.specs.Prelude.{ℕ, List, ◌++◌, Option, None, Some, codes, decimal}
use Rattle.bayou_judge.specs.declared.breach.Breach.{Breach}
use Rattle.bayou_judge.specs.declared.breach.Guarantee.{Guarantee}
use Rattle.bayou_judge.specs.declared.breach.Guarantee.TheVariants.{ReadYourWrites, MonotonicReads, WritesFollowReads, MonotonicWrites}
use Rattle.bayou_explain.specs.declared.refused.Cause.{Cause}
use Rattle.bayou_explain.specs.declared.refused.Cause.TheVariants.{Place, Asks, Origin, Again, Lost, Differs, Database}

abbrev pub guarantee_text : Guarantee → List ℕ
guarantee_text ReadYourWrites = codes "Read Your Writes"
guarantee_text MonotonicReads = codes "Monotonic Reads"
guarantee_text WritesFollowReads = codes "Writes Follow Reads"
guarantee_text MonotonicWrites = codes "Monotonic Writes"

-- the line that a breach begins with
abbrev pub title_text : Breach → List ℕ
title_text breach =
    codes "session " ++ (decimal breach.session.index ++ (codes ", places " ++ (decimal breach.first ++ (codes " and " ++ (decimal breach.second
    ++ (codes ": " ++ (guarantee_text breach.guarantee ++ codes "\n")))))))

-- what the earlier operation is
abbrev pub operation_text : Guarantee → List ℕ
operation_text ReadYourWrites = codes "Write"
operation_text MonotonicReads = codes "read"
operation_text WritesFollowReads = codes "read"
operation_text MonotonicWrites = codes "Write"

-- what it has to do with the Write that is missing
abbrev pub had_text : Guarantee → List ℕ
had_text ReadYourWrites = codes "is"
had_text MonotonicReads = codes "had"
had_text WritesFollowReads = codes "had"
had_text MonotonicWrites = codes "is"

-- what the earlier operation had
abbrev pub earlier_text : Breach → List ℕ
earlier_text breach =
    codes "  the " ++ (operation_text breach.guarantee ++ (codes " at place " ++ (decimal breach.first ++ (codes " " ++ (had_text breach.guarantee
    ++ (codes " " ++ (decimal breach.wid.origin.index ++ (codes ":" ++ decimal breach.wid.seq))))))))

abbrev pub read_text : Breach → List ℕ
read_text breach = codes "server " ++ (decimal breach.server.index ++ (codes " served the read at place " ++ (decimal breach.second ++ codes " without it")))

abbrev pub write_text : Breach → List ℕ
write_text breach =
    codes "server " ++ (decimal breach.server.index ++ (codes " has the Write of place " ++ (decimal breach.second ++ codes " without that one before it")))

-- what the later operation lacks
abbrev pub later_text : Guarantee → Breach → List ℕ
later_text ReadYourWrites breach = read_text breach
later_text MonotonicReads breach = read_text breach
later_text WritesFollowReads breach = write_text breach
later_text MonotonicWrites breach = write_text breach

-- what is wrong with the two operations
abbrev pub sentence_text : Breach → List ℕ
sentence_text breach = earlier_text breach ++ (codes "; " ++ (later_text breach.guarantee breach ++ codes "\n"))

-- the line that an entry begins with that can't be true
abbrev pub entry_text : ℕ → List ℕ
entry_text number = codes "entry " ++ (decimal number ++ codes " can't be true\n")

-- which condition an entry fails
abbrev pub reason_text : Option Cause → List ℕ
reason_text (Some (Place shown)) = codes "  its place isn't above the one of that earlier entry of its session\n"
reason_text (Some (Asks shown)) = codes "  its session asked for something else in that earlier entry\n"
reason_text (Some Origin) = codes "  it names a Write that another server accepted\n"
reason_text (Some (Again shown)) = codes "  that earlier entry names the same Write\n"
reason_text (Some Lost) = codes "  its server's dump hasn't the Write that was acknowledged: it was lost, or the dump is older\n"
reason_text (Some (Differs shown)) = codes "  its server's dump has that Write with another clock or another past\n"
reason_text (Some Database) = codes "  its server never had the database that the read was served from\n"
reason_text None = codes "  no line shows which condition it fails\n"

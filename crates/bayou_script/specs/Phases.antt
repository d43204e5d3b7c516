-- Phases of a script: what stands between the lines that end one, and what of a phase is done together over a network.
use Rattle.std.specs.Prelude.{if◌then◌else◌, ℕ, ◌==◌, Bool, true, false, List, [], ◌∷◌, ◌++◌, IsTrue, nat_lt}
use Rattle.std.specs.List.{filter, flat_map, onto_first, range_with_len}
use Rattle.bayou_base.specs.declared.limits.TheConstants.{SESSIONS}
use Rattle.bayou_text.specs.Said.{Said, session, write, read, again, pull, phase}
use Rattle.bayou_script.specs.declared.phases.Part.{Part}
use Rattle.bayou_script.specs.declared.phases.Part.TheVariants.{Opens, Operation, Pull, Rest}

abbrev pub ends_phase : Said → Bool
ends_phase phase = true
ends_phase other = false

-- Each line that ends a phase ends one, and so does the last line of a script. Such a line itself is in none.
abbrev pub phases_of : List Said → List (List Said)
phases_of [] = []
phases_of (first ∷ others) = if ends_phase first then [] ∷ phases_of others else onto_first first (phases_of others)

-- whether it opens a session
abbrev pub is_opening : Said → Bool
is_opening (session who asks) = true
is_opening other = false

-- whether this session writes, reads, or asks a Write again
abbrev pub is_operation_of : ℕ → Said → Bool
is_operation_of number (write who place program) = who == number
is_operation_of number (read who place key) = who == number
is_operation_of number (again who) = who == number
is_operation_of number other = false

abbrev pub is_pull : Said → Bool
is_pull (pull to source cut) = true
is_pull other = false

-- whether it is none of these
abbrev pub is_rest : Said → Bool
is_rest (session who asks) = false
is_rest (write who place program) = false
is_rest (read who place key) = false
is_rest (again who) = false
is_rest (pull to source cut) = false
is_rest other = true

-- the sessions that a phase opens
abbrev pub opens_of : List Said → List Said
opens_of lines = filter is_opening lines

-- what this session writes, reads and asks again
abbrev pub operations_of : ℕ → List Said → List Said
operations_of number lines = filter (is_operation_of number) lines

-- what one server takes from another
abbrev pub pulls_of : List Said → List Said
pulls_of lines = filter is_pull lines

-- what is asked once all that has ended
abbrev pub rest_of : List Said → List Said
rest_of lines = filter is_rest lines

-- the lines of a phase in the order in which they are answered: sessions are opened, then each has its operations, by number; then
-- come the pulls, and then the rest
abbrev pub arranged_phase : List Said → List Said
arranged_phase lines = opens_of lines
    ++ (flat_map (λ number. operations_of number lines) (range_with_len 0 SESSIONS) ++ (pulls_of lines ++ rest_of lines))

-- the lines of a script in that order, phase by phase
abbrev pub arranged : List Said → List Said
arranged lines = flat_map arranged_phase (phases_of lines)

-- whether a session that tries something is one that there may be
abbrev pub has_session : Said → Bool
has_session (write who place program) = nat_lt who SESSIONS
has_session (read who place key) = nat_lt who SESSIONS
has_session (again who) = nat_lt who SESSIONS
has_session other = true

-- the part of its phase that a line is of
abbrev pub IsPart : Part → Said → Type 0
IsPart Opens said = IsTrue (is_opening said)
IsPart (Operation who) said = IsTrue (is_operation_of who.index said)
IsPart Pull said = IsTrue (is_pull said)
IsPart Rest said = IsTrue (is_rest said)

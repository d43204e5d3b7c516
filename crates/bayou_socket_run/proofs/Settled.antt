-- What the books of a run come to, and what is printed of them.
use Rattle.std.proofs.Common.{◌≡◌, ◌∙◌, ℕ, zero, suc, ◌+◌, ◌<◌, ◌≤◌, max, List, [], ◌∷◌, ◌++◌, Option, None, Some, Result, Ok, Err, IfOk, add-one, ap, arith, get_or, length, refl, slice_get, subst, sym, vec_len}
use Rattle.std.specs.Global.{Vec}
use Rattle.std.specs.List.{AllZip}
use Rattle.std.specs.Option.{option_map_or}
use Rattle.bayou_base.specs.declared.entry.Entry.{Entry}
use Rattle.bayou_fleet.specs.Servers.{IsDump, IsFleetSettled, SettlesAll}
use Rattle.bayou_fleet.specs.declared.fault.FleetFault.{FleetFault}
use Rattle.bayou_fleet.specs.declared.network.FleetSettled.{FleetSettled}
use Rattle.bayou_judge.specs.Answers.{Judges}
use Rattle.bayou_judge.specs.History.{lists_of}
use Rattle.bayou_lang.specs.declared.write.Write.{Write}
use Rattle.bayou_node.specs.Books.{Begun}
use Rattle.bayou_node.specs.declared.node_settled.NodeSettled.{NodeSettled}
use Rattle.bayou_print.specs.Fault.{ended_status, verdict_status}
use Rattle.bayou_print.specs.Laws.Gathered.{Gathers-trans}
use Rattle.bayou_print.specs.Printed.{settled_text}
use Rattle.bayou_print.specs.Waiting.{Gathers, Stage}
use Rattle.bayou_print.specs.declared.ended.Ended.{Ended}
use Rattle.bayou_print.specs.declared.fault.RunFault.{RunFault}
use Rattle.bayou_socket_run.specs.Books.{PrintsRun, books_text, line_of, lines_of}
use Rattle.bayou_socket_run.specs.Inner.Settling.{EndsAt, EndsRunAt}
use Rattle.bayou_socket_run.specs.declared.settling.Books.{Books}
use Rattle.bayou_streams.specs.Account.{Account, TakesBytes}
use Rattle.bayou_streams.specs.Laws.Taken.{TakesBytes-trans}

get_none : (nodes : List NodeSettled) (at : ℕ) → length nodes ≤ at → slice_get nodes at ≡ None
get_none [] at beyond = refl
get_none (node ∷ nodes) zero beyond = absurd (omega (arith, beyond))
get_none (node ∷ nodes) (suc at) beyond = get_none nodes at (omega (arith, beyond))

get_some : (nodes : List NodeSettled) (at : ℕ) (node : NodeSettled) → at < length nodes → node ≡ get_or nodes at node → slice_get nodes at ≡ Some node
get_some [] at node within is = absurd (omega (arith, within))
get_some (first ∷ nodes) zero node within is = ap (λ (n : NodeSettled). Some n) (sym is)
get_some (first ∷ nodes) (suc at) node within is = get_some nodes at node (omega (arith, within)) is

-- there are no such books
pub line_none : (nodes : List NodeSettled) (server : ℕ) → length nodes ≤ server → line_of nodes server ≡ []
line_none nodes server beyond = ap (λ (node : Option NodeSettled). option_map_or (settled_text server) node []) (get_none nodes server beyond)

-- or these
pub line_some : (nodes : List NodeSettled) (server : ℕ) (node : NodeSettled) → server < length nodes → node ≡ get_or nodes server node → line_of nodes server ≡ settled_text server node
line_some nodes server node within is = ap (λ (node : Option NodeSettled). option_map_or (settled_text server) node []) (get_some nodes server node within is)

-- one server more
pub lines_more : (servers : ℕ) (nodes : List NodeSettled) → lines_of (servers + 1) nodes ≡ lines_of servers nodes ++ line_of nodes servers
lines_more servers nodes = ap (λ (n : ℕ). lines_of n nodes) (add-one servers)

pub told_more : (servers : ℕ) (nodes : List NodeSettled) (a b c : Stage) → Gathers a b (lines_of servers nodes) [] → Gathers b c (line_of nodes servers) [] → Gathers a c (lines_of (servers + 1) nodes) []
told_more servers nodes a b c before one =
    subst (λ (text : List ℕ). Gathers a c text []) (sym (lines_more servers nodes)) (Gathers-trans a b c (lines_of servers nodes) (line_of nodes servers) [] before one)

-- one text behind another, and a third one
pub told_three : (a b c d : Stage) (first second third : List ℕ) → Gathers a b first [] → Gathers b c second [] → Gathers c d third [] → Gathers a d (first ++ (second ++ third)) []
told_three a b c d first second third one two three = Gathers-trans a b d first (second ++ third) [] one (Gathers-trans b c d second third [] two three)

-- one list for each server
length_zip : {A B : Type 0} (R : A → B → Type 0) (xs : List A) (ys : List B) → AllZip R xs ys → length ys ≡ length xs
length_zip R [] [] all = refl
length_zip R [] (y ∷ ys) all = absurd all
length_zip R (x ∷ xs) [] all = absurd all
length_zip R (x ∷ xs) (y ∷ ys) (one, all) = ap suc (length_zip R xs ys all)

length_lists : (dumps : List (Vec Write)) → length (lists_of dumps) ≡ length dumps
length_lists [] = refl
length_lists (first ∷ dumps) = ap suc (length_lists dumps)

-- there are as many dumps as servers
pub dumps_number : (servers : List Begun) (number : ℕ) (fleet : FleetSettled) → length servers ≡ number → IsFleetSettled servers (lists_of fleet.dumps.items) fleet.nodes.items
    → length (lists_of fleet.dumps.items) ≡ number
dumps_number servers number fleet many settled = length_zip IsDump servers (lists_of fleet.dumps.items) settled.held ∙ many

pub dumps_each : (servers : List Begun) (number : ℕ) (fleet : FleetSettled) → length servers ≡ number → IsFleetSettled servers (lists_of fleet.dumps.items) fleet.nodes.items
    → length fleet.dumps.items ≡ number
dumps_each servers number fleet many settled = sym (length_lists fleet.dumps.items) ∙ dumps_number servers number fleet many settled

-- what is so of what was had is so of it
pub had_so : {A F : Type 0} (IsSo : A → Type 0) (had : Result A F) (value : A) → had ≡ Ok value → IfOk had IsSo → IsSo value
had_so {A} {F} IsSo had value is so = subst (λ (h : Result A F). IfOk h IsSo) is so

-- and so there are as many dumps as mailboxes
pub dumps_had : (mailboxes : Vec Begun) (number : ℕ) (had : Result FleetSettled FleetFault) (fleet : FleetSettled) → had ≡ Ok fleet → vec_len mailboxes ≡ number
    → IfOk had (λ (f : FleetSettled). IsFleetSettled mailboxes.items (lists_of f.dumps.items) f.nodes.items) → vec_len fleet.dumps ≡ number
dumps_had mailboxes number had fleet is many settled =
    let all : length mailboxes.items ≡ number = omega (arith, many, mailboxes.ok) in
    let each : length fleet.dumps.items ≡ number =
    dumps_each mailboxes.items number fleet all (had_so (λ (f : FleetSettled). IsFleetSettled mailboxes.items (lists_of f.dumps.items) f.nodes.items) had fleet is settled) in
    omega (arith, each, fleet.dumps.ok)

-- what was written of the books is what they come to
pub ends_at : (servers : List Begun) (number : ℕ) (fleet : FleetSettled) (books : Books) (told : Result Ended RunFault) (a b : Stage)
    → length servers ≡ number → IsFleetSettled servers (lists_of fleet.dumps.items) fleet.nodes.items
    → books.nodes.items ≡ fleet.nodes.items → (entries : List Entry) × Judges number entries (lists_of fleet.dumps.items) books.verdict
    → IfOk told (λ ended. (ended_status ended ≡ verdict_status books.verdict) × Gathers a b (books_text number books.totals books.nodes.items books.verdict) [])
    → IfOk told (λ ended. (text : List ℕ) × EndsAt servers number ended text × Gathers a b text [])
ends_at servers number fleet books (Err fault) a b many settled nodes judged written = tt
ends_at servers number fleet books (Ok ended) a b many settled nodes (entries, judges) written = (
  books_text number books.totals books.nodes.items books.verdict,
  record {
    totals = books.totals;
    nodes = books.nodes.items;
    verdict = books.verdict;
    settled = subst (SettlesAll servers) (sym nodes) settled.settled;
    judged = record { entries = entries; dumps = lists_of fleet.dumps.items; held = settled.held; each = dumps_number servers number fleet many settled; judges = judges };
    printed = refl;
    status = written.0;
  },
  written.1,
)

-- the end of a run stands behind its lines
pub run_ends : (servers : List Begun) (number : ℕ) (passed told ended : Ended) (a b c : Account) → (text : List ℕ) × TakesBytes a b text → (text : List ℕ) × EndsAt servers number told text × TakesBytes b c text
    → ended_status ended ≡ max (ended_status passed) (ended_status told) → EndsRunAt servers number ended a c
run_ends servers number passed told ended a b c (lines, one) (text, end, two) both =
    record { lines = lines; text = text; told = told; end = end; took = TakesBytes-trans a b c lines text one two; status = omega (arith, both) }

pub prints_run : (servers : List Begun) (number : ℕ) (result : Result Ended RunFault) (a b : Account) → (text : List ℕ) × TakesBytes a b text
    → IfOk result (λ ended. EndsRunAt servers number ended a b) → PrintsRun number result a b
prints_run servers number (Err fault) a b took ends = took
prints_run servers number (Ok ended) a b took ends =
    let end = ends.end in (
      ends.lines,
      end.totals,
      end.nodes,
      end.verdict,
      subst (λ (text : List ℕ). TakesBytes a b (ends.lines ++ text)) end.printed ends.took,
      omega (arith, end.status, ends.status),
    )

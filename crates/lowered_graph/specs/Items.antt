-- The items of a program and their faults: what cannot be lowered because a list is too long or a number too big.
use Rattle.std.specs.Prelude.{ℕ, zero, suc, ◌+◌, Bool, true, false, not, ◌&&◌, ◌||◌, nat_eq, List, [], ◌∷◌, ◌++◌, map, length, Option, None, Some, slice_get, if◌then◌else◌}
use Rattle.std.specs.List.{list_any}
use Rattle.boogie_tree.specs.declared.span.Span.{Span}
use Rattle.boogie_tree.specs.declared.tree.VarInfo.{VarInfo}
use Rattle.typed_tree.specs.TypedTree.{TypedExpression, TypedInvariant, TypedStatement, Assert, Assume, Havoc, Assign, Call, If, While, Break, Goto, Return, Label, TypedBlock, Empty, Then, TypedProcedure, TypedProgram}
use Rattle.typed_tree.specs.BrokenRules.{expression_span}
use Rattle.typed_tree.specs.TypingRules.Counts.{checked_at_call}
use Rattle.letter_acts.specs.Frames.{Columns}
use Rattle.cond_jumps.specs.Conjunctions.{Plan, is_wide, all_fit}
use Rattle.cond_jumps.specs.Frames.{fixed_in}
use Rattle.cond_jumps.specs.Lists.{assign_width}
use Rattle.cond_jumps.specs.FreeProducts.FrameLetters.{widened, product_count, all_product_count, passed_count, told_condition, freed_path_plan, freed_assign_plan, freed_passed_plan}
use Rattle.boogie_run.specs.BoogiePoints.Points.{Todo, Start, Entry, Body, Exit, Stage, Point}
use Rattle.boogie_run.specs.BoogiePoints.Actions as actions
use Rattle.boogie_run.specs.BoogiePoints.Actions.{Action, action_at, plain_conditions, free_conditions, ensured_conditions}
use Rattle.boogie_run.specs.BoogiePoints.Starts.{targets_at}
use Rattle.boogie_run.specs.BoogiePlaces.Places.{Place, parts_from, program_places}
use Rattle.lowered_graph.specs.LoweredSteps.ProgramFrames.{frame_at, width_at}
use Rattle.lowered_graph.specs.LoweredSteps.Edges.{import_written, import_products, import_plan, those_in, call_plan, local_count, numbers_in}
use Rattle.boogie_tree.specs.Apart.{nowhere}
use Rattle.boogie_tree.specs.Spans.{stands_before}

-- ---- the lists that the edges of a place need

-- how a list is put together, and the number of its first helper column
pub record Needed : Type 0 where
  pub plan : Plan
  pub base : ℕ

-- of a condition over a frame whose locals have numbers below m, and its products
abbrev pub path_needed : Columns → ℕ → TypedExpression → Bool → Needed
path_needed frame m e want = record { plan = freed_path_plan frame m e want; base = length (widened frame m (product_count frame e)) }

-- of an assignment of these values to so many columns
abbrev pub assign_needed : Columns → ℕ → List TypedExpression → ℕ → Needed
assign_needed frame m es count = record { plan = freed_assign_plan frame m es; base = assign_width (widened frame m (all_product_count frame es)) count }

-- of a requires of a called procedure, told with these arguments
abbrev pub told_needed : Columns → ℕ → List TypedExpression → TypedExpression → Bool → Needed
told_needed frame m args e want = record { plan = freed_passed_plan frame m args e want; base = length (widened frame m (passed_count frame args e)) }

abbrev pub passed_needed : Columns → ℕ → List TypedExpression → TypedExpression → Bool → Needed
passed_needed frame m args e want = told_needed frame m args (told_condition (fixed_in frame) args e) want

-- all ensures of a procedure without body together, behind a helper for each modified global that is a target, too
abbrev pub import_needed : Columns → ℕ → List VarInfo → Option TypedProcedure → List TypedExpression → List ℕ → List Needed
import_needed frame m globals None args targets = []
import_needed frame m globals (Some q) args targets =
    record {
      plan = import_plan frame m globals q args targets;
      base = length frame + import_products frame q args + length (import_written q.modifies targets) + length (those_in targets q.modifies);
    }
    ∷ []

-- the rows of a call
abbrev pub call_needed : TypedProgram → ℕ → ℕ → List TypedExpression → Needed
call_needed t n f args = record {
  plan = call_plan t n args;
  base = width_at t n + all_product_count (frame_at t n) args + width_at t f;
}

abbrev pub import_at : TypedProgram → ℕ → Point → ℕ → List TypedExpression → List Needed
import_at t n here f args = import_needed (frame_at t n) (local_count t n) t.globals (slice_get t.procs f) args (numbers_in (frame_at t n) (targets_at here.todo))

abbrev pub needed_by : TypedProgram → ℕ → Point → Action → List Needed
needed_by t n here (actions.Check i at e next) = path_needed (frame_at t n) (local_count t n) e true ∷ path_needed (frame_at t n) (local_count t n) e false ∷ []
needed_by t n here (actions.Suppose e next) = path_needed (frame_at t n) (local_count t n) e true ∷ []
needed_by t n here (actions.Demand i at e args next) = passed_needed (frame_at t n) (local_count t n) args e true ∷ passed_needed (frame_at t n) (local_count t n) args e false ∷ []
needed_by t n here (actions.Write cs es next) = assign_needed (frame_at t n) (local_count t n) es (length cs) ∷ []
needed_by t n here (actions.Guess c next) = []
needed_by t n here (actions.Test e hit miss) = path_needed (frame_at t n) (local_count t n) e true ∷ path_needed (frame_at t n) (local_count t n) e false ∷ []
needed_by t n here (actions.Pick ways) = []
needed_by t n here (actions.Jump next) = []
needed_by t n here (actions.Enter f args) = call_needed t n f args ∷ []
needed_by t n here (actions.Keep f args c next) = import_at t n here f args
needed_by t n here (actions.Grant f args e next) = import_at t n here f args
needed_by t n here (actions.Finish f args targets next) = import_at t n here f args
needed_by t n here actions.Leave = []

abbrev pub needed_at : TypedProgram → Place → List Needed
needed_at t p = needed_by t p.proc p.point (action_at t p.proc p.point)

-- ---- items

-- an item: where it stands in the text, and the lists that its edges need
pub record ProgramItem : Type 0 where
  pub span : Span
  pub needed : List Needed

abbrev pub statement_span : TypedStatement → Span
statement_span (Assert at e) = at
statement_span (Assume at e) = at
statement_span (Havoc at cs) = at
statement_span (Assign at cs es) = at
statement_span (Call at cs f es) = at
statement_span (If at g x y) = at
statement_span (While at g is x) = at
statement_span (Break at n) = at
statement_span (Goto at ks) = at
statement_span (Return at) = at
statement_span (Label n) = nowhere

abbrev pub condition_span : Span → Option TypedInvariant → Span
condition_span at None = at
condition_span at (Some i) = i.span

-- a condition that is assumed at the start: an axiom, or else a requires of the entry
abbrev pub start_span : List TypedExpression → List TypedInvariant → ℕ → Span
start_span [] is part = condition_span nowhere (slice_get is part)
start_span (e ∷ es) is zero = expression_span e
start_span (e ∷ es) is (suc part) = start_span es is part

-- an invariant of a loop is an item of its own
abbrev pub span_of : TypedStatement → ℕ → Span
span_of (While at g is x) part = condition_span at (slice_get is part)
span_of s part = statement_span s

abbrev pub block_span : TypedBlock → ℕ → Span
block_span Empty part = nowhere
block_span (Then s b) part = span_of s part

abbrev pub todo_span : List Todo → ℕ → Span
todo_span [] part = nowhere
todo_span (d ∷ ds) part = block_span d.rest part

abbrev pub stage_span : TypedProgram → TypedProcedure → Stage → List Todo → ℕ → Span
stage_span t q Start todo part = start_span t.axioms (plain_conditions q.specs) part
stage_span t q Entry todo part = condition_span nowhere (slice_get (free_conditions q.specs) part)
stage_span t q Body todo part = todo_span todo part
stage_span t q Exit todo part = condition_span nowhere (slice_get (ensured_conditions q.specs) part)

abbrev pub span_if_any : TypedProgram → Option TypedProcedure → Point → Span
span_if_any t None p = nowhere
span_if_any t (Some q) p = stage_span t q p.stage p.todo p.part

-- where the item at a place stands in the text
abbrev pub place_span : TypedProgram → Place → Span
place_span t p = span_if_any t (slice_get t.procs p.proc) p.point

-- how many places a statement has as one item: a call has those of the requires that it asserts, and its own
abbrev pub statement_parts : TypedProgram → TypedStatement → ℕ
statement_parts t (Call at cs f es) = checked_at_call (slice_get t.procs f) + 1
statement_parts t s = 1

abbrev pub block_parts : TypedProgram → TypedBlock → ℕ
block_parts t Empty = 1
block_parts t (Then s b) = statement_parts t s

abbrev pub todo_parts : TypedProgram → List Todo → ℕ
todo_parts t [] = 1
todo_parts t (d ∷ ds) = block_parts t d.rest

abbrev pub stage_parts : TypedProgram → Stage → List Todo → ℕ
stage_parts t Start todo = 1
stage_parts t Entry todo = 1
stage_parts t Body todo = todo_parts t todo
stage_parts t Exit todo = 1

-- the places of the item that begins at a place
abbrev pub item_places : TypedProgram → Place → List Place
item_places t p = map (λ point. record { proc = p.proc; point = point }) (parts_from p.point p.point.part (stage_parts t p.point.stage p.point.todo))

abbrev pub all_needed : TypedProgram → List Place → List Needed
all_needed t [] = []
all_needed t (p ∷ ps) = needed_at t p ++ all_needed t ps

-- a further part of a call belongs to the item of its first one
abbrev pub begins_item : TypedProgram → Place → Bool
begins_item t p = nat_eq p.point.part 0 || nat_eq (stage_parts t p.point.stage p.point.todo) 1

abbrev pub items_at : TypedProgram → Place → List ProgramItem
items_at t p = if begins_item t p then record { span = place_span t p; needed = all_needed t (item_places t p) } ∷ [] else []

abbrev pub items_of : TypedProgram → List Place → List ProgramItem
items_of t [] = []
items_of t (p ∷ ps) = items_at t p ++ items_of t ps

-- the axioms, statements and invariants, the plain requires of the entry, and free requires and ensures; other requires count with the calls
abbrev pub program_items : TypedProgram → List ProgramItem
program_items t = items_of t (program_places t)

-- ---- faults

-- an item cannot be lowered: it is too wide or, else, one of its numbers is too big
pub data ItemFault : Type 0 where
  TooWide : Span → ItemFault
  TooBig : Span → ItemFault

abbrev pub is_too_wide : ProgramItem → Bool
is_too_wide i = list_any (λ n. is_wide n.plan n.base) i.needed

abbrev pub is_too_big : ProgramItem → Bool
is_too_big i = list_any (λ n. not (all_fit n.plan n.base)) i.needed

abbrev pub fault_span : ItemFault → Span
fault_span (TooWide at) = at
fault_span (TooBig at) = at

-- the fault of an item, if any; where it has both, it is too wide
abbrev pub item_fault : ProgramItem → Option ItemFault
item_fault i = if is_too_wide i then Some (TooWide i.span) else (if is_too_big i then Some (TooBig i.span) else None)

-- of two faults the one that stands first in the text; of two at one place the first one
abbrev pub earlier : Option ItemFault → Option ItemFault → Option ItemFault
earlier None g = g
earlier (Some f) None = Some f
earlier (Some f) (Some g) = if stands_before (fault_span g) (fault_span f) then Some g else Some f

abbrev pub first_of : List ProgramItem → Option ItemFault
first_of [] = None
first_of (i ∷ is) = earlier (item_fault i) (first_of is)

-- the fault of the first item in the text that has one
abbrev pub first_fault : TypedProgram → Option ItemFault
first_fault t = first_of (program_items t)

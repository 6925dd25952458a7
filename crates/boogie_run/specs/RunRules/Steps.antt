-- The rules of runs: what a step may lead to, and which assertion it may fail.
use Rattle.std.specs.Prelude.{◌≡◌, ℕ, ◌+◌, ℤ, Bool, true, false, List, [], ◌∷◌, ◌++◌, map, length, take, drop, Option, None, Some, unwrap_or, slice_get, if◌then◌else◌}
use Rattle.boogie_tree.specs.declared.tree.Column.{Column}
use Rattle.boogie_tree.specs.declared.tree.Column.TheVariants as columns
use Rattle.typed_tree.specs.TypedTree.{TypedExpression, TypedStatement, Assert, Assume, Havoc, Assign, Call, If, While, Break, Goto, Return, Label, TypedBlock, Empty, Then, TypedProcedure, TypedProgram}
use Rattle.typed_tree.specs.Values.{State, value}
use Rattle.typed_tree.specs.TypingRules.Counts.{block_assertions, plain_invariants}
use Rattle.boogie_run.specs.BoogiePoints.Actions.{plain_conditions, free_conditions, ensured_conditions, chosen_columns, first_assertion}
use Rattle.boogie_run.specs.RunRules.Moments.{OpenBlock, Activation, Moment, seen, going_on, with_values, begun, behind_statement, broken_out, label_in_block}
use Rattle.boogie_run.specs.RunRules.Conditions.{IsMet, IsUnmet, AreMet, Breaks, Lets, AreOfTypes, column_type}

-- the procedure of that number; an empty one where there is none
abbrev pub procedure_numbered : TypedProgram → ℕ → TypedProcedure
procedure_numbered t n = unwrap_or (slice_get t.procs n) (record { name = []; params = 0; results = 0; locals = []; modifies = []; specs = []; body = None })

-- the statements of a procedure, none where it has no body
abbrev pub statements_of : TypedProcedure → TypedBlock
statements_of q = unwrap_or q.body Empty

-- what the requires of a called procedure read: its parameters are the arguments
abbrev pub with_parameters : State → List TypedExpression → State
with_parameters s args = record s { locals = map (value s) args }

-- procedure f begins with these locals; its results go to targets of the procedure that runs, which goes on with what is after the call
abbrev pub called : TypedProgram → Moment → ℕ → List ℤ → List Column → List OpenBlock → Moment
called t m f locals targets after =
    record {
      globals = m.globals;
      top = record { proc = f; locals = locals; entry = m.globals; pending = begun (statements_of (procedure_numbered t f)) false (first_assertion t.procs f) ∷ []; targets = targets };
      below = (going_on m after).top ∷ m.below;
    }

-- the globals that a procedure modifies have the first of the chosen values
abbrev pub modified : TypedProgram → Moment → ℕ → List ℤ → Moment
modified t m f chosen = with_values m (map columns.Global (procedure_numbered t f).modifies) chosen

-- what the ensures of a call without body read: the modified globals, and as locals the arguments and then the other chosen values
abbrev pub granted : TypedProgram → Moment → ℕ → List ℤ → List ℤ → State
granted t m f args chosen =
    record { globals = (modified t m f chosen).globals; old = m.globals; locals = args ++ drop (length (procedure_numbered t f).modifies) chosen }

-- A call whose requires are met. With a body the procedure begins with any values of its locals that are no parameters, if its free requires are met. Without
-- one the globals that it modifies and its results get any values with which its ensures are met.
abbrev pub CalledLeads : TypedProgram → Moment → ℕ → Option TypedBlock → List Column → List TypedExpression → List OpenBlock → Moment → Type 0
CalledLeads t m f (Some b) targets args after d =
    (others : List ℤ) × AreOfTypes (map (λ v. v.ty) (drop (length args) (procedure_numbered t f).locals)) others
    × (d ≡ called t m f (map (value (seen m)) args ++ others) targets after) × AreMet (seen d) (free_conditions (procedure_numbered t f).specs)
CalledLeads t m f None targets args after d =
    (chosen : List ℤ) × AreOfTypes (map (column_type t.globals (procedure_numbered t f).locals) (chosen_columns (procedure_numbered t f))) chosen
    × AreMet (granted t m f (map (value (seen m)) args) chosen) (ensured_conditions (procedure_numbered t f).specs)
    × (d ≡ with_values (going_on (modified t m f chosen) after) targets (drop (length (procedure_numbered t f).modifies) chosen))

-- where a goto to label k leads
abbrev pub at_label : TypedProgram → Moment → ℕ → List OpenBlock
at_label t m k =
    let b : TypedBlock = statements_of (procedure_numbered t m.top.proc) in
    unwrap_or (label_in_block t.procs k b (begun b false (first_assertion t.procs m.top.proc)) []) []

-- The first statement of a block leads to d: `here` are the blocks with it, `after` those behind it, and id is the number of its first assertion.
abbrev pub StatementLeads : TypedProgram → Moment → TypedStatement → List OpenBlock → List OpenBlock → ℕ → Moment → Type 0
StatementLeads t m (Assert at e) here after id d = IsMet (seen m) e × (d ≡ going_on m after)
StatementLeads t m (Assume at e) here after id d = IsMet (seen m) e × (d ≡ going_on m after)
StatementLeads t m (Havoc at cs) here after id d =
    (vs : List ℤ) × AreOfTypes (map (column_type t.globals (procedure_numbered t m.top.proc).locals) cs) vs × (d ≡ going_on (with_values m cs vs) after)
StatementLeads t m (Assign at cs es) here after id d = d ≡ going_on (with_values m cs (map (value (seen m)) es)) after
StatementLeads t m (Call at cs f es) here after id d =
    AreMet (with_parameters (seen m) es) (plain_conditions (procedure_numbered t f).specs) × CalledLeads t m f (procedure_numbered t f).body cs es after d
StatementLeads t m (If at g x y) here after id d =
    (goes_in : Bool) × Lets (seen m) g goes_in
    × (d ≡ going_on m ((if goes_in then begun x false id else begun y false (id + block_assertions t.procs x)) ∷ after))
StatementLeads t m (While at g is x) here after id d =
    AreMet (seen m) is × (goes_in : Bool) × Lets (seen m) g goes_in
    × (d ≡ going_on m (if goes_in then begun x true (id + plain_invariants is) ∷ here else after))
StatementLeads t m (Break at n) here after id d = d ≡ going_on m (broken_out t.procs n here)
StatementLeads t m (Goto at []) here after id d = d ≡ going_on m []
StatementLeads t m (Goto at (l ∷ ls)) here after id d = (n : ℕ) × (k : ℕ) × (slice_get (l ∷ ls) n ≡ Some k) × (d ≡ going_on m (at_label t m k))
StatementLeads t m (Return at) here after id d = d ≡ going_on m []
StatementLeads t m (Label n) here after id d = d ≡ going_on m after

-- The innermost block leads to d. At its end what stands below it goes on: below the body of a loop that is the loop.
abbrev pub BlockLeads : TypedProgram → Moment → TypedBlock → OpenBlock → List OpenBlock → Moment → Type 0
BlockLeads t m Empty p under d = d ≡ going_on m under
BlockLeads t m (Then s b) p under d = StatementLeads t m s (p ∷ under) (behind_statement t.procs s b p ∷ under) p.id d

-- the procedure that runs returns to its caller, if its ensures are met
abbrev pub ReturnLeads : TypedProgram → Moment → List Activation → Moment → Type 0
ReturnLeads t m [] d = ⊥
ReturnLeads t m (caller ∷ callers) d =
    AreMet (seen m) (ensured_conditions (procedure_numbered t m.top.proc).specs)
    × (d ≡ with_values (record { globals = m.globals; top = caller; below = callers }) m.top.targets (take (procedure_numbered t m.top.proc).results (drop (procedure_numbered t m.top.proc).params m.top.locals)))

-- with these blocks not done a step may lead from m to d
abbrev pub BlocksLead : TypedProgram → Moment → List OpenBlock → Moment → Type 0
BlocksLead t m [] d = ReturnLeads t m m.below d
BlocksLead t m (p ∷ under) d = BlockLeads t m p.rest p under d

-- ---- failures

-- the first statement of a block may fail assertion n, where its first one has number id
abbrev pub StatementFails : TypedProgram → Moment → TypedStatement → ℕ → ℕ → Type 0
StatementFails t m (Assert at e) id n = IsUnmet (seen m) e × (id ≡ n)
StatementFails t m (Call at cs f es) id n = Breaks (with_parameters (seen m) es) (plain_conditions (procedure_numbered t f).specs) id n
StatementFails t m (While at g is x) id n = Breaks (seen m) is id n
StatementFails t m s id n = ⊥

abbrev pub BlockFails : TypedProgram → Moment → TypedBlock → ℕ → ℕ → Type 0
BlockFails t m Empty id n = ⊥
BlockFails t m (Then s b) id n = StatementFails t m s id n

-- with these blocks not done a step may fail assertion n; with none, one of the ensures, which are numbered behind the assertions of the statements
abbrev pub FailsBy : TypedProgram → Moment → List OpenBlock → ℕ → Type 0
FailsBy t m [] n =
    Breaks (seen m) (ensured_conditions (procedure_numbered t m.top.proc).specs)
    (first_assertion t.procs m.top.proc + block_assertions t.procs (statements_of (procedure_numbered t m.top.proc))) n
FailsBy t m (p ∷ under) n = BlockFails t m p.rest p.id n

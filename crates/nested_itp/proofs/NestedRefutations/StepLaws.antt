-- Along an accepted word the leaves of each triple's refutation contradict their rows, and where it stops at a group, one waits.
use Rattle.std.proofs.Common.{◌≡◌, ℕ, suc, ℤ, Bool, true, false, List, [], ◌∷◌, ◌++◌, length, refl, sym, subst, Option, None, Some}
use Rattle.std.specs.List.{AllByRecursion}
use Rattle.farkas_check.specs.Trees.{Tree, prefix_of, TreeRefutes}
use Rattle.nwa_base.specs.declared.letters.Letter.{Letter}
use Rattle.nwa_base.specs.Automata.{IsAutomaton}
use Rattle.nwa_base.specs.Acceptance.{Accepts}
use Rattle.lin_rows.specs.Rows.{LinearRow}
use Rattle.letter_acts.specs.Frames.{Columns}
use Rattle.letter_acts.specs.Acts.{Alphabet, PlainAct, inside_act, call_act, back_act, act_of, frame_of}
use Rattle.letter_acts.specs.Invariant.{Graph, IsGraph, alphabet_of}
use Rattle.path_rows.specs.Paths.{path_of}
use Rattle.nested_itp.specs.NestedPredicates.Stamps.{stamps_of}
use Rattle.nested_itp.specs.NestedPredicates.Positions.{has_return, Position}
use Rattle.nested_itp.specs.NestedPredicates.Sums.{Branch, root_of}
use Rattle.nested_itp.specs.NestedPredicates.Interpolants.{RefutesRows}
use Rattle.nested_itp.proofs.NestedPredicates.EndLaws.{rows_goal, tree_refutes}
use Rattle.nested_itp.specs.NestedRefutations.Numbers.{Step, inside_step, call_step, back_step, Reading, position_here, read_on, OpenCall, steps_back, step_by, steps_along, steps_of, AreCutsAt}
use Rattle.nested_itp.specs.NestedRefutations.Refuting.{StepRefutes}
use Rattle.nested_itp.specs.NestedRefutations.Waiting.{StepWaits}
use Rattle.nested_itp.proofs.NestedRefutations.WordLaws.{HaveGlobals, global_count}
use Rattle.nested_itp.proofs.NestedRefutations.AlongLaws.{first_reading, Along, along_start, along_next}
use Rattle.nested_itp.proofs.NestedRefutations.InsideAtLaws.{inside_at, inside_to_is}
use Rattle.nested_itp.proofs.NestedRefutations.InsideColumnLaws.{InsideLetter}
use Rattle.nested_itp.proofs.NestedRefutations.InsideBeginLaws.{inside_refutes, inside_waits}
use Rattle.nested_itp.proofs.NestedRefutations.ClaimLaws.{AddsUp}
use Rattle.nested_itp.proofs.NestedRefutations.LeavesLaws.{LeafFacts}
use Rattle.nested_itp.proofs.NestedRefutations.CallAtLaws.{call_at, call_to_is}
use Rattle.nested_itp.proofs.NestedRefutations.CallColumnLaws.{CallLetter, call_view, call_root, call_first}
use Rattle.nested_itp.proofs.NestedRefutations.CallBeginLaws.{call_refutes, call_waits}
use Rattle.nested_itp.proofs.NestedRefutations.OpenLaws.{Stacked, stacked_start, stacked_next}
use Rattle.nested_itp.proofs.NestedRefutations.BackAtLaws.{BackAt, back_at, back_to_is, back_step_at}
use Rattle.nested_itp.proofs.NestedRefutations.BackBeginLaws.{back_refutes, back_waits}
use Rattle.nested_itp.proofs.NestedRefutations.QuietLaws.{Quiet, quiet_start, quiet_next}
use Rattle.nested_itp.proofs.NestedRefutations.PendingLaws.{CallOpens, pending_adds}
use Rattle.nested_itp.proofs.NestedRefutations.ReturningLaws.{returning_adds}

all_joined : {X : Type 0} (P : X → Type 0) (xs ys : List X) → AllByRecursion P xs → AllByRecursion P ys → AllByRecursion P (xs ++ ys)
all_joined P [] ys h k = k
all_joined P (x ∷ xs) ys h k = (h.0, all_joined P xs ys h.1 k)

call_adds : (c : CallLetter) → CallOpens c → (more : List LinearRow) (late : List ℕ) (n : ℕ) (b : Branch) (parts : List (ℕ × ℤ)) → LeafFacts (call_view c) (call_root c) more late n b parts →
    AddsUp (call_view c) (call_root c) (call_first c) more late n b parts
call_adds c o = by_return (has_return 0 c.rest) refl
  where
    by_return : (z : Bool) → has_return 0 c.rest ≡ z → (more : List LinearRow) (late : List ℕ) (n : ℕ) (b : Branch) (parts : List (ℕ × ℤ)) → LeafFacts (call_view c) (call_root c) more late n b parts →
        AddsUp (call_view c) (call_root c) (call_first c) more late n b parts
    by_return true e = returning_adds c e o
    by_return false e = pending_adds c e o

-- what each step has
abbrev StepHolds : Graph → List Letter → Tree → Step → Type 0
StepHolds g w t s = (AreCutsAt (length (stamps_of g w).columns) t → StepRefutes g w t s) × StepWaits g w t s

-- the step of a return, at its open call
back_letter : (g : Graph) (globals : ℕ) (w : List Letter) (t : Tree) (r : Reading) (a : Letter) (rest : List Letter) (targets : List ℕ) (h : BackAt g globals w r a rest targets) →
    StepHolds g w t (back_step_at g w t r a h.call h.scopes h.open_at.caller h.open_at.callee h.open_at.helpers h.open_at.rows targets h.before) →
    AllByRecursion (StepHolds g w t) (step_by g w t a.id (act_of (alphabet_of g) a) rest r (position_here (read_on (alphabet_of g) a rest r)))
back_letter g globals w t r a rest targets h holds =
    let al : Alphabet = alphabet_of g in
    let f1 : Columns = frame_of al h.open_at.caller in
    let f2 : Columns = frame_of al h.open_at.callee in
    subst (λ (act : Option PlainAct). AllByRecursion (StepHolds g w t) (step_by g w t a.id act rest r (position_here (read_on (alphabet_of g) a rest r)))) (sym h.act_is)
    (subst (λ (act : Option PlainAct). AllByRecursion (StepHolds g w t) (steps_back g w t a.id targets r.calls (position_here r) (position_here (read_on (alphabet_of g) a rest r)) act)) (sym h.call_there)
    (subst (λ (calls : List OpenCall). AllByRecursion (StepHolds g w t) (steps_back g w t a.id targets calls (position_here r) (position_here (read_on (alphabet_of g) a rest r))
    (Some (call_act h.open_at.caller h.open_at.callee h.open_at.helpers h.open_at.rows)))) (sym h.calls_are)
    (subst (λ (to : Position). StepHolds g w t (back_step g w t a.id h.call (position_here r) to f1 f2 h.open_at.helpers h.open_at.rows targets)) (sym (back_to_is g globals w r a rest targets h)) holds, tt)))

letter_holds : (g : Graph) → IsGraph g → (globals : ℕ) → HaveGlobals g globals → (w : List Letter) (t : Tree) → TreeRefutes t (rows_goal (root_of g w)) →
    (r : Reading) (a : Letter) (rest : List Letter) → Along g globals w r (a ∷ rest) → Stacked g globals w r (a ∷ rest) → Quiet g globals w r → (act : Option PlainAct) → act_of (alphabet_of g) a ≡ act →
    AllByRecursion (StepHolds g w t) (step_by g w t a.id act rest r (position_here (read_on (alphabet_of g) a rest r)))
letter_holds g ok globals have w t refuted r a rest h stack quiet None e = tt
letter_holds g ok globals have w t refuted r a rest h stack quiet (Some (inside_act q written helpers rows)) e =
    let at = inside_at g ok globals w r a rest h q written helpers rows e in
    let c : InsideLetter = record { g = g; globals = globals; w = w; t = t; r = r; a = a; rest = rest; q = q; written = written; helpers = helpers; rows = rows; at = at } in
    let step : Position → Step = λ to. inside_step g w t a.id (suc r.letters) r.rows r.stage.made (position_here r) to (frame_of (alphabet_of g) q) written helpers rows in
    (subst (λ (to : Position). StepHolds g w t (step to)) (sym (inside_to_is g globals w r a rest q written helpers rows at)) (λ cuts. inside_refutes c have refuted cuts, inside_waits c refuted), tt)
letter_holds g ok globals have w t refuted r a rest h stack quiet (Some (call_act caller callee helpers rows)) e =
    let at = call_at g ok globals w r a rest h caller callee helpers rows e in
    let c : CallLetter = record { g = g; globals = globals; w = w; t = t; r = r; a = a; rest = rest; caller = caller; callee = callee; helpers = helpers; rows = rows; at = at } in
    let step : Position → Step = λ to.
    call_step g w t a.id (suc r.letters) r.rows r.stage.made (has_return 0 rest) (position_here r) to (frame_of (alphabet_of g) caller) (frame_of (alphabet_of g) callee) helpers rows in
    (subst (λ (to : Position). StepHolds g w t (step to)) (sym (call_to_is g globals w r a rest caller callee helpers rows at)) (λ cuts. call_refutes c refuted cuts (call_adds c), call_waits c refuted), tt)
letter_holds g ok globals have w t refuted r a rest h stack quiet (Some (back_act c targets)) e =
    let at : BackAt g globals w r a rest targets = back_at g ok globals w r a rest h stack c targets e in
    subst (λ (act : Option PlainAct). AllByRecursion (StepHolds g w t) (step_by g w t a.id act rest r (position_here (read_on (alphabet_of g) a rest r)))) e
    (back_letter g globals w t r a rest targets at
    (λ cuts. back_refutes g ok globals have w t r a rest targets at quiet refuted cuts, back_waits g ok globals have w t r a rest targets at quiet refuted))

letters_hold : (g : Graph) → IsGraph g → (globals : ℕ) → HaveGlobals g globals → (w : List Letter) (t : Tree) → TreeRefutes t (rows_goal (root_of g w)) →
    (rest : List Letter) (r : Reading) → Along g globals w r rest → Stacked g globals w r rest → Quiet g globals w r → AllByRecursion (StepHolds g w t) (steps_along g w t r rest)
letters_hold g ok globals have w t refuted [] r h stack quiet = tt
letters_hold g ok globals have w t refuted (a ∷ rest) r h stack quiet =
    let next : Reading = read_on (alphabet_of g) a rest r in
    all_joined (StepHolds g w t) (step_by g w t a.id (act_of (alphabet_of g) a) rest r (position_here next)) (steps_along g w t next rest)
    (letter_holds g ok globals have w t refuted r a rest h stack quiet (act_of (alphabet_of g) a) refl)
    (letters_hold g ok globals have w t refuted rest next (along_next g ok globals w r a rest h) (stacked_next g ok globals have w r a rest h stack)
    (quiet_next g ok globals have w r a rest h stack quiet))

all_weaker : {X : Type 0} (P Q : X → Type 0) → ((x : X) → P x → Q x) → (xs : List X) → AllByRecursion P xs → AllByRecursion Q xs
all_weaker P Q f [] h = tt
all_weaker P Q f (x ∷ xs) h = (f x h.0, all_weaker P Q f xs h.1)

steps_hold : (g : Graph) (w : List Letter) (t : Tree) → IsGraph g → IsAutomaton g.automaton → Accepts g.automaton w → RefutesRows (prefix_of t) (path_of g w).rows →
    AllByRecursion (StepHolds g w t) (steps_of g w t)
steps_hold g w t ok m acc refutes =
    let n = global_count g ok in
    letters_hold g ok n.0 n.1 w t (tree_refutes t g w refutes) w (first_reading g) (along_start g ok m n.0 n.1 w acc) (stacked_start g n.0 w acc) (quiet_start g n.0 w)

pub steps_refute : (g : Graph) (w : List Letter) (t : Tree) → IsGraph g → IsAutomaton g.automaton → Accepts g.automaton w → RefutesRows (prefix_of t) (path_of g w).rows →
    AreCutsAt (length (stamps_of g w).columns) t → AllByRecursion (StepRefutes g w t) (steps_of g w t)
steps_refute g w t ok m acc refutes cuts =
    all_weaker (StepHolds g w t) (StepRefutes g w t) (λ s h. h.0 cuts) (steps_of g w t) (steps_hold g w t ok m acc refutes)

pub steps_wait : (g : Graph) (w : List Letter) (t : Tree) → IsGraph g → IsAutomaton g.automaton → Accepts g.automaton w → RefutesRows (prefix_of t) (path_of g w).rows →
    AllByRecursion (StepWaits g w t) (steps_of g w t)
steps_wait g w t ok m acc refutes = all_weaker (StepHolds g w t) (StepWaits g w t) (λ s h. h.1) (steps_of g w t) (steps_hold g w t ok m acc refutes)

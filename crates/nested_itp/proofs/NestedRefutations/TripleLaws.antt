-- The groups of the system of each step's triple are those that wait where its refutation begins, so a tree that is put down from there refutes it.
use Rattle.std.proofs.Common.{◌≡◌, ◌∙◌, ℕ, suc, ◌+◌, pos, Bool, List, [], ◌∷◌, ◌++◌, length, map, refl, sym, ap, subst, arith, append_assoc, length-append, Option, None, Some}
use Rattle.std.specs.Prelude.{not, filter, slice_get, IfSome}
use Rattle.std.specs.List.{AllByRecursion}
use Rattle.std.proofs.lemmas.List.{length-map}
use Rattle.lin_rows.specs.declared.systems.System.{System}
use Rattle.lin_rows.specs.Rows.{LinearRow}
use Rattle.lin_rows.specs.Systems.{rows_of, groups_of}
use Rattle.lin_rows.specs.Tightening.{never, tightened}
use Rattle.lin_rows.specs.Combinations.{Contradicts}
use Rattle.farkas_check.specs.Refutes.{goal_of, Refutes}
use Rattle.farkas_check.specs.Trees.{Tree, leaf_tree, prefix_of, TreeRefutes}
use Rattle.farkas_check.proofs.TreeLaws.{refutes_as_tree}
use Rattle.nwa_base.specs.declared.letters.Letter.{Letter}
use Rattle.nwa_base.specs.Automata.{IsAutomaton}
use Rattle.nwa_base.specs.Acceptance.{Accepts}
use Rattle.letter_acts.specs.Frames.{Columns, globals_of, constants_of, variables_of, result_columns, olds_of}
use Rattle.letter_acts.specs.Reading.{taken, is_listed}
use Rattle.letter_acts.specs.Acts.{PlainAct, inside_act, call_act, back_act, Alphabet, frame_of, act_of}
use Rattle.letter_acts.specs.Invariant.{Graph, IsGraph, alphabet_of, written_by}
use Rattle.letter_acts.proofs.KnownLemmas.{act_found}
use Rattle.path_rows.specs.Paths.{path_of}
use Rattle.triple_rows.specs.Predicates as predicates
use Rattle.triple_rows.specs.Predicates.{Formula, formula_of}
use Rattle.triple_rows.specs.Systems.{PlainSystem, Groups, no_group, groups_joined, only_rows, all_systems, said, denied, after_column, call_column, IsSystem, AreGroups, inside_system, call_system, back_system}
use Rattle.letter_acts.specs.FrameRows.Rows.{equal_row, renamed, bounds, types_of, types_at}
use Rattle.triple_rows.specs.Triples.{inside_system_of, call_system_of, return_system_of, back_system_of, system_of}
use Rattle.triple_rows.proofs.FormulaLaws.{prefix_read}
use Rattle.nested_itp.specs.NestedPredicates.Stamps.{stamps_of}
use Rattle.nested_itp.specs.NestedPredicates.Positions.{has_return, Position}
use Rattle.nested_itp.specs.NestedPredicates.Sums.{root_of}
use Rattle.nested_itp.specs.NestedPredicates.Joins.{predicate_at}
use Rattle.nested_itp.specs.NestedPredicates.Interpolants.{RefutesRows}
use Rattle.nested_itp.proofs.NestedPredicates.EndLaws.{rows_goal, tree_refutes}
use Rattle.nested_itp.specs.NestedRefutations.Refutations.{View, Stop, stops, leaf_from, rows_in}
use Rattle.nested_itp.specs.NestedRefutations.Numbers.{Step, inside_step, call_step, back_step, Reading, position_here, read_on, OpenCall, steps_back, step_by, steps_along, steps_of, groups_from, LeafNumbersFit, IsFalse, begins, AreCutsAt}
use Rattle.nested_itp.specs.NestedRefutations.Refuting.{StepRefutes}
use Rattle.nested_itp.specs.NestedRefutations.Walked.{inside_gaps, call_gaps, return_gaps, back_gaps, gaps_of, false_row, IsWalked, TakesOr, WalkedRefutes}
use Rattle.nested_itp.proofs.NestedRefutations.SpotLaws.{IsUncased}
use Rattle.nested_itp.proofs.NestedRefutations.StopLaws.{refuted_uncased}
use Rattle.nested_itp.proofs.NestedRefutations.AlongLaws.{first_reading}
use Rattle.nested_itp.proofs.NestedRefutations.InsideAtLaws.{inside_system_rows}
use Rattle.nested_itp.proofs.NestedRefutations.CallAtLaws.{call_system_rows}
use Rattle.nested_itp.proofs.NestedRefutations.BackAtLaws.{back_system_rows}
use Rattle.nested_itp.proofs.NestedRefutations.WaitingLaws.{groups_in, both_groups, system_rows, system_groups, waiting, groups_said, groups_begin}
use Rattle.nested_itp.proofs.NestedRefutations.FalseLaws.{row_tightened, never_contradicts, rows_laid, false_row_found, none_false}
use Rattle.nested_itp.proofs.NestedRefutations.WalkedLaws.{refuted_fit, stops_fit, walked_refutes}
use Rattle.nested_itp.proofs.NestedRefutations.StepLaws.{steps_refute}

-- ---- the groups of systems

inside_groups : (frame : Columns) (written : List ℕ) (rows : List LinearRow) (from to : Formula) →
    groups_in (inside_system frame written rows from to) ≡
    groups_joined (groups_in (said (λ c. c) from)) (groups_joined (groups_in (denied (after_column 0 (length frame) written) to)) no_group)
inside_groups frame written rows from to =
    let n : ℕ = length frame in
    let b : PlainSystem = only_rows rows in
    let c : PlainSystem = denied (after_column 0 n written) to in
    let more : List PlainSystem = only_rows (bounds 0 (types_of frame)) ∷ only_rows (bounds n (types_at frame written)) ∷ [] in
    both_groups (said (λ c. c) from) (all_systems (b ∷ c ∷ more)) ∙
    ap (groups_joined (groups_in (said (λ c. c) from))) (both_groups b (all_systems (c ∷ more)) ∙ both_groups c (all_systems more))

call_groups : (caller callee : Columns) (rows : List LinearRow) (from to : Formula) →
    groups_in (call_system caller callee rows from to) ≡
    groups_joined (groups_in (said (λ c. c) from)) (groups_joined (groups_in (denied (λ c. length caller + c) to)) no_group)
call_groups caller callee rows from to =
    let n : ℕ = length caller in
    let b : PlainSystem = only_rows (map (λ c. equal_row (n + c) c) (globals_of callee)) in
    let c : PlainSystem = only_rows (map (λ o. equal_row (n + o.0) o.1) (olds_of callee)) in
    let d : PlainSystem = only_rows rows in
    let e : PlainSystem = denied (λ c. n + c) to in
    let more : List PlainSystem = only_rows (bounds 0 (types_of caller)) ∷ only_rows (bounds n (types_of callee)) ∷ [] in
    both_groups (said (λ c. c) from) (all_systems (b ∷ c ∷ d ∷ e ∷ more)) ∙
    ap (groups_joined (groups_in (said (λ c. c) from)))
    (both_groups b (all_systems (c ∷ d ∷ e ∷ more)) ∙ both_groups c (all_systems (d ∷ e ∷ more)) ∙ both_groups d (all_systems (e ∷ more)) ∙ both_groups e (all_systems more))

back_groups : (caller callee : Columns) (rows : List LinearRow) (targets : List ℕ) (exit before to : Formula) →
    groups_in (back_system caller callee rows targets exit before to) ≡
    groups_joined (groups_in (said (λ c. c) exit)) (groups_joined (groups_in (said (λ c. length callee + c) before))
    (groups_joined (groups_in (denied (after_column (length callee) (length callee + length caller) (written_by caller targets)) to)) no_group))
back_groups caller callee rows targets exit before to =
    let m : ℕ = length callee in
    let n : ℕ = length caller in
    let written : List ℕ = written_by caller targets in
    let after : ℕ → ℕ = after_column m (m + n) written in
    let b : PlainSystem = said (λ c. m + c) before in
    let c : PlainSystem = only_rows (map (λ c. equal_row c (m + c)) (constants_of callee)) in
    let d : PlainSystem = only_rows (map (λ o. equal_row o.0 (m + o.1)) (olds_of callee)) in
    let e : PlainSystem = only_rows (map (renamed (call_column m n (length written))) rows) in
    let f : PlainSystem = only_rows (map (λ j. equal_row (after j) j) (filter (λ j. not (is_listed targets j)) (variables_of caller))) in
    let h : PlainSystem = only_rows (map (λ p. equal_row (after p.0) p.1) (taken targets (result_columns callee))) in
    let i : PlainSystem = denied after to in
    let more : List PlainSystem = only_rows (bounds 0 (types_of callee)) ∷ only_rows (bounds m (types_of caller)) ∷ only_rows (bounds (m + n) (types_at caller written)) ∷ [] in
    both_groups (said (λ c. c) exit) (all_systems (b ∷ c ∷ d ∷ e ∷ f ∷ h ∷ i ∷ more)) ∙
    ap (groups_joined (groups_in (said (λ c. c) exit)))
    (both_groups b (all_systems (c ∷ d ∷ e ∷ f ∷ h ∷ i ∷ more)) ∙
    ap (groups_joined (groups_in b))
    (both_groups c (all_systems (d ∷ e ∷ f ∷ h ∷ i ∷ more)) ∙ both_groups d (all_systems (e ∷ f ∷ h ∷ i ∷ more)) ∙ both_groups e (all_systems (f ∷ h ∷ i ∷ more)) ∙
    both_groups f (all_systems (h ∷ i ∷ more)) ∙ both_groups h (all_systems (i ∷ more)) ∙ both_groups i (all_systems more)))

-- ---- the rows of systems

call_rows : (a b c more : List LinearRow) → a ++ (b ++ (c ++ more)) ≡ (a ++ (b ++ c)) ++ more
call_rows a b c more = ap (λ (l : List LinearRow). a ++ l) (sym (append_assoc b c more)) ∙ sym (append_assoc a (b ++ c) more)

call_counted : (a b c : List LinearRow) → length (a ++ (b ++ c)) ≡ length a + length b + length c
call_counted a b c = let e = length-append a (b ++ c) in let f = length-append b c in omega (arith, e, f)

back_rows : (a b c d e more : List LinearRow) → a ++ (b ++ (c ++ (d ++ (e ++ more)))) ≡ (a ++ (b ++ (c ++ (d ++ e)))) ++ more
back_rows a b c d e more =
    ap (λ (l : List LinearRow). a ++ (b ++ l)) (call_rows c d e more) ∙ ap (λ (l : List LinearRow). a ++ l) (sym (append_assoc b (c ++ (d ++ e)) more)) ∙
    sym (append_assoc a (b ++ (c ++ (d ++ e))) more)

back_counted : (a b c d e : List LinearRow) → length (a ++ (b ++ (c ++ (d ++ e)))) ≡ length a + length b + length c + length d + length e
back_counted a b c d e =
    let f = length-append a (b ++ (c ++ (d ++ e))) in
    let h = length-append b (c ++ (d ++ e)) in
    let i = call_counted c d e in
    omega (arith, f, h, i)

-- ---- of steps

-- The groups of the step's system wait where its refutation begins, and the rows of its claims stand among the others as their
-- numbers say.
record IsLaidOut (g : Graph) (w : List Letter) (t : Tree) (s : Step) : Type 0 where
  groups : groups_in (system_of (alphabet_of g) s.triple) ≡ waiting s.view (groups_from g w t s.view 0 s.view.claims)
  gaps : List (List LinearRow)
  last : List LinearRow
  gaps_are : gaps_of (alphabet_of g) s.triple ≡ map length gaps
  counted : length gaps ≡ length s.view.claims
  rows : rows_in (system_of (alphabet_of g) s.triple) ≡ rows_laid g w t s.view gaps s.view.claims last

claims_begin : (g : Graph) (w : List Letter) (t : Tree) (v : View) → groups_said g w t v v.claims ≡ waiting v (groups_from g w t v 0 v.claims)
claims_begin g w t v = groups_begin g w t v 0 v.claims (λ p c e. ap (slice_get v.claims) (let q : 0 + p ≡ p = omega arith in q) ∙ e)

inside_has : (g : Graph) (w : List Letter) (t : Tree) (letter number row made : ℕ) (from to : Position) (q : ℕ) (written : List ℕ) (helpers : ℕ) (rows : List LinearRow) →
    slice_get g.acts letter ≡ Some (inside_act q written helpers rows) →
    IsLaidOut g w t (inside_step g w t letter number row made from to (frame_of (alphabet_of g) q) written helpers rows)
inside_has g w t letter number row made from to q written helpers rows there =
    let al : Alphabet = alphabet_of g in
    let s : Step = inside_step g w t letter number row made from to (frame_of al q) written helpers rows in
    let f : Formula = predicate_at g w t from in
    let h : Formula = predicate_at g w t to in
    let frame : Columns = frame_of al q in
    let system : system_of al s.triple ≡ inside_system frame written rows f h =
    ap (λ (o : Option PlainAct). inside_system_of al o (formula_of (predicates.prefix_of f)) (formula_of (predicates.prefix_of h))) there ∙
    ap (λ (x : Formula). inside_system frame written rows x (formula_of (predicates.prefix_of h))) (prefix_read f) ∙
    ap (λ (x : Formula). inside_system frame written rows f x) (prefix_read h) in
    record {
      groups = ap groups_in system ∙ inside_groups frame written rows f h ∙ claims_begin g w t s.view;
      gaps = [] ∷ rows ∷ [];
      last = bounds 0 (types_of frame) ++ bounds (length frame) (types_at frame written);
      gaps_are = ap inside_gaps there;
      counted = refl;
      rows = ap rows_in system ∙ inside_system_rows frame written rows f h;
    }

call_has : (g : Graph) (w : List Letter) (t : Tree) (letter number row made : ℕ) (returns : Bool) (from to : Position) (caller callee helpers : ℕ) (rows : List LinearRow) →
    slice_get g.acts letter ≡ Some (call_act caller callee helpers rows) →
    IsLaidOut g w t (call_step g w t letter number row made returns from to (frame_of (alphabet_of g) caller) (frame_of (alphabet_of g) callee) helpers rows)
call_has g w t letter number row made returns from to caller callee helpers rows there =
    let al : Alphabet = alphabet_of g in
    let f1 : Columns = frame_of al caller in
    let f2 : Columns = frame_of al callee in
    let s : Step = call_step g w t letter number row made returns from to f1 f2 helpers rows in
    let f : Formula = predicate_at g w t from in
    let h : Formula = predicate_at g w t to in
    let n : ℕ = length f1 in
    let global_rows : List LinearRow = map (λ c. equal_row (n + c) c) (globals_of f2) in
    let old_rows : List LinearRow = map (λ o. equal_row (n + o.0) o.1) (olds_of f2) in
    let last : List LinearRow = bounds 0 (types_of f1) ++ bounds n (types_of f2) in
    let system : system_of al s.triple ≡ call_system f1 f2 rows f h =
    ap (λ (o : Option PlainAct). call_system_of al o (formula_of (predicates.prefix_of f)) (formula_of (predicates.prefix_of h))) there ∙
    ap (λ (x : Formula). call_system f1 f2 rows x (formula_of (predicates.prefix_of h))) (prefix_read f) ∙
    ap (λ (x : Formula). call_system f1 f2 rows f x) (prefix_read h) in
    let l1 = length-map (globals_of f2) (λ c. equal_row (n + c) c) in
    let l2 = length-map (olds_of f2) (λ o. equal_row (n + o.0) o.1) in
    let l3 = call_counted global_rows old_rows rows in
    let count : length (globals_of f2) + length (olds_of f2) + length rows ≡ length (global_rows ++ (old_rows ++ rows)) = omega (arith, l1, l2, l3) in
    record {
      groups = ap groups_in system ∙ call_groups f1 f2 rows f h ∙ claims_begin g w t s.view;
      gaps = [] ∷ (global_rows ++ (old_rows ++ rows)) ∷ [];
      last = last;
      gaps_are = ap (call_gaps al) there ∙ ap (λ (k : ℕ). 0 ∷ k ∷ []) count;
      counted = refl;
      rows = ap rows_in system ∙ call_system_rows f1 f2 rows f h ∙
          ap (λ (l : List LinearRow). rows_in (said (λ c. c) f) ++ l) (call_rows global_rows old_rows rows (rows_in (denied (λ c. n + c) h) ++ last));
    }

back_has : (g : Graph) (w : List Letter) (t : Tree) (letter : ℕ) (call : OpenCall) (exit to : Position) (place caller callee helpers : ℕ) (rows : List LinearRow) (targets : List ℕ) →
    slice_get g.acts letter ≡ Some (back_act place targets) → slice_get g.acts place ≡ Some (call_act caller callee helpers rows) →
    IsLaidOut g w t (back_step g w t letter call exit to (frame_of (alphabet_of g) caller) (frame_of (alphabet_of g) callee) helpers rows targets)
back_has g w t letter call exit to place caller callee helpers rows targets there call_there =
    let al : Alphabet = alphabet_of g in
    let f1 : Columns = frame_of al caller in
    let f2 : Columns = frame_of al callee in
    let s : Step = back_step g w t letter call exit to f1 f2 helpers rows targets in
    let f : Formula = predicate_at g w t exit in
    let b : Formula = predicate_at g w t call.before in
    let h : Formula = predicate_at g w t to in
    let m : ℕ = length f2 in
    let n : ℕ = length f1 in
    let written : List ℕ = written_by f1 targets in
    let after : ℕ → ℕ = after_column m (m + n) written in
    let kept : List ℕ = filter (λ j. not (is_listed targets j)) (variables_of f1) in
    let constant_rows : List LinearRow = map (λ c. equal_row c (m + c)) (constants_of f2) in
    let old_rows : List LinearRow = map (λ o. equal_row o.0 (m + o.1)) (olds_of f2) in
    let own_rows : List LinearRow = map (renamed (call_column m n (length written))) rows in
    let global_rows : List LinearRow = map (λ j. equal_row (after j) j) kept in
    let result_rows : List LinearRow = map (λ p. equal_row (after p.0) p.1) (taken targets (result_columns f2)) in
    let last : List LinearRow = bounds 0 (types_of f2) ++ (bounds m (types_of f1) ++ bounds (m + n) (types_at f1 written)) in
    let system : system_of al s.triple ≡ back_system f1 f2 rows targets f b h =
    ap (λ (o : Option PlainAct). back_system_of al o (formula_of (predicates.prefix_of f)) (formula_of (predicates.prefix_of b)) (formula_of (predicates.prefix_of h))) there ∙
    ap (λ (o : Option PlainAct). return_system_of al targets o (formula_of (predicates.prefix_of f)) (formula_of (predicates.prefix_of b)) (formula_of (predicates.prefix_of h))) call_there ∙
    ap (λ (x : Formula). back_system f1 f2 rows targets x (formula_of (predicates.prefix_of b)) (formula_of (predicates.prefix_of h))) (prefix_read f) ∙
    ap (λ (x : Formula). back_system f1 f2 rows targets f x (formula_of (predicates.prefix_of h))) (prefix_read b) ∙
    ap (λ (x : Formula). back_system f1 f2 rows targets f b x) (prefix_read h) in
    let l1 = length-map (constants_of f2) (λ c. equal_row c (m + c)) in
    let l2 = length-map (olds_of f2) (λ o. equal_row o.0 (m + o.1)) in
    let l3 = length-map rows (renamed (call_column m n (length written))) in
    let l4 = length-map kept (λ j. equal_row (after j) j) in
    let l5 = length-map (taken targets (result_columns f2)) (λ p. equal_row (after p.0) p.1) in
    let l6 = back_counted constant_rows old_rows own_rows global_rows result_rows in
    let count : length (constants_of f2) + length (olds_of f2) + length rows + length kept + length (taken targets (result_columns f2)) ≡
    length (constant_rows ++ (old_rows ++ (own_rows ++ (global_rows ++ result_rows)))) = omega (arith, l1, l2, l3, l4, l5, l6) in
    record {
      groups = ap groups_in system ∙ back_groups f1 f2 rows targets f b h ∙ claims_begin g w t s.view;
      gaps = [] ∷ [] ∷ (constant_rows ++ (old_rows ++ (own_rows ++ (global_rows ++ result_rows)))) ∷ [];
      last = last;
      gaps_are = ap (back_gaps al) there ∙ ap (return_gaps al targets) call_there ∙ ap (λ (k : ℕ). 0 ∷ 0 ∷ k ∷ []) count;
      counted = refl;
      rows = ap rows_in system ∙ back_system_rows f1 f2 rows targets f b h ∙
          ap (λ (l : List LinearRow). rows_in (said (λ c. c) f) ++ (rows_in (said (λ c. m + c) b) ++ l))
          (back_rows constant_rows old_rows own_rows global_rows result_rows (rows_in (denied after h) ++ last));
    }

backs_have : (g : Graph) (w : List Letter) (t : Tree) (letter place : ℕ) (targets : List ℕ) → slice_get g.acts letter ≡ Some (back_act place targets) →
    (calls : List OpenCall) (exit to : Position) (act : Option PlainAct) → slice_get g.acts place ≡ act → AllByRecursion (IsLaidOut g w t) (steps_back g w t letter targets calls exit to act)
backs_have g w t letter place targets there [] exit to act e = tt
backs_have g w t letter place targets there (call ∷ calls) exit to None e = tt
backs_have g w t letter place targets there (call ∷ calls) exit to (Some (inside_act q written helpers rows)) e = tt
backs_have g w t letter place targets there (call ∷ calls) exit to (Some (call_act caller callee helpers rows)) e =
    (back_has g w t letter call exit to place caller callee helpers rows targets there e, tt)
backs_have g w t letter place targets there (call ∷ calls) exit to (Some (back_act c more)) e = tt

letter_has : (g : Graph) (w : List Letter) (t : Tree) (a : Letter) (rest : List Letter) (r : Reading) (to : Position) (act : Option PlainAct) → act_of (alphabet_of g) a ≡ act →
    AllByRecursion (IsLaidOut g w t) (step_by g w t a.id act rest r to)
letter_has g w t a rest r to None e = tt
letter_has g w t a rest r to (Some (inside_act q written helpers rows)) e =
    (inside_has g w t a.id (suc r.letters) r.rows r.stage.made (position_here r) to q written helpers rows (act_found (alphabet_of g) a (inside_act q written helpers rows) e).0, tt)
letter_has g w t a rest r to (Some (call_act caller callee helpers rows)) e =
    (call_has g w t a.id (suc r.letters) r.rows r.stage.made (has_return 0 rest) (position_here r) to caller callee helpers rows (act_found (alphabet_of g) a (call_act caller callee helpers rows) e).0, tt)
letter_has g w t a rest r to (Some (back_act c targets)) e =
    backs_have g w t a.id c targets (act_found (alphabet_of g) a (back_act c targets) e).0 r.calls (position_here r) to (slice_get g.acts c) refl

all_joined : {X : Type 0} (P : X → Type 0) (xs ys : List X) → AllByRecursion P xs → AllByRecursion P ys → AllByRecursion P (xs ++ ys)
all_joined P [] ys h k = k
all_joined P (x ∷ xs) ys h k = (h.0, all_joined P xs ys h.1 k)

letters_have : (g : Graph) (w : List Letter) (t : Tree) (rest : List Letter) (r : Reading) → AllByRecursion (IsLaidOut g w t) (steps_along g w t r rest)
letters_have g w t [] r = tt
letters_have g w t (a ∷ rest) r =
    let next : Reading = read_on (alphabet_of g) a rest r in
    all_joined (IsLaidOut g w t) (step_by g w t a.id (act_of (alphabet_of g) a) rest r (position_here next)) (steps_along g w t next rest)
    (letter_has g w t a rest r (position_here next) (act_of (alphabet_of g) a) refl) (letters_have g w t rest next)

-- ---- what is put down

both_some : {X : Type 0} (P Q : X → Type 0) (o : Option X) → IfSome o (λ x. P x → Q x) → IfSome o P → IfSome o Q
both_some P Q None h k = tt
both_some P Q (Some x) h k = h k

-- where a claim is false
never_refutes : (g : Graph) (w : List Letter) (t : Tree) (s : Step) → IsUncased t → IsLaidOut g w t s → (k : ℕ) → false_row g w t s.view 0 (gaps_of (alphabet_of g) s.triple) s.view.claims ≡ Some k →
    (system : System) → IsSystem (system_of (alphabet_of g) s.triple) system → Contradicts (map tightened (rows_of system)) ((k, pos 1) ∷ [])
never_refutes g w t s un laid k e system is =
    let p : PlainSystem = system_of (alphabet_of g) s.triple in
    let found : slice_get (rows_in p) k ≡ Some never =
    ap (λ (l : List LinearRow). slice_get l k) laid.rows ∙
    false_row_found g w t s.view un [] 0 refl laid.gaps s.view.claims laid.last k (ap (λ (l : List ℕ). false_row g w t s.view 0 l s.view.claims) (sym laid.gaps_are) ∙ e) in
    never_contradicts (map tightened (rows_of system)) k (row_tightened (rows_of system) k (ap (λ (l : List LinearRow). slice_get l k) (system_rows p system is) ∙ found))

step_walked : (g : Graph) (w : List Letter) (t : Tree) (s : Step) → TreeRefutes t (rows_goal (root_of g w)) → IsLaidOut g w t s → StepRefutes g w t s → WalkedRefutes g w t s
step_walked g w t s refuted laid refutes fits found down system is =
    by_row (false_row g w t s.view 0 (gaps_of (alphabet_of g) s.triple) s.view.claims) refl down
  where
    by_row : (o : Option ℕ) → false_row g w t s.view 0 (gaps_of (alphabet_of g) s.triple) s.view.claims ≡ o →
        TakesOr o found (IsWalked s.view found (begins g w t s) (stops s.view [] 0 (root_of g w) t)) → Refutes (prefix_of found) system
    by_row (Some k) e down =
        subst (λ (x : Tree). Refutes (prefix_of x) system) (sym down) ((refutes_as_tree (leaf_tree ((k, pos 1) ∷ [])) system).1
        (never_refutes g w t s (refuted_uncased t (root_of g w) refuted) laid k e system is))
    by_row None e walked =
        let p : PlainSystem = system_of (alphabet_of g) s.triple in
        let stop : Stop = stops s.view [] 0 (root_of g w) t in
        let as_many : length (gaps_of (alphabet_of g) s.triple) ≡ length s.view.claims =
        ap (λ (l : List ℕ). length l) laid.gaps_are ∙ length-map laid.gaps length ∙ laid.counted in
        let open_claims : AllByRecursion (λ c. IsFalse g w t s.view c → ⊥) s.view.claims = none_false g w t s.view 0 (gaps_of (alphabet_of g) s.triple) s.view.claims as_many e in
        (refutes_as_tree found system).1
        (walked_refutes s.view found (begins g w t s) stop (goal_of system)
        (record {
          rows = ap (map tightened) (system_rows p system is);
          groups = subst (λ (l : Groups). AreGroups l (groups_of system)) laid.groups (system_groups p system is);
          cuts = stops_fit s.view [] 0 (root_of g w) t (refuted_fit t (root_of g w) refuted);
          leaves = λ sides. both_some LeafNumbersFit (λ l. Contradicts l.rows l.parts) (leaf_from s.view sides (begins g w t s) stop) (refutes fits.system open_claims sides) (fits.leaves open_claims sides);
        }) walked)

all_from : {X : Type 0} (P Q R : X → Type 0) → ((x : X) → P x → Q x → R x) → (xs : List X) → AllByRecursion P xs → AllByRecursion Q xs → AllByRecursion R xs
all_from P Q R f [] h k = tt
all_from P Q R f (x ∷ xs) h k = (f x h.0 k.0, all_from P Q R f xs h.1 k.1)

pub steps_walked : (g : Graph) (w : List Letter) (t : Tree) → IsGraph g → IsAutomaton g.automaton → Accepts g.automaton w → RefutesRows (prefix_of t) (path_of g w).rows →
    AreCutsAt (length (stamps_of g w).columns) t → AllByRecursion (WalkedRefutes g w t) (steps_of g w t)
steps_walked g w t ok m acc refutes cuts =
    all_from (IsLaidOut g w t) (StepRefutes g w t) (WalkedRefutes g w t) (λ s has leaves. step_walked g w t s (tree_refutes t g w refutes) has leaves) (steps_of g w t)
    (letters_have g w t w (first_reading g)) (steps_refute g w t ok m acc refutes cuts)

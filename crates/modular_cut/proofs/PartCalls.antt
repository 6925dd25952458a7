-- Whole calls without body, in a program and in its part.
use Rattle.std.proofs.Common.{◌≡◌, ℕ, ◌+◌, ◌-◌, ℤ, Bool, true, false, ◌||◌, nat_eq, List, [], ◌∷◌, ◌++◌, length, drop, Option, None, Some, slice_get, IsTrue, refl, sym, ap, subst, ◌∙◌, arith}
use Rattle.std.specs.List.{AllByRecursion, list_all}
use Rattle.std.proofs.lemmas.Bool.{and_parts, false≢true}
use Rattle.std.proofs.lemmas.Bool.Decides.{nat_tests}
use Rattle.boogie_tree.specs.declared.tree.Column.{Column}
use Rattle.typed_tree.specs.TypedTree.{TypedExpression, TypedInvariant, Assert, Assume, Havoc, Assign, Call, If, While, Break, Goto, Return, Label, TypedBlock, Empty, Then, TypedProcedure, TypedProgram}
use Rattle.typed_tree.specs.Values.{State, member, value}
use Rattle.typed_tree.specs.TypingRules.Rules.{is_member, results_of}
use Rattle.typed_tree.specs.TypingRules.ValidProgram.{is_valid}
use Rattle.boogie_run.specs.BoogiePoints.Points.{Todo, Point, settled, past_first}
use Rattle.boogie_run.specs.BoogiePoints.Actions as actions
use Rattle.boogie_run.specs.BoogiePoints.Actions.{Action, action_at, chosen_columns, ensured_conditions, unseen_action, called_action}
use Rattle.boogie_run.specs.BoogiePoints.Starts.{targets_of_statement, targets_at}
use Rattle.boogie_run.specs.Configurations.{Config, state_of}
use Rattle.boogie_run.specs.Steps.{values, put, all_put, all_written, modifies_of, granted_state, finished, moved_to, is_true}
use Rattle.lowered_graph.specs.LoweredSteps.Moves.{HasTypes, IsNoImport}
use Rattle.lowered_graph.proofs.LoweredSteps.Places.{all_state_written}
use Rattle.lowered_graph.specs.LoweredImports.Imports.{later, IsKnownImport, AreGlobalValues, keeping, IsImport}
use Rattle.lowered_graph.specs.LoweredImports.KnownPoints.{IsPointOf, StandsAtImport}
use Rattle.lowered_graph.proofs.LoweredImports.PointLaws.{imports_known}
use Rattle.modular_cut.specs.Parts.{recalled_block}
use Rattle.modular_cut.proofs.SamePoints.{SameTodos, SamePoint, settled_same, past_first_same}
use Rattle.modular_cut.proofs.ChosenGlobals.{put_elsewhere}
use Rattle.modular_cut.proofs.Fine.{changed, written_changes}

-- ---- the action

-- the procedure that an action of a call without body calls, and the arguments
abbrev called_procedure : Action → ℕ
called_procedure (actions.Keep f args c next) = f
called_procedure (actions.Grant f args e next) = f
called_procedure (actions.Finish f args targets next) = f
called_procedure a = 0

abbrev called_arguments : Action → List TypedExpression
called_arguments (actions.Keep f args c next) = args
called_arguments (actions.Grant f args e next) = args
called_arguments (actions.Finish f args targets next) = args
called_arguments a = []

unseen_procedure : (o : Option Column) (e : Option TypedInvariant) (f : ℕ) (targets : List Column) (args : List TypedExpression) (h nx : Point) → called_procedure (unseen_action o e f targets args h nx) ≡ f
unseen_procedure (Some c) e f targets args h nx = refl
unseen_procedure None (Some i) f targets args h nx = refl
unseen_procedure None None f targets args h nx = refl

unseen_arguments : (o : Option Column) (e : Option TypedInvariant) (f : ℕ) (targets : List Column) (args : List TypedExpression) (h nx : Point) → called_arguments (unseen_action o e f targets args h nx) ≡ args
unseen_arguments (Some c) e f targets args h nx = refl
unseen_arguments None (Some i) f targets args h nx = refl
unseen_arguments None None f targets args h nx = refl

-- two of them that are the same call the same procedure with the same arguments
pub same_procedure : (o o2 : Option Column) (e e2 : Option TypedInvariant) (f f2 : ℕ) (targets targets2 : List Column) (args args2 : List TypedExpression) (h nx h2 nx2 : Point) →
    unseen_action o e f targets args h nx ≡ unseen_action o2 e2 f2 targets2 args2 h2 nx2 → f ≡ f2
same_procedure o o2 e e2 f f2 targets targets2 args args2 h nx h2 nx2 same =
    sym (unseen_procedure o e f targets args h nx) ∙ ap called_procedure same ∙ unseen_procedure o2 e2 f2 targets2 args2 h2 nx2

pub same_arguments : (o o2 : Option Column) (e e2 : Option TypedInvariant) (f f2 : ℕ) (targets targets2 : List Column) (args args2 : List TypedExpression) (h nx h2 nx2 : Point) →
    unseen_action o e f targets args h nx ≡ unseen_action o2 e2 f2 targets2 args2 h2 nx2 → args ≡ args2
same_arguments o o2 e e2 f f2 targets targets2 args args2 h nx h2 nx2 same =
    sym (unseen_arguments o e f targets args h nx) ∙ ap called_arguments same ∙ unseen_arguments o2 e2 f2 targets2 args2 h2 nx2

pub not_plain : (o : Option Column) (e : Option TypedInvariant) (f : ℕ) (targets : List Column) (args : List TypedExpression) (h nx : Point) → IsNoImport (unseen_action o e f targets args h nx) → ⊥
not_plain (Some c) e f targets args h nx p = p
not_plain None (Some i) f targets args h nx p = p
not_plain None None f targets args h nx p = p

later_none : (p : Point) → later p 0 ≡ p
later_none p = let e : p.part + 0 ≡ p.part = omega arith in λ i. record p { part = e i }

-- the first action of a call without body
abbrev pub first_of_call : (t : TypedProgram) (p : Point) (f : ℕ) (args : List TypedExpression) → TypedProcedure → Action
first_of_call t p f args q =
    unseen_action (slice_get (chosen_columns q) 0) (slice_get (ensured_conditions q.specs) (0 - length (chosen_columns q))) f (targets_at p.todo) args (later p 0) (settled (past_first t.procs p.todo))

pub import_acts : (t : TypedProgram) (n : ℕ) (p : Point) (f : ℕ) (args : List TypedExpression) → (k : IsKnownImport t n p f args) → action_at t n p ≡ first_of_call t p f args k.procedure
import_acts t n p f args k = ap (action_at t n) (sym (later_none p)) ∙ k.acts 0

-- ---- the call that typing knows

-- the point stands at the call of that procedure
pub record IsKnownAs (u : TypedProgram) (n : ℕ) (p : Point) (f : ℕ) (args : List TypedExpression) (q : TypedProcedure) : Type 0 where
  pub known : IsKnownImport u n p f args
  pub same : known.procedure ≡ q

pub known_as : (u : TypedProgram) → IsTrue (is_valid u) → (n : ℕ) (p : Point) (f : ℕ) (args : List TypedExpression) (q : TypedProcedure) (o : Option Column) (e : Option TypedInvariant) (targets : List Column) (h nx : Point) →
    IsPointOf u n p → action_at u n p ≡ unseen_action o e f targets args h nx → slice_get u.procs f ≡ Some q → IsKnownAs u n p f args q
known_as u valid n p f args q o e targets h nx known is found =
    let s : StandsAtImport u n p = imports_known u valid n p known (λ plain. not_plain o e f targets args h nx (subst IsNoImport is plain)) in
    let b : TypedProcedure = s.known.procedure in
    let acts : first_of_call u p s.callee s.args b ≡ unseen_action o e f targets args h nx = sym (import_acts u n p s.callee s.args s.known) ∙ is in
    let o1 : Option Column = slice_get (chosen_columns b) 0 in
    let e1 : Option TypedInvariant = slice_get (ensured_conditions b.specs) (0 - length (chosen_columns b)) in
    let next : Point = settled (past_first u.procs p.todo) in
    let f_is : s.callee ≡ f = same_procedure o1 o e1 e s.callee f (targets_at p.todo) targets s.args args (later p 0) next h nx acts in
    let args_are : s.args ≡ args = same_arguments o1 o e1 e s.callee f (targets_at p.todo) targets s.args args (later p 0) next h nx acts in
    let k : IsKnownImport u n p f args = subst (λ (xs : List TypedExpression). IsKnownImport u n p f xs) args_are (subst (λ (y : ℕ). IsKnownImport u n p y s.args) f_is s.known) in
    let one : Some k.procedure ≡ Some q = sym k.is ∙ found in
    record { known = k; same = cc }

-- ---- the whole call

-- behind the call, with these values of the modified globals and of the results
abbrev pub whole : Config → List ℕ → List ℤ → List ℤ → List Column → Point → Config
whole c ns held results targets next =
    moved_to (changed c (all_state_written (record { globals = all_put c.globals ns (held ++ results); old = c.top.entry; locals = c.top.locals }) targets (drop (length ns) (held ++ results)))) next

-- the state in which its ensures are read
abbrev pub granted : Config → TypedProcedure → List TypedExpression → List ℤ → List ℤ → State
granted c q args held results =
    record { globals = all_put c.globals q.modifies (held ++ results); old = c.globals; locals = values (state_of c) args ++ drop (length q.modifies) (held ++ results) }

module _ (u : TypedProgram) (c : Config) (f : ℕ) (args : List TypedExpression) (q : TypedProcedure) (k : IsKnownAs u c.top.proc c.top.point f args q) (held results : List ℤ) where
  modifies_are : modifies_of (slice_get u.procs f) ≡ q.modifies
  modifies_are = ap modifies_of k.known.is ∙ ap (λ (x : TypedProcedure). x.modifies) k.same

  pub granted_is : granted_state u (keeping c (held ++ results)) f args ≡ granted c q args held results
  granted_is =
      ap (λ (ns : List ℕ). record { globals = all_put c.globals ns (held ++ results); old = c.globals; locals = values (state_of c) args ++ drop (length ns) (held ++ results) }) modifies_are

  pub finished_is : (targets : List Column) (next : Point) → moved_to (finished u (keeping c (held ++ results)) f targets) next ≡ whole c q.modifies held results targets next
  finished_is targets next =
      let zs : List ℤ = held ++ results in
      let at : List ℕ → Config = λ ns. record { globals = all_put c.globals ns zs; top = record { proc = c.top.proc; locals = c.top.locals; entry = c.top.entry; point = c.top.point; kept = zs }; below = c.below } in
      ap (λ (ns : List ℕ). moved_to (all_written (at ns) targets (drop (length ns) zs)) next) modifies_are
      ∙ ap (λ (x : Config). moved_to x next) (written_changes (at q.modifies) targets (drop (length q.modifies) zs))

  pub call_whole : AreGlobalValues u.globals q.modifies held → HasTypes (results_of q) results → AllByRecursion (λ i. is_true (value (granted c q args held results) i.cond) ≡ true) (ensured_conditions q.specs) →
      IsImport u c (whole c q.modifies held results (targets_at c.top.point.todo) (settled (past_first u.procs c.top.point.todo)))
  call_whole h r g = record {
    callee = f;
    args = args;
    known = k.known;
    held = held;
    held_typed = subst (λ (x : TypedProcedure). AreGlobalValues u.globals x.modifies held) (sym k.same) h;
    results = results;
    results_typed = subst (λ (x : TypedProcedure). HasTypes (results_of x) results) (sym k.same) r;
    granted = subst (λ (s : State). AllByRecursion (λ i. is_true (value s i.cond) ≡ true) (ensured_conditions k.known.procedure.specs)) (sym granted_is)
        (subst (λ (x : TypedProcedure). AllByRecursion (λ i. is_true (value (granted c q args held results) i.cond) ≡ true) (ensured_conditions x.specs)) (sym k.same) g);
    done = sym (finished_is (targets_at c.top.point.todo) (settled (past_first u.procs c.top.point.todo)));
  }

-- ---- points at calls

module _ (r : ℕ → ℕ) where
  block_targets : (b : TypedBlock) → targets_of_statement (recalled_block r b) ≡ targets_of_statement b
  block_targets Empty = refl
  block_targets (Then (Assert at e) b) = refl
  block_targets (Then (Assume at e) b) = refl
  block_targets (Then (Havoc at cs) b) = refl
  block_targets (Then (Assign at cs es) b) = refl
  block_targets (Then (Call at cs f es) b) = refl
  block_targets (Then (If at g x y) b) = refl
  block_targets (Then (While at g is x) b) = refl
  block_targets (Then (Break at n) b) = refl
  block_targets (Then (Goto at ks) b) = refl
  block_targets (Then (Return at) b) = refl
  block_targets (Then (Label n) b) = refl

  targets_alike : (ds es : List Todo) → SameTodos r ds es → targets_at es ≡ targets_at ds
  targets_alike [] [] h = refl
  targets_alike [] (e ∷ es) h = absurd h
  targets_alike (d ∷ ds) [] h = absurd h
  targets_alike (d ∷ ds) (e ∷ es) h = ap (λ (x : Todo). targets_of_statement x.rest) h.0.is ∙ block_targets d.rest

  pub targets_same : (p q : Point) → SamePoint r p q → targets_at q.todo ≡ targets_at p.todo
  targets_same p q h = ap (λ (x : Point). targets_at x.todo) h.is ∙ targets_alike p.todo h.todo h.same

  pub behind_same : (procs parts : List TypedProcedure) (p q : Point) → SamePoint r p q → SamePoint r (settled (past_first procs p.todo)) (settled (past_first parts q.todo))
  behind_same procs parts p q h =
      subst (λ (x : Point). SamePoint r (settled (past_first procs p.todo)) (settled (past_first parts x.todo))) (sym h.is)
      (settled_same r (past_first procs p.todo) (past_first parts h.todo) (past_first_same r procs parts p.todo h.todo h.same))

-- ---- modified globals

-- what is none of more is none of these
pub not_among : (ms ns : List ℕ) (m : ℕ) → list_all (λ x. is_member x ms) ns ≡ true → is_member m ms ≡ false → is_member m ns ≡ false
not_among ms [] m h none = refl
not_among ms (n ∷ ns) m h none =
    let both = and_parts (is_member n ms) (list_all (λ x. is_member x ms) ns) h in
    by_test (nat_eq m n) refl both.0 (not_among ms ns m both.1 none)
  where
    same_number : nat_eq m n ≡ true → m ≡ n
    same_number e = grind (arith, nat_tests)

    by_test : (b : Bool) → nat_eq m n ≡ b → is_member n ms ≡ true → is_member m ns ≡ false → is_member m (n ∷ ns) ≡ false
    by_test true e h k = absurd (false≢true (sym none ∙ ap (λ (x : ℕ). is_member x ms) (same_number e) ∙ h))
    by_test false e h k = λ i. e i || k i

pub put_within : (ms ns : List ℕ) (zs vs : List ℤ) (m : ℕ) → list_all (λ x. is_member x ms) ns ≡ true → is_member m ms ≡ false → member (all_put zs ns vs) m ≡ member zs m
put_within ms [] zs vs m h none = refl
put_within ms (n ∷ ns) zs [] m h none = refl
put_within ms (n ∷ ns) zs (v ∷ vs) m h none =
    let both = and_parts (is_member n ms) (list_all (λ x. is_member x ms) ns) h in
    let other : m ≡ n → ⊥ = λ same. false≢true (sym none ∙ ap (λ (x : ℕ). is_member x ms) same ∙ both.0) in
    put_within ms ns (put zs n v) vs m both.1 none ∙ put_elsewhere zs n m v other

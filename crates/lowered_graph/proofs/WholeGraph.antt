-- The graph of a typed program is as its invariant asks, where the numbers of columns of its acts fit.
use Rattle.std.proofs.Common.{◌≡◌, ◌∙◌, ℕ, suc, ◌+◌, ◌-◌, List, [], ◌∷◌, length, Option, None, Some, inl, inr, refl, sym, ap, subst, arith, IsTrue}
use Rattle.std.specs.Prelude.{slice_get}
use Rattle.std.specs.List.{AllByRecursion}
use Rattle.boogie_tree.specs.declared.tree.Column.{Column}
use Rattle.typed_tree.specs.TypedTree.{TypedExpression, TypedInvariant, TypedProcedure, TypedProgram}
use Rattle.typed_tree.specs.TypingRules.ValidProgram.{is_valid}
use Rattle.letter_acts.specs.Invariant.{AreDistinct, IsGraph}
use Rattle.boogie_run.specs.BoogiePoints.Points.{Point, settled, past_first}
use Rattle.boogie_run.specs.BoogiePoints.Actions as actions
use Rattle.boogie_run.specs.BoogiePoints.Actions.{Action, action_at, called_action, unseen_action, chosen_columns, ensured_conditions}
use Rattle.boogie_run.specs.BoogiePoints.Starts.{targets_at}
use Rattle.lowered_graph.specs.LoweredSteps.Moves.{AreAssigned, IsTypedAction, IsNoImport, IsKnownCall}
use Rattle.typed_tree.specs.TypingRules.Rules.{results_of}
use Rattle.lowered_graph.specs.LoweredImports.Imports.{IsModified, IsKnownImport, later}
use Rattle.lowered_graph.specs.LoweredImports.KnownPoints.{IsPointOf, StandsAtImport, PointsAreKnown, ImportsAreKnown}
use Rattle.lowered_graph.specs.Lowered.{lowered}
use Rattle.letter_acts.specs.Widths.{ActsFit}
use Rattle.lowered_graph.proofs.KnownPlaces.{PlaceLaws, IsKnown}
use Rattle.lowered_graph.proofs.Alphabet.{letters_of}
use Rattle.lowered_graph.proofs.FrameTargets.{AreStanding, AreVarying, target_stands, targets_stand}
use Rattle.lowered_graph.proofs.EdgeActs.{ImportWrites, ImportIsKnown, ActionWrites, edge_acted}
use Rattle.lowered_graph.proofs.CallActs.{CallIsKnown}
use Rattle.lowered_graph.proofs.GraphParts.{has_sites, has_procedures, are_frames}
use Rattle.lowered_graph.proofs.GraphEdges.{WriteNoOlds, has_edges}
use Rattle.lowered_graph.proofs.GraphActs.{ActionsAreTyped, acts_acted}
use Rattle.lowered_graph.proofs.GraphNames.{are_named}
use Rattle.lowered_graph.proofs.TargetsDiffer.{targets_differ, assigned_differ}

pub known_point : (t : TypedProgram) (n : ℕ) (p : Point) → IsKnown t n p → IsPointOf t n p
known_point t n p k = record { procedure = k.procedure; body = k.body; is = k.is; has = k.has_body; among = elim k.stands [ inl h ↦ inr h | inr h ↦ inl h ] }

-- ---- what actions write

assigned_stand : (t : TypedProgram) (n : ℕ) (cs : List Column) (es : List TypedExpression) → AreAssigned t n cs es → AreStanding t n cs × (length es ≡ length cs)
assigned_stand t n [] [] h = (tt, refl)
assigned_stand t n [] (e ∷ es) h = absurd h
assigned_stand t n (c ∷ cs) [] h = absurd h
assigned_stand t n (c ∷ cs) (e ∷ es) h =
    let more = assigned_stand t n cs es h.1 in
    (((h.0.type, target_stands t n h.0.type c h.0.target), more.0), ap suc more.1)

varying : (t : TypedProgram) (gs : List ℕ) → AllByRecursion (IsModified t) gs → AreVarying t gs
varying t [] h = tt
varying t (g ∷ gs) h = ((h.0.info, h.0.is, h.0.varies), varying t gs h.1)

import_writes : (t : TypedProgram) (n : ℕ) (p : Point) (f : ℕ) (args : List TypedExpression) → IsKnownImport t n p f args → ImportIsKnown t n p f
import_writes t n p f args k q e =
    let same : k.procedure ≡ q = (let i : Some k.procedure ≡ Some q = sym k.is ∙ e in cc) in
    let one : ImportWrites t n k.procedure (targets_at p.todo) = record {
      modified = varying t k.procedure.modifies k.modified;
      modified_differ = k.modified_differ;
      targets = targets_stand t n (results_of k.procedure) (targets_at p.todo) k.targets;
      targets_differ = k.targets_differ;
    } in
    subst (λ (r : TypedProcedure). ImportWrites t n r (targets_at p.todo)) same one

-- the callee of an action of a call without body
abbrev CalleeIs : ℕ → Action → Type 0
CalleeIs f (actions.Keep g args c next) = f ≡ g
CalleeIs f (actions.Grant g args e next) = f ≡ g
CalleeIs f (actions.Finish g args targets next) = f ≡ g
CalleeIs f a = Unit {0}

by_action : (t : TypedProgram) (n : ℕ) (p : Point) (a : Action) → IsTypedAction t n a → ((cs : List Column) (es : List TypedExpression) (next : Point) → a ≡ actions.Write cs es next → AreDistinct cs) →
    ((IsNoImport a → ⊥) → (g : ℕ) × CalleeIs g a × ImportIsKnown t n p g) → ActionWrites t n p a
by_action t n p (actions.Check id at e next) h d i = tt
by_action t n p (actions.Suppose e next) h d i = tt
by_action t n p (actions.Demand id at e args next) h d i = tt
by_action t n p (actions.Write cs es next) h d i = let w = assigned_stand t n cs es h in record { targets = w.0; differ = d cs es next refl; as_many = w.1 }
by_action t n p (actions.Guess c next) h d i = (h.0, target_stands t n h.0 c h.1)
by_action t n p (actions.Test e hit miss) h d i = tt
by_action t n p (actions.Pick ways) h d i = tt
by_action t n p (actions.Jump next) h d i = tt
by_action t n p (actions.Enter f args) h d i = tt
by_action t n p (actions.Keep f args c next) h d i = let k = i (λ m. m) in subst (ImportIsKnown t n p) k.1 k.2
by_action t n p (actions.Grant f args e next) h d i = let k = i (λ m. m) in subst (ImportIsKnown t n p) k.1 k.2
by_action t n p (actions.Finish f args targets next) h d i = let k = i (λ m. m) in subst (ImportIsKnown t n p) k.1 k.2
by_action t n p actions.Leave h d i = tt

unseen_callee : (o : Option Column) (i : Option TypedInvariant) (f : ℕ) (targets : List Column) (args : List TypedExpression) (here next : Point) → CalleeIs f (unseen_action o i f targets args here next)
unseen_callee (Some c) i f targets args here next = refl
unseen_callee None (Some i) f targets args here next = refl
unseen_callee None None f targets args here next = refl

-- the call without body at which an action stands
import_at : (t : TypedProgram) (n : ℕ) (p : Point) → StandsAtImport t n p → (g : ℕ) × CalleeIs g (action_at t n p) × ImportIsKnown t n p g
import_at t n p k =
    let q : TypedProcedure = k.known.procedure in
    let here : later p 0 ≡ p = ap (λ (i : ℕ). record p { part = i }) (let z : p.part + 0 ≡ p.part = omega arith in z) in
    let called : action_at t n p ≡ called_action k.callee q None (targets_at p.todo) k.args 0 (later p 0) (settled (past_first t.procs p.todo)) = ap (action_at t n) (sym here) ∙ k.known.acts 0 in
    let callee : CalleeIs k.callee (called_action k.callee q None (targets_at p.todo) k.args 0 (later p 0) (settled (past_first t.procs p.todo))) =
    unseen_callee (slice_get (chosen_columns q) 0) (slice_get (ensured_conditions q.specs) (0 - length (chosen_columns q))) k.callee (targets_at p.todo) k.args (later p 0) (settled (past_first t.procs p.todo)) in
    (k.callee, subst (CalleeIs k.callee) (sym called) callee, import_writes t n p k.callee k.args k.known)

pub actions_typed : (known : PointsAreKnown) (imports : ImportsAreKnown) (t : TypedProgram) → IsTrue (is_valid t) → ActionsAreTyped t
actions_typed known imports t v = record {
  writes = λ n p k. by_action t n p (action_at t n p) ((known t v).typed n p (known_point t n p k)) (λ cs es next e. assigned_differ t v n p cs es next k e)
      (λ i. import_at t n p (imports t n p v (known_point t n p k) i));
  calls = λ n p f args k e. call_known n p f args k ((known t v).calls n p f args (known_point t n p k) e);
  first = (known t v).constants_first;
}
  where
    call_known : (n : ℕ) (p : Point) (f : ℕ) (args : List TypedExpression) → IsKnown t n p → IsKnownCall t n p f args → CallIsKnown t n f args (targets_at p.todo)
    call_known n p f args k c = record {
      procedure = c.procedure;
      is = c.is;
      enough = c.enough;
      shape = c.shape;
      arguments = c.arguments;
      targets = c.targets;
      targets_differ = targets_differ t v n p k;
    }

-- ---- the graph

pub no_olds : (t : TypedProgram) → ActionsAreTyped t → WriteNoOlds t
no_olds t w n p k e m = (edge_acted t n p (action_at t n p) e (w.writes n p k) m).new

pub is_graph : (l : PlaceLaws) (known : PointsAreKnown) (imports : ImportsAreKnown) (t : TypedProgram) → IsTrue (is_valid t) → ActsFit (letters_of t) → IsGraph (lowered t)
is_graph l known imports t v fit =
    let w : ActionsAreTyped t = actions_typed known imports t v in
    record {
      procedures = has_procedures l t v;
      frames = are_frames t w.first;
      names = are_named t v;
      acts = acts_acted t v w fit;
      edges = has_edges l t v (no_olds t w);
      sites = has_sites t v;
    }

-- The laws of whole calls without body in the stack machine.
use Rattle.std.proofs.Common.{◌≡◌, ℕ, List, ap, subst, ◌∙◌}
use Rattle.typed_tree.specs.TypedTree.{TypedExpression, TypedProgram}
use Rattle.boogie_run.specs.BoogiePoints.Points.{Point}
use Rattle.boogie_run.specs.BoogiePoints.Actions.{action_at}
use Rattle.boogie_run.specs.Configurations.{Config}
use Rattle.lowered_graph.specs.LoweredSteps.Edges.{inside_edges}
use Rattle.lowered_graph.specs.LoweredSteps.Stacks.{Stack, IsAmong, IsStep, inside, call, back, IsExact}
use Rattle.lowered_graph.specs.LoweredSteps.Moves.{IsGood, KnowsPoints, shown_stack}
use Rattle.lowered_graph.specs.LoweredImports.Imports.{IsKnownImport, IsImport}
use Rattle.lowered_graph.specs.LoweredImports.KnownPoints.{IsPointOf}
use Rattle.lowered_graph.specs.LoweredImports.Laws.{IsToldBy, helpers_of, ImportsGo, ImportsBack}
use Rattle.lowered_graph.proofs.LoweredImports.PointLaws.{knows_points}
use Rattle.lowered_graph.proofs.LoweredImports.ImportStates.{import_action}
use Rattle.lowered_graph.proofs.LoweredImports.ImportSteps as steps

-- A whole call is a step of the stacks that show it, and what configurations keep is kept.
pub import_goes : (t : TypedProgram) (Known : ℕ → Point → Type 0) → KnowsPoints t Known → (c d : Config) → IsGood t Known c → IsImport t c d →
    IsStep t (shown_stack t c) (shown_stack t d) × IsGood t Known d
import_goes t Known know c d g i = steps.goes t Known know c i.callee i.args g i.known d i.held i.results i.held_typed i.results_typed i.granted i.done

-- And each exact step from a configuration at such a call is a whole call, with the values that the step tells.
pub import_back : (t : TypedProgram) (Known : ℕ → Point → Type 0) → KnowsPoints t Known → (c : Config) (f : ℕ) (args : List TypedExpression) (y : Stack) → IsGood t Known c →
    IsKnownImport t c.top.proc c.top.point f args → (s : IsStep t (shown_stack t c) y) → IsExact t (shown_stack t c) y s → IsToldBy t c y (helpers_of t (shown_stack t c) y s)
import_back t Known know c f args y g k (inside p e at among leads proc spot below) exact =
    let same : p ≡ c.top.point = cc in
    let own : IsAmong (inside_edges t c.top.proc c.top.point (action_at t c.top.proc c.top.point)) e =
    subst (λ (x : Point). IsAmong (inside_edges t c.top.proc x (action_at t c.top.proc x)) e) same among in
    steps.inside_back t Known know c f args g k e own exact y leads proc spot below
import_back t Known know c f args y g k (call p h es d at is among leads proc spot below) exact =
    let same : c.top.point ≡ p = cc in
    absurd ((import_action t c.top.proc c.top.point f args k).no_entry h es (ap (action_at t c.top.proc) same ∙ is))
import_back t Known know c f args y g k (back p b es d at is opened calls among leads proc spot) exact =
    let same : c.top.point ≡ p = cc in
    absurd ((import_action t c.top.proc c.top.point f args k).no_return (ap (action_at t c.top.proc) same ∙ is))

pub imports_go : ImportsGo
imports_go t c d valid g i = import_goes t (IsPointOf t) (knows_points t valid) c d g i

pub imports_back : ImportsBack
imports_back t c f args y valid g k s exact = import_back t (IsPointOf t) (knows_points t valid) c f args y g k s exact

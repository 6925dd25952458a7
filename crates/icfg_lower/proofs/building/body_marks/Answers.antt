use Rattle.std.proofs.Common.{◌≡◌, ◌∙◌, ℕ, List, Option, None, Some, map, ap, sym}
use Rattle.std.specs.Prelude.{slice_get}
use Rattle.std.specs.Option.{option_map, option_and_then}
use Rattle.typed_tree.specs.declared.types.TProc.{TProc}
use Rattle.typed_tree.specs.TypedTree.{TypedBlock, TypedProcedure, TypedProgram}
use Rattle.typed_tree.specs.TypedView as view
use Rattle.typed_tree.specs.TypingRules.TypedParts.{TypedParts, typed_program}
use Rattle.icfg_lower.specs.declared.program_layout.marks.Marks.{Marks}
use Rattle.icfg_lower.specs.ProgramLayout.Layouts.{marks_of}
use Rattle.icfg_lower.specs.Ties.Bodies.{body_marks}
use Rattle.icfg_lower.proofs.building.body_marks.Goals as goal

with_body : (t : TypedProgram) (n : ℕ) (q : TypedProcedure) (b : TypedBlock) (m : Option Marks) → Some q ≡ slice_get t.procs n → q.body ≡ Some b →
    m ≡ option_map (λ p. marks_of t (n, p)) (slice_get t.procs n) → m ≡ body_marks t n
with_body t n q b m e k h =
    h ∙ ap (λ (o : Option TypedProcedure). option_map (λ p. marks_of t (n, p)) o) (sym e) ∙ ap (λ (o : Option TypedBlock). option_map (λ x. marks_of t (n, q)) o) (sym k)
    ∙ ap (λ (o : Option TypedProcedure). option_and_then (λ p. option_map (λ x. marks_of t (n, p)) p.body) o) e

without_body : (t : TypedProgram) (n : ℕ) (q : TypedProcedure) → Some q ≡ slice_get t.procs n → q.body ≡ None → None ≡ body_marks t n
without_body t n q e k =
    ap (λ (o : Option TypedBlock). option_map (λ x. marks_of t (n, q)) o) (sym k)
    ∙ ap (λ (o : Option TypedProcedure). option_and_then (λ p. option_map (λ x. marks_of t (n, p)) p.body) o) e

pub returns-in-Some : goal.returns-in-Some
returns-in-Some c =
    with_body (typed_program c.args.layout.now) c.args.proc (view.procedure c.in_ok-listed.listed.now) _ c.marks.result
    (c.in_ok-listed.ensures ∙ ap (λ (ps : List TProc). slice_get (map view.procedure ps) c.args.proc) (c.procs.ensures ∙ ap (λ (x : TypedParts). x.procs) c.program.ensures.value))
    (ap (λ o. option_map (λ b. view.statements b.items) o) c.in-Some.is) c.marks.ensures

pub returns-in-None : goal.returns-in-None
returns-in-None c =
    without_body (typed_program c.args.layout.now) c.args.proc (view.procedure c.in_ok-listed.listed.now)
    (c.in_ok-listed.ensures ∙ ap (λ (ps : List TProc). slice_get (map view.procedure ps) c.args.proc) (c.procs.ensures ∙ ap (λ (x : TypedParts). x.procs) c.program.ensures.value))
    (ap (λ o. option_map (λ b. view.statements b.items) o) c.in-None.is)

use Rattle.std.proofs.Common.{◌≡◌, ◌∙◌, ◌++◌, ℕ, List, Some, map, slice_get, ap, sym}
use Rattle.std.specs.Option.{option_map, option_and_then}
use Rattle.typed_tree.specs.declared.types.TProc.{TProc}
use Rattle.typed_tree.specs.TypedView as view
use Rattle.typed_tree.specs.TypingRules.TypedParts.{TypedParts, typed_program}
use Rattle.icfg_lower.specs.LabelPlaces.Ties.Ways.{places_of}
use Rattle.icfg_lower.proofs.LabelPlaces.LabelNumbers.{body_if_any, with_marks}
use Rattle.icfg_lower.proofs.label_places.labels.labels_of.Goals as goal

pub returns : goal.returns
returns c =
    let procs : c.procs-procs.result.now ≡ c.args.layout.now.procs = c.procs-procs.ensures ∙ ap (λ (p : TypedParts). p.procs) c.program.ensures.value in
    let body : body_if_any (typed_program c.args.layout.now) c.args.proc ≡ Some (view.statements c.in-Some.statements.now) =
    ap (λ (ps : List TProc). option_and_then (λ q. q.body) (slice_get (map view.procedure ps) c.args.proc)) (sym procs)
    ∙ sym c.statements_of.ensures ∙ ap (λ o. option_map (λ b. view.statements b.now) o) c.in-Some.is in
    c.in_ok-add_labels.ensures
    ∙ ap (λ (l : List ℕ). l ++ places_of (map view.procedure c.procs-procs.result.now) (view.statements c.in-Some.statements.now) c.in-Some-marks.marks.body c.in-Some-marks.marks.exit) c.new-found.ensures.items
    ∙ ap (λ (ps : List TProc). places_of (map view.procedure ps) (view.statements c.in-Some.statements.now) c.in-Some-marks.marks.body c.in-Some-marks.marks.exit) procs
    ∙ (with_marks (typed_program c.args.layout.now) c.args.proc (view.statements c.in-Some.statements.now) c.in-Some-marks.marks c.program.ensures.valid body (sym c.marks.ensures ∙ c.in-Some-marks.is)).1

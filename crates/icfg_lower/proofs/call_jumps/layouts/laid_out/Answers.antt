use Rattle.std.proofs.Common.{◌≡◌, ◌+◌, length, refl, ◌∙◌, ap}
use Rattle.typed_tree.specs.TypedTree.{TypedProcedure}
use Rattle.typed_tree.specs.TypedView.{procedure}
use Rattle.lowered_graph.specs.LoweredSteps.Edges.{those_in, import_written}
use Rattle.icfg_lower.proofs.call_jumps.layouts.laid_out.Goals as goal

pub returns : goal.returns
returns c =
    let q : TypedProcedure = procedure c.args.callee.now in
    let w : c.in_ok-written.written.items ≡ import_written q.modifies c.args.targets.now = c.in_ok-written.ensures ∙ (λ j. import_written (c.as_slice.ensures.value j) c.args.targets.now) in
    let t : c.in_ok-targeted.targeted.items ≡ those_in c.args.targets.now q.modifies = c.in_ok-targeted.ensures ∙ (λ j. those_in c.args.targets.now (c.as_slice-2.ensures.value j)) in
    let m : c.len.result ≡ length (import_written q.modifies c.args.targets.now) = c.len.ensures ∙ c.in_ok-written.written.ok.0 ∙ ap length w in
    let n : c.len-2.result ≡ length (those_in c.args.targets.now q.modifies) = c.len-2.ensures ∙ c.in_ok-targeted.targeted.ok.0 ∙ ap length t in
    let h : c.in_ok-helpers.helpers ≡ c.args.base + length (import_written q.modifies c.args.targets.now) = c.in_ok-helpers.ensures ∙ (λ j. c.args.base + m j) in
    record { written = w; targeted = t; base_is = refl; helpers = h; width = c.in_ok-width.ensures ∙ (λ j. h j + n j) }

use Rattle.std.proofs.Common.{◌≡◌, ◌∙◌, ◌<◌, ◌^◌, ℕ, Option, Some, map, length, ap, sym, subst, arith}
use Rattle.std.specs.Prelude.{IfSome, slice_get}
use Rattle.std.specs.Option.{option_map}
use Rattle.std.proofs.lemmas.Option.{slice_get-get_or, slice_get-map}
use Rattle.typed_tree.specs.declared.types.TProc.{TProc}
use Rattle.typed_tree.specs.TypedTree.{TypedProcedure}
use Rattle.typed_tree.specs.TypedView as view
use Rattle.icfg_lower.proofs.program_layout.frames.locals_in.Goals as goal

pub overflow_cast-result : goal.overflow_cast-result
overflow_cast-result c =
    let l = c.in_ok-listed.ensures.lookup in
    let at : slice_get (map view.procedure c.args.procs.now) c.args.number ≡ Some (view.procedure c.in_ok-listed.listed.now) =
    slice_get-map view.procedure c.args.procs.now c.args.number
    ∙ ap (option_map view.procedure) (slice_get-get_or c.args.procs.now c.args.number c.in_ok-listed.listed.now l.3.0 ∙ ap (λ (p : TProc). Some p) (sym l.1)) in
    let few : length c.in_ok-listed.listed.now.locals.items < 2 ^ 32 = subst (λ (o : Option TypedProcedure). IfSome o (λ q. length q.locals < 2 ^ 32)) at (c.requires c.args.number) in
    omega (arith, few, ap length c.as_slice.ensures.value)

pub returns : goal.returns
returns c =
    let l = c.in_ok-listed.ensures.lookup in
    let at : slice_get (map view.procedure c.args.procs.now) c.args.number ≡ Some (view.procedure c.in_ok-listed.listed.now) =
    slice_get-map view.procedure c.args.procs.now c.args.number
    ∙ ap (option_map view.procedure) (slice_get-get_or c.args.procs.now c.args.number c.in_ok-listed.listed.now l.3.0 ∙ ap (λ (p : TProc). Some p) (sym l.1)) in
    ap (λ (n : ℕ). Some n) (ap length c.as_slice.ensures.value) ∙ ap (option_map (λ q. length q.locals)) (sym at)

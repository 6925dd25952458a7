use Rattle.std.proofs.Common.{List, map, ap, sym, ◌∙◌, ◌++◌}
use Rattle.typed_tree.specs.TypedView as view
use Rattle.modular_cut.specs.Parts.{without_body}
use Rattle.modular_cut.proofs.Copied.{made_step, made_end, map_twice}
use Rattle.modular_cut.proofs.procedures.add_bare.Goals as goal

pub loop-said-preserved : goal.loop-said-preserved
loop-said-preserved c =
    made_step (λ p. without_body (view.procedure p)) view.procedure c.args.procs.now c.loop-said.said-index c.said-item.result c.in_ok-without_body.field-0 c.loop-said.made.items c.push.new.self.items _
    c.loop-said-test.true c.said-item.is c.in_ok-without_body.ensures c.in_ok-push.ensures.items c.loop-said.invariant

pub returns : goal.returns
returns c =
    made_end (λ p. without_body (view.procedure p)) view.procedure c.args.procs.now c.loop-said.said-index c.loop-said.made.items _ c.loop-said-test.false c.loop-said.invariant
    ∙ ap (λ (ys : List _). map view.procedure c.args.made.now.items ++ ys) (sym (map_twice without_body view.procedure c.args.procs.now))

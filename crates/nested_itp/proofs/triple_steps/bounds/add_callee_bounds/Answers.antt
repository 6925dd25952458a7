use Rattle.std.proofs.Common.{◌∙◌, ◌++◌, ◌∷◌, refl, ap}
use Rattle.boogie_tree.specs.declared.tree.Column.{Column}
use Rattle.boogie_tree.specs.declared.tree.VarInfo.{VarInfo}
use Rattle.nested_itp.specs.NestedRefutations.Numbers.{callee_bounds}
use Rattle.nested_itp.specs.TripleSteps.Sections.{roles_in}
use Rattle.nested_itp.proofs.TripleSteps.RoleLaws.{adds_none}
use Rattle.nested_itp.proofs.TripleSteps.BoundLaws.{bounds_next, bounds_done}
use Rattle.nested_itp.proofs.triple_steps.bounds.add_callee_bounds.Goals as goal

pub loop-i-init : goal.loop-i-init
loop-i-init c = record { roles = λ g w t v. refl; plain = adds_none c.args.sections.now.items }

pub loop-i-preserved : goal.loop-i-preserved
loop-i-preserved c =
    bounds_next c.args.sections.now.items c.loop-i.sections.items c.add_bounds.new.sections.items c.args.local c.args.old c.args.callee.now c.loop-i.i c.index-callee-i.result
    c.loop-i.next.local_row c.loop-i.next.old_row c.add_bounds.new.next.local_row c.add_bounds.new.next.old_row c.loop-i-test.true c.loop-i.invariant
    (λ g w t v rest.
    c.in_ok-add_bounds.ensures.roles g w t v rest ∙
    ap (λ (x : Column × VarInfo). roles_in g w t v c.loop-i.sections.items ++ callee_bounds c.loop-i.next.local_row c.loop-i.next.old_row (x ∷ rest)) c.index-callee-i.is) c.in_ok-add_bounds.ensures.plain

pub returns : goal.returns
returns c = bounds_done c.args.sections.now.items c.loop-i.sections.items c.args.local c.args.old c.args.callee.now c.loop-i.i c.loop-i.next.local_row c.loop-i.next.old_row c.loop-i-test.false c.loop-i.invariant

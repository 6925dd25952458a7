use Rattle.std.proofs.Common.{◌≡◌, ◌∙◌, true, refl, sym}
use Rattle.nested_itp.specs.NestedPredicates.Walking.{is_bool}
use Rattle.nested_itp.specs.declared.triple_steps.sections.Section.TheVariants.{Spare, Rows}
use Rattle.nested_itp.proofs.TripleSteps.RoleLaws.{adds_one}
use Rattle.nested_itp.proofs.TripleSteps.BoundLaws.{bound_local, bound_old, bound_global}
use Rattle.nested_itp.proofs.triple_steps.bounds.add_bounds.Goals as goal

pub returns-in_ok-next-in-Local-clause-roles : goal.returns-in_ok-next-in-Local-clause-roles
returns-in_ok-next-in-Local-clause-roles c =
    let known : is_bool c.args.column.now ≡ true = sym c.is_bool.ensures ∙ c.if-not-is_bool.false in
    bound_local c.args.sections.now.items c.push.new.self.items (Rows c.args.next.now.local_row 2) c.args.next.now.local_row c.in_ok-next-in-Local.field-0 c.args.next.now.old_row c.args.column.now
    c.in-Local.field-0 c.in_ok-push-in-Local.ensures.items known c.in-Local.is (λ g w t v. refl) c.in_ok-next-in-Local.ensures

pub returns-in_ok-next-in-Old-clause-roles : goal.returns-in_ok-next-in-Old-clause-roles
returns-in_ok-next-in-Old-clause-roles c =
    let known : is_bool c.args.column.now ≡ true = sym c.is_bool.ensures ∙ c.if-not-is_bool.false in
    bound_old c.args.sections.now.items c.push-in-Old.new.self.items (Rows c.args.next.now.old_row 2) c.args.next.now.local_row c.args.next.now.old_row c.in_ok-next-in-Old.field-0 c.args.column.now
    c.in-Old.field-0 c.in_ok-push-in-Old.ensures.items known c.in-Old.is (λ g w t v. refl) c.in_ok-next-in-Old.ensures

pub returns-in_ok-push-in-Global-clause-roles : goal.returns-in_ok-push-in-Global-clause-roles
returns-in_ok-push-in-Global-clause-roles c =
    let known : is_bool c.args.column.now ≡ true = sym c.is_bool.ensures ∙ c.if-not-is_bool.false in
    bound_global c.args.sections.now.items c.push-in-Global.new.self.items (Spare 2) c.args.next.now.local_row c.args.next.now.old_row c.args.column.now c.in-Global.field-0
    c.in_ok-push-in-Global.ensures.items known c.in-Global.is (λ g w t v. refl)

pub returns-in_ok-next-in-Local-clause-plain : goal.returns-in_ok-next-in-Local-clause-plain
returns-in_ok-next-in-Local-clause-plain c = adds_one c.args.sections.now.items c.push.new.self.items (Rows c.args.next.now.local_row 2) c.in_ok-push-in-Local.ensures.items refl

pub returns-in_ok-next-in-Old-clause-plain : goal.returns-in_ok-next-in-Old-clause-plain
returns-in_ok-next-in-Old-clause-plain c = adds_one c.args.sections.now.items c.push-in-Old.new.self.items (Rows c.args.next.now.old_row 2) c.in_ok-push-in-Old.ensures.items refl

pub returns-in_ok-push-in-Global-clause-plain : goal.returns-in_ok-push-in-Global-clause-plain
returns-in_ok-push-in-Global-clause-plain c = adds_one c.args.sections.now.items c.push-in-Global.new.self.items (Spare 2) c.in_ok-push-in-Global.ensures.items refl

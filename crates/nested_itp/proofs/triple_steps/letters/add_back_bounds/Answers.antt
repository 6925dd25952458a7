use Rattle.std.proofs.Common.{◌++◌, suc, List, length, refl, ap}
use Rattle.letter_acts.specs.FrameRows.Rows.{bounds, types_at}
use Rattle.nested_itp.specs.NestedRefutations.Refutations.{Role}
use Rattle.nested_itp.specs.NestedRefutations.Numbers.{spares, bounds_in, before_bounds}
use Rattle.nested_itp.specs.declared.triple_steps.sections.Section.{Section}
use Rattle.nested_itp.specs.declared.triple_steps.sections.Section.TheVariants.{Spare}
use Rattle.nested_itp.proofs.TripleSteps.RoleLaws.{adds_section}
use Rattle.nested_itp.proofs.TripleSteps.JoinLaws.{adds_both}
use Rattle.nested_itp.proofs.triple_steps.letters.add_back_bounds.Goals as goal

pub returns : goal.returns
returns c =
    let caller = c.args.caller.now in
    let old : List Section = c.args.sections.now.items in
    let one : List Section = c.push.new.self.items in
    let two : List Section = c.push-2.new.self.items in
    let new : List Section = c.push-3.new.self.items in
    let exit : List Role = spares (bounds_in c.args.callee.now) in
    let before : List Role = before_bounds (suc c.args.call.at) caller in
    let after : List Role = spares (length (bounds 0 (types_at caller c.args.written.now))) in
    adds_both old two new (exit ++ before) after
    (adds_both old one two exit before
    (adds_section old one (Spare c.bounds_in.result) exit c.in_ok-push.ensures.items refl (λ g w t v. ap spares c.bounds_in.ensures))
    (adds_section one two c.before_bounds.result before c.in_ok-push-2.ensures.items c.before_bounds.ensures.plain c.before_bounds.ensures.roles))
    (adds_section two new (Spare c.bounds_at.result) after c.in_ok-push-3.ensures.items refl (λ g w t v. ap spares c.bounds_at.ensures))

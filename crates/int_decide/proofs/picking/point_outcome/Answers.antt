use Rattle.std.proofs.Common.{rules, subst}
use Rattle.std.specs.List.{AllByRecursion}
use Rattle.lin_rows.specs.Rows.{IsRow}
use Rattle.fm_elim.specs.Slices.{IsPoint}
use Rattle.int_decide.specs.Ties.Picking.{ArePicked}
use Rattle.int_decide.proofs.PickedValues.{point_stands}
use Rattle.int_decide.proofs.picking.point_outcome.Goals as goal

pub returns-then-branch : goal.returns-then-branch
returns-then-branch c =
    let p : IsPoint c.args.columns c.args.rows.now c.args.values.items = search rules in
    let a : ArePicked c.args.rows.now 0 c.args.values.items = search rules in
    point_stands c.args.columns c.args.rows.now c.args.values.items (subst (AllByRecursion IsRow) c.in_ok-held.ensures.value c.in_ok-held.ensures.valid) c.requires.below c.requires.tight p a

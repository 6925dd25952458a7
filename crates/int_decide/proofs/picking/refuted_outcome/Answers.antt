use Rattle.std.proofs.Common.{rules, subst}
use Rattle.std.specs.List.{AllByRecursion}
use Rattle.lin_rows.specs.Rows.{IsRow}
use Rattle.fm_elim.specs.Worth.{IsSolvable}
use Rattle.int_decide.proofs.PickedValues.{refuted_stands}
use Rattle.int_decide.proofs.picking.refuted_outcome.Goals as goal

pub returns-then-branch : goal.returns-then-branch
returns-then-branch c =
    let none : IsSolvable c.args.rows.now → ⊥ = search rules in
    refuted_stands c.args.columns c.args.rows.now c.args.parts.items (subst (AllByRecursion IsRow) c.in_ok-held.ensures.value c.in_ok-held.ensures.valid) c.requires.below c.requires.tight none

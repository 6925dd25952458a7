use Rattle.std.proofs.Common.{◌↔◌, ℕ, ℤ, pos, ◌-ℤ◌, List, IsTrue, IfOk, FitsSigned, sym, subst}
use Rattle.std.specs.Int.{w128}
use Rattle.std.proofs.lemmas.Int.{to_z-of_z}
use Rattle.lin_rows.specs.Sums.{row_of}
use Rattle.lin_rows.specs.declared.types.RowKind.TheVariants.{Le}
use Rattle.rank_lasso.specs.LassoTurns.Made.{plain_turn}
use Rattle.rank_lasso.specs.LassoTurns.Claims.{RefutesWith}
use Rattle.rank_lasso.proofs.LassoTurns.FitLaws.{form_fits, at_first, one_less_fits}
use Rattle.rank_lasso.proofs.lasso_turns.claims.shows_bound.Goals as goal

pub refutes_with-requires : goal.refutes_with-requires
refutes_with-requires c =
    let f : FitsSigned w128 c.args.bound = c.ranges.bound in
    let k : FitsSigned w128 (c.args.bound -ℤ pos 1) = one_less_fits c.args.bound c.requires.bound in
    simp to_z-of_z (form_fits c.args.turn.now.width c.args.terms.now c.requires.form (c.args.bound -ℤ pos 1))

pub returns : goal.returns
returns c =
    let f : FitsSigned w128 c.args.bound = c.ranges.bound in
    let k : FitsSigned w128 (c.args.bound -ℤ pos 1) = one_less_fits c.args.bound c.requires.bound in
    subst (λ (v : List (ℕ × ℤ)). IfOk c.refutes_with.result (λ yes. IsTrue yes ↔ RefutesWith (plain_turn c.args.turn.now) (row_of v Le (c.args.bound -ℤ pos 1)) c.args.proof.now))
    (sym (at_first c.args.turn.now.width c.args.terms.now c.requires.form.within)) (simp to_z-of_z at c.refutes_with.ensures)

use Rattle.std.proofs.Common.{rules, FitsSigned}
use Rattle.std.specs.Int.{w128}
use Rattle.std.proofs.lemmas.Int.{to_z-of_z}
use Rattle.fm_elim.proofs.ValueLemmas.{with_term_exact}
use Rattle.fm_elim.proofs.values.with_term.Goals as goal

pub returns : goal.returns
returns c =
    let f : FitsSigned w128 c.args.term.now.1 = search rules in
    with_term_exact c.args.column c.args.values.now c.args.sum c.args.term.now c.in_ok-factor.factor c.in_ok-value.value c.in_ok-product.product c.plus.result
    c.if-term-column.false (simp to_z-of_z at c.in_ok-factor.ensures.1.1) c.in_ok-value.ensures.1.1 c.in_ok-product.ensures c.plus.ensures

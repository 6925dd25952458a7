use Rattle.std.proofs.Common.{◌≡◌, ◌∙◌, ◌∷◌, true, rules, sym, ap, subst}
use Rattle.triple_rows.specs.declared.predicates.PredNode.TheVariants.{Or}
use Rattle.triple_rows.specs.Predicates.{formula_of}
use Rattle.explained_proof.specs.FactExpressions.Conclusions.{parts_of}
use Rattle.explained_proof.specs.FactExpressions.Trees.{spells}
use Rattle.explained_proof.proofs.FactExpressions.TreeLaws.{or_parts, rest_spelled, spells_none}
use Rattle.explained_proof.proofs.fact_expressions.trees.Tree.parts.Goals as goal

pub returns-in-Some-Or-default-clause-value : goal.returns-in-Some-Or-default-clause-value
returns-in-Some-Or-default-clause-value c =
    let k = c.in-Some-Or-default.field-0-0-0 in
    let e : c.args.self.nodes.now ≡ Or k ∷ c.in-Some-Or-default.parts.now = search rules in
    or_parts k c.in-Some-Or-default.parts.now (subst (λ ns. spells 1 ns ≡ true) e c.args.self.spelled) ∙ ap (λ ns. parts_of (formula_of ns)) (sym e)

pub returns-in-Some-Or-default-clause-spelled : goal.returns-in-Some-Or-default-clause-spelled
returns-in-Some-Or-default-clause-spelled c =
    let k = c.in-Some-Or-default.field-0-0-0 in
    let e : c.args.self.nodes.now ≡ Or k ∷ c.in-Some-Or-default.parts.now = search rules in
    rest_spelled (Or k) c.in-Some-Or-default.parts.now (1, subst (λ ns. spells 1 ns ≡ true) e c.args.self.spelled)

pub returns-in_default-clause-spelled : goal.returns-in_default-clause-spelled
returns-in_default-clause-spelled c = (0, spells_none)

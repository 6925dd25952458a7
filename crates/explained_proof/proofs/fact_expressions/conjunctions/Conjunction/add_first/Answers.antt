use Rattle.std.proofs.Common.{◌≡◌, ◌∙◌, ◌∷◌, rules, sym, ap, subst}
use Rattle.triple_rows.specs.declared.predicates.PredNode.TheVariants.{And}
use Rattle.triple_rows.specs.Predicates.{formulas}
use Rattle.explained_proof.specs.FactExpressions.Facts as spec
use Rattle.explained_proof.specs.FactExpressions.Trees.{SpellsSome}
use Rattle.explained_proof.specs.FactExpressions.Views as view
use Rattle.explained_proof.proofs.FactExpressions.FactLaws.{and_parts}
use Rattle.explained_proof.proofs.FactExpressions.TreeLaws.{rest_spelled}
use Rattle.explained_proof.proofs.fact_expressions.conjunctions.Conjunction.add_first.Goals as goal

pub returns-after-not-value-clause-spelled : goal.returns-after-not-value-clause-spelled
returns-after-not-value-clause-spelled c =
    let rest = c.in-Some-Truth-default.rest.now in
    let n = c.in-Some-Truth-default.field-0-0.now in
    let e : c.args.nodes.now ≡ n ∷ rest = search rules in
    rest_spelled n rest (subst (λ ns. SpellsSome ns) e c.requires.spelled)

pub returns-in_ok-add_row-in-Some-Atom-default-clause-spelled : goal.returns-in_ok-add_row-in-Some-Atom-default-clause-spelled
returns-in_ok-add_row-in-Some-Atom-default-clause-spelled c =
    let rest = c.in-Some-Atom-default.rest.now in
    let n = c.in-Some-Atom-default.field-0-0.now in
    let e : c.args.nodes.now ≡ n ∷ rest = search rules in
    rest_spelled n rest (subst (λ ns. SpellsSome ns) e c.requires.spelled)

pub returns-in-Some-And-default-clause-value : goal.returns-in-Some-And-default-clause-value
returns-in-Some-And-default-clause-value c =
    let rest = c.in-Some-And-default.rest.now in
    let k = c.in-Some-And-default.field-0-0-0 in
    let e : c.args.nodes.now ≡ And k ∷ rest = search rules in
    and_parts k rest (view.facts c.args.self.now) ∙ ap (λ ns. spec.facts_from (formulas ns) (view.facts c.args.self.now)) (sym e)

pub returns-in-Some-And-default-clause-spelled : goal.returns-in-Some-And-default-clause-spelled
returns-in-Some-And-default-clause-spelled c =
    let rest = c.in-Some-And-default.rest.now in
    let n = c.in-Some-And-default.field-0-0.now in
    let e : c.args.nodes.now ≡ n ∷ rest = search rules in
    rest_spelled n rest (subst (λ ns. SpellsSome ns) e c.requires.spelled)

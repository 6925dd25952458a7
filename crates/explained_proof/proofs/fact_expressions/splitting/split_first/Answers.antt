use Rattle.std.proofs.Common.{◌≡◌, ◌∙◌, ◌∷◌, ◌<◌, true, length, take, drop, sym, ap, subst}
use Rattle.triple_rows.specs.Predicates.{formulas, formula_of}
use Rattle.explained_proof.specs.FactExpressions.Trees as spec
use Rattle.explained_proof.proofs.FactExpressions.TreeLaws.{split}
use Rattle.explained_proof.proofs.fact_expressions.splitting.split_first.Goals as goal

pub invariant_of-result : goal.invariant_of-result
invariant_of-result c =
    let ns = c.args.nodes.now in
    let s = split ns c.requires.some c.requires.spelled in
    let front : c.split_at.result.0.now ≡ take (spec.tree_length 1 ns) ns = c.split_at.ensures.front ∙ ap (λ m. take m ns) c.first_length.ensures.value in
    record { spelled = subst (λ xs. spec.spells 1 xs ≡ true) (sym front) s.spelled }

pub returns-clause-value : goal.returns-clause-value
returns-clause-value c =
    let ns = c.args.nodes.now in
    let s = split ns c.requires.some c.requires.spelled in
    let front : c.split_at.result.0.now ≡ take (spec.tree_length 1 ns) ns = c.split_at.ensures.front ∙ ap (λ m. take m ns) c.first_length.ensures.value in
    let back : c.split_at.result.1.now ≡ drop (spec.tree_length 1 ns) ns = c.split_at.ensures.back ∙ ap (λ m. drop m ns) c.first_length.ensures.value in
    s.value ∙ ap (λ xs. formula_of xs ∷ formulas (drop (spec.tree_length 1 ns) ns)) (sym front) ∙ ap (λ ys. formula_of c.split_at.result.0.now ∷ formulas ys) (sym back)

pub returns-clause-spelled : goal.returns-clause-spelled
returns-clause-spelled c =
    let ns = c.args.nodes.now in
    let s = split ns c.requires.some c.requires.spelled in
    let back : c.split_at.result.1.now ≡ drop (spec.tree_length 1 ns) ns = c.split_at.ensures.back ∙ ap (λ m. drop m ns) c.first_length.ensures.value in
    subst (λ ys. spec.SpellsSome ys) (sym back) s.others

pub returns-clause-shorter : goal.returns-clause-shorter
returns-clause-shorter c =
    let ns = c.args.nodes.now in
    let s = split ns c.requires.some c.requires.spelled in
    let back : c.split_at.result.1.now ≡ drop (spec.tree_length 1 ns) ns = c.split_at.ensures.back ∙ ap (λ m. drop m ns) c.first_length.ensures.value in
    subst (λ ys. length ys < length ns) (sym back) s.shorter

use Rattle.std.proofs.Common.{◌∙◌, ◌≡◌, ◌∷◌, [], List, ℤ, ◌-ℤ◌, ap, sym, subst, reverse, arith}
use Rattle.std.specs.List.{AllByRecursion}
use Rattle.std.proofs.lemmas.Grind.{common_steps}
use Rattle.math_facts.specs.Fits.{Fits}
use Rattle.nested_itp.specs.NestedPredicates.Wides.{value_of}
use Rattle.triple_rows.specs.Predicates.{prefix_of}
use Rattle.nested_itp.specs.declared.nested_predicates.wide.Wide.{Wide}
use Rattle.nested_itp.specs.NestedPredicates.Sums.{terms_from, inequality}
use Rattle.nested_itp.specs.NestedPredicates.Runnings.{differences}
use Rattle.nested_itp.specs.NestedPredicates.Bases.{first_columns, first_bound, node_of}
use Rattle.nested_itp.proofs.NestedPredicates.BaseLaws.{sum_node, if_ok}
use Rattle.nested_itp.proofs.nested_predicates.bases.sum_in.Goals as goal

pub returns-in-Some-clause-value : goal.returns-in-Some-clause-value
returns-in-Some-clause-value c =
    let v = c.in-Some.ensures.value in
    let i = c.in-Some.ensures.item in
    let b = c.in-Some.base-is in
    let columns = c.args.running.now.columns.items in
    let e : c.in-Some.base.now.columns.items ≡ first_columns (reverse c.args.frames.now) = grind (arith, common_steps) in
    let f : value_of c.in-Some.base.now.bound ≡ first_bound (reverse c.args.frames.now) = grind (arith, common_steps) in
    if_ok (λ n. n ∷ [] ≡ prefix_of (inequality (terms_from 0 (differences columns c.deref.result.now c.args.here.now)) (value_of c.args.running.now.bound -ℤ value_of c.in-Some.base.now.bound)))
    (λ n. n ≡ node_of (inequality (terms_from 0 (differences columns (first_columns (reverse c.args.frames.now)) c.args.here.now)) (value_of c.args.running.now.bound -ℤ first_bound (reverse c.args.frames.now))))
    (λ n h.
    sum_node n _ _ h ∙
    ap (λ (ws : List Wide). node_of (inequality (terms_from 0 (differences columns ws c.args.here.now)) (value_of c.args.running.now.bound -ℤ value_of c.in-Some.base.now.bound)))
    (c.deref.ensures.value ∙ e) ∙
    ap (λ (z : ℤ). node_of (inequality (terms_from 0 (differences columns (first_columns (reverse c.args.frames.now)) c.args.here.now)) (value_of c.args.running.now.bound -ℤ z))) f)
    c.sum.result c.sum.ensures.value

pub returns-in-Some-clause-past : goal.returns-in-Some-clause-past
returns-in-Some-clause-past c was fits bound =
    let v = c.in-Some.ensures.value in
    let i = c.in-Some.ensures.item in
    let b = c.in-Some.base-is in
    let columns = c.args.running.now.columns.items in
    let e : c.in-Some.base.now.columns.items ≡ first_columns (reverse c.args.frames.now) = grind (arith, common_steps) in
    let f : value_of c.in-Some.base.now.bound ≡ first_bound (reverse c.args.frames.now) = grind (arith, common_steps) in
    c.sum.ensures.past was
    (subst (λ (ws : List Wide). AllByRecursion Fits (differences columns ws c.args.here.now)) (sym (c.deref.ensures.value ∙ e)) fits)
    (subst (λ (z : ℤ). Fits (value_of c.args.running.now.bound -ℤ z)) (sym f) bound)

use Rattle.std.proofs.Common.{◌≡◌, ◌∙◌, ◌+◌, ℤ, ◌-ℤ◌, List, ◌∷◌, drop, get_or, ap, sym, rules, FitsSigned}
use Rattle.std.specs.Int.{w128}
use Rattle.std.proofs.lemmas.Int.{to_z-of_z}
use Rattle.math_facts.specs.Fits.{Fits}
use Rattle.nested_itp.specs.NestedPredicates.Wides.{value_of}
use Rattle.nested_itp.specs.NestedPredicates.Runnings.{value_at, differences}
use Rattle.nested_itp.proofs.NestedPredicates.SumLaws.{next_number, column_read, column_past, columns_read, none_then}
use Rattle.nested_itp.proofs.nested_predicates.sums.terms.Goals as goal

pub returns-in_default-clause-past : goal.returns-in_default-clause-past
returns-in_default-clause-past c _ h =
    let columns = c.args.running.now.columns.items in
    let z : ℤ = value_at columns (get_or c.args.here.now c.loop-j.j 0) -ℤ value_of c.wide_at.result in
    let f : drop c.loop-j.j (differences columns c.args.known.now c.args.here.now) ≡ z ∷ drop (c.loop-j.j + 1) (differences columns c.args.known.now c.args.here.now) =
    next_number columns c.args.known.now c.args.here.now c.loop-j.j c.loop-j-test.true ∙
    ap (λ (v : ℤ). (value_at columns (get_or c.args.here.now c.loop-j.j 0) -ℤ v) ∷ drop (c.loop-j.j + 1) (differences columns c.args.known.now c.args.here.now)) (sym c.wide_at.ensures.value) in
    column_past (differences columns c.args.known.now c.args.here.now) c.loop-j.j z c.loop-j.terms.items f
    (none_then c.difference.result (Fits z → ⊥) (λ x. (x ≡ z) × Fits x) c.in_default.not-Some c.difference.ensures) c.loop-j.invariant h

pub loop-j-preserved : goal.loop-j-preserved
loop-j-preserved c =
    let columns = c.args.running.now.columns.items in
    let numbers : List ℤ = differences columns c.args.known.now c.args.here.now in
    let k : FitsSigned w128 c.in-Some.coefficient = search rules in
    let f : drop c.loop-j.j numbers ≡ c.in-Some.coefficient ∷ drop (c.loop-j.j + 1) numbers =
    next_number columns c.args.known.now c.args.here.now c.loop-j.j c.loop-j-test.true ∙
    ap (λ (v : ℤ). (value_at columns (get_or c.args.here.now c.loop-j.j 0) -ℤ v) ∷ drop (c.loop-j.j + 1) numbers) (sym c.wide_at.ensures.value) ∙
    ap (λ (v : ℤ). v ∷ drop (c.loop-j.j + 1) numbers) (sym c.in-Some.ensures.0) in
    column_read numbers c.loop-j.j c.in-Some.coefficient c.loop-j.terms.items c.add_term.new.terms.items f c.in-Some.ensures.1 (simp to_z-of_z at c.in_ok-add_term.ensures) c.loop-j.invariant

pub returns-clause-value : goal.returns-clause-value
returns-clause-value c =
    (columns_read c.args.running.now.columns.items c.args.known.now c.args.here.now c.loop-j.j c.loop-j.terms.items c.loop-j-test.false c.loop-j.invariant).0

pub returns-clause-fits : goal.returns-clause-fits
returns-clause-fits c =
    (columns_read c.args.running.now.columns.items c.args.known.now c.args.here.now c.loop-j.j c.loop-j.terms.items c.loop-j-test.false c.loop-j.invariant).1

use Rattle.std.proofs.Common.{◌≡◌, ◌+ℤ◌, refl, subst, arith, rules, FitsSigned}
use Rattle.std.specs.Int.{w128}
use Rattle.std.proofs.lemmas.Int.{to_z-of_z}
use Rattle.nested_itp.specs.declared.nested_predicates.wide.Wide.{Wide}
use Rattle.nested_itp.specs.NestedPredicates.Wides.{value_of, KeepsCount}
use Rattle.nested_itp.proofs.NestedPredicates.RunningLaws.{term_added, term_left_out}
use Rattle.nested_itp.proofs.nested_predicates.running.Running.add_term.Goals as goal

pub returns-then-column-len : goal.returns-then-column-len
returns-then-column-len c =
    term_left_out c.args.self.now _ c.args.column c.args.number c.requires.counted (omega (arith, c.if-self-ge-MOST_TERMS.false)) (omega (arith, c.if-column-len.true, c.len.ensures)) refl refl refl

pub returns : goal.returns
returns c =
    let d : Wide = c.index-old.result.now in
    let w : Wide = c.plus.result in
    let f : FitsSigned w128 c.args.number = search rules in
    term_added c.args.self.now _ c.args.column c.args.number w d c.requires.counted (omega (arith, c.if-self-ge-MOST_TERMS.false)) (omega (arith, c.if-column-len.false, c.len.ensures))
    (subst (λ (v : Wide). value_of w ≡ value_of v +ℤ c.args.number) c.index-old.ensures (simp to_z-of_z at c.plus.ensures.value))
    (subst (λ (v : Wide). KeepsCount v w) c.index-old.ensures c.plus.ensures.count) refl refl refl

use Rattle.std.proofs.Common.{rules, refl, sym, FitsSigned}
use Rattle.std.specs.Int.{w128}
use Rattle.std.proofs.lemmas.Int.{to_z-of_z}
use Rattle.typed_tree.proofs.Merged.{front_second_alone, front_first, front_second, front_both, front_too_big}
use Rattle.typed_tree.proofs.merging.first_of.Goals as goal

pub returns-in_default-split-clause-goes : goal.returns-in_default-split-clause-goes
returns-in_default-split-clause-goes c =
    let f : FitsSigned w128 c.in-Some.second.now.1 = search rules in
    front_second_alone _ _ c.in-Some.second.now _ (c.split-2.ensures.none c.in_default-split.is) c.in-Some.ensures.some c.requires.a c.requires.b
    (simp to_z-of_z at c.kept-term.ensures) refl

pub returns-then-is_before-clause-goes : goal.returns-then-is_before-clause-goes
returns-then-is_before-clause-goes c =
    front_first _ _ c.in-Some-split.first.now c.in-Some.second.now c.in-Some.right.now _ c.in-Some-split.ensures.some c.in-Some.ensures.some c.requires.a c.requires.b
    (sym c.if-is_before.ensures) refl refl

pub returns-then-is_before-2-clause-goes : goal.returns-then-is_before-2-clause-goes
returns-then-is_before-2-clause-goes c =
    let f : FitsSigned w128 c.in-Some.second.now.1 = search rules in
    front_second _ _ c.in-Some-split.first.now c.in-Some.second.now c.in-Some-split.left.now _ c.in-Some-split.ensures.some c.in-Some.ensures.some c.requires.a c.requires.b
    (sym c.if-is_before-2.ensures) (simp to_z-of_z at c.kept-term-then-is_before-2.ensures) refl

pub returns-in_default-sum-clause-too_big : goal.returns-in_default-sum-clause-too_big
returns-in_default-sum-clause-too_big c _ =
    let f : FitsSigned w128 c.in-Some-split.first.now.1 = search rules in
    let g : FitsSigned w128 c.in-Some.second.now.1 = search rules in
    front_too_big _ _ c.in-Some-split.first.now c.in-Some.second.now c.in-Some-split.left.now c.in-Some.right.now c.in-Some-split.ensures.some c.in-Some.ensures.some c.requires.b
    (sym c.if-is_before.ensures) (sym c.if-is_before-2.ensures) (simp to_z-of_z at c.in_default-sum.ensures)

pub returns-clause-goes : goal.returns-clause-goes
returns-clause-goes c =
    let f : FitsSigned w128 c.in-Some-split.first.now.1 = search rules in
    let g : FitsSigned w128 c.in-Some.second.now.1 = search rules in
    let h : FitsSigned w128 c.in-Some-sum.coefficient = search rules in
    let k = simp to_z-of_z at c.in-Some-sum.ensures in
    front_both _ _ c.in-Some-split.first.now c.in-Some.second.now c.in-Some-sum.coefficient _ c.in-Some-split.ensures.some c.in-Some.ensures.some c.requires.a c.requires.b
    (sym c.if-is_before.ensures) (sym c.if-is_before-2.ensures) k.0 k.1 (simp to_z-of_z at c.kept-term-2.ensures)

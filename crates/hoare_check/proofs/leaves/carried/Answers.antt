use Rattle.std.proofs.Common.{rules, FitsSigned, ◌≡◌, ◌+◌, ◌<◌, ℕ, ℤ, pos, List, [], ◌∷◌, ◌++◌, take, get_or, refl, sym, subst, arith}
use Rattle.std.specs.Int.{w128}
use Rattle.std.proofs.lemmas.Int.{to_z-of_z}
use Rattle.std.proofs.lemmas.List.{take_more, take_all}
use Rattle.std.specs.List.{AllByRecursion}
use Rattle.lin_rows.specs.Rows.{AscendsFrom}
use Rattle.hoare_check.specs.Halves.{IsCarried}
use Rattle.hoare_check.proofs.PieceLaws.{pairs_append}
use Rattle.hoare_check.proofs.LeafLaws.{AreCarried, carried_contradicts, ascends_push, below_push}
use Rattle.hoare_check.proofs.leaves.carried.Goals as goal

pub loop-place-preserved : goal.loop-place-preserved
loop-place-preserved c =
    let count = c.args.count in
    let from = c.args.from.now in
    let to = c.args.to.now in
    let parts = c.args.parts.now in
    let i = c.loop-place.place-index in
    let part : ℕ × ℤ = get_or parts i (0, pos 0) in
    let old = c.loop-place.moved.items in
    let new = c.push.new.self.items in
    let q : ℕ × ℤ = (c.in-Some.found, part.1) in
    let after = c.in-Some-checked_add.after in
    let next : after ≡ c.in-Some.found + 1 = omega (arith, c.in-Some-checked_add.ensures) in
    let low = c.in-Some.ensures.0 in
    let fits : FitsSigned w128 part.1 = search rules in
    let is : new ≡ old ++ q ∷ [] = simp to_z-of_z at c.in_ok-push.ensures.items in
    let taken = take_more parts i (0, pos 0) c.loop-place-test.true in
    record {
      carried = subst (λ (ps : List (ℕ × ℤ)). AreCarried count from to ps new) (sym taken)
          (subst (AreCarried count from to (take i parts ++ part ∷ [])) (sym is)
          (pairs_append (λ (a : ℕ × ℤ) (b : ℕ × ℤ). IsCarried count from to a.0 b.0 × (a.1 ≡ b.1)) (take i parts) (part ∷ []) old (q ∷ []) c.loop-place.invariant.carried ((c.in-Some.ensures.1, refl), tt)));
      ascends = subst (AscendsFrom 0) (sym is) (ascends_push 0 c.loop-place.next old q c.loop-place.invariant.ascends c.loop-place.invariant.below (omega arith) low);
      below = subst (λ (ps : List (ℕ × ℤ)). AllByRecursion (λ x. x.0 < after) ps) (sym is)
          (below_push c.loop-place.next after old q c.loop-place.invariant.below (omega (arith, low, next)) (omega (arith, next)));
    }

pub returns : goal.returns
returns c =
    let parts = c.args.parts.now in
    let moved = c.loop-place.moved.items in
    λ front n k. carried_contradicts c.args.count c.args.from.now c.args.to.now parts moved
    (subst (λ (ps : List (ℕ × ℤ)). AreCarried c.args.count c.args.from.now c.args.to.now ps moved) (take_all c.loop-place.place-index parts c.loop-place-test.false) c.loop-place.invariant.carried)
    c.loop-place.invariant.ascends front n k

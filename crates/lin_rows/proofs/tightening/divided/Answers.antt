use Rattle.std.proofs.Common.{◌≡◌, ◌∙◌, ◌+◌, ◌++◌, ◌∷◌, [], ℕ, ℤ, List, pos, take, get_or, FitsSigned, ap, sym, subst, rules, arith}
use Rattle.std.specs.Int.{w128}
use Rattle.std.specs.Prelude.{unsigned_abs, int_div}
use Rattle.std.proofs.lemmas.Int.{to_z-of_z, quot_fits, ints}
use Rattle.lin_rows.specs.Tightening.{divided}
use Rattle.lin_rows.proofs.TighteningLaw.{divided_more}
use Rattle.lin_rows.proofs.tightening.divided.Goals as goal

pub loop-column-preserved : goal.loop-column-preserved
loop-column-preserved c =
    let ts : List (ℕ × ℤ) = c.args.terms.now in
    let i : ℕ = c.loop-column.column-index in
    let g : ℕ = unsigned_abs c.args.divisor in
    let t : ℕ × ℤ = get_or ts i (0, pos 0) in
    let p : pos g ≡ c.args.divisor = omega (arith, ints) in
    let f : FitsSigned w128 c.args.divisor = c.ranges.divisor in
    let k : FitsSigned w128 (get_or c.args.terms.now c.loop-column.column-index (0, pos 0)).1 = search rules in
    let q : FitsSigned w128 (int_div (get_or c.args.terms.now c.loop-column.column-index (0, pos 0)).1 c.args.divisor) = quot_fits w128 _ _ k c.requires.positive in
    let m : divided g (take (i + 1) ts) ≡ divided g (take i ts) ++ (t.0, int_div t.1 c.args.divisor) ∷ [] =
    subst (λ (z : ℤ). divided g (take (i + 1) ts) ≡ divided g (take i ts) ++ (t.0, int_div t.1 z) ∷ []) p (divided_more g ts i (0, pos 0) (omega (arith, ints)) c.loop-column-test.true c.requires.divides) in
    let h = simp to_z-of_z at c.in_ok-push.ensures.ok in
    let v = simp to_z-of_z at c.loop-column.invariant in
    simp to_z-of_z (h ∙ ap (λ (l : List (ℕ × ℤ)). l ++ (t.0, int_div t.1 c.args.divisor) ∷ []) v ∙ sym m)

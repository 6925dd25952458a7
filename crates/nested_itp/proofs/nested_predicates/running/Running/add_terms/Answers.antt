use Rattle.std.proofs.Common.{ℕ, ℤ, pos, ◌*ℤ◌, get_or, refl, rules, FitsSigned}
use Rattle.std.specs.Int.{w128}
use Rattle.std.proofs.lemmas.Int.{to_z-of_z}
use Rattle.math_facts.specs.Fits.{Fits}
use Rattle.nested_itp.proofs.NestedPredicates.RunningLaws.{all_at, terms_done, term_taken}
use Rattle.nested_itp.proofs.nested_predicates.running.Running.add_terms.Goals as goal

pub loop-i-preserved : goal.loop-i-preserved
loop-i-preserved c =
    let d : ℕ × ℤ = (0, pos 0) in
    let t : ℕ × ℤ = get_or c.args.terms.now c.loop-i.i d in
    let k : Fits (c.args.times *ℤ t.1) = all_at (λ u. Fits (c.args.times *ℤ u.1)) c.args.terms.now c.loop-i.i d c.loop-i-test.true c.requires.fit in
    let f : FitsSigned w128 c.args.times = search rules in
    let g : FitsSigned w128 t.1 = search rules in
    let h : FitsSigned w128 (c.args.times *ℤ t.1) = search (rules, k) in
    simp to_z-of_z (term_taken c.args.terms.now c.args.times c.loop-i.i c.args.self.now c.loop-i.self c.add_term.new.self t d c.loop-i-test.true refl (simp to_z-of_z at c.loop-i.invariant)
    (simp to_z-of_z at c.in_ok-add_term.ensures))

pub returns : goal.returns
returns c =
    let f : FitsSigned w128 c.args.times = search rules in
    terms_done c.args.terms.now c.args.times c.loop-i.i c.args.self.now c.loop-i.self c.loop-i-test.false (simp to_z-of_z at c.loop-i.invariant)

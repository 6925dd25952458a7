use Rattle.std.proofs.Common.{◌≡◌, ◌∙◌, ◌<◌, ◌^◌, ℕ, pos, take, get_or, FitsSigned, sym, ap, subst, rules}
use Rattle.std.specs.Int.{w128}
use Rattle.std.proofs.lemmas.Int.{to_z-of_z, to_z_pos}
use Rattle.std.proofs.lemmas.List.{take_all}
use Rattle.lin_rows.specs.Tightening.{content}
use Rattle.lin_rows.proofs.TighteningLaw.{divisors_more, content_from_divisors, content_fits}
use Rattle.nested_itp.proofs.triple_walks.leaves.content.Goals as goal

pub loop-term-preserved : goal.loop-term-preserved
loop-term-preserved c =
    let f : FitsSigned w128 (get_or c.args.terms.now c.loop-term.term-index (0, pos 0)).1 = search rules in
    let k = simp to_z-of_z at c.unsigned_abs.ensures.value in
    divisors_more c.args.terms.now c.loop-term.term-index c.loop-term.divisor c.greatest_divisor-divisor.result (0, pos 0) c.loop-term-test.true
    (rw k at c.greatest_divisor-divisor.ensures) c.loop-term.invariant

pub overflow_cast-result : goal.overflow_cast-result
overflow_cast-result c =
    let e : take c.loop-term.term-index c.args.terms.now ≡ c.args.terms.now = take_all c.loop-term.term-index c.args.terms.now c.loop-term-test.false in
    let d : content c.args.terms.now ≡ c.loop-term.divisor = content_from_divisors c.args.terms.now c.loop-term.divisor c.requires (rw e at c.loop-term.invariant) in
    record { sfits = subst (λ (n : ℕ). n < 2 ^ 127) d (content_fits c.args.terms.now c.requires) }

pub returns : goal.returns
returns c =
    let e : take c.loop-term.term-index c.args.terms.now ≡ c.args.terms.now = take_all c.loop-term.term-index c.args.terms.now c.loop-term-test.false in
    let d : content c.args.terms.now ≡ c.loop-term.divisor = content_from_divisors c.args.terms.now c.loop-term.divisor c.requires (rw e at c.loop-term.invariant) in
    to_z_pos w128 c.loop-term.divisor (subst (λ (n : ℕ). n < 2 ^ 127) d (content_fits c.args.terms.now c.requires)) ∙ ap pos (sym d)

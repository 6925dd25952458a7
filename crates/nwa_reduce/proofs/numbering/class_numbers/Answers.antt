use Rattle.std.proofs.Common.{◌≡◌, ◌∙◌, ℕ, Some, sym, ap, subst, refl, arith}
use Rattle.std.proofs.lemmas.Bool.{eqb-true}
use Rattle.nwa_reduce.specs.Ties.Folding.{IsTotal}
use Rattle.nwa_reduce.proofs.NumberingLemmas.{numbering_none, numbering_more, numbering_all}
use Rattle.nwa_reduce.proofs.numbering.class_numbers.Goals as goal

pub loop-state-init : goal.loop-state-init
loop-state-init c = numbering_none _ _ c.new-of.ensures.items c.new-found.ensures.empty

pub loop-state-preserved : goal.loop-state-preserved
loop-state-preserved c =
    let k = c.in_ok-place.ensures.stored in
    numbering_more _ c.loop-state.of.items _ c.loop-state.state c.loop-state.found.keys _ c.class_of.result c.in_ok-place.place c.loop-state.invariant refl
    c.in_ok-place.ensures.keys (k.1 ∙ ap (λ (z : ℕ). Some z) (sym (eqb-true _ k.0 k.2))) c.in_ok-push.ensures.items

pub returns : goal.returns
returns c =
    let v = c.states-state-end.ensures in
    let i = c.loop-state.invariant in
    let e : c.loop-state.state ≡ c.args.nwa.now.states = (let l = c.loop-state-test.false in let a = c.loop-state.auto.state-end in let e = v.value in omega arith) in (
      subst (λ (n : ℕ). IsTotal c.args.nwa.now c.loop-state.of.items n) (sym c.len.ensures.len)
          (numbering_all c.args.nwa.now c.loop-state.of.items c.loop-state.state _ i e),
      i.long ∙ e,
    )

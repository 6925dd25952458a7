use Rattle.std.proofs.Common.{◌≡◌, ◌∙◌, ℕ, List, Option, length, sym, subst, arith}
use Rattle.nwa_reduce.specs.Ties.Naming.{IsMerging}
use Rattle.nwa_reduce.specs.Ties.Seen.{seen}
use Rattle.nwa_reduce.proofs.MergeLemmas.{merges}
use Rattle.nwa_reduce.proofs.merging.class_names.Goals as goal

pub returns : goal.returns
returns c =
    let i = c.loop-state.invariant in
    let v = c.states-state-end.ensures in
    let end : length (seen c.loop-state.classes).leaders ≡ c.args.nwa.now.states =
    i.next ∙ (let l = c.loop-state-test.false in let a = c.loop-state.auto.state-end in let e = v.value in omega arith) in
    subst (λ (names : List (Option ℕ)). IsMerging c.args.nwa.now names c.into_names.result.count) (sym c.into_names.ensures.names)
    (subst (λ (n : ℕ). IsMerging c.args.nwa.now (seen c.loop-state.classes).names n) (sym c.into_names.ensures.count)
    (merges (seen c.loop-state.classes) c.args.nwa.now i.classed i.nwa v.valid end))

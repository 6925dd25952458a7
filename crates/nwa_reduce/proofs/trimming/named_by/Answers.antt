use Rattle.std.proofs.Common.{◌∙◌, ◌≡◌, ℕ, List, length, sym, ap, subst, arith}
use Rattle.nwa_reduce.specs.Ties.Naming.{IsTrimming, IsIndex}
use Rattle.nwa_reduce.proofs.TrimLemmas.{IsFound, kept_few, trimmed}
use Rattle.nwa_reduce.proofs.trimming.named_by.Goals as goal

pub places-requires : goal.places-requires
places-requires c =
    let r = c.requires in
    let f : IsFound c.args.nwa.now r.0 r.1 = record { reached = r.2; ends = r.3 } in
    let k = kept_few c.args.nwa.now _ _ _ c.states.ensures.valid f r.4 in
    let e = c.states.ensures.value in
    let a : length c.as_slice-kept.result.now ≡ length c.args.kept.now = ap length c.as_slice-kept.ensures in
    omega arith

pub overflow_cast-result : goal.overflow_cast-result
overflow_cast-result c =
    let r = c.requires in
    let f : IsFound c.args.nwa.now r.0 r.1 = record { reached = r.2; ends = r.3 } in
    let k = kept_few c.args.nwa.now _ _ _ c.states.ensures.valid f r.4 in
    let e = c.states.ensures.value in
    let a : length c.as_slice-kept.result.now ≡ length c.args.kept.now = ap length c.as_slice-kept.ensures in
    let s = c.states.type_inv in
    omega arith

pub returns : goal.returns
returns c =
    let r = c.requires in
    let f : IsFound c.args.nwa.now r.0 r.1 = record { reached = r.2; ends = r.3 } in
    let l : length c.as_slice-kept.result.now ≡ length c.args.kept.now = ap length c.as_slice-kept.ensures in
    let i = subst (λ (s : List ℕ). IsIndex s c.in_ok-of.of.items) c.as_slice-kept.ensures c.in_ok-of.ensures.0 in
    subst (λ (n : ℕ). IsTrimming c.args.nwa.now c.in_ok-of.of.items n) (sym l)
    (trimmed c.args.nwa.now _ _ _ _ c.states.ensures.valid f r.4 i (c.in_ok-of.ensures.1 ∙ c.states.ensures.value))

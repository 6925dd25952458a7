use Rattle.std.proofs.lemmas.List.Filters.{dedup_is}
use Rattle.std.proofs.lemmas.List.Kept.{Contains-dedup_nat, Contains-from_dedup}
use Rattle.std.proofs.lemmas.List.Sorted.{Contains-permutation, IsPermutation-sym}
use Rattle.std.proofs.lemmas.Map.Keys.{IsStrictlyIncreasing-dedup}
use Rattle.nwa_base.proofs.PairLemmas.{contains_member, member_contains}
use Rattle.proof_build.proofs.ProofUnwind.FollowingLaws.{increasing_ascend}
use Rattle.proof_build.proofs.proof_unwind.following.in_order.Goals as goal

pub returns-clause-same : goal.returns-clause-same
returns-clause-same c =
    let is = dedup_is _ _ _ c.dedup.ensures.filtered in
    let moved = c.sort_unstable.ensures.permutation in
    record {
      there = λ x h. rw is (let k = Contains-dedup_nat _ x (Contains-permutation _ _ x moved (member_contains _ x h)) in contains_member _ x k.0 k.1 k.2);
      back = λ x h. let k = Contains-permutation _ _ x (IsPermutation-sym _ _ moved) (Contains-from_dedup _ _ x (member_contains _ x (rw is at h))) in contains_member _ x k.0 k.1 k.2;
    }

pub returns-clause-ascend : goal.returns-clause-ascend
returns-clause-ascend c =
    let is = dedup_is _ _ _ c.dedup.ensures.filtered in
    rw is (increasing_ascend _ (IsStrictlyIncreasing-dedup _ c.sort_unstable.ensures.sorted))

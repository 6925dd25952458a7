use Rattle.std.proofs.Common.{◌&&◌, ℕ, eqb}
use Rattle.std.specs.Cmp.{IsEquivalence}
use Rattle.std.proofs.lemmas.Cmp.{and_equiv, on_equiv, nat_eq_equiv}
use Rattle.std.proofs.lemmas.List.Filters.{dedup_is}
use Rattle.std.proofs.lemmas.List.Kept.{Contains-dedup, Contains-from_dedup}
use Rattle.std.proofs.lemmas.List.Sorted.{Contains-permutation, IsPermutation-sym}
use Rattle.nwa_base.proofs.MemberLemmas.{same_pair}
use Rattle.nwa_base.proofs.PairLemmas.{contains_member, member_contains}
use Rattle.nwa_base.proofs.pairs.as_set.Goals as goal

same_pairs : IsEquivalence (λ (x y : ℕ × ℕ). eqb x.0 y.0 && eqb x.1 y.1)
same_pairs = and_equiv (on_equiv (λ (x : ℕ × ℕ). x.0) nat_eq_equiv) (on_equiv (λ (x : ℕ × ℕ). x.1) nat_eq_equiv)

pub returns : goal.returns
returns c =
    let is = dedup_is _ _ _ c.dedup.ensures.filtered in
    let moved = c.sort_unstable.ensures.permutation in
    record {
      there = λ x h. rw is (let k = Contains-dedup same_pairs same_pair _ x (Contains-permutation _ _ x moved (member_contains _ x h)) in contains_member _ x k.0 k.1 k.2);
      back = λ x h. let k = Contains-permutation _ _ x (IsPermutation-sym _ _ moved) (Contains-from_dedup _ _ x (member_contains _ x (rw is at h))) in contains_member _ x k.0 k.1 k.2;
    }

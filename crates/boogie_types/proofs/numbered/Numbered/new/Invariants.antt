use Rattle.std.proofs.Common.{◌≡◌, ℕ, true, List, take}
use Rattle.std.specs.BTreeMap.{get_by}
use Rattle.std.specs.Cmp.Lexicographic.{slice_cmp}
use Rattle.std.specs.Ordering.{nat_cmp}
use Rattle.boogie_types.specs.Resolved.{is_set}
use Rattle.boogie_types.specs.Ties.Numbers.{named_by, texts, number_of_name}
use Rattle.boogie_types.proofs.numbered.Numbered.new.Given as goal

abbrev pub invariant-loop-place : goal.invariant-loop-place
invariant-loop-place l = record {
  numbers : (q : List ℕ) → get_by (λ k. slice_cmp nat_cmp q k.now) l.places ≡ number_of_name (texts (named_by (take l.place l.name-items))) q;
  differ : is_set (named_by (take l.place l.name-items)) ≡ true;
}

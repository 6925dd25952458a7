use Rattle.std.proofs.Common.{◌≡◌, ℕ, [], ◌++◌, reverse, drop, nat_eq}
use Rattle.std.specs.List.{list_any}
use Rattle.std.specs.BTreeSet.{contains}
use Rattle.std.specs.Ordering.{nat_cmp}
use Rattle.boogie_types.specs.Sorted.{firsts}
use Rattle.boogie_types.proofs.modifies.firsts.Given as goal

-- what stands there, with the firsts of the rest behind it, are the firsts of all
abbrev pub invariant-loop-number : goal.invariant-loop-number
invariant-loop-number l = record {
  kept : l.firsts.items ++ firsts (reverse l.firsts.items) (drop l.number-index l.numbers) ≡ firsts [] l.numbers;
  seen : (k : ℕ) → contains nat_cmp l.seen k ≡ list_any (nat_eq k) (reverse l.firsts.items);
}

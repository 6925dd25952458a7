use Rattle.std.proofs.Common.{◌≡◌, ◌↔◌, ℕ, true, List, take, is_some}
use Rattle.std.specs.BTreeMap.{get_by}
use Rattle.std.specs.Cmp.Lexicographic.{slice_cmp}
use Rattle.std.specs.Ordering.{nat_cmp}
use Rattle.nwa_base.specs.Members.{Member}
use Rattle.letter_acts.specs.Invariant.{AreDistinct}
use Rattle.letter_acts.proofs.DistinctLemmas.{bytes_of}
use Rattle.letter_acts.proofs.checks.distinct.slices_differ.Given as goal

abbrev pub invariant-loop-slice : goal.invariant-loop-slice
invariant-loop-slice l = record {
  found : (q : List ℕ) → (is_some (get_by (λ k. slice_cmp nat_cmp q k.now) l.found) ≡ true) ↔ Member (bytes_of (take l.slice-index l.slices)) q;
  differ : AreDistinct (bytes_of (take l.slice-index l.slices));
}

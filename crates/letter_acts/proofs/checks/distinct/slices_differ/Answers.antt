use Rattle.std.proofs.Common.{List, ℕ, [], get_or, is_some, ap, sym, ◌∙◌}
use Rattle.std.specs.Borrow.{Bor}
use Rattle.std.specs.BTreeMap.{get_by}
use Rattle.std.specs.Cmp.Lexicographic.{slice_cmp}
use Rattle.std.specs.Ordering.{nat_cmp}
use Rattle.std.proofs.lemmas.Map.Text.{btree_map_updates_str}
use Rattle.letter_acts.proofs.LoopLemmas.{refuted}
use Rattle.letter_acts.proofs.DistinctLemmas.{slice_repeated, slices_differ_more, slice_found_more, slices_ended}
use Rattle.letter_acts.proofs.checks.distinct.slices_differ.Goals as goal

pub returns-then-is_some : goal.returns-then-is_some
returns-then-is_some c =
    let d : Bor (List ℕ) = record { ref_ptr = (0, 0); now = [] } in
    let old = c.in_ok-insert.ensures.old in
    slice_repeated c.args.slices.now c.loop-slice.slice-index d c.loop-slice-test.true
    ((c.loop-slice.invariant.found (get_or c.args.slices.now c.loop-slice.slice-index d).now).0 (sym (ap is_some old) ∙ sym c.is_some.ensures ∙ c.if-is_some.true))

pub loop-slice-preserved : goal.loop-slice-preserved
loop-slice-preserved c =
    let d : Bor (List ℕ) = record { ref_ptr = (0, 0); now = [] } in
    let i = c.loop-slice.slice-index in
    let x = (get_or c.args.slices.now i d).now in
    let old = c.in_ok-insert.ensures.old in
    record {
      found = slice_found_more c.args.slices.now i d c.loop-slice-test.true
          (λ (q : List ℕ). get_by (λ k. slice_cmp nat_cmp q k.now) c.loop-slice.found) (λ (q : List ℕ). get_by (λ k. slice_cmp nat_cmp q k.now) c.insert.new.self) _
          c.loop-slice.invariant.found (btree_map_updates_str x c.loop-slice.found c.insert.new.self _ c.in_ok-insert.ensures.updates);
      differ = slices_differ_more c.args.slices.now i d c.loop-slice-test.true c.loop-slice.invariant.differ
          (refuted _ _ (c.loop-slice.invariant.found x) (sym (ap is_some old) ∙ sym c.is_some.ensures ∙ c.if-is_some.false));
    }

pub returns : goal.returns
returns c = slices_ended c.args.slices.now c.loop-slice.slice-index c.loop-slice-test.false c.loop-slice.invariant.differ

use Rattle.std.proofs.Common.{List, ℕ, [], get_or, is_some, ap, sym, ◌∙◌}
use Rattle.std.specs.Borrow.{Bor}
use Rattle.std.specs.BTreeMap.{get_by}
use Rattle.std.specs.Cmp.Lexicographic.{slice_cmp}
use Rattle.std.specs.Ordering.{nat_cmp}
use Rattle.std.proofs.lemmas.Map.Text.{btree_map_updates_str}
use Rattle.typed_tree.proofs.TypingRules.NameLaws.{name_repeated, names_differ_more, found_more}
use Rattle.typed_tree.proofs.typing_rules.names.names_differ.Goals as goal

pub returns-then-is_some : goal.returns-then-is_some
returns-then-is_some c =
    let d : Bor (List ℕ) = record { ref_ptr = (0, 0); now = [] } in
    let old = c.in_ok-insert.ensures.old in
    sym (name_repeated c.args.names.now c.loop-name.name-index d c.loop-name-test.true
    (sym (c.loop-name.invariant.found (get_or c.args.names.now c.loop-name.name-index d).now) ∙ sym (ap is_some old) ∙ sym c.is_some.ensures ∙ c.if-is_some.true))

pub loop-name-preserved : goal.loop-name-preserved
loop-name-preserved c =
    let d : Bor (List ℕ) = record { ref_ptr = (0, 0); now = [] } in
    let i = c.loop-name.name-index in
    let x = (get_or c.args.names.now i d).now in
    let old = c.in_ok-insert.ensures.old in
    record {
      found = found_more c.args.names.now i d c.loop-name-test.true
          (λ (q : List ℕ). get_by (λ k. slice_cmp nat_cmp q k.now) c.loop-name.found) (λ (q : List ℕ). get_by (λ k. slice_cmp nat_cmp q k.now) c.insert.new.self) _
          c.loop-name.invariant.found (btree_map_updates_str x c.loop-name.found c.insert.new.self _ c.in_ok-insert.ensures.updates);
      differ = names_differ_more c.args.names.now i d c.loop-name-test.true c.loop-name.invariant.differ
          (sym (c.loop-name.invariant.found x) ∙ sym (ap is_some old) ∙ sym c.is_some.ensures ∙ c.if-is_some.false);
    }

use Rattle.std.proofs.Common.{◌≡◌, ℕ, true, List, take, is_some}
use Rattle.std.specs.BTreeMap.{get_by}
use Rattle.std.specs.Cmp.Lexicographic.{slice_cmp}
use Rattle.std.specs.List.{list_any}
use Rattle.std.specs.Ordering.{nat_cmp}
use Rattle.std.specs.Str.{bytes_eq}
use Rattle.typed_tree.specs.TypingRules.Rules.{all_differ}
use Rattle.typed_tree.specs.TypingRules.Ties.Texts.{texts}
use Rattle.typed_tree.proofs.typing_rules.names.names_differ.Given as goal

abbrev pub invariant-loop-name : goal.invariant-loop-name
invariant-loop-name l = record {
  found : (q : List ℕ) → is_some (get_by (λ k. slice_cmp nat_cmp q k.now) l.found) ≡ list_any (bytes_eq q) (texts (take l.name-index l.names));
  differ : all_differ bytes_eq (texts (take l.name-index l.names)) ≡ true;
}

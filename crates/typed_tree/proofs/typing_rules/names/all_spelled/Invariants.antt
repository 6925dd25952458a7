use Rattle.std.proofs.Common.{◌≡◌, drop}
use Rattle.std.specs.List.{list_all}
use Rattle.boogie_tree.specs.Names.{is_spelled}
use Rattle.typed_tree.specs.TypingRules.Ties.Texts.{texts}
use Rattle.typed_tree.proofs.typing_rules.names.all_spelled.Given as goal

abbrev pub invariant-loop-name : goal.invariant-loop-name
invariant-loop-name l = list_all is_spelled (texts (drop l.name-index l.names)) ≡ list_all is_spelled (texts l.names)

use Rattle.std.proofs.Common.{◌≡◌, drop}
use Rattle.typed_tree.specs.declared.fault.TypeFault.{TypeFault}
use Rattle.typed_tree.specs.TypedView as view
use Rattle.typed_tree.specs.TypingRules.Rules.{is_block}
use Rattle.typed_tree.specs.TypingRules.BrokenTyping.{IsBlockBroken}
use Rattle.typed_tree.specs.TypingRules.Ties.Judged.{context}
use Rattle.typed_tree.proofs.typing_rules.statements.+statements.Given as goal

abbrev pub invariant-each-loop-checked : goal.invariant-each-loop-checked
invariant-each-loop-checked l = record {
  same : l.frame ≡ l.fn.frame;
  kept : is_block (context l.fn.frame) (view.statements (drop l.checked-index l.listed)) ≡ is_block (context l.fn.frame) (view.statements l.listed);
  broken : (f : TypeFault) → IsBlockBroken (context l.fn.frame) (view.statements (drop l.checked-index l.listed)) f → IsBlockBroken (context l.fn.frame) (view.statements l.listed) f;
}

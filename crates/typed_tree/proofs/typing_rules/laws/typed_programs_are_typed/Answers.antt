use Rattle.typed_tree.proofs.TypingRules.GotoLaws.{gotos}
use Rattle.typed_tree.proofs.TypingRules.ValidLaws as valid
use Rattle.typed_tree.proofs.typing_rules.laws.typed_programs_are_typed.Goals as goal

pub returns : goal.returns
returns c = record {
  axioms = valid.axioms;
  specifications = valid.specifications;
  statements = valid.statements;
  scopes = valid.scopes;
  targets = valid.targets;
  calls = valid.calls;
  havocs = valid.havocs;
  locals = valid.locals;
  gotos = gotos;
  labels = valid.labels;
  entry = valid.entry;
  numbers = valid.numbers;
}

use Rattle.std.proofs.Common.{◌≡◌, not, drop, slice_get}
use Rattle.std.specs.List.{list_all}
use Rattle.typed_tree.specs.TypingRules.Rules.{meets}
use Rattle.typed_tree.proofs.typing_rules.shape.all_globals.Given as goal

abbrev pub invariant-loop-number : goal.invariant-loop-number
invariant-loop-number l =
    list_all (λ n. meets (λ v. not v.constant) (slice_get l.globals n)) (drop l.number-index l.numbers) ≡ list_all (λ n. meets (λ v. not v.constant) (slice_get l.globals n)) l.numbers

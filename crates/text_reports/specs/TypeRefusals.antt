-- The lines of programs that break a typing rule.
use Rattle.std.specs.Prelude.{ℕ, List, [], ◌++◌, codes}
use Rattle.boogie_tree.specs.declared.span.Span.{Span}
use Rattle.boogie_tree.specs.Places.{beginning}
use Rattle.typed_tree.specs.declared.fault.TypeFault.{TypeFault}
use Rattle.typed_tree.specs.declared.fault.TypeFault.TheVariants.{Unknown, Twice, Mismatch, NotAssignable, NotModified, NoEntry, ZeroDivisor, NonLinear, BadGoto, TooBig, Memory}
use Rattle.text_reports.specs.Refusals.{place_text}

-- `refused`, the rule and the place
abbrev pub rule_line : List ℕ → Span → List ℕ
rule_line rule at = codes "refused " ++ rule ++ place_text at.line at.col

-- the line of a program with this fault; want of memory is no fault of the program
abbrev pub type_refusal : TypeFault → List ℕ
type_refusal (Unknown at) = rule_line (codes "Unknown") at
type_refusal (Twice at) = rule_line (codes "Twice") at
type_refusal (Mismatch at) = rule_line (codes "Mismatch") at
type_refusal (NotAssignable at) = rule_line (codes "NotAssignable") at
type_refusal (NotModified at) = rule_line (codes "NotModified") at
type_refusal NoEntry = rule_line (codes "NoEntry") beginning
type_refusal (ZeroDivisor at) = rule_line (codes "ZeroDivisor") at
type_refusal (NonLinear at) = rule_line (codes "NonLinear") at
type_refusal (BadGoto at) = rule_line (codes "BadGoto") at
type_refusal (TooBig at) = rule_line (codes "TooBig") at
type_refusal Memory = []

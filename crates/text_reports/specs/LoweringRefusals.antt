-- The lines of programs that cannot be lowered.
use Rattle.std.specs.Prelude.{ℕ, List, codes}
use Rattle.lowered_graph.specs.Items.{ItemFault, TooWide, TooBig}
use Rattle.text_reports.specs.TypeRefusals.{rule_line}

abbrev pub lowering_refusal : ItemFault → List ℕ
lowering_refusal (TooWide at) = rule_line (codes "TooWide") at
lowering_refusal (TooBig at) = rule_line (codes "TooBig") at

use Rattle.lowered_graph.proofs.LoweredImports.ImportLaws as laws
use Rattle.lowered_graph.proofs.lowered_imports.laws.imports_in_machines.Goals as goal

pub returns-clause-go : goal.returns-clause-go
returns-clause-go a t c d valid g i = laws.imports_go t c d valid g i

pub returns-clause-back : goal.returns-clause-back
returns-clause-back a t c f args y valid g k s = laws.imports_back t c f args y valid g k s

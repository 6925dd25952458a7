use Rattle.lowered_graph.proofs.LoweredImports.PointLaws.{knows_points, imports_known}
use Rattle.lowered_graph.proofs.lowered_imports.laws.points_of_typed_programs.Goals as goal

pub returns-clause-known : goal.returns-clause-known
returns-clause-known a t valid = knows_points t valid

pub returns-clause-imports : goal.returns-clause-imports
returns-clause-imports a t n p valid k at_call = imports_known t valid n p k at_call

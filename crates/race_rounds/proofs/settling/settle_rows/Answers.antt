use Rattle.std.proofs.Common.{List, Option, sym, subst}
use Rattle.std.specs.Prelude.{Ok, IfSome}
use Rattle.std.specs.List.{AllByRecursion}
use Rattle.lin_rows.specs.Rows.{LinearRow, Holds}
use Rattle.lin_rows.specs.Points.{point_of}
use Rattle.typed_tree.specs.TypingRules.TypedParts.{typed_program}
use Rattle.int_decide.specs.declared.types.Answer.{Answer}
use Rattle.path_decide.specs.Decided.{IsAnswer}
use Rattle.race_core.specs.declared.ends.End.{End}
use Rattle.race_rounds.specs.Ends.{SaysOfWord}
use Rattle.race_rounds.proofs.settling.settle_rows.Goals as goal

pub returns-in-Ok-Refuted : goal.returns-in-Ok-Refuted
returns-in-Ok-Refuted g c = c.refuted.ensures (typed_program c.args.program.now) c.requires.lowered

pub failing-requires-clause-feasible : goal.failing-requires-clause-feasible
failing-requires-clause-feasible g c =
    let f = subst (λ (a : Answer). IsAnswer c.args.icfg.now c.args.limits.depth c.args.path.now.word (Ok a)) c.in-Ok-Whole.field-0-is (c.in-Ok-Whole.ensures c.args.icfg.now c.requires.path) in
    c.requires.exact (point_of c.in-Ok-Whole.point.items) (subst (λ (rows : List LinearRow). AllByRecursion (Holds (point_of c.in-Ok-Whole.point.items)) rows) (sym c.requires.path.rows) f.meets)

pub returns-in-Some : goal.returns-in-Some
returns-in-Some g c =
    subst (λ (o : Option End). IfSome o (SaysOfWord (typed_program c.args.program.now) c.args.limits c.args.round.version c.args.word)) c.in-Some.is
    (c.in_ok-end.ensures c.args.round.version)

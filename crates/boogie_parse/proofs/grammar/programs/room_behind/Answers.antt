use Rattle.std.proofs.Common.{◌∙◌}
use Rattle.boogie_parse.proofs.Reading.ProgramCounts.{room_more}
use Rattle.boogie_parse.proofs.grammar.programs.room_behind.Goals as goal

pub loop-declaration-preserved : goal.loop-declaration-preserved
loop-declaration-preserved c =
    c.saturating_sub-room.ensures ∙ room_more c.args.declarations.now c.loop-declaration.declaration-index c.args.most c.loop-declaration.room c.procedures.result c.declaration-item.result c.loop-declaration-test.true c.declaration-item.is c.loop-declaration.invariant c.procedures.ensures

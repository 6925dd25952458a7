use Rattle.std.proofs.Common.{arith}
use Rattle.std.proofs.lemmas.Grind.{common_steps}
use Rattle.outer_io.proofs.NamedTexts.{text_named-Some, text_named-None}
use Rattle.outer_io.proofs.memory.mem_shelf.MemShelfShelf.begin.Goals as goal

pub returns-in-Some-clause-fails : goal.returns-in-Some-clause-fails
returns-in-Some-clause-fails c =
    grind (arith, common_steps, text_named-Some c.args.name.now c.deref.result.now c.in-Some.text c.in-Some.ensures)

pub returns-in-Some-clause-begun : goal.returns-in-Some-clause-begun
returns-in-Some-clause-begun c =
    grind (arith, common_steps, text_named-Some c.args.name.now c.deref.result.now c.in-Some.text c.in-Some.ensures)

pub returns-in-None-clause-fails : goal.returns-in-None-clause-fails
returns-in-None-clause-fails c =
    grind (arith, common_steps, text_named-None c.args.name.now c.deref.result.now c.in-None.ensures)

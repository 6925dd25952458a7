use Rattle.std.proofs.Common.{arith}
use Rattle.std.proofs.lemmas.Grind.{common_steps}
use Rattle.outer_io.proofs.NamedTexts.{length-text_at}
use Rattle.outer_io.proofs.memory.mem_shelf.MemShelf.advance.Goals as goal

pub overflow_add-place : goal.overflow_add-place
overflow_add-place c =
    grind (arith, common_steps, length-text_at c.self.inside.texts.items c.in-Some.place.text)

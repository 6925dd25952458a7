use Rattle.boogie_parse.specs.declared.fault.Which.{Which}
use Rattle.boogie_parse.specs.Ties.ProgramGrowth.{IsSameRoom}
use Rattle.boogie_parse.specs.Reading.ListReading.{expression_at}
use Rattle.boogie_parse.specs.Reading.ExpressionReading.{expression}
use Rattle.boogie_parse.proofs.Rules.ProgramRoom.{program_keeps, expression_keeps}
use Rattle.boogie_parse.proofs.grammar.laws.programs_grow.Goals as goal

pub returns : goal.returns
returns c end d p q b k v w n m ts deep le blocks many most =
    let IsSame : Which → Type 0 = IsSameRoom d p q b k v w n m in
    program_keeps IsSame (expression_at end) (λ a us. expression end a d us) end (λ i j us more. expression_keeps IsSame end d i j us deep (λ s. s.0) more)
    p q (record { le = le; equal = λ s. s.1 }) b k (record { le = blocks; equal = λ s. s.2 }) v w (record { le = many; equal = λ s. s }) n m ts (record { le = most; equal = λ s. s })

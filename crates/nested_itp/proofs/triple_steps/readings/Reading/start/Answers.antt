use Rattle.std.proofs.Common.{refl}
use Rattle.nested_itp.proofs.TripleSteps.ReadingLaws.{starts}
use Rattle.nested_itp.proofs.triple_steps.readings.Reading.start.Goals as goal

pub returns : goal.returns
returns c = λ g w e. starts g w _ c.args.frame.now e refl c.bounds_in.ensures refl c.new.ensures.items

use Rattle.std.proofs.Common.{List, drop}
use Rattle.farkas_check.specs.Trees.{Tree}
use Rattle.nwa_base.specs.declared.letters.Letter.{Letter}
use Rattle.letter_acts.specs.Invariant.{Graph}
use Rattle.nested_itp.specs.NestedRefutations.Refutations.{View}
use Rattle.nested_itp.specs.TripleWalks.Goals.{plain_goal}
use Rattle.nested_itp.specs.TripleWalks.Ties.Walking.{IsLed, Known}
use Rattle.nested_itp.specs.TripleWalks.Putting.{root_spot}
use Rattle.nested_itp.proofs.TripleWalks.PuttingLaws.{IsPutSoFar}
use Rattle.nested_itp.proofs.triple_walks.putting.put_for.Given as goal

abbrev pub invariant-loop-i : goal.invariant-loop-i
invariant-loop-i l = (g : Graph) (w : List Letter) (t : Tree) (v : View) → IsLed v l.guide → Known v l.guide (root_spot g w t) → IsPutSoFar g w t v l.sections (drop l.i l.sections) (plain_goal l.goal)

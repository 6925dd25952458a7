use Rattle.std.proofs.Common.{List, subst, IsTrue, ◌↔◌}
use Rattle.farkas_check.specs.Nodes.{PlainNode}
use Rattle.letter_acts.specs.Invariant.{alphabet_of}
use Rattle.hoare_check.specs.Decided.{AreCutsWithin}
use Rattle.triple_rows.specs.Cuts.{columns_of}
use Rattle.hoare_check.proofs.cuts.are_cuts_within.Goals as goal

pub returns : goal.returns
returns c = subst (λ (ns : List PlainNode). IsTrue c.cuts_within.result ↔ AreCutsWithin (alphabet_of c.args.icfg.now) c.args.triple.now ns) c.nodes.ensures.value
    (c.cuts_within.ensures (columns_of (alphabet_of c.args.icfg.now) c.args.triple.now) c.columns_of.ensures)

use Rattle.std.proofs.Common.{◌≡◌, take, []}
use Rattle.std.specs.Prelude.{map}
use Rattle.proof_build.specs.Numbering.{AreListed, AreAllNumbered}
use Rattle.proof_build.proofs.listing.listed_preds.Given as goal

abbrev pub invariant-loop-automaton : goal.invariant-loop-automaton
invariant-loop-automaton l = record {
  listed : AreListed l.icfg l.preds;
  numbered : AreAllNumbered l.icfg l.preds (map (λ c. c.now) (take l.automaton-index l.automata));
  none : l.automata ≡ [] → l.preds ≡ [];
}

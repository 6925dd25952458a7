use Rattle.std.proofs.Common.{◌∙◌, sym, ap}
use Rattle.std.proofs.lemmas.Bool.{false≢true}
use Rattle.nwa_base.specs.Automata.{Automaton}
use Rattle.nwa_base.specs.Edges.{backs_between}
use Rattle.proof_names.specs.Outlines.{node}
use Rattle.proof_check.proofs.CoverLaws.{backs_tested}
use Rattle.proof_check.proofs.covering.has_backs_from.Goals as goal

pub returns-else-has : goal.returns-else-has
returns-else-has c =
    backs_tested c.args.icfg.now c.args.plan.now c.args.exit c.args.place c.args.before c.args.call (node c.node.result.now) c.backs_between.result.now c.has_backs_along.result
    c.node.ensures (λ p. false≢true (sym c.if-has.false ∙ c.has.ensures.1 p))
    (c.backs_between.ensures ∙ ap (λ (m : Automaton). backs_between c.args.place c.node.result.now.place m.backs) c.nwa.ensures.value) c.has_backs_along.ensures

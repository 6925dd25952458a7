use Rattle.nwa_base.specs.declared.letters.Kind.TheVariants.{Inside}
use Rattle.proof_build.specs.Unwindings.{back_of}
use Rattle.proof_build.proofs.ListLaws.{mapped_behind}
use Rattle.std.proofs.Common.{◌∙◌, List, ◌++◌, sym, ap}
use Rattle.std.specs.Prelude.{map}
use Rattle.std.proofs.lemmas.List.{append-nil, take_all}
use Rattle.proof_build.proofs.spots.add_backs.Goals as goal

pub loop-edge-preserved : goal.loop-edge-preserved
loop-edge-preserved c =
    mapped_behind back_of c.args.edges.now c.loop-edge.edge-index (0, 0, record { id = 0; kind = Inside; call = 0 }, 0) c.args.steps.now.items c.loop-edge.steps.items
    c.push.new.self.items c.loop-edge-test.true c.loop-edge.invariant c.in_ok-push.ensures.items

pub loop-edge-init : goal.loop-edge-init
loop-edge-init c = sym (append-nil c.args.steps.now.items)

pub returns : goal.returns
returns c = c.loop-edge.invariant ∙ ap (λ (l : List _). c.args.steps.now.items ++ map back_of l) (take_all c.loop-edge.edge-index c.args.edges.now c.loop-edge-test.false)

use Rattle.nwa_base.specs.declared.letters.Kind.TheVariants.{Inside}
use Rattle.proof_build.specs.Numbering.{number_at}
use Rattle.proof_build.specs.Ties.Unions.{numbered}
use Rattle.proof_build.proofs.EdgeLaws.{call_added, call_passed}
use Rattle.std.proofs.Common.{◌∙◌, ◌++◌, sym}
use Rattle.std.specs.List.{filter_map}
use Rattle.std.proofs.lemmas.List.{append-nil, take_all}
use Rattle.proof_build.proofs.unions.add_calls.Goals as goal
use Rattle.proof_build.proofs.unions.add_calls.Goals.{in-Some+in_ok-added, in_default}

pub loop-edge-preserved : goal.loop-edge-preserved
loop-edge-preserved c = elim c.match-by_number.branch [
  | in-Some+in_ok-added w ↦ call_added (numbered (number_at c.args.numbers.now)) c.args.union.now c.loop-edge.union w.add_call.new.self c.match-by_number.union
      c.args.edges.now c.loop-edge.edge-index (0, record { id = 0; kind = Inside; call = 0 }, 0) (w.in-Some.from, w.in-Some.letter, w.in-Some.to) c.by_number.result w.add_call.result
      c.loop-edge.invariant c.loop-edge-test.true c.by_number.ensures w.in-Some.is w.in_ok-added.ensures w.add_call.ensures.ok w.union-is
  | in_default w ↦ call_passed (numbered (number_at c.args.numbers.now)) c.args.union.now c.loop-edge.union c.match-by_number.union c.args.edges.now c.loop-edge.edge-index (0, record { id = 0; kind = Inside; call = 0 }, 0)
      c.by_number.result c.loop-edge.invariant c.loop-edge-test.true c.by_number.ensures w.in_default.is w.union-is
]

pub loop-edge-init : goal.loop-edge-init
loop-edge-init c = sym (λ j. record c.args.union.now { calls = append-nil c.args.union.now.calls j })

pub returns : goal.returns
returns c =
    c.loop-edge.invariant ∙
    (λ j. record c.args.union.now { calls = c.args.union.now.calls ++ filter_map (numbered (number_at c.args.numbers.now)) (take_all c.loop-edge.edge-index c.args.edges.now c.loop-edge-test.false j) })

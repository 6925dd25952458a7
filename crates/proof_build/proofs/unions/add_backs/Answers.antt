use Rattle.nwa_base.specs.declared.letters.Kind.TheVariants.{Inside}
use Rattle.proof_build.specs.Numbering.{number_at}
use Rattle.proof_build.specs.Ties.Unions.{numbered_back}
use Rattle.proof_build.proofs.EdgeLaws.{back_added, back_passed}
use Rattle.std.proofs.Common.{◌∙◌, ◌++◌, sym}
use Rattle.std.specs.List.{filter_map}
use Rattle.std.proofs.lemmas.List.{append-nil, take_all}
use Rattle.proof_build.proofs.unions.add_backs.Goals as goal
use Rattle.proof_build.proofs.unions.add_backs.Goals.{in-Some+in_ok-added, in_default}

pub loop-edge-preserved : goal.loop-edge-preserved
loop-edge-preserved c = elim c.match-back_by_number.branch [
  | in-Some+in_ok-added w ↦ back_added (numbered_back (number_at c.args.numbers.now)) c.args.union.now c.loop-edge.union w.add_back.new.self c.match-back_by_number.union
      c.args.edges.now c.loop-edge.edge-index (0, 0, record { id = 0; kind = Inside; call = 0 }, 0) (w.in-Some.exit, w.in-Some.before, w.in-Some.letter, w.in-Some.to) c.back_by_number.result w.add_back.result
      c.loop-edge.invariant c.loop-edge-test.true c.back_by_number.ensures w.in-Some.is w.in_ok-added.ensures w.add_back.ensures.ok w.union-is
  | in_default w ↦ back_passed (numbered_back (number_at c.args.numbers.now)) c.args.union.now c.loop-edge.union c.match-back_by_number.union c.args.edges.now c.loop-edge.edge-index (0, 0, record { id = 0; kind = Inside; call = 0 }, 0)
      c.back_by_number.result c.loop-edge.invariant c.loop-edge-test.true c.back_by_number.ensures w.in_default.is w.union-is
]

pub loop-edge-init : goal.loop-edge-init
loop-edge-init c = sym (λ j. record c.args.union.now { backs = append-nil c.args.union.now.backs j })

pub returns : goal.returns
returns c =
    c.loop-edge.invariant ∙
    (λ j. record c.args.union.now { backs = c.args.union.now.backs ++ filter_map (numbered_back (number_at c.args.numbers.now)) (take_all c.loop-edge.edge-index c.args.edges.now c.loop-edge-test.false j) })

use Rattle.std.proofs.Common.{◌≡◌, ◌++◌}
use Rattle.nwa_reduce.specs.Ties.Naming.{named}
use Rattle.nwa_reduce.specs.Images.{IsNamedEdge}
use Rattle.nwa_reduce.proofs.MadeLemmas.{on_ok, collected_from}
use Rattle.nwa_base.specs.declared.letters.Kind.TheVariants.{Call}
use Rattle.nwa_reduce.proofs.BoundLemmas.{edges_fit}
use Rattle.nwa_reduce.proofs.imaging.name_calls.Goals as goal

pub returns : goal.returns
returns c =
    on_ok c.add_calls.result
    (λ (e : c.add_calls.new.image ≡ record c.args.image.now { calls = c.args.image.now.calls ++ c.as_slice.result.now }). (
      c.as_slice.result.now,
      e,
      collected_from (IsNamedEdge (named c.args.names.now.of.items)) _ _ _ _ c.calls.ensures c.as_slice.ensures.keys c.in_ok-edges.ensures,
    )) c.add_calls.ensures

pub add_calls-requires : goal.add_calls-requires
add_calls-requires c =
    edges_fit (named c.args.names.now.of.items) Call c.args.nwa.now.states c.args.image.now.states _ _ _ _ c.requires.within c.requires.automaton.calls c.calls.ensures
    c.as_slice.ensures.keys c.in_ok-edges.ensures

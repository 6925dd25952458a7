use Rattle.std.proofs.Common.{◌≡◌, ◌++◌}
use Rattle.nwa_reduce.specs.Ties.Naming.{named}
use Rattle.nwa_reduce.specs.Images.{IsNamedEdge}
use Rattle.nwa_reduce.proofs.MadeLemmas.{on_ok, collected_from}
use Rattle.nwa_base.specs.declared.letters.Kind.TheVariants.{Inside}
use Rattle.nwa_reduce.proofs.BoundLemmas.{edges_fit}
use Rattle.nwa_reduce.proofs.imaging.name_insides.Goals as goal

pub returns : goal.returns
returns c =
    on_ok c.add_insides.result
    (λ (e : c.add_insides.new.image ≡ record c.args.image.now { insides = c.args.image.now.insides ++ c.as_slice.result.now }). (
      c.as_slice.result.now,
      e,
      collected_from (IsNamedEdge (named c.args.names.now.of.items)) _ _ _ _ c.insides.ensures c.as_slice.ensures.keys c.in_ok-edges.ensures,
    )) c.add_insides.ensures

pub add_insides-requires : goal.add_insides-requires
add_insides-requires c =
    edges_fit (named c.args.names.now.of.items) Inside c.args.nwa.now.states c.args.image.now.states _ _ _ _ c.requires.within c.requires.automaton.insides c.insides.ensures
    c.as_slice.ensures.keys c.in_ok-edges.ensures

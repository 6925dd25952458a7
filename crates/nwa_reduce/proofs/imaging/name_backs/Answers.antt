use Rattle.std.proofs.Common.{◌≡◌, ◌++◌}
use Rattle.nwa_reduce.specs.Ties.Naming.{named}
use Rattle.nwa_reduce.specs.Images.{IsNamedBack}
use Rattle.nwa_reduce.proofs.MadeLemmas.{on_ok, collected_from}
use Rattle.nwa_reduce.proofs.BoundLemmas.{backs_fit}
use Rattle.nwa_reduce.proofs.imaging.name_backs.Goals as goal

pub returns : goal.returns
returns c =
    on_ok c.add_backs.result
    (λ (e : c.add_backs.new.image ≡ record c.args.image.now { backs = c.args.image.now.backs ++ c.as_slice.result.now }). (
      c.as_slice.result.now,
      e,
      collected_from (IsNamedBack (named c.args.names.now.of.items)) _ _ _ _ c.backs.ensures c.as_slice.ensures.keys c.in_ok-edges.ensures,
    )) c.add_backs.ensures

pub add_backs-requires : goal.add_backs-requires
add_backs-requires c =
    backs_fit (named c.args.names.now.of.items) c.args.nwa.now.states c.args.image.now.states _ _ _ _ c.requires.within c.requires.automaton.backs c.backs.ensures
    c.as_slice.ensures.keys c.in_ok-edges.ensures

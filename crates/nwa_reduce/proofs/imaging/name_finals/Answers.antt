use Rattle.std.proofs.Common.{◌≡◌, ◌++◌, ℕ, Some}
use Rattle.nwa_reduce.specs.Ties.Naming.{named}
use Rattle.nwa_reduce.proofs.MadeLemmas.{on_ok, collected_from}
use Rattle.nwa_reduce.proofs.BoundLemmas.{states_fit}
use Rattle.nwa_reduce.proofs.imaging.name_finals.Goals as goal

pub returns : goal.returns
returns c =
    on_ok c.add_finals.result
    (λ (e : c.add_finals.new.image ≡ record c.args.image.now { finals = c.args.image.now.finals ++ c.as_slice.result.now }). (
      c.as_slice.result.now,
      e,
      collected_from (λ (q y : ℕ). named c.args.names.now.of.items q ≡ Some y) _ _ _ _ c.finals.ensures c.as_slice.ensures.keys c.in_ok-states.ensures,
    )) c.add_finals.ensures

pub add_finals-requires : goal.add_finals-requires
add_finals-requires c =
    states_fit (named c.args.names.now.of.items) c.args.image.now.states _ _ _ c.requires c.as_slice.ensures.keys c.in_ok-states.ensures

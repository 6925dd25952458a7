use Rattle.std.proofs.Common.{List, ℕ, subst}
use Rattle.nwa_reduce.specs.Ties.Naming.{IsOrder}
use Rattle.nwa_reduce.proofs.MadeLemmas.{if_ok_so}
use Rattle.nwa_reduce.proofs.trimming.useful_states.Goals as goal

pub returns : goal.returns
returns c =
    if_ok_so c.ordered.result c.ordered.ensures (λ kept h. (
      c.in_ok-reached.reached,
      c.in_ok-ending.ending,
      c.in_ok-reached.ensures,
      c.in_ok-ending.ensures,
      subst (λ (l : List ℕ). IsOrder c.args.nwa.now.start c.in_ok-reached.reached l kept) c.as_slice.ensures h,
    ))

use Rattle.std.proofs.Common.{sym, subst, IsTrue, ◌↔◌}
use Rattle.farkas_check.specs.declared.refutations.Node.{Node}
use Rattle.farkas_check.specs.Nodes.{plain}
use Rattle.triple_rows.specs.Cuts.{IsCutWithin}
use Rattle.hoare_check.proofs.cuts.is_cut_within.Goals as goal

pub returns-in-Cut : goal.returns-in-Cut
returns-in-Cut c = λ n k. subst (λ (x : Node). IsTrue c.is_below.result ↔ IsCutWithin n (plain x)) (sym c.in-Cut.is) (c.is_below.ensures n k)

use Rattle.std.proofs.Common.{inr}
use Rattle.typed_tree.specs.BrokenRules.{big_literal}
use Rattle.typed_tree.proofs.Divisors.{least_is_big}
use Rattle.typed_tree.proofs.typing.literal.Goals as goal

pub returns-then-n-eq170141183460469231731687303715884105728 :
    goal.returns-then-n-eq170141183460469231731687303715884105728
returns-then-n-eq170141183460469231731687303715884105728 c =
    inr (big_literal c.args.old c.args.at c.args.n.now (least_is_big c.args.n.now c.if-n-eq170141183460469231731687303715884105728.true))

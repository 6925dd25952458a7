use Rattle.std.proofs.Common.{rules}
use Rattle.typed_tree.specs.Ties.FormView.{form_of}
use Rattle.typed_tree.proofs.Scaled.{opposite_is_small}
use Rattle.typed_tree.proofs.operations.minus.Goals as goal

pub returns-in_err-opposite-clause-too_big : goal.returns-in_err-opposite-clause-too_big
returns-in_err-opposite-clause-too_big c e =
    opposite_is_small (form_of c.args.b.now) c.args.b.now.terms_fit c.args.b.now.quotients_fit c.args.b.now.constant_fits (c.in_err-opposite.ensures.too_big (search rules))

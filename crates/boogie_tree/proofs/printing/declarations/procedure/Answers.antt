use Rattle.std.proofs.Common.{◌≡◌, ◌++◌, map}
use Rattle.boogie_tree.specs.View as view
use Rattle.boogie_tree.specs.Printing.{head_text, specifications_text, body_text}
use Rattle.boogie_tree.proofs.Loops.{three_appended}
use Rattle.boogie_tree.proofs.printing.declarations.procedure.Goals as goal

pub returns : goal.returns
returns c =
    let specs : c.specifications.new.out.items ≡ c.head.new.out.items ++ specifications_text (map view.specification c.args.declared.now.specs.items) =
    rw (← c.deref.ensures.value) c.in_ok-specifications.ensures in
    three_appended _ _ _ _ _ (head_text c.args.word.now (view.procedure c.args.declared.now)) (specifications_text (map view.specification c.args.declared.now.specs.items)) (body_text (view.body_of c.args.declared.now.body)) c.in_ok-head.ensures specs c.body.ensures

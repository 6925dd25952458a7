use Rattle.std.proofs.Common.{◌∙◌, sym}
use Rattle.nwa_reduce.specs.Ties.Naming.{named}
use Rattle.nwa_reduce.proofs.CopyLemmas.{join_copy, no_exit, no_before}
use Rattle.nwa_reduce.proofs.folding.join_is_copy.Goals as goal

pub returns : goal.returns
returns c = λ yes.
    join_copy c.args.nwa.now c.args.image.now (named c.args.names.now.of.items) c.args.before c.args.exit c.in-Some.name c.in-Some-name.outer _
    (sym c.name.ensures ∙ c.in-Some.is) (sym c.name-2.ensures ∙ c.in-Some-name.is) c.backs_between.ensures (c.has_backs.ensures yes)

pub returns-in_default : goal.returns-in_default
returns-in_default c = λ yes.
    no_exit c.args.nwa.now c.args.image.now (named c.args.names.now.of.items) c.args.before c.args.exit (sym c.name.ensures ∙ c.in_default.is)

pub returns-in_default-name : goal.returns-in_default-name
returns-in_default-name c = λ yes.
    no_before c.args.nwa.now c.args.image.now (named c.args.names.now.of.items) c.args.before c.args.exit (sym c.name-2.ensures ∙ c.in_default-name.is)

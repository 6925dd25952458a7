use Rattle.std.proofs.Common.{◌∙◌, sym, refl}
use Rattle.nwa_reduce.specs.Ties.Naming.{named}
use Rattle.nwa_reduce.proofs.CopyLemmas.{state_copy}
use Rattle.nwa_reduce.proofs.folding.state_is_copy.Goals as goal

pub returns : goal.returns
returns c = λ yes.
    state_copy c.args.nwa.now c.args.image.now (named c.args.names.now.of.items) c.args.state c.in-Some.name _ _ (sym c.name.ensures ∙ c.in-Some.is)
    c.insides_leaving.ensures c.calls_leaving.ensures
    (λ f. c.is_final-2.ensures.0 (c.if-not-goes_with.ensures refl (c.is_final.ensures.1 f)))
    (λ r. c.returns-2.ensures.0 (c.if-not-goes_with-2.ensures refl (c.returns.ensures.1 r)))
    (c.if-not-has_insides.ensures refl) (c.has_calls.ensures yes)

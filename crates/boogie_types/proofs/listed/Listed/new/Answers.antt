use Rattle.std.proofs.Common.{◌∙◌, ap, map}
use Rattle.boogie_types.specs.Ties.Referred.{procedures_by}
use Rattle.boogie_types.proofs.ListedLaws.{texts_are}
use Rattle.boogie_types.proofs.listed.Listed.new.Goals as goal

pub invariant_of-result : goal.invariant_of-result
invariant_of-result c =
    record { numbers_are = c.in_ok-numbers.ensures.ok ∙ texts_are _ (procedures_by c.args.procs.items) (c.in_ok-names.ensures ∙ ap (λ ps. map (λ p. p.name) (procedures_by ps)) c.deref.ensures.value) }

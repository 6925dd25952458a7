use Rattle.std.proofs.Common.{◌∙◌, ap, sym, Option, Bor}
use Rattle.std.specs.Option.{option_map}
use Rattle.boogie_tree.specs.declared.tree.Proc.{Proc}
use Rattle.boogie_tree.specs.View as view
use Rattle.boogie_types.specs.Ties.DeclarationFaults.{no_procedure, other_body, other_variables}
use Rattle.boogie_types.specs.Ties.Referred.{procedures_by}
use Rattle.boogie_types.specs.Sorted.{first_named}
use Rattle.boogie_types.proofs.ImplementationLaws.{body_is_there}
use Rattle.boogie_types.proofs.implementations.check.Goals as goal

pub returns-in_default-clause-fault : goal.returns-in_default-clause-fault
returns-in_default-clause-fault c =
    let ps = procedures_by c.args.procs.now.procs.items in
    no_procedure (ap (λ t. first_named t ps) (sym c.bytes.ensures) ∙ sym c.first_named.ensures ∙ ap (λ (o : Option (Bor Proc)). option_map (λ (p : Bor Proc). view.procedure p.now) o) c.in_default.is)

pub returns-then-is_some-clause-fault : goal.returns-then-is_some-clause-fault
returns-then-is_some-clause-fault c =
    let ps = procedures_by c.args.procs.now.procs.items in
    let e = ap (λ t. first_named t ps) (sym c.bytes.ensures) ∙ sym c.first_named.ensures ∙ ap (λ (o : Option (Bor Proc)). option_map (λ (p : Bor Proc). view.procedure p.now) o) c.in-Some.is in
    other_body _ e (body_is_there c.in-Some.procedure.now.body (sym c.is_some.ensures ∙ c.if-is_some.true))

pub returns-else-repeats-clause-fault : goal.returns-else-repeats-clause-fault
returns-else-repeats-clause-fault c =
    let ps = procedures_by c.args.procs.now.procs.items in
    let e = ap (λ t. first_named t ps) (sym c.bytes.ensures) ∙ sym c.first_named.ensures ∙ ap (λ (o : Option (Bor Proc)). option_map (λ (p : Bor Proc). view.procedure p.now) o) c.in-Some.is in
    other_variables _ e (sym c.repeats.ensures ∙ c.if-repeats.false)

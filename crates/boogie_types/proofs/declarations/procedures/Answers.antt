use Rattle.std.proofs.Common.{subst, map, List}
use Rattle.std.proofs.lemmas.Result.{IfErr-weaker}
use Rattle.boogie_tree.specs.View as view
use Rattle.boogie_tree.specs.Tree.{Procedure}
use Rattle.boogie_types.specs.BrokenNames.{second_procedure}
use Rattle.boogie_types.specs.Ties.Numbers.{IsTwiceFault}
use Rattle.boogie_types.specs.Sorted.{procedures_of}
use Rattle.boogie_types.proofs.Refusals.{twice_refused}
use Rattle.boogie_types.proofs.declarations.procedures.Goals as goal

pub returns-clause-fault : goal.returns-clause-fault
returns-clause-fault c =
    let ds = map view.declaration c.args.decls.now in
    IfErr-weaker c.new.result _ _
    (λ f h. twice_refused ds (map (λ p. p.name) (procedures_of ds)) second_procedure f (subst (λ (ps : List Procedure). IsTwiceFault (map (λ p. p.name) ps) f) c.in_ok-procs.ensures h))
    c.new.ensures.fault

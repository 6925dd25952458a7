use Rattle.std.proofs.Common.{◌∙◌, ltb, sym, arith, rules, to_z-of_z, FitsSigned}
use Rattle.std.specs.Int.{w128}
use Rattle.std.proofs.lemmas.Bool.{ltb-true, ltb-false}
use Rattle.std.proofs.lemmas.List.Sorted.{IsPartitionPoint-from_clause, IsPartitionedBy-ltb}
use Rattle.nested_itp.proofs.TripleWalks.LeafLaws.{ascends_by, pointed}
use Rattle.nested_itp.proofs.triple_walks.leaves.number_at.Goals as goal

pub returns-clause-value : goal.returns-clause-value
returns-clause-value c =
    let a = c.requires in
    let parted = IsPartitionedBy-ltb (λ t. t.0) c.args.pairs.now c.args.key (ascends_by 0 c.args.pairs.now a) in
    let point = IsPartitionPoint-from_clause (λ t. ltb t.0 c.args.key) _ _ c.partition_point-place.ensures.partitioned parted (λ a r q k. search rules) in
    let f : FitsSigned w128 c.number_in.result = search rules in
    simp to_z-of_z
    (c.number_in.ensures.value ∙ sym
    (pointed 0 c.args.pairs.now c.args.key c.partition_point-place.result a (λ k d l m. ltb-true _ _ (point.0 k d (omega arith) l)) (λ k d l m. ltb-false _ _ (point.1 k d l m))))

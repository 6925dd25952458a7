use Rattle.std.proofs.Common.{◌≡◌, map, drop}
use Rattle.std.specs.List.{list_all}
use Rattle.boogie_tree.specs.View as view
use Rattle.typed_tree.specs.TypedView as typed
use Rattle.boogie_types.specs.Naming.{each}
use Rattle.boogie_types.specs.Ties.Making.{made}
use Rattle.boogie_types.specs.Ties.Referred.{procedures_by}
use Rattle.boogie_types.specs.Resolved.{has_sets, named_procedure}
use Rattle.boogie_types.specs.Sorted.{body_of}
use Rattle.boogie_types.proofs.declarations.procedures_named.Given as goal

abbrev pub invariant-loop-listed : goal.invariant-loop-listed
invariant-loop-listed l = record {
  made : made (map typed.procedure l.made.items) (each (named_procedure (map view.declaration l.declared.decls.now)) (procedures_by (drop l.listed-index l.procs))) ≡ each (named_procedure (map view.declaration l.declared.decls.now)) (procedures_by l.procs);
  sets : list_all (λ p. has_sets p (body_of (map view.declaration l.declared.decls.now) p)) (procedures_by (drop l.listed-index l.procs)) ≡ list_all (λ p. has_sets p (body_of (map view.declaration l.declared.decls.now) p)) (procedures_by l.procs);
}

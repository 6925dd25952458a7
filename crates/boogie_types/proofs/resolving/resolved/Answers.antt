use Rattle.std.proofs.Common.{◌≡◌, ◌∙◌, sym, ap, subst, map, List, Some, true}
use Rattle.std.specs.List.{list_all, position_from}
use Rattle.std.specs.Str.{bytes_eq}
use Rattle.std.proofs.lemmas.Result.{IfOk-weaker}
use Rattle.boogie_tree.specs.Names.{is_name}
use Rattle.boogie_tree.specs.View as view
use Rattle.boogie_tree.specs.Tree.{Procedure}
use Rattle.typed_tree.specs.TypedTree.{TypedProgram}
use Rattle.boogie_types.specs.Ties.Replaced.{program_by, if_entry}
use Rattle.boogie_types.proofs.Shape.{named_are_names}
use Rattle.boogie_types.proofs.ResolvedLaws.{no_entry_is_fault, typed_from_entry, resolved_from_entry}
use Rattle.boogie_types.proofs.resolving.resolved.Goals as goal

pub with_entry-requires : goal.with_entry-requires
with_entry-requires c =
    let ds = map view.declaration c.args.decls.now in
    let t = program_by c.in_ok-replaced.replaced in
    let number = ap (λ (ps : List Procedure). if_entry t (position_from (λ p. bytes_eq c.args.entry.now p.name.text) 0 ps)) (sym c.in_ok-procs.ensures.listed) ∙ sym c.entry_number.ensures ∙ c.in-Some.is in
    record { typed = typed_from_entry ds c.args.entry.now t c.in-Some.number c.requires.named c.in_ok-replaced.ensures.ok c.in_ok-replaced.ensures.kept number }

pub returns-in-Some-clause-ok : goal.returns-in-Some-clause-ok
returns-in-Some-clause-ok c =
    let ds = map view.declaration c.args.decls.now in
    let t = program_by c.in_ok-replaced.replaced in
    let number = ap (λ (ps : List Procedure). if_entry t (position_from (λ p. bytes_eq c.args.entry.now p.name.text) 0 ps)) (sym c.in_ok-procs.ensures.listed) ∙ sym c.entry_number.ensures ∙ c.in-Some.is in
    let e = resolved_from_entry ds c.args.entry.now t c.in-Some.number c.requires.named c.in_ok-replaced.ensures.ok c.in_ok-replaced.ensures.kept number in
    IfOk-weaker c.with_entry.result _ _ (λ u h. e ∙ ap (λ (v : TypedProgram). Some v) (sym h)) c.with_entry.ensures.ok

pub returns-clause-fault : goal.returns-clause-fault
returns-clause-fault c =
    let ds = map view.declaration c.args.decls.now in
    let t = program_by c.in_ok-replaced.replaced in
    let number = ap (λ (ps : List Procedure). if_entry t (position_from (λ p. bytes_eq c.args.entry.now p.name.text) 0 ps)) (sym c.in_ok-procs.ensures.listed) ∙ sym c.entry_number.ensures ∙ c.in-None.is in
    no_entry_is_fault ds c.args.entry.now t c.in_ok-replaced.ensures.ok c.in_ok-replaced.ensures.kept number

pub returns-in-Some-clause-names : goal.returns-in-Some-clause-names
returns-in-Some-clause-names c =
    let ds = map view.declaration c.args.decls.now in
    let names = named_are_names ds (program_by c.in_ok-replaced.replaced) c.requires.named c.in_ok-replaced.ensures.ok.named in
    IfOk-weaker c.with_entry.result _ _ (λ u h. subst (λ (v : TypedProgram). list_all (λ p. is_name p.name) v.procs ≡ true) (sym h) names) c.with_entry.ensures.ok

use Rattle.std.proofs.Common.{◌≡◌, ℕ, ◌+◌, ◌≤◌, take, map, length, ap, ap₂, sym, ◌∙◌, subst, arith}
use Rattle.std.proofs.lemmas.Result.{MatchResult-weaker}
use Rattle.boogie_tree.specs.View as view
use Rattle.typed_tree.specs.Scope.{seen}
use Rattle.boogie_types.specs.Ties.Specifications.{specifications_in, AreSpecificationsFault}
use Rattle.boogie_types.proofs.VariableLaws.{first_seen}
use Rattle.boogie_types.proofs.ProcedureLaws.{specifications_seen, specifications_fault}
use Rattle.boogie_types.proofs.procedures.specifications_inside.Goals as goal

pub seen_by-before-requires : goal.seen_by-before-requires
seen_by-before-requires c = let h = c.len-params.ensures in let e = c.requires.enough in let l : c.len-params.result ≤ length c.args.locals.now = omega arith in first_seen _ _ _ c.requires.variables_are l

pub seen_by-after-requires : goal.seen_by-after-requires
seen_by-after-requires c = let l : c.len-params.result + c.len-results.result ≤ length c.args.locals.now = omega arith in first_seen _ _ _ c.requires.variables_are l

pub returns-clause-ok : goal.returns-clause-ok
returns-clause-ok c =
    let d = c.args.declared.now in
    let ds = map view.declaration d.decls.now in
    let p = view.procedure c.args.procedure.now in
    let vs = c.args.locals.now in
    let params : c.len-params.result ≡ length p.params = omega arith in
    let results : c.len-results.result ≡ length p.results = omega arith in
    MatchResult-weaker c.specifications.result c.specifications.ensures.ok
    (λ v h. specifications_seen ds p (seen c.seen_by-before.result.scope) (seen c.seen_by-after.result.scope) d.globals.now _ _ d.globals_are
    (ap (λ (k : ℕ). take k vs) params ∙ c.requires.params_are)
    (ap₂ (λ (k m : ℕ). take (k + m) vs) params results ∙ c.requires.results_are)
    c.seen_by-before.ensures c.seen_by-after.ensures _
    (ap (λ ss. specifications_in (seen c.seen_by-before.result.scope) (seen c.seen_by-after.result.scope) (map view.specification ss)) (sym c.deref.ensures.value) ∙ h))
    (λ f h. h)

pub returns-clause-fault : goal.returns-clause-fault
returns-clause-fault c =
    let d = c.args.declared.now in
    let ds = map view.declaration d.decls.now in
    let p = view.procedure c.args.procedure.now in
    let vs = c.args.locals.now in
    let params : c.len-params.result ≡ length p.params = omega arith in
    let results : c.len-results.result ≡ length p.results = omega arith in
    MatchResult-weaker c.specifications.result c.specifications.ensures.fault (λ v h. h)
    (λ f h. specifications_fault ds p (seen c.seen_by-before.result.scope) (seen c.seen_by-after.result.scope) d.globals.now _ _ d.globals_are
    (ap (λ (k : ℕ). take k vs) params ∙ c.requires.params_are)
    (ap₂ (λ (k m : ℕ). take (k + m) vs) params results ∙ c.requires.results_are)
    c.seen_by-before.ensures c.seen_by-after.ensures f
    (subst (λ ss. AreSpecificationsFault (seen c.seen_by-before.result.scope) (seen c.seen_by-after.result.scope) (map view.specification ss) f) c.deref.ensures.value h))

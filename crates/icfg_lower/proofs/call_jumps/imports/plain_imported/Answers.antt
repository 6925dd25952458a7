use Rattle.std.proofs.Common.{◌≡◌, ℕ, true, false, List, [], map, length, refl, ◌∙◌, ap, subst, arith}
use Rattle.boogie_tree.specs.declared.tree.VarInfo.{VarInfo}
use Rattle.typed_tree.specs.TypedTree.{TypedExpression, TypedProcedure}
use Rattle.typed_tree.specs.TypedView.{expression, procedure}
use Rattle.letter_acts.specs.Frames.{Columns}
use Rattle.cond_jumps.specs.declared.fault.JumpFault.TheVariants.{TooWide, TooBig}
use Rattle.cond_jumps.specs.Conjs.{conjunctions}
use Rattle.cond_jumps.specs.Conjunctions.{is_wide, all_fit}
use Rattle.cond_jumps.specs.FreeProducts.LetterView.{exact_letter}
use Rattle.lowered_graph.specs.LoweredSteps.Edges.{those_in, behind_helpers}
use Rattle.icfg_lower.specs.CallJumps.CallLists.{ensured}
use Rattle.icfg_lower.specs.CallJumps.Ties.ImportView.{IsLayout}
use Rattle.icfg_lower.proofs.CallJumps.ConjoinedLemmas.{handed}
use Rattle.icfg_lower.proofs.CallJumps.LetterLemmas.{AreRead, test_read, list_read}
use Rattle.icfg_lower.proofs.call_jumps.imports.plain_imported.Goals as goal

pub plain_conditions-requires : goal.plain_conditions-requires
plain_conditions-requires c =
    let F : Columns = c.args.frame.now.columns.items in
    let G : List VarInfo = c.args.globals.now in
    let q : TypedProcedure = procedure c.args.callee.now in
    let A : List TypedExpression = map expression c.args.args.now in
    let ts : List ℕ = c.args.targets.now in
    let w : c.in-Ok.base ≡ length F = c.in-Ok.ensures.1 ∙ c.len.ensures ∙ c.args.frame.now.columns.ok.0 in
    let l : IsLayout (length F) q ts c.in_ok-layout.layout = subst (λ (b : ℕ). IsLayout b q ts c.in_ok-layout.layout) w c.in_ok-layout.ensures in
    l

pub returns-in_err-conjs-clause-too_wide : goal.returns-in_err-conjs-clause-too_wide
returns-in_err-conjs-clause-too_wide c t =
    let F : Columns = c.args.frame.now.columns.items in
    let G : List VarInfo = c.args.globals.now in
    let q : TypedProcedure = procedure c.args.callee.now in
    let A : List TypedExpression = map expression c.args.args.now in
    let ts : List ℕ = c.args.targets.now in
    let w : c.in-Ok.base ≡ length F = c.in-Ok.ensures.1 ∙ c.len.ensures ∙ c.args.frame.now.columns.ok.0 in
    let l : IsLayout (length F) q ts c.in_ok-layout.layout = subst (λ (b : ℕ). IsLayout b q ts c.in_ok-layout.layout) w c.in_ok-layout.ensures in
    let h : AreRead F (length F) G q A ts [] (ensured q.specs) c.in_ok-layout.layout.width (map expression c.as_slice.result.now) =
    record { before = (omega arith); below = tt; width_is = l.width; read_is = ap (map expression) c.as_slice.ensures.value ∙ c.in_ok-conds.ensures } in
    test_read is_wide F (length F) G q A ts [] (ensured q.specs) c.in_ok-layout.layout.width (map expression c.as_slice.result.now) true h (c.numbered_paths.ensures.too_wide (handed c.numbered_paths.result c.from_residual-in_err-conjs.result c.in_err-conjs.field-0.0 TooWide c.in_err-conjs.was c.from_residual-in_err-conjs.ensures.1 t))

pub returns-in_err-conjs-clause-too_big : goal.returns-in_err-conjs-clause-too_big
returns-in_err-conjs-clause-too_big c t =
    let F : Columns = c.args.frame.now.columns.items in
    let G : List VarInfo = c.args.globals.now in
    let q : TypedProcedure = procedure c.args.callee.now in
    let A : List TypedExpression = map expression c.args.args.now in
    let ts : List ℕ = c.args.targets.now in
    let w : c.in-Ok.base ≡ length F = c.in-Ok.ensures.1 ∙ c.len.ensures ∙ c.args.frame.now.columns.ok.0 in
    let l : IsLayout (length F) q ts c.in_ok-layout.layout = subst (λ (b : ℕ). IsLayout b q ts c.in_ok-layout.layout) w c.in_ok-layout.ensures in
    let h : AreRead F (length F) G q A ts [] (ensured q.specs) c.in_ok-layout.layout.width (map expression c.as_slice.result.now) =
    record { before = (omega arith); below = tt; width_is = l.width; read_is = ap (map expression) c.as_slice.ensures.value ∙ c.in_ok-conds.ensures } in
    let r = c.numbered_paths.ensures.too_big (handed c.numbered_paths.result c.from_residual-in_err-conjs.result c.in_err-conjs.field-0.0 TooBig c.in_err-conjs.was c.from_residual-in_err-conjs.ensures.1 t) in
    (test_read is_wide F (length F) G q A ts [] (ensured q.specs) c.in_ok-layout.layout.width (map expression c.as_slice.result.now) false h r.0, test_read all_fit F (length F) G q A ts [] (ensured q.specs) c.in_ok-layout.layout.width (map expression c.as_slice.result.now) false h r.1)

pub returns-clause-list : goal.returns-clause-list
returns-clause-list c =
    let F : Columns = c.args.frame.now.columns.items in
    let G : List VarInfo = c.args.globals.now in
    let q : TypedProcedure = procedure c.args.callee.now in
    let A : List TypedExpression = map expression c.args.args.now in
    let ts : List ℕ = c.args.targets.now in
    let w : c.in-Ok.base ≡ length F = c.in-Ok.ensures.1 ∙ c.len.ensures ∙ c.args.frame.now.columns.ok.0 in
    let l : IsLayout (length F) q ts c.in_ok-layout.layout = subst (λ (b : ℕ). IsLayout b q ts c.in_ok-layout.layout) w c.in_ok-layout.ensures in
    let h : AreRead F (length F) G q A ts [] (ensured q.specs) c.in_ok-layout.layout.width (map expression c.as_slice.result.now) =
    record { before = (omega arith); below = tt; width_is = l.width; read_is = ap (map expression) c.as_slice.ensures.value ∙ c.in_ok-conds.ensures } in
    let n : c.len-2.result ≡ length (those_in ts q.modifies) = c.len-2.ensures ∙ c.in_ok-layout.layout.targeted.ok.0 ∙ ap length c.in_ok-layout.ensures.targeted in
    let r = list_read F (length F) G q A ts [] (ensured q.specs) c.in_ok-layout.layout.width (map expression c.as_slice.result.now) (conjunctions c.in_ok-conjs.conjs.items) h c.in_ok-conjs.ensures.list in
    c.in_ok-conjs-2.ensures ∙ (λ j. map (behind_helpers (n j)) ((c.in_ok-letters.ensures ∙ (λ i. map exact_letter (r i))) j))

pub returns-clause-narrow : goal.returns-clause-narrow
returns-clause-narrow c t =
    let F : Columns = c.args.frame.now.columns.items in
    let G : List VarInfo = c.args.globals.now in
    let q : TypedProcedure = procedure c.args.callee.now in
    let A : List TypedExpression = map expression c.args.args.now in
    let ts : List ℕ = c.args.targets.now in
    let w : c.in-Ok.base ≡ length F = c.in-Ok.ensures.1 ∙ c.len.ensures ∙ c.args.frame.now.columns.ok.0 in
    let l : IsLayout (length F) q ts c.in_ok-layout.layout = subst (λ (b : ℕ). IsLayout b q ts c.in_ok-layout.layout) w c.in_ok-layout.ensures in
    let h : AreRead F (length F) G q A ts [] (ensured q.specs) c.in_ok-layout.layout.width (map expression c.as_slice.result.now) =
    record { before = (omega arith); below = tt; width_is = l.width; read_is = ap (map expression) c.as_slice.ensures.value ∙ c.in_ok-conds.ensures } in
    test_read is_wide F (length F) G q A ts [] (ensured q.specs) c.in_ok-layout.layout.width (map expression c.as_slice.result.now) false h (c.in_ok-conjs.ensures.narrow refl)

pub returns-clause-fits : goal.returns-clause-fits
returns-clause-fits c t =
    let F : Columns = c.args.frame.now.columns.items in
    let G : List VarInfo = c.args.globals.now in
    let q : TypedProcedure = procedure c.args.callee.now in
    let A : List TypedExpression = map expression c.args.args.now in
    let ts : List ℕ = c.args.targets.now in
    let w : c.in-Ok.base ≡ length F = c.in-Ok.ensures.1 ∙ c.len.ensures ∙ c.args.frame.now.columns.ok.0 in
    let l : IsLayout (length F) q ts c.in_ok-layout.layout = subst (λ (b : ℕ). IsLayout b q ts c.in_ok-layout.layout) w c.in_ok-layout.ensures in
    let h : AreRead F (length F) G q A ts [] (ensured q.specs) c.in_ok-layout.layout.width (map expression c.as_slice.result.now) =
    record { before = (omega arith); below = tt; width_is = l.width; read_is = ap (map expression) c.as_slice.ensures.value ∙ c.in_ok-conds.ensures } in
    test_read all_fit F (length F) G q A ts [] (ensured q.specs) c.in_ok-layout.layout.width (map expression c.as_slice.result.now) true h (c.in_ok-conjs.ensures.fits refl)

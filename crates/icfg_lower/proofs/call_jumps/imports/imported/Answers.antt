use Rattle.std.proofs.Common.{◌≡◌, ◌+◌, ℕ, true, false, Bool, List, map, length, sym, ◌∙◌, ap, subst, Result, Ok, Err}
use Rattle.std.specs.Prelude.{IfOk}
use Rattle.std.specs.List.{AllByRecursion}
use Rattle.boogie_tree.specs.declared.tree.Column.{Column}
use Rattle.boogie_tree.specs.declared.tree.VarInfo.{VarInfo}
use Rattle.typed_tree.specs.TypedTree.{TypedExpression, TypedProcedure}
use Rattle.typed_tree.specs.TypedView.{expression, procedure, specification}
use Rattle.typed_tree.specs.declared.types.TSpec.{TSpec}
use Rattle.typed_tree.specs.AffineForm.{forms_fit}
use Rattle.typed_tree.specs.Scope.{is_constant_column}
use Rattle.letter_acts.specs.Frames.{Columns}
use Rattle.cond_jumps.specs.Conjunctions.{is_wide, all_fit}
use Rattle.cond_jumps.specs.FreeProducts.FreeProducts.{all_free_products}
use Rattle.cond_jumps.specs.FreeProducts.FrameLetters.{told_condition}
use Rattle.cond_jumps.specs.FreeProducts.LetterView.{all_marked}
use Rattle.lowered_graph.specs.LoweredSteps.Edges.{told_ensures}
use Rattle.icfg_lower.specs.CallJumps.CallLists.{ensured}
use Rattle.icfg_lower.proofs.CallJumps.EnsuredLemmas.{all_told_fit}
use Rattle.icfg_lower.proofs.CallJumps.LetterLemmas.{HasNone, test_none, letters_none, told_all, test_import, letters_import}
use Rattle.icfg_lower.proofs.call_jumps.imports.imported.Goals as goal

if_ok : {X F : Type 0} (r : Result X F) (P Q : X → Type 0) → ((x : X) → P x → Q x) → IfOk r P → IfOk r Q
if_ok (Ok x) P Q k h = k x h
if_ok (Err f) P Q k h = h

pub ensures_count-requires : goal.ensures_count-requires
ensures_count-requires c =
    let g : Column → Bool = is_constant_column c.args.globals.now in
    subst (λ (ss : List TSpec). AllByRecursion (λ e. forms_fit g false e ≡ true) (ensured (map specification ss))) (sym c.as_slice-specs.ensures.value) c.requires.fit

pub returns-then-count-eq0 : goal.returns-then-count-eq0
returns-then-count-eq0 c =
    let F : Columns = c.args.frame.now.columns.items in
    let G : List VarInfo = c.args.globals.now in
    let g : Column → Bool = is_constant_column G in
    let m : ℕ = c.args.locals in
    let q : TypedProcedure = procedure c.args.callee.now in
    let A : List TypedExpression = map expression c.args.args.now in
    let ts : List ℕ = c.args.targets.now in
    let s : c.in_ok-second.second ≡ length (all_free_products g (ensured q.specs)) = c.in_ok-second.ensures ∙ (λ j. length (all_free_products g (ensured (map specification (c.as_slice-specs.ensures.value j))))) in
    let h : HasNone F g q A = record { constants = c.requires.constants; none = (λ j. sym c.in_ok-first.ensures j + sym s j) ∙ sym c.in_ok-count.ensures ∙ c.if-count-eq0.true } in
    let r = c.plain_imported.ensures in
    record {
      written = r.written;
      list = if_ok c.plain_imported.result _ _ (λ i. letters_none F g m G q A ts (all_marked i.conjs.items) h) r.list;
      narrow = λ k. test_none is_wide F g m G q A ts false h (r.narrow k);
      fits = λ k. test_none all_fit F g m G q A ts true h (r.fits k);
      too_wide = λ k. test_none is_wide F g m G q A ts true h (r.too_wide k);
      too_big = λ k. let t = r.too_big k in (test_none is_wide F g m G q A ts false h t.0, test_none all_fit F g m G q A ts false h t.1);
    }

pub ensures_told-requires : goal.ensures_told-requires
ensures_told-requires c =
    let g : Column → Bool = is_constant_column c.args.globals.now in
    subst (λ (ss : List TSpec). AllByRecursion (λ e. forms_fit g false e ≡ true) (ensured (map specification ss))) (sym c.as_slice-specs.ensures.value) c.requires.fit

pub told_imported-requires-clause-fit : goal.told_imported-requires-clause-fit
told_imported-requires-clause-fit c =
    let g : Column → Bool = is_constant_column c.args.globals.now in
    let q : TypedProcedure = procedure c.args.callee.now in
    let A : List TypedExpression = map expression c.args.args.now in
    let t : map expression c.as_slice.result.now ≡ map (told_condition g A) (ensured q.specs) =
    ap (map expression) c.as_slice.ensures.value ∙ c.in_ok-told.ensures ∙ (λ j. map (told_condition g A) (ensured (map specification (c.as_slice-specs.ensures.value j)))) in
    subst (λ (es : List TypedExpression). AllByRecursion (λ e. forms_fit g false e ≡ true) es) (sym t) (all_told_fit g A (ensured q.specs) c.requires.fit)

pub returns : goal.returns
returns c =
    let F : Columns = c.args.frame.now.columns.items in
    let G : List VarInfo = c.args.globals.now in
    let g : Column → Bool = is_constant_column G in
    let m : ℕ = c.args.locals in
    let q : TypedProcedure = procedure c.args.callee.now in
    let A : List TypedExpression = map expression c.args.args.now in
    let ts : List ℕ = c.args.targets.now in
    let E : List TypedExpression = map expression c.as_slice.result.now in
    let h : E ≡ told_ensures F q A =
    ap (map expression) c.as_slice.ensures.value ∙ c.in_ok-told.ensures ∙ (λ j. map (told_condition g A) (ensured (map specification (c.as_slice-specs.ensures.value j)))) ∙ told_all F g q A c.requires.constants in
    let r = c.told_imported.ensures in
    record {
      written = r.written;
      list = if_ok c.told_imported.result _ _ (λ i. letters_import F m G q A ts E (all_marked i.conjs.items) h) r.list;
      narrow = λ k. test_import is_wide F m G q A ts E false h (r.narrow k);
      fits = λ k. test_import all_fit F m G q A ts E true h (r.fits k);
      too_wide = λ k. test_import is_wide F m G q A ts E true h (r.too_wide k);
      too_big = λ k. let t = r.too_big k in (test_import is_wide F m G q A ts E false h t.0, test_import all_fit F m G q A ts E false h t.1);
    }

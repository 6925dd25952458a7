use Rattle.std.proofs.Common.{◌≡◌, ◌+◌, ℕ, true, false, Bool, List, map, length, take, drop, refl, sym, ◌∙◌, ap, subst, arith}
use Rattle.std.specs.Prelude.{IfOk}
use Rattle.boogie_tree.specs.declared.tree.Column.{Column}
use Rattle.boogie_tree.specs.declared.tree.Ty.{Ty}
use Rattle.boogie_tree.specs.declared.tree.VarInfo.{VarInfo}
use Rattle.typed_tree.specs.TypedTree.{TypedExpression, TypedProcedure}
use Rattle.typed_tree.specs.TypedView.{expression, procedure}
use Rattle.typed_tree.specs.Scope.{is_constant_column}
use Rattle.letter_acts.specs.Frames.{Columns}
use Rattle.cond_jumps.specs.Conjs.{conjunctions}
use Rattle.cond_jumps.specs.Conjunctions.{Conjunction, listed_plan, is_wide, all_fit}
use Rattle.cond_jumps.specs.FreeProducts.FreeProducts.{all_free_products, all_freed}
use Rattle.cond_jumps.specs.FreeProducts.FrameLetters.{widened}
use Rattle.cond_jumps.proofs.FreeProducts.FrameAnswers.{length-widened}
use Rattle.lowered_graph.specs.LoweredSteps.Edges.{whole_columns, all_hold}
use Rattle.cond_jumps.specs.Frames.{frame_environment}
use Rattle.icfg_lower.specs.CallJumps.Ties.ImportView.{IsLayout, import_conditions}
use Rattle.icfg_lower.specs.CallJumps.Ties.Numbered.{numbered_columns}
use Rattle.icfg_lower.proofs.CallJumps.ParameterLemmas.{length-mapped}
use Rattle.icfg_lower.proofs.CallJumps.ImportLemmas.{whole_below}
use Rattle.icfg_lower.proofs.CallJumps.LetterLemmas.{AreRead, AreEnsured, test_read, list_read, test_ensured, lists_ensured}
use Rattle.icfg_lower.proofs.call_jumps.imports.told_paths.Goals as goal

pub freed_conditions-conds-requires-clause-layout : goal.freed_conditions-conds-requires-clause-layout
freed_conditions-conds-requires-clause-layout c =
    let F : Columns = c.args.frame.now.columns.items in
    let z : length c.in_ok-wide.wide.columns.items ≡ length F + c.args.count = ap length c.in_ok-wide.ensures ∙ length-widened F c.args.locals c.args.count in
    subst (λ (n : ℕ). IsLayout n (procedure c.args.callee.now) c.args.targets.now c.args.layout.now) (sym z) c.requires.layout

pub returns : goal.returns
returns c =
    let F : Columns = c.args.frame.now.columns.items in
    let G : List VarInfo = c.args.globals.now in
    let g : Column → Bool = is_constant_column G in
    let m : ℕ = c.args.locals in
    let q : TypedProcedure = procedure c.args.callee.now in
    let A : List TypedExpression = map expression c.args.args.now in
    let E : List TypedExpression = map expression c.args.told.now in
    let ts : List ℕ = c.args.targets.now in
    let i : ℕ = length (all_free_products g A) in
    let k : ℕ = c.args.further in
    let W : Columns = c.in_ok-wide.wide.columns.items in
    let y : c.args.count ≡ i + k = c.requires.count in
    let z : length W ≡ length F + c.args.count = ap length c.in_ok-wide.ensures ∙ length-widened F m c.args.count in
    let n : ℕ = length (take q.results (drop q.params q.locals)) in
    let AS : List TypedExpression = all_freed g m A in
    let FS : List TypedExpression = all_freed g (length A + n) E in
    let more : List (ℕ × Ty) = whole_columns (length F + i) k in
    let v : ℕ = c.args.layout.now.width in
    let R : List TypedExpression = map expression c.as_slice.result.now in
    let a : length c.args.args.now ≡ length A = sym (length-mapped c.args.args.now) in
    let h : AreEnsured F g m q A E W AS FS i k =
    record { constants = c.requires.constants; first_is = refl; second_is = c.requires.further; columns = c.in_ok-wide.ensures ∙ ap (widened F m) y; arguments = refl; conditions = refl } in
    let r : AreRead W (length W) G q AS ts more FS v R =
    record {
      before = (omega arith);
      below = whole_below (length W) (length F + i) k (omega (arith, y, z));
      width_is = (subst (λ (j : ℕ). IsLayout j q ts c.args.layout.now) (sym z) c.requires.layout).width;
      read_is = ap (map expression) c.as_slice.ensures.value ∙ c.in_ok-conds.ensures ∙ (λ j. import_conditions W (length W) G q AS ts (whole_columns (c.requires.products j) k) (all_freed g (a j + n) E));
    } in
    let P : List Conjunction → Type 0 = λ cs. IfOk c.numbered_paths.result (λ made. conjunctions made.items ≡ cs) in
    let l : listed_plan (all_hold (frame_environment (numbered_columns v)) R) v ≡ _ =
    list_read W (length W) G q AS ts more FS v R (listed_plan (all_hold (frame_environment (numbered_columns v)) R) v) r refl ∙ lists_ensured F g m q A E W AS FS i k G ts h in
    record {
      list = subst P l c.numbered_paths.ensures.list;
      narrow = λ t. test_ensured is_wide F g m q A E W AS FS i k G ts false h (test_read is_wide W (length W) G q AS ts more FS v R false r (c.numbered_paths.ensures.narrow t));
      fits = λ t. test_ensured all_fit F g m q A E W AS FS i k G ts true h (test_read all_fit W (length W) G q AS ts more FS v R true r (c.numbered_paths.ensures.fits t));
      too_wide = λ t. test_ensured is_wide F g m q A E W AS FS i k G ts true h (test_read is_wide W (length W) G q AS ts more FS v R true r (c.numbered_paths.ensures.too_wide t));
      too_big = λ t.
          let f = c.numbered_paths.ensures.too_big t in (
            test_ensured is_wide F g m q A E W AS FS i k G ts false h (test_read is_wide W (length W) G q AS ts more FS v R false r f.0),
            test_ensured all_fit F g m q A E W AS FS i k G ts false h (test_read all_fit W (length W) G q AS ts more FS v R false r f.1),
          );
    }

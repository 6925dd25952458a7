use Rattle.std.proofs.Common.{◌≡◌, false, List, map, length, sym, ◌∙◌, ap, subst}
use Rattle.std.specs.Prelude.{IfOk}
use Rattle.typed_tree.specs.TypedTree.{TypedExpression}
use Rattle.typed_tree.specs.TypedView.{expression}
use Rattle.letter_acts.specs.Frames.{Columns}
use Rattle.cond_jumps.specs.Conjunctions.{Conjunction, listed_plan, is_wide, all_fit}
use Rattle.cond_jumps.specs.Conjs.{conjunctions}
use Rattle.cond_jumps.specs.Lists.{path_plan}
use Rattle.icfg_lower.specs.CallJumps.CallLists.{passed_plan}
use Rattle.icfg_lower.specs.CallJumps.Ties.Numbered.{numbered_columns}
use Rattle.icfg_lower.specs.CallJumps.Ties.Reading.{read_by}
use Rattle.icfg_lower.specs.CallJumps.Ties.Stands.{stand_of, argument_stand, requires_stand}
use Rattle.icfg_lower.proofs.CallJumps.StandLemmas.{numbered_width, requires_plan}
use Rattle.icfg_lower.proofs.call_jumps.demands.passed.Goals as goal

pub returns : goal.returns
returns c =
    let F : Columns = c.args.frame.now.columns.items in
    let args : List TypedExpression = map expression c.args.args.now in
    let e : TypedExpression = expression c.args.cond.now in
    let cols : Columns = c.in_ok-numbered.numbered.columns.items in
    let d : TypedExpression = expression c.in_ok-read.read in
    let wide : c.in-Ok.width ≡ length F = c.in-Ok.ensures.1 ∙ c.len.ensures ∙ c.args.frame.now.columns.ok.0 in
    let K : cols ≡ numbered_columns (length F) = c.in_ok-numbered.ensures ∙ ap numbered_columns wide in
    let X : map stand_of c.as_slice.result.now ≡ map (argument_stand F) args = ap (map stand_of) c.as_slice.ensures.value ∙ c.in_ok-args.ensures in
    let R : d ≡ read_by (requires_stand F (map (argument_stand F) args)) false e = c.in_ok-read.ensures ∙ (λ j. read_by (requires_stand F (X j)) false e) in
    let P : path_plan cols d c.args.want ≡ passed_plan F args e c.args.want = (λ j. path_plan (K j) (R j) c.args.want) ∙ requires_plan F args e c.args.want in
    let W : length cols ≡ length F = ap length K ∙ numbered_width (length F) in
    let wides : is_wide (path_plan cols d c.args.want) (length cols) ≡ is_wide (passed_plan F args e c.args.want) (length F) = (λ j. is_wide (P j) (W j)) in
    let fits : all_fit (path_plan cols d c.args.want) (length cols) ≡ all_fit (passed_plan F args e c.args.want) (length F) = (λ j. all_fit (P j) (W j)) in
    let Q : List Conjunction → Type 0 = λ l. IfOk c.paths.result (λ cs. conjunctions cs.items ≡ l) in
    let lists : listed_plan (path_plan cols d c.args.want) (length cols) ≡ listed_plan (passed_plan F args e c.args.want) (length F) = (λ j. listed_plan (P j) (W j)) in
    record {
      list = subst Q lists c.paths.ensures.list;
      narrow = λ k. sym wides ∙ c.paths.ensures.narrow k;
      fits = λ k. sym fits ∙ c.paths.ensures.fits k;
      too_wide = λ k. sym wides ∙ c.paths.ensures.too_wide k;
      too_big = λ k. let t = c.paths.ensures.too_big k in (sym wides ∙ t.0, sym fits ∙ t.1);
    }

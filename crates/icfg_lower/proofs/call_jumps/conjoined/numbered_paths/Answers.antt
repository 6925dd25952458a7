use Rattle.std.proofs.Common.{◌≡◌, List, map, length, sym, ◌∙◌, ap, subst}
use Rattle.std.specs.Prelude.{IfOk}
use Rattle.typed_tree.specs.TypedTree.{TypedExpression}
use Rattle.typed_tree.specs.TypedView.{expression}
use Rattle.letter_acts.specs.Frames.{Columns}
use Rattle.cond_jumps.specs.Conjunctions.{Conjunction, listed_plan, is_wide, all_fit}
use Rattle.cond_jumps.specs.Conjs.{conjunctions}
use Rattle.cond_jumps.specs.Frames.{frame_environment}
use Rattle.lowered_graph.specs.LoweredSteps.Edges.{all_hold}
use Rattle.icfg_lower.specs.CallJumps.Ties.Numbered.{numbered_columns}
use Rattle.icfg_lower.proofs.CallJumps.StandLemmas.{numbered_width}
use Rattle.icfg_lower.proofs.call_jumps.conjoined.numbered_paths.Goals as goal

pub returns : goal.returns
returns c =
    let cols : Columns = c.in_ok-frame.frame.columns.items in
    let es : List TypedExpression = map expression c.args.conds.now in
    let K : cols ≡ numbered_columns c.args.width = c.in_ok-frame.ensures in
    let W : length cols ≡ c.args.width = ap length K ∙ numbered_width c.args.width in
    let P : all_hold (frame_environment cols) es ≡ all_hold (frame_environment (numbered_columns c.args.width)) es = (λ j. all_hold (frame_environment (K j)) es) in
    let wides : is_wide (all_hold (frame_environment cols) es) (length cols) ≡ is_wide (all_hold (frame_environment (numbered_columns c.args.width)) es) c.args.width = (λ j. is_wide (P j) (W j)) in
    let fits : all_fit (all_hold (frame_environment cols) es) (length cols) ≡ all_fit (all_hold (frame_environment (numbered_columns c.args.width)) es) c.args.width = (λ j. all_fit (P j) (W j)) in
    let lists : listed_plan (all_hold (frame_environment cols) es) (length cols) ≡ listed_plan (all_hold (frame_environment (numbered_columns c.args.width)) es) c.args.width = (λ j. listed_plan (P j) (W j)) in
    let Q : List Conjunction → Type 0 = λ l. IfOk c.all_paths.result (λ cs. conjunctions cs.items ≡ l) in
    record {
      list = subst Q lists c.all_paths.ensures.list;
      narrow = λ k. sym wides ∙ c.all_paths.ensures.narrow k;
      fits = λ k. sym fits ∙ c.all_paths.ensures.fits k;
      too_wide = λ k. sym wides ∙ c.all_paths.ensures.too_wide k;
      too_big = λ k. let t = c.all_paths.ensures.too_big k in (sym wides ∙ t.0, sym fits ∙ t.1);
    }

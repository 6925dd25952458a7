use Rattle.std.proofs.Common.{◌∙◌, ℕ, ◌+◌, ◌^◌, ◌≤◌, List, [], length, sym, ap, subst}
use Rattle.nwa_base.specs.declared.letters.Letter.{Letter}
use Rattle.nwa_base.proofs.RunLemmas.{run_accepts}
use Rattle.lin_rows.specs.Points.{point_of}
use Rattle.path_rows.specs.Paths.{path_of}
use Rattle.trace_replay.specs.PathTraces.Solved.{next_positions}
use Rattle.trace_replay.proofs.ToldSites.{if_ok}
use Rattle.trace_replay.proofs.ToldChoices.ReadLetters.{run_many}
use Rattle.trace_replay.proofs.told_choices.positions.positions_of.Goals as goal

pub rows_of-requires : goal.rows_of-requires
rows_of-requires c = run_accepts c.args.icfg.now.automaton c.args.word.now c.args.run.now c.requires

pub read_positions-requires-clause-versions : goal.read_positions-requires-clause-versions
read_positions-requires-clause-versions c =
    c.states.ensures ∙ c.in_ok-path.ensures.value.states ∙ ap (λ (w : List Letter). (path_of c.args.icfg.now w).states) (c.in_ok-path.ensures.word ∙ sym c.letters.ensures.value)

pub read_positions-requires-clause-columns : goal.read_positions-requires-clause-columns
read_positions-requires-clause-columns c =
    let e = c.in_ok-path.ensures.value.column_at ∙ ap (λ (w : List Letter). (path_of c.args.icfg.now w).column_at) (c.in_ok-path.ensures.word ∙ sym c.letters.ensures.value) in
    subst (λ (l : List ℕ). length l ≤ 2 ^ 32) e c.in_ok-path.ensures.columns

pub read_positions-requires-clause-run : goal.read_positions-requires-clause-run
read_positions-requires-clause-run c =
    run_many c.args.icfg.now.automaton c.args.run.now [] c.args.word.now c.args.run.now c.requires.is_run.steps ∙ ap (λ (w : List Letter). length w + 1) (sym c.letters.ensures.value)

pub returns-clause-value : goal.returns-clause-value
returns-clause-value c =
    if_ok _ _ c.read_positions.result
    (λ v so. so ∙ ap (λ (w : List Letter). next_positions (point_of c.args.point.now) c.args.icfg.now w c.args.run.now) c.letters.ensures.value) c.read_positions.ensures.value

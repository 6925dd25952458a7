use Rattle.std.proofs.Common.{◌+◌, List, [], ◌∷◌, ◌++◌, map, drop, sym}
use Rattle.boogie_tree.specs.declared.tree.Column.{Column}
use Rattle.trace_replay.specs.ToldChoices.Kinds.{Guesses}
use Rattle.trace_replay.specs.ToldChoices.Ties.Views.{plain_kinds}
use Rattle.trace_replay.specs.ToldChoices.Ties.Walks.{guess}
use Rattle.trace_replay.proofs.ToldChoices.Turns.{turn}
use Rattle.trace_replay.proofs.told_choices.statements.add_guesses.Goals as goal

pub loop-column-preserved : goal.loop-column-preserved
loop-column-preserved c =
    turn (λ (cs : List Column). map (guess c.args.frame.now) cs) c.args.columns.now c.loop-column.column-index _ (plain_kinds c.loop-column.kinds.items) (plain_kinds c.add.new.kinds.items)
    (plain_kinds c.args.kinds.now.items ++ map (guess c.args.frame.now) c.args.columns.now) (Guesses c.column_number.result ∷ []) c.loop-column-test.true
    (λ j. Guesses (sym c.column_number.ensures j) ∷ map (guess c.args.frame.now) (drop (c.loop-column.column-index + 1) c.args.columns.now))
    c.in_ok-add.ensures c.loop-column.invariant

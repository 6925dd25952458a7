use Rattle.std.proofs.Common.{◌∙◌, ◌++◌, List, ℕ, ap}
use Rattle.letter_acts.specs.FrameRows.Rows.{columns_from}
use Rattle.triple_rows.proofs.TableLaws.{call_table}
use Rattle.triple_rows.proofs.tables.call_columns.Goals as goal

pub returns : goal.returns
returns c =
    call_table c.args.callee c.args.caller c.args.written c.args.helpers c.add_columns.new.columns.items c.add_columns-2.new.columns.items c.add_columns-3.new.columns.items
    (c.in_ok-add_columns.ensures ∙ ap (λ (xs : List ℕ). xs ++ columns_from c.args.callee c.args.caller) c.new-columns.ensures.items)
    c.in_ok-add_columns-2.ensures c.in_ok-add_columns-3.ensures

use Rattle.std.proofs.Common.{◌∙◌, ◌++◌, List, ℕ, ap}
use Rattle.letter_acts.specs.FrameRows.Rows.{columns_from}
use Rattle.triple_rows.proofs.TableLaws.{shifted_table}
use Rattle.triple_rows.proofs.tables.shifted_columns.Goals as goal

pub returns : goal.returns
returns c = record {
  table = shifted_table c.args.from c.args.count c.add_columns.new.columns.items
      (c.in_ok-add_columns.ensures ∙ ap (λ (xs : List ℕ). xs ++ columns_from c.args.from c.args.count) c.in_ok-columns.ensures.items);
}

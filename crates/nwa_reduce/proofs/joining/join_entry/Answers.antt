use Rattle.std.proofs.Common.{◌∙◌, [], ◌∷◌, refl, sym}
use Rattle.nwa_reduce.specs.Ties.Rows.{row_of}
use Rattle.nwa_reduce.proofs.MadeLemmas.{on_ok}
use Rattle.nwa_reduce.proofs.JoinLemmas.{entry_none, entry_all}
use Rattle.nwa_reduce.proofs.joining.join_entry.Goals as goal

pub returns-then-is_empty : goal.returns-then-is_empty
returns-then-is_empty c =
    entry_none c.args.nwa.now c.args.entry c.calls_entering-callers.result.now c.args.joins.now.items c.calls_entering-callers.ensures (sym c.is_empty.ensures ∙ c.if-is_empty.true)

pub returns : goal.returns
returns c =
    on_ok c.join_all.result
    (entry_all c.args.nwa.now c.args.entry c.calls_entering-callers.result.now (λ q. row_of c.args.steps.now.rows.items q) (c.args.entry ∷ []) c.in_ok-inner.inner _
    c.args.joins.now.items c.join_all.new.joins.items c.calls_entering-callers.ensures refl c.as_slice.ensures c.in_ok-inner.ensures c.requires) c.join_all.ensures

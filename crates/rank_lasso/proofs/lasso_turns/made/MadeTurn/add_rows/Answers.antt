use Rattle.std.proofs.Common.{◌∙◌, ℕ, List, ◌++◌, Option, sym, ap, subst, arith}
use Rattle.std.proofs.lemmas.List.{length-map}
use Rattle.std.specs.Prelude.{map, slice_index}
use Rattle.boogie_tree.specs.declared.tree.Ty.{Ty}
use Rattle.letter_acts.specs.Invariant.{type_at}
use Rattle.letter_acts.specs.FrameRows.Rows.{renamed, bounds, columns_from, RowsAreNamed}
use Rattle.rank_lasso.proofs.LassoTurns.MadeLaws.{rows_added}
use Rattle.rank_lasso.proofs.lasso_turns.made.MadeTurn.add_rows.Goals as goal

pub returns-clause-rows : goal.returns-clause-rows
returns-clause-rows c =
    rows_added c.args.self.now.rows.items c.append.new.self.items _ c.in_ok-own.own.items c.in_ok-bounds.bounds.items _ _ c.in_ok-append.ensures.items c.in_ok-append-2.ensures.items
    (c.in_ok-own.ensures.value ∙ ap (λ (ns : List ℕ). map (renamed (slice_index ns)) c.args.rows.now)
    (c.deref-2.ensures.value ∙ c.in_ok-add_columns.ensures ∙
    ap (λ (ns : List ℕ). ns ++ columns_from c.args.self.now.made c.args.columns) (c.in_ok-names.ensures.items ∙ c.deref.ensures.value)))
    (c.in_ok-bounds.ensures.value ∙ ap (λ (ts : List (Option Ty)). bounds c.args.self.now.made ts) (c.deref-3.ensures.value ∙ c.in_ok-types.ensures))

pub renamed_rows-requires : goal.renamed_rows-requires
renamed_rows-requires c =
    subst (λ (ns : List ℕ). RowsAreNamed ns c.args.rows.now)
    (sym (c.deref-2.ensures.value ∙ c.in_ok-add_columns.ensures ∙
    ap (λ (ns : List ℕ). ns ++ columns_from c.args.self.now.made c.args.columns) (c.in_ok-names.ensures.items ∙ c.deref.ensures.value))) c.requires.named

pub bound_rows-requires : goal.bound_rows-requires
bound_rows-requires c =
    let e = c.deref-3.ensures.value ∙ c.in_ok-types.ensures in
    let l = length-map c.args.written.now (type_at c.args.frame.now) in
    let room = c.requires.room in
    let counted = c.requires.counted in
    rw e (omega (arith, l, room, counted))

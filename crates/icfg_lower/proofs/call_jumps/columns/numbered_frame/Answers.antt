use Rattle.std.proofs.Common.{◌≡◌, ◌∙◌, ℕ, ◌+◌, [], ◌∷◌, ◌++◌, sym, ap, add-one}
use Rattle.boogie_tree.specs.declared.tree.Column.TheVariants.{Local}
use Rattle.icfg_lower.specs.CallJumps.Ties.Numbered.{plain, numbered_columns}
use Rattle.icfg_lower.proofs.call_jumps.columns.numbered_frame.Goals as goal

one_more : (n : ℕ) → numbered_columns (n + 1) ≡ numbered_columns n ++ (Local n, plain) ∷ []
one_more n = ap numbered_columns (add-one n)

pub loop-number-preserved : goal.loop-number-preserved
loop-number-preserved c =
    c.in_ok-push.ensures.items ∙ (λ j. c.loop-number.invariant j ++ (Local c.loop-number.number, c.plain.ensures j) ∷ []) ∙ sym (one_more c.loop-number.number)

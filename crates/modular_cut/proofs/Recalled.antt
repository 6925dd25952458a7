-- Blocks of statements whose calls are renumbered one by one.
use Rattle.std.proofs.Common.{◌≡◌, ℕ, List, [], ◌∷◌, map, refl, ap}
use Rattle.typed_tree.specs.declared.types.TStmt.{TStmt}
use Rattle.typed_tree.specs.TypedTree.{TypedBlock, Then}
use Rattle.typed_tree.specs.TypedView as view
use Rattle.modular_cut.specs.Parts.{recalled, recalled_block}

pub block_recalled : (r : ℕ → ℕ) (ss : List TStmt) → view.block (map (λ s. recalled r (view.statement s)) ss) ≡ recalled_block r (view.statements ss)
block_recalled r [] = refl
block_recalled r (s ∷ ss) = ap (λ (b : TypedBlock). Then (recalled r (view.statement s)) b) (block_recalled r ss)

-- Columns, each once.
use Rattle.std.proofs.Common.{◌≡◌, ◌∙◌, ℕ, ◌+◌, ◌<◌, false, List, [], ◌∷◌, ◌++◌, map, drop, length, get_or, refl, ap, sym, if◌then◌else◌}
use Rattle.std.specs.List.{list_any, flat_map}
use Rattle.typed_tree.specs.declared.types.TExpr.{TExpr}
use Rattle.typed_tree.specs.TypedView.{expression}
use Rattle.boogie_tree.specs.declared.tree.Column.{Column}
use Rattle.explain_top.specs.RunStory.Notes.{once, same_column, columns_in}
use Rattle.explain_top.proofs.RunStory.LineLemmas.{next_split}

pub once_both : (seen xs ys : List Column) → once seen (xs ++ ys) ≡ once (once seen xs) ys
once_both seen [] ys = refl
once_both seen (x ∷ xs) ys = once_both (if list_any (same_column x) seen then seen else seen ++ x ∷ []) xs ys

-- what the next expression reads, and those behind it
pub once_next : (keys more all : List Column) (es : List TExpr) (i : ℕ) (e : TExpr) → i < length es → e ≡ get_or es i e →
    once keys (flat_map (columns_in false) (map expression (drop i es))) ≡ all → more ≡ once keys (columns_in false (expression e)) →
    once more (flat_map (columns_in false) (map expression (drop (i + 1) es))) ≡ all
once_next keys more all es i e h k here one =
    ap (λ (ks : List Column). once ks (flat_map (columns_in false) (map expression (drop (i + 1) es)))) one
    ∙ sym (once_both keys (columns_in false (expression e)) (flat_map (columns_in false) (map expression (drop (i + 1) es))))
    ∙ ap (λ (xs : List TExpr). once keys (flat_map (columns_in false) (map expression xs))) (sym (next_split es i e h k))
    ∙ here

-- The cuts that are left for the trees to come, after a leaf and after a cut.
use Rattle.std.proofs.Common.{◌≡◌, ℕ, suc, ℤ, List, [], ◌∷◌, ◌++◌, Option, Some, reverse, sym, ap, ◌∙◌}
use Rattle.std.proofs.lemmas.List.{reverse-append}
use Rattle.farkas_check.specs.Nodes.{leaf, cut}
use Rattle.int_decide.specs.Ties.CutCounts.{after_node}

pub pass_leaf : (parts : List (ℕ × ℤ)) (left : ℕ) (old popped : List ℕ) → old ≡ popped ++ left ∷ [] → after_node (reverse old) (leaf parts) ≡ Some (reverse popped)
pass_leaf parts left old popped e = ap (λ (ls : List ℕ). after_node ls (leaf parts)) (ap reverse e ∙ reverse-append popped (left ∷ []))

-- both sides have one cut less
pub pass_cut : (c : ℕ) (k : ℤ) (left less : ℕ) (old popped new : List ℕ) → left ≡ suc less → old ≡ popped ++ left ∷ [] → new ≡ (popped ++ less ∷ []) ++ less ∷ [] →
    after_node (reverse old) (cut c k) ≡ Some (reverse new)
pass_cut c k left less old popped new l e f =
    let a : reverse old ≡ suc less ∷ reverse popped = ap reverse e ∙ reverse-append popped (left ∷ []) ∙ ap (λ (n : ℕ). n ∷ reverse popped) l in
    let b : reverse new ≡ less ∷ less ∷ reverse popped =
    ap reverse f ∙ reverse-append (popped ++ less ∷ []) (less ∷ []) ∙ ap (λ (ls : List ℕ). less ∷ ls) (reverse-append popped (less ∷ [])) in
    ap (λ (ls : List ℕ). after_node ls (cut c k)) a ∙ ap (λ (ls : List ℕ). let o : Option (List ℕ) = Some ls in o) (sym b)

-- Refutations that bytes are.
use Rattle.std.proofs.Common.{◌≡◌, ◌≢◌, ℕ, Bool, true, false, ◌&&◌, List, [], ◌∷◌, ◌++◌, map, IsTrue, IfSome, Option, Some, None, drop, refl, sym, ap, ◌∙◌, subst}
use Rattle.std.specs.List.{list_all}
use Rattle.std.proofs.lemmas.Bool.{false≢true}
use Rattle.proof_form.specs.declared.refutations.RNode.{RNode}
use Rattle.proof_form.specs.Refutations.{RefutationNode, plain_refutation_node, is_refutation, refutation_text}
use Rattle.proof_form.proofs.SharedLaws.{begins_with_space}
use Rattle.rank_lasso.specs.RankingText.{rows_are_short, IsProofForm}
use Rattle.rank_lasso.specs.Lines.{Spells}
use Rattle.rank_lasso.proofs.Contents.{same_refutation}

-- no space is in front
pub no_space : (bytes : List ℕ) → ((rest : List ℕ) → bytes ≢ (32 ∷ []) ++ rest) → Spells IsProofForm refutation_text bytes → ⊥
no_space bytes none h = none (drop 1 (refutation_text h.0)) (h.2 ∙ begins_with_space h.0 h.1.tree)

-- what stands behind it is none
pub no_tree : (bytes rest : List ℕ) → bytes ≡ (32 ∷ []) ++ rest → ((ns : List RefutationNode) → IsTrue (is_refutation ns) → refutation_text ns ≡ 32 ∷ rest → ⊥) →
    Spells IsProofForm refutation_text bytes → ⊥
no_tree bytes rest e none h = none h.0 h.1.tree (sym h.2 ∙ e)

shorts : (nodes : List RNode) → list_all (λ n. rows_are_short (plain_refutation_node n)) nodes ≡ list_all rows_are_short (map plain_refutation_node nodes)
shorts [] = refl
shorts (n ∷ ns) = ap (λ t. rows_are_short (plain_refutation_node n) && t) (shorts ns)

-- one does, but a number of it is long
pub long_tree : (bytes rest : List ℕ) (nodes slice : List RNode) (b : Bool) → bytes ≡ (32 ∷ []) ++ rest → IsTrue (is_refutation (map plain_refutation_node nodes)) →
    refutation_text (map plain_refutation_node nodes) ≡ 32 ∷ rest → slice ≡ nodes → b ≡ list_all (λ n. rows_are_short (plain_refutation_node n)) slice → b ≡ false →
    Spells IsProofForm refutation_text bytes → ⊥
long_tree bytes rest nodes slice b e valid value all test long h =
    let same : h.0 ≡ map plain_refutation_node nodes = same_refutation h.0 (map plain_refutation_node nodes) h.1.tree valid (sym h.2 ∙ e ∙ sym value) in
    let tested : b ≡ list_all rows_are_short (map plain_refutation_node nodes) = test ∙ ap (list_all (λ n. rows_are_short (plain_refutation_node n))) all ∙ shorts nodes in
    false≢true (sym long ∙ tested ∙ ap (list_all rows_are_short) (sym same) ∙ h.1.short)

-- one does
pub tree_read : (bytes rest : List ℕ) (nodes slice : List RNode) (b : Bool) → bytes ≡ (32 ∷ []) ++ rest → IsTrue (is_refutation (map plain_refutation_node nodes)) →
    refutation_text (map plain_refutation_node nodes) ≡ 32 ∷ rest → slice ≡ nodes → b ≡ list_all (λ n. rows_are_short (plain_refutation_node n)) slice → b ≡ true →
    IsProofForm (map plain_refutation_node nodes) × (bytes ≡ refutation_text (map plain_refutation_node nodes))
tree_read bytes rest nodes slice b e valid value all test short = (
  record {
    tree = valid;
    short = sym (shorts nodes) ∙ ap (list_all (λ n. rows_are_short (plain_refutation_node n))) (sym all) ∙ sym test ∙ short;
  },
  e ∙ sym value,
)

-- what is said of a value that is there
pub at_some : {A : Type 0} (P : A → Type 0) (o : Option A) (x : A) → o ≡ Some x → IfSome o P → P x
at_some P None x e h = absurd (let n : ⊥ = cc in n)
at_some P (Some y) x e h = let same : y ≡ x = cc in subst P same h

-- The first member of a list that lacks a property, found from the front.
use Rattle.std.proofs.Common.{◌≡◌, ℕ, zero, suc, ◌+◌, ◌<◌, ◌≤◌, List, [], ◌∷◌, length, get_or, Some, refl, subst, below_more, arith}
use Rattle.std.proofs.lemmas.List.{length-map}
use Rattle.std.specs.Prelude.{slice_get, map}
use Rattle.triple_rows.proofs.ListLaws.{within, got_map}
use Rattle.proof_names.specs.declared.outlines.NamedNode.{NamedNode}
use Rattle.proof_names.specs.Outlines.{node}
use Rattle.proof_names.proofs.PairLaws.{is_got}
use Rattle.proof_check.specs.Ties.Firsts.{HasAt}

pub has_here : {X : Type 0} (P : ℕ → X → Type 0) (xs : List X) (n : ℕ) (x : X) → slice_get xs n ≡ Some x → P n x → HasAt P xs n
has_here P xs n x e p y f = let c : x ≡ y = cc in subst (λ z. P n z) c p

pub first_on : {X : Type 0} (P : ℕ → X → Type 0) (xs : List X) (n : ℕ) (x : X) → ((j : ℕ) → j < n → HasAt P xs j) → slice_get xs n ≡ Some x → P n x →
    (j : ℕ) → j < n + 1 → HasAt P xs j
first_on P xs n x h e p = below_more (λ j. HasAt P xs j) n h (has_here P xs n x e p)

pub first_found : {X : Type 0} (P : ℕ → X → Type 0) (xs : List X) (n : ℕ) (x : X) → ((j : ℕ) → j < n → HasAt P xs j) → slice_get xs n ≡ Some x → (P n x → ⊥) →
    ((j : ℕ) → j < n → HasAt P xs j) × (HasAt P xs n → ⊥)
first_found P xs n x h e p = (h, λ g. p (g x e))

pub first_none : {X : Type 0} (P : ℕ → X → Type 0) (xs : List X) (n : ℕ) → ((j : ℕ) → j < n → HasAt P xs j) → length xs ≤ n → (k : ℕ) → HasAt P xs k
first_none P xs n h l k x e = let w = within xs k x e in h k (omega (arith, w, l)) x e

pub node_got : (nodes : List NamedNode) (n : ℕ) (x : NamedNode) → n < length nodes → x ≡ get_or nodes n x → slice_get (map node nodes) n ≡ Some (node x)
node_got nodes n x l e = got_map node nodes n x (is_got nodes n x l e)

pub nodes_end : (nodes : List NamedNode) (n : ℕ) → length nodes ≤ n → length (map node nodes) ≤ n
nodes_end nodes n l = omega (arith, length-map nodes node)

pub same_default : {X : Type 0} (xs : List X) (i : ℕ) (d e : X) → i < length xs → get_or xs i d ≡ get_or xs i e
same_default [] i d e l = absurd (omega arith)
same_default (x ∷ xs) zero d e l = refl
same_default (x ∷ xs) (suc i) d e l = same_default xs i d e (omega arith)

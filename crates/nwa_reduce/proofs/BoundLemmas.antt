-- What stands in an image fits it: its final states are states, and its edges are between states, by letters of their kind.
use Rattle.std.proofs.Common.{◌≡◌, ◌∙◌, ◌<◌, ℕ, List, [], ◌∷◌, Option, Some, sym, ap, subst, inl, inr, refl}
use Rattle.std.specs.List.{AllByRecursion}
use Rattle.nwa_base.specs.declared.letters.Kind.{Kind}
use Rattle.nwa_base.specs.declared.letters.Letter.{Letter}
use Rattle.nwa_base.specs.Members.{Member}
use Rattle.nwa_base.specs.Automata.{IsEdge, IsBackEdge}
use Rattle.nwa_reduce.specs.Images.{IsNamedEdge, IsNamedBack}
use Rattle.nwa_reduce.proofs.CollectLemmas.{IsCollected}
use Rattle.nwa_reduce.proofs.TrimLemmas.{all_member}

all_of : {X : Type 0} (P : X → Type 0) (xs : List X) → ((x : X) → Member xs x → P x) → AllByRecursion P xs
all_of P [] h = tt
all_of P (x ∷ xs) h = (h x (inl refl), all_of P xs (λ y m. h y (inr m)))

abbrev pub AreWithin : (ℕ → Option ℕ) → ℕ → Type 0
AreWithin name states = (q x : ℕ) → name q ≡ Some x → x < states

pub states_fit : (name : ℕ → Option ℕ) (states : ℕ) (xs ys zs : List ℕ) → AreWithin name states → zs ≡ ys →
    IsCollected (λ (q y : ℕ). name q ≡ Some y) xs ys → AllByRecursion (λ (q : ℕ). q < states) zs
states_fit name states xs ys zs w e h =
    subst (AllByRecursion (λ (q : ℕ). q < states)) (sym e)
    (all_of (λ (q : ℕ). q < states) ys (λ y m. let a = (h y).0 m in w a.0 y a.2))

pub edges_fit : (name : ℕ → Option ℕ) (kind : Kind) (all states : ℕ) (es xs : List (ℕ × Letter × ℕ)) (ys zs : List (ℕ × Letter × ℕ)) →
    AreWithin name states → AllByRecursion (IsEdge all kind) es → xs ≡ es → zs ≡ ys → IsCollected (IsNamedEdge name) xs ys →
    AllByRecursion (IsEdge states kind) zs
edges_fit name kind all states es xs ys zs w v d e h =
    subst (AllByRecursion (IsEdge states kind)) (sym e)
    (all_of (IsEdge states kind) ys (λ y m.
    let a = (h y).0 m in
    let n : IsNamedEdge name a.0 y = a.2 in
    record {
      «from» = w a.0.0 y.0 n.0;
      to = w a.0.2 y.2 n.2;
      letter = ap (λ (l : Letter). l.kind) (sym n.1) ∙ (all_member (IsEdge all kind) es a.0 v (subst (λ (l : List (ℕ × Letter × ℕ)). Member l a.0) d a.1)).letter;
    }))

pub backs_fit : (name : ℕ → Option ℕ) (all states : ℕ) (es xs : List (ℕ × ℕ × Letter × ℕ)) (ys zs : List (ℕ × ℕ × Letter × ℕ)) →
    AreWithin name states → AllByRecursion (IsBackEdge all) es → xs ≡ es → zs ≡ ys → IsCollected (IsNamedBack name) xs ys →
    AllByRecursion (IsBackEdge states) zs
backs_fit name all states es xs ys zs w v d e h =
    subst (AllByRecursion (IsBackEdge states)) (sym e)
    (all_of (IsBackEdge states) ys (λ y m.
    let a = (h y).0 m in
    let n : IsNamedBack name a.0 y = a.2 in
    record {
      «from» = w a.0.0 y.0 n.0;
      before = w a.0.1 y.1 n.1;
      to = w a.0.3 y.3 n.3;
      letter = ap (λ (l : Letter). l.kind) (sym n.2) ∙ (all_member (IsBackEdge all) es a.0 v (subst (λ (l : List (ℕ × ℕ × Letter × ℕ)). Member l a.0) d a.1)).letter;
    }))

-- Nodes that are found among candidates.
use Rattle.std.proofs.Common.{◌<◌, zero, suc, length, get_or, arith, ◌≡◌, ◌∙◌, ℕ, true, List, [], ◌∷◌, Some, refl, sym, ap, subst, inl, inr}
use Rattle.std.specs.Prelude.{nat_eq, slice_get}
use Rattle.std.specs.List.{list_all, list_any}
use Rattle.nwa_base.specs.Members.{Member}
use Rattle.nwa_base.proofs.LetterLemmas.{and_left, and_right}
use Rattle.nwa_base.proofs.MemberLemmas.{any_number}
use Rattle.triple_rows.proofs.ListLaws.{within}
use Rattle.proof_names.specs.Outlines.{OutlineNode}
use Rattle.proof_build.specs.ProofUnwind.Unwindings.{node_at}
use Rattle.proof_build.specs.declared.proof_unwind.spots.Spot.{Spot}
use Rattle.proof_build.specs.ProofUnwind.Spots.{plain, nodes_of, IsWeaker, IsEntryWith}

pub node_is : (nodes : List OutlineNode) (n : ℕ) (x : OutlineNode) → slice_get nodes n ≡ Some x → node_at nodes n ≡ x
node_is [] n x e = absurd (cc)
node_is (y ∷ nodes) zero x e = cc
node_is (y ∷ nodes) (suc n) x e = node_is nodes n x e

among : (numbers others : List ℕ) → list_all (λ n. list_any (λ y. nat_eq y n) others) numbers ≡ true → (r : ℕ) → Member numbers r → Member others r
among [] others h r m = absurd m
among (n ∷ numbers) others h r (inl e) =
    subst (λ (x : ℕ). Member others x) e ((any_number others n (list_any (λ y. nat_eq y n) others) refl).0
    (and_left (list_any (λ y. nat_eq y n) others) (list_all (λ n. list_any (λ y. nat_eq y n) others) numbers) h))
among (n ∷ numbers) others h r (inr m) =
    among numbers others (and_right (list_any (λ y. nat_eq y n) others) (list_all (λ n. list_any (λ y. nat_eq y n) others) numbers) h) r m

pub is_weaker_at : (nodes : List OutlineNode) (k : ℕ) (x : OutlineNode) (place entry : ℕ) (preds : List ℕ) → slice_get nodes k ≡ Some x → x.place ≡ place → x.entry ≡ entry →
    list_all (λ n. list_any (λ y. nat_eq y n) preds) x.preds ≡ true → IsWeaker nodes place entry preds k
is_weaker_at nodes k x place entry preds g p e a =
    let i : node_at nodes k ≡ x = node_is nodes k x g in
    record {
      there = within nodes k x g;
      at = ap (λ (y : OutlineNode). y.place) i ∙ p;
      under = ap (λ (y : OutlineNode). y.entry) i ∙ e;
      among = λ r m. among x.preds preds a r (subst (λ (y : OutlineNode). Member y.preds r) i m);
    }

pub is_entry_at : (nodes : List OutlineNode) (k : ℕ) (x : OutlineNode) (place : ℕ) (preds : List ℕ) → slice_get nodes k ≡ Some x → x.place ≡ place → x.entry ≡ k → x.preds ≡ preds →
    IsEntryWith nodes place preds k
is_entry_at nodes k x place preds g p e a =
    let i : node_at nodes k ≡ x = node_is nodes k x g in
    record { there = within nodes k x g; at = ap (λ (y : OutlineNode). y.place) i ∙ p; itself = ap (λ (y : OutlineNode). y.entry) i ∙ e; same = ap (λ (y : OutlineNode). y.preds) i ∙ a }

pub spot_there : (spots : List Spot) (n : ℕ) (x : Spot) → n < length (nodes_of spots) → x ≡ get_or spots n x → node_at (nodes_of spots) n ≡ plain x
spot_there [] n x l e = absurd (omega arith)
spot_there (y ∷ spots) zero x l e = ap plain (sym e)
spot_there (y ∷ spots) (suc n) x l e = spot_there spots n x (omega arith) e

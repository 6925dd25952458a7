-- Members of a list, read from the front.
use Rattle.std.proofs.Common.{◌≡◌, ℕ, ◌+◌, ◌<◌, ◌≤◌, List, [], ◌∷◌, length, take, get_or, sym, subst, inl, inr}
use Rattle.std.proofs.lemmas.List.{take_all}
use Rattle.nwa_base.specs.Members.{Member}
use Rattle.nwa_base.proofs.MemberLemmas.{member_split}
use Rattle.proof_names.proofs.PairLaws.{is_got}
use Rattle.proof_check.proofs.ListLaws.{member_at}
use Rattle.proof_check.proofs.IndexLaws.{next_taken}

-- each of the first members has the property
pub record AllTo {X : Type 0} (P : X → Type 0) (xs : List X) (i : ℕ) : Type 0 where
  pub each : (x : X) → Member (take i xs) x → P x

pub all_on : {X : Type 0} (P : X → Type 0) (xs : List X) (i : ℕ) (x : X) → AllTo P xs i → i < length xs → x ≡ get_or xs i x → P x → AllTo P xs (i + 1)
all_on {X} P xs i x h l e p = record {
  each = λ y m. elim (member_split (take i xs) (x ∷ []) y (subst (λ ys. Member ys y) (next_taken xs i x l e) m)) [
    | inl k ↦ h.each y k
    | inr k ↦ last y k
  ];
}
  where
    last : (y : X) → Member (x ∷ []) y → P y
    last y (inl c) = subst P c p
    last y (inr n) = absurd n

pub all_to : {X : Type 0} (P : X → Type 0) (xs : List X) (i : ℕ) → AllTo P xs i → length xs ≤ i → (x : X) → Member xs x → P x
all_to P xs i h l x m = h.each x (subst (λ ys. Member ys x) (sym (take_all i xs l)) m)

pub not_all : {X : Type 0} (P : X → Type 0) (xs : List X) (i : ℕ) (x : X) → i < length xs → x ≡ get_or xs i x → (P x → ⊥) → ((y : X) → Member xs y → P y) → ⊥
not_all P xs i x l e n h = n (h x (member_at xs i x (is_got xs i x l e)))

pub here_is : {X : Type 0} (xs : List X) (i : ℕ) (x : X) → i < length xs → x ≡ get_or xs i x → Member xs x
here_is xs i x l e = member_at xs i x (is_got xs i x l e)

-- none of the first members has the property
pub record NoneTo {X : Type 0} (P : X → Type 0) (xs : List X) (i : ℕ) : Type 0 where
  pub none : (x : X) → Member (take i xs) x → P x → ⊥

pub none_on : {X : Type 0} (P : X → Type 0) (xs : List X) (i : ℕ) (x : X) → NoneTo P xs i → i < length xs → x ≡ get_or xs i x → (P x → ⊥) → NoneTo P xs (i + 1)
none_on {X} P xs i x h l e n = record {
  none = λ y m p. elim (member_split (take i xs) (x ∷ []) y (subst (λ ys. Member ys y) (next_taken xs i x l e) m)) [
    | inl k ↦ h.none y k p
    | inr k ↦ last y k p
  ];
}
  where
    last : (y : X) → Member (x ∷ []) y → P y → ⊥
    last y (inl c) p = n (subst P (sym c) p)
    last y (inr m) p = m

pub none_to : {X : Type 0} (P : X → Type 0) (xs : List X) (i : ℕ) → NoneTo P xs i → length xs ≤ i → (x : X) → Member xs x → P x → ⊥
none_to P xs i h l x m p = h.none x (subst (λ ys. Member ys x) (sym (take_all i xs l)) m) p

-- Lists that begin others, and their members.
use Rattle.std.proofs.Common.{◌≡◌, ℕ, zero, suc, ◌+◌, ◌<◌, List, [], ◌∷◌, ◌++◌, length, Some, refl, sym, subst, arith, append-nil, length-append}
use Rattle.std.specs.Prelude.{slice_get}
use Rattle.std.specs.List.{AllByRecursion}
use Rattle.version_cell.specs.Counts.{Begins}

module _ {X : Type 0} where
  get_append : (a rest : List X) (i : ℕ) (x : X) → slice_get a i ≡ Some x → slice_get (a ++ rest) i ≡ Some x
  get_append [] rest i x e = cc
  get_append (y ∷ a) rest zero x e = e
  get_append (y ∷ a) rest (suc i) x e = get_append a rest i x e

  -- a member of the beginning stands at the same place in the whole
  pub get_begins : (a whole : List X) (i : ℕ) (x : X) → Begins a whole → slice_get a i ≡ Some x → slice_get whole i ≡ Some x
  get_begins a whole i x s e = subst (λ (l : List X). slice_get l i ≡ Some x) (sym s.1) (get_append a s.0 i x e)

  get_end : (a : List X) (x : X) → slice_get (a ++ x ∷ []) (length a) ≡ Some x
  get_end [] x = refl
  get_end (y ∷ a) x = get_end a x

  pub get_last : (a : List X) (x : X) (n : ℕ) → length a ≡ n → slice_get (a ++ x ∷ []) n ≡ Some x
  get_last a x n e = subst (λ (i : ℕ). slice_get (a ++ x ∷ []) i ≡ Some x) e (get_end a x)

  no_rest : (a rest : List X) → length (a ++ rest) ≡ length a → a ++ rest ≡ a
  no_rest a [] e = append-nil a
  no_rest a (x ∷ rest) e = let l = length-append a (x ∷ rest) in absurd (omega (arith, l, e))

  -- a beginning of the same length is the whole
  pub begins_all : (a whole : List X) → Begins a whole → length whole ≡ length a → whole ≡ a
  begins_all a whole s e =
      subst (λ (l : List X). l ≡ a) (sym s.1) (no_rest a s.0 (subst (λ (l : List X). length l ≡ length a) s.1 e))

  -- what holds of the member at each place holds of all members
  pub all_by_get : (P : X → Type 0) (l : List X) → ((i : ℕ) → i < length l → (x : X) × (slice_get l i ≡ Some x) × P x) → AllByRecursion P l
  all_by_get P [] each = tt
  all_by_get P (y ∷ l) each =
      let first = each 0 (omega arith) in
      let same : first.0 ≡ y = cc (first.1) in
      (subst P same first.2, all_by_get P l (λ i b. each (suc i) (omega arith)))

  -- what holds of all members holds of those before the last, and of the last
  pub all_front : (P : X → Type 0) (l : List X) (x : X) → AllByRecursion P (l ++ x ∷ []) → AllByRecursion P l × P x
  all_front P [] x h = (tt, h.0)
  all_front P (y ∷ l) x h = let r = all_front P l x h.1 in ((h.0, r.0), r.1)

  pub all_more : (P : X → Type 0) (l : List X) (x : X) → AllByRecursion P l → P x → AllByRecursion P (l ++ x ∷ [])
  all_more P [] x h p = (p, tt)
  all_more P (y ∷ l) x h p = (h.0, all_more P l x h.1 p)

  -- a list without its last member
  pub popped : (P : X → Type 0) (l m : List X) (x : X) → l ≡ m ++ x ∷ [] → AllByRecursion P l → AllByRecursion P m × P x
  popped P l m x e h = all_front P m x (subst (λ (k : List X). AllByRecursion P k) e h)

  pub popped_length : (l m : List X) (x : X) → l ≡ m ++ x ∷ [] → length l ≡ length m + 1
  popped_length l m x e = subst (λ (k : List X). length k ≡ length m + 1) (sym e) (length-append m (x ∷ []))

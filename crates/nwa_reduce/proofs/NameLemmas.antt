-- Names of states.
use Rattle.std.proofs.Common.{◌≡◌, ◌⊎◌, ◌↔◌, ◌<◌, ◌≤◌, ◌+◌, ℕ, Bool, true, false, cond, List, [], ◌∷◌, ◌++◌, Option, None, Some, length, take, get_or, slice_get, refl, sym, ap, subst, inl, inr, arith}
use Rattle.std.proofs.lemmas.List.{take_more, take_all}
use Rattle.nwa_base.specs.Members.{Member}
use Rattle.nwa_base.proofs.MemberLemmas.{member_front, member_rest, member_split}
use Rattle.nwa_reduce.specs.Ties.Naming.{AreDistinct, name_at, named, IsOrder}
use Rattle.nwa_reduce.proofs.ListLemmas.{past_end, only_member, distinct_insert, insert_old, insert_new, insert_either}

-- of the first states those that are reached are kept
pub record IsOrderTo (reached front kept : List ℕ) : Type 0 where
  pub distinct : AreDistinct kept
  pub has : (q : ℕ) → Member kept q ↔ (Member reached q × Member front q)

pub order_none : (reached kept : List ℕ) → kept ≡ [] → IsOrderTo reached [] kept
order_none reached kept e = record {
  distinct = subst AreDistinct (sym e) tt;
  has = λ q. (λ h. absurd (subst (λ (l : List ℕ). Member l q) e h), λ h. absurd h.1);
}

skipped : (reached xs kept : List ℕ) (x : ℕ) → (Member reached x → ⊥) → IsOrderTo reached xs kept → IsOrderTo reached (xs ++ x ∷ []) kept
skipped reached xs kept x n h = record {
  distinct = h.distinct;
  has = λ q. (
    λ m. let r = (h.has q).0 m in (r.0, member_front xs (x ∷ []) q r.1),
    λ m.
        elim (member_split xs (x ∷ []) q m.1) [
          | inl a ↦ (h.has q).1 (m.0, a)
          | inr b ↦ absurd (n (subst (Member reached) (sym (only_member x q b)) m.0))
        ],
  );
}

put : (b : Bool) (reached xs kept new : List ℕ) (x : ℕ) → Member reached x → (b ≡ true → Member kept x) → (b ≡ false → Member kept x → ⊥) →
    new ≡ cond b kept (kept ++ x ∷ []) → IsOrderTo reached xs kept → IsOrderTo reached (xs ++ x ∷ []) new
put b reached xs kept new x r t n e h = record {
  distinct = distinct_insert b kept new x n h.distinct e;
  has = λ q. (
    λ m.
        elim (insert_either b kept new x q e m) [
          | inl a ↦ let k = (h.has q).0 a in (k.0, member_front xs (x ∷ []) q k.1)
          | inr i ↦ (subst (Member reached) i r, member_rest xs (x ∷ []) q (inl i))
        ],
    λ m.
        elim (member_split xs (x ∷ []) q m.1) [
          | inl a ↦ insert_old b kept new x q e ((h.has q).1 (m.0, a))
          | inr a ↦ insert_new b kept new x q t e (only_member x q a)
        ],
  );
}

pub order_skips : (reached xs kept : List ℕ) (i d : ℕ) → i < length xs → (Member reached (get_or xs i d) → ⊥) → IsOrderTo reached (take i xs) kept →
    IsOrderTo reached (take (i + 1) xs) kept
order_skips reached xs kept i d l n h =
    subst (λ (f : List ℕ). IsOrderTo reached f kept) (sym (take_more xs i d l)) (skipped reached (take i xs) kept (get_or xs i d) n h)

pub order_puts : (b : Bool) (reached xs kept new : List ℕ) (i d : ℕ) → i < length xs → Member reached (get_or xs i d) →
    (b ≡ true → Member kept (get_or xs i d)) → (b ≡ false → Member kept (get_or xs i d) → ⊥) →
    new ≡ cond b kept (kept ++ get_or xs i d ∷ []) → IsOrderTo reached (take i xs) kept → IsOrderTo reached (take (i + 1) xs) new
order_puts b reached xs kept new i d l r t n e h =
    subst (λ (f : List ℕ). IsOrderTo reached f new) (sym (take_more xs i d l)) (put b reached (take i xs) kept new (get_or xs i d) r t n e h)

-- the start last, unless it stands there
pub order_whole : (b : Bool) (start : ℕ) (reached ending kept new : List ℕ) (i : ℕ) → length ending ≤ i →
    (b ≡ true → Member kept start) → (b ≡ false → Member kept start → ⊥) → new ≡ cond b kept (kept ++ start ∷ []) →
    IsOrderTo reached (take i ending) kept → IsOrder start reached ending new
order_whole b start reached ending kept new i l t n e h =
    let g = subst (λ (f : List ℕ). IsOrderTo reached f kept) (take_all i ending l) h in
    record {
      distinct = distinct_insert b kept new start n g.distinct e;
      has = λ q. (
        λ m. elim (insert_either b kept new start q e m) [ inl a ↦ inr ((g.has q).0 a) | inr i ↦ inl (sym i) ],
        λ m. elim m [ inl i ↦ insert_new b kept new start q t e (sym i) | inr a ↦ insert_old b kept new start q e ((g.has q).1 a) ],
      );
    }

name_of_at : (o : Option (Option ℕ)) (x : ℕ) → name_at o ≡ Some x → o ≡ Some (Some x)
name_of_at None x e = let f : None ≡ Some x = e in cc
name_of_at (Some o) x e = ap (λ (z : Option ℕ). Some z) e

pub name_of : (names : List (Option ℕ)) (q x : ℕ) → named names q ≡ Some x → slice_get names q ≡ Some (Some x)
name_of names q x e = name_of_at (slice_get names q) x e

no_name_at : (o : Option (Option ℕ)) → name_at o ≡ None → (o ≡ None) ⊎ (o ≡ Some None)
no_name_at None e = inl refl
no_name_at (Some o) e = inr (ap (λ (z : Option ℕ). Some z) e)

-- where a state below the length has no name
pub no_name : (names : List (Option ℕ)) (q : ℕ) → q < length names → named names q ≡ None → slice_get names q ≡ Some None
no_name names q l e =
    elim (no_name_at (slice_get names q) e) [ inl n ↦ absurd (let k = past_end names q n in omega arith) | inr f ↦ f ]

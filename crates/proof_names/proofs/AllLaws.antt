-- Lists of which each member has a value, read from the front.
use Rattle.std.proofs.Common.{◌≡◌, ◌↔◌, ◌∙◌, ℕ, zero, suc, ◌+◌, ◌<◌, ◌≤◌, Bool, true, List, [], ◌∷◌, ◌++◌, length, drop, get_or, Option, None, Some, refl, sym, ap, append_assoc, arith}
use Rattle.std.specs.Prelude.{map, IsSome, IfSome}
use Rattle.std.specs.List.{list_all}
use Rattle.std.proofs.lemmas.List.{drop_more}
use Rattle.proof_form.proofs.RunLaws.{both_hold}
use Rattle.proof_names.specs.Options.{with_first, all_some}

-- values in front of others, if these are there
abbrev pub with_front : {X : Type 0} → List X → Option (List X) → Option (List X)
with_front xs None = None
with_front xs (Some ys) = Some (xs ++ ys)

-- the values of the first members were found
pub record Found {X Y : Type 0} (f : X → Option Y) (xs : List X) (i : ℕ) (ys : List Y) : Type 0 where
  pub within : i ≤ length xs
  pub all : all_some (map f xs) ≡ with_front ys (all_some (map f (drop i xs)))

front_more : {X : Type 0} (xs : List X) (x : X) (o : Option (List X)) → with_front xs (with_first (Some x) o) ≡ with_front (xs ++ x ∷ []) o
front_more xs x None = refl
front_more xs x (Some ys) = ap Some (sym (append_assoc xs (x ∷ []) ys))

next_is : {X Y : Type 0} (f : X → Option Y) (xs : List X) (i : ℕ) (x : X) → i < length xs → x ≡ get_or xs i x →
    all_some (map f (drop i xs)) ≡ with_first (f x) (all_some (map f (drop (i + 1) xs)))
next_is f xs i x l e =
    ap (λ zs. all_some (map f zs)) (drop_more xs i x l) ∙ ap (λ z. with_first (f z) (all_some (map f (drop (i + 1) xs)))) (sym e)

pub found_on : {X Y : Type 0} (f : X → Option Y) (xs : List X) (i : ℕ) (ys more : List Y) (x : X) (y : Y) → Found f xs i ys → i < length xs →
    x ≡ get_or xs i x → f x ≡ Some y → more ≡ ys ++ y ∷ [] → Found f xs (i + 1) more
found_on f xs i ys more x y h l e s m = record {
  within = omega arith;
  all =
      h.all ∙ ap (λ o. with_front ys o) (next_is f xs i x l e) ∙ ap (λ o. with_front ys (with_first o (all_some (map f (drop (i + 1) xs))))) s ∙
      front_more ys y (all_some (map f (drop (i + 1) xs))) ∙ ap (λ zs. with_front zs (all_some (map f (drop (i + 1) xs)))) (sym m);
}

-- the first value and the others
pub record Front {X : Type 0} (o : Option X) (os : Option (List X)) (zs : List X) : Type 0 where
  pub first : X
  pub rest : List X
  pub is : o ≡ Some first
  pub others : os ≡ Some rest
  pub joined : zs ≡ first ∷ rest

pub front_of : {X : Type 0} (o : Option X) (os : Option (List X)) (zs : List X) → with_first o os ≡ Some zs → Front o os zs
front_of None os zs e = absurd (cc)
front_of (Some x) None zs e = absurd (cc)
front_of (Some x) (Some xs) zs e = record { first = x; rest = xs; is = refl; others = refl; joined = cc }

-- the values of the first members and those of the others
pub record Parted {X Y : Type 0} (f : X → Option Y) (xs ys : List X) (zs : List Y) : Type 0 where
  pub front : List Y
  pub rest : List Y
  pub first : all_some (map f xs) ≡ Some front
  pub others : all_some (map f ys) ≡ Some rest
  pub joined : zs ≡ front ++ rest

pub parted : {X Y : Type 0} (f : X → Option Y) (xs ys : List X) (zs : List Y) → all_some (map f (xs ++ ys)) ≡ Some zs → Parted f xs ys zs
parted f [] ys zs e = record { front = []; rest = zs; first = refl; others = e; joined = refl }
parted f (x ∷ xs) ys zs e =
    let h = front_of (f x) (all_some (map f (xs ++ ys))) zs e in
    let p = parted f xs ys h.rest h.others in
    record {
      front = h.first ∷ p.front;
      rest = p.rest;
      first = ap (λ o. with_first o (all_some (map f xs))) h.is ∙ ap (with_first (Some h.first)) p.first;
      others = p.others;
      joined = h.joined ∙ ap (λ l. h.first ∷ l) p.joined;
    }

-- a test that all members pass is passed by each
pub passes_at : {X : Type 0} (p : X → Bool) (xs : List X) (i : ℕ) (x : X) → list_all p xs ≡ true → i < length xs → x ≡ get_or xs i x → p x ≡ true
passes_at p [] i x h l e = absurd (omega arith)
passes_at p (y ∷ ys) zero x h l e = ap p e ∙ (both_hold (p y) (list_all p ys) h).0
passes_at p (y ∷ ys) (suc i) x h l e = passes_at p ys i x (both_hold (p y) (list_all p ys) h).1 (omega arith) e

pub mapped_twice : {X Y Z : Type 0} (f : Y → Z) (h : X → Y) (xs : List X) → map f (map h xs) ≡ map (λ x. f (h x)) xs
mapped_twice f h [] = refl
mapped_twice f h (x ∷ xs) = ap (λ ys. f (h x) ∷ ys) (mapped_twice f h xs)

-- a value that is there exactly where a fact holds
pub found_where : {X : Type 0} (P : Type 0) (r : Option X) (x : X) → P → (IsSome r ↔ P) → IfSome r (λ y. y ≡ x) → r ≡ Some x
found_where P None x p h v = absurd (let k = h.1 p in cc)
found_where P (Some y) x p h v = ap Some v

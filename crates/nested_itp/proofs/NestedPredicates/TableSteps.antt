-- Lists that are made member by member.
use Rattle.std.proofs.Common.{◌≡◌, ◌∙◌, ℕ, zero, suc, ◌+◌, ◌<◌, ℤ, Bool, true, false, List, [], ◌∷◌, ◌++◌, length, map, take, drop, get_or, append_assoc, Option, Some, refl, sym, ap, subst, arith}
use Rattle.std.specs.Prelude.{nat_eq, slice_index, if◌then◌else◌}
use Rattle.std.specs.List.{AllByRecursion}
use Rattle.std.proofs.lemmas.List.{map-append, map_more, drop_more}
use Rattle.nested_itp.specs.NestedPredicates.Runnings.{parts_at}

pub all_at : {X : Type 0} (P : X → Type 0) (xs : List X) (i : ℕ) (x : X) → i < length xs → x ≡ get_or xs i x → AllByRecursion P xs → P x
all_at P [] i x l e h = absurd (omega (arith, l))
all_at P (y ∷ ys) zero x l e h = subst P (sym e) h.0
all_at P (y ∷ ys) (suc i) x l e h = all_at P ys i x (omega (arith, l)) e h.1

-- what is found in each member so far, and in the next one
pub found_next : {X Y : Type 0} (f : X → Option Y) (xs : List X) (i : ℕ) (d : X) (old new : List Y) (y : Y) → i < length xs → map Some old ≡ map f (take i xs) → new ≡ old ++ y ∷ [] →
    f (get_or xs i d) ≡ Some y → map Some new ≡ map f (take (i + 1) xs)
found_next {X} {Y} f xs i d old new y l h e g =
    ap (λ (ys : List Y). map Some ys) e ∙ map-append Some old (y ∷ []) ∙ ap (λ (os : List (Option Y)). os ++ Some y ∷ []) h ∙
    ap (λ (o : Option Y). map f (take i xs) ++ o ∷ []) (sym g) ∙ sym (map_more f xs i d l)

-- the parts with a stamp so far, with the next one where it has it
pub parts_next : (stamps : List ℕ) (s : ℕ) (parts : List (ℕ × ℤ)) (i : ℕ) (d : ℕ × ℤ) (old new : List (ℕ × ℤ)) → i < length parts →
    new ≡ (if nat_eq (slice_index stamps (get_or parts i d).0) s then old ++ get_or parts i d ∷ [] else old) → old ++ parts_at stamps s (drop i parts) ≡ parts_at stamps s parts →
    new ++ parts_at stamps s (drop (i + 1) parts) ≡ parts_at stamps s parts
parts_next stamps s parts i d old new l e h =
    ap (λ (ps : List (ℕ × ℤ)). ps ++ parts_at stamps s (drop (i + 1) parts)) e ∙ by_test (nat_eq (slice_index stamps (get_or parts i d).0) s) ∙
    sym (ap (λ (ps : List (ℕ × ℤ)). old ++ parts_at stamps s ps) (drop_more parts i d l)) ∙ h
  where
    by_test : (b : Bool) →
        (if b then old ++ get_or parts i d ∷ [] else old) ++ parts_at stamps s (drop (i + 1) parts) ≡
        old ++ (if b then get_or parts i d ∷ parts_at stamps s (drop (i + 1) parts) else parts_at stamps s (drop (i + 1) parts))
    by_test true = append_assoc old (get_or parts i d ∷ []) (parts_at stamps s (drop (i + 1) parts))
    by_test false = refl

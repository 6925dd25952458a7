-- Values that are found one after another: at the start, at a member without one, and at the end.
use Rattle.std.proofs.Common.{◌≡◌, ◌∙◌, ℕ, ◌+◌, ◌<◌, ◌≤◌, List, [], length, drop, get_or, Option, None, Some, refl, sym, ap, arith}
use Rattle.std.specs.Prelude.{map}
use Rattle.std.proofs.lemmas.List.{drop_all, drop_more, append-nil}
use Rattle.proof_names.specs.Options.{with_first, all_some}
use Rattle.proof_names.proofs.AllLaws.{with_front, Found}

nothing_in_front : {X : Type 0} (o : Option (List X)) → o ≡ with_front [] o
nothing_in_front None = refl
nothing_in_front (Some xs) = refl

pub found_start : {X Y : Type 0} (f : X → Option Y) (xs : List X) (ys : List Y) → ys ≡ [] → Found f xs 0 ys
found_start f xs ys e = record {
  within = omega arith;
  all = nothing_in_front (all_some (map f xs)) ∙ ap (λ zs. with_front zs (all_some (map f xs))) (sym e);
}

pub found_none : {X Y : Type 0} (f : X → Option Y) (xs : List X) (i : ℕ) (ys : List Y) (x : X) → Found f xs i ys → i < length xs → x ≡ get_or xs i x →
    None ≡ f x → None ≡ all_some (map f xs)
found_none f xs i ys x h l e n =
    sym (h.all ∙ ap (λ zs. with_front ys (all_some (map f zs))) (drop_more xs i x l) ∙
    ap (λ z. with_front ys (with_first (f z) (all_some (map f (drop (i + 1) xs))))) (sym e) ∙
    ap (λ o. with_front ys (with_first o (all_some (map f (drop (i + 1) xs))))) (sym n))

pub found_end : {X Y : Type 0} (f : X → Option Y) (xs : List X) (i : ℕ) (ys : List Y) → Found f xs i ys → length xs ≤ i → Some ys ≡ all_some (map f xs)
found_end f xs i ys h l =
    sym (h.all ∙ ap (λ zs. with_front ys (all_some (map f zs))) (drop_all i xs l) ∙ ap Some (append-nil ys))

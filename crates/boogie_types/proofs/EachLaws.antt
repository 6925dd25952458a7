-- Lists that are made member by member.
use Rattle.std.proofs.Common.{◌≡◌, ℕ, ◌<◌, List, [], ◌∷◌, ◌++◌, map, length, drop, ◌+◌, get_or, Option, None, Some, refl, ap, sym, ◌∙◌, append_assoc, append-nil}
use Rattle.std.specs.Prelude.{option_and_then}
use Rattle.std.specs.Option.{option_map}
use Rattle.std.proofs.lemmas.List.{drop_more, map-append}
use Rattle.boogie_types.specs.Ties.Making.{made}
use Rattle.boogie_types.specs.Naming.{each}

-- one member more is made
pub made_step : {X Y : Type 0} (f : X → Option Y) (x : X) (y : Y) (xs : List X) (done : List Y) → f x ≡ Some y →
    made done (each f (x ∷ xs)) ≡ made (done ++ y ∷ []) (each f xs)
made_step {X} {Y} f x y xs done e =
    ap (λ o. made done (option_and_then (λ y. option_map (λ ys. y ∷ ys) (each f xs)) o)) e ∙ both_ways (each f xs)
  where
    both_ways : (o : Option (List Y)) → made done (option_map (λ ys. y ∷ ys) o) ≡ made (done ++ y ∷ []) o
    both_ways None = refl
    both_ways (Some ys) = ap (λ (zs : List Y). Some zs) (sym (append_assoc done (y ∷ []) ys))

-- nothing is left to be made
pub made_all : {Y : Type 0} (done : List Y) → made done (Some []) ≡ Some done
made_all done = ap (λ ys. Some ys) (append-nil done)

-- the same as a loop over the members goes on
pub loop_made : {X Y C D : Type 0} (f : X → Option Y) (before : C → X) (after : D → Y) (xs : List C) (i : ℕ) (x : C) (y : D) (done new : List D) (whole : Option (List Y)) →
    i < length xs → x ≡ get_or xs i x → f (before x) ≡ Some (after y) → new ≡ done ++ y ∷ [] →
    made (map after done) (each f (map before (drop i xs))) ≡ whole → made (map after new) (each f (map before (drop (i + 1) xs))) ≡ whole
loop_made f before after xs i x y done new whole l h e n w =
    ap (λ ys. made (map after ys) (each f (map before (drop (i + 1) xs)))) n
    ∙ ap (λ ys. made ys (each f (map before (drop (i + 1) xs)))) (map-append after done (y ∷ []))
    ∙ sym (made_step f (before x) (after y) (map before (drop (i + 1) xs)) (map after done) e)
    ∙ ap (λ z. made (map after done) (each f (before z ∷ map before (drop (i + 1) xs)))) h
    ∙ ap (λ zs. made (map after done) (each f (map before zs))) (sym (drop_more xs i x l)) ∙ w

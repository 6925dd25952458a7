-- What the letters behind a place say of a call there.
use Rattle.std.proofs.Common.{◌≡◌, ◌∙◌, ℕ, ◌+◌, ◌-◌, ◌<◌, Bool, List, [], ◌∷◌, ◌++◌, length, drop, take, sym, ap}
use Rattle.std.proofs.lemmas.List.{append_assoc, drop_more, take_rest}
use Rattle.nwa_base.specs.declared.letters.Letter.{Letter}
use Rattle.nwa_base.specs.declared.letters.Kind.TheVariants.{Inside}
use Rattle.nested_itp.specs.NestedPredicates.Positions.{has_return}
use Rattle.nested_itp.specs.NestedPredicates.Walking.{return_tests}

pub tests_next : (w : List Letter) (i : ℕ) (now new : List Bool) (t : Bool) → i < length w → t ≡ has_return 0 (take (length w - (i + 1)) (drop (i + 1) w)) → new ≡ now ++ t ∷ [] →
    now ++ return_tests (drop i w) ≡ return_tests w → new ++ return_tests (drop (i + 1) w) ≡ return_tests w
tests_next w i now new t l a b h =
    let d : Letter = record { id = 0; kind = Inside; call = 0 } in
    let rest : List Bool = return_tests (drop (i + 1) w) in
    let next : return_tests (drop i w) ≡ t ∷ rest = ap return_tests (drop_more w i d l) ∙ ap (λ (x : Bool). x ∷ rest) (sym (a ∙ ap (has_return 0) (take_rest w (i + 1)))) in
    ap (λ (xs : List Bool). xs ++ rest) b ∙ append_assoc now (t ∷ []) rest ∙ ap (λ (xs : List Bool). now ++ xs) (sym next) ∙ h

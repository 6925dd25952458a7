-- Lists that are made of a list that is taken apart, element by element.
use Rattle.std.proofs.Common.{◌≡◌, ◌∙◌, List, [], ◌∷◌, ◌++◌, map, sym, ap, append_assoc}
use Rattle.std.proofs.lemmas.List.{map-append, append-nil}

module _ {W X Y Z : Type 0} (f : Y → Z) (g : X → Z) (h : W → X) where
  pub taken_on : (done new : List Y) (y : Y) (w : W) (rest was : List W) (whole : List Z) → was ≡ w ∷ rest → new ≡ done ++ y ∷ [] → f y ≡ g (h w) → map f done ++ map g (map h was) ≡ whole →
      map f new ++ map g (map h rest) ≡ whole
  taken_on done new y w rest was whole t n e k =
      ap (λ (ys : List Y). map f ys ++ map g (map h rest)) n ∙ ap (λ (zs : List Z). zs ++ map g (map h rest)) (map-append f done (y ∷ [])) ∙
      append_assoc (map f done) (f y ∷ []) (map g (map h rest)) ∙ ap (λ (z : Z). map f done ++ z ∷ map g (map h rest)) e ∙
      ap (λ (ws : List W). map f done ++ map g (map h ws)) (sym t) ∙ k

  pub taken_all : (done : List Y) (rest : List W) (whole : List Z) → rest ≡ [] → map f done ++ map g (map h rest) ≡ whole → map f done ≡ whole
  taken_all done rest whole e k = sym (append-nil (map f done)) ∙ ap (λ (ws : List W). map f done ++ map g (map h ws)) (sym e) ∙ k

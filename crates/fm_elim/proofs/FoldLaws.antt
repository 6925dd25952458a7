-- The numbers of a fold, step by step.
use Rattle.std.proofs.Common.{◌≡◌, ℕ, zero, suc, ◌+◌, ◌<◌, List, [], ◌∷◌, ◌++◌, length, take, get_or, sym, ap, ◌∙◌, subst, arith}
use Rattle.std.specs.List.{fold}
use Rattle.std.proofs.lemmas.List.{take_more}
use Rattle.std.proofs.lemmas.List.Sums.{fold-append}
use Rattle.fm_elim.specs.Folds.{FoldFits}

-- the value after one more member
pub fold_more : {A B : Type 0} (f : B → A → B) (b : B) (xs : List A) (i : ℕ) (d : A) → i < length xs → fold f b (take (i + 1) xs) ≡ f (fold f b (take i xs)) (get_or xs i d)
fold_more f b xs i d l = ap (λ ys. fold f b ys) (take_more xs i d l) ∙ fold-append f b (take i xs) (get_or xs i d ∷ [])

fits_append : {A B : Type 0} (f : B → A → B) (P : B → A → Type 0) (b : B) (xs ys : List A) → FoldFits f P b xs → FoldFits f P (fold f b xs) ys → FoldFits f P b (xs ++ ys)
fits_append f P b [] ys h k = k
fits_append f P b (x ∷ xs) ys h k = (h.0, fits_append f P (f b x) xs ys h.1 k)

-- its numbers fit too
pub fits_more : {A B : Type 0} (f : B → A → B) (P : B → A → Type 0) (b : B) (xs : List A) (i : ℕ) (d : A) → i < length xs →
    FoldFits f P b (take i xs) → P (fold f b (take i xs)) (get_or xs i d) → FoldFits f P b (take (i + 1) xs)
fits_more {A = A} f P b xs i d l h k =
    subst (λ (ys : List A). FoldFits f P b ys) (sym (take_more xs i d l)) (fits_append f P b (take i xs) (get_or xs i d ∷ []) h (k, tt))

-- where all numbers fit, those of one step do
pub fits_step : {A B : Type 0} (f : B → A → B) (P : B → A → Type 0) (b : B) (xs : List A) (i : ℕ) (d : A) → i < length xs →
    FoldFits f P b xs → P (fold f b (take i xs)) (get_or xs i d)
fits_step f P b [] i d l h = absurd (omega arith)
fits_step f P b (x ∷ xs) zero d l h = h.0
fits_step f P b (x ∷ xs) (suc i) d l h = fits_step f P (f b x) xs i d (omega arith) h.1

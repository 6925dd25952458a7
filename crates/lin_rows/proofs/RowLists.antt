-- Lists of rows that all have a property.
use Rattle.std.proofs.Common.{◌≡◌, ◌∙◌, ℕ, zero, suc, ◌+◌, ◌<◌, List, [], ◌∷◌, ◌++◌, length, take, get_or, ap, sym, subst, arith}
use Rattle.std.specs.List.{AllByRecursion}
use Rattle.std.proofs.lemmas.List.{take_more}
use Rattle.lin_rows.specs.Rows.{LinearRow}

-- with a row more at the end
pub all_pushed : (P : LinearRow → Type 0) (rows : List LinearRow) (r : LinearRow) → AllByRecursion P rows → P r → AllByRecursion P (rows ++ r ∷ [])
all_pushed P [] r h k = (k, tt)
all_pushed P (x ∷ xs) r h k = (h.0, all_pushed P xs r h.1 k)

-- the first ones, and the next
pub all_taken : (P : LinearRow → Type 0) (rows : List LinearRow) (i : ℕ) (r : LinearRow) → i < length rows → r ≡ get_or rows i r → AllByRecursion P (take i rows) → P r →
    AllByRecursion P (take (i + 1) rows)
all_taken P rows i r l e h k =
    subst (AllByRecursion P) (sym (take_more rows i r l)) (all_pushed P (take i rows) (get_or rows i r) h (subst P e k))

-- one of them
pub all_at : (P : LinearRow → Type 0) (rows : List LinearRow) (i : ℕ) (r : LinearRow) → i < length rows → r ≡ get_or rows i r → AllByRecursion P rows → P r
all_at P [] i r l e h = absurd (omega arith)
all_at P (x ∷ xs) zero r l e h = subst P (sym e) h.0
all_at P (x ∷ xs) (suc i) r l e h = all_at P xs i r (omega arith) e h.1

-- the copies of the first ones, with a copy of the next
pub copied_next : (rows copies new : List LinearRow) (i : ℕ) (r copy : LinearRow) → i < length rows → r ≡ get_or rows i r → copy ≡ r → new ≡ copies ++ copy ∷ [] →
    copies ≡ take i rows → new ≡ take (i + 1) rows
copied_next rows copies new i r copy l e s n t =
    n ∙ ap (λ (rs : List LinearRow). rs ++ copy ∷ []) t ∙ ap (λ (x : LinearRow). take i rows ++ x ∷ []) (s ∙ e) ∙ sym (take_more rows i r l)

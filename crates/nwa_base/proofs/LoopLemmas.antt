-- Loops that add, for one pair after another, what it leads to.
use Rattle.std.proofs.Common.{◌≡◌, ◌∙◌, ◌<◌, ◌≤◌, ◌+◌, ℕ, Bool, true, false, cond, eqb, List, [], ◌∷◌, ◌++◌, length, take, drop, get_or, refl, sym, ap, append_assoc}
use Rattle.std.proofs.lemmas.List.{append-nil, drop_more, drop_all, take_more, take_all}
use Rattle.nwa_base.specs.Ties.Reading.{keyed, expanded, seconds}

-- nothing was added yet, and all pairs are left
pub expanded_none : (key : ℕ × ℕ → ℕ) (to : ℕ × ℕ → List ℕ) (s old : List (ℕ × ℕ)) → old ≡ [] → old ++ expanded key to s ≡ expanded key to s
expanded_none key to s old e = ap (λ (xs : List (ℕ × ℕ)). xs ++ expanded key to s) e

-- what is left to be added after all pairs is nothing
pub expanded_all : (key : ℕ × ℕ → ℕ) (to : ℕ × ℕ → List ℕ) (s : List (ℕ × ℕ)) (i : ℕ) (old all : List (ℕ × ℕ)) → length s ≤ i →
    old ++ expanded key to (drop i s) ≡ all → old ≡ all
expanded_all key to s i old all l h =
    sym (append-nil old) ∙ ap (λ (r : List (ℕ × ℕ)). old ++ expanded key to r) (sym (drop_all i s l)) ∙ h

-- what the next pair leads to was added
pub expanded_more : (key : ℕ × ℕ → ℕ) (to : ℕ × ℕ → List ℕ) (s : List (ℕ × ℕ)) (i : ℕ) (d : ℕ × ℕ) (ends : List ℕ) (old new all : List (ℕ × ℕ)) →
    i < length s → ends ≡ to (get_or s i d) → old ++ expanded key to (drop i s) ≡ all → new ≡ old ++ keyed (key (get_or s i d)) ends →
    new ++ expanded key to (drop (i + 1) s) ≡ all
expanded_more key to s i d ends old new all l t h e =
    let rest = expanded key to (drop (i + 1) s) in
    let k = key (get_or s i d) in
    ap (λ (xs : List (ℕ × ℕ)). xs ++ rest) e ∙ append_assoc old (keyed k ends) rest ∙
    ap (λ (xs : List ℕ). old ++ (keyed k xs ++ rest)) t ∙
    ap (λ (r : List (ℕ × ℕ)). old ++ expanded key to r) (sym (drop_more s i d l)) ∙ h

-- the next of the ends was added
pub keyed_more : (key : ℕ) (to : List ℕ) (i d : ℕ) (old new all : List (ℕ × ℕ)) → i < length to →
    old ++ keyed key (drop i to) ≡ all → new ≡ old ++ (key, get_or to i d) ∷ [] → new ++ keyed key (drop (i + 1) to) ≡ all
keyed_more key to i d old new all l h e =
    let rest = keyed key (drop (i + 1) to) in
    ap (λ (xs : List (ℕ × ℕ)). xs ++ rest) e ∙ append_assoc old ((key, get_or to i d) ∷ []) rest ∙
    ap (λ (r : List ℕ). old ++ keyed key r) (sym (drop_more to i d l)) ∙ h

pub keyed_all : (key : ℕ) (to : List ℕ) (i : ℕ) (old all : List (ℕ × ℕ)) → length to ≤ i → old ++ keyed key (drop i to) ≡ all → old ≡ all
keyed_all key to i old all l h =
    sym (append-nil old) ∙ ap (λ (r : List ℕ). old ++ keyed key r) (sym (drop_all i to l)) ∙ h

grown_by : (b : Bool) (x : ℕ × ℕ) (rest : List (ℕ × ℕ)) (old : List ℕ) (p : ℕ) → eqb x.0 p ≡ b →
    cond (eqb x.0 p) (old ++ x.1 ∷ []) old ++ seconds p rest ≡ old ++ seconds p (x ∷ rest)
grown_by true x rest old p e = rw e (append_assoc old (x.1 ∷ []) (seconds p rest))
grown_by false x rest old p e = rw e

-- the next pair was put into its group
pub seconds_more : (s : List (ℕ × ℕ)) (i : ℕ) (d : ℕ × ℕ) (p : ℕ) (old new all : List ℕ) → i < length s → old ++ seconds p (drop i s) ≡ all →
    new ≡ cond (eqb (get_or s i d).0 p) (old ++ (get_or s i d).1 ∷ []) old → new ++ seconds p (drop (i + 1) s) ≡ all
seconds_more s i d p old new all l h e =
    let rest = drop (i + 1) s in
    ap (λ (xs : List ℕ). xs ++ seconds p rest) e ∙ grown_by (eqb (get_or s i d).0 p) (get_or s i d) rest old p refl ∙
    ap (λ (r : List (ℕ × ℕ)). old ++ seconds p r) (sym (drop_more s i d l)) ∙ h

pub seconds_all : (s : List (ℕ × ℕ)) (i p : ℕ) (old all : List ℕ) → length s ≤ i → old ++ seconds p (drop i s) ≡ all → old ≡ all
seconds_all s i p old all l h =
    sym (append-nil old) ∙ ap (λ (r : List (ℕ × ℕ)). old ++ seconds p r) (sym (drop_all i s l)) ∙ h

-- nothing was added yet
pub added_none : {X : Type 0} (old : List X) → old ≡ old ++ []
added_none old = sym (append-nil old)

-- the next of a list was added at the end
pub added_more : {X : Type 0} (xs : List X) (i : ℕ) (d : X) (begin old new : List X) → i < length xs → old ≡ begin ++ take i xs →
    new ≡ old ++ get_or xs i d ∷ [] → new ≡ begin ++ take (i + 1) xs
added_more xs i d begin old new l h e =
    e ∙ ap (λ (zs : List _). zs ++ get_or xs i d ∷ []) h ∙ append_assoc begin (take i xs) (get_or xs i d ∷ []) ∙
    ap (λ (zs : List _). begin ++ zs) (sym (take_more xs i d l))

pub added_all : {X : Type 0} (xs : List X) (i : ℕ) (begin new : List X) → length xs ≤ i → new ≡ begin ++ take i xs → new ≡ begin ++ xs
added_all xs i begin new l h = h ∙ ap (λ (zs : List _). begin ++ zs) (take_all i xs l)

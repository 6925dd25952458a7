-- Numbers of names among variables, and among the first of them.
use Rattle.std.proofs.Common.{◌≡◌, ℕ, zero, suc, ◌+◌, ◌<◌, ◌≤◌, Bool, true, false, cond, List, [], ◌∷◌, length, take, Option, None, Some, nat_lt, if◌then◌else◌, refl, ap, sym, ◌∙◌, arith}
use Rattle.std.proofs.lemmas.Grind.{common_steps}
use Rattle.std.specs.List.{position_from}
use Rattle.std.specs.Str.{bytes_eq}
use Rattle.std.proofs.lemmas.Bool.{false≢true}
use Rattle.boogie_tree.specs.declared.tree.VarInfo.{VarInfo}
use Rattle.boogie_types.specs.Meanings.{number_from}
use Rattle.boogie_types.specs.Ties.Numbers.{info_names, number_of_name, if_below}

-- the number of a variable is the place of its name
number_is_position : (i : ℕ) (name : List ℕ) (vs : List VarInfo) → number_from i name vs ≡ position_from (bytes_eq name) i (info_names vs)
number_is_position i name [] = refl
number_is_position i name (v ∷ vs) = ap (cond (bytes_eq name v.name) (Some i)) (number_is_position (i + 1) name vs)

pub number_is_place : (name : List ℕ) (vs : List VarInfo) → number_from 0 name vs ≡ number_of_name (info_names vs) name
number_is_place name vs = number_is_position 0 name vs

-- ---- places among the first

pub position_at_least : {X : Type 0} (t : X → Bool) (i : ℕ) (xs : List X) (n : ℕ) → position_from t i xs ≡ Some n → i ≤ n
position_at_least t i [] n e = absurd (false≢true (let x : false ≡ true = cc in x))
position_at_least t i (x ∷ xs) n e = by_head (t x) e (λ f. position_at_least t (i + 1) xs n f)
  where
    by_head : (b : Bool) → cond b (Some i) (position_from t (i + 1) xs) ≡ Some n →
        (position_from t (i + 1) xs ≡ Some n → i + 1 ≤ n) → i ≤ n
    by_head true e rest = let m : i ≡ n = cc in omega arith
    by_head false e rest = omega (arith, rest e)

none_below : (b : ℕ) (o : Option ℕ) → ((n : ℕ) → o ≡ Some n → b ≤ n) → if_below b o ≡ None
none_below b None h = refl
none_below b (Some n) h = let l = h n refl in let f : nat_lt n b ≡ false = grind (arith, common_steps) in ap (λ (v : Bool). if v then Some n else None) f

position-take : {X : Type 0} (t : X → Bool) (i k : ℕ) (xs : List X) → position_from t i (take k xs) ≡ if_below (i + k) (position_from t i xs)
position-take t i zero xs = sym (none_below (i + 0) (position_from t i xs) (λ n e. let l = position_at_least t i xs n e in omega arith))
position-take t i (suc k) [] = refl
position-take t i (suc k) (x ∷ xs) = by_head (t x) (position-take t (i + 1) k xs)
  where
    by_head : (b : Bool) → position_from t (i + 1) (take k xs) ≡ if_below ((i + 1) + k) (position_from t (i + 1) xs) →
        cond b (Some i) (position_from t (i + 1) (take k xs)) ≡ if_below (i + suc k) (cond b (Some i) (position_from t (i + 1) xs))
    by_head true h = let l : i < i + suc k = omega arith in let f : nat_lt i (i + suc k) ≡ true = grind (arith, common_steps) in ap (λ (v : Bool). if v then Some i else None) (sym f)
    by_head false h = let e : (i + 1) + k ≡ i + suc k = omega arith in h ∙ ap (λ (b : ℕ). if_below b (position_from t (i + 1) xs)) e

-- the number of a variable among the first of all
pub seen_number : (all : List (List ℕ)) (vs : List VarInfo) (name : List ℕ) → take (length vs) all ≡ info_names vs →
    number_from 0 name vs ≡ if_below (length vs) (number_of_name all name)
seen_number all vs name e =
    number_is_place name vs ∙ ap (λ (names : List (List ℕ)). number_of_name names name) (sym e)
    ∙ position-take (bytes_eq name) 0 (length vs) all ∙ ap (λ (b : ℕ). if_below b (number_of_name all name)) (omega arith)

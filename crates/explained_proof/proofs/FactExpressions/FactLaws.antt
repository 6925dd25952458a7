-- Facts gathered from lists of predicates, and rows along a list.
use Rattle.std.proofs.Common.{◌≡◌, ◌∙◌, ℕ, suc, ◌+◌, ◌<◌, Bool, true, false, cond, map, List, [], ◌∷◌, ◌++◌, length, take, drop, get_or, refl, sym, ap, arith}
use Rattle.std.specs.Prelude.{slice_set, filter}
use Rattle.std.specs.Borrow.{Bor}
use Rattle.lin_rows.specs.Rows.{LinearRow}
use Rattle.std.proofs.lemmas.List.{take-append-drop, set_split, map-append, drop_more, append-nil}
use Rattle.explained_proof.proofs.RowExpressions.LoopLaws.{filter_kept, filter_dropped}
use Rattle.triple_rows.specs.declared.predicates.PredNode.{PredNode}
use Rattle.triple_rows.specs.declared.predicates.PredNode.TheVariants.{And}
use Rattle.triple_rows.specs.Predicates.{Formula, bundled, formulas}
use Rattle.explained_proof.specs.FactExpressions.Facts.{Facts, gathered, all_gathered, facts_from, lesser, with_row}
use Rattle.explained_proof.specs.FactExpressions.Trees.{same_terms}
use Rattle.explained_proof.specs.FactExpressions.Views.{rows}

all_from : (fs : List Formula) (c : Facts) → all_gathered (bundled fs) c ≡ facts_from fs c
all_from [] c = refl
all_from (f ∷ fs) c = all_from fs (gathered f c)

facts_from-append : (fs gs : List Formula) (c : Facts) → facts_from gs (facts_from fs c) ≡ facts_from (fs ++ gs) c
facts_from-append [] gs c = refl
facts_from-append (f ∷ fs) gs c = facts_from-append fs gs (gathered f c)

-- the parts of an `and` stand beside the predicates behind it
pub and_parts : (p : ℕ) (ns : List PredNode) (c : Facts) → facts_from (formulas ns) c ≡ facts_from (formulas (And p ∷ ns)) c
and_parts p ns c =
    let F = formulas ns in
    ap (λ fs. facts_from fs c) (sym (take-append-drop p F)) ∙ sym (facts_from-append (take p F) (drop p F) c) ∙ ap (facts_from (drop p F)) (sym (all_from (take p F) c))

row_here : (r s : LinearRow) (rs : List LinearRow) → same_terms s r ≡ true → with_row r (s ∷ rs) ≡ lesser r s ∷ rs
row_here r s rs h = rw h refl

-- a row that stands in the place of one with its terms
pub row_set : (r : LinearRow) (xs : List (Bor LinearRow)) (n : ℕ) (s x : Bor LinearRow) → n < length xs → s ≡ get_or xs n s → same_terms s.now r ≡ true → x.now ≡ lesser r s.now →
    with_row r (rows xs) ≡ rows (take n xs) ++ with_row r (rows (drop n xs)) → rows (slice_set xs n x) ≡ with_row r (rows xs)
row_set r xs n s x l e h k v =
    let q : suc n ≡ n + 1 = omega arith in
    ap rows (set_split xs n x l) ∙ map-append (λ (y : Bor LinearRow). y.now) (take n xs) (x ∷ drop (suc n) xs) ∙
    ap (λ m. rows (take n xs) ++ (x.now ∷ rows (drop m xs))) q ∙ ap (λ y. rows (take n xs) ++ (y ∷ rows (drop (n + 1) xs))) k ∙
    ap (λ ys. rows (take n xs) ++ ys) (sym (row_here r s.now (rows (drop (n + 1) xs)) h)) ∙
    ap (λ ys. rows (take n xs) ++ with_row r (rows ys)) (ap (λ y. y ∷ drop (n + 1) xs) e ∙ sym (drop_more xs n s l)) ∙ sym v

-- one element more, where it passes
pub filter_next : {X Y : Type 0} (p : Y → Bool) (f : X → Y) (xs : List X) (i : ℕ) (d : X) (here : Bool) (now new : List Y) → i < length xs → d ≡ get_or xs i d → now ≡ filter p (map f (take i xs)) →
    here ≡ p (f d) → new ≡ now ++ cond here (f d ∷ []) [] → new ≡ filter p (map f (take (i + 1) xs))
filter_next p f xs i d true now new l e h b v =
    v ∙ ap (λ ys. ys ++ f d ∷ []) h ∙ ap (λ x. filter p (map f (take i xs)) ++ f x ∷ []) e ∙ sym (filter_kept p f xs i d l (ap (λ x. p (f x)) (sym e) ∙ sym b))
filter_next p f xs i d false now new l e h b v =
    v ∙ append-nil now ∙ h ∙ sym (filter_dropped p f xs i d l (ap (λ x. p (f x)) (sym e) ∙ sym b))

-- Facts that cover all, what predicates with cases say, and what is left of facts along a list.
use Rattle.std.proofs.Common.{◌≡◌, ◌≢◌, ◌∙◌, ℕ, zero, suc, ◌+◌, ◌-◌, ◌<◌, false, List, [], ◌∷◌, ◌++◌, map, length, take, drop, get_or, refl, sym, ap, arith}
use Rattle.std.specs.Prelude.{◌||◌}
use Rattle.std.specs.List.{flat_map}
use Rattle.std.proofs.lemmas.List.{take_more, drop_more, drop-map, map-append, append-nil}
use Rattle.std.proofs.lemmas.List.Concat.{flat_map-append}
use Rattle.triple_rows.specs.Predicates.{Formula}
use Rattle.explained_proof.specs.RowExpressions.Scopes.{ClauseScope}
use Rattle.explained_proof.specs.RowExpressions.Options.{passes}
use Rattle.explained_proof.specs.declared.fact_expressions.conjunctions.Conjunction.{Conjunction}
use Rattle.explained_proof.specs.BuiltExpressions.Members.{always}
use Rattle.explained_proof.specs.FactExpressions.Conclusions.{row_alone, covers_rest, first_is_covered, are_all, part_facts, alternatives_with, cases_said}
use Rattle.explained_proof.specs.FactExpressions.Disjunctions.{either_of_all}
use Rattle.explained_proof.specs.FactExpressions.Facts.{Facts}
use Rattle.explained_proof.specs.FactExpressions.Views.{facts}

-- the fact at a place is covered where those from there on cover its row
pub covered_at : (xs : List Conjunction) (n : ℕ) (d : Conjunction) → n < length xs → d ≡ get_or xs n d →
    passes (covers_rest (map facts (drop n xs))) (row_alone (facts d)) ≡ first_is_covered (drop n (map facts xs))
covered_at xs n d l h =
    let e : drop n xs ≡ d ∷ drop (n + 1) xs = drop_more xs n d l ∙ ap (λ x. x ∷ drop (n + 1) xs) (sym h) in
    ap (λ ys. passes (covers_rest (map facts ys)) (row_alone (facts d))) e ∙ ap (λ ys. first_is_covered (map facts ys)) (sym e) ∙ ap first_is_covered (sym (drop-map facts n xs))

-- the first of the facts from a place on is not covered
all_from_next : (ys : List Facts) (n : ℕ) (d : Facts) → n < length ys → first_is_covered (drop n ys) ≡ false → are_all (drop (n + 1) ys) ≡ are_all (drop n ys)
all_from_next ys n d l h =
    let e = drop_more ys n d l in
    let g : first_is_covered (get_or ys n d ∷ drop (n + 1) ys) ≡ false = ap first_is_covered (sym e) ∙ h in
    ap (λ b. b || are_all (drop (n + 1) ys)) (sym g) ∙ ap are_all (sym e)

pub all_next_place : (ys : List Facts) (n : ℕ) → n < length ys → first_is_covered (drop n ys) ≡ false → are_all (drop (n + 1) ys) ≡ are_all (drop n ys)
all_next_place [] n l h = absurd (omega (arith, l))
all_next_place (y ∷ ys) n l h = all_from_next (y ∷ ys) n y l h

-- what predicates with cases say where they stand in others, and where they are past the last of these
pub said_deeper : (n : ℕ) (s : ClauseScope) (f : Formula) → n ≢ 0 → cases_said n s f ≡ alternatives_with (cases_said (n - 1) s) s (either_of_all (part_facts f))
unfolding cases_said
said_deeper zero s f h = absurd (h refl)
said_deeper (suc n) s f h =
    let e : n ≡ suc n - 1 = omega arith in
    ap (λ k. alternatives_with (cases_said k s) s (either_of_all (part_facts f))) e

pub said_no_deeper : (n : ℕ) (s : ClauseScope) (f : Formula) → n ≡ 0 → cases_said n s f ≡ always
unfolding cases_said
said_no_deeper n s f h = ap (λ k. cases_said k s f) h

-- what the elements of a list give, along the list
pub flat_next : {X Y Z : Type 0} (g : Y → Z) (p : X → List Y) (xs : List X) (i : ℕ) (d : X) (now new : List Z) → i < length xs → d ≡ get_or xs i d → now ≡ map g (flat_map p (take i xs)) →
    new ≡ now ++ map g (p d) → new ≡ map g (flat_map p (take (i + 1) xs))
flat_next g p xs i d now new l h was e =
    let x = get_or xs i d in
    e ∙ ap (λ zs. zs ++ map g (p d)) was ∙ ap (λ y. map g (flat_map p (take i xs)) ++ map g (p y)) h ∙ sym (map-append g (flat_map p (take i xs)) (p x)) ∙
    ap (λ ys. map g (flat_map p (take i xs) ++ ys)) (sym (append-nil (p x))) ∙ ap (map g) (sym (flat_map-append p (take i xs) (x ∷ []))) ∙ ap (λ ys. map g (flat_map p ys)) (sym (take_more xs i d l))

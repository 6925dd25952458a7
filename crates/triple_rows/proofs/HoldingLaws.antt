-- Lists of whole trees read from the front: what is left, what all and one of the first say.
use Rattle.std.proofs.Common.{◌≡◌, ◌↔◌, ◌∙◌, ◌⊎◌, ℕ, zero, suc, ◌+◌, ◌<◌, ◌≤◌, Bool, true, false, ℤ, List, [], ◌∷◌, ◌++◌, length, length-append, take, drop, append_assoc, refl, sym, ap, subst, inl, inr, arith}
use Rattle.std.specs.Prelude.{◌&&◌, ◌||◌, Result, Ok, Err, OnErr}
use Rattle.std.specs.List.{AllByRecursion}
use Rattle.std.proofs.lemmas.List.{append-nil}
use Rattle.std.proofs.lemmas.Bool.{false≢true}
use Rattle.triple_rows.specs.declared.predicates.PredNode.{PredNode}
use Rattle.triple_rows.specs.declared.predicates.PredNode.TheVariants.{And, Or}
use Rattle.triple_rows.specs.Predicates.{Formula, Formulas, truth, atom, and_of, or_of, no_formula, one_more, FormulaHolds, AllHold, SomeHolds, IsOver, AreOver, formula_count, prefix_of, prefixes_of, bundled, formulas, first_formula, formula_of, SpellsPredicate}
use Rattle.triple_rows.specs.Reading.{AreComplete, IsRest, FormulaFits, FormulasFit}
use Rattle.triple_rows.proofs.FormulaLaws.{listed, formula_read, formulas_read, prefix_read}

-- ---- lists of formulas

pub take_next : (fs : List Formula) (i : ℕ) → i < length fs → take (suc i) fs ≡ take i fs ++ first_formula (drop i fs) ∷ []
take_next [] i l = absurd (omega arith)
take_next (f ∷ fs) zero l = refl
take_next (f ∷ fs) (suc i) l = ap (λ (xs : List Formula). f ∷ xs) (take_next fs i (omega arith))

drop_next : (fs : List Formula) (i : ℕ) → drop 1 (drop i fs) ≡ drop (suc i) fs
drop_next [] zero = refl
drop_next [] (suc i) = refl
drop_next (f ∷ fs) zero = refl
drop_next (f ∷ fs) (suc i) = drop_next fs i

over_from_parts : (n k : ℕ) (fs : List Formula) → AreOver n (bundled (take k fs)) → AllByRecursion (IsOver n) (drop k fs) → AllByRecursion (IsOver n) fs
over_from_parts n zero fs h g = g
over_from_parts n (suc k) [] h g = tt
over_from_parts n (suc k) (f ∷ fs) h g = (h.0, over_from_parts n k fs h.1 g)

-- ---- what is left

pub rest_next : (i : ℕ) (nodes left rest : List PredNode) → IsRest i nodes left → IsRest 1 left rest → IsRest (i + 1) nodes rest
rest_next i nodes left rest h k =
    let a = h.shorter in
    let b = k.shorter in
    record {
      trees = k.trees ∙ ap (drop 1) h.trees ∙ drop_next (formulas nodes) i ∙ ap (λ (n : ℕ). drop n (formulas nodes)) (let e : suc i ≡ i + 1 = omega arith in e);
      complete = k.complete;
      shorter = omega (arith, a, b);
    }

pub rest_first : (i : ℕ) (nodes left : List PredNode) → IsRest i nodes left → formula_of left ≡ first_formula (drop i (formulas nodes))
rest_first i nodes left h = ap first_formula h.trees

pub parts_over_and : (n k : ℕ) (ns : List PredNode) → AllByRecursion (IsOver n) (formulas (And k ∷ ns)) → AllByRecursion (IsOver n) (formulas ns)
parts_over_and n k ns h = over_from_parts n k (formulas ns) h.0 h.1

pub parts_over_or : (n k : ℕ) (ns : List PredNode) → AllByRecursion (IsOver n) (formulas (Or k ∷ ns)) → AllByRecursion (IsOver n) (formulas ns)
parts_over_or n k ns h = over_from_parts n k (formulas ns) h.0 h.1

-- ---- predicates are whole trees

listed_count : (fs : Formulas) → length (listed fs) ≡ formula_count fs
listed_count no_formula = refl
listed_count (one_more f fs) = ap suc (listed_count fs)

enough : (fs : Formulas) (ns : List PredNode) → formula_count fs ≤ length (formulas (prefixes_of fs ++ ns))
enough fs ns =
    let e = ap length (formulas_read fs ns) in
    let a = length-append (listed fs) (formulas ns) in
    let c = listed_count fs in
    omega (arith, e, a, c)

mutual
  complete_tree : (f : Formula) (ns : List PredNode) → AreComplete ns → AreComplete (prefix_of f ++ ns)
  complete_tree (truth b) ns h = h
  complete_tree (atom r) ns h = h
  complete_tree (and_of fs) ns h = (enough fs ns, complete_trees fs ns h)
  complete_tree (or_of fs) ns h = (enough fs ns, complete_trees fs ns h)

  complete_trees : (fs : Formulas) (ns : List PredNode) → AreComplete ns → AreComplete (prefixes_of fs ++ ns)
  complete_trees no_formula ns h = h
  complete_trees (one_more f fs) ns h =
      subst AreComplete (sym (append_assoc (prefix_of f) (prefixes_of fs) ns)) (complete_tree f (prefixes_of fs ++ ns) (complete_trees fs ns h))

-- the nodes of a predicate spell one tree, and each has its parts
pub record IsWhole (nodes : List PredNode) : Type 0 where
  pub one : formulas nodes ≡ formula_of nodes ∷ []
  pub complete : AreComplete nodes

pub predicate_is_whole : (nodes : List PredNode) → SpellsPredicate nodes → IsWhole nodes
predicate_is_whole nodes h = subst IsWhole h.1 (record {
  one = ap formulas (sym (append-nil (prefix_of h.0))) ∙ formula_read h.0 [] ∙ ap (λ (f : Formula). f ∷ []) (sym (prefix_read h.0));
  complete = subst AreComplete (append-nil (prefix_of h.0)) (complete_tree h.0 [] tt);
})

pub whole_over : (n : ℕ) (nodes : List PredNode) → IsWhole nodes → IsOver n (formula_of nodes) → AllByRecursion (IsOver n) (formulas nodes)
whole_over n nodes h o = subst (AllByRecursion (IsOver n)) (sym h.one) (o, tt)

-- ---- all and one of the first trees

all_more : (point : ℕ → ℤ) (xs : List Formula) (f : Formula) → AllHold point (bundled (xs ++ f ∷ [])) ↔ (AllHold point (bundled xs) × FormulaHolds point f)
all_more point [] f = (λ h. (tt, h.0), λ h. (h.1, tt))
all_more point (x ∷ xs) f =
    let r = all_more point xs f in
    (λ h. ((h.0, (r.0 h.1).0), (r.0 h.1).1), λ h. (h.0.0, r.1 (h.0.1, h.1)))

some_more : (point : ℕ → ℤ) (xs : List Formula) (f : Formula) → SomeHolds point (bundled (xs ++ f ∷ [])) ↔ (SomeHolds point (bundled xs) ⊎ FormulaHolds point f)
some_more point [] f = (λ h. elim h [ inl k ↦ inr k | inr k ↦ absurd k ], λ h. elim h [ inl k ↦ absurd k | inr k ↦ inl k ])
some_more point (x ∷ xs) f =
    let r = some_more point xs f in (
      λ h. elim h [ inl k ↦ inl (inl k) | inr k ↦ elim (r.0 k) [ inl m ↦ inl (inr m) | inr m ↦ inr m ] ],
      λ h. elim h [ inl k ↦ elim k [ inl m ↦ inl m | inr m ↦ inr (r.1 (inl m)) ] | inr k ↦ inr (r.1 (inr k)) ],
    )

fit_more : (point : ℕ → ℤ) (xs : List Formula) (f : Formula) → FormulasFit point (bundled xs) → FormulaFits point f → FormulasFit point (bundled (xs ++ f ∷ []))
fit_more point [] f h k = (k, tt)
fit_more point (x ∷ xs) f h k = (h.0, fit_more point xs f h.1 k)

and_true : (a b : Bool) → ((a && b) ≡ true) ↔ ((a ≡ true) × (b ≡ true))
and_true true b = (λ h. (refl, h), λ h. h.1)
and_true false b = (λ h. absurd (false≢true h), λ h. absurd (false≢true h.0))

or_true : (a b : Bool) → ((a || b) ≡ true) ↔ ((a ≡ true) ⊎ (b ≡ true))
or_true true b = (λ h. inl refl, λ h. refl)
or_true false b = (λ h. inr h, λ h. elim h [ inl k ↦ absurd (false≢true k) | inr k ↦ k ])

-- what is known of the first i trees of a list
pub record AreHeld (point : ℕ → ℤ) (i : ℕ) (nodes : List PredNode) (all one : Bool) : Type 0 where
  pub all_hold : (all ≡ true) ↔ AllHold point (bundled (take i (formulas nodes)))
  pub one_holds : (one ≡ true) ↔ SomeHolds point (bundled (take i (formulas nodes)))
  pub fit : FormulasFit point (bundled (take i (formulas nodes)))

held_with : (point : ℕ → ℤ) (xs : List Formula) (f : Formula) (all one held : Bool) → (all ≡ true) ↔ AllHold point (bundled xs) → (one ≡ true) ↔ SomeHolds point (bundled xs) →
    (held ≡ true) ↔ FormulaHolds point f →
    (((all && held) ≡ true) ↔ AllHold point (bundled (xs ++ f ∷ []))) × (((one || held) ≡ true) ↔ SomeHolds point (bundled (xs ++ f ∷ [])))
held_with point xs f all one held a o y =
    let an = and_true all held in
    let on = or_true one held in
    let am = all_more point xs f in
    let sm = some_more point xs f in (
      (λ h. am.1 (a.0 (an.0 h).0, y.0 (an.0 h).1), λ h. an.1 (a.1 (am.0 h).0, y.1 (am.0 h).1)),
      (λ h. sm.1 (elim (on.0 h) [ inl k ↦ inl (o.0 k) | inr k ↦ inr (y.0 k) ]), λ h. on.1 (elim (sm.0 h) [ inl k ↦ inl (o.1 k) | inr k ↦ inr (y.1 k) ])),
    )

pub held_next : (point : ℕ → ℤ) (i : ℕ) (nodes left : List PredNode) (all one held : Bool) → AreHeld point i nodes all one → IsRest i nodes left → i < length (formulas nodes) →
    (held ≡ true) ↔ FormulaHolds point (formula_of left) → FormulaFits point (formula_of left) → AreHeld point (i + 1) nodes (all && held) (one || held)
held_next point i nodes left all one held h r l y f =
    let fs = formulas nodes in
    let e : first_formula (drop i fs) ≡ formula_of left = sym (rest_first i nodes left r) in
    let t : take (i + 1) fs ≡ take i fs ++ formula_of left ∷ [] =
    ap (λ (n : ℕ). take n fs) (let k : i + 1 ≡ suc i = omega arith in k) ∙ take_next fs i l ∙ ap (λ (g : Formula). take i fs ++ g ∷ []) e in
    let w = held_with point (take i fs) (formula_of left) all one held h.all_hold h.one_holds y in
    record {
      all_hold = subst (λ (xs : List Formula). ((all && held) ≡ true) ↔ AllHold point (bundled xs)) (sym t) w.0;
      one_holds = subst (λ (xs : List Formula). ((one || held) ≡ true) ↔ SomeHolds point (bundled xs)) (sym t) w.1;
      fit = subst (λ (xs : List Formula). FormulasFit point (bundled xs)) (sym t) (fit_more point (take i fs) (formula_of left) h.fit f);
    }

fits_at : (point : ℕ → ℤ) (fs : List Formula) (n i : ℕ) → i < n → n ≤ length fs → FormulasFit point (bundled (take n fs)) → FormulaFits point (first_formula (drop i fs))
fits_at point [] n i l m h = absurd (omega arith)
fits_at point (f ∷ fs) zero i l m h = absurd (omega arith)
fits_at point (f ∷ fs) (suc n) zero l m h = h.0
fits_at point (f ∷ fs) (suc n) (suc i) l m h = fits_at point fs n i (omega arith) (omega arith) h.1

-- a tree of the first that does not fit
pub held_stops : (point : ℕ → ℤ) (n i : ℕ) (nodes left : List PredNode) → IsRest i nodes left → i < n → n ≤ length (formulas nodes) →
    (FormulaFits point (formula_of left) → ⊥) → FormulasFit point (bundled (take n (formulas nodes))) → ⊥
held_stops point n i nodes left r l m f h =
    f (subst (FormulaFits point) (sym (rest_first i nodes left r)) (fits_at point (formulas nodes) n i l m h))

-- what is known of every error
pub on_err : {X E : Type 0} (r : Result X E) (P : Type 0) → P → OnErr r P
on_err (Ok x) P p = tt
on_err (Err e) P p = p

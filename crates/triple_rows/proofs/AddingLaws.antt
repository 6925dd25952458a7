-- What is added of a predicate, tree by tree.
use Rattle.std.proofs.Common.{◌≡◌, ◌∙◌, ℕ, zero, suc, ◌+◌, ◌<◌, ◌≤◌, Bool, true, false, List, [], ◌∷◌, ◌++◌, length, take, drop, append_assoc, refl, sym, ap, subst, arith}
use Rattle.std.specs.List.{AllByRecursion}
use Rattle.std.proofs.lemmas.List.{append-nil}
use Rattle.lin_rows.specs.declared.systems.System.{System}
use Rattle.lin_rows.specs.Rows.{LinearRow}
use Rattle.triple_rows.specs.declared.drafts.Draft.{Draft}
use Rattle.triple_rows.specs.declared.predicates.PredNode.{PredNode}
use Rattle.triple_rows.specs.declared.predicates.PredNode.TheVariants.{And, Or}
use Rattle.triple_rows.specs.Predicates.{Formula, Formulas, no_formula, one_more, HasInequalities, HaveInequalities, bundled, formulas, first_formula, formula_of, SpellsPredicate}
use Rattle.triple_rows.specs.Reading.{IsRest}
use Rattle.triple_rows.specs.Systems.{PlainSystem, Groups, Members, plain_system, no_group, one_group, no_member, one_member, PlainFits, MembersFit, IsSystem, AreMembers, both_systems, only_rows, groups_joined}
use Rattle.triple_rows.specs.Ties.Drafts.{Adds, stated, all_stated, members_stated}
use Rattle.triple_rows.proofs.DraftLaws.{adds_both, both_fit}
use Rattle.triple_rows.proofs.HoldingLaws.{take_next, rest_first, predicate_is_whole}
use Rattle.triple_rows.proofs.SaidLaws.{spelled_inequalities}

-- ---- one tree more

groups_none : (gs : Groups) → groups_joined gs no_group ≡ gs
groups_none no_group = refl
groups_none (one_group ms gs) = ap (one_group ms) (groups_none gs)

groups_assoc : (a b c : Groups) → groups_joined (groups_joined a b) c ≡ groups_joined a (groups_joined b c)
groups_assoc no_group b c = refl
groups_assoc (one_group ms a) b c = ap (one_group ms) (groups_assoc a b c)

none_both : (a : PlainSystem) → both_systems a (only_rows []) ≡ a
none_both (plain_system rows groups) =
    ap (λ (rs : List LinearRow). plain_system rs (groups_joined groups no_group)) (append-nil rows) ∙ ap (plain_system rows) (groups_none groups)

pub both_none : (a : PlainSystem) → both_systems (only_rows []) a ≡ a
both_none (plain_system rows groups) = refl

pub both_assoc : (a b c : PlainSystem) → both_systems (both_systems a b) c ≡ both_systems a (both_systems b c)
both_assoc (plain_system r g) (plain_system s h) (plain_system t i) =
    ap (λ (rs : List LinearRow). plain_system rs (groups_joined (groups_joined g h) i)) (append_assoc r s t) ∙ ap (plain_system (r ++ (s ++ t))) (groups_assoc g h i)

none_stated : (deny : Bool) (to : ℕ → ℕ) → all_stated deny to no_formula ≡ only_rows []
none_stated true to = refl
none_stated false to = refl

more_stated : (deny : Bool) (to : ℕ → ℕ) (f : Formula) (fs : Formulas) → all_stated deny to (one_more f fs) ≡ both_systems (stated deny to f) (all_stated deny to fs)
more_stated true to f fs = refl
more_stated false to f fs = refl

last_stated : (deny : Bool) (to : ℕ → ℕ) (xs : List Formula) (f : Formula) → all_stated deny to (bundled (xs ++ f ∷ [])) ≡ both_systems (all_stated deny to (bundled xs)) (stated deny to f)
last_stated deny to [] f =
    more_stated deny to f no_formula ∙ ap (both_systems (stated deny to f)) (none_stated deny to) ∙ none_both (stated deny to f) ∙
    sym (ap (λ (s : PlainSystem). both_systems s (stated deny to f)) (none_stated deny to) ∙ both_none (stated deny to f))
last_stated deny to (x ∷ xs) f =
    more_stated deny to x (bundled (xs ++ f ∷ [])) ∙ ap (both_systems (stated deny to x)) (last_stated deny to xs f) ∙
    sym (both_assoc (stated deny to x) (all_stated deny to (bundled xs)) (stated deny to f)) ∙
    ap (λ (s : PlainSystem). both_systems s (stated deny to f)) (sym (more_stated deny to x (bundled xs)))

none_members : (deny : Bool) (to : ℕ → ℕ) → members_stated deny to no_formula ≡ no_member
none_members true to = refl
none_members false to = refl

more_members : (deny : Bool) (to : ℕ → ℕ) (f : Formula) (fs : Formulas) → members_stated deny to (one_more f fs) ≡ one_member (stated deny to f) (members_stated deny to fs)
more_members true to f fs = refl
more_members false to f fs = refl

-- ---- trees added one after another

next_of : (i : ℕ) (nodes left : List PredNode) → IsRest i nodes left → i < length (formulas nodes) → take (i + 1) (formulas nodes) ≡ take i (formulas nodes) ++ formula_of left ∷ []
next_of i nodes left r l =
    ap (λ (n : ℕ). take n (formulas nodes)) (let k : i + 1 ≡ suc i = omega arith in k) ∙ take_next (formulas nodes) i l ∙
    ap (λ (g : Formula). take i (formulas nodes) ++ g ∷ []) (sym (rest_first i nodes left r))

-- the first i trees of a list were added
pub record IsAdding (deny : Bool) (to : ℕ → ℕ) (i : ℕ) (nodes : List PredNode) (old new : Draft) : Type 0 where
  pub adds : Adds (all_stated deny to (bundled (take i (formulas nodes)))) old new
  pub fits : PlainFits (all_stated deny to (bundled (take i (formulas nodes))))

pub adding_next : (deny : Bool) (to : ℕ → ℕ) (i : ℕ) (nodes left : List PredNode) (old mid new : Draft) → IsAdding deny to i nodes old mid → IsRest i nodes left →
    i < length (formulas nodes) → Adds (stated deny to (formula_of left)) mid new → PlainFits (stated deny to (formula_of left)) → IsAdding deny to (i + 1) nodes old new
adding_next deny to i nodes left old mid new h r l a f =
    let xs = take i (formulas nodes) in
    let e : both_systems (all_stated deny to (bundled xs)) (stated deny to (formula_of left)) ≡ all_stated deny to (bundled (take (i + 1) (formulas nodes))) =
    sym (ap (λ (ys : List Formula). all_stated deny to (bundled ys)) (next_of i nodes left r l) ∙ last_stated deny to xs (formula_of left)) in
    record {
      adds = subst (λ (p : PlainSystem). Adds p old new) e (adds_both (all_stated deny to (bundled xs)) (stated deny to (formula_of left)) old mid new h.adds a);
      fits = subst PlainFits e ((both_fit (all_stated deny to (bundled xs)) (stated deny to (formula_of left))).1 (h.fits, f));
    }

fits_at : (deny : Bool) (to : ℕ → ℕ) (fs : List Formula) (n i : ℕ) → i < n → n ≤ length fs → PlainFits (all_stated deny to (bundled (take n fs))) →
    PlainFits (stated deny to (first_formula (drop i fs)))
fits_at deny to [] n i l m h = absurd (omega arith)
fits_at deny to (f ∷ fs) zero i l m h = absurd (omega arith)
fits_at deny to (f ∷ fs) (suc n) i l m h = at i l ((both_fit (stated deny to f) (all_stated deny to (bundled (take n fs)))).0 (subst PlainFits (more_stated deny to f (bundled (take n fs))) h))
    (λ j k p. fits_at deny to fs n j k (omega arith) p)
  where
    at : (i : ℕ) → i < suc n → PlainFits (stated deny to f) × PlainFits (all_stated deny to (bundled (take n fs))) →
        ((j : ℕ) → j < n → PlainFits (all_stated deny to (bundled (take n fs))) → PlainFits (stated deny to (first_formula (drop j fs)))) →
        PlainFits (stated deny to (first_formula (drop i (f ∷ fs))))
    at zero l b r = b.0
    at (suc j) l b r = r j (omega arith) b.1

pub adding_stops : (deny : Bool) (to : ℕ → ℕ) (n i : ℕ) (nodes left : List PredNode) → IsRest i nodes left → i < n → n ≤ length (formulas nodes) →
    (PlainFits (stated deny to (formula_of left)) → ⊥) → PlainFits (all_stated deny to (bundled (take n (formulas nodes)))) → ⊥
adding_stops deny to n i nodes left r l m f h =
    f (subst (λ (g : Formula). PlainFits (stated deny to g)) (sym (rest_first i nodes left r)) (fits_at deny to (formulas nodes) n i l m h))

-- ---- trees as members of a group

-- the first i trees of a list are members
pub record IsGathering (deny : Bool) (to : ℕ → ℕ) (i : ℕ) (nodes : List PredNode) (systems : List System) : Type 0 where
  pub are_members : AreMembers (members_stated deny to (bundled (take i (formulas nodes)))) systems
  pub fit : MembersFit (members_stated deny to (bundled (take i (formulas nodes))))

member_last : (deny : Bool) (to : ℕ → ℕ) (xs : List Formula) (f : Formula) (ss : List System) (s : System) → AreMembers (members_stated deny to (bundled xs)) ss →
    IsSystem (stated deny to f) s → AreMembers (members_stated deny to (bundled (xs ++ f ∷ []))) (ss ++ s ∷ [])
member_last deny to [] f [] s h k =
    subst (λ (ms : Members). AreMembers ms (s ∷ [])) (sym (more_members deny to f no_formula))
    (k, subst (λ (ms : Members). AreMembers ms []) (sym (none_members deny to)) tt)
member_last deny to [] f (t ∷ ss) s h k = absurd (subst (λ (ms : Members). AreMembers ms (t ∷ ss)) (none_members deny to) h)
member_last deny to (x ∷ xs) f [] s h k = absurd (subst (λ (ms : Members). AreMembers ms []) (more_members deny to x (bundled xs)) h)
member_last deny to (x ∷ xs) f (t ∷ ss) s h k =
    let g : AreMembers (one_member (stated deny to x) (members_stated deny to (bundled xs))) (t ∷ ss) =
    subst (λ (ms : Members). AreMembers ms (t ∷ ss)) (more_members deny to x (bundled xs)) h in
    subst (λ (ms : Members). AreMembers ms (t ∷ (ss ++ s ∷ []))) (sym (more_members deny to x (bundled (xs ++ f ∷ []))))
    (g.0, member_last deny to xs f ss s g.1 k)

fit_last : (deny : Bool) (to : ℕ → ℕ) (xs : List Formula) (f : Formula) → MembersFit (members_stated deny to (bundled xs)) → PlainFits (stated deny to f) →
    MembersFit (members_stated deny to (bundled (xs ++ f ∷ [])))
fit_last deny to [] f h k = subst MembersFit (sym (more_members deny to f no_formula)) (k, subst MembersFit (sym (none_members deny to)) tt)
fit_last deny to (x ∷ xs) f h k =
    let g : MembersFit (one_member (stated deny to x) (members_stated deny to (bundled xs))) = subst MembersFit (more_members deny to x (bundled xs)) h in
    subst MembersFit (sym (more_members deny to x (bundled (xs ++ f ∷ [])))) (g.0, fit_last deny to xs f g.1 k)

pub gathering_next : (deny : Bool) (to : ℕ → ℕ) (i : ℕ) (nodes left : List PredNode) (ss new : List System) (s : System) → IsGathering deny to i nodes ss → IsRest i nodes left →
    i < length (formulas nodes) → IsSystem (stated deny to (formula_of left)) s → PlainFits (stated deny to (formula_of left)) → new ≡ ss ++ s ∷ [] →
    IsGathering deny to (i + 1) nodes new
gathering_next deny to i nodes left ss new s h r l a f e =
    let xs = take i (formulas nodes) in
    let n = next_of i nodes left r l in
    record {
      are_members = subst (AreMembers (members_stated deny to (bundled (take (i + 1) (formulas nodes))))) (sym e)
          (subst (λ (ys : List Formula). AreMembers (members_stated deny to (bundled ys)) (ss ++ s ∷ [])) (sym n) (member_last deny to xs (formula_of left) ss s h.are_members a));
      fit = subst (λ (ys : List Formula). MembersFit (members_stated deny to (bundled ys))) (sym n) (fit_last deny to xs (formula_of left) h.fit f);
    }

member_fits_at : (deny : Bool) (to : ℕ → ℕ) (fs : List Formula) (n i : ℕ) → i < n → n ≤ length fs → MembersFit (members_stated deny to (bundled (take n fs))) →
    PlainFits (stated deny to (first_formula (drop i fs)))
member_fits_at deny to [] n i l m h = absurd (omega arith)
member_fits_at deny to (f ∷ fs) zero i l m h = absurd (omega arith)
member_fits_at deny to (f ∷ fs) (suc n) i l m h = at i l (subst MembersFit (more_members deny to f (bundled (take n fs))) h)
    (λ j k p. member_fits_at deny to fs n j k (omega arith) p)
  where
    at : (i : ℕ) → i < suc n → MembersFit (one_member (stated deny to f) (members_stated deny to (bundled (take n fs)))) →
        ((j : ℕ) → j < n → MembersFit (members_stated deny to (bundled (take n fs))) → PlainFits (stated deny to (first_formula (drop j fs)))) →
        PlainFits (stated deny to (first_formula (drop i (f ∷ fs))))
    at zero l b r = b.0
    at (suc j) l b r = r j (omega arith) b.1

pub gathering_stops : (deny : Bool) (to : ℕ → ℕ) (n i : ℕ) (nodes left : List PredNode) → IsRest i nodes left → i < n → n ≤ length (formulas nodes) →
    (PlainFits (stated deny to (formula_of left)) → ⊥) → MembersFit (members_stated deny to (bundled (take n (formulas nodes)))) → ⊥
gathering_stops deny to n i nodes left r l m f h =
    f (subst (λ (g : Formula). PlainFits (stated deny to g)) (sym (rest_first i nodes left r)) (member_fits_at deny to (formulas nodes) n i l m h))

-- ---- one node

-- ---- the inequalities of parts

inequalities_from_parts : (k : ℕ) (fs : List Formula) → HaveInequalities (bundled (take k fs)) → AllByRecursion HasInequalities (drop k fs) → AllByRecursion HasInequalities fs
inequalities_from_parts zero fs h g = g
inequalities_from_parts (suc k) [] h g = tt
inequalities_from_parts (suc k) (f ∷ fs) h g = (h.0, inequalities_from_parts k fs h.1 g)

pub parts_inequalities_and : (k : ℕ) (ns : List PredNode) → AllByRecursion HasInequalities (formulas (And k ∷ ns)) → AllByRecursion HasInequalities (formulas ns)
parts_inequalities_and k ns h = inequalities_from_parts k (formulas ns) h.0 h.1

pub parts_inequalities_or : (k : ℕ) (ns : List PredNode) → AllByRecursion HasInequalities (formulas (Or k ∷ ns)) → AllByRecursion HasInequalities (formulas ns)
parts_inequalities_or k ns h = inequalities_from_parts k (formulas ns) h.0 h.1

pub whole_inequalities : (nodes : List PredNode) → SpellsPredicate nodes → AllByRecursion HasInequalities (formulas nodes)
whole_inequalities nodes h =
    subst (AllByRecursion HasInequalities) (sym (predicate_is_whole nodes h).one) (spelled_inequalities nodes h, tt)

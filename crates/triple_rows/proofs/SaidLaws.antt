-- What a predicate says, as rows and groups: they are met exactly where it holds, or where it does not.
use Rattle.std.proofs.Common.{◌≡◌, ◌↔◌, ◌⊎◌, ℕ, ◌<◌, true, false, ℤ, ◌+ℤ◌, ◌*ℤ◌, ◌<ℤ◌, ◌≤ℤ◌, List, [], ◌∷◌, refl, sym, ap, subst, inl, inr, arith}
use Rattle.std.specs.Prelude.{map}
use Rattle.std.specs.List.{AllByRecursion}
use Rattle.std.proofs.lemmas.Int.{ints, by_lt_z}
use Rattle.math_facts.specs.Terms.{dot}
use Rattle.math_facts.proofs.TermLaws.{dot_same_points}
use Rattle.lin_rows.specs.declared.types.RowKind.{RowKind}
use Rattle.lin_rows.specs.declared.types.RowKind.TheVariants.{Le}
use Rattle.lin_rows.specs.Rows.{LinearRow, Stands, Holds}
use Rattle.lin_rows.specs.Points.{point_of}
use Rattle.lin_rows.specs.Negating.{negated}
use Rattle.lin_rows.proofs.HoldsLaws.{holds-row_of, never_holds}
use Rattle.lin_rows.proofs.NegatingLemmas.{negated_holds}
use Rattle.triple_rows.specs.declared.predicates.PredNode.{PredNode}
use Rattle.triple_rows.specs.Predicates.{Formula, Formulas, truth, atom, and_of, or_of, no_formula, one_more, FormulaHolds, AllHold, SomeHolds, IsOver, AreOver, IsTree, AreTrees, IsTruth, IsPredicate, HasInequalities, HaveInequalities, formula_of, SpellsPredicate}
use Rattle.triple_rows.specs.Systems.{PlainSystem, Groups, plain_system, no_group, one_group, PlainMeets, GroupsMet, SomeMet, groups_joined, both_systems, all_systems, said, all_said, members_said, denied, all_denied, members_denied}
use Rattle.letter_acts.specs.FrameRows.Rows.{renamed}
use Rattle.triple_rows.proofs.ListLaws.{all_joined}
use Rattle.triple_rows.proofs.FormulaLaws.{prefix_read}

-- ---- systems at once

groups_met : (point : ℕ → ℤ) (gs hs : Groups) → GroupsMet point (groups_joined gs hs) ↔ (GroupsMet point gs × GroupsMet point hs)
groups_met point no_group hs = (λ h. (tt, h), λ h. h.1)
groups_met point (one_group ms gs) hs =
    let r = groups_met point gs hs in
    (λ h. ((h.0, (r.0 h.1).0), (r.0 h.1).1), λ h. (h.0.0, r.1 (h.0.1, h.1)))

pub both_met : (point : ℕ → ℤ) (a b : PlainSystem) → PlainMeets point (both_systems a b) ↔ (PlainMeets point a × PlainMeets point b)
both_met point (plain_system rows groups) (plain_system more_rows more_groups) =
    let r = all_joined (Holds point) rows more_rows in
    let g = groups_met point groups more_groups in (
      λ h. (((r.0 h.0).0, (g.0 h.1).0), ((r.0 h.0).1, (g.0 h.1).1)),
      λ h. (r.1 (h.0.0, h.1.0), g.1 (h.0.1, h.1.1)),
    )

pub all_met : (point : ℕ → ℤ) (ss : List PlainSystem) → PlainMeets point (all_systems ss) ↔ AllByRecursion (PlainMeets point) ss
all_met point [] = (λ h. tt, λ h. (tt, tt))
all_met point (s ∷ ss) =
    let b = both_met point s (all_systems ss) in
    let r = all_met point ss in
    (λ h. ((b.0 h).0, r.0 (b.0 h).1), λ h. b.1 (h.0, r.1 h.1))

-- ---- rows with renamed columns

dot-renamed : (point : ℕ → ℤ) (to : ℕ → ℕ) (ts : List (ℕ × ℤ)) → dot point (map (λ t. (to t.0, t.1)) ts) ≡ dot (λ c. point (to c)) ts
dot-renamed point to [] = refl
dot-renamed point to (t ∷ ts) = ap (λ z. (t.1 *ℤ point (to t.0)) +ℤ z) (dot-renamed point to ts)

pub renamed_holds : (point : ℕ → ℤ) (to : ℕ → ℕ) (r : LinearRow) → Holds point (renamed to r) ↔ Holds (λ c. point (to c)) r
renamed_holds point to r =
    subst (λ (z : ℤ). Holds point (renamed to r) ↔ Stands r.kind z r.bound) (dot-renamed point to r.terms)
    (holds-row_of point (map (λ t. (to t.0, t.1)) r.terms) r.kind r.bound)

-- ---- that a predicate holds

mutual
  pub said_is : (point : ℕ → ℤ) (to : ℕ → ℕ) (f : Formula) → PlainMeets point (said to f) ↔ FormulaHolds (λ c. point (to c)) f
  said_is point to (truth true) = (λ h. tt, λ h. (tt, tt))
  said_is point to (truth false) = (λ h. absurd (never_holds point h.0.0), λ h. absurd h)
  said_is point to (atom r) = let e = renamed_holds point to r in (λ h. e.0 h.0.0, λ h. ((e.1 h, tt), tt))
  said_is point to (and_of fs) = all_said_is point to fs
  said_is point to (or_of fs) = let e = members_said_is point to fs in (λ h. e.0 h.1.0, λ h. (tt, (e.1 h, tt)))

  all_said_is : (point : ℕ → ℤ) (to : ℕ → ℕ) (fs : Formulas) → PlainMeets point (all_said to fs) ↔ AllHold (λ c. point (to c)) fs
  all_said_is point to no_formula = (λ h. tt, λ h. (tt, tt))
  all_said_is point to (one_more f fs) =
      let b = both_met point (said to f) (all_said to fs) in
      let e = said_is point to f in
      let r = all_said_is point to fs in
      (λ h. (e.0 (b.0 h).0, r.0 (b.0 h).1), λ h. b.1 (e.1 h.0, r.1 h.1))

  members_said_is : (point : ℕ → ℤ) (to : ℕ → ℕ) (fs : Formulas) → SomeMet point (members_said to fs) ↔ SomeHolds (λ c. point (to c)) fs
  members_said_is point to no_formula = (λ h. h, λ h. h)
  members_said_is point to (one_more f fs) =
      let e = said_is point to f in
      let r = members_said_is point to fs in
      (λ h. elim h [ inl k ↦ inl (e.0 k) | inr k ↦ inr (r.0 k) ], λ h. elim h [ inl k ↦ inl (e.1 k) | inr k ↦ inr (r.1 k) ])

-- ---- that it does not hold

mutual
  tree_has_inequalities : (f : Formula) → IsTree f → HasInequalities f
  tree_has_inequalities (truth b) h = tt
  tree_has_inequalities (atom r) h = h.inequality
  tree_has_inequalities (and_of fs) h = trees_have_inequalities fs h.1
  tree_has_inequalities (or_of fs) h = trees_have_inequalities fs h.1

  trees_have_inequalities : (fs : Formulas) → AreTrees fs → HaveInequalities fs
  trees_have_inequalities no_formula h = tt
  trees_have_inequalities (one_more f fs) h = (tree_has_inequalities f h.0, trees_have_inequalities fs h.1)

truth_has_inequalities : (f : Formula) → IsTruth f → HasInequalities f
truth_has_inequalities (truth b) h = tt
truth_has_inequalities (atom r) h = absurd h
truth_has_inequalities (and_of fs) h = absurd h
truth_has_inequalities (or_of fs) h = absurd h

predicate_has_inequalities : (f : Formula) → IsPredicate f → HasInequalities f
predicate_has_inequalities f (inl h) = truth_has_inequalities f h
predicate_has_inequalities f (inr h) = tree_has_inequalities f h.0

-- the tree that a predicate's list spells is a predicate
spelled : (nodes : List PredNode) → SpellsPredicate nodes → IsPredicate (formula_of nodes)
spelled nodes h = subst (λ (ns : List PredNode). IsPredicate (formula_of ns)) h.1 (subst IsPredicate (sym (prefix_read h.0)) h.2)

pub spelled_inequalities : (nodes : List PredNode) → SpellsPredicate nodes → HasInequalities (formula_of nodes)
spelled_inequalities nodes h = predicate_has_inequalities (formula_of nodes) (spelled nodes h)

-- an inequality holds or its negation does
stands_or_not : (point : ℕ → ℤ) (r : LinearRow) → r.kind ≡ Le → Holds point r ⊎ Holds point (negated r)
stands_or_not point r e =
    by_lt_z r.bound (dot point r.terms)
    (λ (l : r.bound <ℤ dot point r.terms). inr ((negated_holds point r e).1 (λ h. fails l (subst (λ (k : RowKind). Stands k (dot point r.terms) r.bound) e h))))
    (λ (l : dot point r.terms ≤ℤ r.bound). inl (subst (λ (k : RowKind). Stands k (dot point r.terms) r.bound) (sym e) l))
  where
    fails : r.bound <ℤ dot point r.terms → dot point r.terms ≤ℤ r.bound → ⊥
    fails l k = omega (arith, ints)

mutual
  pub holds_or_denied : (point : ℕ → ℤ) (to : ℕ → ℕ) (f : Formula) → HasInequalities f → FormulaHolds (λ c. point (to c)) f ⊎ PlainMeets point (denied to f)
  holds_or_denied point to (truth true) i = inl tt
  holds_or_denied point to (truth false) i = inr (tt, tt)
  holds_or_denied point to (atom r) i = elim (stands_or_not point (renamed to r) i) [
    | inl h ↦ inl ((renamed_holds point to r).0 h)
    | inr h ↦ inr ((h, tt), tt)
  ]
  holds_or_denied point to (and_of fs) i = elim (all_hold_or_one_denied point to fs i) [ inl h ↦ inl h | inr h ↦ inr (tt, (h, tt)) ]
  holds_or_denied point to (or_of fs) i = one_holds_or_all_denied point to fs i

  all_hold_or_one_denied : (point : ℕ → ℤ) (to : ℕ → ℕ) (fs : Formulas) → HaveInequalities fs → AllHold (λ c. point (to c)) fs ⊎ SomeMet point (members_denied to fs)
  all_hold_or_one_denied point to no_formula i = inl tt
  all_hold_or_one_denied point to (one_more f fs) i = elim (holds_or_denied point to f i.0) [
    | inl h ↦ elim (all_hold_or_one_denied point to fs i.1) [ inl k ↦ inl (h, k) | inr k ↦ inr (inr k) ]
    | inr h ↦ inr (inl h)
  ]

  one_holds_or_all_denied : (point : ℕ → ℤ) (to : ℕ → ℕ) (fs : Formulas) → HaveInequalities fs → SomeHolds (λ c. point (to c)) fs ⊎ PlainMeets point (all_denied to fs)
  one_holds_or_all_denied point to no_formula i = inr (tt, tt)
  one_holds_or_all_denied point to (one_more f fs) i = elim (holds_or_denied point to f i.0) [
    | inl h ↦ inl (inl h)
    | inr h ↦ elim (one_holds_or_all_denied point to fs i.1) [
      | inl k ↦ inl (inr k)
      | inr k ↦ inr ((both_met point (denied to f) (all_denied to fs)).1 (h, k))
    ]
  ]

mutual
  pub denied_fails : (point : ℕ → ℤ) (to : ℕ → ℕ) (f : Formula) → HasInequalities f → PlainMeets point (denied to f) → FormulaHolds (λ c. point (to c)) f → ⊥
  denied_fails point to (truth true) i d h = never_holds point d.0.0
  denied_fails point to (truth false) i d h = h
  denied_fails point to (atom r) i d h = (negated_holds point (renamed to r) i).0 d.0.0 ((renamed_holds point to r).1 h)
  denied_fails point to (and_of fs) i d h = one_denied_fails point to fs i d.1.0 h
  denied_fails point to (or_of fs) i d h = all_denied_fail point to fs i d h

  one_denied_fails : (point : ℕ → ℤ) (to : ℕ → ℕ) (fs : Formulas) → HaveInequalities fs → SomeMet point (members_denied to fs) → AllHold (λ c. point (to c)) fs → ⊥
  one_denied_fails point to no_formula i d h = d
  one_denied_fails point to (one_more f fs) i d h =
      elim d [ inl k ↦ denied_fails point to f i.0 k h.0 | inr k ↦ one_denied_fails point to fs i.1 k h.1 ]

  all_denied_fail : (point : ℕ → ℤ) (to : ℕ → ℕ) (fs : Formulas) → HaveInequalities fs → PlainMeets point (all_denied to fs) → SomeHolds (λ c. point (to c)) fs → ⊥
  all_denied_fail point to no_formula i d h = h
  all_denied_fail point to (one_more f fs) i d h =
      let b = (both_met point (denied to f) (all_denied to fs)).0 d in
      elim h [ inl k ↦ denied_fails point to f i.0 b.0 k | inr k ↦ all_denied_fail point to fs i.1 b.1 k ]

-- ---- points that agree on its columns

mutual
  formula_same : (p q : ℕ → ℤ) (n : ℕ) (f : Formula) → IsOver n f → ((c : ℕ) → c < n → p c ≡ q c) → FormulaHolds p f → FormulaHolds q f
  formula_same p q n (truth true) o e h = tt
  formula_same p q n (truth false) o e h = h
  formula_same p q n (atom r) o e h = subst (λ (z : ℤ). Stands r.kind z r.bound) (dot_same_points p q n r.terms o e) h
  formula_same p q n (and_of fs) o e h = all_same_there p q n fs o e h
  formula_same p q n (or_of fs) o e h = one_same_there p q n fs o e h

  all_same_there : (p q : ℕ → ℤ) (n : ℕ) (fs : Formulas) → AreOver n fs → ((c : ℕ) → c < n → p c ≡ q c) → AllHold p fs → AllHold q fs
  all_same_there p q n no_formula o e h = tt
  all_same_there p q n (one_more f fs) o e h = (formula_same p q n f o.0 e h.0, all_same_there p q n fs o.1 e h.1)

  one_same_there : (p q : ℕ → ℤ) (n : ℕ) (fs : Formulas) → AreOver n fs → ((c : ℕ) → c < n → p c ≡ q c) → SomeHolds p fs → SomeHolds q fs
  one_same_there p q n no_formula o e h = h
  one_same_there p q n (one_more f fs) o e h =
      elim h [ inl k ↦ inl (formula_same p q n f o.0 e k) | inr k ↦ inr (one_same_there p q n fs o.1 e k) ]

-- the point has the values of the state at these columns
pub record HasValues (point : ℕ → ℤ) (to : ℕ → ℕ) (n : ℕ) (s : List ℤ) : Type 0 where
  pub same : (c : ℕ) → c < n → point (to c) ≡ point_of s c

pub state_said : (point : ℕ → ℤ) (to : ℕ → ℕ) (n : ℕ) (s : List ℤ) (f : Formula) → HasValues point to n s → IsOver n f → FormulaHolds (point_of s) f → PlainMeets point (said to f)
state_said point to n s f v o h = (said_is point to f).1 (formula_same (point_of s) (λ c. point (to c)) n f o (λ c l. sym (v.same c l)) h)

pub state_heard : (point : ℕ → ℤ) (to : ℕ → ℕ) (n : ℕ) (s : List ℤ) (f : Formula) → HasValues point to n s → IsOver n f → PlainMeets point (said to f) → FormulaHolds (point_of s) f
state_heard point to n s f v o h = formula_same (λ c. point (to c)) (point_of s) n f o v.same ((said_is point to f).0 h)

-- where the point does not meet the negation, the state meets the predicate
pub state_shown : (point : ℕ → ℤ) (to : ℕ → ℕ) (n : ℕ) (s : List ℤ) (f : Formula) → HasValues point to n s → IsOver n f → HasInequalities f →
    (PlainMeets point (denied to f) → ⊥) → FormulaHolds (point_of s) f
state_shown point to n s f v o i h = elim (holds_or_denied point to f i) [
  | inl k ↦ formula_same (λ c. point (to c)) (point_of s) n f o v.same k
  | inr k ↦ absurd (h k)
]

pub state_denied : (point : ℕ → ℤ) (to : ℕ → ℕ) (n : ℕ) (s : List ℤ) (f : Formula) → HasValues point to n s → IsOver n f → HasInequalities f →
    PlainMeets point (denied to f) → FormulaHolds (point_of s) f → ⊥
state_denied point to n s f v o i d h = denied_fails point to f i d (formula_same (point_of s) (λ c. point (to c)) n f o (λ c l. sym (v.same c l)) h)

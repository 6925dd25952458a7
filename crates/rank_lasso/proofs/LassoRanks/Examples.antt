-- Two small programs with their lassos, worked out: a loop that counts down to 0, and the same behind an assumption that excludes it.
use Rattle.std.proofs.Common.{◌≡◌, ◌∙◌, ℕ, zero, suc, ℤ, pos, negsuc, ◌+ℤ◌, ◌*ℤ◌, false, List, [], ◌∷◌, map, Some, refl, sym, ap, subst, inl, inr, arith, lit<}
use Rattle.std.specs.Prelude.{codes}
use Rattle.std.specs.List.{AllByRecursion}
use Rattle.std.proofs.lemmas.Int.{ints}
use Rattle.math_facts.specs.Fits.{Fits}
use Rattle.math_facts.proofs.Whole.{product_zero_right}
use Rattle.math_facts.proofs.TermLaws.{coefficient_past}
use Rattle.boogie_tree.specs.declared.tree.Ty.TheVariants as types
use Rattle.boogie_tree.specs.declared.tree.Column.TheVariants as columns
use Rattle.boogie_tree.specs.declared.tree.VarInfo.{VarInfo}
use Rattle.lin_rows.specs.declared.types.RowKind.TheVariants.{Le, Eq}
use Rattle.lin_rows.specs.Rows.{LinearRow}
use Rattle.lin_rows.specs.Tightening.{content, tightened}
use Rattle.lin_rows.specs.Combinations.{row_at, combined, RunFits}
use Rattle.math_facts.specs.Terms.{coefficient}
use Rattle.nwa_base.specs.declared.letters.Letter.{Letter}
use Rattle.nwa_base.specs.Members.{Member}
use Rattle.frac.specs.Fractions.{Fraction}
use Rattle.fm_elim.specs.Worth.{IsSolvable}
use Rattle.farkas_check.specs.Nodes.{leaf}
use Rattle.fm_elim.specs.Quotients.{common, reduced}
use Rattle.fm_elim.specs.Elimination.{point, elimination}
use Rattle.letter_acts.specs.Acts.{PlainAct, inside_act}
use Rattle.letter_acts.specs.Invariant.{Graph}
use Rattle.rank_lasso.specs.declared.lasso_ranks.lassos.LassoFault.TheVariants.{BadName, BadStep}
use Rattle.rank_lasso.specs.LassoTurns.Turns.{inside_letter}
use Rattle.rank_lasso.specs.LassoRanks.Lassos.{PlainLasso, IsLassoOf, loop_turn, whole_turn, IsNoLassoBy}
use Rattle.rank_lasso.specs.LassoTurns.Claims.{unfallen, unbounded, RefutesWith}
use Rattle.rank_lasso.specs.LassoRanks.Ranks.{ranked_by, excluded_by, Ranks}
use Rattle.rank_lasso.specs.RankingSystem.RankingSystem.{ranking_system, unknowns}
use Rattle.rank_lasso.specs.RankingSystem.Scaled.{scaled_point}
use Rattle.rank_lasso.specs.LassoRanks.Outcomes.{ranking_at}

abbrev number : VarInfo
number = record { name = codes "x"; ty = types.Int; constant = false }

-- a step of the one procedure, which has the one variable x
abbrev guard : List LinearRow → PlainAct
guard rows = inside_act 0 [] 0 rows

abbrev assignment : List LinearRow → PlainAct
assignment rows = inside_act 0 (0 ∷ []) 0 rows

abbrev at_most : ℤ → ℤ → LinearRow
at_most a b = record { terms = (0, a) ∷ []; kind = Le; bound = b }

-- x >= 1
abbrev positive : LinearRow
positive = at_most (negsuc 0) (negsuc 0)

-- x' - x = b
abbrev changed_by : ℤ → LinearRow
changed_by b = record { terms = (0, negsuc 0) ∷ (1, pos 1) ∷ []; kind = Eq; bound = b }

-- while (x > 0) { x := x + b; }
abbrev loop : ℤ → Graph
loop b = record {
  automaton = record {
    states = 4;
    start = 0;
    finals = [];
    insides = (0, inside_letter 0, 1) ∷ (1, inside_letter 1, 2) ∷ (1, inside_letter 2, 3) ∷ (2, inside_letter 3, 1) ∷ [];
    calls = [];
    backs = [];
  };
  acts = guard [] ∷ guard (positive ∷ []) ∷ guard (at_most (pos 1) (pos 0) ∷ []) ∷ assignment (changed_by b ∷ []) ∷ [];
  marks = false ∷ false ∷ false ∷ false ∷ [];
  frames = ((columns.Local 0, number) ∷ []) ∷ [];
  names = codes "main" ∷ [];
  place_procs = 0 ∷ 0 ∷ 0 ∷ 0 ∷ [];
  entries = Some 1 ∷ [];
  exits = Some 3 ∷ [];
  sites = [];
}

abbrev counting_down : Graph
counting_down = loop (negsuc 0)

abbrev lasso : List ℕ → List ℕ → PlainLasso
lasso stem turn = record { stem = stem; loop = turn }

abbrev once_around : PlainLasso
once_around = lasso (0 ∷ []) (1 ∷ 3 ∷ [])

-- ---- lassos

is_lasso : IsLassoOf counting_down once_around
is_lasso = record {
  stem = (refl, tt);
  loop = (refl, (refl, tt));
  place = 1;
  enters = (1, (inl refl, (refl, refl)));
  returns = (2, (inr (inl refl), (1, (inr (inr (inr (inl refl))), (refl, refl)))));
}

no_such_letter : IsNoLassoBy counting_down (lasso (0 ∷ []) (1 ∷ 9 ∷ [])) (BadName 3)
no_such_letter = inr (refl, (refl, tt), λ h. h.1.0)

-- the ends of an edge
record Ends (a i b q n r : ℕ) : Type 0 where
  first : a ≡ q
  number_of : i ≡ n
  last : b ≡ r

ends_of : (a i b q n r : ℕ) → ◌≡◌ {A = ℕ × Letter × ℕ} (a, inside_letter i, b) (q, inside_letter n, r) → Ends a i b q n r
ends_of a i b q n r e = record {
  first = ap (λ (t : ℕ × Letter × ℕ). t.0) e;
  number_of = ap (λ (t : ℕ × Letter × ℕ). t.1.id) e;
  last = ap (λ (t : ℕ × Letter × ℕ). t.2) e;
}

-- where letters 0, 1 and 3 lead
record Leads (q n r : ℕ) : Type 0 where
  by_enter : n ≡ 0 → (q ≡ 0) × (r ≡ 1)
  by_guard : n ≡ 1 → (q ≡ 1) × (r ≡ 2)
  by_step : n ≡ 3 → (q ≡ 2) × (r ≡ 1)

leads : (q n r : ℕ) → Member counting_down.automaton.insides (q, inside_letter n, r) → Leads q n r
leads q n r m = elim m [
  | inl e ↦ let k = ends_of 0 0 1 q n r e in by_ends 0 0 1 k (λ i. (refl, refl)) (λ i. absurd (omega (arith, i))) (λ i. absurd (omega (arith, i)))
  | inr m ↦ elim m [
    | inl e ↦ let k = ends_of 1 1 2 q n r e in by_ends 1 1 2 k (λ i. absurd (omega (arith, i))) (λ i. (refl, refl)) (λ i. absurd (omega (arith, i)))
    | inr m ↦ elim m [
      | inl e ↦ let k = ends_of 1 2 3 q n r e in by_ends 1 2 3 k (λ i. absurd (omega (arith, i))) (λ i. absurd (omega (arith, i))) (λ i. absurd (omega (arith, i)))
      | inr m ↦ elim m [
        | inl e ↦ let k = ends_of 2 3 1 q n r e in by_ends 2 3 1 k (λ i. absurd (omega (arith, i))) (λ i. absurd (omega (arith, i))) (λ i. (refl, refl))
        | inr m ↦ absurd m
      ]
    ]
  ]
]
  where
    by_ends : (a i b : ℕ) → Ends a i b q n r → (i ≡ 0 → (a ≡ 0) × (b ≡ 1)) → (i ≡ 1 → (a ≡ 1) × (b ≡ 2)) → (i ≡ 3 → (a ≡ 2) × (b ≡ 1)) → Leads q n r
    by_ends a i b k f g h = record {
      by_enter = λ e. (let p = f (k.number_of ∙ e) in (sym k.first ∙ p.0, sym k.last ∙ p.1));
      by_guard = λ e. (let p = g (k.number_of ∙ e) in (sym k.first ∙ p.0, sym k.last ∙ p.1));
      by_step = λ e. (let p = h (k.number_of ∙ e) in (sym k.first ∙ p.0, sym k.last ∙ p.1));
    }

-- the guard alone leads from place 1 to place 2, and not back
not_back : IsNoLassoBy counting_down (lasso (0 ∷ []) (1 ∷ [])) (BadStep 3)
not_back = (
  (refl, tt),
  (refl, tt),
  inr (
    refl,
    (
      (1, (1, (inl refl, (refl, refl)))),
      λ place e r.
          (let a = (leads 0 0 e.0 e.1.0).by_enter refl in
          let b = (leads place 1 r.0 r.1.0).by_guard refl in
          let i = a.1 in
          let j = e.1.1.1 in
          let k = b.1 in
          let l = r.1.1.1 in
          omega (arith, i, j, k, l)),
    ),
  ),
)

-- the assignment does not lead from the start
no_stem : IsNoLassoBy counting_down (lasso (3 ∷ []) (1 ∷ 3 ∷ [])) (BadStep 2)
no_stem = (
  (refl, tt),
  (refl, (refl, tt)),
  inl (refl, λ place e. (let a = ((leads 0 3 e.0 e.1.0).by_step refl).0 in omega (arith, a))),
)

-- ---- turns and their refutations

-- at a column that the rows do not name all products and sums are 0
unnamed_fit : (c : ℕ) (rows : List LinearRow) (parts : List (ℕ × ℤ)) → AllByRecursion (λ t. coefficient c (row_at rows t.0).terms ≡ pos 0) parts →
    RunFits (λ r. coefficient c r.terms) rows (pos 0) parts
unnamed_fit c rows [] h = tt
unnamed_fit c rows (t ∷ ts) h =
    let e : t.1 *ℤ coefficient c (row_at rows t.0).terms ≡ pos 0 = ap (λ (z : ℤ). t.1 *ℤ z) h.0 ∙ product_zero_right t.1 in
    subst (λ (z : ℤ). Fits z × Fits (pos 0 +ℤ z) × RunFits (λ r. coefficient c r.terms) rows (pos 0 +ℤ z) ts) (sym e)
    (lit< tt, lit< tt, unnamed_fit c rows ts h.1)

unnamed_vanish : (c : ℕ) (rows : List LinearRow) (parts : List (ℕ × ℤ)) → AllByRecursion (λ t. coefficient c (row_at rows t.0).terms ≡ pos 0) parts →
    combined (λ r. coefficient c r.terms) rows parts ≡ pos 0
unnamed_vanish c rows [] h = refl
unnamed_vanish c rows (t ∷ ts) h =
    let e : t.1 *ℤ coefficient c (row_at rows t.0).terms ≡ pos 0 = ap (λ (z : ℤ). t.1 *ℤ z) h.0 ∙ product_zero_right t.1 in
    let f : combined (λ r. coefficient c r.terms) rows ts ≡ pos 0 = unnamed_vanish c rows ts h.1 in
    omega (arith, ints)

-- rows 0 and 1 are the guard and the assignment
turn : loop_turn counting_down once_around ≡
    record { rows = positive ∷ changed_by (negsuc 0) ∷ []; columns = 2; before = 0 ∷ []; after = 1 ∷ [] }
turn = refl

abbrev x_alone : List (ℕ × ℤ)
x_alone = (0, pos 1) ∷ []

abbrev twice : ℕ → ℕ → List (ℕ × ℤ)
twice i j = (i, pos 1) ∷ (j, pos 1) ∷ []

-- x' - x = -1 and x - x' <= 0
abbrev falling : List LinearRow
falling = positive ∷ changed_by (negsuc 0) ∷ record { terms = (0, pos 1) ∷ (1, negsuc 0) ∷ []; kind = Le; bound = pos 0 } ∷ []

falls_unnamed : (c : ℕ) → AllByRecursion (λ t. coefficient (suc (suc c)) (row_at falling t.0).terms ≡ pos 0) (twice 1 2)
falls_unnamed c = (
  coefficient_past (suc (suc c)) 2 (row_at falling 1).terms (omega arith) (lit< tt, (lit< tt, tt)),
  (coefficient_past (suc (suc c)) 2 (row_at falling 2).terms (omega arith) (lit< tt, (lit< tt, tt)), tt),
)

falls_fit : (c : ℕ) → RunFits (λ r. coefficient c r.terms) falling (pos 0) (twice 1 2)
falls_fit zero = (lit< tt, lit< tt, (lit< tt, lit< tt, tt))
falls_fit (suc zero) = (lit< tt, lit< tt, (lit< tt, lit< tt, tt))
falls_fit (suc (suc c)) = unnamed_fit (suc (suc c)) falling (twice 1 2) (falls_unnamed c)

falls_vanish : (c : ℕ) → combined (λ r. coefficient c r.terms) falling (twice 1 2) ≡ pos 0
falls_vanish zero = refl
falls_vanish (suc zero) = refl
falls_vanish (suc (suc c)) = unnamed_vanish (suc (suc c)) falling (twice 1 2) (falls_unnamed c)

-- they add up to 0 <= -1
falls : RefutesWith (loop_turn counting_down once_around) (unfallen (loop_turn counting_down once_around) x_alone) (leaf (twice 1 2) ∷ [])
unfolding content
falls = record {
  is_row = record {
    ascends = (omega arith, (omega arith, tt));
    coefficients = (record { is_not_zero = λ e. cc; fits = lit< tt }, (record { is_not_zero = λ e. cc; fits = lit< tt }, tt));
    bound_fits = lit< tt;
  };
  refutes = (
    record {
      ascends = (omega arith, (omega arith, tt));
      each = (record { exists = lit< tt; multiplies = λ e. cc }, (record { exists = lit< tt; multiplies = omega (arith, ints) }, tt));
      multipliers_fit = (lit< tt, (lit< tt, tt));
      columns_fit = falls_fit;
      bound_fits = (lit< tt, lit< tt, (lit< tt, lit< tt, tt));
      columns_vanish = falls_vanish;
      bound_negative = omega (arith, ints);
    },
    tt,
  );
}

-- x >= 1 and x <= b
abbrev low : ℤ → List LinearRow
low b = positive ∷ changed_by (negsuc 0) ∷ at_most (pos 1) b ∷ []

bounded_unnamed : (c : ℕ) → AllByRecursion (λ t. coefficient (suc c) (row_at (low (pos 0)) t.0).terms ≡ pos 0) (twice 0 2)
bounded_unnamed c = (
  coefficient_past (suc c) 1 (row_at (low (pos 0)) 0).terms (omega arith) (lit< tt, tt),
  (coefficient_past (suc c) 1 (row_at (low (pos 0)) 2).terms (omega arith) (lit< tt, tt), tt),
)

bounded_fit : (c : ℕ) → RunFits (λ r. coefficient c r.terms) (low (pos 0)) (pos 0) (twice 0 2)
bounded_fit zero = (lit< tt, lit< tt, (lit< tt, lit< tt, tt))
bounded_fit (suc c) = unnamed_fit (suc c) (low (pos 0)) (twice 0 2) (bounded_unnamed c)

bounded_vanish : (c : ℕ) → combined (λ r. coefficient c r.terms) (low (pos 0)) (twice 0 2) ≡ pos 0
bounded_vanish zero = refl
bounded_vanish (suc c) = unnamed_vanish (suc c) (low (pos 0)) (twice 0 2) (bounded_unnamed c)

bounded : RefutesWith (loop_turn counting_down once_around) (unbounded (loop_turn counting_down once_around) x_alone (pos 1)) (leaf (twice 0 2) ∷ [])
unfolding content
bounded = record {
  is_row = record {
    ascends = (omega arith, tt);
    coefficients = (record { is_not_zero = λ e. cc; fits = lit< tt }, tt);
    bound_fits = lit< tt;
  };
  refutes = (
    record {
      ascends = (omega arith, (omega arith, tt));
      each = (record { exists = lit< tt; multiplies = omega (arith, ints) }, (record { exists = lit< tt; multiplies = omega (arith, ints) }, tt));
      multipliers_fit = (lit< tt, (lit< tt, tt));
      columns_fit = bounded_fit;
      bound_fits = (lit< tt, lit< tt, (lit< tt, lit< tt, tt));
      columns_vanish = bounded_vanish;
      bound_negative = omega (arith, ints);
    },
    tt,
  );
}

ranks : Ranks counting_down once_around (ranked_by x_alone (pos 1) (leaf (twice 1 2) ∷ []) (leaf (twice 0 2) ∷ []))
ranks = (falls, bounded)

-- with the bound 2 the row is x <= 1, and the same leaf adds up to 0 <= 0
bound_2 : RefutesWith (loop_turn counting_down once_around) (unbounded (loop_turn counting_down once_around) x_alone (pos 2)) (leaf (twice 0 2) ∷ []) → ⊥
unfolding content
bound_2 h = let k = h.refutes.0.bound_negative in omega (arith, ints, k)

-- ---- an exclusion: assume x < 0; while (x > 0) { x := x - 1; }

abbrev excluding : Graph
excluding = record counting_down {
  automaton = record {
    states = 5;
    start = 0;
    finals = [];
    insides =
        (0, inside_letter 0, 1) ∷ (1, inside_letter 1, 2) ∷ (2, inside_letter 2, 3) ∷ (2, inside_letter 3, 4) ∷ (3, inside_letter 4, 2) ∷ [];
    calls = [];
    backs = [];
  };
  acts =
      guard [] ∷ guard (at_most (pos 1) (negsuc 0) ∷ []) ∷ guard (positive ∷ []) ∷ guard (at_most (pos 1) (pos 0) ∷ []) ∷ assignment (changed_by (negsuc 0) ∷ []) ∷ [];
  marks = false ∷ false ∷ false ∷ false ∷ false ∷ [];
  place_procs = 0 ∷ 0 ∷ 0 ∷ 0 ∷ 0 ∷ [];
  exits = Some 4 ∷ [];
}

abbrev behind : PlainLasso
behind = lasso (0 ∷ 1 ∷ []) (2 ∷ 4 ∷ [])

excluded_lasso : IsLassoOf excluding behind
excluded_lasso = record {
  stem = (refl, (refl, tt));
  loop = (refl, (refl, tt));
  place = 2;
  enters = (1, (inl refl, (2, (inr (inl refl), (refl, refl)))));
  returns = (3, (inr (inr (inl refl)), (2, (inr (inr (inr (inr (inl refl)))), (refl, refl)))));
}

abbrev none_left : List LinearRow
none_left = at_most (pos 1) (negsuc 0) ∷ positive ∷ changed_by (negsuc 0) ∷ []

whole : whole_turn excluding behind ≡ record { rows = none_left; columns = 2; before = 0 ∷ []; after = 1 ∷ [] }
whole = refl

excluded_unnamed : (c : ℕ) → AllByRecursion (λ t. coefficient (suc c) (row_at none_left t.0).terms ≡ pos 0) (twice 0 1)
excluded_unnamed c = (
  coefficient_past (suc c) 1 (row_at none_left 0).terms (omega arith) (lit< tt, tt),
  (coefficient_past (suc c) 1 (row_at none_left 1).terms (omega arith) (lit< tt, tt), tt),
)

excluded_fit : (c : ℕ) → RunFits (λ r. coefficient c r.terms) none_left (pos 0) (twice 0 1)
excluded_fit zero = (lit< tt, lit< tt, (lit< tt, lit< tt, tt))
excluded_fit (suc c) = unnamed_fit (suc c) none_left (twice 0 1) (excluded_unnamed c)

excluded_vanish : (c : ℕ) → combined (λ r. coefficient c r.terms) none_left (twice 0 1) ≡ pos 0
excluded_vanish zero = refl
excluded_vanish (suc c) = unnamed_vanish (suc c) none_left (twice 0 1) (excluded_unnamed c)

-- x <= -1 and -x <= -1 add up to 0 <= -2
excluded : Ranks excluding behind (excluded_by (leaf (twice 0 1) ∷ []))
unfolding content
excluded = (
  record {
    ascends = (omega arith, (omega arith, tt));
    each = (record { exists = lit< tt; multiplies = omega (arith, ints) }, (record { exists = lit< tt; multiplies = omega (arith, ints) }, tt));
    multipliers_fit = (lit< tt, (lit< tt, tt));
    columns_fit = excluded_fit;
    bound_fits = (lit< tt, lit< tt, (lit< tt, lit< tt, tt));
    columns_vanish = excluded_vanish;
    bound_negative = omega (arith, ints);
  },
  tt,
)

-- ---- the ranking system

abbrev value : ℕ → Fraction
value n = record { num = pos n; den = pos 1 }

-- l0 = 0, l1 = 1; m0 = 1, m1 = 0; and the coefficient 1
abbrev found_values : List Fraction
found_values = value 0 ∷ value 1 ∷ value 1 ∷ value 0 ∷ value 1 ∷ []

-- column by column, for the fall and for the bound: -l0 - l1 + r = 0, l1 - r = 0, -m0 - m1 + r = 0, m1 = 0; -l0 - l1 <= -1; l0 >= 0 and m0 >= 0
system : ranking_system (loop_turn counting_down once_around) ≡
    record { terms = (0, negsuc 0) ∷ (1, negsuc 0) ∷ (4, pos 1) ∷ []; kind = Eq; bound = pos 0 } ∷
    record { terms = (1, pos 1) ∷ (4, negsuc 0) ∷ []; kind = Eq; bound = pos 0 } ∷
    record { terms = (2, negsuc 0) ∷ (3, negsuc 0) ∷ (4, pos 1) ∷ []; kind = Eq; bound = pos 0 } ∷
    record { terms = (3, pos 1) ∷ []; kind = Eq; bound = pos 0 } ∷
    record { terms = (0, negsuc 0) ∷ (1, negsuc 0) ∷ []; kind = Le; bound = negsuc 0 } ∷
    record { terms = (0, negsuc 0) ∷ []; kind = Le; bound = pos 0 } ∷
    record { terms = (2, negsuc 0) ∷ []; kind = Le; bound = pos 0 } ∷ []
unfolding content
system = refl

found_point : elimination (unknowns (loop_turn counting_down once_around)) (ranking_system (loop_turn counting_down once_around)) ≡ point found_values
unfolding content common reduced
found_point = refl

found : ranking_at (loop_turn counting_down once_around) (map tightened (loop_turn counting_down once_around).rows) (scaled_point found_values) ≡
    ranked_by x_alone (pos 1) (leaf (twice 1 2) ∷ []) (leaf (twice 0 2) ∷ [])
unfolding content common
found = refl

-- ---- counting up has no rank: m1 = 0 and m0 = r, so r >= 0; l1 = r and l0 = 0, so r <= -1

no_rank : IsSolvable (ranking_system (loop_turn (loop (pos 1)) once_around)) → ⊥
unfolding content
no_rank h =
    let a = h.holds.0 in
    let b = h.holds.1.0 in
    let c = h.holds.1.1.0 in
    let e = h.holds.1.1.1.0 in
    let f = h.holds.1.1.1.1.0 in
    let i = h.holds.1.1.1.1.1.1.0 in
    let j = h.positive in
    omega (arith, ints, a, b, c, e, f, i, j)

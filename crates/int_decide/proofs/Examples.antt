-- The definitions at small systems, worked out by hand.
use Rattle.std.proofs.Common.{◌≡◌, pos, negsuc, [], ◌∷◌, map, refl}
use Rattle.lin_rows.specs.declared.types.RowKind.TheVariants.{Eq}
use Rattle.lin_rows.specs.Rows.{LinearRow}
use Rattle.lin_rows.specs.Tightening.{content, tightened}
use Rattle.farkas_check.specs.Nodes.{leaf, cut}
use Rattle.fm_elim.specs.Quotients.{common, reduced}
use Rattle.int_decide.specs.Decisions.{refuted, gap}
use Rattle.int_decide.specs.Decide.{decide_rows}

-- x = 5
x_is_5 : LinearRow
x_is_5 = record { terms = (0, pos 1) ∷ []; kind = Eq; bound = pos 5 }

-- 2y - x = 0
y_is_half_of_x : LinearRow
y_is_half_of_x = record { terms = (0, negsuc 0) ∷ (1, pos 2) ∷ []; kind = Eq; bound = pos 0 }

-- y is 5/2
no_cut : decide_rows 2 0 (x_is_5 ∷ y_is_half_of_x ∷ []) ≡ gap
unfolding content common reduced x_is_5 y_is_half_of_x
no_cut = refl

-- y at most 2, or at least 3: both sides are refuted
one_cut : decide_rows 2 1 (x_is_5 ∷ y_is_half_of_x ∷ []) ≡
    refuted (cut 1 (pos 2) ∷ leaf ((0, negsuc 0) ∷ (1, negsuc 0) ∷ (2, pos 2) ∷ []) ∷ leaf ((0, pos 1) ∷ (1, pos 1) ∷ (2, pos 2) ∷ []) ∷ [])
unfolding content common reduced x_is_5 y_is_half_of_x
one_cut = refl

-- 2y = 5
odd : LinearRow
odd = record { terms = (0, pos 2) ∷ []; kind = Eq; bound = pos 5 }

-- tightened, it is 0 <= -1
one_leaf : decide_rows 1 0 (map tightened (odd ∷ [])) ≡ refuted (leaf ((0, pos 1) ∷ []) ∷ [])
unfolding content common reduced odd
one_leaf = refl

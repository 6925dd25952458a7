-- Letters over two whole numbers x and y, which are columns 0 and 1, worked out.
use Rattle.std.proofs.Common.{◌≡◌, ℕ, ℤ, pos, negsuc, Bool, true, false, List, [], ◌∷◌, refl}
use Rattle.boogie_tree.specs.declared.span.Span.{Span}
use Rattle.boogie_tree.specs.declared.tree.Op.{Op}
use Rattle.boogie_tree.specs.declared.tree.Op.TheVariants as ops
use Rattle.boogie_tree.specs.declared.tree.Ty.TheVariants as types
use Rattle.boogie_tree.specs.declared.tree.Column.TheVariants as columns
use Rattle.boogie_tree.specs.declared.tree.VarInfo.{VarInfo}
use Rattle.lin_rows.specs.declared.types.RowKind.TheVariants.{Le, Eq}
use Rattle.lin_rows.specs.Rows.{LinearRow}
use Rattle.typed_tree.specs.TypedTree.{TypedExpression, Lit, Var, Bin}
use Rattle.letter_acts.specs.Frames.{Columns}
use Rattle.cond_jumps.specs.FreeProducts.Letters.{MarkedConjunction}
use Rattle.cond_jumps.specs.FreeProducts.FrameLetters.{path_letters, assign_letters, passed_letters}

here : Span
here = record { line = 1; col = 1 }

abbrev number : VarInfo
number = record { name = []; ty = types.Int; constant = false }

abbrev two_locals : Columns
two_locals = (columns.Local 0, number) ∷ (columns.Local 1, number) ∷ []

abbrev x : TypedExpression
x = Var here (columns.Local 0)

abbrev y : TypedExpression
y = Var here (columns.Local 1)

abbrev literal : ℤ → TypedExpression
literal k = Lit here k

abbrev of : Op → TypedExpression → TypedExpression → TypedExpression
of op a b = Bin here op a b

abbrev times : TypedExpression → TypedExpression → TypedExpression
times a b = Bin here ops.Mul a b

abbrev plus : TypedExpression → TypedExpression → TypedExpression
plus a b = Bin here ops.Add a b

abbrev half : TypedExpression → TypedExpression
half a = Bin here ops.Div a (Lit here (pos 2))

abbrev letters : TypedExpression → Bool → List MarkedConjunction
letters e want = path_letters two_locals 2 e want

abbrev at_most : List (ℕ × ℤ) → ℤ → LinearRow
at_most ts b = record { terms = ts; kind = Le; bound = b }

abbrev equals : List (ℕ × ℤ) → ℤ → LinearRow
equals ts b = record { terms = ts; kind = Eq; bound = b }

abbrev marked : List LinearRow → ℕ → Bool → MarkedConjunction
marked rows helpers coarse = record { plain = record { rows = rows; helpers = helpers }; coarse = coarse }

-- ---- conditions

-- x*y <= 4: c2 <= 4
product_at_most_4 : letters (of ops.Le (times x y) (literal (pos 4))) true ≡ marked (at_most ((2, pos 1) ∷ []) (pos 4) ∷ []) 1 true ∷ []
product_at_most_4 = refl

-- x*x >= 0, false: c2 <= -1
square_below_0 : letters (of ops.Ge (times x x) (literal (pos 0))) false ≡ marked (at_most ((2, pos 1) ∷ []) (negsuc 0) ∷ []) 1 true ∷ []
square_below_0 = refl

-- x*y == 1, false: c2 <= 0, or -c2 <= -2
product_not_1 : letters (of ops.Eq (times x y) (literal (pos 1))) false ≡
    marked (at_most ((2, pos 1) ∷ []) (pos 0) ∷ []) 1 true ∷ marked (at_most ((2, negsuc 0) ∷ []) (negsuc 1) ∷ []) 1 true ∷ []
product_not_1 = refl

-- (2-2)*x == y: -c1 = 0, no product
constant_factor : letters (of ops.Eq (times (of ops.Sub (literal (pos 2)) (literal (pos 2))) x) y) true ≡ marked (equals ((1, negsuc 0) ∷ []) (pos 0) ∷ []) 0 false ∷ []
constant_factor = refl

-- 0*(x*y) == x: -c0 = 0, the product's helper goes
times_0 : letters (of ops.Eq (times (literal (pos 0)) (times x y)) x) true ≡ marked (equals ((0, negsuc 0) ∷ []) (pos 0) ∷ []) 0 false ∷ []
times_0 = refl

-- 0*(x*y) + x div 2 == y: the helper of the division moves down
times_0_and_half : letters (of ops.Eq (plus (times (literal (pos 0)) (times x y)) (half x)) y) true ≡
    marked (at_most ((0, negsuc 0) ∷ (2, pos 2) ∷ []) (pos 0) ∷ at_most ((0, pos 1) ∷ (2, negsuc 1) ∷ []) (pos 1) ∷ equals ((1, negsuc 0) ∷ (2, pos 1) ∷ []) (pos 0) ∷ []) 1 false ∷ []
times_0_and_half = refl

-- x div 2 + x*y >= 1: the division's helper comes first
half_plus_product : letters (of ops.Ge (plus (half x) (times x y)) (literal (pos 1))) true ≡
    marked (at_most ((0, negsuc 0) ∷ (2, pos 2) ∷ []) (pos 0) ∷ at_most ((0, pos 1) ∷ (2, negsuc 1) ∷ []) (pos 1) ∷ at_most ((2, negsuc 0) ∷ (3, negsuc 0) ∷ []) (negsuc 0) ∷ []) 2 true ∷ []
half_plus_product = refl

-- x*y + x div 2 >= 1: the product's helper comes first
product_plus_half : letters (of ops.Ge (plus (times x y) (half x)) (literal (pos 1))) true ≡
    marked (at_most ((0, negsuc 0) ∷ (3, pos 2) ∷ []) (pos 0) ∷ at_most ((0, pos 1) ∷ (3, negsuc 1) ∷ []) (pos 1) ∷ at_most ((2, negsuc 0) ∷ (3, negsuc 0) ∷ []) (negsuc 0) ∷ []) 2 true ∷ []
product_plus_half = refl

-- (x*y) div 2 == 1: a product is divided
half_of_product : letters (of ops.Eq (half (times x y)) (literal (pos 1))) true ≡
    marked (at_most ((2, negsuc 0) ∷ (3, pos 2) ∷ []) (pos 0) ∷ at_most ((2, pos 1) ∷ (3, negsuc 1) ∷ []) (pos 1) ∷ equals ((3, pos 1) ∷ []) (pos 1) ∷ []) 2 true ∷ []
half_of_product = refl

-- (x div 2)*y < x: what stands in a product has no helper
half_in_product : letters (of ops.Lt (times (half x) y) x) true ≡ marked (at_most ((0, negsuc 0) ∷ (2, pos 1) ∷ []) (negsuc 0) ∷ []) 1 true ∷ []
half_in_product = refl

-- x*(y*x) < x: the outer product alone
product_in_product : letters (of ops.Lt (times x (times y x)) x) true ≡ marked (at_most ((0, negsuc 0) ∷ (2, pos 1) ∷ []) (negsuc 0) ∷ []) 1 true ∷ []
product_in_product = refl

-- x*y - x*y == 0: two occurrences are two helpers
two_occurrences : letters (of ops.Eq (of ops.Sub (times x y) (times x y)) (literal (pos 0))) true ≡ marked (equals ((2, pos 1) ∷ (3, negsuc 0) ∷ []) (pos 0) ∷ []) 2 true ∷ []
two_occurrences = refl

-- y < x || x*y > x div 2: the first letter names no product and is exact, the second is coarse
exact_or_coarse : letters (of ops.Or (of ops.Lt y x) (of ops.Gt (times x y) (half x))) true ≡
    marked (at_most ((0, negsuc 0) ∷ (1, pos 1) ∷ []) (negsuc 0) ∷ []) 0 false ∷
    marked (at_most ((0, pos 1) ∷ (1, negsuc 0) ∷ []) (pos 0) ∷ at_most ((0, negsuc 0) ∷ (3, pos 2) ∷ []) (pos 0) ∷ at_most ((0, pos 1) ∷ (3, negsuc 1) ∷ []) (pos 1) ∷
    at_most ((2, negsuc 0) ∷ (3, pos 1) ∷ []) (negsuc 0) ∷ []) 2 true ∷ []
exact_or_coarse = refl

-- (x*y - x*y)*y < x: the factor in front has atoms, so its product with y is free
difference_times : letters (of ops.Lt (times (of ops.Sub (times x y) (times x y)) y) x) true ≡ marked (at_most ((0, negsuc 0) ∷ (2, pos 1) ∷ []) (negsuc 0) ∷ []) 1 true ∷ []
difference_times = refl

-- 0*(x*y)*y < x: the factor in front is constant
times_0_times : letters (of ops.Lt (times (times (literal (pos 0)) (times x y)) y) x) true ≡ marked (at_most ((0, negsuc 0) ∷ []) (negsuc 0) ∷ []) 0 false ∷ []
times_0_times = refl

-- ---- assignments: the written columns stand behind x and y

-- x := x*y
gets_product : assign_letters two_locals 2 1 (times x y ∷ []) ≡ marked (equals ((2, pos 1) ∷ (3, negsuc 0) ∷ []) (pos 0) ∷ []) 1 true ∷ []
gets_product = refl

-- b := x*y < 3
gets_truth : assign_letters two_locals 2 1 (of ops.Lt (times x y) (literal (pos 3)) ∷ []) ≡
    marked (at_most ((3, pos 1) ∷ []) (pos 2) ∷ equals ((2, pos 1) ∷ []) (pos 1) ∷ []) 1 true ∷
    marked (at_most ((3, negsuc 0) ∷ []) (negsuc 2) ∷ equals ((2, pos 1) ∷ []) (pos 0) ∷ []) 1 true ∷ []
gets_truth = refl

-- x, y := x*y, x div 2
gets_both : assign_letters two_locals 2 2 (times x y ∷ half x ∷ []) ≡
    marked (equals ((2, pos 1) ∷ (4, negsuc 0) ∷ []) (pos 0) ∷ at_most ((0, negsuc 0) ∷ (5, pos 2) ∷ []) (pos 0) ∷ at_most ((0, pos 1) ∷ (5, negsuc 1) ∷ []) (pos 1) ∷
    equals ((3, pos 1) ∷ (5, negsuc 0) ∷ []) (pos 0) ∷ []) 2 true ∷ []
gets_both = refl

-- ---- conditions of a called procedure, whose parameters n and m are its first locals, as x and y are the caller's

abbrev n : TypedExpression
n = x

abbrev m : TypedExpression
m = y

abbrev called : List TypedExpression → TypedExpression → List MarkedConjunction
called args e = passed_letters two_locals 2 args e true

-- n*m > 0 of 3 and x: the literal is put in, so no product is free
literal_argument : called (literal (pos 3) ∷ x ∷ []) (of ops.Gt (times n m) (literal (pos 0))) ≡ marked (at_most ((0, negsuc 2) ∷ []) (negsuc 0) ∷ []) 0 false ∷ []
literal_argument = refl

-- n*m > 0 of x and y
product_of_parameters : called (x ∷ y ∷ []) (of ops.Gt (times n m) (literal (pos 0))) ≡ marked (at_most ((2, negsuc 0) ∷ []) (negsuc 0) ∷ []) 1 true ∷ []
product_of_parameters = refl

-- n*m > 0 && n*m < 9 of x and y: two occurrences
two_products_of_parameters : called (x ∷ y ∷ []) (of ops.And (of ops.Gt (times n m) (literal (pos 0))) (of ops.Lt (times n m) (literal (pos 9)))) ≡
    marked (at_most ((2, negsuc 0) ∷ []) (negsuc 0) ∷ at_most ((3, pos 1) ∷ []) (pos 8) ∷ []) 2 true ∷ []
two_products_of_parameters = refl

-- n < m + n of x*y and y: the argument stands twice, so it has two helpers
argument_twice : called (times x y ∷ y ∷ []) (of ops.Lt n (plus m n)) ≡ marked (at_most ((1, negsuc 0) ∷ (2, pos 1) ∷ (3, negsuc 0) ∷ []) (negsuc 0) ∷ []) 2 true ∷ []
argument_twice = refl

-- n > 3 of x*y and y, where m is not read
product_as_argument : called (times x y ∷ y ∷ []) (of ops.Gt n (literal (pos 3))) ≡ marked (at_most ((2, negsuc 0) ∷ []) (negsuc 3) ∷ []) 1 true ∷ []
product_as_argument = refl

-- m > 3 of x*y and y: the product is not read, and nothing of it stands in the letter
unread_argument : called (times x y ∷ y ∷ []) (of ops.Gt m (literal (pos 3))) ≡ marked (at_most ((1, negsuc 0) ∷ []) (negsuc 3) ∷ []) 0 false ∷ []
unread_argument = refl

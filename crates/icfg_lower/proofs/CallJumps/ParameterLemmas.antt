-- The list of a call's arguments has one member, whose rows come argument by argument.
use Rattle.std.proofs.Common.{◌≡◌, ℕ, zero, suc, ◌+◌, ◌<◌, ◌≤◌, Bool, true, false, ◌&&◌, ◌||◌, ℤ, pos, List, [], ◌∷◌, ◌++◌, map, length, get_or, drop, refl, sym, ◌∙◌, ap, subst, append_assoc, arith}
use Rattle.std.specs.List.{list_all}
use Rattle.std.proofs.lemmas.Bool.{and_parts}
use Rattle.std.proofs.lemmas.List.{append-nil}
use Rattle.std.proofs.Math.Seq.{drop-cons}
use Rattle.std.proofs.lemmas.List.Folds.{list_all-append}
use Rattle.lin_rows.specs.Rows.{LinearRow}
use Rattle.typed_tree.specs.TypedTree.{TypedExpression, Lit, Truth, Var, Old, Not, Neg, Bin}
use Rattle.typed_tree.specs.TypedView.{expression}
use Rattle.typed_tree.specs.declared.types.TExpr.{TExpr}
use Rattle.typed_tree.specs.AffineForm.{fits}
use Rattle.cond_jumps.specs.Conjunctions.{Conjunction, joined, Plan, Just, Then, With, listed_plan, is_long, is_wide, row_fits, list_fits, all_fit}
use Rattle.cond_jumps.specs.Comparisons.{compared, equal}
use Rattle.cond_jumps.specs.Environments.{Environment}
use Rattle.cond_jumps.specs.Forms.{linear_number, column, linear_minus, after}
use Rattle.cond_jumps.specs.Moving.{moved_terms, moved_row, moved, IsEvenSum, IsEvenPlan, IsEvenEnvironment}
use Rattle.cond_jumps.specs.Paths.{linear}
use Rattle.cond_jumps.proofs.EvenLemmas.{listed_even, equal_even, linear_even}
use Rattle.cond_jumps.proofs.MovingLemmas.{column_even}
use Rattle.lowered_graph.specs.LoweredSteps.Edges.{argument_sum, parameters_get}
use Rattle.icfg_lower.specs.CallJumps.Ties.Arguments.{whole}
use Rattle.icfg_lower.specs.CallJumps.Ties.ParameterView.{AreSoFar}

-- ---- arguments as whole numbers

pub whole_sum : (v : Environment) (e : TypedExpression) → linear v false (whole e) ≡ argument_sum v e
whole_sum v (Lit at n) = refl
whole_sum v (Truth at b) = refl
whole_sum v (Var at c) = refl
whole_sum v (Old at e) = refl
whole_sum v (Not at e) = ap (linear_minus (linear_number (pos 1))) (whole_sum v e)
whole_sum v (Neg at e) = refl
whole_sum v (Bin at op a b) = refl

argument_even : (w : ℕ) (v : Environment) → IsEvenEnvironment w v → (e : TypedExpression) → IsEvenSum w (argument_sum v e)
argument_even w v h e = subst (IsEvenSum w) (whole_sum v e) (linear_even w v h false (whole e))

-- the conjunction of a parameter
abbrev pub one_get : Environment → ℕ → TypedExpression → ℕ → Conjunction
one_get v j e n =
    let x = column j n in
    let y = after (column j) (argument_sum v e) n in
    record { rows = (x.rows ++ y.rows) ++ equal x y ∷ []; helpers = x.helpers + y.helpers }

-- ---- one member

-- a list of one
record IsSingle (cs : List Conjunction) : Type 0 where
  member : Conjunction
  only : cs ≡ member ∷ []

get_single : (v : Environment) (j : ℕ) (es : List TypedExpression) (n : ℕ) → IsSingle (listed_plan (parameters_get v j es) n)
get_single v j [] n = record { member = record { rows = []; helpers = 0 }; only = refl }
get_single v j (e ∷ es) n =
    let k : Conjunction = one_get v j e n in
    let h = get_single v (suc j) es (n + k.helpers) in
    record { member = joined k h.member; only = λ i. map (joined k) (h.only i) ++ [] }

short : (x y z : Bool) (cs : List Conjunction) → (h : IsSingle cs) → y ≡ false → z ≡ false → (is_long cs || (y || z)) ≡ false
short x y z cs h k l = λ i. is_long (h.only i) || (k i || l i)

pub get_narrow : (v : Environment) (j : ℕ) (es : List TypedExpression) (n : ℕ) → is_wide (parameters_get v j es) n ≡ false
get_narrow v j [] n = refl
get_narrow v j (e ∷ es) n =
    short false false (is_wide (parameters_get v (suc j) es) n) (listed_plan (parameters_get v j (e ∷ es)) n) (get_single v j (e ∷ es) n) refl (get_narrow v (suc j) es n)

-- ---- rows that fit

both_true : (x y : Bool) → x ≡ true → y ≡ true → (x && y) ≡ true
both_true x y h k = λ j. h j && k j

rows_append : (rs ss : List LinearRow) → list_all row_fits rs ≡ true → list_all row_fits ss ≡ true → list_all row_fits (rs ++ ss) ≡ true
rows_append rs ss h k = list_all-append row_fits rs ss ∙ both_true (list_all row_fits rs) (list_all row_fits ss) h k

moved_terms_fit : (w k : ℕ) (ts : List (ℕ × ℤ)) → list_all (λ t. fits t.1) (moved_terms w k ts) ≡ list_all (λ t. fits t.1) ts
moved_terms_fit w k [] = refl
moved_terms_fit w k (t ∷ ts) = ap (λ (b : Bool). fits t.1 && b) (moved_terms_fit w k ts)

moved_rows_fit : (w k : ℕ) (rows : List LinearRow) → list_all row_fits (map (moved_row w k) rows) ≡ list_all row_fits rows
moved_rows_fit w k [] = refl
moved_rows_fit w k (r ∷ rows) =
    let e : row_fits (moved_row w k r) ≡ row_fits r = ap (λ (b : Bool). b && fits r.bound) (moved_terms_fit w k r.terms) in
    let f = moved_rows_fit w k rows in
    λ j. e j && f j

moved_list_fits : (w k : ℕ) (cs : List Conjunction) → list_fits (map (moved w k) cs) ≡ list_fits cs
moved_list_fits w k [] = refl
moved_list_fits w k (c ∷ cs) = λ j. moved_rows_fit w k c.rows j && moved_list_fits w k cs j

and_true : (b : Bool) → (b && true) ≡ b
and_true true = refl
and_true false = refl

-- what fits of one joined to others
joined_parts : (k : Conjunction) (cs : List Conjunction) → IsSingle cs → list_fits (map (joined k) cs ++ []) ≡ true → (list_all row_fits k.rows ≡ true) × (list_fits cs ≡ true)
joined_parts k cs h f =
    let c : Conjunction = h.member in
    let g : list_fits (joined k c ∷ []) ≡ true = (λ j. list_fits (map (joined k) (sym h.only j) ++ [])) ∙ f in
    let a : list_all row_fits (k.rows ++ c.rows) ≡ true = sym (and_true (list_all row_fits (k.rows ++ c.rows))) ∙ g in
    let p = and_parts (list_all row_fits k.rows) (list_all row_fits c.rows) (sym (list_all-append row_fits k.rows c.rows) ∙ a) in
    (p.0, (λ j. list_fits (h.only j)) ∙ and_true (list_all row_fits c.rows) ∙ p.1)

-- the plan is even from a column on behind the parameters
get_even : (w : ℕ) (v : Environment) → IsEvenEnvironment w v → (j : ℕ) (es : List TypedExpression) → j + length es ≤ w → IsEvenPlan w (parameters_get v j es)
get_even w v h j [] l = λ n k m. refl
get_even w v h j (e ∷ es) l =
    (equal_even w (column j) (argument_sum v e) (column_even w j (omega arith)) (argument_even w v h e), get_even w v h (suc j) es (omega arith))

-- where the list fits, each part does
pub get_fits : (w : ℕ) (v : Environment) → IsEvenEnvironment w v → (j : ℕ) (es : List TypedExpression) → j + length es ≤ w → list_fits (listed_plan (parameters_get v j es) w) ≡ true →
    all_fit (parameters_get v j es) w ≡ true
get_fits w v h j [] l f = f
get_fits w v h j (e ∷ es) l f =
    let k : Conjunction = one_get v j e w in
    let rest : Plan = parameters_get v (suc j) es in
    let m : suc j + length es ≤ w = omega arith in
    let p = joined_parts k (listed_plan rest (w + k.helpers)) (get_single v (suc j) es (w + k.helpers)) f in
    let q : listed_plan rest (w + k.helpers) ≡ map (moved w k.helpers) (listed_plan rest w) = listed_even w rest (get_even w v h (suc j) es m) w k.helpers (omega arith) in
    let r : list_fits (listed_plan rest w) ≡ true = sym (moved_list_fits w k.helpers (listed_plan rest w)) ∙ sym (ap list_fits q) ∙ p.1 in
    both_true (list_fits (listed_plan (parameters_get v j (e ∷ es)) w)) (list_fits (k ∷ []) && all_fit rest w) f
    (both_true (list_fits (k ∷ [])) (all_fit rest w) (and_true (list_all row_fits k.rows) ∙ p.0) (get_fits w v h (suc j) es m r))

pub unfit : (p : Plan) (n : ℕ) → list_fits (listed_plan p n) ≡ false → all_fit p n ≡ false
unfit (Just a) n h = h
unfit (Then a b) n h = λ j. h j && (all_fit a n && all_fit b n)
unfit (With a b) n h = λ j. h j && (all_fit a n && all_fit b n)

-- ---- step by step

map_joined : (c k : Conjunction) (cs : List Conjunction) → map (joined c) (map (joined k) cs ++ []) ≡ map (joined (joined c k)) cs
map_joined c k [] = refl
map_joined c k (d ∷ ds) =
    let e : joined c (joined k d) ≡ joined (joined c k) d =
    (λ j. record { rows = sym (append_assoc c.rows k.rows d.rows) j; helpers = (let f : c.helpers + (k.helpers + d.helpers) ≡ (c.helpers + k.helpers) + d.helpers = omega arith in f) j }) in
    λ j. e j ∷ map_joined c k ds j

pub none_yet : (v : Environment) (first base : ℕ) (args : List TypedExpression) → AreSoFar v first base args 0 (record { rows = []; helpers = 0 })
none_yet v first base args =
    let empty : Conjunction = record { rows = []; helpers = 0 } in
    let e : base + 0 ≡ base = omega arith in
    let f : first + 0 ≡ first = omega arith in
    record {
      seen = sym ((λ j. map (joined empty) (listed_plan (parameters_get v (f j) args) (e j))) ∙ unchanged (listed_plan (parameters_get v first args) base));
      fit = refl;
    }
  where
    unchanged : (cs : List Conjunction) → map (joined (record { rows = []; helpers = 0 })) cs ≡ cs
    unchanged [] = refl
    unchanged (c ∷ cs) =
        let e : 0 + c.helpers ≡ c.helpers = omega arith in
        λ j. record { rows = c.rows; helpers = e j } ∷ unchanged cs j

-- the list where one more argument is known
pub with_next : (v : Environment) (first base : ℕ) (args : List TypedExpression) (place : ℕ) (c : Conjunction) (e : TypedExpression) → drop place args ≡ e ∷ drop (place + 1) args →
    AreSoFar v first base args place c → listed_plan (parameters_get v first args) base ≡
    map (joined (joined c (one_get v (first + place) e (base + c.helpers)))) (listed_plan (parameters_get v (first + (place + 1)) (drop (place + 1) args)) (base + (c.helpers + (one_get v (first + place) e (base + c.helpers)).helpers)))
with_next v first base args place c e d h =
    let k : Conjunction = one_get v (first + place) e (base + c.helpers) in
    let es : List TypedExpression = drop (place + 1) args in
    let f : suc (first + place) ≡ first + (place + 1) = omega arith in
    let g : base + c.helpers + k.helpers ≡ base + (c.helpers + k.helpers) = omega arith in
    h.seen
    ∙ (λ j. map (joined c) (listed_plan (parameters_get v (first + place) (d j)) (base + c.helpers)))
    ∙ map_joined c k (listed_plan (parameters_get v (suc (first + place)) es) (base + c.helpers + k.helpers))
    ∙ (λ j. map (joined (joined c k)) (listed_plan (parameters_get v (f j) es) (g j)))

pub one_more : (v : Environment) (first base : ℕ) (args : List TypedExpression) (place : ℕ) (c k both : Conjunction) (e : TypedExpression) → drop place args ≡ e ∷ drop (place + 1) args →
    AreSoFar v first base args place c → k ∷ [] ≡ compared equal (column (first + place)) (argument_sum v e) (base + c.helpers) →
    list_fits (compared equal (column (first + place)) (argument_sum v e) (base + c.helpers)) ≡ true → both ≡ joined c k → AreSoFar v first base args (place + 1) both
one_more v first base args place c k both e d h i f b =
    let one : Conjunction = one_get v (first + place) e (base + c.helpers) in
    let a : k ≡ one = cc in
    let P : Conjunction → Type 0 = λ z. AreSoFar v first base args (place + 1) z in
    let g : list_all row_fits one.rows ≡ true = sym (and_true (list_all row_fits one.rows)) ∙ f in
    let s : AreSoFar v first base args (place + 1) (joined c one) = record { seen = with_next v first base args place c e d h; fit = rows_append c.rows one.rows h.fit g } in
    subst P (sym (b ∙ ap (joined c) a)) s

-- a row of the next argument that does not fit
pub next_unfit : (v : Environment) (first base : ℕ) (args : List TypedExpression) (place : ℕ) (c : Conjunction) (e : TypedExpression) → drop place args ≡ e ∷ drop (place + 1) args →
    AreSoFar v first base args place c → list_fits (compared equal (column (first + place)) (argument_sum v e) (base + c.helpers)) ≡ false →
    all_fit (parameters_get v first args) base ≡ false
next_unfit v first base args place c e d h f =
    let k : Conjunction = one_get v (first + place) e (base + c.helpers) in
    let rest = get_single v (first + (place + 1)) (drop (place + 1) args) (base + (c.helpers + k.helpers)) in
    let m : Conjunction = rest.member in
    let s : listed_plan (parameters_get v first args) base ≡ joined (joined c k) m ∷ [] = with_next v first base args place c e d h ∙ (λ j. map (joined (joined c k)) (rest.only j)) in
    let g : list_all row_fits k.rows ≡ false = sym (and_true (list_all row_fits k.rows)) ∙ f in
    let a : list_all row_fits (c.rows ++ k.rows) ≡ false = list_all-append row_fits c.rows k.rows ∙ second (list_all row_fits c.rows) (list_all row_fits k.rows) g in
    let b : list_all row_fits ((c.rows ++ k.rows) ++ m.rows) ≡ false = list_all-append row_fits (c.rows ++ k.rows) m.rows ∙ (λ j. a j && list_all row_fits m.rows) in
    unfit (parameters_get v first args) base (ap list_fits s ∙ (λ j. b j && true))
  where
    second : (x y : Bool) → y ≡ false → (x && y) ≡ false
    second true y h = h
    second false y h = refl

-- all arguments
pub all_there : (v : Environment) (first base : ℕ) (args : List TypedExpression) (place : ℕ) (c : Conjunction) → drop place args ≡ [] → AreSoFar v first base args place c →
    c ∷ [] ≡ listed_plan (parameters_get v first args) base
all_there v first base args place c d h =
    let e : c.helpers + 0 ≡ c.helpers = omega arith in
    sym (h.seen ∙ (λ j. map (joined c) (listed_plan (parameters_get v (first + place) (d j)) (base + c.helpers))) ∙ (λ j. record { rows = append-nil c.rows j; helpers = e j } ∷ []))

pub all_fit_there : (w : ℕ) (v : Environment) → IsEvenEnvironment w v → (first : ℕ) (args : List TypedExpression) (place : ℕ) (c : Conjunction) → first + length args ≤ w →
    drop place args ≡ [] → AreSoFar v first w args place c → all_fit (parameters_get v first args) w ≡ true
all_fit_there w v h first args place c l d s =
    get_fits w v h first args l (sym (ap list_fits (all_there v first w args place c d s)) ∙ and_true (list_all row_fits c.rows) ∙ s.fit)

-- ---- as the code has them

pub one_more_at : (v : Environment) (first base linear_number next : ℕ) (args : List TypedExpression) (place : ℕ) (c k both : Conjunction) (e : TypedExpression) →
    drop place args ≡ e ∷ drop (place + 1) args → AreSoFar v first base args place c → linear_number ≡ first + place → next ≡ base + c.helpers →
    k ∷ [] ≡ compared equal (column linear_number) (argument_sum v e) next → list_fits (compared equal (column linear_number) (argument_sum v e) next) ≡ true → both ≡ joined c k →
    AreSoFar v first base args (place + 1) both
one_more_at v first base linear_number next args place c k both e d h m n i f b =
    one_more v first base args place c k both e d h (i ∙ (λ j. compared equal (column (m j)) (argument_sum v e) (n j)))
    ((λ j. list_fits (compared equal (column (sym m j)) (argument_sum v e) (sym n j))) ∙ f) b

pub next_unfit_at : (v : Environment) (first base linear_number next : ℕ) (args : List TypedExpression) (place : ℕ) (c : Conjunction) (e : TypedExpression) →
    drop place args ≡ e ∷ drop (place + 1) args → AreSoFar v first base args place c → linear_number ≡ first + place → next ≡ base + c.helpers →
    list_fits (compared equal (column linear_number) (argument_sum v e) next) ≡ false → all_fit (parameters_get v first args) base ≡ false
next_unfit_at v first base linear_number next args place c e d h m n f =
    next_unfit v first base args place c e d h ((λ j. list_fits (compared equal (column (sym m j)) (argument_sum v e) (sym n j))) ∙ f)

drop_mapped : (place : ℕ) (xs : List TExpr) → drop place (map expression xs) ≡ map expression (drop place xs)
drop_mapped zero xs = refl
drop_mapped (suc place) [] = refl
drop_mapped (suc place) (x ∷ xs) = drop_mapped place xs

pub at_place : (place : ℕ) (xs : List TExpr) (x : TExpr) → place < length xs → x ≡ get_or xs place x → drop place (map expression xs) ≡ expression x ∷ drop (place + 1) (map expression xs)
at_place place xs x l i =
    let e : suc place ≡ place + 1 = omega arith in
    drop_mapped place xs ∙ ap (map expression) (drop-cons xs place x l) ∙ (λ j. expression (sym i j) ∷ map expression (drop (e j) xs))
    ∙ (λ j. expression x ∷ sym (drop_mapped (place + 1) xs) j)

pub past_end : (place : ℕ) (xs : List TExpr) → length xs ≤ place → drop place (map expression xs) ≡ []
past_end zero [] l = refl
past_end zero (x ∷ xs) l = absurd (omega arith)
past_end (suc place) [] l = refl
past_end (suc place) (x ∷ xs) l = past_end place xs (omega arith)

pub length-mapped : (xs : List TExpr) → length (map expression xs) ≡ length xs
length-mapped [] = refl
length-mapped (x ∷ xs) = ap suc (length-mapped xs)

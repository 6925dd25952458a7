-- What the code answers for plans.
use Rattle.std.proofs.Common.{◌≡◌, ℕ, ◌+◌, ◌≤◌, Bool, true, false, ◌&&◌, ℤ, List, [], ◌∷◌, ◌++◌, map, refl, sym, ◌∙◌, ap, subst, arith}
use Rattle.std.specs.Prelude.{Vec}
use Rattle.std.specs.Global.{Global}
use Rattle.std.specs.List.{list_all}
use Rattle.std.proofs.lemmas.Bool.{and_parts}
use Rattle.std.proofs.lemmas.List.{append-nil}
use Rattle.std.proofs.lemmas.List.Folds.{list_all-append}
use Rattle.lin_rows.specs.Rows.{LinearRow}
use Rattle.typed_tree.specs.AffineForm.{fits}
use Rattle.boogie_tree.specs.declared.tree.Op.{Op}
use Rattle.boogie_tree.specs.declared.tree.Op.TheVariants.{Iff, Implies, And, Or, Eq, Ne, Lt, Le, Gt, Ge, Add, Sub, Mul, Div, Mod}
use Rattle.cond_jumps.specs.declared.conj.Conj.{Conj}
use Rattle.cond_jumps.specs.Conjunctions.{Conjunction, Jumps, joined, each_with, Plan, Just, Then, With, listed_plan, row_fits, list_fits, all_fit}
use Rattle.cond_jumps.specs.Comparisons.{operation_plan}
use Rattle.cond_jumps.specs.Conjs.{conjunction, conjunctions}
use Rattle.cond_jumps.specs.Forms.{Linears}
use Rattle.cond_jumps.specs.Ties.JoinView.{each_moved, helpers_before, each_behind}
use Rattle.cond_jumps.specs.Moving.{moved_terms, moved_row, moved, IsEven, IsEvenPlan}
use Rattle.cond_jumps.specs.ListView.{IsPlanList, sums_plan, shape_of, plan_of}
use Rattle.cond_jumps.specs.Ties.PairView.{crossed}
use Rattle.cond_jumps.proofs.MovingLemmas.{map_append}
use Rattle.cond_jumps.proofs.EvenLemmas.{listed_even}

-- ---- numbers that fit

both_true : (x y : Bool) → x ≡ true → y ≡ true → (x && y) ≡ true
both_true x y h k = λ j. h j && k j

fits_append : (cs ds : List Conjunction) → list_fits cs ≡ true → list_fits ds ≡ true → list_fits (cs ++ ds) ≡ true
fits_append cs ds h k = list_all-append (λ (c : Conjunction). list_all row_fits c.rows) cs ds ∙ both_true (list_fits cs) (list_fits ds) h k

-- the list of a plan fits where all fit
plan_fits : (p : Plan) (n : ℕ) → all_fit p n ≡ true → list_fits (listed_plan p n) ≡ true
plan_fits (Just a) n h = h
plan_fits (Then a b) n h = (and_parts (list_fits (listed_plan (Then a b) n)) (all_fit a n && all_fit b n) h).0
plan_fits (With a b) n h = (and_parts (list_fits (listed_plan (With a b) n)) (all_fit a n && all_fit b n) h).0

moved_terms_fit : (w k : ℕ) (ts : List (ℕ × ℤ)) → list_all (λ t. fits t.1) (moved_terms w k ts) ≡ list_all (λ t. fits t.1) ts
moved_terms_fit w k [] = refl
moved_terms_fit w k (t ∷ ts) = ap (λ (b : Bool). fits t.1 && b) (moved_terms_fit w k ts)

moved_rows_fit : (w k : ℕ) (rows : List LinearRow) → list_all row_fits (map (moved_row w k) rows) ≡ list_all row_fits rows
moved_rows_fit w k [] = refl
moved_rows_fit w k (r ∷ rows) =
    let e : row_fits (moved_row w k r) ≡ row_fits r = ap (λ (b : Bool). b && fits r.bound) (moved_terms_fit w k r.terms) in
    let f = moved_rows_fit w k rows in
    λ j. e j && f j

joined_fits : (w : ℕ) (c : Conjunction) (ds : List Conjunction) → list_all row_fits c.rows ≡ true → list_fits ds ≡ true → list_fits (map (joined c) (map (moved w c.helpers) ds)) ≡ true
joined_fits w c [] h k = refl
joined_fits w c (d ∷ ds) h k =
    let p = and_parts (list_all row_fits d.rows) (list_fits ds) k in
    let e : list_all row_fits (map (moved_row w c.helpers) d.rows) ≡ true = moved_rows_fit w c.helpers d.rows ∙ p.0 in
    both_true (list_all row_fits (c.rows ++ map (moved_row w c.helpers) d.rows)) (list_fits (map (joined c) (map (moved w c.helpers) ds)))
    (list_all-append row_fits c.rows (map (moved_row w c.helpers) d.rows) ∙ both_true (list_all row_fits c.rows) (list_all row_fits (map (moved_row w c.helpers) d.rows)) h e)
    (joined_fits w c ds h p.1)

each_fits : (w : ℕ) (cs ds : List Conjunction) → list_fits cs ≡ true → list_fits ds ≡ true → list_fits (each_moved w cs ds) ≡ true
each_fits w [] ds h k = refl
each_fits w (c ∷ cs) ds h k =
    let p = and_parts (list_all row_fits c.rows) (list_fits cs) h in
    fits_append (map (joined c) (map (moved w c.helpers) ds)) (each_moved w cs ds) (joined_fits w c ds p.0 k) (each_fits w cs ds p.1 k)

-- ---- lists put together

pub each_moved_is : (n : ℕ) (cs : List Conjunction) (b : Jumps) → IsEven n b → each_with cs b n ≡ each_moved n cs (b n)
each_moved_is n [] b h = refl
each_moved_is n (c ∷ cs) b h =
    let e : b (n + c.helpers) ≡ map (moved n c.helpers) (b n) = h n c.helpers (omega arith) in
    let f = each_moved_is n cs b h in
    λ j. map (joined c) (e j) ++ f j

pub then_built : (p q : Plan) (n : ℕ) (x y v : Vec Conj Global) → IsPlanList p n x → IsPlanList q n y → v.items ≡ x.items ++ y.items → IsPlanList (Then p q) n v
then_built p q n x y v h k e =
    let s : conjunctions v.items ≡ listed_plan p n ++ listed_plan q n =
    ap conjunctions e ∙ map_append conjunction x.items y.items ∙ (λ j. h.seen j ++ k.seen j) in
    record {
      seen = s;
      fit = both_true (list_fits (listed_plan p n ++ listed_plan q n)) (all_fit p n && all_fit q n)
          (fits_append (listed_plan p n) (listed_plan q n) (plan_fits p n h.fit) (plan_fits q n k.fit)) (both_true (all_fit p n) (all_fit q n) h.fit k.fit);
    }

-- one list with another, as the code makes it
with_seen : (p q : Plan) (n : ℕ) (x y : Vec Conj Global) (a b : List Conj) → IsEvenPlan n q → IsPlanList p n x → IsPlanList q n y → a ≡ x.items → b ≡ y.items →
    each_moved n (conjunctions a) (conjunctions b) ≡ listed_plan (With p q) n
with_seen p q n x y a b i h k f g =
    let u : conjunctions a ≡ listed_plan p n = ap conjunctions f ∙ h.seen in
    let w : conjunctions b ≡ listed_plan q n = ap conjunctions g ∙ k.seen in
    (λ j. each_moved n (u j) (w j)) ∙ sym (each_moved_is n (listed_plan p n) (listed_plan q) (listed_even n q i))

with_fit : (p q : Plan) (n : ℕ) → IsEvenPlan n q → all_fit p n ≡ true → all_fit q n ≡ true → all_fit (With p q) n ≡ true
with_fit p q n i h k =
    let m : each_with (listed_plan p n) (listed_plan q) n ≡ each_moved n (listed_plan p n) (listed_plan q n) = each_moved_is n (listed_plan p n) (listed_plan q) (listed_even n q i) in
    let f : list_fits (each_with (listed_plan p n) (listed_plan q) n) ≡ true =
    ap list_fits m ∙ each_fits n (listed_plan p n) (listed_plan q n) (plan_fits p n h) (plan_fits q n k) in
    both_true (list_fits (each_with (listed_plan p n) (listed_plan q) n)) (all_fit p n && all_fit q n) f (both_true (all_fit p n) (all_fit q n) h k)

pub with_built : (p q : Plan) (n : ℕ) (x y v : Vec Conj Global) (a b : List Conj) → IsEvenPlan n q → IsPlanList p n x → IsPlanList q n y → a ≡ x.items → b ≡ y.items →
    conjunctions v.items ≡ each_moved n (conjunctions a) (conjunctions b) → IsPlanList (With p q) n v
with_built p q n x y v a b i h k f g e = record { seen = e ∙ with_seen p q n x y a b i h k f g; fit = with_fit p q n i h.fit k.fit }

moved_list_fits : (w k : ℕ) (cs : List Conjunction) → list_fits (map (moved w k) cs) ≡ list_fits cs
moved_list_fits w k [] = refl
moved_list_fits w k (c ∷ cs) =
    let e = moved_rows_fit w k c.rows in
    let f = moved_list_fits w k cs in
    λ j. e j && f j

-- whether all numbers of a plan fit does not rest on where its helpers are numbered from
pub fit_even : (w : ℕ) (p : Plan) → IsEvenPlan w p → (n k : ℕ) → w ≤ n → all_fit p (n + k) ≡ all_fit p n
fit_even w (Just a) h n k l = ap list_fits (h n k l) ∙ moved_list_fits w k (a n)
fit_even w (Then a b) h n k l =
    let e : list_fits (listed_plan (Then a b) (n + k)) ≡ list_fits (listed_plan (Then a b) n) = ap list_fits (listed_even w (Then a b) h n k l) ∙ moved_list_fits w k (listed_plan (Then a b) n) in
    let f = fit_even w a h.0 n k l in
    let g = fit_even w b h.1 n k l in
    λ j. e j && (f j && g j)
fit_even w (With a b) h n k l =
    let e : list_fits (listed_plan (With a b) (n + k)) ≡ list_fits (listed_plan (With a b) n) = ap list_fits (listed_even w (With a b) h n k l) ∙ moved_list_fits w k (listed_plan (With a b) n) in
    let f = fit_even w a h.0 n k l in
    let g = fit_even w b h.1 n k l in
    λ j. e j && (f j && g j)

-- one list with another, which is numbered behind the only member of the first
pub behind_built : (p q : Plan) (n : ℕ) (x y v : Vec Conj Global) (a : List Conj) → IsEvenPlan n q → IsPlanList p n x → a ≡ x.items → IsPlanList q (n + helpers_before a) y →
    conjunctions v.items ≡ each_behind n a (conjunctions y.items) → IsPlanList (With p q) n v
behind_built p q n x y v [] i h f k e =
    let z : n + 0 ≡ n = omega arith in
    with_built p q n x y v [] y.items i h (subst (λ (m : ℕ). IsPlanList q m y) z k) f refl e
behind_built p q n x y v (c ∷ []) i h f k e =
    let u : conjunction c ∷ [] ≡ listed_plan p n = ap conjunctions f ∙ h.seen in
    let w : map (joined (conjunction c)) (conjunctions y.items) ≡ each_with (conjunction c ∷ []) (listed_plan q) n =
    ap (λ (ds : List Conjunction). map (joined (conjunction c)) ds) k.seen ∙ sym (append-nil (map (joined (conjunction c)) (listed_plan q (n + c.helpers)))) in
    record {
      seen = e ∙ w ∙ ap (λ (cs : List Conjunction). each_with cs (listed_plan q) n) u;
      fit = with_fit p q n i h.fit (sym (fit_even n q i n c.helpers (omega arith)) ∙ k.fit);
    }
behind_built p q n x y v (c ∷ (d ∷ cs)) i h f k e =
    let z : n + 0 ≡ n = omega arith in
    with_built p q n x y v (c ∷ (d ∷ cs)) y.items i h (subst (λ (m : ℕ). IsPlanList q m y) z k) f refl e

pub numbered_behind : (q : Plan) (n : ℕ) (y : Vec Conj Global) (a b : List Conj) → a ≡ b → IsPlanList q (n + helpers_before b) y → IsPlanList q (n + helpers_before a) y
numbered_behind q n y a b e h = subst (λ (cs : List Conj). IsPlanList q (n + helpers_before cs) y) (sym e) h

pub crossed_built : (p s q r : Plan) (n : ℕ) (x y z w v : Vec Conj Global) (a b : List Conj) → IsEvenPlan n q → IsEvenPlan n r → IsPlanList p n x → IsPlanList s n y → IsPlanList q n z → IsPlanList r n w →
    a ≡ z.items → b ≡ w.items →
    conjunctions v.items ≡ each_moved n (conjunctions x.items) (conjunctions a) ++ each_moved n (conjunctions y.items) (conjunctions b) → IsPlanList (crossed p s q r) n v
crossed_built p s q r n x y z w v a b i j h k l m f g e =
    let c : each_moved n (conjunctions x.items) (conjunctions a) ≡ listed_plan (With p q) n = with_seen p q n x z x.items a i h l refl f in
    let d : each_moved n (conjunctions y.items) (conjunctions b) ≡ listed_plan (With s r) n = with_seen s r n y w y.items b j k m refl g in
    let u : all_fit (With p q) n ≡ true = with_fit p q n i h.fit l.fit in
    let o : all_fit (With s r) n ≡ true = with_fit s r n j k.fit m.fit in
    record {
      seen = e ∙ (λ t. c t ++ d t);
      fit = both_true (list_fits (listed_plan (With p q) n ++ listed_plan (With s r) n)) (all_fit (With p q) n && all_fit (With s r) n)
          (fits_append (listed_plan (With p q) n) (listed_plan (With s r) n) (plan_fits (With p q) n u) (plan_fits (With s r) n o)) (both_true (all_fit (With p q) n) (all_fit (With s r) n) u o);
    }

-- ---- shapes

-- the plan of an operation by its shape
pub shape_plan : (op : Op) (kind : Bool) (a b : Bool → Plan) (x y : Linears) (want : Bool) →
    operation_plan op kind a b x y want ≡ plan_of (shape_of op kind want) a b (sums_plan op x y want)
shape_plan Iff kind a b x y want = refl
shape_plan Implies kind a b x y true = refl
shape_plan Implies kind a b x y false = refl
shape_plan And kind a b x y true = refl
shape_plan And kind a b x y false = refl
shape_plan Or kind a b x y true = refl
shape_plan Or kind a b x y false = refl
shape_plan Eq true a b x y want = refl
shape_plan Eq false a b x y want = refl
shape_plan Ne true a b x y want = refl
shape_plan Ne false a b x y want = refl
shape_plan Lt kind a b x y true = refl
shape_plan Lt kind a b x y false = refl
shape_plan Le kind a b x y true = refl
shape_plan Le kind a b x y false = refl
shape_plan Gt kind a b x y true = refl
shape_plan Gt kind a b x y false = refl
shape_plan Ge kind a b x y true = refl
shape_plan Ge kind a b x y false = refl
shape_plan Add kind a b x y want = refl
shape_plan Sub kind a b x y want = refl
shape_plan Mul kind a b x y want = refl
shape_plan Div kind a b x y want = refl
shape_plan Mod kind a b x y want = refl

-- What the lists of a frame mean, with helpers as lists of numbers.
use Rattle.std.proofs.Common.{◌≡◌, ◌⊎◌, inl, inr, ℕ, zero, suc, ◌+◌, ◌<◌, ◌≤◌, false, ℤ, pos, List, [], ◌∷◌, ◌++◌, map, length, length-append, refl, sym, ◌∙◌, ap, subst, arith}
use Rattle.std.specs.List.{AllByRecursion}
use Rattle.std.proofs.lemmas.Bool.{cases_lt}
use Rattle.lin_rows.specs.Points.{point_of}
use Rattle.lin_rows.specs.Rows.{RowsBelow}
use Rattle.typed_tree.specs.TypedTree.{TypedExpression}
use Rattle.typed_tree.specs.Values.{State, column_value, value, truth}
use Rattle.letter_acts.specs.Values.{HoldBeyond}
use Rattle.letter_acts.proofs.PointLemmas.{point_of-left, point_of-right, same_points, state_length, helpers_as_point}
use Rattle.cond_jumps.specs.Conjunctions.{Conjunction, Jumps, listed_plan}
use Rattle.cond_jumps.specs.Forms.{Linears}
use Rattle.cond_jumps.specs.Paths.{paths, assigns}
use Rattle.cond_jumps.specs.Meaning.{Agrees, Extends, Meets, Sole, Single, Narrow, IsPath}
use Rattle.cond_jumps.specs.Worth.{IsSum, IsChoice, Shows, Read}
use Rattle.cond_jumps.specs.Frames.{frame_environment}
use Rattle.cond_jumps.specs.Environments.{Environment}
use Rattle.cond_jumps.specs.Lists.{IsMet, SomeIsMet, AtMostOneIsMet, HelpersAreUnique, Decide, PathsMean, ConditionsAreTruths, AssignsMean}
use Rattle.cond_jumps.proofs.MeaningLemmas.{agrees_refl, agrees_trans, path_as}
use Rattle.cond_jumps.proofs.PathLemmas.{paths_mean}
use Rattle.cond_jumps.proofs.AssignLemmas.{assigns_mean}
use Rattle.cond_jumps.proofs.FrameLemmas.{frame_shows}

-- ---- helpers as lists and as points

met_so : (values : List ℤ) (c : Conjunction) → RowsBelow (length values + c.helpers) c.rows → IsMet values c → Extends (length values) (point_of values) c.rows
met_so values c b h =
    let k : HoldBeyond values c.rows = (helpers_as_point values c.helpers c.rows b).0 h in
    (k.point, record { same = k.agrees }, k.hold)

met_back : (values : List ℤ) (c : Conjunction) → RowsBelow (length values + c.helpers) c.rows → Extends (length values) (point_of values) c.rows → IsMet values c
met_back values c b h = (helpers_as_point values c.helpers c.rows b).1 (record { point = h.0; agrees = h.1.same; hold = h.2 })

some_so : (values : List ℤ) (cs : List Conjunction) → Narrow (length values) cs → SomeIsMet values cs → Meets (length values) (point_of values) cs
some_so values [] b h = absurd h
some_so values (c ∷ cs) b (inl h) = inl (met_so values c b.0 h)
some_so values (c ∷ cs) b (inr h) = inr (some_so values cs b.1 h)

some_back : (values : List ℤ) (cs : List Conjunction) → Narrow (length values) cs → Meets (length values) (point_of values) cs → SomeIsMet values cs
some_back values [] b h = absurd h
some_back values (c ∷ cs) b (inl h) = inl (met_back values c b.0 h)
some_back values (c ∷ cs) b (inr h) = inr (some_back values cs b.1 h)

at_most_one : (values : List ℤ) (cs : List Conjunction) → Narrow (length values) cs → Single (length values) (point_of values) cs → AtMostOneIsMet values cs
at_most_one values [] b h = tt
at_most_one values (c ∷ cs) b h = (λ x y. h.1 (met_so values c b.0 x) (some_so values cs b.1 y), at_most_one values cs b.1 h.2)

-- a longer list agrees with its front
longer_agrees : (values more : List ℤ) → Agrees (length values) (point_of values) (point_of (values ++ more))
longer_agrees values more = record { same = λ c l. point_of-left values more c l }

point_past : (g : List ℤ) (c : ℕ) → length g ≤ c → point_of g c ≡ pos 0
point_past [] c l = refl
point_past (x ∷ g) zero l = absurd (omega arith)
point_past (x ∷ g) (suc c) l = point_past g c (omega arith)

-- lists of one length that agree past the same front are equal
same_helpers : (values g h : List ℤ) (k : ℕ) → length g ≡ k → length h ≡ k → Agrees (length values + k) (point_of (values ++ g)) (point_of (values ++ h)) → g ≡ h
same_helpers values g h k e f a = same_points g h (e ∙ sym f) (λ c. at_column c (cases_lt c k))
  where
    at_column : (c : ℕ) → (c < k) ⊎ (k ≤ c) → point_of g c ≡ point_of h c
    at_column c (inl l) =
        sym (point_of-right values g (length values + c) c refl) ∙ sym (a.same (length values + c) (omega arith)) ∙ point_of-right values h (length values + c) c refl
    at_column c (inr l) = point_past g c (omega arith) ∙ sym (point_past h c (omega arith))

unique_helpers : (values : List ℤ) (c : Conjunction) → Sole (length values) (length values + c.helpers) (point_of values) c.rows → HelpersAreUnique values c
unique_helpers values c s g h e f x y =
    same_helpers values g h c.helpers e f
    (s (point_of (values ++ g)) (point_of (values ++ h)) (longer_agrees values g) (longer_agrees values h) x y)

all_unique : (values : List ℤ) (cs : List Conjunction) → Single (length values) (point_of values) cs → AllByRecursion (HelpersAreUnique values) cs
all_unique values [] h = tt
all_unique values (c ∷ cs) h = (unique_helpers values c h.0, all_unique values cs h.2)

-- a list that means a fact at the point of the values decides it
decided : (w : ℕ) (p : ℕ → ℤ) (a : Jumps) (P : Type 0) (values : List ℤ) → IsPath w p a P → w ≤ length values → Agrees w p (point_of values) → Decide values (a (length values)) P
decided w p a P values h l s =
    let n : ℕ = length values in
    let b : Narrow n (a n) = h.narrow n l in
    let k : Single n (point_of values) (a n) = h.single n (point_of values) l s in
    record {
      exactly = ((λ m. h.so n (point_of values) l s (some_so values (a n) b m)), (λ x. some_back values (a n) b (h.back n (point_of values) l s x)));
      once = at_most_one values (a n) b k;
      unique = all_unique values (a n) k;
    }

-- a list that is the first of another number of columns
pub decided_at : (w : ℕ) (p : ℕ → ℤ) (a : Jumps) (P : Type 0) (values : List ℤ) (n : ℕ) → length values ≡ n → IsPath w p a P → w ≤ n → Agrees w p (point_of values) → Decide values (a n) P
decided_at w p a P values n e h l s =
    let d : Decide values (a (length values)) P = decided w p a P values h (omega arith) s in
    subst (λ (m : ℕ). Decide values (a m) P) e d

-- ---- conditions

pub paths_decide : PathsMean
paths_decide frame s values e want h c =
    let k : IsChoice (length frame) (point_of values) (paths (frame_environment frame) false e) (value s e) =
    paths_mean (length frame) (point_of values) (frame_environment frame) s (frame_shows frame s values h) false e c.typed c.linear in
    decided_at (length frame) (point_of values) (listed_plan (paths (frame_environment frame) false e want)) (value s e ≡ truth want) values (length frame)
    (state_length frame values h.state) (k.path want) (omega arith) (agrees_refl (length frame) (point_of values))

pub conditions_are_truths : ConditionsAreTruths
conditions_are_truths frame s values e h c =
    (paths_mean (length frame) (point_of values) (frame_environment frame) s (frame_shows frame s values h) false e c.typed c.linear).truth_value

-- ---- assignments

-- sums, plans and environments at a point that agrees
sum_agrees : (w : ℕ) (p q : ℕ → ℤ) (a : Linears) (v : ℤ) → Agrees w p q → IsSum w p a v → IsSum w q a v
sum_agrees w p q a v s h = record { narrow = h.narrow; worth = λ n r l t. h.worth n r l (agrees_trans w p q r s t) }

path_agrees : (w : ℕ) (p q : ℕ → ℤ) (a : Jumps) (P : Type 0) → Agrees w p q → IsPath w p a P → IsPath w q a P
path_agrees w p q a P s h =
    record {
      narrow = h.narrow;
      so = λ n r l t x. h.so n r l (agrees_trans w p q r s t) x;
      back = λ n r l t x. h.back n r l (agrees_trans w p q r s t) x;
      single = λ n r l t. h.single n r l (agrees_trans w p q r s t);
    }

pub shows_agrees : (w : ℕ) (p q : ℕ → ℤ) (v : Environment) (s : State) → Agrees w p q → Shows w p v s → Shows w q v s
shows_agrees w p q v s a h =
    record {
      constants = h.constants;
      sums = λ c t. sum_agrees w p q (v.sum c) (column_value s c) a (h.sums c t);
      choices = λ c t.
          let k = h.choices c t in
          record { truth_value = k.truth_value; path = λ want. path_agrees w p q (listed_plan (v.plan c want)) (column_value s c ≡ truth want) a (k.path want) };
    }

-- the point has these values from column j on
HasFrom : (ℕ → ℤ) → ℕ → List ℤ → Type 0
HasFrom p j news = (i : ℕ) → i < length news → p (j + i) ≡ point_of news i

has_first : (p : ℕ → ℤ) (j : ℕ) (v : ℤ) (news : List ℤ) → HasFrom p j (v ∷ news) → p j ≡ v
unfolding HasFrom
has_first p j v news h = let e : j + 0 ≡ j = omega arith in ap p (sym e) ∙ h 0 (omega arith)

has_rest : (p : ℕ → ℤ) (j : ℕ) (v : ℤ) (news : List ℤ) → HasFrom p j (v ∷ news) → HasFrom p (suc j) news
unfolding HasFrom
has_rest p j v news h = λ i l. let e : suc j + i ≡ j + suc i = omega arith in ap p e ∙ h (suc i) (omega arith)

has_after : (values news : List ℤ) → HasFrom (point_of (values ++ news)) (length values) news
unfolding HasFrom
has_after values news = λ i l. point_of-right values news (length values + i) i refl

read_so : (p : ℕ → ℤ) (j : ℕ) (news zs : List ℤ) → HasFrom p j news → length news ≡ length zs → Read p j zs → news ≡ zs
read_so p j [] [] f l h = refl
read_so p j [] (z ∷ zs) f l h = absurd (omega (arith, l))
read_so p j (v ∷ news) [] f l h = absurd (omega (arith, l))
read_so p j (v ∷ news) (z ∷ zs) f l h =
    let e : v ≡ z = sym (has_first p j v news f) ∙ h.0 in
    let r : news ≡ zs = read_so p (suc j) news zs (has_rest p j v news f) (omega (arith, l)) h.1 in
    λ i. e i ∷ r i

read_own : (p : ℕ → ℤ) (j : ℕ) (news : List ℤ) → HasFrom p j news → Read p j news
read_own p j [] f = tt
read_own p j (v ∷ news) f = (has_first p j v news f, read_own p (suc j) news (has_rest p j v news f))

-- the columns past the values are read as the new ones
read_back : (values news zs : List ℤ) → news ≡ zs → Read (point_of (values ++ news)) (length values) zs
read_back values news zs e =
    let P : List ℤ → Type 0 = λ l. Read (point_of (values ++ news)) (length values) l in
    subst P e (read_own (point_of (values ++ news)) (length values) news (has_after values news))

length-values : (s : State) (es : List TypedExpression) → length (map (value s) es) ≡ length es
length-values s [] = refl
length-values s (e ∷ es) = ap suc (length-values s es)

pub assigns_decide : AssignsMean
assigns_decide frame s values news es h c l =
    let n : ℕ = length frame in
    let m : ℕ = n + length es in
    let p : ℕ → ℤ = point_of (values ++ news) in
    let zs : List ℤ = map (value s) es in
    let v : Environment = frame_environment frame in
    let e : length values ≡ n = state_length frame values h.state in
    let a : Agrees n (point_of values) p = (let P : ℕ → Type 0 = λ k. Agrees k (point_of values) p in subst P e (longer_agrees values news)) in
    let k : Shows n p v s = shows_agrees n (point_of values) p v s a (frame_shows frame s values h) in
    let i : IsPath m p (listed_plan (assigns v n es)) (Read p n (map (value s) es)) = assigns_mean n m p v s k (omega arith) es c n (omega arith) in
    let f : length news ≡ length zs = l ∙ sym (length-values s es) in
    let so : Read p n zs → news ≡ zs =
    (λ r. let P : ℕ → Type 0 = λ j. Read p j zs in read_so p (length values) news zs (has_after values news) f (subst P (sym e) r)) in
    let back : news ≡ zs → Read p n zs = (λ r. let P : ℕ → Type 0 = λ j. Read p j zs in subst P e (read_back values news zs r)) in
    let g : length (values ++ news) ≡ m = length-append values news ∙ (λ d. e d + l d) in
    decided_at m p (listed_plan (assigns v n es)) (news ≡ zs) (values ++ news) m g
    (path_as m p (listed_plan (assigns v n es)) (Read p n zs) (news ≡ zs) so back i) (omega arith) (agrees_refl m p)

-- What rows say holds as conclusions where they do, and as premises nowhere else.
use mathlib.Core.Bool.{beq}
use Rattle.std.proofs.Common.{◌≡◌, ◌∙◌, ◌⊎◌, inl, inr, ℕ, zero, suc, ℤ, pos, ◌+ℤ◌, ◌*ℤ◌, Bool, true, false, not, cond, List, [], ◌∷◌, ◌++◌, map, length, Option, None, Some, refl, sym, ap, arith}
use Rattle.std.specs.Prelude.{◌&&◌, ◌||◌, nat_le, nat_eq, if◌then◌else◌}
use Rattle.std.specs.List.{list_all, AllByRecursion}
use Rattle.std.specs.Option.{option_map, option_and_then}
use Rattle.std.specs.Ordering.{int_eq}
use Rattle.std.proofs.lemmas.Bool.Decides.{Decides-int_eq, same_from_decides}
use Rattle.std.proofs.lemmas.Bool.{eqb-true}
use Rattle.std.proofs.lemmas.Int.{ints}
use Rattle.std.proofs.lemmas.List.{length-map}
use Rattle.std.proofs.lemmas.List.Folds.{list_all-append}
use Rattle.math_facts.specs.Terms.{dot}
use Rattle.boogie_tree.specs.Tree.{Expression}
use Rattle.lin_rows.specs.Rows.{LinearRow}
use Rattle.explained_proof.specs.BuiltExpressions.Laws.{all_hold}
use Rattle.explained_proof.specs.BuiltExpressions.Members.{Conjuncts, always, denied}
use Rattle.explained_proof.specs.RowExpressions.Scopes.{ClauseScope, is_truth}
use Rattle.explained_proof.specs.RowExpressions.Sums.{sum_said}
use Rattle.explained_proof.specs.RowExpressions.Cases.{cases, rest, conditions, implied, excluded}
use Rattle.explained_proof.specs.RowExpressions.Rows.{ByTruths, terms_of, apart, stands, is_equal_to, is_constant, alone, concluded, said_under, case_said, both_said, cases_said, or_missing, can_say_all, if_sayable, split_said, row_said}
use Rattle.explained_proof.specs.RowExpressions.Worth.{IsReading, HasColumns, meets, row_holds, ConclusionsFollow, PremisesImply}
use Rattle.explained_proof.proofs.RowExpressions.SumWorth.{there, meets_shifts, sum_holds}
use Rattle.explained_proof.proofs.RowExpressions.CaseWorth.{and_true, beq_same, case_at, same_case, same_case_true, worth_of_case, only_case, at_case, AreTruths, rest_at_point, conditions_hold, implied_holds, excluded_holds}

-- ---- terms apart

split_one : (a D N T : ℤ) → D ≡ N +ℤ T → a +ℤ D ≡ N +ℤ (a +ℤ T)
split_one a D N T h = omega (arith, ints)

split_other : (a D N T : ℤ) → D ≡ N +ℤ T → a +ℤ D ≡ (a +ℤ N) +ℤ T
split_other a D N T h = omega (arith, ints)

apart_by : (point : ℕ → ℤ) (b : Bool) (t : ℕ × ℤ) (D : ℤ) (ns us : List (ℕ × ℤ)) → D ≡ dot point ns +ℤ dot point us →
    (t.1 *ℤ point t.0) +ℤ D ≡ dot point (cond (beq false b) (t ∷ ns) ns) +ℤ dot point (cond (beq true b) (t ∷ us) us)
apart_by point true t D ns us h = split_one (t.1 *ℤ point t.0) D (dot point ns) (dot point us) h
apart_by point false t D ns us h = split_other (t.1 *ℤ point t.0) D (dot point ns) (dot point us) h

terms_apart : (s : ClauseScope) (point : ℕ → ℤ) (ts : List (ℕ × ℤ)) → dot point ts ≡ dot point (terms_of s false ts) +ℤ dot point (terms_of s true ts)
terms_apart s point [] = refl
terms_apart s point (t ∷ ts) = apart_by point (is_truth s t.0) t (dot point ts) (terms_of s false ts) (terms_of s true ts) (terms_apart s point ts)

no_truths : (D : ℤ) → D ≡ D +ℤ pos 0
no_truths D = omega (arith, ints)

truths_by : (s : ClauseScope) (b : Bool) (t : ℕ × ℤ) (us : List (ℕ × ℤ)) → is_truth s t.0 ≡ b → AreTruths s us → AreTruths s (cond (beq true b) (t ∷ us) us)
truths_by s true t us e h = ap (λ x. x && list_all (λ u. is_truth s u.0) us) e ∙ h
truths_by s false t us e h = h

are_truths : (s : ClauseScope) (ts : List (ℕ × ℤ)) → AreTruths s (terms_of s true ts)
are_truths s [] = refl
are_truths s (t ∷ ts) = truths_by s (is_truth s t.0) t (terms_of s true ts) refl (are_truths s ts)

-- terms that are set apart: their sum, and that the boolean ones are boolean
record IsApart (s : ClauseScope) (point : ℕ → ℤ) (ts : List (ℕ × ℤ)) (t : ByTruths) : Type 0 where
  sums : dot point ts ≡ dot point t.numbers +ℤ dot point t.truths
  truths : AreTruths s t.truths

is_apart_by : (s : ClauseScope) (point : ℕ → ℤ) (ts : List (ℕ × ℤ)) (b : Bool) →
    IsApart s point ts (if b then (record { numbers = terms_of s false ts; truths = terms_of s true ts }) else (record { numbers = ts; truths = [] }))
is_apart_by s point ts true = record { sums = terms_apart s point ts; truths = are_truths s ts }
is_apart_by s point ts false = record { sums = no_truths (dot point ts); truths = refl }

is_apart : (s : ClauseScope) (point : ℕ → ℤ) (ts : List (ℕ × ℤ)) → IsApart s point ts (apart s ts)
is_apart s point ts = is_apart_by s point ts (nat_le (length (terms_of s true ts)) 3)

-- ---- truth values

or_true : (a : Bool) → true ≡ (a || true)
or_true true = refl
or_true false = refl

not_or_false : (a : Bool) → (not a && true) ≡ (not a || false)
not_or_false true = refl
not_or_false false = refl

and_both : (a b : Bool) → (a && b) ≡ true → (a ≡ true) × (b ≡ true)
and_both true b h = (refl, h)
and_both false b h = let no : ⊥ = cc in absurd no

case_of_same : (h v w : Bool) → (h ≡ true → v ≡ w) → (not h || v) ≡ (if h then w else true)
case_of_same true v w e = e refl
case_of_same false v w e = refl

zero_first : (v : ℤ) → int_eq v (pos 0) ≡ int_eq (pos 0) v
zero_first v =
    same_from_decides {P = v ≡ pos 0} (int_eq v (pos 0)) (int_eq (pos 0) v) (Decides-int_eq v (pos 0))
    (λ h. sym ((Decides-int_eq (pos 0) v).0 h), λ h. (Decides-int_eq (pos 0) v).1 (sym h))

stands_meets : (equal : Bool) (v : ℤ) → stands equal v ≡ meets equal (pos 0) v
stands_meets true v = zero_first v
stands_meets false v = refl

balance : (D b N T v : ℤ) → D ≡ N +ℤ T → b ≡ v +ℤ T → D +ℤ v ≡ b +ℤ N
balance D b N T v h e = omega (arith, ints)

-- values that are there behind others
record Both (o p : Option (List Expression)) (es : List Expression) : Type 0 where
  front : List Expression
  behind : List Expression
  has_front : o ≡ Some front
  has_behind : p ≡ Some behind
  whole : es ≡ front ++ behind

both_parts : (o p : Option (List Expression)) (es : List Expression) → both_said o p ≡ Some es → Both o p es
both_parts None p es h = let no : ⊥ = cc in absurd no
both_parts (Some a) None es h = let no : ⊥ = cc in absurd no
both_parts (Some a) (Some b) es h = record { front = a; behind = b; has_front = refl; has_behind = refl; whole = sym (there (a ++ b) es h) }

-- lists of cases, each as long as there are columns
abbrev AreLong : ℕ → List (List Bool) → Type 0
AreLong n cs = AllByRecursion (λ c. length c ≡ n) cs

long_append : (n : ℕ) (cs ds : List (List Bool)) → AreLong n cs → AreLong n ds → AreLong n (cs ++ ds)
long_append n [] ds h k = k
long_append n (c ∷ cs) ds h k = (h.0, long_append n cs ds h.1 k)

long_map : (n : ℕ) (b : Bool) (cs : List (List Bool)) → AreLong n cs → AreLong (suc n) (map (λ c. b ∷ c) cs)
long_map n b [] h = tt
long_map n b (c ∷ cs) h = (ap suc h.0, long_map n b cs h.1)

cases_long : (n : ℕ) → AreLong n (cases n)
cases_long zero = (refl, tt)
cases_long (suc n) = long_append (suc n) (map (λ c. true ∷ c) (cases n)) (map (λ c. false ∷ c) (cases n)) (long_map n true (cases n) (cases_long n)) (long_map n false (cases n) (cases_long n))

module _ (worth : Expression → ℤ) (holds : Expression → Bool) (reading : IsReading worth holds) (s : ClauseScope) (point : ℕ → ℤ) (state : HasColumns worth holds s point) where
  -- ---- what is said under conditions

  excluded_value : (same : Bool) (o : Option (List Expression)) (es : List Expression) → ((ps : List Expression) → o ≡ Some ps → list_all holds ps ≡ same) →
      option_map alone (option_and_then excluded o) ≡ Some es → list_all holds es ≡ (not same || false)
  excluded_value same None es k h = let no : ⊥ = cc in absurd no
  excluded_value same (Some ps) es k h = by (excluded ps) refl h
    where
      by : (x : Option Expression) → excluded ps ≡ x → option_map alone x ≡ Some es → list_all holds es ≡ (not same || false)
      by None e i = let no : ⊥ = cc in absurd no
      by (Some x) e i =
          ap (list_all holds) (sym (there (x ∷ []) es i)) ∙ ap (λ b. b && true) (excluded_holds worth holds reading s point state [] ps x e ∙ ap not (k ps refl)) ∙ not_or_false same

  concluded_value : (same v : Bool) (o : Option (List Expression)) (x : Option Expression) (es : List Expression) → ((ps : List Expression) → o ≡ Some ps → list_all holds ps ≡ same) →
      ((e : Expression) → x ≡ Some e → holds e ≡ v) → concluded o x ≡ Some es → list_all holds es ≡ (not same || v)
  concluded_value same v None x es k m h = let no : ⊥ = cc in absurd no
  concluded_value same v (Some ps) None es k m h = let no : ⊥ = cc in absurd no
  concluded_value same v (Some ps) (Some e) es k m h =
      ap (list_all holds) (sym (there (implied ps e ∷ []) es h)) ∙ and_true (holds (implied ps e)) ∙ implied_holds worth holds reading s point state ps e ∙
      ap (λ b. not b || holds e) (k ps refl) ∙ ap (λ b. not same || b) (m e refl)

  stands_value : (b same : Bool) (v : Bool) (o : Option (List Expression)) (es : List Expression) → v ≡ b → ((ps : List Expression) → o ≡ Some ps → list_all holds ps ≡ same) →
      (if b then Some [] else option_map alone (option_and_then excluded o)) ≡ Some es → list_all holds es ≡ (not same || v)
  stands_value true same v o es e k h = ap (list_all holds) (sym (there [] es h)) ∙ or_true (not same) ∙ ap (λ b. not same || b) (sym e)
  stands_value false same v o es e k h = excluded_value same o es k h ∙ ap (λ b. not same || b) (sym e)

  said_value : (equal : Bool) (ns : List (ℕ × ℤ)) (o : Option (List Expression)) (v : ℤ) (same : Bool) (es : List Expression) →
      ((ps : List Expression) → o ≡ Some ps → list_all holds ps ≡ same) → said_under s equal ns o v ≡ Some es → list_all holds es ≡ (not same || meets equal (dot point ns) v)
  said_value equal [] o v same es k h = stands_value (stands equal v) same (meets equal (pos 0) v) o es (sym (stands_meets equal v)) k h
  said_value equal (n ∷ ns) o v same es k h =
      concluded_value same (meets equal (dot point (n ∷ ns)) v) o (sum_said s equal (n ∷ ns) v) es k (λ e i. sum_holds worth holds reading s point state equal (n ∷ ns) v e i) h

  module _ (r : LinearRow) (equal : Bool) (t : ByTruths) (set : IsApart s point r.terms t) where
    -- what is left of the bound at the point
    left_at_point : (v : ℤ) → rest r.bound t.truths (case_at point t.truths) ≡ Some v → meets equal (dot point t.numbers) v ≡ row_holds point r equal
    left_at_point v h =
        sym (meets_shifts equal (dot point r.terms) r.bound (dot point t.numbers) v
        (balance (dot point r.terms) r.bound (dot point t.numbers) (dot point t.truths) v set.sums (rest_at_point worth holds reading s point state t.truths set.truths r.bound v h)))

    -- ---- cases

    case_by : (o : Option ℤ) (c : List Bool) (es : List Expression) → rest r.bound t.truths c ≡ o → length c ≡ length t.truths →
        option_and_then (said_under s equal t.numbers (conditions s t.truths c)) o ≡ Some es → list_all holds es ≡ worth_of_case (case_at point t.truths) (row_holds point r equal) c
    case_by None c es e l h = let no : ⊥ = cc in absurd no
    case_by (Some v) c es e l h =
        said_value equal t.numbers (conditions s t.truths c) v (same_case c (case_at point t.truths)) es
        (λ ps i. conditions_hold worth holds reading s point state t.truths c ps set.truths l i) h ∙
        case_of_same (same_case c (case_at point t.truths)) (meets equal (dot point t.numbers) v) (row_holds point r equal)
        (λ q. left_at_point v (sym (ap (rest r.bound t.truths) (same_case_true c (case_at point t.truths) q)) ∙ e))

    cases_value : (cs : List (List Bool)) (es : List Expression) → AreLong (length t.truths) cs → cases_said s t equal r.bound cs ≡ Some es →
        list_all holds es ≡ list_all (worth_of_case (case_at point t.truths) (row_holds point r equal)) cs
    cases_value [] es l h = ap (list_all holds) (sym (there [] es h))
    cases_value (c ∷ cs) es l h =
        let f = both_parts (case_said s t equal r.bound c) (cases_said s t equal r.bound cs) es h in
        ap (list_all holds) f.whole ∙ list_all-append holds f.front f.behind ∙
        ap (λ b. b && list_all holds f.behind) (case_by (rest r.bound t.truths c) c f.front refl l.0 f.has_front) ∙
        ap (λ b. worth_of_case (case_at point t.truths) (row_holds point r equal) c && b) (cases_value cs f.behind l.1 f.has_behind)

    as_many : length (case_at point t.truths) ≡ length t.truths
    as_many = length-map t.truths (λ u. int_eq (point u.0) (pos 1))

    whole_value : (es : List Expression) → cases_said s t equal r.bound (cases (length t.truths)) ≡ Some es → list_all holds es ≡ row_holds point r equal
    whole_value es h =
        cases_value (cases (length t.truths)) es (cases_long (length t.truths)) h ∙
        only_case (length t.truths) (case_at point t.truths) (row_holds point r equal) as_many

    -- ---- rows that are true or false in each case

    no_numbers : (ns : List (ℕ × ℤ)) → nat_eq (length ns) 0 ≡ true → dot point ns ≡ pos 0
    no_numbers [] h = refl
    no_numbers (n ∷ ns) h = let e : length (n ∷ ns) ≡ 0 = eqb-true (length (n ∷ ns)) 0 h in let no : ⊥ = omega (arith, e) in absurd no

    constant_by : (b : Bool) (o : Option ℤ) → rest r.bound t.truths (case_at point t.truths) ≡ o → dot point t.numbers ≡ pos 0 → is_equal_to b (option_map (stands equal) o) ≡ true →
        row_holds point r equal ≡ b
    constant_by b None e z h = let no : ⊥ = cc in absurd no
    constant_by b (Some v) e z h =
        sym (left_at_point v e) ∙ ap (λ x. meets equal x v) z ∙ sym (stands_meets equal v) ∙ sym (beq_same b (stands equal v) h)

    constant_value : (b : Bool) → is_constant t equal r.bound b ≡ true → row_holds point r equal ≡ b
    constant_value b h =
        let k = and_both (nat_eq (length t.numbers) 0) (list_all (λ c. is_equal_to b (option_map (stands equal) (rest r.bound t.truths c))) (cases (length t.truths))) h in
        constant_by b (rest r.bound t.truths (case_at point t.truths)) refl (no_numbers t.numbers k.0)
        (at_case (λ c. is_equal_to b (option_map (stands equal) (rest r.bound t.truths c))) (length t.truths) (case_at point t.truths) as_many k.1)

    -- ---- what is said holds exactly where the row does, or it is what stands for what cannot be said

    abbrev Told : Bool → Type 0
    Told x = (x ≡ row_holds point r equal) ⊎ (x ≡ not s.premise)

    missing_none : (p : Bool) → all_hold holds (if p then denied else always) ≡ not p
    missing_none true = refl
    missing_none false = refl

    missing_told : (o : Option (List Expression)) → ((es : List Expression) → o ≡ Some es → list_all holds es ≡ row_holds point r equal) → Told (all_hold holds (or_missing s o))
    missing_told (Some es) k = inl (k es refl)
    missing_told None k = inr (missing_none s.premise)

    sayable_by : (b : Bool) (es : List Expression) → (if b then cases_said s t equal r.bound (cases (length t.truths)) else None) ≡ Some es → list_all holds es ≡ row_holds point r equal
    sayable_by true es h = whole_value es h
    sayable_by false es h = let no : ⊥ = cc in absurd no

    chosen_told : (b c : Bool) (m : Conjuncts) → (b ≡ true → row_holds point r equal ≡ true) → (c ≡ true → row_holds point r equal ≡ false) → Told (all_hold holds m) →
        Told (all_hold holds (if b then always else (if c then denied else m)))
    chosen_told true c m when otherwise k = inl (sym (when refl))
    chosen_told false true m when otherwise k = inl (sym (otherwise refl))
    chosen_told false false m when otherwise k = k

    split_told : Told (all_hold holds (split_said s r t equal))
    split_told =
        chosen_told (is_constant t equal r.bound true) (is_constant t equal r.bound false) (or_missing s (if_sayable s r t equal)) (constant_value true) (constant_value false)
        (missing_told (if_sayable s r t equal) (λ es h. sayable_by (can_say_all s r.terms) es h))

  row_told : (r : LinearRow) (equal : Bool) → (all_hold holds (row_said s r equal) ≡ row_holds point r equal) ⊎ (all_hold holds (row_said s r equal) ≡ not s.premise)
  row_told r equal = split_told r equal (apart s r.terms) (is_apart s point r.terms)

conclusion_by : (x h p : Bool) → p ≡ false → h ≡ true → (x ≡ h) ⊎ (x ≡ not p) → x ≡ true
conclusion_by x h p f t (inl e) = e ∙ t
conclusion_by x h p f t (inr e) = e ∙ ap not f

premise_by : (x h p : Bool) → p ≡ true → x ≡ true → (x ≡ h) ⊎ (x ≡ not p) → h ≡ true
premise_by x h p f t (inl e) = sym e ∙ t
premise_by x h p f t (inr e) = let no : true ≡ false = sym t ∙ e ∙ ap not f in cc

pub conclusions_follow : ConclusionsFollow
conclusions_follow worth holds s point r equal reading state f h =
    conclusion_by (all_hold holds (row_said s r equal)) (row_holds point r equal) s.premise f h (row_told worth holds reading s point state r equal)

pub premises_imply : PremisesImply
premises_imply worth holds s point r equal reading state f h =
    premise_by (all_hold holds (row_said s r equal)) (row_holds point r equal) s.premise f h (row_told worth holds reading s point state r equal)

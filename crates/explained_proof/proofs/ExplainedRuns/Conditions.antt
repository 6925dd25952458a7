-- What is said are conditions: what truth values, boolean columns, comparisons and their connectives all have, each clause has.
use mathlib.Core.Bool.{beq}
use Rattle.std.proofs.Common.{◌≡◌, ℕ, zero, suc, ℤ, neg_ℤ, Bool, true, false, List, [], ◌∷◌, ◌++◌, map, length, take, drop, filter, Option, None, Some, refl, subst}
use Rattle.std.specs.Prelude.{◌&&◌, not, nat_le, is_some, if◌then◌else◌, slice_get}
use Rattle.std.specs.List.{list_all, flat_map, AllByRecursion}
use Rattle.std.specs.Option.{option_map, option_and_then}
use Rattle.std.proofs.lemmas.Option.{same_Some}
use Rattle.boogie_tree.specs.declared.tree.Op.{Op}
use Rattle.boogie_tree.specs.declared.tree.Op.TheVariants as ops
use Rattle.boogie_tree.specs.Tree.{Expression}
use Rattle.lin_rows.specs.Rows.{LinearRow}
use Rattle.letter_acts.proofs.ListLemmas.{all_append}
use Rattle.triple_rows.specs.Predicates.{Formula}
use Rattle.explained_proof.specs.BuiltExpressions.Building.{truth, not_of, operation, in_a_row, row_of, added, in_groups, chained_within, chained}
use Rattle.explained_proof.specs.BuiltExpressions.Members.{Conjuncts, always, denied, with_members, or_truth, joined, clauses_of, is_always, may_be, just_or_denied, either, one_of}
use Rattle.explained_proof.specs.declared.row_expressions.scopes.Position.{Position}
use Rattle.explained_proof.specs.declared.row_expressions.scopes.Position.TheVariants.{Requires}
use Rattle.explained_proof.specs.declared.row_expressions.scopes.Voice.{Voice}
use Rattle.explained_proof.specs.declared.row_expressions.scopes.Voice.TheVariants.{Plain, InOld}
use Rattle.explained_proof.specs.RowExpressions.Scopes.{ClauseScope, is_truth, said, spoken, voice, column_said, is_of_entry}
use Rattle.explained_proof.specs.RowExpressions.Options.{in_front}
use Rattle.explained_proof.specs.RowExpressions.Sums.{related, comparison, comparing, side, sum_said, begins_below, number_if, stands_left, stands_right}
use Rattle.explained_proof.specs.RowExpressions.Cases.{rest, as_is, condition_said, conditions, under, implied, opposite_of, excluded_from, excluded, cases}
use Rattle.explained_proof.specs.RowExpressions.Rows as rows
use Rattle.explained_proof.specs.RowExpressions.Rows.{ByTruths, terms_of, apart, stands, alone, concluded, said_under, case_said, both_said, or_missing, can_say_all, if_sayable, is_constant, split_said, row_said}
use Rattle.explained_proof.specs.FactExpressions.Facts.{Facts}
use Rattle.explained_proof.specs.FactExpressions.Disjunctions.{Alternatives, either_of_all}
use Rattle.explained_proof.specs.FactExpressions.EntryRows.{has_opposite, merged, row_said_at, rows_said, entry_said, entry_row, told_rows}
use Rattle.explained_proof.specs.FactExpressions.Conclusions as conclusions
use Rattle.explained_proof.specs.FactExpressions.Conclusions.{are_all, part_facts, never_or, all_of, facts_with, unless_all, rest_parts, alternatives_with, facts_said, alternatives_said}
use Rattle.explained_proof.specs.Known.{Known, known_at}
use Rattle.explained_proof.specs.Clauses.{KnownProcedure, scope, known_at_one, required, premise_said, under_facts, holding_for, holding}

-- what conditions have
pub record IsOfConditions (P : Expression → Type 0) : Type 0 where
  pub truths : (b : Bool) → P (truth b)
  pub opposites : (e : Expression) → P (not_of e)
  pub equal : (a b : Expression) → P (operation ops.Eq a b)
  pub at_most : (a b : Expression) → P (operation ops.Le a b)
  pub ands : (a b : Expression) → P b → P (operation ops.And a b)
  pub ors : (a b : Expression) → P b → P (operation ops.Or a b)
  pub conclusions : (a b : Expression) → P b → P (operation ops.Implies a b)

-- and what boolean columns are called where a clause stands has
abbrev pub OfColumns : (Expression → Type 0) → ClauseScope → Type 0
OfColumns P s = (n : ℕ) (e : Expression) → is_truth s n ≡ true → said s n ≡ Some e → P e

-- ---- lists

take_all : {X : Type 0} (P : X → Type 0) (n : ℕ) (xs : List X) → AllByRecursion P xs → AllByRecursion P (take n xs)
take_all P zero xs h = tt
take_all P (suc n) [] h = tt
take_all P (suc n) (x ∷ xs) h = (h.0, take_all P n xs h.1)

drop_all : {X : Type 0} (P : X → Type 0) (n : ℕ) (xs : List X) → AllByRecursion P xs → AllByRecursion P (drop n xs)
drop_all P zero xs h = h
drop_all P (suc n) [] h = tt
drop_all P (suc n) (x ∷ xs) h = drop_all P n xs h.1

filter_all : {X : Type 0} (p : X → Bool) (xs : List X) → AllByRecursion (λ x. p x ≡ true) (filter p xs)
filter_all p [] = tt
filter_all p (x ∷ xs) = by (p x) refl (filter_all p xs)
  where
    by : (b : Bool) → p x ≡ b → AllByRecursion (λ x. p x ≡ true) (filter p xs) → AllByRecursion (λ x. p x ≡ true) (if b then x ∷ filter p xs else filter p xs)
    by true e h = (e, h)
    by false e h = h

pub map_parts : {X Y : Type 0} (f : X → Y) (o : Option X) (y : Y) → option_map f o ≡ Some y → (x : X) × (o ≡ Some x) × (f x ≡ y)
map_parts f None y e = absurd (cc)
map_parts f (Some x) y e = (x, refl, same_Some (f x) y e)

pub then_parts : {X Y : Type 0} (f : X → Option Y) (o : Option X) (y : Y) → option_and_then f o ≡ Some y → (x : X) × (o ≡ Some x) × (f x ≡ Some y)
then_parts f None y e = absurd (cc)
then_parts f (Some x) y e = (x, refl, e)

module _ (P : Expression → Type 0) (k : IsOfConditions P) where
  abbrev Each : Option Expression → Type 0
  Each o = (e : Expression) → o ≡ Some e → P e

  abbrev EachOf : Option (List Expression) → Type 0
  EachOf o = (es : List Expression) → o ≡ Some es → AllByRecursion P es

  abbrev All : Conjuncts → Type 0
  All m = AllByRecursion P m.said

  none_each : Each None
  none_each e h = absurd (cc)

  some_each : (x : Expression) → P x → Each (Some x)
  some_each x p e h = subst P (same_Some x e h) p

  none_all : EachOf None
  none_all es h = absurd (cc)

  some_all : (xs : List Expression) → AllByRecursion P xs → EachOf (Some xs)
  some_all xs p es h = subst (AllByRecursion P) (same_Some xs es h) p

  -- ---- chains

  -- an operation whose value is one of its operands' has what the last one has
  abbrev Joins : Op → Type 0
  Joins op = (a b : Expression) → P b → P (operation op a b)

  in_row : (op : Op) → Joins op → (e : Expression) (es : List Expression) → P e → AllByRecursion P es → P (in_a_row op e es)
  in_row op j e [] p h = p
  in_row op j e (f ∷ fs) p h = in_row op j (operation op e f) fs (j e f h.0) h.1

  row_each : (op : Op) → Joins op → (es : List Expression) → AllByRecursion P es → Each (row_of op es)
  row_each op j [] h = none_each
  row_each op j (e ∷ es) h = some_each (in_a_row op e es) (in_row op j e es h.0 h.1)

  added_all : (o : Option Expression) (es : List Expression) → Each o → AllByRecursion P es → AllByRecursion P (added o es)
  added_all None es p h = h
  added_all (Some e) es p h = (p e refl, h)

  groups_all : (op : Op) → Joins op → (n : ℕ) (es : List Expression) → AllByRecursion P es → AllByRecursion P (in_groups n op es)
  unfolding in_groups
  groups_all op j zero es h = tt
  groups_all op j (suc n) [] h = tt
  groups_all op j (suc n) (e ∷ es) h =
      added_all (row_of op (take 16 (e ∷ es))) (in_groups n op (drop 16 (e ∷ es))) (row_each op j (take 16 (e ∷ es)) (take_all P 16 (e ∷ es) h))
      (groups_all op j n (drop 16 (e ∷ es)) (drop_all P 16 (e ∷ es) h))

  either_each : (b : Bool) (x y : Option Expression) → Each x → Each y → Each (if b then x else y)
  either_each true x y p q = p
  either_each false x y p q = q

  chain_within : (op : Op) → Joins op → (n : ℕ) (es : List Expression) → AllByRecursion P es → Each (chained_within n op es)
  unfolding chained_within
  chain_within op j zero es h = row_each op j es h
  chain_within op j (suc n) es h =
      either_each (nat_le (length es) 16) (row_of op es) (chained_within n op (in_groups (length es) op es)) (row_each op j es h)
      (chain_within op j n (in_groups (length es) op es) (groups_all op j (length es) es h))

  chain_each : (op : Op) → Joins op → (es : List Expression) → AllByRecursion P es → Each (chained op es)
  chain_each op j es h = chain_within op j (length es) es h

  -- ---- conjunctions

  either_all : (b : Bool) (m n : Conjuncts) → All m → All n → All (if b then m else n)
  either_all true m n p q = p
  either_all false m n p q = q

  with_all : (m n : Conjuncts) → All m → All n → All (with_members m n)
  with_all m n p q =
      either_all m.never denied (if n.never then denied else record { never = false; said = m.said ++ n.said }) tt
      (either_all n.never denied (record { never = false; said = m.said ++ n.said }) tt (all_append P m.said n.said p q))

  or_truth_has : (b : Bool) (o : Option Expression) → Each o → P (or_truth b o)
  or_truth_has b None p = k.truths b
  or_truth_has b (Some e) p = p e refl

  joined_has : (m : Conjuncts) → All m → P (joined m)
  joined_has m h = by m.never
    where
      by : (b : Bool) → P (if b then truth false else or_truth true (chained ops.And m.said))
      by true = k.truths false
      by false = or_truth_has true (chained ops.And m.said) (chain_each ops.And k.ands m.said h)

  clauses_all : (m : Conjuncts) → All m → AllByRecursion P (clauses_of m)
  clauses_all m h = by m.never
    where
      by : (b : Bool) → AllByRecursion P (if b then truth false ∷ [] else m.said)
      by true = (k.truths false, tt)
      by false = h

  maybes_all : (ms : List Conjuncts) → AllByRecursion All ms → AllByRecursion P (may_be ms)
  maybes_all [] h = tt
  maybes_all (m ∷ ms) h = by m.never (maybes_all ms h.1)
    where
      by : (b : Bool) → AllByRecursion P (may_be ms) → AllByRecursion P (if b then may_be ms else joined m ∷ may_be ms)
      by true r = r
      by false r = (joined_has m h.0, r)

  just_all : (o : Option Expression) → Each o → All (just_or_denied o)
  just_all None p = tt
  just_all (Some e) p = (p e refl, tt)

  either_said : (whole ms : List Conjuncts) → AllByRecursion All whole → All (either whole ms)
  either_said whole [] h = just_all (chained ops.Or (may_be whole)) (chain_each ops.Or k.ors (may_be whole) (maybes_all whole h))
  either_said whole (m ∷ ms) h = either_all (is_always m) always (either whole ms) tt (either_said whole ms h)

  one_all : (ms : List Conjuncts) → AllByRecursion All ms → All (one_of ms)
  one_all ms h = either_said ms ms h

  -- ---- comparisons

  related_each : (op : Op) → ((a b : Expression) → P (operation op a b)) → (x y : Option Expression) → Each (related op x y)
  related_each op j None y = none_each
  related_each op j (Some a) None = none_each
  related_each op j (Some a) (Some b) = some_each (operation op a b) (j a b)

  comparison_each : (op : Op) → ((a b : Expression) → P (operation op a b)) → (b : ℤ) (ls rs : Option (List Expression)) → Each (comparison op b ls rs)
  comparison_each op j b None rs = none_each
  comparison_each op j b (Some ls) None = none_each
  comparison_each op j b (Some ls) (Some rs) =
      related_each op j (chained ops.Add (ls ++ number_if (stands_left (length ls) (length rs) b) (neg_ℤ b))) (chained ops.Add (rs ++ number_if (stands_right (length ls) (length rs) b) b))

  comparing_has : (equal : Bool) (a b : Expression) → P (operation (comparing equal) a b)
  comparing_has true a b = k.equal a b
  comparing_has false a b = k.at_most a b

  sum_each : (s : ClauseScope) (equal : Bool) (ts : List (ℕ × ℤ)) (b : ℤ) → Each (sum_said s equal ts b)
  sum_each s equal ts b =
      either_each (equal && begins_below ts) (comparison ops.Eq (neg_ℤ b) (side s false ts) (side s true ts)) (comparison (comparing equal) b (side s true ts) (side s false ts))
      (comparison_each ops.Eq k.equal (neg_ℤ b) (side s false ts) (side s true ts)) (comparison_each (comparing equal) (comparing_has equal) b (side s true ts) (side s false ts))

  -- ---- rows

  -- what is said of some boolean columns in a case: the opposite is a condition, too
  abbrev Opposes : Expression → Type 0
  Opposes e = P (opposite_of e)

  implied_has : (ps : List Expression) (e : Expression) → P e → P (implied ps e)
  implied_has ps e p = by (chained ops.And ps)
    where
      by : (o : Option Expression) → P (under o e)
      by None = p
      by (Some f) = k.conclusions f e p

  excluded_each : (ps es : List Expression) → AllByRecursion Opposes es → Each (excluded_from ps es)
  excluded_each ps [] h = none_each
  excluded_each ps (e ∷ []) h = some_each (implied ps (opposite_of e)) (implied_has ps (opposite_of e) h.0)
  excluded_each ps (e ∷ (f ∷ fs)) h = excluded_each (ps ++ e ∷ []) (f ∷ fs) h.1

  module _ (s : ClauseScope) (columns : OfColumns P s) where
    -- the terms of boolean columns
    abbrev OfTruths : List (ℕ × ℤ) → Type 0
    OfTruths ts = AllByRecursion (λ t. is_truth s t.0 ≡ true) ts

    spoken_opposes : (name : List ℕ) (v : Voice) → Opposes (spoken name v)
    spoken_opposes name Plain = k.opposites (spoken name Plain)
    spoken_opposes name InOld = k.opposites (spoken name InOld)

    said_opposes : (n : ℕ) (e : Expression) → said s n ≡ Some e → Opposes e
    said_opposes n e h =
        let a = then_parts (column_said s) (slice_get s.frame n) e h in
        let b = map_parts (spoken a.0.1.name) (voice s a.0) e a.2 in
        subst Opposes b.2 (spoken_opposes a.0.1.name b.0)

    condition_opposes : (n : ℕ) (b : Bool) (e : Expression) → is_truth s n ≡ true → condition_said s n b ≡ Some e → Opposes e
    condition_opposes n b e t h =
        let a = map_parts (as_is b) (said s n) e h in
        subst Opposes a.2 (by b a.0 a.1)
      where
        by : (b : Bool) (e : Expression) → said s n ≡ Some e → Opposes (as_is b e)
        by true e h = said_opposes n e h
        by false e h = columns n e t h

    conditions_oppose : (ts : List (ℕ × ℤ)) (c : List Bool) (es : List Expression) → OfTruths ts → conditions s ts c ≡ Some es → AllByRecursion Opposes es
    conditions_oppose [] c es t h = subst (AllByRecursion Opposes) (same_Some [] es h) tt
    conditions_oppose (x ∷ ts) [] es t h = subst (AllByRecursion Opposes) (same_Some [] es h) tt
    conditions_oppose (x ∷ ts) (b ∷ c) es t h = by (condition_said s x.0 b) (conditions s ts c) refl (λ fs e. conditions_oppose ts c fs t.1 e) h
      where
        by : (o : Option Expression) (os : Option (List Expression)) → condition_said s x.0 b ≡ o → ((fs : List Expression) → os ≡ Some fs → AllByRecursion Opposes fs) → in_front o os ≡ Some es →
            AllByRecursion Opposes es
        by None os i r g = absurd (cc)
        by (Some e) None i r g = absurd (cc)
        by (Some e) (Some fs) i r g = subst (AllByRecursion Opposes) (same_Some (e ∷ fs) es g) (condition_opposes x.0 b e t.0 i, r fs refl)

    either_of_lists : (b : Bool) (x y : Option (List Expression)) → EachOf x → EachOf y → EachOf (if b then x else y)
    either_of_lists true x y p q = p
    either_of_lists false x y p q = q

    alone_each : (o : Option Expression) → Each o → EachOf (option_map alone o)
    alone_each None p = none_all
    alone_each (Some e) p = some_all (e ∷ []) (p e refl, tt)

    concluded_each : (ps : Option (List Expression)) (o : Option Expression) → Each o → EachOf (concluded ps o)
    concluded_each None o p = none_all
    concluded_each (Some ps) None p = none_all
    concluded_each (Some ps) (Some e) p = some_all (implied ps e ∷ []) (implied_has ps e (p e refl), tt)

    abbrev EachOpposes : Option (List Expression) → Type 0
    EachOpposes o = (es : List Expression) → o ≡ Some es → AllByRecursion Opposes es

    excluded_if : (ps : Option (List Expression)) → EachOpposes ps → Each (option_and_then excluded ps)
    excluded_if None h = none_each
    excluded_if (Some ps) h = excluded_each [] ps (h ps refl)

    under_each : (equal : Bool) (ns : List (ℕ × ℤ)) (ps : Option (List Expression)) (b : ℤ) → EachOpposes ps → EachOf (said_under s equal ns ps b)
    under_each equal [] ps b h = either_of_lists (stands equal b) (Some []) (option_map alone (option_and_then excluded ps)) (some_all [] tt) (alone_each (option_and_then excluded ps) (excluded_if ps h))
    under_each equal (t ∷ ts) ps b h = concluded_each ps (sum_said s equal (t ∷ ts) b) (sum_each s equal (t ∷ ts) b)

    case_each : (t : ByTruths) (equal : Bool) (bound : ℤ) (c : List Bool) → OfTruths t.truths → EachOf (case_said s t equal bound c)
    case_each t equal bound c h = by (rest bound t.truths c)
      where
        by : (o : Option ℤ) → EachOf (option_and_then (said_under s equal t.numbers (conditions s t.truths c)) o)
        by None = none_all
        by (Some b) = under_each equal t.numbers (conditions s t.truths c) b (λ es e. conditions_oppose t.truths c es h e)

    both_each : (o r : Option (List Expression)) → EachOf o → EachOf r → EachOf (both_said o r)
    both_each None r p q = none_all
    both_each (Some es) None p q = none_all
    both_each (Some es) (Some fs) p q = some_all (es ++ fs) (all_append P es fs (p es refl) (q fs refl))

    cases_each : (t : ByTruths) (equal : Bool) (bound : ℤ) (cs : List (List Bool)) → OfTruths t.truths → EachOf (rows.cases_said s t equal bound cs)
    cases_each t equal bound [] h = some_all [] tt
    cases_each t equal bound (c ∷ cs) h =
        both_each (case_said s t equal bound c) (rows.cases_said s t equal bound cs) (case_each t equal bound c h) (cases_each t equal bound cs h)

    missing_all : (o : Option (List Expression)) → EachOf o → All (or_missing s o)
    missing_all None p = either_all s.premise denied always tt tt
    missing_all (Some es) p = p es refl

    split_all : (r : LinearRow) (t : ByTruths) (equal : Bool) → OfTruths t.truths → All (split_said s r t equal)
    split_all r t equal h =
        either_all (is_constant t equal r.bound true) always (if is_constant t equal r.bound false then denied else or_missing s (if_sayable s r t equal)) tt
        (either_all (is_constant t equal r.bound false) denied (or_missing s (if_sayable s r t equal)) tt
        (missing_all (if_sayable s r t equal)
        (either_of_lists (can_say_all s r.terms) (rows.cases_said s t equal r.bound (cases (length t.truths))) None (cases_each t equal r.bound (cases (length t.truths)) h) none_all)))

    true_beq : (b : Bool) → beq true b ≡ true → b ≡ true
    true_beq true e = refl
    true_beq false e = e

    truths_of : (ts : List (ℕ × ℤ)) → AllByRecursion (λ t. beq true (is_truth s t.0) ≡ true) ts → OfTruths ts
    truths_of [] h = tt
    truths_of (t ∷ ts) h = (true_beq (is_truth s t.0) h.0, truths_of ts h.1)

    apart_truths : (ts : List (ℕ × ℤ)) → OfTruths (apart s ts).truths
    apart_truths ts = by (nat_le (length (terms_of s true ts)) 3)
      where
        by : (b : Bool) →
            (let x : ByTruths = if b then record { numbers = terms_of s false ts; truths = terms_of s true ts } else record { numbers = ts; truths = [] } in OfTruths x.truths)
        by true = truths_of (terms_of s true ts) (filter_all (λ t. beq true (is_truth s t.0)) ts)
        by false = tt

    row_all : (r : LinearRow) (equal : Bool) → All (row_said s r equal)
    row_all r equal = split_all r (apart s r.terms) equal (apart_truths r.terms)

    -- ---- facts

    row_at : (before rs : List LinearRow) → All (row_said_at s before rs)
    row_at before [] = tt
    row_at before (r ∷ rs) = either_all (has_opposite before r) always (row_said s r (has_opposite (r ∷ rs) r)) tt (row_all r (has_opposite (r ∷ rs) r))

    rows_all : (before rs : List LinearRow) → All (rows_said s before rs)
    rows_all before [] = tt
    rows_all before (r ∷ rs) = with_all (row_said_at s before (r ∷ rs)) (rows_said s (before ++ r ∷ []) rs) (row_at before (r ∷ rs)) (rows_all (before ++ r ∷ []) rs)

    told_all : (rs : List LinearRow) → All (told_rows s rs)
    told_all rs =
        either_all (is_of_entry s) (entry_said s (map (entry_row s) rs)) (rows_said s [] rs)
        (either_all (s.premise && not (list_all is_some (map (entry_row s) rs))) denied (rows_said s [] (merged (map (entry_row s) rs) [])) tt (rows_all [] (merged (map (entry_row s) rs) []))) (rows_all [] rs)

    all_of_all : (ms : List Conjuncts) → AllByRecursion All ms → All (all_of ms)
    all_of_all [] h = tt
    all_of_all (m ∷ ms) h = with_all m (all_of ms) h.0 (all_of_all ms h.1)

    map_all : {X : Type 0} (f : X → Conjuncts) → ((x : X) → All (f x)) → (xs : List X) → AllByRecursion All (map f xs)
    map_all f h [] = tt
    map_all f h (x ∷ xs) = (h x, map_all f h xs)

    never_all : (b : Bool) (m : Conjuncts) → All m → All (never_or b m)
    never_all true m h = tt
    never_all false m h = h

    facts_all : (f : Formula → Conjuncts) → ((x : Formula) → All (f x)) → (c : Facts) → All (facts_with f s c)
    facts_all f h c =
        never_all c.never (with_members (told_rows s c.rows) (all_of (map f c.cases)))
        (with_all (told_rows s c.rows) (all_of (map f c.cases)) (told_all c.rows) (all_of_all (map f c.cases) (map_all f h c.cases)))

    unless_all_said : (b : Bool) (m : Conjuncts) → All m → All (unless_all b m)
    unless_all_said true m h = tt
    unless_all_said false m h = h

    alternatives_all : (f : Formula → Conjuncts) → ((x : Formula) → All (f x)) → (d : Alternatives) → All (alternatives_with f s d)
    alternatives_all f h d =
        with_all (facts_with f s d.shared) (unless_all (are_all d.rests) (one_of (map (facts_with f s) (flat_map rest_parts d.rests)))) (facts_all f h d.shared)
        (unless_all_said (are_all d.rests) (one_of (map (facts_with f s) (flat_map rest_parts d.rests)))
        (one_all (map (facts_with f s) (flat_map rest_parts d.rests)) (map_all (facts_with f s) (facts_all f h) (flat_map rest_parts d.rests))))

    deep_all : (n : ℕ) (f : Formula) → All (conclusions.cases_said n s f)
    unfolding conclusions.cases_said
    deep_all zero f = tt
    deep_all (suc n) f = alternatives_all (conclusions.cases_said n s) (deep_all n) (either_of_all (part_facts f))

    known_all : (known : Known) (ns : List ℕ) → All (known_at_one known s ns)
    known_all known ns = alternatives_all (conclusions.cases_said 201 s) (deep_all 201) (either_of_all (map (known_at known) ns))

  -- ---- clauses

  pub required_are : (q : KnownProcedure) → OfColumns P (scope q Requires false) → AllByRecursion P (required q)
  required_are q columns =
      clauses_all (known_at_one q.known (scope q Requires false) (map (λ e. e.node) q.entries)) (known_all (scope q Requires false) columns q.known (map (λ e. e.node) q.entries))

  either_clauses : (b : Bool) (xs ys : List Expression) → AllByRecursion P xs → AllByRecursion P ys → AllByRecursion P (if b then xs else ys)
  either_clauses true xs ys p q = p
  either_clauses false xs ys p q = q

  -- those of an entry node
  clauses_are : (q : KnownProcedure) (position : Position) (node : ℕ) (premise : Bool) (m : Conjuncts) → All m →
      AllByRecursion P (if is_always m then [] else (if premise then under_facts (scope q position true) (known_at q.known node) m else clauses_of m))
  clauses_are q position node premise m h =
      let s : ClauseScope = scope q position true in
      let c : Facts = known_at q.known node in
      let implies : List Expression = operation ops.Implies (premise_said s c (facts_said s c)) (joined m) ∷ [] in
      either_clauses (is_always m) [] (if premise then under_facts s c m else clauses_of m) tt
      (either_clauses premise (under_facts s c m) (clauses_of m)
      (either_clauses (facts_said s c).never [] (if is_always (facts_said s c) then clauses_of m else implies) tt
      (either_clauses (is_always (facts_said s c)) (clauses_of m) implies (clauses_all m h) (k.conclusions (premise_said s c (facts_said s c)) (joined m) (joined_has m h), tt)))
      (clauses_all m h))

  flat_all : {X : Type 0} (f : X → List Expression) → ((x : X) → AllByRecursion P (f x)) → (xs : List X) → AllByRecursion P (flat_map f xs)
  flat_all f h [] = tt
  flat_all f h (x ∷ xs) = all_append P (f x) (flat_map f xs) (h x) (flat_all f h xs)

  pub holding_are : (q : KnownProcedure) (position : Position) (place : ℕ) → OfColumns P (scope q position false) → AllByRecursion P (holding q position place)
  holding_are q position place columns =
      flat_all (holding_for q position place)
      (λ e. clauses_are q position e.node e.is_premise (known_at_one q.known (scope q position false) (q.known.standing place e.node))
      (known_all (scope q position false) columns q.known (q.known.standing place e.node)))
      q.entries

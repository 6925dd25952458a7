-- Rows of operands, their groups, and chains of groups.
use Rattle.std.proofs.Common.{◌≡◌, ◌≢◌, ℕ, zero, suc, ◌+◌, ◌-◌, ◌<◌, ◌≤◌, List, [], ◌∷◌, ◌++◌, length, take, drop, Option, None, Some, map, refl, sym, ap, ◌∙◌, subst, append_assoc, arith, length-drop, length-append}
use Rattle.std.proofs.lemmas.Bool.{lt-leb, le-leb}
use Rattle.std.proofs.lemmas.List.{append-nil, take_all, map-append, length-map}
use Rattle.std.proofs.Math.Seq.{take-append_seam, drop-append_seam}
use Rattle.std.proofs.Math.ListN.{drop_of_length-le}
use Rattle.std.specs.Option.{option_to_list}
use Rattle.boogie_tree.specs.declared.tree.Op.{Op}
use Rattle.boogie_tree.specs.declared.tree.Expr.{Expr}
use Rattle.boogie_tree.specs.Tree.{Expression}
use Rattle.boogie_tree.specs.View.{expression}
use Rattle.explained_proof.specs.BuiltExpressions.Building.{operation, in_a_row, with_operand, row_of, added, in_groups, chained_within, chained}

in_a_row-push : (op : Op) (e : Expression) (es : List Expression) (f : Expression) → in_a_row op e (es ++ f ∷ []) ≡ operation op (in_a_row op e es) f
in_a_row-push op e [] f = refl
in_a_row-push op e (g ∷ es) f = in_a_row-push op (operation op e g) es f

-- one operand more in a row
pub row_of-push : (op : Op) (es : List Expression) (f : Expression) → row_of op (es ++ f ∷ []) ≡ Some (with_operand op (row_of op es) f)
row_of-push op [] f = refl
row_of-push op (e ∷ es) f = ap Some (in_a_row-push op e es f)

added-list : (o : Option Expression) (es : List Expression) → added o es ≡ option_to_list o ++ es
added-list None es = refl
added-list (Some e) es = refl

in_groups-cons : (n : ℕ) (op : Op) (e : Expression) (es : List Expression) →
    in_groups (suc n) op (e ∷ es) ≡ option_to_list (row_of op (take 16 (e ∷ es))) ++ in_groups n op (drop 16 (e ∷ es))
unfolding in_groups
in_groups-cons n op e es = added-list (row_of op (take 16 (e ∷ es))) (in_groups n op (drop 16 (e ∷ es)))

in_groups-nil : (n : ℕ) (op : Op) → in_groups n op [] ≡ []
unfolding in_groups
in_groups-nil zero op = refl
in_groups-nil (suc n) op = refl

in_groups-none : (op : Op) (es : List Expression) → in_groups zero op es ≡ []
unfolding in_groups
in_groups-none op es = refl

-- the operands in front of a place are a group
take_front : (k : ℕ) (g r : List Expression) → length g ≡ k → take k (g ++ r) ≡ g
take_front k g r h = subst (λ n. take n (g ++ r) ≡ g) h (take-append_seam g r)

drop_front : (k : ℕ) (g r : List Expression) → length g ≡ k → drop k (g ++ r) ≡ r
drop_front k g r h = subst (λ n. drop n (g ++ r) ≡ r) h (drop-append_seam g r)

first_group : (n : ℕ) (op : Op) (g r : List Expression) → length g ≡ 16 → in_groups (suc n) op (g ++ r) ≡ option_to_list (row_of op g) ++ in_groups n op r
first_group n op [] r h = absurd (omega (arith, h))
first_group n op (e ∷ g) r h =
    let front : take 16 ((e ∷ g) ++ r) ≡ e ∷ g = take_front 16 (e ∷ g) r h in
    let behind : drop 16 ((e ∷ g) ++ r) ≡ r = drop_front 16 (e ∷ g) r h in
    in_groups-cons n op e (g ++ r) ∙
    ap (λ xs. option_to_list (row_of op xs) ++ in_groups n op (drop 16 ((e ∷ g) ++ r))) front ∙
    ap (λ ys. option_to_list (row_of op (e ∷ g)) ++ in_groups n op ys) behind

last_group : (n : ℕ) (op : Op) (g : List Expression) → length g ≤ 16 → length g ≤ n → in_groups n op g ≡ option_to_list (row_of op g)
last_group n op [] h l = in_groups-nil n op
last_group zero op (e ∷ g) h l = absurd (omega (arith, l))
last_group (suc n) op (e ∷ g) h l =
    let front : take 16 (e ∷ g) ≡ e ∷ g = take_all 16 (e ∷ g) h in
    let behind : drop 16 (e ∷ g) ≡ [] = drop_of_length-le (e ∷ g) h in
    in_groups-cons n op e g ∙
    ap (λ xs. option_to_list (row_of op xs) ++ in_groups n op (drop 16 (e ∷ g))) front ∙
    ap (λ ys. option_to_list (row_of op (e ∷ g)) ++ in_groups n op ys) behind ∙
    ap (λ ys. option_to_list (row_of op (e ∷ g)) ++ ys) (in_groups-nil n op) ∙
    append-nil (option_to_list (row_of op (e ∷ g)))

-- Operands that are put into groups: those that are made, one under way, and what is left.
pub record Grouping (op : Op) (all groups group rest : List Expression) : Type 0 where
  pub fuel : ℕ
  pub enough : length group + length rest ≤ fuel
  pub short : length group < 16
  pub so_far : in_groups (length all) op all ≡ groups ++ in_groups fuel op (group ++ rest)

pub groups_begin : (op : Op) (all : List Expression) → Grouping op all [] [] all
groups_begin op all = record { fuel = length all; enough = omega arith; short = omega arith; so_far = refl }

pub group_grows : (op : Op) (all gs g : List Expression) (e : Expression) (r : List Expression) → Grouping op all gs g (e ∷ r) → length (g ++ e ∷ []) ≢ 16 → Grouping op all gs (g ++ e ∷ []) r
group_grows op all gs g e r s n =
    let len : length (g ++ e ∷ []) ≡ length g + 1 = length-append g (e ∷ []) in
    record {
      fuel = s.fuel;
      enough = omega (arith, s.enough);
      short = omega (arith, s.short, n);
      so_far = s.so_far ∙ ap (λ xs. gs ++ in_groups s.fuel op xs) (sym (append_assoc g (e ∷ []) r));
    }

module _ (op : Op) (all gs g : List Expression) (e : Expression) (r : List Expression) where
  full_with : (n : ℕ) → length (g ++ e ∷ []) + length r ≤ n → length (g ++ e ∷ []) ≡ 16 → in_groups (length all) op all ≡ gs ++ in_groups n op ((g ++ e ∷ []) ++ r) →
      Grouping op all (gs ++ option_to_list (row_of op (g ++ e ∷ []))) [] r
  full_with zero l h p = absurd (omega (arith, l, h))
  full_with (suc n) l h p = record {
    fuel = n;
    enough = omega (arith, l, h);
    short = omega arith;
    so_far = p ∙ ap (λ xs. gs ++ xs) (first_group n op (g ++ e ∷ []) r h) ∙ sym (append_assoc gs (option_to_list (row_of op (g ++ e ∷ []))) (in_groups n op r));
  }

  pub group_full : Grouping op all gs g (e ∷ r) → length (g ++ e ∷ []) ≡ 16 → Grouping op all (gs ++ option_to_list (row_of op (g ++ e ∷ []))) [] r
  group_full s h =
      let len : length (g ++ e ∷ []) ≡ length g + 1 = length-append g (e ∷ []) in
      full_with s.fuel (omega (arith, s.enough)) h (s.so_far ∙ ap (λ xs. gs ++ in_groups s.fuel op xs) (sym (append_assoc g (e ∷ []) r)))

pub groups_end : (op : Op) (all gs g : List Expression) → Grouping op all gs g [] → in_groups (length all) op all ≡ gs ++ option_to_list (row_of op g)
groups_end op all gs g s =
    s.so_far ∙ ap (λ xs. gs ++ in_groups s.fuel op xs) (append-nil g) ∙
    ap (λ xs. gs ++ xs) (last_group s.fuel op g (omega (arith, s.short)) (omega (arith, s.enough)))

-- ---- the same of the code's operands

module _ (op : Op) (all : List Expression) (gs : List Expr) (g h : List Expr) (p : Expr) (was rest : List Expr) where
  taken : Grouping op all (map expression gs) (map expression g) (map expression was) → was ≡ p ∷ rest → Grouping op all (map expression gs) (map expression g) (expression p ∷ map expression rest)
  taken s e = subst (λ ws. Grouping op all (map expression gs) (map expression g) (map expression ws)) e s

  grown : h ≡ g ++ p ∷ [] → map expression h ≡ map expression g ++ expression p ∷ []
  grown e = ap (map expression) e ∙ map-append expression g (p ∷ [])

  pub grows_on : Grouping op all (map expression gs) (map expression g) (map expression was) → was ≡ p ∷ rest → h ≡ g ++ p ∷ [] → length h ≢ 16 →
      Grouping op all (map expression gs) (map expression h) (map expression rest)
  grows_on s e f n =
      subst (λ ys. Grouping op all (map expression gs) ys (map expression rest)) (sym (grown f))
      (group_grows op all (map expression gs) (map expression g) (expression p) (map expression rest) (taken s e) (λ k. n (sym (length-map h expression) ∙ ap length (grown f) ∙ k)))

  pub closes : (hs k : List Expr) → Grouping op all (map expression gs) (map expression g) (map expression was) → was ≡ p ∷ rest → h ≡ g ++ p ∷ [] → length h ≡ 16 →
      k ≡ [] → map expression hs ≡ map expression gs ++ option_to_list (row_of op (map expression h)) → Grouping op all (map expression hs) (map expression k) (map expression rest)
  closes hs k s e f n none made =
      let full = group_full op all (map expression gs) (map expression g) (expression p) (map expression rest) (taken s e) (sym (ap length (grown f)) ∙ length-map h expression ∙ n) in
      let to : map expression hs ≡ map expression gs ++ option_to_list (row_of op (map expression g ++ expression p ∷ [])) =
      made ∙ ap (λ ys. map expression gs ++ option_to_list (row_of op ys)) (grown f) in
      subst (λ ys. Grouping op all (map expression hs) ys (map expression rest)) (ap (map expression) (sym none))
      (subst (λ xs. Grouping op all xs [] (map expression rest)) (sym to) full)

pub ends_with : (op : Op) (all : List Expression) (gs g was hs : List Expr) → Grouping op all (map expression gs) (map expression g) (map expression was) → was ≡ [] →
    map expression hs ≡ map expression gs ++ option_to_list (row_of op (map expression g)) → map expression hs ≡ in_groups (length all) op all
ends_with op all gs g was hs s none made =
    made ∙ sym (groups_end op all (map expression gs) (map expression g) (subst (λ ws. Grouping op all (map expression gs) (map expression g) (map expression ws)) none s))

-- ---- fewer groups than operands

length_added : (o : Option Expression) (es : List Expression) → length (option_to_list o ++ es) ≤ suc (length es)
length_added None es = omega arith
length_added (Some e) es = omega arith

groups_at_most : (n : ℕ) (op : Op) (es : List Expression) → length (in_groups n op es) ≤ length es
groups_at_most n op [] = subst (λ xs. length xs ≤ 0) (sym (in_groups-nil n op)) (omega arith)
groups_at_most zero op (e ∷ es) = subst (λ xs. length xs ≤ length (e ∷ es)) (sym (in_groups-none op (e ∷ es))) (omega arith)
groups_at_most (suc n) op (e ∷ es) =
    let more = length_added (row_of op (take 16 (e ∷ es))) (in_groups n op (drop 16 (e ∷ es))) in
    let less = groups_at_most n op (drop 16 (e ∷ es)) in
    let left : length (drop 16 (e ∷ es)) ≡ length (e ∷ es) - 16 = length-drop 16 (e ∷ es) in
    subst (λ xs. length xs ≤ length (e ∷ es)) (sym (in_groups-cons n op e es)) (omega (arith, more, less, left))

pub fewer_groups : (n : ℕ) (op : Op) (es : List Expression) → 16 < length es → length (in_groups n op es) < length es
fewer_groups n op [] h = absurd (omega (arith, h))
fewer_groups zero op (e ∷ es) h = subst (λ xs. length xs < length (e ∷ es)) (sym (in_groups-none op (e ∷ es))) (omega arith)
fewer_groups (suc n) op (e ∷ es) h =
    let more = length_added (row_of op (take 16 (e ∷ es))) (in_groups n op (drop 16 (e ∷ es))) in
    let less = groups_at_most n op (drop 16 (e ∷ es)) in
    let left : length (drop 16 (e ∷ es)) ≡ length (e ∷ es) - 16 = length-drop 16 (e ∷ es) in
    subst (λ xs. length xs < length (e ∷ es)) (sym (in_groups-cons n op e es)) (omega (arith, more, less, left, h))

-- Operands, or their groups, that say together what all operands say.
pub record Chaining (op : Op) (all parts : List Expression) : Type 0 where
  pub fuel : ℕ
  pub enough : length parts ≤ fuel
  pub same : chained_within fuel op parts ≡ chained op all

pub chain_begins : (op : Op) (all : List Expression) → Chaining op all all
chain_begins op all = record { fuel = length all; enough = omega arith; same = refl }

long_chain : (n : ℕ) (op : Op) (es : List Expression) → 16 < length es → chained_within (suc n) op es ≡ chained_within n op (in_groups (length es) op es)
unfolding chained_within
long_chain n op es h = rw (lt-leb (length es) 16 h) refl

pub short_chain : (n : ℕ) (op : Op) (es : List Expression) → length es ≤ 16 → chained_within n op es ≡ row_of op es
unfolding chained_within
short_chain zero op es h = refl
short_chain (suc n) op es h = rw (le-leb (length es) 16 h) refl

step_with : (op : Op) (all parts : List Expression) (n : ℕ) → length parts ≤ n → chained_within n op parts ≡ chained op all → 16 < length parts → Chaining op all (in_groups (length parts) op parts)
step_with op all parts zero l p h = absurd (omega (arith, l, h))
step_with op all parts (suc n) l p h = record {
  fuel = n;
  enough = omega (arith, l, fewer_groups (length parts) op parts h);
  same = sym (long_chain n op parts h) ∙ p;
}

pub chain_steps : (op : Op) (all parts : List Expression) → Chaining op all parts → 16 < length parts → Chaining op all (in_groups (length parts) op parts)
chain_steps op all parts s h = step_with op all parts s.fuel s.enough s.same h

pub chain_ends : (op : Op) (all parts : List Expression) → Chaining op all parts → length parts ≤ 16 → row_of op parts ≡ chained op all
chain_ends op all parts s h = sym (short_chain s.fuel op parts h) ∙ s.same

pub fewer_made : (op : Op) (ps qs : List Expr) → map expression qs ≡ in_groups (length (map expression ps)) op (map expression ps) → 16 < length ps → length qs < length ps
fewer_made op ps qs e h =
    let n : length (map expression ps) ≡ length ps = length-map ps expression in
    let m : length (map expression qs) ≡ length qs = length-map qs expression in
    let k : length (map expression qs) ≡ length (in_groups (length (map expression ps)) op (map expression ps)) = ap length e in
    let less = fewer_groups (length (map expression ps)) op (map expression ps) (omega (arith, n, h)) in
    omega (arith, n, m, k, less)

pub chain_made : (op : Op) (all : List Expression) (ps qs : List Expr) → Chaining op all (map expression ps) → map expression qs ≡ in_groups (length (map expression ps)) op (map expression ps) → 16 < length ps →
    Chaining op all (map expression qs)
chain_made op all ps qs s e h =
    let n : length (map expression ps) ≡ length ps = length-map ps expression in
    subst (λ xs. Chaining op all xs) (sym e) (chain_steps op all (map expression ps) s (omega (arith, n, h)))

pub chain_told : (op : Op) (all : List Expression) (ps : List Expr) → Chaining op all (map expression ps) → length ps ≤ 16 → row_of op (map expression ps) ≡ chained op all
chain_told op all ps s h =
    let n : length (map expression ps) ≡ length ps = length-map ps expression in
    chain_ends op all (map expression ps) s (omega (arith, n, h))

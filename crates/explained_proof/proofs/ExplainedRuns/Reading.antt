-- What expressions of a text are worth in a state: names mean columns, and the text of the number of a boolean variable means that number.
use Rattle.std.proofs.Common.{◌≡◌, ◌∙◌, inl, inr, ℕ, ◌+◌, ◌-◌, ℤ, pos, neg_ℤ, Bool, true, false, not, List, length, take, drop, Option, None, Some, refl, sym, ap}
use Rattle.std.specs.Prelude.{int_le, if◌then◌else◌}
use Rattle.std.specs.Ordering.{int_eq}
use Rattle.std.proofs.lemmas.Bool.{false≢true}
use Rattle.std.proofs.lemmas.Option.{same_Some}
use Rattle.boogie_tree.specs.declared.tree.Column.{Column}
use Rattle.boogie_tree.specs.Tree.{Expression, Lit, Truth, Var, Old, Not, Neg, Bin}
use Rattle.typed_tree.specs.TypedTree as typed
use Rattle.typed_tree.specs.TypedTree.{TypedExpression}
use Rattle.typed_tree.specs.Values.{State, column_value, at_entry, truth, value_is_zero, same, operation_value, value}
use Rattle.typed_tree.specs.Laws.{IsTruth}
use Rattle.typed_tree.specs.Scope.{Scope}
use Rattle.boogie_types.specs.Meanings.{column_of}
use Rattle.boogie_types.specs.Naming.{from_both, named}
use Rattle.explained_proof.specs.Readings.{tree_value, tree_holds}
use Rattle.explained_proof.proofs.ExplainedRuns.Conditions.{IsOfConditions, map_parts}

abbrev pub is_one : ℤ → Bool
is_one z = not (value_is_zero z)

-- ---- conditions are 0 or 1

truth_is : (b : Bool) → IsTruth (truth b)
truth_is true = inr refl
truth_is false = inl refl

chosen : (b : Bool) (x y : ℤ) → IsTruth x → IsTruth y → IsTruth (if b then x else y)
chosen true x y p q = p
chosen false x y p q = q

pub are_truths : (look : State → List ℕ → ℤ) (st : State) → IsOfConditions (λ e. IsTruth (tree_value look st e))
are_truths look st = record {
  truths = truth_is;
  opposites = λ e. truth_is (value_is_zero (tree_value look st e));
  equal = λ a b. truth_is (same (tree_value look st a) (tree_value look st b));
  at_most = λ a b. truth_is (int_le (tree_value look st a) (tree_value look st b));
  ands = λ a b h. chosen (value_is_zero (tree_value look st a)) (pos 0) (tree_value look st b) (inl refl) h;
  ors = λ a b h. chosen (value_is_zero (tree_value look st a)) (tree_value look st b) (pos 1) h (inr refl);
  conclusions = λ a b h. chosen (value_is_zero (tree_value look st a)) (pos 1) (tree_value look st b) (inr refl) h;
}

pub truth_holds : (z : ℤ) → IsTruth z → is_one z ≡ int_eq z (pos 1)
truth_holds z (inl e) = rw e refl
truth_holds z (inr e) = rw e refl

-- a condition that holds is 1
pub one_is : (z : ℤ) → IsTruth z → is_one z ≡ true → z ≡ pos 1
one_is z (inl e) h = absurd (false≢true (sym (ap is_one e) ∙ h))
one_is z (inr e) h = e

-- ---- names

abbrev pub at_column : State → Option Column → ℤ → ℤ
at_column st None z = z
at_column st (Some c) z = column_value st c

-- a text without so much in front and behind
abbrev pub within : ℕ → ℕ → List ℕ → List ℕ
within front back text = take (length text - (front + back)) (drop front text)

-- the number that the text of one says: that of a boolean variable, or of what one had at the entry
unfoldable pub number_in : Scope → State → List ℕ → ℤ
number_in s st text = at_column st (column_of s (within 4 15 text)) (at_column (at_entry st) (column_of s (within 8 16 text)) (pos 0))

-- what a name means
unfoldable pub meaning : Scope → State → List ℕ → ℤ
meaning s st name = at_column st (column_of s name) (number_in s st name)

abbrev pub worth_in : Scope → State → Expression → ℤ
worth_in s st = tree_value (meaning s) st

abbrev pub holds_in : Scope → State → Expression → Bool
holds_in s st = tree_holds (meaning s) st

-- ---- what an expression is worth is the value of the expression with its names replaced

both_parts : {X Y Z : Type 0} (f : X → Y → Z) (a : Option X) (b : Option Y) (z : Z) → from_both f a b ≡ Some z → (x : X) × (y : Y) × (a ≡ Some x) × (b ≡ Some y) × (f x y ≡ z)
both_parts f None b z e = absurd (cc)
both_parts f (Some x) None z e = absurd (cc)
both_parts f (Some x) (Some y) z e = (x, y, refl, refl, same_Some (f x y) z e)

column_worth : (st : State) (o : Option Column) (c : Column) (z : ℤ) → o ≡ Some c → at_column st o z ≡ column_value st c
column_worth st o c z e = ap (λ (x : Option Column). at_column st x z) e

pub meant : (s : Scope) (st : State) (name : List ℕ) (c : Column) → column_of s name ≡ Some c → meaning s st name ≡ column_value st c
unfolding meaning
meant s st name c e = column_worth st (column_of s name) c (number_in s st name) e

pub named_worth : (s : Scope) (st : State) (e : Expression) (x : TypedExpression) → named s e ≡ Some x → worth_in s st e ≡ value st x
named_worth s st (Lit at n) x h = ap (value st) (same_Some (typed.Lit at n) x h)
named_worth s st (Truth at b) x h = ap (value st) (same_Some (typed.Truth at b) x h)
named_worth s st (Var at y) x h =
    let m = map_parts (typed.Var at) (column_of s y.text) x h in
    meant s st y.text m.0 m.1 ∙ ap (value st) m.2
named_worth s st (Old at e) x h =
    let m = map_parts (typed.Old at) (named s e) x h in
    named_worth s (at_entry st) e m.0 m.1 ∙ ap (value st) m.2
named_worth s st (Not at e) x h =
    let m = map_parts (typed.Not at) (named s e) x h in
    ap (λ (z : ℤ). truth (value_is_zero z)) (named_worth s st e m.0 m.1) ∙ ap (value st) m.2
named_worth s st (Neg at e) x h =
    let m = map_parts (typed.Neg at) (named s e) x h in
    ap neg_ℤ (named_worth s st e m.0 m.1) ∙ ap (value st) m.2
named_worth s st (Bin at op a b) x h =
    let m = both_parts (typed.Bin at op) (named s a) (named s b) x h in
    let p : worth_in s st a ≡ value st m.0 = named_worth s st a m.0 m.2 in
    let q : worth_in s st b ≡ value st m.1 = named_worth s st b m.1 m.3 in
    (λ i. operation_value op (p i) (q i)) ∙ ap (value st) m.4

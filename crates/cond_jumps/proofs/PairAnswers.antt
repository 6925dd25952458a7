-- What the code answers for both lists of a condition.
use Rattle.std.proofs.Common.{◌≡◌, inl, inr, ℕ, Bool, true, false, not, ◌&&◌, [], Result, Ok, Err, refl, sym, ◌∙◌, ap, subst}
use Rattle.std.specs.Prelude.{Vec}
use Rattle.std.specs.Global.{Global}
use Rattle.std.specs.Result.{IsErrAnd}
use Rattle.boogie_tree.specs.declared.span.Span.{Span}
use Rattle.boogie_tree.specs.declared.tree.Op.{Op}
use Rattle.boogie_tree.specs.declared.tree.Op.TheVariants.{Iff, Implies, And, Or, Eq, Ne, Lt, Le, Gt, Ge, Add, Sub, Mul, Div, Mod}
use Rattle.typed_tree.specs.TypedTree.{TypedExpression, Bin}
use Rattle.cond_jumps.specs.declared.conj.Conj.{Conj}
use Rattle.cond_jumps.specs.declared.fault.JumpFault.{JumpFault}
use Rattle.cond_jumps.specs.declared.fault.JumpFault.TheVariants as faults
use Rattle.cond_jumps.specs.declared.pairs.Lists.{Lists}
use Rattle.cond_jumps.specs.declared.refusal.Refusal.{Refusal}
use Rattle.cond_jumps.specs.declared.refusal.Refusal.TheVariants.{TooBig}
use Rattle.cond_jumps.specs.declared.shapes.Shape.{Shape}
use Rattle.cond_jumps.specs.declared.widths.Counts.{Counts}
use Rattle.cond_jumps.specs.Comparisons.{no_jumps, truth_of_column, operation_plan}
use Rattle.cond_jumps.specs.Conjs.{conjunctions}
use Rattle.cond_jumps.specs.Conjunctions.{Plan, Just, Then, With, listed_plan, list_fits, is_long, is_wide, all_fit}
use Rattle.cond_jumps.specs.Environments.{Environment}
use Rattle.cond_jumps.specs.Forms.{Linears}
use Rattle.cond_jumps.specs.ListView.{IsPlanList, IsPlanAnswer, sums_plan, shape_of, plan_of, other_plan_of, asked}
use Rattle.cond_jumps.specs.Ties.PairView.{ArePlanLists, ArePlanAnswers, AreWidths, IsEitherWide, AreWidthAnswers}
use Rattle.cond_jumps.specs.Paths.{linear, is_truth, paths}
use Rattle.cond_jumps.specs.Ties.WidthView.{IsWidth, IsWidthAnswer}
use Rattle.cond_jumps.proofs.AnswerLemmas.{and_first, and_second}
use Rattle.cond_jumps.proofs.PlanAnswers.{shape_plan}
use Rattle.cond_jumps.proofs.WidthAnswers.{first_wide, second_wide}

-- ---- lists that are asked for, or not

pub asked_true : (b : Bool) (p : Plan) → b ≡ true → asked b p ≡ p
asked_true b p e = ap (λ (x : Bool). asked x p) e

pub asked_false : (b : Bool) (p : Plan) → b ≡ false → asked b p ≡ Just no_jumps
asked_false b p e = ap (λ (x : Bool). asked x p) e

pub no_list : (n : ℕ) (v : Vec Conj Global) → v.items ≡ [] → IsPlanList (Just no_jumps) n v
no_list n v e = record { seen = ap conjunctions e; fit = refl }

pub not_asked : (b : Bool) (p : Plan) (n : ℕ) (v : Vec Conj Global) → b ≡ false → v.items ≡ [] → IsPlanList (asked b p) n v
not_asked b p n v e f = let P : Plan → Type 0 = λ z. IsPlanList z n v in subst P (sym (asked_false b p e)) (no_list n v f)

pub is_asked : (b : Bool) (p : Plan) (n : ℕ) (v : Vec Conj Global) → b ≡ true → IsPlanList p n v → IsPlanList (asked b p) n v
is_asked b p n v e h = let P : Plan → Type 0 = λ z. IsPlanList z n v in subst P (sym (asked_true b p e)) h

pub was_asked : (b : Bool) (p : Plan) (n : ℕ) (v : Vec Conj Global) → b ≡ true → IsPlanList (asked b p) n v → IsPlanList p n v
was_asked b p n v e h = let P : Plan → Type 0 = λ z. IsPlanList z n v in subst P (asked_true b p e) h

-- a list of one member
pub one_width : (c : ℕ) (want : Bool) (n : ℕ) → IsWidth (Just (truth_of_column c want)) n 1
one_width c want n = record { narrow = refl; exact = refl }

pub no_width : (n : ℕ) → IsWidth (Just no_jumps) n 0
no_width n = record { narrow = refl; exact = refl }

pub width_not_asked : (b : Bool) (p : Plan) (n : ℕ) → b ≡ false → IsWidth (asked b p) n 0
width_not_asked b p n e = let P : Plan → Type 0 = λ z. IsWidth z n 0 in subst P (sym (asked_false b p e)) (no_width n)

pub width_is_asked : (b : Bool) (p : Plan) (n w : ℕ) → b ≡ true → IsWidth p n w → IsWidth (asked b p) n w
width_is_asked b p n w e h = let P : Plan → Type 0 = λ z. IsWidth z n w in subst P (sym (asked_true b p e)) h

pub width_was_asked : (b : Bool) (p : Plan) (n w : ℕ) → b ≡ true → IsWidth (asked b p) n w → IsWidth p n w
width_was_asked b p n w e h = let P : Plan → Type 0 = λ z. IsWidth z n w in subst P (asked_true b p e) h

-- ---- faults

-- a fault of a part is one of the whole
pub record IsFault (U : Plan → Type 0) : Type 0 where
  pub with_first : (p q : Plan) → U p → U (With p q)
  pub with_second : (p q : Plan) → U q → U (With p q)

-- numbers that do not fit
pub unfit : (n : ℕ) → IsFault (λ p. all_fit p n ≡ false)
unfit n =
    record {
      with_first = λ p q h. and_second (list_fits (listed_plan (With p q) n)) (all_fit p n && all_fit q n) (and_first (all_fit p n) (all_fit q n) h);
      with_second = λ p q h. and_second (list_fits (listed_plan (With p q) n)) (all_fit p n && all_fit q n) (and_second (all_fit p n) (all_fit q n) h);
    }

-- lists that are too wide
pub wide : (n : ℕ) → IsFault (λ p. is_wide p n ≡ true)
wide n =
    record {
      with_first = λ p q h. first_wide (is_long (listed_plan (With p q) n)) (is_wide p n) (is_wide q n) h;
      with_second = λ p q h. second_wide (is_long (listed_plan (With p q) n)) (is_wide p n) (is_wide q n) h;
    }

-- one of two lists that are followed is too wide
pub either_wide : (p q a b : Plan) (n : ℕ) → IsEitherWide p q n → is_wide (Then (With p a) (With q b)) n ≡ true
either_wide p q a b n (inl h) = first_wide (is_long (listed_plan (Then (With p a) (With q b)) n)) (is_wide (With p a) n) (is_wide (With q b) n) ((wide n).with_first p a h)
either_wide p q a b n (inr h) = second_wide (is_long (listed_plan (Then (With p a) (With q b)) n)) (is_wide (With p a) n) (is_wide (With q b) n) ((wide n).with_first q b h)

-- faults that are handed on
pub list_handed_on : (p : Plan) (n : ℕ) (r : Result (Vec Conj Global) Refusal) (f : Refusal) → IsErrAnd r (λ g. g ≡ f) → (f ≡ TooBig → all_fit p n ≡ false) → IsPlanAnswer p n r
list_handed_on p n (Ok v) f h k = absurd h
list_handed_on p n (Err g) f h k = λ e. k (sym h ∙ e)

pub width_handed_on : (p : Plan) (n : ℕ) (r : Result ℕ JumpFault) (f : JumpFault) → IsErrAnd r (λ g. g ≡ f) →
    (f ≡ faults.TooWide → is_wide p n ≡ true) × (f ≡ faults.TooBig → ⊥) → IsWidthAnswer p n r
width_handed_on p n (Ok v) f h k = absurd h
width_handed_on p n (Err g) f h k = ((λ e. k.0 (sym h ∙ e)), (λ e. k.1 (sym h ∙ e)))

pub widths_handed_on : (p q : Plan) (n : ℕ) (r : Result Counts JumpFault) (f : JumpFault) → IsErrAnd r (λ g. g ≡ f) →
    (f ≡ faults.TooWide → IsEitherWide p q n) × (f ≡ faults.TooBig → ⊥) → AreWidthAnswers p q n r
widths_handed_on p q n (Ok v) f h k = absurd h
widths_handed_on p q n (Err g) f h k = ((λ e. k.0 (sym h ∙ e)), (λ e. k.1 (sym h ∙ e)))

-- ---- shapes

-- the plan of an operation that has the other value, by its shape
other_shape_plan : (op : Op) (kind : Bool) (a b : Bool → Plan) (x y : Linears) (want : Bool) →
    operation_plan op kind a b x y (not want) ≡ other_plan_of (shape_of op kind want) a b (sums_plan op x y (not want))
other_shape_plan Iff kind a b x y true = refl
other_shape_plan Iff kind a b x y false = refl
other_shape_plan Implies kind a b x y true = refl
other_shape_plan Implies kind a b x y false = refl
other_shape_plan And kind a b x y true = refl
other_shape_plan And kind a b x y false = refl
other_shape_plan Or kind a b x y true = refl
other_shape_plan Or kind a b x y false = refl
other_shape_plan Eq true a b x y true = refl
other_shape_plan Eq true a b x y false = refl
other_shape_plan Eq false a b x y want = refl
other_shape_plan Ne true a b x y true = refl
other_shape_plan Ne true a b x y false = refl
other_shape_plan Ne false a b x y want = refl
other_shape_plan Lt kind a b x y true = refl
other_shape_plan Lt kind a b x y false = refl
other_shape_plan Le kind a b x y true = refl
other_shape_plan Le kind a b x y false = refl
other_shape_plan Gt kind a b x y true = refl
other_shape_plan Gt kind a b x y false = refl
other_shape_plan Ge kind a b x y true = refl
other_shape_plan Ge kind a b x y false = refl
other_shape_plan Add kind a b x y want = refl
other_shape_plan Sub kind a b x y want = refl
other_shape_plan Mul kind a b x y want = refl
other_shape_plan Div kind a b x y want = refl
other_shape_plan Mod kind a b x y want = refl

-- the plans of an operation are those of its shape
pub shape_paths : (v : Environment) (old : Bool) (at : Span) (op : Op) (e f : TypedExpression) (want kind : Bool) (shape : Shape) → kind ≡ is_truth v old e →
    shape ≡ shape_of op kind want →
    plan_of shape (paths v old e) (paths v old f) (sums_plan op (linear v old e) (linear v old f) want) ≡ paths v old (Bin at op e f) want
shape_paths v old at op e f want kind shape k s =
    let i : shape ≡ shape_of op (is_truth v old e) want = s ∙ ap (λ (b : Bool). shape_of op b want) k in
    ap (λ (z : Shape). plan_of z (paths v old e) (paths v old f) (sums_plan op (linear v old e) (linear v old f) want)) i
    ∙ sym (shape_plan op (is_truth v old e) (paths v old e) (paths v old f) (linear v old e) (linear v old f) want)

pub other_shape_paths : (v : Environment) (old : Bool) (at : Span) (op : Op) (e f : TypedExpression) (want kind : Bool) (shape : Shape) → kind ≡ is_truth v old e →
    shape ≡ shape_of op kind want →
    other_plan_of shape (paths v old e) (paths v old f) (sums_plan op (linear v old e) (linear v old f) (not want)) ≡ paths v old (Bin at op e f) (not want)
other_shape_paths v old at op e f want kind shape k s =
    let i : shape ≡ shape_of op (is_truth v old e) want = s ∙ ap (λ (b : Bool). shape_of op b want) k in
    ap (λ (z : Shape). other_plan_of z (paths v old e) (paths v old f) (sums_plan op (linear v old e) (linear v old f) (not want))) i
    ∙ sym (other_shape_plan op (is_truth v old e) (paths v old e) (paths v old f) (linear v old e) (linear v old f) want)

-- the answer for an operation, by its shape
pub lists_shape_answer : (v : Environment) (old : Bool) (at : Span) (op : Op) (e f : TypedExpression) (want both : Bool) (n : ℕ) (r : Result Lists Refusal) (kind : Bool) (shape : Shape) →
    kind ≡ is_truth v old e → shape ≡ shape_of op kind want →
    ArePlanAnswers (plan_of shape (paths v old e) (paths v old f) (sums_plan op (linear v old e) (linear v old f) want))
    (asked both (other_plan_of shape (paths v old e) (paths v old f) (sums_plan op (linear v old e) (linear v old f) (not want)))) n r →
    ArePlanAnswers (paths v old (Bin at op e f) want) (asked both (paths v old (Bin at op e f) (not want))) n r
lists_shape_answer v old at op e f want both n r kind shape k s h =
    let P : Plan → Type 0 =
    λ p. ArePlanAnswers p (asked both (other_plan_of shape (paths v old e) (paths v old f) (sums_plan op (linear v old e) (linear v old f) (not want)))) n r in
    let Q : Plan → Type 0 = λ q. ArePlanAnswers (paths v old (Bin at op e f) want) (asked both q) n r in
    subst Q (other_shape_paths v old at op e f want kind shape k s) (subst P (shape_paths v old at op e f want kind shape k s) h)

pub widths_shape_answer : (v : Environment) (old : Bool) (at : Span) (op : Op) (e f : TypedExpression) (want both : Bool) (n : ℕ) (r : Result Counts JumpFault) (kind : Bool) (shape : Shape) →
    kind ≡ is_truth v old e → shape ≡ shape_of op kind want →
    AreWidthAnswers (plan_of shape (paths v old e) (paths v old f) (sums_plan op (linear v old e) (linear v old f) want))
    (asked both (other_plan_of shape (paths v old e) (paths v old f) (sums_plan op (linear v old e) (linear v old f) (not want)))) n r →
    AreWidthAnswers (paths v old (Bin at op e f) want) (asked both (paths v old (Bin at op e f) (not want))) n r
widths_shape_answer v old at op e f want both n r kind shape k s h =
    let P : Plan → Type 0 =
    λ p. AreWidthAnswers p (asked both (other_plan_of shape (paths v old e) (paths v old f) (sums_plan op (linear v old e) (linear v old f) (not want)))) n r in
    let Q : Plan → Type 0 = λ q. AreWidthAnswers (paths v old (Bin at op e f) want) (asked both q) n r in
    subst Q (other_shape_paths v old at op e f want kind shape k s) (subst P (shape_paths v old at op e f want kind shape k s) h)

-- lists of the condition that was looked through
pub lists_at : (v : Environment) (old want both : Bool) (n : ℕ) (l : Lists) (d e : TypedExpression) → d ≡ e →
    ArePlanLists (paths v old d want) (asked both (paths v old d (not want))) n l → ArePlanLists (paths v old e want) (asked both (paths v old e (not want))) n l
lists_at v old want both n l d e i h =
    let P : TypedExpression → Type 0 = λ z. ArePlanLists (paths v old z want) (asked both (paths v old z (not want))) n l in subst P i h

pub widths_at : (v : Environment) (old want both : Bool) (n : ℕ) (w : Counts) (d e : TypedExpression) → d ≡ e →
    AreWidths (paths v old d want) (asked both (paths v old d (not want))) n w → AreWidths (paths v old e want) (asked both (paths v old e (not want))) n w
widths_at v old want both n w d e i h =
    let P : TypedExpression → Type 0 = λ z. AreWidths (paths v old z want) (asked both (paths v old z (not want))) n w in subst P i h

-- an answer for a comparison of the operands that were looked through
pub sum_lists_at : (v : Environment) (old : Bool) (op : Op) (want both : Bool) (n : ℕ) (r : Result Lists Refusal) (d e g f : TypedExpression) → d ≡ e → g ≡ f →
    ArePlanAnswers (sums_plan op (linear v old d) (linear v old g) want) (asked both (sums_plan op (linear v old d) (linear v old g) (not want))) n r →
    ArePlanAnswers (sums_plan op (linear v old e) (linear v old f) want) (asked both (sums_plan op (linear v old e) (linear v old f) (not want))) n r
sum_lists_at v old op want both n r d e g f i j h =
    let P : TypedExpression → Type 0 =
    λ z. ArePlanAnswers (sums_plan op (linear v old z) (linear v old g) want) (asked both (sums_plan op (linear v old z) (linear v old g) (not want))) n r in
    let Q : TypedExpression → Type 0 =
    λ z. ArePlanAnswers (sums_plan op (linear v old e) (linear v old z) want) (asked both (sums_plan op (linear v old e) (linear v old z) (not want))) n r in
    subst Q j (subst P i h)

-- A fault of the lists of a part of a condition is one of those of the whole.
use Rattle.std.proofs.Common.{◌≡◌, ◌⊎◌, inl, inr, ℕ, ◌+◌, Bool, true, false, not, ◌&&◌, Result, Ok, Err, refl, sym, subst, ◌∙◌, arith}
use Rattle.std.specs.Result.{IsErrAnd}
use Rattle.std.proofs.lemmas.Bool.{false≢true}
use Rattle.cond_jumps.specs.declared.pairs.Lists.{Lists}
use Rattle.cond_jumps.specs.declared.refusal.Refusal.{Refusal}
use Rattle.cond_jumps.specs.declared.refusal.Refusal.TheVariants.{TooBig}
use Rattle.boogie_tree.specs.declared.span.Span.{Span}
use Rattle.boogie_tree.specs.declared.tree.Op.{Op}
use Rattle.typed_tree.specs.TypedTree.{TypedExpression, Bin}
use Rattle.cond_jumps.specs.declared.fault.JumpFault.{JumpFault}
use Rattle.cond_jumps.specs.declared.fault.JumpFault.TheVariants as faults
use Rattle.cond_jumps.specs.declared.shapes.Needs.{Needs}
use Rattle.cond_jumps.specs.declared.shapes.Shape.{Shape}
use Rattle.cond_jumps.specs.declared.shapes.Shape.TheVariants as shapes
use Rattle.cond_jumps.specs.declared.widths.Counts.{Counts}
use Rattle.cond_jumps.specs.Comparisons.{no_jumps}
use Rattle.cond_jumps.specs.Environments.{Environment}
use Rattle.cond_jumps.specs.Conjunctions.{Plan, Just, Then, With, listed_plan, list_fits, is_long, is_wide, all_fit}
use Rattle.cond_jumps.specs.ListView.{asked, sums_plan, shape_of, plan_of, other_plan_of}
use Rattle.cond_jumps.specs.Moving.{IsEvenPlan}
use Rattle.cond_jumps.specs.Ties.PairView.{ArePlanAnswers, AreWidthAnswers, IsUnfit, IsEitherWide, crossed}
use Rattle.cond_jumps.specs.Paths.{linear, is_truth, paths}
use Rattle.cond_jumps.proofs.AnswerLemmas.{and_first, and_second}
use Rattle.cond_jumps.proofs.PairAnswers.{lists_shape_answer, widths_shape_answer, widths_handed_on}
use Rattle.cond_jumps.proofs.PlanAnswers.{fit_even}
use Rattle.cond_jumps.proofs.WidthAnswers.{first_wide, second_wide}

-- a fault of a plan is one of each plan that it is a part of, and the empty list has none
pub record IsPassedOn (U : Plan → Type 0) : Type 0 where
  pub none : U (Just no_jumps) → ⊥
  pub then_first : (p q : Plan) → U p → U (Then p q)
  pub then_second : (p q : Plan) → U q → U (Then p q)
  pub with_first : (p q : Plan) → U p → U (With p q)
  pub with_second : (p q : Plan) → U q → U (With p q)

-- numbers that do not fit
pub unfit_on : (n : ℕ) → IsPassedOn (λ p. all_fit p n ≡ false)
unfit_on n =
    record {
      none = λ e. false≢true (sym e);
      then_first = λ p q h. and_second (list_fits (listed_plan (Then p q) n)) (all_fit p n && all_fit q n) (and_first (all_fit p n) (all_fit q n) h);
      then_second = λ p q h. and_second (list_fits (listed_plan (Then p q) n)) (all_fit p n && all_fit q n) (and_second (all_fit p n) (all_fit q n) h);
      with_first = λ p q h. and_second (list_fits (listed_plan (With p q) n)) (all_fit p n && all_fit q n) (and_first (all_fit p n) (all_fit q n) h);
      with_second = λ p q h. and_second (list_fits (listed_plan (With p q) n)) (all_fit p n && all_fit q n) (and_second (all_fit p n) (all_fit q n) h);
    }

-- lists that are too wide
pub wide_on : (n : ℕ) → IsPassedOn (λ p. is_wide p n ≡ true)
wide_on n =
    record {
      none = λ e. false≢true e;
      then_first = λ p q h. first_wide (is_long (listed_plan (Then p q) n)) (is_wide p n) (is_wide q n) h;
      then_second = λ p q h. second_wide (is_long (listed_plan (Then p q) n)) (is_wide p n) (is_wide q n) h;
      with_first = λ p q h. first_wide (is_long (listed_plan (With p q) n)) (is_wide p n) (is_wide q n) h;
      with_second = λ p q h. second_wide (is_long (listed_plan (With p q) n)) (is_wide p n) (is_wide q n) h;
    }

-- ---- by the shape of the whole, a fault of the first operand, and one of the second

both_first : (U : Plan → Type 0) → IsPassedOn U → (both : Bool) (p s q r : Plan) → U p ⊎ U (asked both s) → U (With p q) ⊎ U (asked both (Then s (With p r)))
both_first U h true p s q r (inl x) = inl (h.with_first p q x)
both_first U h true p s q r (inr y) = inr (h.then_first s (With p r) y)
both_first U h false p s q r (inl x) = inl (h.with_first p q x)
both_first U h false p s q r (inr y) = absurd (h.none y)

both_second : (U : Plan → Type 0) → IsPassedOn U → (both : Bool) (p s q r : Plan) → U q ⊎ U (asked both r) → U (With p q) ⊎ U (asked both (Then s (With p r)))
both_second U h true p s q r (inl x) = inl (h.with_second p q x)
both_second U h true p s q r (inr y) = inr (h.then_second s (With p r) (h.with_second p r y))
both_second U h false p s q r (inl x) = inl (h.with_second p q x)
both_second U h false p s q r (inr y) = absurd (h.none y)

over_first : (U : Plan → Type 0) → IsPassedOn U → (both : Bool) (p s q r : Plan) → U p ⊎ U s → U (Then p (With s q)) ⊎ U (asked both (With s r))
over_first U h both p s q r (inl x) = inl (h.then_first p (With s q) x)
over_first U h both p s q r (inr y) = inl (h.then_second p (With s q) (h.with_first s q y))

over_second : (U : Plan → Type 0) → IsPassedOn U → (both : Bool) (p s q r : Plan) → U q ⊎ U (asked both r) → U (Then p (With s q)) ⊎ U (asked both (With s r))
over_second U h true p s q r (inl x) = inl (h.then_second p (With s q) (h.with_second s q x))
over_second U h true p s q r (inr y) = inr (h.with_second s r y)
over_second U h false p s q r (inl x) = inl (h.then_second p (With s q) (h.with_second s q x))
over_second U h false p s q r (inr y) = absurd (h.none y)

alike_first : (U : Plan → Type 0) → IsPassedOn U → (both : Bool) (p s q r : Plan) → U p ⊎ U s → U (crossed p s q r) ⊎ U (asked both (crossed p s r q))
alike_first U h both p s q r (inl x) = inl (h.then_first (With p q) (With s r) (h.with_first p q x))
alike_first U h both p s q r (inr y) = inl (h.then_second (With p q) (With s r) (h.with_first s r y))

alike_second : (U : Plan → Type 0) → IsPassedOn U → (both : Bool) (p s q r : Plan) → U q ⊎ U r → U (crossed p s q r) ⊎ U (asked both (crossed p s r q))
alike_second U h both p s q r (inl x) = inl (h.then_first (With p q) (With s r) (h.with_second p q x))
alike_second U h both p s q r (inr y) = inl (h.then_second (With p q) (With s r) (h.with_second s r y))

-- ---- operations by their shape

-- what an operation of each shape needs of its operands
pub record AreNeeds (shape : Shape) (both : Bool) (n : Needs) : Type 0 where
  pub by_both : (x y : Bool) → shape ≡ shapes.Both x y → n ≡ record { first = x; first_other = both; second = y; second_other = both }
  pub by_over : (x y : Bool) → shape ≡ shapes.Over x y → n ≡ record { first = x; first_other = true; second = y; second_other = both }
  pub by_alike : (same : Bool) → shape ≡ shapes.Alike same → n ≡ record { first = true; first_other = true; second = same; second_other = true }
  pub operation : shape ≡ shapes.Sums → ⊥

-- a fault of the first operand
pub first_fault : (U : Plan → Type 0) → IsPassedOn U → (shape : Shape) (both : Bool) (n : Needs) (a b : Bool → Plan) (s t : Plan) → AreNeeds shape both n →
    U (a n.first) ⊎ U (asked n.first_other (a (not n.first))) → U (plan_of shape a b s) ⊎ U (asked both (other_plan_of shape a b t))
first_fault U h (shapes.Both x y) both n a b s t k u =
    both_first U h both (a x) (a (not x)) (b y) (b (not y)) (subst (λ (m : Needs). U (a m.first) ⊎ U (asked m.first_other (a (not m.first)))) (k.by_both x y refl) u)
first_fault U h (shapes.Over x y) both n a b s t k u =
    over_first U h both (a x) (a (not x)) (b y) (b (not y)) (subst (λ (m : Needs). U (a m.first) ⊎ U (asked m.first_other (a (not m.first)))) (k.by_over x y refl) u)
first_fault U h (shapes.Alike same) both n a b s t k u =
    alike_first U h both (a true) (a false) (b same) (b (not same)) (subst (λ (m : Needs). U (a m.first) ⊎ U (asked m.first_other (a (not m.first)))) (k.by_alike same refl) u)
first_fault U h shapes.Sums both n a b s t k u = absurd (k.operation refl)

-- a fault of the second operand
pub second_fault : (U : Plan → Type 0) → IsPassedOn U → (shape : Shape) (both : Bool) (n : Needs) (a b : Bool → Plan) (s t : Plan) → AreNeeds shape both n →
    U (b n.second) ⊎ U (asked n.second_other (b (not n.second))) → U (plan_of shape a b s) ⊎ U (asked both (other_plan_of shape a b t))
second_fault U h (shapes.Both x y) both n a b s t k u =
    both_second U h both (a x) (a (not x)) (b y) (b (not y)) (subst (λ (m : Needs). U (b m.second) ⊎ U (asked m.second_other (b (not m.second)))) (k.by_both x y refl) u)
second_fault U h (shapes.Over x y) both n a b s t k u =
    over_second U h both (a x) (a (not x)) (b y) (b (not y)) (subst (λ (m : Needs). U (b m.second) ⊎ U (asked m.second_other (b (not m.second)))) (k.by_over x y refl) u)
second_fault U h (shapes.Alike same) both n a b s t k u =
    alike_second U h both (a true) (a false) (b same) (b (not same)) (subst (λ (m : Needs). U (b m.second) ⊎ U (asked m.second_other (b (not m.second)))) (k.by_alike same refl) u)
second_fault U h shapes.Sums both n a b s t k u = absurd (k.operation refl)

-- what is put together from what the operands have
pub put_together : (A B L : Plan → Plan → Type 0) (E : Plan → Type 0) (shape : Shape) (both : Bool) (n : Needs) (a b : Bool → Plan) (s t : Plan) → AreNeeds shape both n →
    ((x y : Bool) → shape ≡ shapes.Both x y → (p o q r : Plan) → E q → E r → A p (asked both o) → B q (asked both r) → L (With p q) (asked both (Then o (With p r)))) →
    ((x y : Bool) → shape ≡ shapes.Over x y → (p o q r : Plan) → E q → E r → A p o → B q (asked both r) → L (Then p (With o q)) (asked both (With o r))) →
    ((same : Bool) → shape ≡ shapes.Alike same → (p o q r : Plan) → E q → E r → A p o → B q r → L (crossed p o q r) (asked both (crossed p o r q))) →
    ((z : Bool) → E (b z)) → A (a n.first) (asked n.first_other (a (not n.first))) → B (b n.second) (asked n.second_other (b (not n.second))) →
    L (plan_of shape a b s) (asked both (other_plan_of shape a b t))
put_together A B L E (shapes.Both x y) both n a b s t k f g h e u w =
    f x y refl (a x) (a (not x)) (b y) (b (not y)) (e y) (e (not y)) (subst (λ (m : Needs). A (a m.first) (asked m.first_other (a (not m.first)))) (k.by_both x y refl) u)
    (subst (λ (m : Needs). B (b m.second) (asked m.second_other (b (not m.second)))) (k.by_both x y refl) w)
put_together A B L E (shapes.Over x y) both n a b s t k f g h e u w =
    g x y refl (a x) (a (not x)) (b y) (b (not y)) (e y) (e (not y)) (subst (λ (m : Needs). A (a m.first) (asked m.first_other (a (not m.first)))) (k.by_over x y refl) u)
    (subst (λ (m : Needs). B (b m.second) (asked m.second_other (b (not m.second)))) (k.by_over x y refl) w)
put_together A B L E (shapes.Alike same) both n a b s t k f g h e u w =
    h same refl (a true) (a false) (b same) (b (not same)) (e same) (e (not same)) (subst (λ (m : Needs). A (a m.first) (asked m.first_other (a (not m.first)))) (k.by_alike same refl) u)
    (subst (λ (m : Needs). B (b m.second) (asked m.second_other (b (not m.second)))) (k.by_alike same refl) w)
put_together A B L E shapes.Sums both n a b s t k f g h e u w = absurd (k.operation refl)

-- ---- a fault that is handed on

pub lists_handed_on : (p q : Plan) (n : ℕ) (r : Result Lists Refusal) (f : Refusal) → IsErrAnd r (λ g. g ≡ f) → (f ≡ TooBig → IsUnfit p q n) → ArePlanAnswers p q n r
lists_handed_on p q n (Ok v) f h k = absurd h
lists_handed_on p q n (Err g) f h k = λ e. k (sym h ∙ e)

-- of an operation, by its shape
pub lists_fault : (v : Environment) (old : Bool) (at : Span) (op : Op) (e f : TypedExpression) (want both : Bool) (n : ℕ) (r : Result Lists Refusal) (kind : Bool) (shape : Shape) (fault : Refusal) →
    kind ≡ is_truth v old e → shape ≡ shape_of op kind want → IsErrAnd r (λ g. g ≡ fault) →
    (fault ≡ TooBig → IsUnfit (plan_of shape (paths v old e) (paths v old f) (sums_plan op (linear v old e) (linear v old f) want))
    (asked both (other_plan_of shape (paths v old e) (paths v old f) (sums_plan op (linear v old e) (linear v old f) (not want)))) n) →
    ArePlanAnswers (paths v old (Bin at op e f) want) (asked both (paths v old (Bin at op e f) (not want))) n r
lists_fault v old at op e f want both n r kind shape fault k s h u =
    lists_shape_answer v old at op e f want both n r kind shape k s
    (lists_handed_on (plan_of shape (paths v old e) (paths v old f) (sums_plan op (linear v old e) (linear v old f) want))
    (asked both (other_plan_of shape (paths v old e) (paths v old f) (sums_plan op (linear v old e) (linear v old f) (not want)))) n r fault h u)

pub widths_fault : (v : Environment) (old : Bool) (at : Span) (op : Op) (e f : TypedExpression) (want both : Bool) (n : ℕ) (r : Result Counts JumpFault) (kind : Bool) (shape : Shape) (fault : JumpFault) →
    kind ≡ is_truth v old e → shape ≡ shape_of op kind want → IsErrAnd r (λ g. g ≡ fault) →
    (fault ≡ faults.TooWide → IsEitherWide (plan_of shape (paths v old e) (paths v old f) (sums_plan op (linear v old e) (linear v old f) want))
    (asked both (other_plan_of shape (paths v old e) (paths v old f) (sums_plan op (linear v old e) (linear v old f) (not want)))) n) →
    (fault ≡ faults.TooBig → ⊥) →
    AreWidthAnswers (paths v old (Bin at op e f) want) (asked both (paths v old (Bin at op e f) (not want))) n r
widths_fault v old at op e f want both n r kind shape fault k s h u w =
    widths_shape_answer v old at op e f want both n r kind shape k s
    (widths_handed_on (plan_of shape (paths v old e) (paths v old f) (sums_plan op (linear v old e) (linear v old f) want))
    (asked both (other_plan_of shape (paths v old e) (paths v old f) (sums_plan op (linear v old e) (linear v old f) (not want)))) n r fault h (u, w))

-- of an operand that was looked through
pub unfit_at : (v : Environment) (old want both : Bool) (n : ℕ) (d e : TypedExpression) → d ≡ e →
    IsUnfit (paths v old d want) (asked both (paths v old d (not want))) n → IsUnfit (paths v old e want) (asked both (paths v old e (not want))) n
unfit_at v old want both n d e i h =
    let P : TypedExpression → Type 0 = λ z. IsUnfit (paths v old z want) (asked both (paths v old z (not want))) n in subst P i h

pub wide_at : (v : Environment) (old want both : Bool) (n : ℕ) (d e : TypedExpression) → d ≡ e →
    IsEitherWide (paths v old d want) (asked both (paths v old d (not want))) n → IsEitherWide (paths v old e want) (asked both (paths v old e (not want))) n
wide_at v old want both n d e i h =
    let P : TypedExpression → Type 0 = λ z. IsEitherWide (paths v old z want) (asked both (paths v old z (not want))) n in subst P i h

asked_even : (w : ℕ) (both : Bool) (p : Plan) → IsEvenPlan w p → IsEvenPlan w (asked both p)
asked_even w true p h = h
asked_even w false p h = λ n k l. refl

-- of an operand whose helpers are numbered later
pub unfit_before : (w k m : ℕ) (both : Bool) (p q : Plan) → IsEvenPlan w p → IsEvenPlan w q → m ≡ w + k → IsUnfit p (asked both q) m → IsUnfit p (asked both q) w
unfit_before w k m both p q i j e h = numbered (subst (λ (n : ℕ). IsUnfit p (asked both q) n) e h)
  where
    numbered : IsUnfit p (asked both q) (w + k) → IsUnfit p (asked both q) w
    numbered (inl x) = inl (sym (fit_even w p i w k (omega arith)) ∙ x)
    numbered (inr x) = inr (sym (fit_even w (asked both q) (asked_even w both q j) w k (omega arith)) ∙ x)

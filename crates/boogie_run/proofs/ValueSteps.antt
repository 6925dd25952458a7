-- Reading the values of expressions, one after another.
use Rattle.std.proofs.Common.{◌≡◌, ◌∙◌, ◌<◌, ◌≤◌, ℕ, ◌+◌, ℤ, List, [], ◌∷◌, ◌++◌, map, length, drop, get_or, append_assoc, ap, sym, subst, refl, arith, Bool, true, false, Result, Ok, Err, Option, None, Some, pos, negsuc, to_z, of_z, FitsSigned}
use Rattle.std.specs.Prelude.{SomeIff, IfOk, IfErr}
use Rattle.std.specs.Int.{w128}
use Rattle.std.proofs.lemmas.Int.{to_z-of_z}
use Rattle.std.proofs.lemmas.Option.{same_Some}
use Rattle.std.proofs.lemmas.List.{append-nil, drop_more, drop_all}
use Rattle.math_facts.specs.Fits.{Fits}
use Rattle.boogie_tree.specs.declared.span.Span.{Span}
use Rattle.boogie_tree.specs.declared.tree.Op.{Op}
use Rattle.typed_tree.specs.TypedTree.{TypedExpression, Neg, Bin}
use Rattle.typed_tree.specs.declared.types.TExpr.{TExpr}
use Rattle.typed_tree.specs.TypedView.{expression}
use Rattle.typed_tree.specs.Values.{State, truth, value, operation_value, PartsFit}
use Rattle.boogie_run.specs.declared.types.RunFault.{RunFault}
use Rattle.boogie_run.specs.declared.types.RunFault.TheVariants.{Number}
use Rattle.boogie_run.specs.Steps.{values}
use Rattle.boogie_run.specs.Fitting.{AllFit, PassedPartsFit}
use Rattle.boogie_run.specs.Evaluated.{IsValue, IsCause}
use Rattle.boogie_run.proofs.Members.{not_all}

-- an expression, and those behind it
behind : (es : List TExpr) (i : ℕ) (e : TExpr) → i < length es → e ≡ get_or es i e → drop i es ≡ e ∷ drop (i + 1) es
behind es i e h g = drop_more es i e h ∙ ap (λ (x : TExpr). x ∷ drop (i + 1) es) (sym g)

-- one value more is read
pub read_more : (s : State) (es : List TExpr) (i : ℕ) (e : TExpr) (found new : List ℤ) (v : ℤ) → i < length es → e ≡ get_or es i e → new ≡ found ++ v ∷ [] →
    v ≡ value s (expression e) → found ++ values s (map expression (drop i es)) ≡ values s (map expression es) →
    new ++ values s (map expression (drop (i + 1) es)) ≡ values s (map expression es)
read_more s es i e found new v h g n w so_far =
    let rest : List ℤ = values s (map expression (drop (i + 1) es)) in
    ap (λ (zs : List ℤ). zs ++ rest) n ∙ append_assoc found (v ∷ []) rest ∙ ap (λ (z : ℤ). found ++ z ∷ rest) w
    ∙ ap (λ (xs : List TExpr). found ++ values s (map expression xs)) (sym (behind es i e h g)) ∙ so_far

pub fit_more : (s : State) (es : List TExpr) (i : ℕ) (e : TExpr) → i < length es → e ≡ get_or es i e → PartsFit s (expression e) →
    (AllFit s (map expression (drop i es)) → AllFit s (map expression es)) → AllFit s (map expression (drop (i + 1) es)) → AllFit s (map expression es)
fit_more s es i e h g fit so_far rest = so_far (subst (λ (xs : List TExpr). AllFit s (map expression xs)) (sym (behind es i e h g)) (fit, rest))

-- none is left
pub read_all : (s : State) (es : List TExpr) (i : ℕ) (found : List ℤ) → length es ≤ i → found ++ values s (map expression (drop i es)) ≡ values s (map expression es) →
    found ≡ values s (map expression es)
read_all s es i found h so_far = sym (append-nil found) ∙ ap (λ (xs : List TExpr). found ++ values s (map expression xs)) (sym (drop_all i es h)) ∙ so_far

pub fit_all : (s : State) (es : List TExpr) (i : ℕ) → length es ≤ i → (AllFit s (map expression (drop i es)) → AllFit s (map expression es)) → AllFit s (map expression es)
fit_all s es i h so_far = so_far (subst (λ (xs : List TExpr). AllFit s (map expression xs)) (sym (drop_all i es h)) tt)

-- the value of a part of one does not fit
pub unfit : (s : State) (es : List TExpr) (i : ℕ) (e : TExpr) (x : RunFault) → i < length es → e ≡ get_or es i e → (x ≡ Number) × (PartsFit s (expression e) → ⊥) →
    IsCause (AllFit s (map expression es)) x
unfit s es i e x h g f = subst (λ (y : RunFault). IsCause (AllFit s (map expression es)) y) (sym f.0) (λ all. not_all s es i e h g f.1 all)

-- a part that does not fit
pub neg_unfit : (s : State) (p : Span) (e : TypedExpression) (x : RunFault) → (x ≡ Number) × (PartsFit s e → ⊥) → (x ≡ Number) × (PartsFit s (Neg p e) → ⊥)
neg_unfit s p e x h = (h.0, λ f. h.1 f.0)

pub left_unfit : (s : State) (p : Span) (op : Op) (a b : TypedExpression) (x : RunFault) → (x ≡ Number) × (PartsFit s a → ⊥) → (x ≡ Number) × (PartsFit s (Bin p op a b) → ⊥)
left_unfit s p op a b x h = (h.0, λ f. h.1 f.0)

pub right_unfit : (s : State) (p : Span) (op : Op) (a b : TypedExpression) (x : RunFault) → (x ≡ Number) × (PartsFit s b → ⊥) → (x ≡ Number) × (PartsFit s (Bin p op a b) → ⊥)
right_unfit s p op a b x h = (h.0, λ f. h.1 f.1)

pub neg_unfit_passed : (s : State) (es : List TypedExpression) (q : State) (p : Span) (e : TypedExpression) (x : RunFault) →
    (x ≡ Number) × (PassedPartsFit s es q e → ⊥) → (x ≡ Number) × (PassedPartsFit s es q (Neg p e) → ⊥)
neg_unfit_passed s es q p e x h = (h.0, λ f. h.1 f.0)

pub left_unfit_passed : (s : State) (es : List TypedExpression) (q : State) (p : Span) (op : Op) (a b : TypedExpression) (x : RunFault) →
    (x ≡ Number) × (PassedPartsFit s es q a → ⊥) → (x ≡ Number) × (PassedPartsFit s es q (Bin p op a b) → ⊥)
left_unfit_passed s es q p op a b x h = (h.0, λ f. h.1 f.0)

pub right_unfit_passed : (s : State) (es : List TypedExpression) (q : State) (p : Span) (op : Op) (a b : TypedExpression) (x : RunFault) →
    (x ≡ Number) × (PassedPartsFit s es q b → ⊥) → (x ≡ Number) × (PassedPartsFit s es q (Bin p op a b) → ⊥)
right_unfit_passed s es q p op a b x h = (h.0, λ f. h.1 f.1)

-- the value of an operation on two values that fit
of_two : (z : ℤ) (A B : Type 0) (r : Result ℤ RunFault) → A → B → IsValue z (Fits z) r → IsValue z (A × B × Fits z) r
of_two z A B (Ok n) a b i = (i.0, i.1, (a, b, i.1))
of_two z A B (Err e) a b i = (i.0, λ f. i.1 f.2)

pub bin_value : (op : Op) (x y v w : ℤ) (A B : Type 0) (r : Result ℤ RunFault) → (v ≡ x) × Fits x × A → (w ≡ y) × Fits y × B →
    IsValue (operation_value op v w) (Fits (operation_value op v w)) r → IsValue (operation_value op x y) (A × B × Fits (operation_value op x y)) r
bin_value op x y v w A B r h k i = of_two (operation_value op x y) A B r h.2 k.2 (rw (h.0, k.0) at i)

-- a truth value
pub told_truth : (v : Bool) (r : ℤ) → r ≡ truth v → (to_z w128 (of_z w128 r) ≡ truth v) × Fits (truth v) × Fits (truth v)
told_truth true r e = rw e (refl, omega arith, omega arith)
told_truth false r e = rw e (refl, omega arith, omega arith)

-- a value that fits
pub told_fitting : (r z : ℤ) → FitsSigned w128 r → r ≡ z → Fits z → (to_z w128 (of_z w128 r) ≡ z) × Fits z × Fits z
told_fitting r z f e h = (to_z-of_z w128 r f ∙ e, h, h)

-- what fits the numbers of the code is the number, where it fits
in_range : (z : ℤ) → Fits z → FitsSigned w128 z
in_range (pos n) f = omega arith
in_range (negsuc n) f = omega arith

pub told_checked : (z : ℤ) (o : Option ℤ) (r : Result ℤ RunFault) → SomeIff o (FitsSigned w128 z) z → IfOk r (λ n. (o ≡ Some n) × Fits n) →
    IfErr r (λ e. (e ≡ Number) × ((n : ℤ) → o ≡ Some n → Fits n → ⊥)) → IsValue z (Fits z) r
told_checked z None (Ok n) s k e = let no : ⊥ = cc k.0 in absurd no
told_checked z (Some x) (Ok n) s k e =
    let same : n ≡ z = sym (same_Some x n k.0) ∙ s.1 in
    (same, subst Fits same k.1, subst Fits same k.1)
told_checked z None (Err x) s k e = (e.0, λ f. s (in_range z f))
told_checked z (Some x) (Err y) s k e = (e.0, λ f. e.1 z (ap (λ (n : ℤ). Some n) s.1) f)

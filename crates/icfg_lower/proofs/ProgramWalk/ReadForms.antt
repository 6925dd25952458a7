-- The forms of what a typed program reads fit.
use Rattle.std.proofs.Common.{◌≡◌, ℕ, zero, suc, ◌<◌, Bool, true, false, ◌&&◌, List, [], ◌∷◌, length, get_or, Option, None, Some, slice_get, refl, ap, subst, arith, IsTrue, Contains}
use Rattle.std.specs.List.{AllByRecursion, list_all}
use Rattle.boogie_tree.specs.declared.tree.Ty.{Ty}
use Rattle.boogie_tree.specs.declared.tree.Ty.TheVariants as types
use Rattle.boogie_tree.specs.declared.tree.Column.{Column}
use Rattle.boogie_tree.specs.declared.tree.VarInfo.{VarInfo}
use Rattle.typed_tree.specs.TypedTree.{TypedExpression, TypedGuard, Any, Cond, TypedInvariant, TypedStatement, Assert, Assume, Havoc, Assign, Call, If, While, Break, Goto, Return, Label, TypedBlock, Empty, Then, TypedSpecification, Requires, Ensures, TypedProcedure, TypedProgram}
use Rattle.typed_tree.specs.AffineForm.{forms_fit, is_empty}
use Rattle.typed_tree.specs.Divided.{is_divided}
use Rattle.typed_tree.specs.KeptRules.{is_arithmetic, is_right}
use Rattle.typed_tree.specs.Scope.{Scope, axiom_scope, body_scope, fixed, is_constant_column, requires_scope, variable_at}
use Rattle.typed_tree.specs.Typing.{has_type}
use Rattle.typed_tree.specs.TypingRules.Rules.{Context, are_targets, arguments_agree, context_of, is_block, is_guard, is_invariant, looped, meets, params_of, values_agree, within}
use Rattle.typed_tree.specs.TypingRules.Laws as law
use Rattle.typed_tree.specs.TypingRules.Laws.{IsStatementOf, after, here, in_body, in_else, in_loop, in_then}
use Rattle.typed_tree.specs.TypingRules.ValidProgram.{is_valid}
use Rattle.typed_tree.proofs.TypingRules.ValidLaws as valid
use Rattle.std.specs.Prelude.{not, take, ◌+◌, if◌then◌else◌}
use Rattle.boogie_run.specs.BoogiePoints.Actions.{ensured_conditions, free_conditions, plain_conditions}
use Rattle.icfg_lower.specs.PlaceEdges.Forms.{AllFormsFit, FormsFit, GuardFits, InvariantsFit, SpecificationFits, SpecificationsFit}
use Rattle.icfg_lower.specs.ProgramWalk.Ties.Bounds.{AllReadsFit, ReadsFit}
use Rattle.icfg_lower.proofs.ProgramWalk.Targets.{contained, left_true, right_true}

all_from : {X : Type 0} (P : X → Type 0) (xs : List X) → ((x : X) → Contains xs x → P x) → AllByRecursion P xs
all_from P [] h = tt
all_from P (x ∷ xs) h = (h x (0, omega arith, refl), all_from P xs (λ y c. h y (suc c.0, (let l : c.0 < length xs = c.1 in omega arith), c.2)))

-- ---- expressions that are right where the globals are those of the program

module _ (t : TypedProgram) (s : Scope) (same : s.globals ≡ t.globals) where
  right_fits : (ty : Ty) (e : TypedExpression) → is_right s ty e ≡ true → FormsFit t e
  right_fits ty e h =
      subst (λ (vs : List VarInfo). forms_fit (is_constant_column vs) false e ≡ true) same
      (right_true (is_divided e) (forms_fit (fixed s) false e) (right_true (has_type s ty e) (is_arithmetic (fixed s) false e) h))

  guard_fits : (g : TypedGuard) → is_guard s g ≡ true → GuardFits t g
  guard_fits Any h = tt
  guard_fits (Cond e) h = right_fits types.Bool e h

  invariants_fit : (is : List TypedInvariant) → list_all (is_invariant s) is ≡ true → InvariantsFit t is
  invariants_fit [] h = tt
  invariants_fit (i ∷ is) h = (
    right_fits types.Bool i.cond (left_true (is_invariant s i) (list_all (is_invariant s) is) h),
    invariants_fit is (right_true (is_invariant s i) (list_all (is_invariant s) is) h),
  )

  value_fits : (e : TypedExpression) (o : Option VarInfo) → meets (λ v. is_right s v.ty e) o ≡ true → FormsFit t e
  value_fits e None h = cc
  value_fits e (Some v) h = right_fits v.ty e h

  values_fit : (cs : List Column) (es : List TypedExpression) → values_agree s cs es ≡ true → AllFormsFit t es
  values_fit cs [] h = tt
  values_fit [] (e ∷ es) h = cc
  values_fit (c ∷ cs) (e ∷ es) h = (
    value_fits e (variable_at s c) (left_true (meets (λ v. is_right s v.ty e) (variable_at s c)) (values_agree s cs es) h),
    values_fit cs es (right_true (meets (λ v. is_right s v.ty e) (variable_at s c)) (values_agree s cs es) h),
  )

  arguments_fit : (vs : List VarInfo) (es : List TypedExpression) → arguments_agree s vs es ≡ true → AllFormsFit t es
  arguments_fit vs [] h = tt
  arguments_fit [] (e ∷ es) h = cc
  arguments_fit (v ∷ vs) (e ∷ es) h = (
    right_fits v.ty e (left_true (is_right s v.ty e) (arguments_agree s vs es) h),
    arguments_fit vs es (right_true (is_right s v.ty e) (arguments_agree s vs es) h),
  )

-- ---- axioms and specifications

pub axiom_fits : (t : TypedProgram) (i : ℕ) (e : TypedExpression) → IsTrue (is_valid t) → slice_get t.axioms i ≡ Some e → FormsFit t e
axiom_fits t i e v h = right_fits t (axiom_scope t.globals) refl types.Bool e (valid.axioms t e v (contained t.axioms i e h))

specification_fits : (t : TypedProgram) (q : TypedProcedure) (s : TypedSpecification) → IsTrue (is_valid t) → Contains t.procs q → Contains q.specs s → SpecificationFits t s
specification_fits t q (Requires i) v m n = right_fits t (requires_scope t.globals (params_of q)) refl types.Bool i.cond (valid.specifications t q (Requires i) v m n)
specification_fits t q (Ensures i) v m n = right_fits t (body_scope t.globals (take (q.params + q.results) q.locals)) refl types.Bool i.cond (valid.specifications t q (Ensures i) v m n)

pub specifications_fit : (t : TypedProgram) (n : ℕ) (q : TypedProcedure) → IsTrue (is_valid t) → slice_get t.procs n ≡ Some q → SpecificationsFit t q.specs
specifications_fit t n q v e = all_from (SpecificationFits t) q.specs (λ s m. specification_fits t q s v (contained t.procs n q e) m)

-- the condition of a specification

free_one : (b : Bool) (j i : TypedInvariant) → (if b then j ∷ [] else []) ≡ i ∷ [] → j ≡ i
free_one true j i e = cc
free_one false j i e = cc

plain_one : (b : Bool) (j i : TypedInvariant) → (if b then [] else j ∷ []) ≡ i ∷ [] → j ≡ i
plain_one true j i e = cc
plain_one false j i e = cc

pub free_fits : (t : TypedProgram) (s : TypedSpecification) (i : TypedInvariant) → SpecificationFits t s → free_conditions (s ∷ []) ≡ i ∷ [] → FormsFit t i.cond
free_fits t (Requires j) i h e = subst (λ (x : TypedInvariant). FormsFit t x.cond) (free_one j.free j i e) h
free_fits t (Ensures j) i h e = cc

pub plain_fits : (t : TypedProgram) (s : TypedSpecification) (i : TypedInvariant) → SpecificationFits t s → plain_conditions (s ∷ []) ≡ i ∷ [] → FormsFit t i.cond
plain_fits t (Requires j) i h e = subst (λ (x : TypedInvariant). FormsFit t x.cond) (plain_one j.free j i e) h
plain_fits t (Ensures j) i h e = cc

pub ensured_fits : (t : TypedProgram) (s : TypedSpecification) (i : TypedInvariant) → SpecificationFits t s → ensured_conditions (s ∷ []) ≡ i ∷ [] → FormsFit t i.cond
ensured_fits t (Requires j) i h e = cc
ensured_fits t (Ensures j) i h e = let k : j ≡ i = cc in subst (λ (x : TypedInvariant). FormsFit t x.cond) k h

-- ---- statements

module _ (t : TypedProgram) (n : ℕ) (q : TypedProcedure) (v : IsTrue (is_valid t)) (found : slice_get t.procs n ≡ Some q) where
  seen : (k : Context) (s : TypedStatement) → IsStatementOf t q k s → k.scope.globals ≡ t.globals
  seen k s i = ap (λ (x : Scope). x.globals) (valid.scopes t q k s i).0

  -- what a statement reads, what the statements inside it read left out
  abbrev OwnFit : TypedStatement → Type 0
  OwnFit (Assert at e) = FormsFit t e
  OwnFit (Assume at e) = FormsFit t e
  OwnFit (Assign at cs es) = AllFormsFit t es
  OwnFit (Call at cs f es) = AllFormsFit t es
  OwnFit (If at g x y) = GuardFits t g
  OwnFit (While at g is x) = GuardFits t g × InvariantsFit t is
  OwnFit s = Unit {0}

  own_fit : (k : Context) (s : TypedStatement) → IsStatementOf t q k s → OwnFit s
  own_fit k (Assert at e) i = right_fits t k.scope (seen k (Assert at e) i) types.Bool e (valid.statements t q k (Assert at e) v i).0
  own_fit k (Assume at e) i = right_fits t k.scope (seen k (Assume at e) i) types.Bool e (valid.statements t q k (Assume at e) v i).0
  own_fit k (Havoc at cs) i = tt
  own_fit k (Assign at cs es) i =
      values_fit t k.scope (seen k (Assign at cs es) i) cs es
      (right_true (are_targets k cs) (values_agree k.scope cs es) (right_true (not (is_empty cs)) (are_targets k cs && values_agree k.scope cs es) (valid.statements t q k (Assign at cs es) v i).0))
  own_fit k (Call at cs f es) i =
      let call = valid.calls t q k at cs f es v i in
      arguments_fit t k.scope (seen k (Call at cs f es) i) (params_of call.0) es call.4
  own_fit k (If at g x y) i =
      guard_fits t k.scope (seen k (If at g x y) i) g (left_true (is_guard k.scope g) (is_block (within k x) x && is_block (within k y) y) (valid.statements t q k (If at g x y) v i).0)
  own_fit k (While at g is x) i =
      let typed : (is_guard k.scope g && (list_all (is_invariant k.scope) is && is_block (within (looped k) x) x)) ≡ true = (valid.statements t q k (While at g is x) v i).0 in (
        guard_fits t k.scope (seen k (While at g is x) i) g (left_true (is_guard k.scope g) (list_all (is_invariant k.scope) is && is_block (within (looped k) x) x) typed),
        invariants_fit t k.scope (seen k (While at g is x) i) is
            (left_true (list_all (is_invariant k.scope) is) (is_block (within (looped k) x) x)
            (right_true (is_guard k.scope g) (list_all (is_invariant k.scope) is && is_block (within (looped k) x) x) typed)),
      )
  own_fit k (Break at m) i = tt
  own_fit k (Goto at ks) i = tt
  own_fit k (Return at) i = tt
  own_fit k (Label m) i = tt

  abbrev AllOwnFit : Context → TypedBlock → Type 0
  AllOwnFit c b = (k : Context) (s : TypedStatement) → law.StandsIn c b k s → OwnFit s

  mutual
    statement_reads : (c : Context) (s : TypedStatement) (b : TypedBlock) → AllOwnFit c (Then s b) → ReadsFit t s
    statement_reads c (Assert at e) b h = h c (Assert at e) (here c (Assert at e) b)
    statement_reads c (Assume at e) b h = h c (Assume at e) (here c (Assume at e) b)
    statement_reads c (Havoc at cs) b h = tt
    statement_reads c (Assign at cs es) b h = h c (Assign at cs es) (here c (Assign at cs es) b)
    statement_reads c (Call at cs f es) b h = h c (Call at cs f es) (here c (Call at cs f es) b)
    statement_reads c (If at g x y) b h = (
      h c (If at g x y) (here c (If at g x y) b),
      block_reads (within c x) x (λ k s d. h k s (in_then c k at g x y b s d)),
      block_reads (within c y) y (λ k s d. h k s (in_else c k at g x y b s d)),
    )
    statement_reads c (While at g is x) b h =
        let own = h c (While at g is x) (here c (While at g is x) b) in
        (own.0, own.1, block_reads (within (looped c) x) x (λ k s d. h k s (in_loop c k at g is x b s d)))
    statement_reads c (Break at m) b h = tt
    statement_reads c (Goto at ks) b h = tt
    statement_reads c (Return at) b h = tt
    statement_reads c (Label m) b h = tt

    block_reads : (c : Context) (b : TypedBlock) → AllOwnFit c b → AllReadsFit t b
    block_reads c Empty h = tt
    block_reads c (Then s b) h = (statement_reads c s b h, block_reads c b (λ k x d. h k x (after c k s x b d)))

  -- the forms of all that the body reads fit
  pub body_reads : (b : TypedBlock) → q.body ≡ Some b → AllReadsFit t b
  body_reads b k = block_reads (within (context_of t.globals t.procs q) b) b (λ j s d. own_fit j s (in_body b (contained t.procs n q found) k d))

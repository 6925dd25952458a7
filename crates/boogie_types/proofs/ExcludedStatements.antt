-- A statement with a name that means nothing is not named.
use Rattle.std.proofs.Common.{◌≡◌, ℕ, ◌+◌, Bool, true, false, List, [], ◌∷◌, ◌++◌, Option, None, Some, if◌then◌else◌, ◌⊎◌, inl, inr, ⊎_elim, Contains, ap, ◌∙◌}
use Rattle.std.specs.Option.{option_map, option_and_then}
use Rattle.boogie_tree.specs.declared.span.Span.{Span}
use Rattle.boogie_tree.specs.declared.tree.Name.{Name}
use Rattle.boogie_tree.specs.declared.tree.Vary.{Vary}
use Rattle.boogie_tree.specs.declared.tree.Column.{Column}
use Rattle.boogie_tree.specs.Tree.{Expression, Statement, Block}
use Rattle.typed_tree.specs.declared.fault.TypeFault.{TypeFault}
use Rattle.typed_tree.specs.TypedTree as typed
use Rattle.typed_tree.specs.TypedTree.{TypedExpression, TypedGuard, TypedStatement, TypedInvariant, TypedBlock}
use Rattle.boogie_types.specs.Naming.{NamingPlace, each, from_both, named, named_guard, named_invariant, targets_of, label_number, levels, procedure_number, params_named, is_hidden, hidden_arguments, hidden_in, hidden_in_block, hidden_column, put_aside, expression_span, named_arguments, named_call, label_of, in_loop, alone, in_front, named_statement, named_block}
use Rattle.boogie_types.specs.BrokenNames.{AreUnknownIn, one_of, IsMisnamed, asserted, assumed, chosen, assigned, valued, unknown_callee, returned, passed, branched, in_then, in_else, looping, in_invariant, in_loop_body, no_such_loop, no_such_label, unlisted_label, IsMisnamedIn, first, later}
use Rattle.boogie_types.proofs.ExcludedLists.{option_map_none, and_then_none, and_then_nothing, both_left_none, both_right_none, no_member, member_cases, each_none}
use Rattle.boogie_types.proofs.ExcludedNames.{unknown_is_unnamed, unknown_are_unnamed, wrong_have_no_targets, guard_is_unnamed, invariant_is_unnamed}

-- ---- calls

-- the arguments that are put aside are not named, or else those that are not
abbrev IsArgumentLost : NamingPlace → List Vary → List Expression → Type 0
IsArgumentLost p vs es =
    ((n : ℕ) (at : Span) → put_aside p n at (hidden_arguments vs es) ≡ None) ⊎ ((n : ℕ) → named_arguments p n vs es ≡ None)

module _ (p : NamingPlace) where
  -- the first argument is lost
  first_lost : (b : Bool) (vs : List Vary) (e : Expression) (es : List Expression) → named p.scope e ≡ None →
      ((n : ℕ) (at : Span) → put_aside p n at (if b then e ∷ hidden_arguments vs es else hidden_arguments vs es) ≡ None)
      ⊎ ((n : ℕ) →
      (if b
      then option_map (λ ts. typed.Var (expression_span e) (hidden_column p n) ∷ ts) (named_arguments p (n + 1) vs es)
      else from_both (λ t ts. t ∷ ts) (named p.scope e) (named_arguments p n vs es)) ≡ None)
  first_lost true vs e es h =
      inl (λ n at.
      both_left_none (λ (t : TypedExpression) (ts : List TypedStatement). typed.Assign at (hidden_column p n ∷ []) (t ∷ []) ∷ ts) (named p.scope e)
      (put_aside p (n + 1) at (hidden_arguments vs es)) h)
  first_lost false vs e es h =
      inr (λ n. both_left_none (λ (t : TypedExpression) (ts : List TypedExpression). t ∷ ts) (named p.scope e) (named_arguments p n vs es) h)

  -- a later one is
  later_lost : (b : Bool) (vs : List Vary) (e : Expression) (es : List Expression) → IsArgumentLost p vs es →
      ((n : ℕ) (at : Span) → put_aside p n at (if b then e ∷ hidden_arguments vs es else hidden_arguments vs es) ≡ None)
      ⊎ ((n : ℕ) →
      (if b
      then option_map (λ ts. typed.Var (expression_span e) (hidden_column p n) ∷ ts) (named_arguments p (n + 1) vs es)
      else from_both (λ t ts. t ∷ ts) (named p.scope e) (named_arguments p n vs es)) ≡ None)
  later_lost true vs e es (inl h) =
      inl (λ n at.
      both_right_none (λ (t : TypedExpression) (ts : List TypedStatement). typed.Assign at (hidden_column p n ∷ []) (t ∷ []) ∷ ts) (named p.scope e)
      (put_aside p (n + 1) at (hidden_arguments vs es)) (h (n + 1) at))
  later_lost true vs e es (inr h) =
      inr (λ n. option_map_none (λ (ts : List TypedExpression). typed.Var (expression_span e) (hidden_column p n) ∷ ts) (named_arguments p (n + 1) vs es) (h (n + 1)))
  later_lost false vs e es (inl h) = inl h
  later_lost false vs e es (inr h) =
      inr (λ n. both_right_none (λ (t : TypedExpression) (ts : List TypedExpression). t ∷ ts) (named p.scope e) (named_arguments p n vs es) (h n))

  argument_lost : (vs : List Vary) (es : List Expression) (e : Expression) → Contains es e → named p.scope e ≡ None → IsArgumentLost p vs es
  argument_lost vs [] e c h = no_member e c
  argument_lost [] (d ∷ es) e c h = inr (λ n. each_none (named p.scope) (d ∷ es) e c h)
  argument_lost (v ∷ vs) (d ∷ es) e c h =
      ⊎_elim
      (λ (same : d ≡ e). first_lost (is_hidden v.ty d) vs d es (ap (named p.scope) same ∙ h))
      (λ (k : Contains es e). later_lost (is_hidden v.ty d) vs d es (argument_lost vs es e k h))
      (member_cases d es e c)

  arguments_lost : (vs : List Vary) (es : List Expression) (f : TypeFault) → AreUnknownIn p.scope es f → IsArgumentLost p vs es
  arguments_lost vs es f (one_of ds e g c h) = argument_lost vs ds e c (unknown_is_unnamed p.scope e g h)

-- the statements put aside for a call, and the call
abbrev ahead : List TypedStatement → TypedStatement → List TypedStatement
ahead before call = before ++ (call ∷ [])

-- a call of these targets
abbrev call_to : Span → Option ℕ → Option (List TypedExpression) → List Column → Option TypedStatement
call_to at k args cs = from_both (typed.Call at cs) k args

-- no call of any targets
call_nothing : (at : Span) (before : Option (List TypedStatement)) (k : Option ℕ) (args : Option (List TypedExpression)) (cs : Option (List Column)) →
    ((ds : List Column) → call_to at k args ds ≡ None) → from_both ahead before (option_and_then (call_to at k args) cs) ≡ None
call_nothing at before k args cs h =
    both_right_none ahead before (option_and_then (call_to at k args) cs) (and_then_nothing (call_to at k args) cs h)

callee_unnamed : (p : NamingPlace) (n : ℕ) (at : Span) (xs : List Name) (g : Name) (es : List Expression) → procedure_number p g ≡ None → named_call p n at xs g es ≡ None
callee_unnamed p n at xs g es h =
    let args = named_arguments p n (params_named p g) es in
    call_nothing at (put_aside p n at (hidden_arguments (params_named p g) es)) (procedure_number p g) args (targets_of p.scope xs)
    (λ cs. both_left_none (typed.Call at cs) (procedure_number p g) args h)

returned_unnamed : (p : NamingPlace) (n : ℕ) (at : Span) (xs : List Name) (g : Name) (es : List Expression) → targets_of p.scope xs ≡ None → named_call p n at xs g es ≡ None
returned_unnamed p n at xs g es h =
    let call = call_to at (procedure_number p g) (named_arguments p n (params_named p g) es) in
    both_right_none ahead (put_aside p n at (hidden_arguments (params_named p g) es)) (option_and_then call (targets_of p.scope xs)) (and_then_none call (targets_of p.scope xs) h)

passed_unnamed : (p : NamingPlace) (n : ℕ) (at : Span) (xs : List Name) (g : Name) (es : List Expression) → IsArgumentLost p (params_named p g) es → named_call p n at xs g es ≡ None
passed_unnamed p n at xs g es (inl h) =
    both_left_none ahead (put_aside p n at (hidden_arguments (params_named p g) es))
    (option_and_then (call_to at (procedure_number p g) (named_arguments p n (params_named p g) es)) (targets_of p.scope xs)) (h n at)
passed_unnamed p n at xs g es (inr h) =
    let args = named_arguments p n (params_named p g) es in
    call_nothing at (put_aside p n at (hidden_arguments (params_named p g) es)) (procedure_number p g) args (targets_of p.scope xs)
    (λ cs. both_right_none (typed.Call at cs) (procedure_number p g) args (h n))

-- ---- statements of parts

alone_none : (o : Option TypedStatement) → o ≡ None → alone o ≡ None
alone_none o e = option_map_none (λ (t : TypedStatement). t ∷ []) o e

made_of_none : {X : Type 0} (make : X → TypedStatement) (o : Option X) → o ≡ None → alone (option_map make o) ≡ None
made_of_none make o e = alone_none (option_map make o) (option_map_none make o e)

left_missing : {X Y : Type 0} (make : X → Y → TypedStatement) (x : Option X) (y : Option Y) → x ≡ None → alone (from_both make x y) ≡ None
left_missing make x y e = alone_none (from_both make x y) (both_left_none make x y e)

right_missing : {X Y : Type 0} (make : X → Y → TypedStatement) (x : Option X) (y : Option Y) → y ≡ None → alone (from_both make x y) ≡ None
right_missing make x y e = alone_none (from_both make x y) (both_right_none make x y e)

-- a guard and two more parts
guard_missing : {X Y : Type 0} (make : TypedGuard → X → Y → TypedStatement) (g : Option TypedGuard) (x : Option X) (y : Option Y) → g ≡ None →
    alone (option_and_then (λ guard. from_both (make guard) x y) g) ≡ None
guard_missing make g x y e =
    alone_none (option_and_then (λ guard. from_both (make guard) x y) g) (and_then_none (λ guard. from_both (make guard) x y) g e)

second_missing : {X Y : Type 0} (make : TypedGuard → X → Y → TypedStatement) (g : Option TypedGuard) (x : Option X) (y : Option Y) → x ≡ None →
    alone (option_and_then (λ guard. from_both (make guard) x y) g) ≡ None
second_missing make g x y e =
    alone_none (option_and_then (λ guard. from_both (make guard) x y) g)
    (and_then_nothing (λ guard. from_both (make guard) x y) g (λ guard. both_left_none (make guard) x y e))

third_missing : {X Y : Type 0} (make : TypedGuard → X → Y → TypedStatement) (g : Option TypedGuard) (x : Option X) (y : Option Y) → y ≡ None →
    alone (option_and_then (λ guard. from_both (make guard) x y) g) ≡ None
third_missing make g x y e =
    alone_none (option_and_then (λ guard. from_both (make guard) x y) g)
    (and_then_nothing (λ guard. from_both (make guard) x y) g (λ guard. both_right_none (make guard) x y e))

mutual
  pub misnamed_is_unnamed : (p : NamingPlace) (before : Option (List ℕ)) (s : Statement) (f : TypeFault) (n : ℕ) → IsMisnamed p before s f → named_statement p before n s ≡ None
  misnamed_is_unnamed p before s f n (asserted q l at e g h) = made_of_none (typed.Assert at) (named q.scope e) (unknown_is_unnamed q.scope e g h)
  misnamed_is_unnamed p before s f n (assumed q l at e g h) = made_of_none (typed.Assume at) (named q.scope e) (unknown_is_unnamed q.scope e g h)
  misnamed_is_unnamed p before s f n (chosen q l at xs g h) = made_of_none (typed.Havoc at) (targets_of q.scope xs) (wrong_have_no_targets q.scope xs g h)
  misnamed_is_unnamed p before s f n (assigned q l at xs es g h) =
      left_missing (typed.Assign at) (targets_of q.scope xs) (each (named q.scope) es) (wrong_have_no_targets q.scope xs g h)
  misnamed_is_unnamed p before s f n (valued q l at xs es g h) =
      right_missing (typed.Assign at) (targets_of q.scope xs) (each (named q.scope) es) (unknown_are_unnamed q.scope es g h)
  misnamed_is_unnamed p before s f n (unknown_callee q l at xs x es h) = callee_unnamed q n at xs x es h
  misnamed_is_unnamed p before s f n (returned q l at xs x es g h) = returned_unnamed q n at xs x es (wrong_have_no_targets q.scope xs g h)
  misnamed_is_unnamed p before s f n (passed q l at xs x es g h) = passed_unnamed q n at xs x es (arguments_lost q (params_named q x) es g h)
  misnamed_is_unnamed p before s f n (branched q l at k a b g h) =
      guard_missing (typed.If at) (named_guard q.scope k) (named_block q None n a) (named_block q None (n + hidden_in_block q a) b) (guard_is_unnamed q.scope k g h)
  misnamed_is_unnamed p before s f n (in_then q l at k a b g h) =
      second_missing (typed.If at) (named_guard q.scope k) (named_block q None n a) (named_block q None (n + hidden_in_block q a) b) (misnamed_block_is_unnamed q None a g n h)
  misnamed_is_unnamed p before s f n (in_else q l at k a b g h) =
      third_missing (typed.If at) (named_guard q.scope k) (named_block q None n a) (named_block q None (n + hidden_in_block q a) b)
      (misnamed_block_is_unnamed q None b g (n + hidden_in_block q a) h)
  misnamed_is_unnamed p before s f n (looping q l at k is b g h) =
      guard_missing (typed.While at) (named_guard q.scope k) (each (named_invariant q.scope) is) (named_block (in_loop q l) None n b) (guard_is_unnamed q.scope k g h)
  misnamed_is_unnamed p before s f n (in_invariant q l at k is b i g c h) =
      second_missing (typed.While at) (named_guard q.scope k) (each (named_invariant q.scope) is) (named_block (in_loop q l) None n b)
      (each_none (named_invariant q.scope) is i c (invariant_is_unnamed q.scope i g h))
  misnamed_is_unnamed p before s f n (in_loop_body q l at k is b g h) =
      third_missing (typed.While at) (named_guard q.scope k) (each (named_invariant q.scope) is) (named_block (in_loop q l) None n b)
      (misnamed_block_is_unnamed (in_loop q l) None b g n h)
  misnamed_is_unnamed p before s f n (no_such_loop q l at x h) = made_of_none (typed.Break at) (levels q (Some x)) h
  misnamed_is_unnamed p before s f n (no_such_label q l at xs x c h) = made_of_none (typed.Goto at) (each (label_number q) xs) (each_none (label_number q) xs x c h)
  misnamed_is_unnamed p before s f n (unlisted_label q l x h) = made_of_none typed.Label (label_number q x) h

  pub misnamed_block_is_unnamed : (p : NamingPlace) (before : Option (List ℕ)) (b : Block) (f : TypeFault) (n : ℕ) → IsMisnamedIn p before b f → named_block p before n b ≡ None
  misnamed_block_is_unnamed p before b f n (first q l s c g h) =
      both_left_none in_front (named_statement q l n s) (named_block q (label_of s) (n + hidden_in q s) c) (misnamed_is_unnamed q l s g n h)
  misnamed_block_is_unnamed p before b f n (later q l s c g h) =
      both_right_none in_front (named_statement q l n s) (named_block q (label_of s) (n + hidden_in q s) c) (misnamed_block_is_unnamed q (label_of s) c g (n + hidden_in q s) h)

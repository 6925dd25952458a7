-- What is read or refused is so with more room: more parentheses and blocks, more variables and procedures. What is past a limit is so where the room
-- of that kind is the same.
use Rattle.std.proofs.Common.{◌≡◌, ℕ, zero, suc, ◌-◌, ◌≤◌, Bool, true, false, List, [], ◌∷◌, length, Option, None, Some, Result, Ok, Err, IfErr, refl, ap, sym, ◌∙◌, subst, arith}
use Rattle.boogie_tree.specs.declared.span.Span.{Span}
use Rattle.boogie_tree.specs.declared.tree.Name.{Name}
use Rattle.boogie_tree.specs.Tree.{Expression, Guard, Statement, Block, Specification}
use Rattle.boogie_parse.specs.declared.fault.Fault.{Fault}
use Rattle.boogie_parse.specs.declared.fault.Fault.TheVariants as faults
use Rattle.boogie_parse.specs.declared.fault.Which.{Which}
use Rattle.boogie_parse.specs.declared.fault.Which.TheVariants as which
use Rattle.boogie_parse.specs.declared.symbols.Fixed.{Fixed}
use Rattle.boogie_parse.specs.declared.symbols.Fixed.TheVariants as fixed
use Rattle.boogie_parse.specs.declared.symbols.Sign.{Sign}
use Rattle.boogie_parse.specs.declared.symbols.Sign.TheVariants as signs
use Rattle.boogie_parse.specs.declared.symbols.Symbol.{Symbol}
use Rattle.boogie_parse.specs.Reading.Outcomes.{Read, ReadResult, limit_fault}
use Rattle.boogie_parse.specs.Rules.GrammarProgram.{Head}
use Rattle.boogie_parse.specs.Reading.ListReading.{◌>>=◌, Possible, there, one, one_there, seen, behind, name_at, new_name, with_front, more_by, separated, name_item, names_at, repeated_by, repeated, group_at, variables_at, declared_behind, opened_by, opened, listed_by, formals_at, results_by, results_at, expression_at, expression_item, expressions_at, arguments_at, guard_by, guard_at, claim_at, condition_behind, invariant_by, invariant_at, invariant_item, invariants_at}
use Rattle.boogie_parse.specs.Reading.StatementReading.{Inside, other_by, else_by, assert_at, assume_at, assign_at, called_at, call_into, call_by, call_at, named_by, named_at, loop_at, branch_by, statement_by, statement_at, statement_item, list_at, no_block, block_by, no_branch, inside_at}
use Rattle.boogie_parse.specs.Reading.ProgramReading.{local_by, local_at, locals_at, head_at, room_behind, requires_at, ensures_at, claimed_by, claimed_at, must_stand, free_at, specification_by, specification_at, specification_item, specifications_at, axiom_at, body_at, procedure_by, procedure_at, implementation_at, new_procedure, constants_at, globals_at, declaration_by, declaration_at, declarations_at, program_at}
use Rattle.boogie_parse.specs.Rules.GrammarLimits.{procedures_counted}
use Rattle.boogie_parse.specs.Ties.ProgramGrowth.{Keeps}
use Rattle.boogie_parse.specs.Reading.ExpressionReading.{expression}
use Rattle.boogie_parse.specs.Ties.ExpressionLaws.{Grows}
use Rattle.boogie_parse.proofs.Rules.ExpressionRoom.{more_room}
use Rattle.boogie_parse.proofs.Faults.ExpressionRefusals.{IsRefusal, IsOfExpressions, expression_refusals}

-- the second room is as much as the first or more, and as much where S holds
pub record Roomier (S : Type 0) (n m : ℕ) : Type 0 where
  pub le : n ≤ m
  pub equal : S → n ≡ m

less : {S : Type 0} {n m : ℕ} (k : ℕ) → Roomier S n m → Roomier S (n - k) (m - k)
less k r = record { le = omega (arith, r.le); equal = λ s. ap (λ i. i - k) (r.equal s) }

under : {S : Type 0} {n m : ℕ} → Roomier S (suc n) (suc m) → Roomier S n m
under r = record { le = omega (arith, r.le); equal = λ s. omega (arith, r.equal s) }

differ : {S : Type 0} {m : ℕ} → Roomier S zero (suc m) → S → ⊥
differ r s = omega (arith, r.equal s)

no_room : {S : Type 0} {n : ℕ} → Roomier S (suc n) zero → ⊥
no_room r = omega (arith, r.le)

no_more : Roomier ⊥ 0 0
no_more = record { le = omega arith; equal = λ s. refl }

-- what opens a block is read with more room
record KeepsInside (IsSame : Which → Type 0) (i j : Inside) : Type 0 where
  block : (ts : List Symbol) → Keeps IsSame (i.block ts) (j.block ts)
  branch : (here : Span) (ts : List Symbol) → Keeps IsSame (i.branch here ts) (j.branch here ts)

-- `IsSame` says of which kinds of limits the room is the same.
module _ (IsSame : Which → Type 0) where
  abbrev MoreNesting : ℕ → ℕ → Type 0
  MoreNesting p q = Roomier (IsSame which.Nesting) p q

  abbrev MoreVariables : ℕ → ℕ → Type 0
  MoreVariables n m = Roomier (IsSame which.Variables) n m

  abbrev MoreProcedures : ℕ → ℕ → Type 0
  MoreProcedures n m = Roomier (IsSame which.Procedures) n m

  same_fault : (X : Type 0) (f : Fault) → Keeps IsSame {X = X} (Err f) (Err f)
  same_fault X (faults.Limit kind line col) = λ s. refl
  same_fault X f = refl

  pub same : {X : Type 0} (o : Result X Fault) → Keeps IsSame o o
  same (Ok x) = refl
  same {X} (Err f) = same_fault X f

  -- a fault that is passed on
  fault_on : {A B : Type 0} (f : Fault) (y : Result A Fault) (F : Result A Fault → Result B Fault) → ((e : Fault) → F (Err e) ≡ Err e) → Keeps IsSame {X = A} (Err f) y → Keeps IsSame {X = B} (Err f) (F y)
  fault_on (faults.Limit kind line col) y F strict k = λ s. ap F (k s) ∙ strict (faults.Limit kind line col)
  fault_on f y F strict k = ap F k ∙ strict f

  -- a step, and what follows it
  pub then : {A B : Type 0} (x y : Result A Fault) (f g : A → Result B Fault) → Keeps IsSame x y → ((a : A) → Keeps IsSame (f a) (g a)) → Keeps IsSame (x >>= f) (y >>= g)
  then (Ok a) y f g k h = subst (λ z. Keeps IsSame (f a) (z >>= g)) (sym k) (h a)
  then (Err e) y f g k h = fault_on e y (λ z. z >>= g) (λ e. refl) k

  -- the same step, and what follows it
  onward : {A B : Type 0} (x : Result A Fault) (f g : A → Result B Fault) → ((a : A) → Keeps IsSame (f a) (g a)) → Keeps IsSame (x >>= f) (x >>= g)
  onward x f g h = then x x f g (same x) h

  there_keeps : {X : Type 0} (x y : ReadResult X) → Keeps IsSame x y → Keeps IsSame (there x) (there y)
  there_keeps (Ok a) y k = ap there k
  there_keeps (Err e) y k = fault_on e y there (λ e. refl) k

  one_keeps : {X : Type 0} (x y : ReadResult X) → Keeps IsSame x y → Keeps IsSame (one x) (one y)
  one_keeps (Ok a) y k = ap one k
  one_keeps (Err e) y k = fault_on e y one (λ e. refl) k

  one_there_keeps : {X : Type 0} (x y : Possible X) → Keeps IsSame x y → Keeps IsSame (one_there x) (one_there y)
  one_there_keeps (Ok None) y k = ap one_there k
  one_there_keeps (Ok (Some a)) y k = ap one_there k
  one_there_keeps (Err e) y k = fault_on e y one_there (λ e. refl) k

  front_keeps : {X : Type 0} (xs : List X) (x y : ReadResult (List X)) → Keeps IsSame x y → Keeps IsSame (with_front xs x) (with_front xs y)
  front_keeps xs (Ok a) y k = ap (with_front xs) k
  front_keeps xs (Err e) y k = fault_on e y (with_front xs) (λ e. refl) k

  more_keeps : {X : Type 0} (f g : List Symbol → ReadResult (List X)) (xs : List X) (ts : List Symbol) (o : Option (Read Span)) → ((us : List Symbol) → Keeps IsSame (f us) (g us)) → Keeps IsSame (more_by f xs ts o) (more_by g xs ts o)
  more_keeps f g xs ts None h = refl
  more_keeps f g xs ts (Some comma) h = front_keeps xs (f comma.rest) (g comma.rest) (h comma.rest)

  separated_keeps : {X : Type 0} (S : Type 0) (f g : ℕ → List Symbol → ReadResult (List X)) → ((n m : ℕ) (ts : List Symbol) → Roomier S n m → Keeps IsSame (f n ts) (g m ts)) → (end : Span) (turns n m : ℕ) (ts : List Symbol) → Roomier S n m
      → Keeps IsSame (separated f end n turns ts) (separated g end m turns ts)
  unfolding separated
  separated_keeps S f g h end zero n m ts le = refl
  separated_keeps S f g h end (suc turns) n m ts le =
      then (f n ts) (g m ts) _ _ (h n m ts le) (λ xs. more_keeps (separated f end (n - length xs.value) turns) (separated g end (m - length xs.value) turns) xs.value xs.rest (seen fixed.Comma xs.rest) (λ us.
      separated_keeps S f g h end turns (n - length xs.value) (m - length xs.value) us (less (length xs.value) le)))

  repeated_by_keeps : {X : Type 0} (f g : List X → List Symbol → ReadResult (List X)) (ts : List Symbol) (x y : Possible (List X)) → Keeps IsSame x y → ((xs : List X) (us : List Symbol) → Keeps IsSame (f xs us) (g xs us)) → Keeps IsSame (repeated_by f ts x) (repeated_by g ts y)
  repeated_by_keeps f g ts (Ok None) y k h = ap (repeated_by g ts) k
  repeated_by_keeps f g ts (Ok (Some a)) y k h = subst (λ z. Keeps IsSame (with_front a.value (f a.value a.rest)) (repeated_by g ts z)) (sym k) (front_keeps a.value (f a.value a.rest) (g a.value a.rest) (h a.value a.rest))
  repeated_by_keeps f g ts (Err e) y k h = fault_on e y (repeated_by g ts) (λ e. refl) k

  repeated_keeps : {X : Type 0} (S : Type 0) (f g : ℕ → List Symbol → Possible (List X)) (used : List X → ℕ) → ((n m : ℕ) (ts : List Symbol) → Roomier S n m → Keeps IsSame (f n ts) (g m ts)) → (turns n m : ℕ) (ts : List Symbol) → Roomier S n m
      → Keeps IsSame (repeated f used n turns ts) (repeated g used m turns ts)
  unfolding repeated
  repeated_keeps S f g used h zero n m ts le = refl
  repeated_keeps S f g used h (suc turns) n m ts le =
      repeated_by_keeps (λ xs us. repeated f used (n - used xs) turns us) (λ xs us. repeated g used (m - used xs) turns us) ts (f n ts) (g m ts) (h n m ts le) (λ xs us.
      repeated_keeps S f g used h turns (n - used xs) (m - used xs) us (less (used xs) le))

  -- a limit at a name
  limited : (f : Fault) → Keeps IsSame {X = Read Name} (Err f) (Err f)
  limited f = same_fault (Read Name) f

  stop : (o : ReadResult Name) → (IsSame which.Variables → ⊥) → Keeps IsSame (o >>= (λ (x : Read Name). let r : ReadResult Name = Err (limit_fault which.Variables x.value.span) in r)) o
  stop (Ok x) differ = λ s. absurd (differ s)
  stop (Err f) differ = limited f

  new_name_keeps : (end : Span) (n m : ℕ) (ts : List Symbol) → MoreVariables n m → Keeps IsSame (new_name end n ts) (new_name end m ts)
  unfolding new_name
  new_name_keeps end zero zero ts le = same (new_name end zero ts)
  new_name_keeps end zero (suc m) ts le = stop (name_at end ts) (differ le)
  new_name_keeps end (suc n) zero ts le = absurd (no_room le)
  new_name_keeps end (suc n) (suc m) ts le = same (name_at end ts)

  names_keep : (end : Span) (n m : ℕ) (ts : List Symbol) → MoreVariables n m → Keeps IsSame (names_at end n ts) (names_at end m ts)
  unfolding names_at
  names_keep end n m ts le = separated_keeps (IsSame which.Variables) (name_item end) (name_item end) (λ n m us le. one_keeps (new_name end n us) (new_name end m us) (new_name_keeps end n m us le)) end (length ts) n m ts le

  group_keeps : (end : Span) (n m : ℕ) (ts : List Symbol) → MoreVariables n m → Keeps IsSame (group_at end n ts) (group_at end m ts)
  unfolding group_at
  group_keeps end n m ts le = then (names_at end n ts) (names_at end m ts) _ _ (names_keep end n m ts le) (λ xs. same _)

  variables_keep : (end : Span) (n m : ℕ) (ts : List Symbol) → MoreVariables n m → Keeps IsSame (variables_at end n ts) (variables_at end m ts)
  unfolding variables_at
  variables_keep end n m ts le = separated_keeps (IsSame which.Variables) (group_at end) (group_at end) (group_keeps end) end (length ts) n m ts le

  declared_keeps : (end : Span) (n m : ℕ) (ts : List Symbol) → MoreVariables n m → Keeps IsSame (declared_behind end n ts) (declared_behind end m ts)
  unfolding declared_behind
  declared_keeps end n m ts le = then (variables_at end n ts) (variables_at end m ts) _ _ (variables_keep end n m ts le) (λ vs. same _)

  -- more may be opened
  opened_by_keeps : {B : Type 0} (p q : ℕ) (o : ReadResult Span) (f g : Read ℕ → Result B Fault) → MoreNesting p q
      → ((a b : ℕ) (r : List Symbol) → MoreNesting a b → Keeps IsSame (f (record { value = a; rest = r })) (g (record { value = b; rest = r }))) → Keeps IsSame (opened_by p o >>= f) (opened_by q o >>= g)
  opened_by_keeps {B} zero zero (Err e) f g le h = same_fault B e
  opened_by_keeps {B} zero (suc q) (Err e) f g le h = same_fault B e
  opened_by_keeps {B} (suc p) zero (Err e) f g le h = same_fault B e
  opened_by_keeps {B} (suc p) (suc q) (Err e) f g le h = same_fault B e
  opened_by_keeps zero zero (Ok r) f g le h = λ s. refl
  opened_by_keeps zero (suc q) (Ok r) f g le h = λ s. absurd (differ le s)
  opened_by_keeps (suc p) zero (Ok r) f g le h = absurd (no_room le)
  opened_by_keeps (suc p) (suc q) (Ok r) f g le h = h p q r.rest (under le)

  opened_keeps : {B : Type 0} (end : Span) (w : Fixed) (p q : ℕ) (ts : List Symbol) (f g : Read ℕ → Result B Fault) → MoreNesting p q
      → ((a b : ℕ) (r : List Symbol) → MoreNesting a b → Keeps IsSame (f (record { value = a; rest = r })) (g (record { value = b; rest = r }))) → Keeps IsSame (opened end w p ts >>= f) (opened end w q ts >>= g)
  unfolding opened
  opened_keeps end w p q ts f g le h = opened_by_keeps p q (behind end w ts) f g le h

  listed_keeps : {X : Type 0} (end : Span) (f g : List Symbol → ReadResult (List X)) (ts : List Symbol) (o : Option (Read Span)) → ((us : List Symbol) → Keeps IsSame (f us) (g us)) → Keeps IsSame (listed_by end f ts o) (listed_by end g ts o)
  listed_keeps end f g ts (Some r) h = refl
  listed_keeps end f g ts None h = then (f ts) (g ts) _ _ (h ts) (λ xs. same _)

  formals_keep : (end : Span) (p q n m : ℕ) (ts : List Symbol) → MoreNesting p q → MoreVariables n m → Keeps IsSame (formals_at end p n ts) (formals_at end q m ts)
  unfolding formals_at
  formals_keep end p q n m ts le few = opened_keeps end fixed.OpenParenthesis p q ts _ _ le (λ a b r low. listed_keeps end (variables_at end n) (variables_at end m) r (seen fixed.CloseParenthesis r) (λ us. variables_keep end n m us few))

  results_by_keep : (end : Span) (p q n m : ℕ) (ts : List Symbol) (o : Option (Read Span)) → MoreNesting p q → MoreVariables n m → Keeps IsSame (results_by end p n ts o) (results_by end q m ts o)
  results_by_keep end p q n m ts None le few = refl
  results_by_keep end p q n m ts (Some r) le few = formals_keep end p q n m r.rest le few

  results_keep : (end : Span) (p q n m : ℕ) (ts : List Symbol) → MoreNesting p q → MoreVariables n m → Keeps IsSame (results_at end p n ts) (results_at end q m ts)
  unfolding results_at
  results_keep end p q n m ts le few = results_by_keep end p q n m ts (seen fixed.Returns ts) le few

  local_by_keeps : (end : Span) (n m : ℕ) (o : Option (Read Span)) → MoreVariables n m → Keeps IsSame (local_by end n o) (local_by end m o)
  local_by_keeps end n m None le = refl
  local_by_keeps end n m (Some word) le = there_keeps (declared_behind end n word.rest) (declared_behind end m word.rest) (declared_keeps end n m word.rest le)

  local_keeps : (end : Span) (n m : ℕ) (ts : List Symbol) → MoreVariables n m → Keeps IsSame (local_at end n ts) (local_at end m ts)
  unfolding local_at
  local_keeps end n m ts le = local_by_keeps end n m (seen fixed.Var ts) le

  locals_keep : (end : Span) (n m : ℕ) (ts : List Symbol) → MoreVariables n m → Keeps IsSame (locals_at end n ts) (locals_at end m ts)
  unfolding locals_at
  locals_keep end n m ts le = repeated_keeps (IsSame which.Variables) (local_at end) (local_at end) length (local_keeps end) (length ts) n m ts le

  head_keeps : (end : Span) (p q v w : ℕ) (here : Span) (ts : List Symbol) → MoreNesting p q → MoreVariables v w → Keeps IsSame (head_at end p v here ts) (head_at end q w here ts)
  unfolding head_at
  head_keeps end p q v w here ts le few =
      onward (name_at end ts) _ _ (λ x.
      then (formals_at end p v x.rest) (formals_at end q w x.rest) _ _ (formals_keep end p q v w x.rest le few) (λ ps.
      then (results_at end p (v - length ps.value) ps.rest) (results_at end q (w - length ps.value) ps.rest) _ _ (results_keep end p q (v - length ps.value) (w - length ps.value) ps.rest le (less (length ps.value) few)) (λ rs. refl)))

  -- With more room: `f` reads expressions with that of p, and `g` with that of q.
  module _ (f g : ℕ → List Symbol → ReadResult Expression) (end : Span) (grows : (p q : ℕ) (ts : List Symbol) → MoreNesting p q → Keeps IsSame (f p ts) (g q ts)) (p q : ℕ) (le : MoreNesting p q) where
    expressions_keep : (a b : ℕ) (ts : List Symbol) → MoreNesting a b → Keeps IsSame (expressions_at f end a ts) (expressions_at g end b ts)
    unfolding expressions_at
    expressions_keep a b ts low = separated_keeps ⊥ (expression_item f a) (expression_item g b) (λ n m us h. one_keeps (f a us) (g b us) (grows a b us low)) end (length ts) 0 0 ts no_more

    arguments_keep : (ts : List Symbol) → Keeps IsSame (arguments_at f end p ts) (arguments_at g end q ts)
    unfolding arguments_at
    arguments_keep ts = opened_keeps end fixed.OpenParenthesis p q ts _ _ le (λ a b r low. listed_keeps end (expressions_at f end a) (expressions_at g end b) r (seen fixed.CloseParenthesis r) (λ us. expressions_keep a b us low))

    guard_by_keeps : (a b : ℕ) (ts : List Symbol) (o : Option (Read Span)) → MoreNesting a b → Keeps IsSame (guard_by f end a ts o) (guard_by g end b ts o)
    guard_by_keeps a b ts (Some star) low = same _
    guard_by_keeps a b ts None low = then (f a ts) (g b ts) _ _ (grows a b ts low) (λ e. same _)

    guard_keeps : (ts : List Symbol) → Keeps IsSame (guard_at f end p ts) (guard_at g end q ts)
    unfolding guard_at
    guard_keeps ts = opened_keeps end fixed.OpenParenthesis p q ts _ _ le (λ a b r low. guard_by_keeps a b r (seen fixed.Star r) low)

    claim_keeps : (ts : List Symbol) → Keeps IsSame (claim_at f end p ts) (claim_at g end q ts)
    unfolding claim_at
    claim_keeps ts = then (f p ts) (g q ts) _ _ (grows p q ts le) (λ e. same _)

    condition_keeps : (free : Bool) (word : Read Span) → Keeps IsSame (condition_behind f end p free word) (condition_behind g end q free word)
    unfolding condition_behind
    condition_keeps free word = then (claim_at f end p word.rest) (claim_at g end q word.rest) _ _ (claim_keeps word.rest) (λ e. refl)

    invariant_by_keeps : (a b : Option (Read Span)) → Keeps IsSame (invariant_by f end p a b) (invariant_by g end q a b)
    invariant_by_keeps (Some first) b = there_keeps _ _ (onward (behind end fixed.Invariant first.rest) _ _ (λ word. condition_keeps true word))
    invariant_by_keeps None (Some word) = there_keeps _ _ (condition_keeps false word)
    invariant_by_keeps None None = refl

    invariant_keeps : (ts : List Symbol) → Keeps IsSame (invariant_at f end p ts) (invariant_at g end q ts)
    unfolding invariant_at
    invariant_keeps ts = invariant_by_keeps (seen fixed.Free ts) (seen fixed.Invariant ts)

    invariants_keep : (ts : List Symbol) → Keeps IsSame (invariants_at f end p ts) (invariants_at g end q ts)
    unfolding invariants_at
    invariants_keep ts = repeated_keeps ⊥ (invariant_item f end p) (invariant_item g end q) length (λ n m us h. one_there_keeps (invariant_at f end p us) (invariant_at g end q us) (invariant_keeps us)) (length ts) 0 0 ts no_more

    assert_keeps : (here : Span) (ts : List Symbol) → Keeps IsSame (assert_at f end p here ts) (assert_at g end q here ts)
    unfolding assert_at
    assert_keeps here ts = then (claim_at f end p ts) (claim_at g end q ts) _ _ (claim_keeps ts) (λ e. refl)

    assume_keeps : (here : Span) (ts : List Symbol) → Keeps IsSame (assume_at f end p here ts) (assume_at g end q here ts)
    unfolding assume_at
    assume_keeps here ts = then (claim_at f end p ts) (claim_at g end q ts) _ _ (claim_keeps ts) (λ e. refl)

    assign_keeps : (here : Span) (ts : List Symbol) → Keeps IsSame (assign_at f end p here ts) (assign_at g end q here ts)
    unfolding assign_at
    assign_keeps here ts =
        onward (names_at end (length ts) ts) _ _ (λ xs.
        onward (behind end fixed.Becomes xs.rest) _ _ (λ becomes.
        then (expressions_at f end p becomes.rest) (expressions_at g end q becomes.rest) _ _ (expressions_keep p q becomes.rest le) (λ es. same _)))

    called_keeps : (here : Span) (xs : List Name) (x : Name) (ts : List Symbol) → Keeps IsSame (called_at f end p here xs x ts) (called_at g end q here xs x ts)
    unfolding called_at
    called_keeps here xs x ts = then (arguments_at f end p ts) (arguments_at g end q ts) _ _ (arguments_keep ts) (λ es. same _)

    call_into_keeps : (here : Span) (ts : List Symbol) → Keeps IsSame (call_into f end p here ts) (call_into g end q here ts)
    unfolding call_into
    call_into_keeps here ts =
        onward (names_at end (length ts) ts) _ _ (λ xs.
        onward (behind end fixed.Becomes xs.rest) _ _ (λ becomes.
        onward (name_at end becomes.rest) _ _ (λ x. called_keeps here xs.value x.value x.rest)))

    call_by_keeps : (here : Span) (ts : List Symbol) (x : Read Name) (o : Option (Read Span)) → Keeps IsSame (call_by f end p here ts x o) (call_by g end q here ts x o)
    call_by_keeps here ts x (Some parenthesis) = called_keeps here [] x.value x.rest
    call_by_keeps here ts x None = call_into_keeps here ts

    call_keeps : (here : Span) (ts : List Symbol) → Keeps IsSame (call_at f end p here ts) (call_at g end q here ts)
    unfolding call_at
    call_keeps here ts = onward (name_at end ts) _ _ (λ x. call_by_keeps here ts x (seen fixed.OpenParenthesis x.rest))

    named_by_keeps : (x : Name) (ts : List Symbol) (o : Option (Read Span)) → Keeps IsSame (named_by f end p x ts o) (named_by g end q x ts o)
    named_by_keeps x ts (Some colon) = refl
    named_by_keeps x ts None = assign_keeps x.span ts

    named_keeps : (x : Name) (ts rest : List Symbol) → Keeps IsSame (named_at f end p x ts rest) (named_at g end q x ts rest)
    unfolding named_at
    named_keeps x ts rest = named_by_keeps x ts (seen fixed.Colon rest)

    loop_keeps : (i j : Inside) → KeepsInside IsSame i j → (here : Span) (ts : List Symbol) → Keeps IsSame (loop_at f end p i.block here ts) (loop_at g end q j.block here ts)
    unfolding loop_at
    loop_keeps i j k here ts =
        then (guard_at f end p ts) (guard_at g end q ts) _ _ (guard_keeps ts) (λ x.
        then (invariants_at f end p x.rest) (invariants_at g end q x.rest) _ _ (invariants_keep x.rest) (λ is.
        then (i.block is.rest) (j.block is.rest) _ _ (k.block is.rest) (λ y. refl)))

    other_keeps : (i j : Inside) → KeepsInside IsSame i j → (ts : List Symbol) (o : Option (Read Span)) → Keeps IsSame (other_by i ts o) (other_by j ts o)
    other_keeps i j k ts None = k.block ts
    other_keeps i j k ts (Some word) = then (i.branch word.value word.rest) (j.branch word.value word.rest) _ _ (k.branch word.value word.rest) (λ s. refl)

    else_keeps : (i j : Inside) → KeepsInside IsSame i j → (here : Span) (x : Guard) (y : Block) (ts : List Symbol) (o : Option (Read Span)) → Keeps IsSame (else_by i here x y ts o) (else_by j here x y ts o)
    else_keeps i j k here x y ts None = refl
    else_keeps i j k here x y ts (Some word) =
        then (other_by i word.rest (seen fixed.If word.rest)) (other_by j word.rest (seen fixed.If word.rest)) _ _ (other_keeps i j k word.rest (seen fixed.If word.rest)) (λ z. refl)

    branch_keeps : (i j : Inside) → KeepsInside IsSame i j → (here : Span) (ts : List Symbol) → Keeps IsSame (branch_by f end p i here ts) (branch_by g end q j here ts)
    unfolding branch_by
    branch_keeps i j k here ts =
        then (guard_at f end p ts) (guard_at g end q ts) _ _ (guard_keeps ts) (λ x.
        then (i.block x.rest) (j.block x.rest) _ _ (k.block x.rest) (λ y. else_keeps i j k here x.value y.value y.rest (seen fixed.Else y.rest)))

    statement_by_keeps : (i j : Inside) → KeepsInside IsSame i j → (t : Symbol) (ts : List Symbol) (s : Sign) → Keeps IsSame (statement_by f end p i t ts s) (statement_by g end q j t ts s)
    statement_by_keeps i j k t ts (signs.Fixed fixed.Assert) = there_keeps _ _ (assert_keeps t.span ts)
    statement_by_keeps i j k t ts (signs.Fixed fixed.Assume) = there_keeps _ _ (assume_keeps t.span ts)
    statement_by_keeps i j k t ts (signs.Fixed fixed.Havoc) = same _
    statement_by_keeps i j k t ts (signs.Fixed fixed.Call) = there_keeps _ _ (call_keeps t.span ts)
    statement_by_keeps i j k t ts (signs.Fixed fixed.If) = there_keeps _ _ (branch_keeps i j k t.span ts)
    statement_by_keeps i j k t ts (signs.Fixed fixed.While) = there_keeps _ _ (loop_keeps i j k t.span ts)
    statement_by_keeps i j k t ts (signs.Fixed fixed.Break) = same _
    statement_by_keeps i j k t ts (signs.Fixed fixed.Goto) = same _
    statement_by_keeps i j k t ts (signs.Fixed fixed.Return) = same _
    statement_by_keeps i j k t ts (signs.Name x) = there_keeps _ _ (named_keeps (record { span = t.span; text = x }) (t ∷ ts) ts)
    statement_by_keeps i j k t ts s = refl

    statement_keeps : (i j : Inside) → KeepsInside IsSame i j → (ts : List Symbol) → Keeps IsSame (statement_at f end p i ts) (statement_at g end q j ts)
    unfolding statement_at
    statement_keeps i j k [] = refl
    statement_keeps i j k (t ∷ ts) = statement_by_keeps i j k t ts t.sign

    list_keeps : (i j : Inside) → KeepsInside IsSame i j → (ts : List Symbol) → Keeps IsSame (list_at f end p i ts) (list_at g end q j ts)
    unfolding list_at
    list_keeps i j k ts =
        repeated_keeps ⊥ (statement_item f end p i) (statement_item g end q j) length (λ n m us h. one_there_keeps (statement_at f end p i us) (statement_at g end q j us) (statement_keeps i j k us)) (length ts) 0 0 ts no_more

    block_keeps : (i j : Inside) → KeepsInside IsSame i j → (ts : List Symbol) → Keeps IsSame (block_by f end p i ts) (block_by g end q j ts)
    unfolding block_by
    block_keeps i j k ts = onward (behind end fixed.OpenBrace ts) _ _ (λ brace. then (list_at f end p i brace.rest) (list_at g end q j brace.rest) _ _ (list_keeps i j k brace.rest) (λ ss. same _))

    none_keeps : (ts : List Symbol) → Keeps IsSame (no_block f end p ts) (no_block g end q ts)
    unfolding no_block
    none_keeps ts = onward (behind end fixed.OpenBrace ts) _ _ (λ brace s. refl)

    none_then_block : (j : Inside) (ts : List Symbol) → (IsSame which.Nesting → ⊥) → Keeps IsSame (no_block f end p ts) (block_by g end q j ts)
    unfolding no_block block_by
    none_then_block j ts differs = onward (behind end fixed.OpenBrace ts) _ _ (λ brace s. absurd (differs s))

    no_branch_keeps : (here : Span) (ts : List Symbol) → Keeps IsSame (no_branch f end p here ts) (no_branch g end q here ts)
    unfolding no_branch
    no_branch_keeps here ts = λ s. refl

    no_branch_then : (here : Span) (ts : List Symbol) (o : ReadResult Statement) → (IsSame which.Nesting → ⊥) → Keeps IsSame (no_branch f end p here ts) o
    unfolding no_branch
    no_branch_then here ts o differs = λ s. absurd (differs s)

    inside_keeps : (a b : ℕ) → MoreNesting a b → KeepsInside IsSame (inside_at f end p a) (inside_at g end q b)
    unfolding inside_at
    inside_keeps zero zero low = record { block = none_keeps; branch = no_branch_keeps }
    inside_keeps zero (suc b) low = record { block = λ ts. none_then_block (inside_at g end q b) ts (differ low); branch = λ here ts. no_branch_then here ts _ (differ low) }
    inside_keeps (suc a) zero low = absurd (no_room low)
    inside_keeps (suc a) (suc b) low =
        let k = inside_keeps a b (under low) in
        record { block = block_keeps (inside_at f end p a) (inside_at g end q b) k; branch = branch_keeps (inside_at f end p a) (inside_at g end q b) k }

    requires_keeps : (free : Bool) (word : Read Span) → Keeps IsSame (requires_at f end p free word) (requires_at g end q free word)
    unfolding requires_at
    requires_keeps free word = then (condition_behind f end p free word) (condition_behind g end q free word) _ _ (condition_keeps free word) (λ i. refl)

    ensures_keeps : (free : Bool) (word : Read Span) → Keeps IsSame (ensures_at f end p free word) (ensures_at g end q free word)
    unfolding ensures_at
    ensures_keeps free word = then (condition_behind f end p free word) (condition_behind g end q free word) _ _ (condition_keeps free word) (λ i. refl)

    claimed_by_keeps : (free : Bool) (a b : Option (Read Span)) → Keeps IsSame (claimed_by f end p free a b) (claimed_by g end q free a b)
    claimed_by_keeps free (Some word) b = there_keeps _ _ (requires_keeps free word)
    claimed_by_keeps free None (Some word) = there_keeps _ _ (ensures_keeps free word)
    claimed_by_keeps free None None = refl

    claimed_keeps : (free : Bool) (ts : List Symbol) → Keeps IsSame (claimed_at f end p free ts) (claimed_at g end q free ts)
    unfolding claimed_at
    claimed_keeps free ts = claimed_by_keeps free (seen fixed.Requires ts) (seen fixed.Ensures ts)

    must_stand_keeps : (ts : List Symbol) (x y : Possible Specification) → Keeps IsSame x y → Keeps IsSame (must_stand f end p ts x) (must_stand g end q ts y)
    must_stand_keeps ts (Ok None) y k = ap (must_stand g end q ts) k
    must_stand_keeps ts (Ok (Some a)) y k = ap (must_stand g end q ts) k
    must_stand_keeps ts (Err e) y k = fault_on e y (must_stand g end q ts) (λ e. refl) k

    free_keeps : (ts : List Symbol) → Keeps IsSame (free_at f end p ts) (free_at g end q ts)
    unfolding free_at
    free_keeps ts = must_stand_keeps ts (claimed_at f end p true ts) (claimed_at g end q true ts) (claimed_keeps true ts)

    specification_by_keeps : (ts : List Symbol) (a b : Option (Read Span)) → Keeps IsSame (specification_by f end p ts a b) (specification_by g end q ts a b)
    specification_by_keeps ts (Some first) b = free_keeps first.rest
    specification_by_keeps ts None (Some word) = same _
    specification_by_keeps ts None None = claimed_keeps false ts

    specification_keeps : (ts : List Symbol) → Keeps IsSame (specification_at f end p ts) (specification_at g end q ts)
    unfolding specification_at
    specification_keeps ts = specification_by_keeps ts (seen fixed.Free ts) (seen fixed.Modifies ts)

    specifications_keep : (ts : List Symbol) → Keeps IsSame (specifications_at f end p ts) (specifications_at g end q ts)
    unfolding specifications_at
    specifications_keep ts =
        repeated_keeps ⊥ (specification_item f end p) (specification_item g end q) length (λ n m us h. one_there_keeps (specification_at f end p us) (specification_at g end q us) (specification_keeps us)) (length ts) 0 0 ts no_more

    axiom_keeps : (here : Span) (ts : List Symbol) → Keeps IsSame (axiom_at f end p here ts) (axiom_at g end q here ts)
    unfolding axiom_at
    axiom_keeps here ts = then (claim_at f end p ts) (claim_at g end q ts) _ _ (claim_keeps ts) (λ e. refl)

    module _ (b c : ℕ) (deep : MoreNesting b c) where
      body_keeps : (n m : ℕ) (ts : List Symbol) → MoreVariables n m → Keeps IsSame (body_at f end p b n ts) (body_at g end q c m ts)
      unfolding body_at
      body_keeps n m ts few =
          opened_keeps end fixed.OpenBrace b c ts _ _ deep (λ x y r low.
          then (locals_at end n r) (locals_at end m r) _ _ (locals_keep end n m r few) (λ vs.
          then (list_at f end p (inside_at f end p x) vs.rest) (list_at g end q (inside_at g end q y) vs.rest) _ _ (list_keeps (inside_at f end p x) (inside_at g end q y) (inside_keeps x y low) vs.rest) (λ ss. same _)))

      module _ (v w : ℕ) (many : MoreVariables v w) where
        procedure_by_keeps : (h : Head) (ts : List Symbol) (o : Option (Read Span)) → Keeps IsSame (procedure_by f end p b v h ts o) (procedure_by g end q c w h ts o)
        procedure_by_keeps h ts (Some semicolon) = then (specifications_at f end p semicolon.rest) (specifications_at g end q semicolon.rest) _ _ (specifications_keep semicolon.rest) (λ ss. refl)
        procedure_by_keeps h ts None =
            then (specifications_at f end p ts) (specifications_at g end q ts) _ _ (specifications_keep ts) (λ ss.
            then (body_at f end p b (room_behind v h) ss.rest) (body_at g end q c (room_behind w h) ss.rest) _ _ (body_keeps (room_behind v h) (room_behind w h) ss.rest (less (length h.results) (less (length h.params) many))) (λ x. refl))

        procedure_keeps : (here : Span) (ts : List Symbol) → Keeps IsSame (procedure_at f end p b v here ts) (procedure_at g end q c w here ts)
        unfolding procedure_at
        procedure_keeps here ts = then (head_at end p v here ts) (head_at end q w here ts) _ _ (head_keeps end p q v w here ts le many) (λ h. procedure_by_keeps h.value h.rest (seen fixed.Semicolon h.rest))

        implementation_keeps : (here : Span) (ts : List Symbol) → Keeps IsSame (implementation_at f end p b v here ts) (implementation_at g end q c w here ts)
        unfolding implementation_at
        implementation_keeps here ts =
            then (head_at end p v here ts) (head_at end q w here ts) _ _ (head_keeps end p q v w here ts le many) (λ h.
            then (body_at f end p b (room_behind v h.value) h.rest) (body_at g end q c (room_behind w h.value) h.rest) _ _ (body_keeps (room_behind v h.value) (room_behind w h.value) h.rest (less (length h.value.results) (less (length h.value.params) many))) (λ x. refl))

        new_procedure_keeps : (n m : ℕ) (here : Span) (ts : List Symbol) → MoreProcedures n m → Keeps IsSame (new_procedure f end p b v n here ts) (new_procedure g end q c w m here ts)
        unfolding new_procedure
        new_procedure_keeps zero zero here ts low = λ s. refl
        new_procedure_keeps zero (suc m) here ts low = λ s. absurd (differ low s)
        new_procedure_keeps (suc n) zero here ts low = absurd (no_room low)
        new_procedure_keeps (suc n) (suc m) here ts low = procedure_keeps here ts

        constants_keep : (ts : List Symbol) → Keeps IsSame (constants_at f end p b v ts) (constants_at g end q c w ts)
        unfolding constants_at
        constants_keep ts = then (declared_behind end v ts) (declared_behind end w ts) _ _ (declared_keeps end v w ts many) (λ vs. refl)

        globals_keep : (ts : List Symbol) → Keeps IsSame (globals_at f end p b v ts) (globals_at g end q c w ts)
        unfolding globals_at
        globals_keep ts = then (declared_behind end v ts) (declared_behind end w ts) _ _ (declared_keeps end v w ts many) (λ vs. refl)

        declaration_by_keeps : (n m : ℕ) (here : Span) (ts : List Symbol) (s : Sign) → MoreProcedures n m → Keeps IsSame (declaration_by f end p b v n here ts s) (declaration_by g end q c w m here ts s)
        declaration_by_keeps n m here ts (signs.Fixed fixed.Const) low = there_keeps _ _ (constants_keep ts)
        declaration_by_keeps n m here ts (signs.Fixed fixed.Var) low = there_keeps _ _ (globals_keep ts)
        declaration_by_keeps n m here ts (signs.Fixed fixed.Axiom) low = there_keeps _ _ (axiom_keeps here ts)
        declaration_by_keeps n m here ts (signs.Fixed fixed.Procedure) low = there_keeps _ _ (new_procedure_keeps n m here ts low)
        declaration_by_keeps n m here ts (signs.Fixed fixed.Implementation) low = there_keeps _ _ (implementation_keeps here ts)
        declaration_by_keeps n m here ts s low = refl

        declaration_keeps : (n m : ℕ) (ts : List Symbol) → MoreProcedures n m → Keeps IsSame (declaration_at f end p b v n ts) (declaration_at g end q c w m ts)
        unfolding declaration_at
        declaration_keeps n m [] low = refl
        declaration_keeps n m (t ∷ ts) low = declaration_by_keeps n m t.span ts t.sign low

        declarations_keep : (n m : ℕ) (ts : List Symbol) → MoreProcedures n m → Keeps IsSame (declarations_at f end p b v n ts) (declarations_at g end q c w m ts)
        unfolding declarations_at
        declarations_keep n m ts low = repeated_keeps (IsSame which.Procedures) (declaration_at f end p b v) (declaration_at g end q c w) procedures_counted declaration_keeps (length ts) n m ts low

        pub program_keeps : (n m : ℕ) (ts : List Symbol) → MoreProcedures n m → Keeps IsSame (program_at f end p b v n ts) (program_at g end q c w m ts)
        unfolding program_at
        program_keeps n m ts low = then (declarations_at f end p b v n ts) (declarations_at g end q c w m ts) _ _ (declarations_keep n m ts low) (λ ds. same _)

  -- an expression is past no limit but that of nesting
  pub grows_keeps : (x y : ReadResult Expression) → IfErr x (IsRefusal IsOfExpressions) → Grows x y → (IsSame which.Nesting → y ≡ x) → Keeps IsSame x y
  grows_keeps (Ok a) y refusal k even = k
  grows_keeps (Err (faults.Syntax line col)) y refusal k even = k
  grows_keeps (Err (faults.Limit which.Literal line col)) y refusal k even = absurd refusal
  grows_keeps (Err (faults.Limit which.Nesting line col)) y refusal k even = even
  grows_keeps (Err (faults.Limit which.Procedures line col)) y refusal k even = absurd refusal
  grows_keeps (Err (faults.Limit which.Variables line col)) y refusal k even = absurd refusal
  grows_keeps (Err (faults.Unsupported what line col)) y refusal k even = absurd refusal
  grows_keeps (Err faults.Memory) y refusal k even = absurd refusal

  -- expressions of any depth from 200 on
  pub expression_keeps : (end : Span) (d p q : ℕ) (ts : List Symbol) → 200 ≤ d → (IsSame which.Nesting → d ≡ 200) → MoreNesting p q → Keeps IsSame (expression_at end p ts) (expression end q d ts)
  unfolding expression_at
  expression_keeps end d p q ts deep even le =
      grows_keeps (expression end p 200 ts) (expression end q d ts) (expression_refusals end p 200 ts) (more_room end p q 200 d ts le.le deep)
      (λ s. ap (λ i. expression end i d ts) (sym (le.equal s)) ∙ ap (λ i. expression end p i ts) (even s))

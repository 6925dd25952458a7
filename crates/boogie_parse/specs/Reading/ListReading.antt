-- Reading lists, step by step as the code does it: each function gives a value and the symbols behind it, or a fault.
use Rattle.std.specs.Prelude.{ℕ, zero, suc, ◌-◌, Bool, true, false, if◌then◌else◌, List, [], ◌∷◌, ◌++◌, length, Option, None, Some, Result, Ok, Err}
use denote.Enum.Bare.{sameb}
use Rattle.boogie_tree.specs.declared.span.Span.{Span}
use Rattle.boogie_tree.specs.declared.tree.Name.{Name}
use Rattle.boogie_tree.specs.declared.tree.Vary.{Vary}
use Rattle.boogie_tree.specs.declared.tree.Ty.{Ty}
use Rattle.boogie_tree.specs.Tree.{Expression, Guard, Any, Cond, Invariant}
use Rattle.boogie_parse.specs.declared.fault.Fault.{Fault}
use Rattle.boogie_parse.specs.declared.fault.Which.TheVariants as which
use Rattle.boogie_parse.specs.declared.symbols.Fixed.{Fixed}
use Rattle.boogie_parse.specs.declared.symbols.Fixed.TheVariants as fixed
use Rattle.boogie_parse.specs.contracts.symbols.Fixed.{the_type}
use Rattle.boogie_parse.specs.declared.symbols.Sign.{Sign}
use Rattle.boogie_parse.specs.declared.symbols.Sign.TheVariants as signs
use Rattle.boogie_parse.specs.declared.symbols.Symbol.{Symbol}
use Rattle.boogie_parse.specs.Reading.Outcomes.{Read, ReadResult, syntax_fault, limit_fault, refused}
use Rattle.boogie_parse.specs.Reading.ExpressionReading.{expression}
use Rattle.boogie_parse.specs.Rules.GrammarLists.{of_type, type_named}

-- the next step, if the one before gave no fault
infixl 10 ◌>>=◌
abbrev pub ◌>>=◌ : {A B : Type 0} → Result A Fault → (A → Result B Fault) → Result B Fault
◌>>=◌ (Ok x) f = f x
◌>>=◌ (Err e) f = Err e

abbrev pub read : {X : Type 0} → X → List Symbol → ReadResult X
read x ts = Ok (record { value = x; rest = ts })

-- what may stand there or not
abbrev pub Possible : Type 0 → Type 0
Possible X = Result (Option (Read X)) Fault

-- it stands there
abbrev pub there : {X : Type 0} → ReadResult X → Possible X
there (Ok r) = Ok (Some r)
there (Err f) = Err f

abbrev pub is_there : {C : Type 0} → Result C Fault → Result (Option C) Fault
is_there (Ok c) = Ok (Some c)
is_there (Err f) = Err f

-- whether a symbol is that fixed word or mark
abbrev pub says : Fixed → Sign → Bool
says f (signs.Fixed g) = sameb the_type g f
says f (signs.Number n) = false
says f (signs.Name x) = false

-- where that fixed word or mark stands, if it stands first, and the symbols behind it
unfoldable pub seen : Fixed → List Symbol → Option (Read Span)
seen f [] = None
seen f (t ∷ ts) = if says f t.sign then Some (record { value = t.span; rest = ts }) else None

abbrev pub must_be : Span → List Symbol → Option (Read Span) → ReadResult Span
must_be end ts None = refused end ts
must_be end ts (Some r) = Ok r

-- where that fixed word or mark stands, which must stand first, and the symbols behind it
unfoldable pub behind : Span → Fixed → List Symbol → ReadResult Span
behind end f ts = must_be end ts (seen f ts)

abbrev pub name_by : Span → List Symbol → Sign → ReadResult Name
name_by here ts (signs.Name x) = read (record { span = here; text = x }) ts
name_by here ts (signs.Fixed f) = Err (syntax_fault here)
name_by here ts (signs.Number n) = Err (syntax_fault here)

unfoldable pub name_at : Span → List Symbol → ReadResult Name
name_at end [] = refused end []
name_at end (t ∷ ts) = name_by t.span ts t.sign

-- a name, if there is room for one more
unfoldable pub new_name : Span → ℕ → List Symbol → ReadResult Name
new_name end zero ts = do
  x ← name_at end ts
  Err (limit_fault which.Variables x.value.span)
new_name end (suc n) ts = name_at end ts

abbrev pub with_front : {X : Type 0} → List X → ReadResult (List X) → ReadResult (List X)
with_front xs (Ok r) = read (xs ++ r.value) r.rest
with_front xs (Err f) = Err f

-- one item as a list
abbrev pub one : {X : Type 0} → ReadResult X → ReadResult (List X)
one (Ok r) = read (r.value ∷ []) r.rest
one (Err f) = Err f

-- the items so far, and more behind a comma
abbrev pub more_by : {X : Type 0} → (List Symbol → ReadResult (List X)) → List X → List Symbol → Option (Read Span) → ReadResult (List X)
more_by more xs ts None = read xs ts
more_by more xs ts (Some comma) = with_front xs (more comma.rest)

-- Items with commas between them, in so many turns at most. An item takes at least one symbol, so a list has no more turns than symbols.
-- `item` is given how many more there is room for.
unfoldable pub separated : {X : Type 0} → (ℕ → List Symbol → ReadResult (List X)) → Span → ℕ → ℕ → List Symbol → ReadResult (List X)
separated item end room zero ts = refused end ts
separated item end room (suc turns) ts = do
  xs ← item room ts
  more_by (separated item end (room - length xs.value) turns) xs.value xs.rest (seen fixed.Comma xs.rest)

abbrev pub name_item : Span → ℕ → List Symbol → ReadResult (List Name)
name_item end room ts = one (new_name end room ts)

-- names with commas between them, so many at most
unfoldable pub names_at : Span → ℕ → List Symbol → ReadResult (List Name)
names_at end room ts = separated (name_item end) end room (length ts) ts

abbrev pub type_by : Span → List Symbol → Option Ty → ReadResult Ty
type_by here ts None = Err (syntax_fault here)
type_by here ts (Some ty) = read ty ts

abbrev pub type_said : Sign → Option Ty
type_said (signs.Fixed f) = type_named f
type_said (signs.Number n) = None
type_said (signs.Name x) = None

unfoldable pub type_at : Span → List Symbol → ReadResult Ty
type_at end [] = refused end []
type_at end (t ∷ ts) = type_by t.span ts (type_said t.sign)

-- one item of a list without commas as a list
abbrev pub one_there : {X : Type 0} → Possible X → Possible (List X)
one_there (Ok None) = Ok None
one_there (Ok (Some r)) = Ok (Some (record { value = r.value ∷ []; rest = r.rest }))
one_there (Err f) = Err f

abbrev pub repeated_by : {X : Type 0} → (List X → List Symbol → ReadResult (List X)) → List Symbol → Possible (List X) → ReadResult (List X)
repeated_by again ts (Ok None) = read [] ts
repeated_by again ts (Ok (Some r)) = with_front r.value (again r.value r.rest)
repeated_by again ts (Err f) = Err f

-- Items one behind the other, as long as one stands there, in so many turns at most. `item` is given how many more there is room for, and `used`
-- says how many there are in some items.
unfoldable pub repeated : {X : Type 0} → (ℕ → List Symbol → Possible (List X)) → (List X → ℕ) → ℕ → ℕ → List Symbol → ReadResult (List X)
repeated item used room zero ts = read [] ts
repeated item used room (suc turns) ts = repeated_by (λ xs us. repeated item used (room - used xs) turns us) ts (item room ts)

-- names up to their semicolon
unfoldable pub listed_names : Span → List Symbol → ReadResult (List Name)
listed_names end ts = do
  xs ← names_at end (length ts) ts
  semicolon ← behind end fixed.Semicolon xs.rest
  read xs.value semicolon.rest

-- names of one type, so many at most
unfoldable pub group_at : Span → ℕ → List Symbol → ReadResult (List Vary)
group_at end room ts = do
  xs ← names_at end room ts
  colon ← behind end fixed.Colon xs.rest
  ty ← type_at end colon.rest
  read (of_type ty.value xs.value) ty.rest

-- groups of names with commas between them, so many names at most
unfoldable pub variables_at : Span → ℕ → List Symbol → ReadResult (List Vary)
variables_at end room ts = separated (group_at end) end room (length ts) ts

-- variables behind that word, up to their semicolon
unfoldable pub declared_behind : Span → ℕ → List Symbol → ReadResult (List Vary)
declared_behind end room ts = do
  vs ← variables_at end room ts
  semicolon ← behind end fixed.Semicolon vs.rest
  read vs.value semicolon.rest

abbrev pub opened_by : ℕ → ReadResult Span → ReadResult ℕ
opened_by p (Err f) = Err f
opened_by zero (Ok r) = Err (limit_fault which.Nesting r.value)
opened_by (suc p) (Ok r) = read p r.rest

-- how many parentheses or braces may be opened behind the one that must stand first
unfoldable pub opened : Span → Fixed → ℕ → List Symbol → ReadResult ℕ
opened end f p ts = opened_by p (behind end f ts)

abbrev pub closed : {X : Type 0} → Span → X → List Symbol → ReadResult X
closed end x ts = do
  parenthesis ← behind end fixed.CloseParenthesis ts
  read x parenthesis.rest

-- a list in parentheses that may be empty, from behind the opening one
abbrev pub listed_by : {X : Type 0} → Span → (List Symbol → ReadResult (List X)) → List Symbol → Option (Read Span) → ReadResult (List X)
listed_by end list ts (Some parenthesis) = read [] parenthesis.rest
listed_by end list ts None = do
  xs ← list ts
  closed end xs.value xs.rest

-- parameters or results, so many at most
unfoldable pub formals_at : Span → ℕ → ℕ → List Symbol → ReadResult (List Vary)
formals_at end p room ts = do
  inner ← opened end fixed.OpenParenthesis p ts
  listed_by end (variables_at end room) inner.rest (seen fixed.CloseParenthesis inner.rest)

abbrev pub results_by : Span → ℕ → ℕ → List Symbol → Option (Read Span) → ReadResult (List Vary)
results_by end p room ts None = read [] ts
results_by end p room ts (Some returns) = formals_at end p room returns.rest

-- results, if there are any
unfoldable pub results_at : Span → ℕ → ℕ → List Symbol → ReadResult (List Vary)
results_at end p room ts = results_by end p room ts (seen fixed.Returns ts)

-- an expression that is at most 200 deep
unfoldable pub expression_at : Span → ℕ → List Symbol → ReadResult Expression
expression_at end p ts = expression end p 200 ts

-- What follows reads expressions by `reads`, which is given how many parentheses may be open in one at once.
module _ (reads : ℕ → List Symbol → ReadResult Expression) where
  abbrev pub expression_item : ℕ → ℕ → List Symbol → ReadResult (List Expression)
  expression_item p room ts = one (reads p ts)

  -- expressions with commas between them
  unfoldable pub expressions_at : Span → ℕ → List Symbol → ReadResult (List Expression)
  expressions_at end p ts = separated (expression_item p) end 0 (length ts) ts

  -- the arguments of a call
  unfoldable pub arguments_at : Span → ℕ → List Symbol → ReadResult (List Expression)
  arguments_at end p ts = do
    inner ← opened end fixed.OpenParenthesis p ts
    listed_by end (expressions_at end inner.value) inner.rest (seen fixed.CloseParenthesis inner.rest)

  abbrev pub guard_by : Span → ℕ → List Symbol → Option (Read Span) → ReadResult Guard
  guard_by end p ts (Some star) = closed end Any star.rest
  guard_by end p ts None = do
    e ← reads p ts
    closed end (Cond e.value) e.rest

  -- the guard of a branch or a loop
  unfoldable pub guard_at : Span → ℕ → List Symbol → ReadResult Guard
  guard_at end p ts = do
    inner ← opened end fixed.OpenParenthesis p ts
    guard_by end inner.value inner.rest (seen fixed.Star inner.rest)

  -- an expression, up to its semicolon
  unfoldable pub claim_at : Span → ℕ → List Symbol → ReadResult Expression
  claim_at end p ts = do
    e ← reads p ts
    semicolon ← behind end fixed.Semicolon e.rest
    read e.value semicolon.rest

  -- a condition, behind its word that stands there
  unfoldable pub condition_behind : Span → ℕ → Bool → Read Span → ReadResult Invariant
  condition_behind end p free word = do
    e ← claim_at end p word.rest
    read (record { span = word.value; free = free; cond = e.value }) e.rest

  abbrev pub invariant_by : Span → ℕ → Option (Read Span) → Option (Read Span) → Possible Invariant
  invariant_by end p (Some free) word =
      there (do
        behind_free ← behind end fixed.Invariant free.rest
        condition_behind end p true behind_free)
  invariant_by end p None (Some word) = there (condition_behind end p false word)
  invariant_by end p None None = Ok None

  unfoldable pub invariant_at : Span → ℕ → List Symbol → Possible Invariant
  invariant_at end p ts = invariant_by end p (seen fixed.Free ts) (seen fixed.Invariant ts)

  abbrev pub invariant_item : Span → ℕ → ℕ → List Symbol → Possible (List Invariant)
  invariant_item end p room ts = one_there (invariant_at end p ts)

  unfoldable pub invariants_at : Span → ℕ → List Symbol → ReadResult (List Invariant)
  invariants_at end p ts = repeated (invariant_item end p) length 0 (length ts) ts

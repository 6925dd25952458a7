-- What is read as expressions, conditions and invariants is so by the grammar, and within the limits.
use Rattle.std.proofs.Common.{◌≡◌, ℕ, zero, suc, ◌-◌, true, false, List, [], ◌∷◌, ◌++◌, length, Option, None, Some, Ok, Err, IfOk, IfSome, refl, subst}
use Rattle.std.specs.List.{AllByRecursion}
use Rattle.boogie_tree.specs.declared.span.Span.{Span}
use Rattle.boogie_tree.specs.declared.level.Level.TheVariants.{Equivalence}
use Rattle.boogie_tree.specs.Tree.{Expression, Guard, Any, Cond, Invariant}
use Rattle.boogie_parse.specs.declared.symbols.Fixed.{Fixed}
use Rattle.boogie_parse.specs.declared.symbols.Fixed.TheVariants as fixed
use Rattle.boogie_parse.specs.declared.symbols.Symbol.{Symbol}
use Rattle.boogie_parse.specs.Reading.Outcomes.{Read, ReadResult}
use Rattle.boogie_parse.specs.Rules.Grammar.{Is, Reads}
use Rattle.boogie_parse.specs.Rules.GrammarLists.{ReadsExpressions, last_expression, next_expression, ReadsArguments, no_argument, arguments, ReadsGuard, either_way, condition, ReadsCondition, checked, free, ReadsInvariants, no_invariant, next_invariant}
use Rattle.boogie_parse.specs.Rules.GrammarLimits.{IsShallow, IsShallowGuard}
use Rattle.boogie_parse.specs.Reading.ListReading.{Possible, there, one_there, repeated_by, repeated, with_front, seen, behind, one, expression_at, opened, expression_item, expressions_at, arguments_at, guard_by, guard_at, claim_at, condition_behind, invariant_by, invariant_at, invariant_item, invariants_at}
use Rattle.boogie_parse.specs.Reading.ExpressionReading.{expression}
use Rattle.boogie_parse.proofs.Rules.ExpressionSound.{sound}
use Rattle.boogie_parse.proofs.Rules.ListSound.{then, Stands, seen-sound, behind-sound, separated-sound, Before, before, before-sound, Opens, opened-sound, listed-sound}

-- what holds of what stands there, if anything does
abbrev pub IfThere : {X : Type 0} → Possible X → (Read X → Type 0) → Type 0
IfThere o P = IfOk o (λ x. IfSome x P)

pub there-sound : {X : Type 0} (P : Read X → Type 0) (o : ReadResult X) → IfOk o P → IfThere (there o) P
there-sound P (Ok x) h = h
there-sound P (Err f) h = tt

-- Lists without commas: what holds of no item, and what of an item before more.
module _ {X : Type 0} (item : ℕ → List Symbol → Possible (List X)) (used : List X → ℕ) (I R : ℕ → List Symbol → List X → List Symbol → Type 0)
    (none : (n : ℕ) (ts : List Symbol) → R n ts [] ts)
    (next : (n : ℕ) (ts : List Symbol) (xs : List X) (m : List Symbol) (ys : List X) (r : List Symbol) → I n ts xs m → R (n - used xs) m ys r → R n ts (xs ++ ys) r)
    (sound : (n : ℕ) (ts : List Symbol) → IfThere (item n ts) (λ x. I n ts x.value x.rest)) where
  abbrev Are_items : ℕ → List Symbol → Read (List X) → Type 0
  Are_items n ts x = R n ts x.value x.rest

  front-sound : (n : ℕ) (ts : List Symbol) (i : Read (List X)) (o : ReadResult (List X)) → I n ts i.value i.rest → IfOk o (Are_items (n - used i.value) i.rest)
      → IfOk (with_front i.value o) (Are_items n ts)
  front-sound n ts i (Ok x) s h = next n ts i.value i.rest x.value x.rest s h
  front-sound n ts i (Err f) s h = tt

  repeated_by-sound : (n : ℕ) (ts : List Symbol) (again : List X → List Symbol → ReadResult (List X)) (o : Possible (List X)) → IfThere o (λ x. I n ts x.value x.rest)
      → ((xs : List X) (us : List Symbol) → IfOk (again xs us) (Are_items (n - used xs) us)) → IfOk (repeated_by again ts o) (Are_items n ts)
  repeated_by-sound n ts again (Ok None) i h = none n ts
  repeated_by-sound n ts again (Ok (Some x)) i h = front-sound n ts x (again x.value x.rest) i (h x.value x.rest)
  repeated_by-sound n ts again (Err f) i h = tt

  pub repeated-sound : (turns n : ℕ) (ts : List Symbol) → IfOk (repeated item used n turns ts) (Are_items n ts)
  unfolding repeated
  repeated-sound zero n ts = none n ts
  repeated-sound (suc turns) n ts = repeated_by-sound n ts _ (item n ts) (sound n ts) (λ xs us. repeated-sound turns (n - used xs) us)

-- one item as a list
pub record Alone {X : Type 0} (P : X → List Symbol → Type 0) (xs : List X) (r : List Symbol) : Type 0 where
  pub item : X
  pub list : xs ≡ item ∷ []
  pub holds : P item r

pub one-sound : {X : Type 0} (P : X → List Symbol → Type 0) (o : ReadResult X) → IfOk o (λ x. P x.value x.rest) → IfOk (one o) (λ x. Alone P x.value x.rest)
one-sound P (Ok x) h = record { item = x.value; list = refl; holds = h }
one-sound P (Err f) h = tt

pub one_there-sound : {X : Type 0} (P : X → List Symbol → Type 0) (o : Possible X) → IfThere o (λ x. P x.value x.rest) → IfThere (one_there o) (λ x. Alone P x.value x.rest)
one_there-sound P (Ok None) h = tt
one_there-sound P (Ok (Some x)) h = record { item = x.value; list = refl; holds = h }
one_there-sound P (Err f) h = tt

-- an expression by the grammar, within the limit on its depth
abbrev pub IsExpressionRead : ℕ → List Symbol → Expression → List Symbol → Type 0
IsExpressionRead p ts e r = Reads p Equivalence ts e r × IsShallow e

abbrev pub AreExpressions : ℕ → List Symbol → List Expression → List Symbol → Type 0
AreExpressions p ts es r = ReadsExpressions p ts es r × AllByRecursion IsShallow es

abbrev OneExpression : ℕ → ℕ → List Symbol → List Expression → List Symbol → Type 0
OneExpression p n ts es r = Alone (IsExpressionRead p ts) es r

last_of_expressions : (p n : ℕ) (ts : List Symbol) (es : List Expression) (r : List Symbol) → OneExpression p n ts es r → AreExpressions p ts es r
last_of_expressions p n ts es r i = rw i.list (last_expression i.holds.0, (i.holds.1, tt))

next_of_expressions : (p n : ℕ) (ts : List Symbol) (es : List Expression) (u : Symbol) (m : List Symbol) (fs : List Expression) (r : List Symbol)
    → OneExpression p n ts es (u ∷ m) → Is u fixed.Comma → AreExpressions p m fs r → AreExpressions p ts (es ++ fs) r
next_of_expressions p n ts es u m fs r i c h = rw i.list (next_expression u i.holds.0 c h.0, (i.holds.1, h.1))

empty_arguments : (p q : ℕ) (ts m r : List Symbol) (u : Symbol) (here : Span) → p ≡ suc q → Is u fixed.OpenParenthesis → ts ≡ u ∷ m
    → Stands fixed.CloseParenthesis m (record { value = here; rest = r }) → ReadsArguments p ts [] r × Unit {0}
empty_arguments p q ts m r u here room is all s = rw (room, all, s.all) (no_argument u s.symbol is s.is, tt)

abbrev pub AreArguments : ℕ → List Symbol → List Expression → List Symbol → Type 0
AreArguments p ts es r = ReadsArguments p ts es r × AllByRecursion IsShallow es

some_arguments : (p q : ℕ) (ts m r : List Symbol) (u : Symbol) (es : List Expression) → p ≡ suc q → Is u fixed.OpenParenthesis → ts ≡ u ∷ m
    → Before (AreExpressions q m) fixed.CloseParenthesis (record { value = es; rest = r }) → AreArguments p ts es r
some_arguments p q ts m r u es room is all b = rw (room, all) (arguments u b.symbol is b.spelled.0 b.is, b.spelled.1)

abbrev pub IsGuardRead : ℕ → List Symbol → Guard → List Symbol → Type 0
IsGuardRead p ts g r = ReadsGuard p ts g r × IsShallowGuard g

any_guard : (p q : ℕ) (ts m n r : List Symbol) (u : Symbol) (here there : Span) → p ≡ suc q → Is u fixed.OpenParenthesis → ts ≡ u ∷ m
    → Stands fixed.Star m (record { value = here; rest = n }) → Stands fixed.CloseParenthesis n (record { value = there; rest = r }) → IsGuardRead p ts Any r
any_guard p q ts m n r u here there room is all s c = rw (room, all, s.all, c.all) (either_way u s.symbol c.symbol is s.is c.is, tt)

condition_guard : (p q : ℕ) (ts m r : List Symbol) (u : Symbol) (e : Expression) → p ≡ suc q → Is u fixed.OpenParenthesis → ts ≡ u ∷ m
    → Before (IsExpressionRead q m) fixed.CloseParenthesis (record { value = e; rest = r }) → IsGuardRead p ts (Cond e) r
condition_guard p q ts m r u e room is all b = rw (room, all) (condition u b.symbol is b.spelled.0 b.is, b.spelled.1)

abbrev pub IsConditionRead : ℕ → Fixed → List Symbol → Invariant → List Symbol → Type 0
IsConditionRead p f ts i r = ReadsCondition p f ts i r × IsShallow i.cond

-- a condition that is not free
plain_condition : (p : ℕ) (f : Fixed) (ts : List Symbol) (word : Read Span) (e : Read Expression) → Stands f ts word → Before (IsExpressionRead p word.rest) fixed.Semicolon e
    → IsConditionRead p f ts (record { span = word.value; free = false; cond = e.value }) e.rest
plain_condition p f ts word e s b =
    let spelled : ReadsCondition p f (s.symbol ∷ word.rest) (record { span = s.symbol.span; free = false; cond = e.value }) e.rest = checked s.symbol b.symbol s.is b.spelled.0 b.is in
    let placed : ReadsCondition p f (s.symbol ∷ word.rest) (record { span = word.value; free = false; cond = e.value }) e.rest = subst (λ (w : Span). ReadsCondition p f (s.symbol ∷ word.rest) (record { span = w; free = false; cond = e.value }) e.rest) s.here spelled in
    (rw s.all placed, b.spelled.1)

free_condition : (p : ℕ) (f : Fixed) (ts : List Symbol) (first word : Read Span) (e : Read Expression) → Stands fixed.Free ts first → Stands f first.rest word
    → Before (IsExpressionRead p word.rest) fixed.Semicolon e → IsConditionRead p f ts (record { span = word.value; free = true; cond = e.value }) e.rest
free_condition p f ts first word e a s b =
    let spelled : ReadsCondition p f (a.symbol ∷ s.symbol ∷ word.rest) (record { span = s.symbol.span; free = true; cond = e.value }) e.rest = free a.symbol s.symbol b.symbol a.is s.is b.spelled.0 b.is in
    let placed : ReadsCondition p f (a.symbol ∷ s.symbol ∷ word.rest) (record { span = word.value; free = true; cond = e.value }) e.rest =
    subst (λ (w : Span). ReadsCondition p f (a.symbol ∷ s.symbol ∷ word.rest) (record { span = w; free = true; cond = e.value }) e.rest) s.here spelled in
    (rw (a.all, s.all) placed, b.spelled.1)

abbrev pub AreInvariants : ℕ → List Symbol → List Invariant → List Symbol → Type 0
AreInvariants p ts is r = ReadsInvariants p ts is r × AllByRecursion (λ (i : Invariant). IsShallow i.cond) is

next_of_invariants : (p n : ℕ) (ts : List Symbol) (xs : List Invariant) (m : List Symbol) (ys : List Invariant) (r : List Symbol)
    → Alone (IsConditionRead p fixed.Invariant ts) xs m → AreInvariants p m ys r → AreInvariants p ts (xs ++ ys) r
next_of_invariants p n ts xs m ys r i h = rw i.list (next_invariant i.holds.0 h.0, (i.holds.1, h.1))

module _ (reads : ℕ → List Symbol → ReadResult Expression) (end : Span)
    (reads-sound : (p : ℕ) (ts : List Symbol) → IfOk (reads p ts) (λ x. IsExpressionRead p ts x.value x.rest)) where
  pub expressions-sound : (p : ℕ) (ts : List Symbol) → IfOk (expressions_at reads end p ts) (λ x. AreExpressions p ts x.value x.rest)
  unfolding expressions_at
  expressions-sound p ts =
      separated-sound (expression_item reads p) (OneExpression p) (λ n. AreExpressions p) (last_of_expressions p) (next_of_expressions p)
      (λ n us. one-sound (IsExpressionRead p us) (reads p us) (reads-sound p us)) end (length ts) 0 ts

  pub arguments-sound : (p : ℕ) (ts : List Symbol) → IfOk (arguments_at reads end p ts) (λ x. AreArguments p ts x.value x.rest)
  unfolding arguments_at
  arguments-sound p ts =
      then (Opens fixed.OpenParenthesis p ts) (λ x. AreArguments p ts x.value x.rest) (opened end fixed.OpenParenthesis p ts) _ (opened-sound end fixed.OpenParenthesis p ts) (λ inner o.
      listed-sound (AreExpressions inner.value inner.rest) (AreArguments p ts) end (expressions_at reads end inner.value) inner.rest (seen fixed.CloseParenthesis inner.rest) (seen-sound fixed.CloseParenthesis inner.rest) (expressions-sound inner.value inner.rest)
      (λ r s. empty_arguments p inner.value ts inner.rest r.rest o.symbol r.value o.room o.is o.all s)
      (λ x b. some_arguments p inner.value ts inner.rest x.rest o.symbol x.value o.room o.is o.all b))

  guard_by-sound : (p : ℕ) (ts : List Symbol) (inner : Read ℕ) → Opens fixed.OpenParenthesis p ts inner → (o : Option (Read Span)) → IfSome o (Stands fixed.Star inner.rest)
      → IfOk (guard_by reads end inner.value inner.rest o) (λ x. IsGuardRead p ts x.value x.rest)
  guard_by-sound p ts inner o (Some star) s =
      then (Stands fixed.CloseParenthesis star.rest) (λ x. IsGuardRead p ts x.value x.rest) (behind end fixed.CloseParenthesis star.rest) _ (behind-sound end fixed.CloseParenthesis star.rest) (λ r c.
      any_guard p inner.value ts inner.rest star.rest r.rest o.symbol star.value r.value o.room o.is o.all s c)
  guard_by-sound p ts inner o None s =
      then (λ (x : Read Expression). IsExpressionRead inner.value inner.rest x.value x.rest) (λ x. IsGuardRead p ts x.value x.rest) (reads inner.value inner.rest) _ (reads-sound inner.value inner.rest) (λ e h.
      then (Stands fixed.CloseParenthesis e.rest) (λ x. IsGuardRead p ts x.value x.rest) (behind end fixed.CloseParenthesis e.rest) _ (behind-sound end fixed.CloseParenthesis e.rest) (λ r c.
      condition_guard p inner.value ts inner.rest r.rest o.symbol e.value o.room o.is o.all (before (IsExpressionRead inner.value inner.rest) fixed.CloseParenthesis e.value e.rest r h c)))

  pub guard-sound : (p : ℕ) (ts : List Symbol) → IfOk (guard_at reads end p ts) (λ x. IsGuardRead p ts x.value x.rest)
  unfolding guard_at
  guard-sound p ts =
      then (Opens fixed.OpenParenthesis p ts) (λ x. IsGuardRead p ts x.value x.rest) (opened end fixed.OpenParenthesis p ts) _ (opened-sound end fixed.OpenParenthesis p ts) (λ inner o.
      guard_by-sound p ts inner o (seen fixed.Star inner.rest) (seen-sound fixed.Star inner.rest))

  pub claim-sound : (p : ℕ) (ts : List Symbol) → IfOk (claim_at reads end p ts) (Before (IsExpressionRead p ts) fixed.Semicolon)
  unfolding claim_at
  claim-sound p ts =
      then (λ (x : Read Expression). IsExpressionRead p ts x.value x.rest) (Before (IsExpressionRead p ts) fixed.Semicolon) (reads p ts) _ (reads-sound p ts) (λ e h.
      before-sound (IsExpressionRead p ts) end fixed.Semicolon e.value e.rest h)

  pub plain-sound : (p : ℕ) (f : Fixed) (ts : List Symbol) (word : Read Span) → Stands f ts word → IfOk (condition_behind reads end p false word) (λ x. IsConditionRead p f ts x.value x.rest)
  unfolding condition_behind
  plain-sound p f ts word s =
      then (Before (IsExpressionRead p word.rest) fixed.Semicolon) (λ x. IsConditionRead p f ts x.value x.rest) (claim_at reads end p word.rest) _ (claim-sound p word.rest) (λ e b.
      plain_condition p f ts word e s b)

  pub free-sound : (p : ℕ) (f : Fixed) (ts : List Symbol) (first word : Read Span) → Stands fixed.Free ts first → Stands f first.rest word
      → IfOk (condition_behind reads end p true word) (λ x. IsConditionRead p f ts x.value x.rest)
  unfolding condition_behind
  free-sound p f ts first word a s =
      then (Before (IsExpressionRead p word.rest) fixed.Semicolon) (λ x. IsConditionRead p f ts x.value x.rest) (claim_at reads end p word.rest) _ (claim-sound p word.rest) (λ e b.
      free_condition p f ts first word e a s b)

  invariant_by-sound : (p : ℕ) (ts : List Symbol) (a b : Option (Read Span)) → IfSome a (Stands fixed.Free ts) → IfSome b (Stands fixed.Invariant ts)
      → IfThere (invariant_by reads end p a b) (λ x. IsConditionRead p fixed.Invariant ts x.value x.rest)
  invariant_by-sound p ts (Some first) b s w =
      there-sound (λ x. IsConditionRead p fixed.Invariant ts x.value x.rest) _
      (then (Stands fixed.Invariant first.rest) (λ x. IsConditionRead p fixed.Invariant ts x.value x.rest) (behind end fixed.Invariant first.rest) _ (behind-sound end fixed.Invariant first.rest) (λ word t.
      free-sound p fixed.Invariant ts first word s t))
  invariant_by-sound p ts None (Some word) s w = there-sound (λ x. IsConditionRead p fixed.Invariant ts x.value x.rest) _ (plain-sound p fixed.Invariant ts word w)
  invariant_by-sound p ts None None s w = tt

  pub invariant-sound : (p : ℕ) (ts : List Symbol) → IfThere (invariant_at reads end p ts) (λ x. IsConditionRead p fixed.Invariant ts x.value x.rest)
  unfolding invariant_at
  invariant-sound p ts = invariant_by-sound p ts (seen fixed.Free ts) (seen fixed.Invariant ts) (seen-sound fixed.Free ts) (seen-sound fixed.Invariant ts)

  pub invariants-sound : (p : ℕ) (ts : List Symbol) → IfOk (invariants_at reads end p ts) (λ x. AreInvariants p ts x.value x.rest)
  unfolding invariants_at
  invariants-sound p ts =
      repeated-sound (invariant_item reads end p) length (λ n us. Alone (IsConditionRead p fixed.Invariant us)) (λ n. AreInvariants p) (λ n us. (no_invariant, tt)) (next_of_invariants p)
      (λ n us. one_there-sound (IsConditionRead p fixed.Invariant us) (invariant_at reads end p us) (invariant-sound p us)) (length ts) 0 ts

if_sound : (p : ℕ) (ts : List Symbol) (o : ReadResult Expression) → ((x : Read Expression) → o ≡ Ok x → IsExpressionRead p ts x.value x.rest) → IfOk o (λ x. IsExpressionRead p ts x.value x.rest)
if_sound p ts (Ok x) h = h x refl
if_sound p ts (Err f) h = tt

pub expression_at-sound : (end : Span) (p : ℕ) (ts : List Symbol) → IfOk (expression_at end p ts) (λ x. IsExpressionRead p ts x.value x.rest)
unfolding expression_at
expression_at-sound end p ts = if_sound p ts (expression end p 200 ts) (sound end p 200 ts)

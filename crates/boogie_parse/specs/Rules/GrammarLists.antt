-- The grammar of lists: names, expressions, variables with their types, parameters and conditions.
use Rattle.std.specs.Prelude.{◌≡◌, ℕ, suc, true, false, List, [], ◌∷◌, ◌++◌, Option, None, Some, map}
use Rattle.boogie_tree.specs.declared.level.Level.TheVariants.{Equivalence}
use Rattle.boogie_tree.specs.declared.tree.Name.{Name}
use Rattle.boogie_tree.specs.declared.tree.Ty.{Ty}
use Rattle.boogie_tree.specs.declared.tree.Ty.TheVariants as types
use Rattle.boogie_tree.specs.declared.tree.Vary.{Vary}
use Rattle.boogie_tree.specs.Tree.{Expression, Guard, Any, Cond, Invariant}
use Rattle.boogie_parse.specs.declared.symbols.Fixed.{Fixed}
use Rattle.boogie_parse.specs.declared.symbols.Fixed.TheVariants as fixed
use Rattle.boogie_parse.specs.declared.symbols.Sign.TheVariants as signs
use Rattle.boogie_parse.specs.declared.symbols.Symbol.{Symbol}
use Rattle.boogie_parse.specs.Rules.Grammar.{Is, Reads}

-- the symbol is the name x, where x stands
pub record IsName (t : Symbol) (x : Name) : Type 0 where
  pub sign : t.sign ≡ signs.Name x.text
  pub span : t.span ≡ x.span

-- names with commas between them
pub data ReadsNames : List Symbol → List Name → List Symbol → Type 0 where
  last_name : {r : List Symbol} {x : Name} (t : Symbol) → IsName t x → ReadsNames (t ∷ r) (x ∷ []) r
  next_name : {m r : List Symbol} {x : Name} {xs : List Name} (t u : Symbol) →
      IsName t x → Is u fixed.Comma → ReadsNames m xs r → ReadsNames (t ∷ u ∷ m) (x ∷ xs) r

-- expressions with commas between them
pub data ReadsExpressions : ℕ → List Symbol → List Expression → List Symbol → Type 0 where
  last_expression : {p : ℕ} {ts r : List Symbol} {e : Expression} → Reads p Equivalence ts e r → ReadsExpressions p ts (e ∷ []) r
  next_expression : {p : ℕ} {ts m r : List Symbol} {e : Expression} {es : List Expression} (u : Symbol) →
      Reads p Equivalence ts e (u ∷ m) → Is u fixed.Comma → ReadsExpressions p m es r → ReadsExpressions p ts (e ∷ es) r

-- the arguments of a call, in parentheses
pub data ReadsArguments : ℕ → List Symbol → List Expression → List Symbol → Type 0 where
  no_argument : {p : ℕ} {r : List Symbol} (u v : Symbol) → Is u fixed.OpenParenthesis → Is v fixed.CloseParenthesis → ReadsArguments (suc p) (u ∷ v ∷ r) [] r
  arguments : {p : ℕ} {ts r : List Symbol} {es : List Expression} (u v : Symbol) →
      Is u fixed.OpenParenthesis → ReadsExpressions p ts es (v ∷ r) → Is v fixed.CloseParenthesis → ReadsArguments (suc p) (u ∷ ts) es r

-- the guard of a branch or a loop, in parentheses
pub data ReadsGuard : ℕ → List Symbol → Guard → List Symbol → Type 0 where
  either_way : {p : ℕ} {r : List Symbol} (u t v : Symbol) →
      Is u fixed.OpenParenthesis → Is t fixed.Star → Is v fixed.CloseParenthesis → ReadsGuard (suc p) (u ∷ t ∷ v ∷ r) Any r
  condition : {p : ℕ} {ts r : List Symbol} {e : Expression} (u v : Symbol) →
      Is u fixed.OpenParenthesis → Reads p Equivalence ts e (v ∷ r) → Is v fixed.CloseParenthesis → ReadsGuard (suc p) (u ∷ ts) (Cond e) r

-- a condition behind that word, up to its semicolon
pub data ReadsCondition : ℕ → Fixed → List Symbol → Invariant → List Symbol → Type 0 where
  checked : {p : ℕ} {f : Fixed} {ts r : List Symbol} {e : Expression} (t u : Symbol) →
      Is t f → Reads p Equivalence ts e (u ∷ r) → Is u fixed.Semicolon →
      ReadsCondition p f (t ∷ ts) (record { span = t.span; free = false; cond = e }) r
  free : {p : ℕ} {f : Fixed} {ts r : List Symbol} {e : Expression} (s t u : Symbol) →
      Is s fixed.Free → Is t f → Reads p Equivalence ts e (u ∷ r) → Is u fixed.Semicolon →
      ReadsCondition p f (s ∷ t ∷ ts) (record { span = t.span; free = true; cond = e }) r

pub data ReadsInvariants : ℕ → List Symbol → List Invariant → List Symbol → Type 0 where
  no_invariant : {p : ℕ} {r : List Symbol} → ReadsInvariants p r [] r
  next_invariant : {p : ℕ} {ts m r : List Symbol} {i : Invariant} {is : List Invariant} →
      ReadsCondition p fixed.Invariant ts i m → ReadsInvariants p m is r → ReadsInvariants p ts (i ∷ is) r

abbrev pub type_named : Fixed → Option Ty
type_named fixed.Int = Some types.Int
type_named fixed.Bool = Some types.Bool
type_named f = None

abbrev pub of_type : Ty → List Name → List Vary
of_type ty xs = map (λ x. record { name = x; ty = ty }) xs

-- names of one type, and groups of them with commas between them: each name is a variable of its own
pub data ReadsGroup : List Symbol → List Vary → List Symbol → Type 0 where
  group : {ts r : List Symbol} {xs : List Name} {f : Fixed} {ty : Ty} (t u : Symbol) →
      ReadsNames ts xs (t ∷ u ∷ r) → Is t fixed.Colon → Is u f → type_named f ≡ Some ty → ReadsGroup ts (of_type ty xs) r

pub data ReadsVariables : List Symbol → List Vary → List Symbol → Type 0 where
  last_group : {ts r : List Symbol} {vs : List Vary} → ReadsGroup ts vs r → ReadsVariables ts vs r
  next_group : {ts m r : List Symbol} {vs ws : List Vary} (u : Symbol) →
      ReadsGroup ts vs (u ∷ m) → Is u fixed.Comma → ReadsVariables m ws r → ReadsVariables ts (vs ++ ws) r

-- variables behind that word, up to their semicolon
pub data ReadsDeclared : Fixed → List Symbol → List Vary → List Symbol → Type 0 where
  declared : {f : Fixed} {ts r : List Symbol} {vs : List Vary} (t u : Symbol) →
      Is t f → ReadsVariables ts vs (u ∷ r) → Is u fixed.Semicolon → ReadsDeclared f (t ∷ ts) vs r

-- parameters or results, in parentheses
pub data ReadsFormals : ℕ → List Symbol → List Vary → List Symbol → Type 0 where
  no_formal : {p : ℕ} {r : List Symbol} (u v : Symbol) → Is u fixed.OpenParenthesis → Is v fixed.CloseParenthesis → ReadsFormals (suc p) (u ∷ v ∷ r) [] r
  formals : {p : ℕ} {ts r : List Symbol} {vs : List Vary} (u v : Symbol) →
      Is u fixed.OpenParenthesis → ReadsVariables ts vs (v ∷ r) → Is v fixed.CloseParenthesis → ReadsFormals (suc p) (u ∷ ts) vs r

pub data ReadsResults : ℕ → List Symbol → List Vary → List Symbol → Type 0 where
  no_result : {p : ℕ} {r : List Symbol} → ReadsResults p r [] r
  results : {p : ℕ} {ts r : List Symbol} {vs : List Vary} (t : Symbol) → Is t fixed.Returns → ReadsFormals p ts vs r → ReadsResults p (t ∷ ts) vs r

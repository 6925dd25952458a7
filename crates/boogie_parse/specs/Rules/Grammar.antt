-- The grammar of expressions: which symbols are which expression. `Reads p level ts e rest` says that the symbols ts begin with the
-- expression e of that level, that `rest` follows it, and that no more than p parentheses are open in it at once.
use Rattle.std.specs.Prelude.{◌≡◌, ℕ, suc, Bool, true, false, List, [], ◌∷◌, Option, None, Some}
use Rattle.boogie_tree.specs.declared.span.Span.{Span}
use Rattle.boogie_tree.specs.declared.level.Level.{Level}
use Rattle.boogie_tree.specs.declared.level.Level.TheVariants.{Equivalence, Implication, Junction, Conjunction, Disjunction, Comparison, Sum, Product, Unary, Primary}
use Rattle.boogie_tree.specs.declared.tree.Op.{Op}
use Rattle.boogie_tree.specs.declared.tree.Op.TheVariants as op
use Rattle.boogie_tree.specs.Levels.{right_of}
use Rattle.boogie_tree.specs.Tree.{Expression, Lit, Truth, Var, Old, Not, Neg, Bin}
use Rattle.boogie_tree.specs.Places.{beginning}
use Rattle.boogie_parse.specs.declared.symbols.Fixed.{Fixed}
use Rattle.boogie_parse.specs.declared.symbols.Fixed.TheVariants as fixed
use Rattle.boogie_parse.specs.declared.symbols.Sign.TheVariants as signs
use Rattle.boogie_parse.specs.declared.symbols.Symbol.{Symbol}

-- the symbol is that fixed word or mark
abbrev pub Is : Symbol → Fixed → Type 0
Is t f = t.sign ≡ signs.Fixed f

-- the place of the first symbol
abbrev pub symbols_place : List Symbol → Span
symbols_place [] = beginning
symbols_place (t ∷ ts) = t.span

-- which operator carries a chain of that level on: these chains group to the left
abbrev pub links : Level → Fixed → Option Op
links Equivalence fixed.Iff = Some op.Iff
links Conjunction fixed.And = Some op.And
links Disjunction fixed.Or = Some op.Or
links Sum fixed.Plus = Some op.Add
links Sum fixed.Minus = Some op.Sub
links Product fixed.Star = Some op.Mul
links Product fixed.Div = Some op.Div
links Product fixed.Mod = Some op.Mod
links level f = None

-- comparisons make no chain
abbrev pub compares : Fixed → Option Op
compares fixed.Equal = Some op.Eq
compares fixed.Unequal = Some op.Ne
compares fixed.Less = Some op.Lt
compares fixed.AtMost = Some op.Le
compares fixed.Greater = Some op.Gt
compares fixed.AtLeast = Some op.Ge
compares f = None

-- the levels whose expressions are chains
abbrev pub is_chain : Level → Bool
is_chain Equivalence = true
is_chain Conjunction = true
is_chain Disjunction = true
is_chain Sum = true
is_chain Product = true
is_chain level = false

pub data Reads : ℕ → Level → List Symbol → Expression → List Symbol → Type 0 where
  -- chains
  one : {p : ℕ} {l : Level} {ts r : List Symbol} {e : Expression} → is_chain l ≡ true → Reads p (right_of l) ts e r → Reads p l ts e r
  more : {p : ℕ} {l : Level} {ts m r : List Symbol} {a b : Expression} {f : Fixed} {o : Op} (t : Symbol) →
      Reads p l ts a (t ∷ m) → Is t f → links l f ≡ Some o → Reads p (right_of l) m b r → Reads p l ts (Bin (symbols_place ts) o a b) r
  -- `==>` groups to the right
  unimplied : {p : ℕ} {ts r : List Symbol} {e : Expression} → Reads p Junction ts e r → Reads p Implication ts e r
  implied : {p : ℕ} {ts m r : List Symbol} {a b : Expression} (t : Symbol) →
      Reads p Junction ts a (t ∷ m) → Is t fixed.Implies → Reads p Implication m b r → Reads p Implication ts (Bin (symbols_place ts) op.Implies a b) r
  -- `&&` and `||` do not mix
  conjoined : {p : ℕ} {ts r : List Symbol} {e : Expression} → Reads p Conjunction ts e r → Reads p Junction ts e r
  disjoined : {p : ℕ} {ts r : List Symbol} {e : Expression} → Reads p Disjunction ts e r → Reads p Junction ts e r
  -- comparisons
  uncompared : {p : ℕ} {ts r : List Symbol} {e : Expression} → Reads p Sum ts e r → Reads p Comparison ts e r
  compared : {p : ℕ} {ts m r : List Symbol} {a b : Expression} {f : Fixed} {o : Op} (t : Symbol) →
      Reads p Sum ts a (t ∷ m) → Is t f → compares f ≡ Some o → Reads p Sum m b r → Reads p Comparison ts (Bin (symbols_place ts) o a b) r
  -- `!` and unary `-`
  unsigned : {p : ℕ} {ts r : List Symbol} {e : Expression} → Reads p Primary ts e r → Reads p Unary ts e r
  negated : {p : ℕ} {ts r : List Symbol} {e : Expression} (t : Symbol) → Is t fixed.Minus → Reads p Unary ts e r → Reads p Unary (t ∷ ts) (Neg t.span e) r
  denied : {p : ℕ} {ts r : List Symbol} {e : Expression} (t : Symbol) → Is t fixed.Not → Reads p Unary ts e r → Reads p Unary (t ∷ ts) (Not t.span e) r
  -- the smallest parts
  number : {p : ℕ} {r : List Symbol} {n : _} (t : Symbol) → t.sign ≡ signs.Number n → Reads p Primary (t ∷ r) (Lit t.span n) r
  true_word : {p : ℕ} {r : List Symbol} (t : Symbol) → Is t fixed.True → Reads p Primary (t ∷ r) (Truth t.span true) r
  false_word : {p : ℕ} {r : List Symbol} (t : Symbol) → Is t fixed.False → Reads p Primary (t ∷ r) (Truth t.span false) r
  name : {p : ℕ} {r : List Symbol} {x : List ℕ} (t : Symbol) → t.sign ≡ signs.Name x → Reads p Primary (t ∷ r) (Var t.span (record { span = t.span; text = x })) r
  old_value : {p : ℕ} {ts r : List Symbol} {e : Expression} (t u v : Symbol) →
      Is t fixed.Old → Is u fixed.OpenParenthesis → Reads p Equivalence ts e (v ∷ r) → Is v fixed.CloseParenthesis →
      Reads (suc p) Primary (t ∷ u ∷ ts) (Old t.span e) r
  grouped : {p : ℕ} {ts r : List Symbol} {e : Expression} (u v : Symbol) →
      Is u fixed.OpenParenthesis → Reads p Equivalence ts e (v ∷ r) → Is v fixed.CloseParenthesis → Reads (suc p) Primary (u ∷ ts) e r

-- The grammar of statements: no more than p parentheses and b blocks are open in one at once. `else if` and `else {` open one block each.
use Rattle.std.specs.Prelude.{ℕ, suc, List, [], ◌∷◌, None, Some}
use Rattle.boogie_tree.specs.declared.level.Level.TheVariants.{Equivalence}
use Rattle.boogie_tree.specs.declared.tree.Name.{Name}
use Rattle.boogie_tree.specs.Tree.{Expression, Guard, Invariant, Statement, Assert, Assume, Havoc, Assign, Call, If, While, Break, Goto, Return, Label, Block, Empty, Then}
use Rattle.boogie_parse.specs.declared.symbols.Fixed.TheVariants as fixed
use Rattle.boogie_parse.specs.declared.symbols.Symbol.{Symbol}
use Rattle.boogie_parse.specs.Rules.Grammar.{Is, symbols_place, Reads}
use Rattle.boogie_parse.specs.Rules.GrammarLists.{IsName, ReadsNames, ReadsExpressions, ReadsArguments, ReadsGuard, ReadsInvariants}

mutual
  pub data ReadsStatement : ℕ → ℕ → List Symbol → Statement → List Symbol → Type 0 where
    asserts : {p b : ℕ} {ts r : List Symbol} {e : Expression} (t u : Symbol) →
        Is t fixed.Assert → Reads p Equivalence ts e (u ∷ r) → Is u fixed.Semicolon → ReadsStatement p b (t ∷ ts) (Assert t.span e) r
    assumes : {p b : ℕ} {ts r : List Symbol} {e : Expression} (t u : Symbol) →
        Is t fixed.Assume → Reads p Equivalence ts e (u ∷ r) → Is u fixed.Semicolon → ReadsStatement p b (t ∷ ts) (Assume t.span e) r
    havocs : {p b : ℕ} {ts r : List Symbol} {xs : List Name} (t u : Symbol) →
        Is t fixed.Havoc → ReadsNames ts xs (u ∷ r) → Is u fixed.Semicolon → ReadsStatement p b (t ∷ ts) (Havoc t.span xs) r
    assigns : {p b : ℕ} {ts m r : List Symbol} {xs : List Name} {es : List Expression} (t u : Symbol) →
        ReadsNames ts xs (t ∷ m) → Is t fixed.Becomes → ReadsExpressions p m es (u ∷ r) → Is u fixed.Semicolon →
        ReadsStatement p b ts (Assign (symbols_place ts) xs es) r
    calls : {p b : ℕ} {ts r : List Symbol} {f : Name} {es : List Expression} (t n u : Symbol) →
        Is t fixed.Call → IsName n f → ReadsArguments p ts es (u ∷ r) → Is u fixed.Semicolon →
        ReadsStatement p b (t ∷ n ∷ ts) (Call t.span [] f es) r
    calls_into : {p b : ℕ} {ts m r : List Symbol} {xs : List Name} {f : Name} {es : List Expression} (t c n u : Symbol) →
        Is t fixed.Call → ReadsNames ts xs (c ∷ n ∷ m) → Is c fixed.Becomes → IsName n f → ReadsArguments p m es (u ∷ r) → Is u fixed.Semicolon →
        ReadsStatement p b (t ∷ ts) (Call t.span xs f es) r
    branches : {p b : ℕ} {ts r : List Symbol} {s : Statement} → ReadsIf p b ts s r → ReadsStatement p b ts s r
    loops : {p b : ℕ} {ts m n r : List Symbol} {g : Guard} {is : List Invariant} {x : Block} (t : Symbol) →
        Is t fixed.While → ReadsGuard p ts g m → ReadsInvariants p m is n → ReadsBlock p b n x r → ReadsStatement p b (t ∷ ts) (While t.span g is x) r
    breaks : {p b : ℕ} {r : List Symbol} (t u : Symbol) → Is t fixed.Break → Is u fixed.Semicolon → ReadsStatement p b (t ∷ u ∷ r) (Break t.span None) r
    breaks_from : {p b : ℕ} {r : List Symbol} {x : Name} (t n u : Symbol) →
        Is t fixed.Break → IsName n x → Is u fixed.Semicolon → ReadsStatement p b (t ∷ n ∷ u ∷ r) (Break t.span (Some x)) r
    goes_to : {p b : ℕ} {ts r : List Symbol} {xs : List Name} (t u : Symbol) →
        Is t fixed.Goto → ReadsNames ts xs (u ∷ r) → Is u fixed.Semicolon → ReadsStatement p b (t ∷ ts) (Goto t.span xs) r
    returns : {p b : ℕ} {r : List Symbol} (t u : Symbol) → Is t fixed.Return → Is u fixed.Semicolon → ReadsStatement p b (t ∷ u ∷ r) (Return t.span) r
    labels : {p b : ℕ} {r : List Symbol} {x : Name} (n u : Symbol) → IsName n x → Is u fixed.Colon → ReadsStatement p b (n ∷ u ∷ r) (Label x) r

  pub data ReadsIf : ℕ → ℕ → List Symbol → Statement → List Symbol → Type 0 where
    without_else : {p b : ℕ} {ts m r : List Symbol} {g : Guard} {x : Block} (t : Symbol) →
        Is t fixed.If → ReadsGuard p ts g m → ReadsBlock p b m x r → ReadsIf p b (t ∷ ts) (If t.span g x Empty) r
    with_else : {p b : ℕ} {ts m n r : List Symbol} {g : Guard} {x y : Block} (t u : Symbol) →
        Is t fixed.If → ReadsGuard p ts g m → ReadsBlock p b m x (u ∷ n) → Is u fixed.Else → ReadsBlock p b n y r →
        ReadsIf p b (t ∷ ts) (If t.span g x y) r
    with_else_if : {p b : ℕ} {ts m n r : List Symbol} {g : Guard} {x : Block} {s : Statement} (t u : Symbol) →
        Is t fixed.If → ReadsGuard p ts g m → ReadsBlock p (suc b) m x (u ∷ n) → Is u fixed.Else → ReadsIf p b n s r →
        ReadsIf p (suc b) (t ∷ ts) (If t.span g x (Then s Empty)) r

  pub data ReadsBlock : ℕ → ℕ → List Symbol → Block → List Symbol → Type 0 where
    block : {p b : ℕ} {ts r : List Symbol} {x : Block} (u v : Symbol) →
        Is u fixed.OpenBrace → ReadsList p b ts x (v ∷ r) → Is v fixed.CloseBrace → ReadsBlock p (suc b) (u ∷ ts) x r

  pub data ReadsList : ℕ → ℕ → List Symbol → Block → List Symbol → Type 0 where
    no_statement : {p b : ℕ} {r : List Symbol} → ReadsList p b r Empty r
    next_statement : {p b : ℕ} {ts m r : List Symbol} {s : Statement} {x : Block} →
        ReadsStatement p b ts s m → ReadsList p b m x r → ReadsList p b ts (Then s x) r

-- Syntax is a fault only where the text is not in the grammar, whatever the limits: with more room what is refused as no syntax stays refused, and
-- what is in the grammar is read.
use Rattle.std.proofs.Common.{◌≡◌, ℕ, ◌+◌, ◌<◌, ◌≤◌, List, [], ◌∷◌, length, Option, None, Some, Result, Ok, Err, map, refl, ap, sym, subst, ◌∙◌, arith}
use Rattle.std.specs.List.{AllByRecursion}
use Rattle.boogie_tree.specs.declared.span.Span.{Span}
use Rattle.boogie_tree.specs.declared.level.Level.{Level}
use Rattle.boogie_tree.specs.declared.level.Level.TheVariants.{Equivalence}
use Rattle.boogie_tree.specs.Tree.{Expression, Guard, Any, Cond, Invariant, Statement, Assert, Assume, Havoc, Assign, Call, If, While, Break, Goto, Return, Label, Block, Empty, Then, Specification, Requires, Ensures, Modifies, ProcedureBody, Procedure, Declaration, Const, Global, Axiom, Declares, Implements}
use Rattle.boogie_parse.specs.declared.fault.Fault.{Fault}
use Rattle.boogie_parse.specs.declared.fault.Fault.TheVariants as faults
use Rattle.boogie_parse.specs.declared.fault.Which.{Which}
use Rattle.boogie_parse.specs.declared.fault.Which.TheVariants as limits
use Rattle.boogie_parse.specs.declared.lexer.token.Token.{Token}
use Rattle.boogie_parse.specs.declared.symbols.Symbol.{Symbol}
use Rattle.boogie_parse.specs.Reading.Outcomes.{ReadResult}
use Rattle.boogie_parse.specs.Lexing.Lexed.{lexed}
use Rattle.boogie_parse.specs.Lexing.Symbols.{symbol}
use Rattle.boogie_parse.specs.Rules.Grammar.{Reads, one, more, unimplied, implied, conjoined, disjoined, uncompared, compared, unsigned, negated, denied, number, true_word, false_word, name, old_value, grouped}
use Rattle.boogie_parse.specs.Rules.GrammarProgram.{ReadsProgram, joined_groups}
use Rattle.boogie_parse.specs.Rules.GrammarLimits.{depth, EachOfGuard, EachOfStatement, EachOfBlock, EachOfSpecification, EachOfBody, EachOfProcedure, EachOfDeclaration, variables_counted, procedures_counted}
use Rattle.boogie_parse.specs.Reading.ExpressionReading.{expression}
use Rattle.boogie_parse.specs.Ties.ExpressionLaws.{Ends}
use Rattle.boogie_parse.specs.Reading.ListReading.{read, expression_at}
use Rattle.boogie_parse.specs.Reading.ProgramReading.{program_at}
use Rattle.boogie_parse.specs.Ties.ProgramGrowth.{Keeps}
use Rattle.boogie_parse.specs.Rules.WholeText.{text_end, read_tokens, read_text, IsOutside}
use Rattle.boogie_parse.proofs.Rules.ExpressionComplete.{complete}
use Rattle.boogie_parse.proofs.Rules.ExpressionRoom.{more_room}
use Rattle.boogie_parse.proofs.Rules.ProgramComplete.{program-joined}
use Rattle.boogie_parse.proofs.Rules.ProgramRoom.{Roomier, program_keeps, expression_keeps, grows_keeps}
use Rattle.boogie_parse.proofs.Faults.ExpressionRefusals.{expression_refusals}

-- ---- reading with as much depth as there are symbols

-- an expression is less deep than the symbols that it takes are many
depth_below : {p : ℕ} {l : Level} {ts r : List Symbol} {e : Expression} → Reads p l ts e r → depth e + length r < length ts
depth_below (one c d) = depth_below d
depth_below (more t a is l b) = let x = depth_below a in let y = depth_below b in omega arith
depth_below (unimplied d) = depth_below d
depth_below (implied t a is b) = let x = depth_below a in let y = depth_below b in omega arith
depth_below (conjoined d) = depth_below d
depth_below (disjoined d) = depth_below d
depth_below (uncompared d) = depth_below d
depth_below (compared t a is c b) = let x = depth_below a in let y = depth_below b in omega arith
depth_below (unsigned d) = depth_below d
depth_below (negated t is d) = let x = depth_below d in omega arith
depth_below (denied t is d) = let x = depth_below d in omega arith
depth_below (number t is) = omega arith
depth_below (true_word t is) = omega arith
depth_below (false_word t is) = omega arith
depth_below (name t is) = omega arith
depth_below (old_value t u v it iu d iv) = let x = depth_below d in omega arith
depth_below (grouped u v iu d iv) = let x = depth_below d in omega arith

abbrev any_depth : Span → ℕ → List Symbol → ReadResult Expression
any_depth end p ts = expression end p (length ts) ts

abbrev more_depth : Span → ℕ → List Symbol → ReadResult Expression
more_depth end p ts = expression end p (200 + length ts) ts

abbrev Every : Expression → Type 0
Every e = Unit {0}

any_depth-complete : (end : Span) (p : ℕ) (ts : List Symbol) (e : Expression) (r : List Symbol) → Reads p Equivalence ts e r → Every e → Ends Equivalence r → any_depth end p ts ≡ read e r
any_depth-complete end p ts e r d every ends = let low = depth_below d in complete end p (length ts) ts e r d (omega arith) ends

-- ---- all expressions of a program are expressions

every : (es : List Expression) → AllByRecursion Every es
every [] = tt
every (e ∷ es) = (tt, every es)

every_invariant : (is : List Invariant) → AllByRecursion (λ (i : Invariant). Every i.cond) is
every_invariant [] = tt
every_invariant (i ∷ is) = (tt, every_invariant is)

of_guard : (g : Guard) → EachOfGuard Every g
of_guard Any = tt
of_guard (Cond e) = tt

mutual
  of_statement : (s : Statement) → EachOfStatement Every s
  of_statement (Assert s e) = tt
  of_statement (Assume s e) = tt
  of_statement (Havoc s xs) = tt
  of_statement (Assign s xs es) = every es
  of_statement (Call s xs f es) = every es
  of_statement (If s g a b) = (of_guard g, of_block a, of_block b)
  of_statement (While s g is b) = (of_guard g, every_invariant is, of_block b)
  of_statement (Break s x) = tt
  of_statement (Goto s xs) = tt
  of_statement (Return s) = tt
  of_statement (Label x) = tt

  of_block : (b : Block) → EachOfBlock Every b
  of_block Empty = tt
  of_block (Then s b) = (of_statement s, of_block b)

of_specification : (s : Specification) → EachOfSpecification Every s
of_specification (Requires i) = tt
of_specification (Ensures i) = tt
of_specification (Modifies xs) = tt

of_specifications : (ss : List Specification) → AllByRecursion (EachOfSpecification Every) ss
of_specifications [] = tt
of_specifications (s ∷ ss) = (of_specification s, of_specifications ss)

of_body : (b : Option ProcedureBody) → EachOfBody Every b
of_body None = tt
of_body (Some b) = of_block b.stmts

of_procedure : (p : Procedure) → EachOfProcedure Every p
of_procedure p = (of_specifications p.specs, of_body p.body)

of_declaration : (d : Declaration) → EachOfDeclaration Every d
of_declaration (Const x) = tt
of_declaration (Global x) = tt
of_declaration (Axiom s e) = tt
of_declaration (Declares p) = of_procedure p
of_declaration (Implements p) = of_procedure p

of_declarations : (ds : List Declaration) → AllByRecursion (EachOfDeclaration Every) ds
of_declarations [] = tt
of_declarations (d ∷ ds) = (of_declaration d, of_declarations ds)

-- ---- as many variables as there are

abbrev pub all_variables : List (List Declaration) → ℕ
all_variables [] = 0
all_variables (ds ∷ groups) = variables_counted ds + all_variables groups

pub few_enough : (n : ℕ) (groups : List (List Declaration)) → all_variables groups ≤ n → AllByRecursion (λ ds. variables_counted ds ≤ n) groups
few_enough n [] h = tt
few_enough n (ds ∷ groups) h = (omega arith, few_enough n groups (omega arith))

-- ---- both readings with more room

-- of which kinds of limits the room is the same: nesting, procedures, variables
abbrev pub Kinds : Type 0 → Type 0 → Type 0 → Which → Type 0
Kinds nesting procedures variables limits.Literal = ⊥
Kinds nesting procedures variables limits.Nesting = nesting
Kinds nesting procedures variables limits.Procedures = procedures
Kinds nesting procedures variables limits.Variables = variables

pub roomier : (S : Type 0) (n k : ℕ) → (S → ⊥) → Roomier S n (n + k)
roomier S n k never = record { le = omega arith; equal = λ s. absurd (never s) }

pub level : (S : Type 0) (n : ℕ) → Roomier S n n
level S n = record { le = omega arith; equal = λ s. refl }

-- with room for all nesting
abbrev pub wide : Span → ℕ → ℕ → ℕ → ℕ → List Symbol → Result (List Declaration) Fault
wide end p b w m ts = program_at (more_depth end) end (200 + p) (200 + b) w m ts

-- what is in the grammar is read so, where there is room for its variables and procedures
pub wide-read : (end : Span) (p b w m : ℕ) (ts : List Symbol) (groups : List (List Declaration)) → ReadsProgram p b ts groups →
    AllByRecursion (λ ds. variables_counted ds ≤ w) groups → procedures_counted (joined_groups groups) ≤ m → wide end p b w m ts ≡ Ok (joined_groups groups)
wide-read end p b w m ts groups d few_variables few_procedures =
    let IsSame : Which → Type 0 = Kinds ⊥ ⊥ ⊥ in
    let read_all : program_at (any_depth end) end p b w m ts ≡ Ok (joined_groups groups) =
    program-joined (any_depth end) end Every (any_depth-complete end) p b w m ts groups d (of_declarations (joined_groups groups)) few_variables few_procedures in
    let read_keeps : Keeps IsSame (program_at (any_depth end) end p b w m ts) (wide end p b w m ts) =
    program_keeps IsSame (any_depth end) (more_depth end) end
    (λ i j us more.
    grows_keeps IsSame (expression end i (length us) us) (expression end j (200 + length us) us) (expression_refusals end i (length us) us) (more_room end i j (length us) (200 + length us) us more.le (omega arith)) (λ s. absurd s))
    p (200 + p) (record { le = omega arith; equal = λ s. absurd s }) b (200 + b) (record { le = omega arith; equal = λ s. absurd s }) w w (level ⊥ w) m m ts (level ⊥ m) in
    subst (λ r. Keeps IsSame r (wide end p b w m ts)) read_all read_keeps

-- what is refused with less room keeps its fault so
pub wide-keeps : (procedures variables : Type 0) (end : Span) (p b w m : ℕ) (ts : List Symbol) → Roomier variables 1000 w → Roomier procedures 1000 m →
    Keeps (Kinds ⊥ procedures variables) (program_at (expression_at end) end 200 200 1000 1000 ts) (wide end p b w m ts)
wide-keeps procedures variables end p b w m ts more_variables more_procedures =
    let IsSame : Which → Type 0 = Kinds ⊥ procedures variables in
    program_keeps IsSame (expression_at end) (more_depth end) end (λ i j us more. expression_keeps IsSame end (200 + length us) i j us (omega arith) (λ s. absurd s) more)
    200 (200 + p) (roomier ⊥ 200 p (λ s. s)) 200 (200 + b) (roomier ⊥ 200 b (λ s. s)) 1000 w more_variables 1000 m ts more_procedures

pub no_fault : (r : Result (List Declaration) Fault) (f : Fault) (ds : List Declaration) → r ≡ Ok ds → r ≡ Err f → ⊥
no_fault r f ds is_ok is_err = cc

-- the fault of a program's symbols in the grammar, with the limits
abbrev pub Faults : Span → List Symbol → Fault → Type 0
Faults end ts f = program_at (expression_at end) end 200 200 1000 1000 ts ≡ Err f

symbols_outside : (end : Span) (p b : ℕ) (ts : List Symbol) (groups : List (List Declaration)) (line col : ℕ) → ReadsProgram p b ts groups → Faults end ts (faults.Syntax line col) → ⊥
symbols_outside end p b ts groups line col d is =
    let w : ℕ = 1000 + all_variables groups in
    let m : ℕ = 1000 + procedures_counted (joined_groups groups) in
    let keeps = wide-keeps ⊥ ⊥ end p b w m ts (roomier ⊥ 1000 (all_variables groups) (λ s. s)) (roomier ⊥ 1000 (procedures_counted (joined_groups groups)) (λ s. s)) in
    let refused : wide end p b w m ts ≡ Err (faults.Syntax line col) = subst (λ r. Keeps (Kinds ⊥ ⊥ ⊥) r (wide end p b w m ts)) is keeps in
    no_fault (wide end p b w m ts) (faults.Syntax line col) (joined_groups groups) (wide-read end p b w m ts groups d (few_enough w groups (omega arith)) (omega arith)) refused

-- a fault that is not of the tokens is one of their symbols
pub with_tokens : (text : List ℕ) (tokens : List Token) (f : Fault) → lexed text ≡ Ok tokens → read_text text ≡ Err f → Faults (text_end text) (map symbol tokens) f
with_tokens text tokens f lexical is = sym (ap (read_tokens (text_end text)) lexical) ∙ is

pub syntax_outside : (text : List ℕ) (line col : ℕ) → read_text text ≡ Err (faults.Syntax line col) → IsOutside text
syntax_outside text line col is groups w =
    symbols_outside (text_end text) w.parentheses w.blocks (map symbol w.tokens) groups line col w.spelled (with_tokens text w.tokens (faults.Syntax line col) w.lexical is)

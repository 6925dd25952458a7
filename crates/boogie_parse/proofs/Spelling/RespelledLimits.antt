-- What is alike is within the same limits.
use Rattle.std.proofs.Common.{◌≡◌, ℕ, suc, ◌+◌, ◌≤◌, List, [], ◌∷◌, map, Option, None, Some, Ok, refl, sym, ap, subst, ◌∙◌, arith}
use Rattle.std.proofs.lemmas.List.{length-map}
use Rattle.std.specs.List.{AllByRecursion}
use Rattle.boogie_tree.specs.Tree.{Expression, Lit, Truth, Var, Old, Not, Neg, Bin, Guard, Any, Cond, Invariant, Statement, Assert, Assume, Havoc, Assign, Call, If, While, Break, Goto, Return, Label, Block, Empty, Then, Specification, Requires, Ensures, Modifies, ProcedureBody, Procedure, Declaration, Const, Global, Axiom, Declares, Implements}
use Rattle.boogie_tree.specs.Apart.{bare, bare_variable, bare_guard, bare_invariant, bare_statement, bare_block, bare_specification, bare_body, bare_procedure, bare_declaration, AreAlike}
use Rattle.boogie_parse.specs.declared.lexer.token.Token.{Token}
use Rattle.boogie_parse.specs.declared.token.TokenKind.{TokenKind}
use Rattle.boogie_parse.specs.declared.token.TokenKind.TheVariants as kinds
use Rattle.boogie_parse.specs.declared.symbols.Fixed.{Fixed}
use Rattle.boogie_parse.specs.declared.symbols.Symbol.{Symbol}
use Rattle.boogie_parse.specs.Lexing.Lexed.{lexed}
use Rattle.boogie_parse.specs.Lexing.Symbols.{spellings, spelled, fixed_or_name, sign_of, symbol}
use Rattle.boogie_parse.specs.Rules.GrammarProgram.{joined_groups}
use Rattle.boogie_parse.specs.Rules.GrammarLimits.{IsProgram, depth, IsShallow, IsShallowGuard, IsShallowStatement, IsShallowBlock, IsShallowSpecification, EachOfBody, EachOfProcedure, IsShallowDeclaration, locals_counted, variables_of_procedure, variables_counted, procedures_counted}
use Rattle.boogie_parse.specs.Spelling.ProgramSpelling.{Spells}
use Rattle.boogie_parse.specs.Spelling.Spelled.{program_signs}
use Rattle.boogie_parse.specs.Spelling.Respelled.{signs_of, IsUnsigned, AreUnsigned, alone, SpellsAgain, IsProgramAgain}
use Rattle.boogie_parse.proofs.Spelling.RespelledTools.{no_sign, first_sign, more_signs}
use Rattle.boogie_parse.proofs.Spelling.RespelledPrograms.{all_joined, program-again}

-- ---- depth

depth-bare : (e : Expression) → depth (bare e) ≡ depth e
depth-bare (Lit s n) = refl
depth-bare (Truth s b) = refl
depth-bare (Var s x) = refl
depth-bare (Old s e) = ap suc (depth-bare e)
depth-bare (Not s e) = ap suc (depth-bare e)
depth-bare (Neg s e) = ap suc (depth-bare e)
depth-bare (Bin s o a b) = rw (depth-bare a, depth-bare b) refl

shallow-bare : (e : Expression) → IsShallow (bare e) ≡ IsShallow e
shallow-bare e = ap (λ n. n ≤ 200) (depth-bare e)

shallow-guard : (g : Guard) → IsShallowGuard (bare_guard g) ≡ IsShallowGuard g
shallow-guard Any = refl
shallow-guard (Cond e) = shallow-bare e

shallow-expressions : (es : List Expression) → AllByRecursion IsShallow (map bare es) ≡ AllByRecursion IsShallow es
shallow-expressions [] = refl
shallow-expressions (e ∷ es) = rw (shallow-bare e, shallow-expressions es) refl

shallow-invariants : (is : List Invariant) → AllByRecursion (λ (i : Invariant). IsShallow i.cond) (map bare_invariant is) ≡ AllByRecursion (λ (i : Invariant). IsShallow i.cond) is
shallow-invariants [] = refl
shallow-invariants (i ∷ is) = rw (shallow-bare i.cond, shallow-invariants is) refl

mutual
  shallow-statement : (s : Statement) → IsShallowStatement (bare_statement s) ≡ IsShallowStatement s
  shallow-statement (Assert s e) = shallow-bare e
  shallow-statement (Assume s e) = shallow-bare e
  shallow-statement (Havoc s xs) = refl
  shallow-statement (Assign s xs es) = shallow-expressions es
  shallow-statement (Call s xs f es) = shallow-expressions es
  shallow-statement (If s g a b) = rw (shallow-guard g, shallow-block a, shallow-block b) refl
  shallow-statement (While s g is b) = rw (shallow-guard g, shallow-invariants is, shallow-block b) refl
  shallow-statement (Break s x) = refl
  shallow-statement (Goto s xs) = refl
  shallow-statement (Return s) = refl
  shallow-statement (Label x) = refl

  shallow-block : (b : Block) → IsShallowBlock (bare_block b) ≡ IsShallowBlock b
  shallow-block Empty = refl
  shallow-block (Then s b) = rw (shallow-statement s, shallow-block b) refl

shallow-specification : (s : Specification) → IsShallowSpecification (bare_specification s) ≡ IsShallowSpecification s
shallow-specification (Requires i) = shallow-bare i.cond
shallow-specification (Ensures i) = shallow-bare i.cond
shallow-specification (Modifies xs) = refl

shallow-specifications : (ss : List Specification) → AllByRecursion IsShallowSpecification (map bare_specification ss) ≡ AllByRecursion IsShallowSpecification ss
shallow-specifications [] = refl
shallow-specifications (s ∷ ss) = rw (shallow-specification s, shallow-specifications ss) refl

shallow-body : (b : Option ProcedureBody) → EachOfBody IsShallow (bare_body b) ≡ EachOfBody IsShallow b
shallow-body None = refl
shallow-body (Some b) = shallow-block b.stmts

shallow-procedure : (p : Procedure) → EachOfProcedure IsShallow (bare_procedure p) ≡ EachOfProcedure IsShallow p
shallow-procedure p = rw (shallow-specifications p.specs, shallow-body p.body) refl

shallow-declaration : (d : Declaration) → IsShallowDeclaration (bare_declaration d) ≡ IsShallowDeclaration d
shallow-declaration (Const x) = refl
shallow-declaration (Global x) = refl
shallow-declaration (Axiom s e) = shallow-bare e
shallow-declaration (Declares p) = shallow-procedure p
shallow-declaration (Implements p) = shallow-procedure p

-- ---- variables and procedures

locals-bare : (b : Option ProcedureBody) → locals_counted (bare_body b) ≡ locals_counted b
locals-bare None = refl
locals-bare (Some b) = length-map b.locals bare_variable

variables-bare : (p : Procedure) → variables_of_procedure (bare_procedure p) ≡ variables_of_procedure p
variables-bare p = rw (length-map p.params bare_variable, length-map p.results bare_variable, locals-bare p.body) refl

variables-declaration : (d : Declaration) → variables_counted (bare_declaration d ∷ []) ≡ variables_counted (d ∷ [])
variables-declaration (Const x) = refl
variables-declaration (Global x) = refl
variables-declaration (Axiom s e) = refl
variables-declaration (Declares p) = ap (λ n. n + 0) (variables-bare p)
variables-declaration (Implements p) = ap (λ n. n + 0) (variables-bare p)

procedures-bare : (ds : List Declaration) → procedures_counted (map bare_declaration ds) ≡ procedures_counted ds
procedures-bare [] = refl
procedures-bare (Const x ∷ ds) = procedures-bare ds
procedures-bare (Global x ∷ ds) = procedures-bare ds
procedures-bare (Axiom s e ∷ ds) = procedures-bare ds
procedures-bare (Declares p ∷ ds) = ap suc (procedures-bare ds)
procedures-bare (Implements p ∷ ds) = procedures-bare ds

-- ---- what does not see places holds of what is alike

carried : (P : Declaration → Type 0) → ((d : Declaration) → P (bare_declaration d) ≡ P d) → (ds es : List Declaration) → AreAlike ds es → AllByRecursion P ds → AllByRecursion P es
carried P blind [] [] e h = tt
carried P blind [] (y ∷ es) e h = absurd (no_sign e)
carried P blind (x ∷ ds) [] e h = absurd (no_sign (sym e))
carried P blind (x ∷ ds) (y ∷ es) e h =
    let same : P x ≡ P y = sym (blind x) ∙ ap P (first_sign e) ∙ blind y in
    (subst (λ A. A) same h.0, carried P blind ds es (more_signs e) h.1)

abbrev IsSmall : ℕ → Declaration → Type 0
IsSmall v d = variables_counted (d ∷ []) ≤ v

more-variables : (d : Declaration) (ds : List Declaration) → (variables_counted (d ∷ []) ≤ variables_counted (d ∷ ds)) × (variables_counted ds ≤ variables_counted (d ∷ ds))
more-variables (Const x) ds = (omega arith, omega arith)
more-variables (Global x) ds = (omega arith, omega arith)
more-variables (Axiom s e) ds = (omega arith, omega arith)
more-variables (Declares p) ds = (omega arith, omega arith)
more-variables (Implements p) ds = (omega arith, omega arith)

small-each : (v : ℕ) (ds : List Declaration) → variables_counted ds ≤ v → AllByRecursion (IsSmall v) ds
small-each v [] h = tt
small-each v (d ∷ ds) h =
    let m = more-variables d ds in
    let one : variables_counted (d ∷ []) ≤ variables_counted (d ∷ ds) = m.0 in
    let others : variables_counted ds ≤ variables_counted (d ∷ ds) = m.1 in
    (omega arith, small-each v ds (omega arith))

small-joined : (v : ℕ) (groups : List (List Declaration)) → AllByRecursion (λ ds. variables_counted ds ≤ v) groups → AllByRecursion (IsSmall v) (joined_groups groups)
small-joined v [] h = tt
small-joined v (ds ∷ groups) h = all_joined (IsSmall v) ds (joined_groups groups) (small-each v ds h.0) (small-joined v groups h.1)

small-alone : (v : ℕ) (ds : List Declaration) → AllByRecursion (IsSmall v) ds → AllByRecursion (λ g. variables_counted g ≤ v) (alone ds)
small-alone v [] h = tt
small-alone v (d ∷ ds) h = (h.0, small-alone v ds h.1)

joined-alone : (ds : List Declaration) → ds ≡ joined_groups (alone ds)
joined-alone [] = refl
joined-alone (d ∷ ds) = ap (λ es. d ∷ es) (joined-alone ds)

-- Symbols with the signs of a program are it, apart from places, and within the limits that it was within.
pub program-spelled-again : (p b v q : ℕ) (ts us : List Symbol) (program : List Declaration) → Spells p b v q ts program → AreUnsigned ts → signs_of us ≡ program_signs program → SpellsAgain p b v q us program
program-spelled-again p b v q ts us program s w e =
    let a = program-again s.spelled w us (e ∙ ap program_signs s.declarations) in
    let alike : AreAlike program a.again = ap (map bare_declaration) s.declarations ∙ a.alike in
    let count : procedures_counted a.again ≡ procedures_counted program = sym (procedures-bare a.again) ∙ ap procedures_counted (sym alike) ∙ procedures-bare program in
    let few = carried (IsSmall v) (λ d. ap (λ n. n ≤ v) (variables-declaration d)) (joined_groups s.groups) a.again a.alike (small-joined v s.groups s.few_variables) in
    record {
      again = a.again;
      spells = record {
        groups = alone a.again;
        spelled = a.reads;
        declarations = joined-alone a.again;
        shallow = carried IsShallowDeclaration shallow-declaration program a.again alike s.shallow;
        few_variables = small-alone v a.again few;
        few_procedures = subst (λ n. n ≤ q) (sym count) s.few_procedures;
      };
      alike = alike;
    }

-- ---- the symbols of tokens

unsigned_word : (text : List ℕ) (o : Option Fixed) → IsUnsigned (fixed_or_name text o)
unsigned_word text None = tt
unsigned_word text (Some f) = tt

unsigned_sign : (kind : TokenKind) (text : List ℕ) → IsUnsigned (sign_of kind text)
unsigned_sign kinds.Literal text = tt
unsigned_sign kinds.Word text = unsigned_word text (spelled text spellings)
unsigned_sign kinds.Mark text = unsigned_word text (spelled text spellings)

-- no sign of a token is a number below 0
tokens-unsigned : (tokens : List Token) → AreUnsigned (map symbol tokens)
tokens-unsigned [] = tt
tokens-unsigned (t ∷ ts) = (unsigned_sign t.kind t.text, tokens-unsigned ts)

signs-of-tokens : (tokens : List Token) → signs_of (map symbol tokens) ≡ map (λ t. (symbol t).sign) tokens
signs-of-tokens [] = refl
signs-of-tokens (t ∷ ts) = ap (λ ss. sign_of t.kind t.text ∷ ss) (signs-of-tokens ts)

spells-tokens : {text : List ℕ} {program : List Declaration} (h : IsProgram text program) → Spells 200 200 1000 1000 (map symbol h.tokens) program
spells-tokens h =
    record {
      groups = h.groups;
      spelled = h.spelled;
      declarations = h.declarations;
      shallow = h.shallow;
      few_variables = h.few_variables;
      few_procedures = h.few_procedures;
    }

-- A text whose tokens have the signs of a program is that program, apart from places.
pub text-again : (text other : List ℕ) (program : List Declaration) (tokens : List Token) → IsProgram text program → lexed other ≡ Ok tokens →
    map (λ t. (symbol t).sign) tokens ≡ program_signs program → IsProgramAgain other program
text-again text other program tokens h l e =
    let a = program-spelled-again 200 200 1000 1000 (map symbol h.tokens) (map symbol tokens) program (spells-tokens h) (tokens-unsigned h.tokens) (signs-of-tokens tokens ∙ e) in
    record {
      again = a.again;
      is = record {
        tokens = tokens;
        lexical = l;
        groups = a.spells.groups;
        spelled = a.spells.spelled;
        declarations = a.spells.declarations;
        shallow = a.spells.shallow;
        few_variables = a.spells.few_variables;
        few_procedures = a.spells.few_procedures;
      };
      alike = a.alike;
    }

-- What a text is read as is its program by the grammar and the limits, and the other way round.
use Rattle.std.proofs.Common.{◌≡◌, ℕ, List, Result, Ok, Err, IfOk, IfErr, map, refl, ap, subst, ◌∙◌}
use Rattle.boogie_tree.specs.declared.span.Span.{Span}
use Rattle.boogie_tree.specs.declared.tree.Program.{Program}
use Rattle.boogie_tree.specs.Tree.{Declaration}
use Rattle.boogie_tree.specs.View.{program}
use Rattle.boogie_parse.specs.declared.fault.Fault.{Fault}
use Rattle.boogie_parse.specs.declared.fault.Fault.TheVariants as faults
use Rattle.boogie_parse.specs.declared.lexer.token.Token.{Token}
use Rattle.boogie_parse.specs.Lexing.Lexed.{lexed}
use Rattle.boogie_parse.specs.Lexing.Symbols.{symbol}
use Rattle.boogie_parse.specs.Rules.GrammarLimits.{IsProgram}
use Rattle.boogie_parse.specs.Spelling.ProgramSpelling.{Spells}
use Rattle.boogie_parse.specs.Reading.ListReading.{expression_at}
use Rattle.boogie_parse.specs.Reading.ListViews.{Gives}
use Rattle.boogie_parse.specs.Rules.WholeText.{text_end, read_tokens, read_text, IsOrMemory, IsOutside, IfSyntax, IfLimit, IsLimitAt, IfTokenFault, IsFaultOf}
use Rattle.boogie_parse.proofs.Rules.ConditionSound.{expression_at-sound}
use Rattle.boogie_parse.proofs.Rules.ProgramSound.{program-sound}
use Rattle.boogie_parse.proofs.Rules.ProgramComplete.{program-complete}
use Rattle.boogie_parse.proofs.Faults.SyntaxFaults.{syntax_outside}
use Rattle.boogie_parse.proofs.Faults.LimitPlaces.{IsOfTokens, lexed_fine, limit_at}
use Rattle.boogie_parse.proofs.Faults.ExpressionRefusals.{IsRefusal}
use Rattle.boogie_parse.proofs.Faults.ProgramRefusals.{IsOfPrograms, program_refusals}
use Rattle.boogie_parse.proofs.Faults.TokenFaults.{token_fault}

spelled_is : (text : List ℕ) (ts : List Token) (ds : List Declaration) → lexed text ≡ Ok ts → Spells 200 200 1000 1000 (map symbol ts) ds → IsProgram text ds
spelled_is text ts ds lexical w = record {
  tokens = ts;
  lexical = lexical;
  groups = w.groups;
  spelled = w.spelled;
  declarations = w.declarations;
  shallow = w.shallow;
  few_variables = w.few_variables;
  few_procedures = w.few_procedures;
}

tokens_are : (end : Span) (text : List ℕ) (r : Result (List Token) Fault) (ds : List Declaration) → lexed text ≡ r → read_tokens end r ≡ Ok ds → IsProgram text ds
tokens_are end text (Ok ts) ds lexical is =
    let P : Result (List Declaration) Fault → Type 0 = λ r. IfOk r (Spells 200 200 1000 1000 (map symbol ts)) in
    spelled_is text ts ds lexical (subst P is (program-sound (expression_at end) end 200 200 1000 (expression_at-sound end) 1000 (map symbol ts)))
tokens_are end text (Err f) ds lexical is = cc

pub read_is_program : (text : List ℕ) (ds : List Declaration) → read_text text ≡ Ok ds → IsProgram text ds
read_is_program text ds is = tokens_are (text_end text) text (lexed text) ds refl is

pub program_is_read : (text : List ℕ) (ds : List Declaration) → IsProgram text ds → read_text text ≡ Ok ds
program_is_read text ds w =
    ap (read_tokens (text_end text)) w.lexical
    ∙ program-complete (text_end text) 200 200 1000 1000 (map symbol w.tokens) ds
    (record {
      groups = w.groups;
      spelled = w.spelled;
      declarations = w.declarations;
      shallow = w.shallow;
      few_variables = w.few_variables;
      few_procedures = w.few_procedures;
    })

pub one_program : (text : List ℕ) (a b : List Declaration) → IsProgram text a → IsProgram text b → a ≡ b
one_program text a b is_a is_b =
    let read_a : read_text text ≡ Ok a = program_is_read text a is_a in
    let read_b : read_text text ≡ Ok b = program_is_read text b is_b in
    cc

no_fault : (r : Result (List Declaration) Fault) (f : Fault) (ds : List Declaration) → r ≡ Ok ds → r ≡ Err f → ⊥
no_fault r f ds is_ok is_err = cc

pub given_is_program : (text : List ℕ) (r : Result Program Fault) → Gives program r (read_text text) → IfOk r (λ p. IsProgram text (program p))
given_is_program text (Ok p) given = read_is_program text (program p) given
given_is_program text (Err f) given = tt

pub program_is_given : (text : List ℕ) (r : Result Program Fault) → Gives program r (read_text text) → (ds : List Declaration) → IsProgram text ds → IsOrMemory r ds
program_is_given text (Ok p) given ds is =
    let read_ds : read_text text ≡ Ok ds = program_is_read text ds is in
    let read_p : read_text text ≡ Ok (program p) = given in
    cc
program_is_given text (Err faults.Memory) given ds is = refl
program_is_given text (Err (faults.Syntax l c)) given ds is = absurd (no_fault (read_text text) _ ds (program_is_read text ds is) (given (λ same. cc)))
program_is_given text (Err (faults.Unsupported w l c)) given ds is = absurd (no_fault (read_text text) _ ds (program_is_read text ds is) (given (λ same. cc)))
program_is_given text (Err (faults.Limit w l c)) given ds is = absurd (no_fault (read_text text) _ ds (program_is_read text ds is) (given (λ same. cc)))

pub syntax_is_outside : (text : List ℕ) (r : Result Program Fault) → Gives program r (read_text text) → IfErr r (λ f. IfSyntax f (IsOutside text))
syntax_is_outside text (Ok p) given = tt
syntax_is_outside text (Err (faults.Syntax line col)) given = syntax_outside text line col (given (λ same. cc))
syntax_is_outside text (Err f) given = tt

-- what a limit says of a text's program
pub limit_is_past : (text : List ℕ) (r : Result Program Fault) → Gives program r (read_text text) → IfErr r (λ f. IfLimit f (IsLimitAt text))
limit_is_past text (Ok p) given = tt
limit_is_past text (Err faults.Memory) given = tt
limit_is_past text (Err (faults.Syntax line col)) given = limit_at text (faults.Syntax line col) (given (λ same. cc))
limit_is_past text (Err (faults.Unsupported what line col)) given = limit_at text (faults.Unsupported what line col) (given (λ same. cc))
limit_is_past text (Err (faults.Limit which line col)) given = limit_at text (faults.Limit which line col) (given (λ same. cc))

pub fault_is_of_tokens : (text : List ℕ) (r : Result Program Fault) → Gives program r (read_text text) → IfErr r (λ f. IfTokenFault f (lexed text ≡ Err f))
fault_is_of_tokens text (Ok p) given = tt
fault_is_of_tokens text (Err faults.Memory) given = tt
fault_is_of_tokens text (Err (faults.Syntax line col)) given = tt
fault_is_of_tokens text (Err (faults.Unsupported what line col)) given = token_fault text (faults.Unsupported what line col) (given (λ same. cc))
fault_is_of_tokens text (Err (faults.Limit which line col)) given = token_fault text (faults.Limit which line col) (given (λ same. cc))

-- ---- what a fault says

reads_no_memory : (end : Span) (r : Result (List Token) Fault) → IfErr r IsOfTokens → read_tokens end r ≡ Err faults.Memory → ⊥
reads_no_memory end (Ok ts) fine is = subst (λ r. IfErr r (IsRefusal IsOfPrograms)) is (program_refusals end 200 200 1000 1000 (map symbol ts))
reads_no_memory end (Err f) fine is =
    let one : f ≡ faults.Memory = cc in
    subst IsOfTokens one fine

is_no_memory : (text : List ℕ) (f : Fault) → read_text text ≡ Err f → f ≡ faults.Memory → ⊥
is_no_memory text f is same =
    let read_memory : read_text text ≡ Err faults.Memory = cc in
    reads_no_memory (text_end text) (lexed text) (lexed_fine text) read_memory

syntax_said : (text : List ℕ) (f : Fault) → read_text text ≡ Err f → IfSyntax f (IsOutside text)
syntax_said text (faults.Syntax line col) is = syntax_outside text line col is
syntax_said text f is = tt

pub fault_says : (text : List ℕ) (f : Fault) → read_text text ≡ Err f → IsFaultOf text f
fault_says text f is = record {
  no_memory = is_no_memory text f is;
  syntax = syntax_said text f is;
  limits = limit_at text f is;
  tokens = token_fault text f is;
}

-- A limit that the grammar finds stands at a symbol, and each program that begins with the symbols up to this one is past it.
use Rattle.std.proofs.Common.{◌≡◌, ℕ, zero, suc, Bool, true, false, List, [], ◌∷◌, ◌++◌, Option, None, Some, Result, Ok, Err, IfErr, map, refl, sym, ap, subst, ◌∙◌, if◌then◌else◌}
use Rattle.std.specs.List.{AllByRecursion}
use Rattle.boogie_tree.specs.declared.span.Span.{Span}
use Rattle.boogie_parse.specs.declared.fault.Fault.{Fault}
use Rattle.boogie_parse.specs.declared.fault.Fault.TheVariants as faults
use Rattle.boogie_parse.specs.declared.fault.Which.{Which}
use Rattle.boogie_parse.specs.declared.fault.Which.TheVariants as limits
use Rattle.boogie_parse.specs.declared.fault.What.{What}
use Rattle.boogie_parse.specs.declared.token.TokenKind.{TokenKind}
use Rattle.boogie_parse.specs.declared.lexer.token.Token.{Token}
use Rattle.boogie_parse.specs.Lexing.Pieces.{Shape, Lexeme, Quoted, RealLiteral, LargeLiteral, Stray, Piece, pieces}
use Rattle.boogie_parse.specs.Lexing.Attributes.{begins_attribute, braced_length}
use Rattle.boogie_parse.specs.Lexing.Lexed.{left_out, beside_text, supported, judged, inside_attribute, attribute, found_in, with_token, tokens_or_fault, lexed}
use Rattle.boogie_parse.specs.Lexing.Symbols.{symbol}
use Rattle.boogie_parse.specs.Rules.GrammarProgram.{no_declaration}
use Rattle.boogie_parse.specs.Rules.WholeText.{text_end, read_tokens, read_text, IfLimit, CanStandAt, IsLimitAt}
use Rattle.boogie_parse.proofs.Faults.SyntaxFaults.{with_tokens}
use Rattle.boogie_parse.proofs.Faults.SettledPrograms.{limit_settled}
use Rattle.boogie_parse.proofs.Faults.BegunPrograms.{program_begun}
use Rattle.boogie_parse.proofs.Faults.LimitFaults.{limit_past}

-- ---- the faults of tokens

abbrev pub IsOfTokens : Fault → Type 0
IsOfTokens (faults.Syntax line col) = Unit {0}
IsOfTokens (faults.Unsupported what line col) = Unit {0}
IsOfTokens (faults.Limit limits.Literal line col) = Unit {0}
IsOfTokens (faults.Limit kind line col) = ⊥
IsOfTokens faults.Memory = ⊥

abbrev IsFine : Result Token Fault → Type 0
IsFine (Ok t) = Unit {0}
IsFine (Err f) = IsOfTokens f

supported_fine : (here : Span) (kind : TokenKind) (text : List ℕ) (o : Option What) → IsFine (supported here kind text o)
supported_fine here kind text None = tt
supported_fine here kind text (Some what) = tt

judged_fine : (here : Span) (text : List ℕ) (shape : Shape) → IsFine (judged here text shape)
judged_fine here text (Lexeme kind) = supported_fine here kind text (beside_text text left_out)
judged_fine here text Quoted = tt
judged_fine here text RealLiteral = tt
judged_fine here text LargeLiteral = tt
judged_fine here text Stray = tt

inside_fine : (here : Span) (shape : Shape) (found : List (Result Token Fault)) → AllByRecursion IsFine found → AllByRecursion IsFine (inside_attribute here shape found)
inside_fine here (Lexeme kind) found h = h
inside_fine here Quoted found h = h
inside_fine here RealLiteral found h = h
inside_fine here LargeLiteral found h = h
inside_fine here Stray found h = (tt, h)

attribute_fine : (here : Span) (found : ℕ → List (Result Token Fault)) (o : Option ℕ) → ((n : ℕ) → AllByRecursion IsFine (found n)) → AllByRecursion IsFine (attribute here found o)
attribute_fine here found None h = (tt, tt)
attribute_fine here found (Some n) h = h n

by_begin : (b : Bool) (p : Piece) (ps : List Piece) → ((n : ℕ) → AllByRecursion IsFine (found_in n ps)) →
    AllByRecursion IsFine (if b then attribute p.span (λ n. found_in n ps) (braced_length 0 ps) else judged p.span p.text p.shape ∷ found_in zero ps)
by_begin true p ps h = attribute_fine p.span (λ n. found_in n ps) (braced_length 0 ps) h
by_begin false p ps h = (judged_fine p.span p.text p.shape, h zero)

found_fine : (n : ℕ) (ps : List Piece) → AllByRecursion IsFine (found_in n ps)
unfolding found_in
found_fine n [] = tt
found_fine (suc n) (p ∷ ps) = inside_fine p.span p.shape (found_in n ps) (found_fine n ps)
found_fine zero (p ∷ ps) = by_begin (begins_attribute p ps) p ps (λ n. found_fine n ps)

first_fine : (found : List (Result Token Fault)) → AllByRecursion IsFine found → IfErr (tokens_or_fault found) IsOfTokens
first_fine [] h = tt
first_fine (Ok t ∷ found) h = behind t (tokens_or_fault found) (first_fine found h.1)
  where
    behind : (t : Token) (r : Result (List Token) Fault) → IfErr r IsOfTokens → IfErr (with_token t r) IsOfTokens
    behind t (Ok ts) h = tt
    behind t (Err f) h = h
first_fine (Err f ∷ found) h = h.0

pub lexed_fine : (text : List ℕ) → IfErr (lexed text) IsOfTokens
lexed_fine text = first_fine (found_in 0 (pieces text)) (found_fine 0 (pieces text))

-- ---- the place of a limit

can_stand : (text : List ℕ) (tokens : List Token) (which : Which) (line col : ℕ) → lexed text ≡ Ok tokens → read_text text ≡ Err (faults.Limit which line col) →
    CanStandAt text line col
can_stand text tokens which line col lexical is =
    let b = program_begun (text_end text) 200 200 1000 1000 (map symbol tokens) which line col (with_tokens text tokens (faults.Limit which line col) lexical is) in
    let w = b.begins [] [] no_declaration in
    record {
      tokens = tokens;
      lexical = lexical;
      before = b.before;
      here = b.symbol;
      after = b.after;
      parts = b.parts;
      line_is = (let e = b.place in cc);
      col_is = (let e = b.place in cc);
      more = b.more [];
      parentheses = 201;
      blocks = 202;
      groups = w.0;
      program = w.1;
    }

at_symbol : (text : List ℕ) (tokens : List Token) (which : Which) (line col : ℕ) → lexed text ≡ Ok tokens → read_text text ≡ Err (faults.Limit which line col) →
    IsLimitAt text which line col
at_symbol text tokens which line col lexical is =
    let end : Span = text_end text in
    let s = limit_settled end 200 200 1000 1000 (map symbol tokens) which line col (with_tokens text tokens (faults.Limit which line col) lexical is) in
    record {
      tokens = tokens;
      lexical = lexical;
      before = s.before;
      here = s.symbol;
      after = s.after;
      parts = s.parts;
      line_is = (let e = s.place in cc);
      col_is = (let e = s.place in cc);
      past = λ more p b groups d. limit_past end (s.before ++ s.symbol ∷ more) which line col (s.settled more) p b groups d;
      stands = can_stand text tokens which line col lexical is;
    }

-- a limit that is not of the tokens
abbrev IsOfGrammar : Which → Type 0
IsOfGrammar which = (line col : ℕ) → IsOfTokens (faults.Limit which line col) → ⊥

by_tokens : (text : List ℕ) (which : Which) (line col : ℕ) → IsOfGrammar which → (r : Result (List Token) Fault) → lexed text ≡ r → read_text text ≡ Err (faults.Limit which line col) →
    IsLimitAt text which line col
by_tokens text which line col grammar (Ok tokens) e is = at_symbol text tokens which line col e is
by_tokens text which line col grammar (Err f) e is =
    let fine : IsOfTokens f = subst (λ r. IfErr r IsOfTokens) e (lexed_fine text) in
    let given : read_tokens (text_end text) (Err f) ≡ Err (faults.Limit which line col) = sym (ap (read_tokens (text_end text)) e) ∙ is in
    let same : f ≡ faults.Limit which line col = cc in
    absurd (grammar line col (subst IsOfTokens same fine))

pub limit_at : (text : List ℕ) (f : Fault) → read_text text ≡ Err f → IfLimit f (IsLimitAt text)
limit_at text (faults.Syntax line col) is = tt
limit_at text (faults.Unsupported what line col) is = tt
limit_at text (faults.Limit limits.Literal line col) is = tt
limit_at text (faults.Limit limits.Nesting line col) is = by_tokens text limits.Nesting line col (λ l c h. h) (lexed text) refl is
limit_at text (faults.Limit limits.Procedures line col) is = by_tokens text limits.Procedures line col (λ l c h. h) (lexed text) refl is
limit_at text (faults.Limit limits.Variables line col) is = by_tokens text limits.Variables line col (λ l c h. h) (lexed text) refl is
limit_at text faults.Memory is = tt

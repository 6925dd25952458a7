-- What is left out and a literal that is too large are faults of the tokens: behind these nothing is refused so.
use Rattle.std.proofs.Common.{◌≡◌, ℕ, List, Result, Ok, Err, IfErr, map, ap, subst}
use Rattle.boogie_tree.specs.declared.span.Span.{Span}
use Rattle.boogie_parse.specs.declared.fault.Fault.{Fault}
use Rattle.boogie_parse.specs.declared.fault.Fault.TheVariants as faults
use Rattle.boogie_parse.specs.declared.fault.Which.TheVariants as limits
use Rattle.boogie_parse.specs.declared.lexer.token.Token.{Token}
use Rattle.boogie_parse.specs.Lexing.Lexed.{lexed}
use Rattle.boogie_parse.specs.Lexing.Symbols.{symbol}
use Rattle.boogie_parse.specs.Rules.WholeText.{text_end, read_tokens, read_text, IfTokenFault}
use Rattle.boogie_parse.proofs.Faults.ExpressionRefusals.{IsRefusal}
use Rattle.boogie_parse.proofs.Faults.ProgramRefusals.{IsOfPrograms, program_refusals}

if_token_fault : (f : Fault) (P : Type 0) → P → IfTokenFault f P
if_token_fault (faults.Syntax line col) P h = tt
if_token_fault (faults.Unsupported what line col) P h = h
if_token_fault (faults.Limit limits.Literal line col) P h = h
if_token_fault (faults.Limit limits.Nesting line col) P h = tt
if_token_fault (faults.Limit limits.Procedures line col) P h = tt
if_token_fault (faults.Limit limits.Variables line col) P h = tt
if_token_fault faults.Memory P h = tt

no_token_fault : (f : Fault) (P : Type 0) → IsRefusal IsOfPrograms f → IfTokenFault f P
no_token_fault (faults.Syntax line col) P h = tt
no_token_fault (faults.Unsupported what line col) P h = absurd h
no_token_fault (faults.Limit limits.Literal line col) P h = absurd h
no_token_fault (faults.Limit limits.Nesting line col) P h = tt
no_token_fault (faults.Limit limits.Procedures line col) P h = tt
no_token_fault (faults.Limit limits.Variables line col) P h = tt
no_token_fault faults.Memory P h = tt

fault_of_tokens : (end : Span) (r : Result (List Token) Fault) (f : Fault) → read_tokens end r ≡ Err f → IfTokenFault f (r ≡ Err f)
fault_of_tokens end (Ok ts) f is =
    no_token_fault f (◌≡◌ {A = Result (List Token) Fault} (Ok ts) (Err f)) (subst (λ r. IfErr r (IsRefusal IsOfPrograms)) is (program_refusals end 200 200 1000 1000 (map symbol ts)))
fault_of_tokens end (Err e) f is =
    let one : e ≡ f = cc in
    if_token_fault f (◌≡◌ {A = Result (List Token) Fault} (Err e) (Err f)) (ap (λ x. let r : Result (List Token) Fault = Err x in r) one)

pub token_fault : (text : List ℕ) (f : Fault) → read_text text ≡ Err f → IfTokenFault f (lexed text ≡ Err f)
token_fault text f is = fault_of_tokens (text_end text) (lexed text) f is

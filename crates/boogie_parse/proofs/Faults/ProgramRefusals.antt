-- A program that is not read is no syntax, or past a limit of programs: its tokens are all supported, and its literals fit.
use Rattle.std.proofs.Common.{ℕ, zero, suc, ◌-◌, Bool, true, false, List, [], ◌∷◌, length, Option, None, Some, Result, Ok, Err, IfErr}
use Rattle.boogie_tree.specs.declared.span.Span.{Span}
use Rattle.boogie_tree.specs.declared.tree.Name.{Name}
use Rattle.boogie_tree.specs.declared.tree.Ty.{Ty}
use Rattle.boogie_tree.specs.Tree.{Expression, Guard, Block, Specification, Declaration}
use Rattle.boogie_parse.specs.declared.fault.Fault.{Fault}
use Rattle.boogie_parse.specs.declared.fault.Fault.TheVariants as faults
use Rattle.boogie_parse.specs.declared.fault.Which.{Which}
use Rattle.boogie_parse.specs.declared.fault.Which.TheVariants as limits
use Rattle.boogie_parse.specs.declared.symbols.Fixed.{Fixed}
use Rattle.boogie_parse.specs.declared.symbols.Fixed.TheVariants as fixed
use Rattle.boogie_parse.specs.declared.symbols.Sign.{Sign}
use Rattle.boogie_parse.specs.declared.symbols.Sign.TheVariants as signs
use Rattle.boogie_parse.specs.declared.symbols.Symbol.{Symbol}
use Rattle.boogie_parse.specs.Reading.Outcomes.{Read, ReadResult}
use Rattle.boogie_parse.specs.Rules.GrammarProgram.{Head}
use Rattle.boogie_parse.specs.Rules.GrammarLimits.{procedures_counted}
use Rattle.boogie_parse.specs.Reading.ListReading.{◌>>=◌, Possible, there, one, one_there, seen, must_be, behind, name_by, name_at, new_name, with_front, more_by, separated, name_item, names_at, type_by, type_said, type_at, repeated_by, repeated, listed_names, group_at, variables_at, declared_behind, opened_by, opened, closed, listed_by, formals_at, results_by, results_at, expression_at, expression_item, expressions_at, arguments_at, guard_by, guard_at, claim_at, condition_behind, invariant_by, invariant_at, invariant_item, invariants_at}
use Rattle.boogie_parse.specs.Reading.StatementReading.{Inside, other_by, else_by, break_by, break_at, return_at, havoc_at, goto_at, assert_at, assume_at, assign_at, called_at, call_into, call_by, call_at, named_by, named_at, loop_at, branch_by, statement_by, statement_at, statement_item, list_at, no_block, block_by, no_branch, inside_at}
use Rattle.boogie_parse.specs.Reading.ProgramReading.{local_by, local_at, locals_at, modifies_by, modifies_at, head_at, room_behind, finished, requires_at, ensures_at, claimed_by, claimed_at, must_stand, free_at, specification_by, specification_at, specification_item, specifications_at, axiom_at, body_at, procedure_by, procedure_at, implementation_at, new_procedure, constants_at, globals_at, declaration_by, declaration_at, declarations_at, program_at}
use Rattle.boogie_parse.proofs.Faults.ExpressionRefusals.{IsRefusal, IsOfExpressions, expression_refusals}

-- a literal is of the tokens
abbrev pub IsOfPrograms : Which → Type 0
IsOfPrograms limits.Literal = ⊥
IsOfPrograms limits.Nesting = Unit {0}
IsOfPrograms limits.Procedures = Unit {0}
IsOfPrograms limits.Variables = Unit {0}

-- where it is not read, it is refused so
abbrev Refuses : {X : Type 0} → Result X Fault → Type 0
Refuses x = IfErr x (IsRefusal IsOfPrograms)

-- a step, and what follows it
then : {A B : Type 0} (x : Result A Fault) (f : A → Result B Fault) → Refuses x → ((a : A) → Refuses (f a)) → Refuses (x >>= f)
then (Ok a) f h k = k a
then (Err e) f h k = h

refuse_there : {X : Type 0} (x : ReadResult X) → Refuses x → Refuses (there x)
refuse_there (Ok a) h = tt
refuse_there (Err e) h = h

refuse_one : {X : Type 0} (x : ReadResult X) → Refuses x → Refuses (one x)
refuse_one (Ok a) h = tt
refuse_one (Err e) h = h

refuse_one_there : {X : Type 0} (x : Possible X) → Refuses x → Refuses (one_there x)
refuse_one_there (Ok None) h = tt
refuse_one_there (Ok (Some a)) h = tt
refuse_one_there (Err e) h = h

refuse_front : {X : Type 0} (xs : List X) (x : ReadResult (List X)) → Refuses x → Refuses (with_front xs x)
refuse_front xs (Ok a) h = tt
refuse_front xs (Err e) h = h

refuse_more : {X : Type 0} (f : List Symbol → ReadResult (List X)) (xs : List X) (ts : List Symbol) (o : Option (Read Span)) → ((us : List Symbol) → Refuses (f us)) → Refuses (more_by f xs ts o)
refuse_more f xs ts None h = tt
refuse_more f xs ts (Some comma) h = refuse_front xs (f comma.rest) (h comma.rest)

refuse_separated : {X : Type 0} (f : ℕ → List Symbol → ReadResult (List X)) → ((n : ℕ) (ts : List Symbol) → Refuses (f n ts)) → (end : Span) (turns n : ℕ) (ts : List Symbol) → Refuses (separated f end n turns ts)
unfolding separated
refuse_separated f h end zero n ts = tt
refuse_separated f h end (suc turns) n ts =
    then (f n ts) _ (h n ts) (λ xs. refuse_more (separated f end (n - length xs.value) turns) xs.value xs.rest (seen fixed.Comma xs.rest) (λ us. refuse_separated f h end turns (n - length xs.value) us))

refuse_repeated_by : {X : Type 0} (f : List X → List Symbol → ReadResult (List X)) (ts : List Symbol) (x : Possible (List X)) → Refuses x → ((xs : List X) (us : List Symbol) → Refuses (f xs us)) → Refuses (repeated_by f ts x)
refuse_repeated_by f ts (Ok None) h k = tt
refuse_repeated_by f ts (Ok (Some a)) h k = refuse_front a.value (f a.value a.rest) (k a.value a.rest)
refuse_repeated_by f ts (Err e) h k = h

refuse_repeated : {X : Type 0} (f : ℕ → List Symbol → Possible (List X)) (used : List X → ℕ) → ((n : ℕ) (ts : List Symbol) → Refuses (f n ts)) → (turns n : ℕ) (ts : List Symbol) → Refuses (repeated f used n turns ts)
unfolding repeated
refuse_repeated f used h zero n ts = tt
refuse_repeated f used h (suc turns) n ts =
    refuse_repeated_by (λ xs us. repeated f used (n - used xs) turns us) ts (f n ts) (h n ts) (λ xs us. refuse_repeated f used h turns (n - used xs) us)

refuse_must : (end : Span) (ts : List Symbol) (o : Option (Read Span)) → Refuses (must_be end ts o)
refuse_must end ts None = tt
refuse_must end ts (Some r) = tt

refuse_behind : (end : Span) (w : Fixed) (ts : List Symbol) → Refuses (behind end w ts)
unfolding behind
refuse_behind end w ts = refuse_must end ts (seen w ts)

refuse_name_by : (here : Span) (ts : List Symbol) (s : Sign) → Refuses (name_by here ts s)
refuse_name_by here ts (signs.Name x) = tt
refuse_name_by here ts (signs.Fixed w) = tt
refuse_name_by here ts (signs.Number n) = tt

refuse_name : (end : Span) (ts : List Symbol) → Refuses (name_at end ts)
unfolding name_at
refuse_name end [] = tt
refuse_name end (t ∷ ts) = refuse_name_by t.span ts t.sign

refuse_new_name : (end : Span) (n : ℕ) (ts : List Symbol) → Refuses (new_name end n ts)
unfolding new_name
refuse_new_name end zero ts = then (name_at end ts) _ (refuse_name end ts) (λ x. tt)
refuse_new_name end (suc n) ts = refuse_name end ts

refuse_names : (end : Span) (n : ℕ) (ts : List Symbol) → Refuses (names_at end n ts)
unfolding names_at
refuse_names end n ts = refuse_separated (name_item end) (λ m us. refuse_one (new_name end m us) (refuse_new_name end m us)) end (length ts) n ts

refuse_type_by : (here : Span) (ts : List Symbol) (o : Option Ty) → Refuses (type_by here ts o)
refuse_type_by here ts None = tt
refuse_type_by here ts (Some ty) = tt

refuse_type : (end : Span) (ts : List Symbol) → Refuses (type_at end ts)
unfolding type_at
refuse_type end [] = tt
refuse_type end (t ∷ ts) = refuse_type_by t.span ts (type_said t.sign)

refuse_listed_names : (end : Span) (ts : List Symbol) → Refuses (listed_names end ts)
unfolding listed_names
refuse_listed_names end ts =
    then (names_at end (length ts) ts) _ (refuse_names end (length ts) ts) (λ xs.
    then (behind end fixed.Semicolon xs.rest) _ (refuse_behind end fixed.Semicolon xs.rest) (λ semicolon. tt))

refuse_group : (end : Span) (n : ℕ) (ts : List Symbol) → Refuses (group_at end n ts)
unfolding group_at
refuse_group end n ts =
    then (names_at end n ts) _ (refuse_names end n ts) (λ xs.
    then (behind end fixed.Colon xs.rest) _ (refuse_behind end fixed.Colon xs.rest) (λ colon.
    then (type_at end colon.rest) _ (refuse_type end colon.rest) (λ ty. tt)))

refuse_variables : (end : Span) (n : ℕ) (ts : List Symbol) → Refuses (variables_at end n ts)
unfolding variables_at
refuse_variables end n ts = refuse_separated (group_at end) (refuse_group end) end (length ts) n ts

refuse_declared : (end : Span) (n : ℕ) (ts : List Symbol) → Refuses (declared_behind end n ts)
unfolding declared_behind
refuse_declared end n ts =
    then (variables_at end n ts) _ (refuse_variables end n ts) (λ vs.
    then (behind end fixed.Semicolon vs.rest) _ (refuse_behind end fixed.Semicolon vs.rest) (λ semicolon. tt))

refuse_opened_by : (p : ℕ) (o : ReadResult Span) → Refuses o → Refuses (opened_by p o)
refuse_opened_by zero (Ok r) h = tt
refuse_opened_by (suc p) (Ok r) h = tt
refuse_opened_by zero (Err e) h = h
refuse_opened_by (suc p) (Err e) h = h

refuse_opened : (end : Span) (w : Fixed) (p : ℕ) (ts : List Symbol) → Refuses (opened end w p ts)
unfolding opened
refuse_opened end w p ts = refuse_opened_by p (behind end w ts) (refuse_behind end w ts)

refuse_closed : {X : Type 0} (end : Span) (x : X) (ts : List Symbol) → Refuses (closed end x ts)
refuse_closed end x ts = then (behind end fixed.CloseParenthesis ts) _ (refuse_behind end fixed.CloseParenthesis ts) (λ parenthesis. tt)

refuse_listed : {X : Type 0} (end : Span) (f : List Symbol → ReadResult (List X)) (ts : List Symbol) (o : Option (Read Span)) → ((us : List Symbol) → Refuses (f us)) → Refuses (listed_by end f ts o)
refuse_listed end f ts (Some r) h = tt
refuse_listed end f ts None h = then (f ts) _ (h ts) (λ xs. refuse_closed end xs.value xs.rest)

refuse_formals : (end : Span) (p n : ℕ) (ts : List Symbol) → Refuses (formals_at end p n ts)
unfolding formals_at
refuse_formals end p n ts =
    then (opened end fixed.OpenParenthesis p ts) _ (refuse_opened end fixed.OpenParenthesis p ts) (λ inner.
    refuse_listed end (variables_at end n) inner.rest (seen fixed.CloseParenthesis inner.rest) (refuse_variables end n))

refuse_results_by : (end : Span) (p n : ℕ) (ts : List Symbol) (o : Option (Read Span)) → Refuses (results_by end p n ts o)
refuse_results_by end p n ts None = tt
refuse_results_by end p n ts (Some r) = refuse_formals end p n r.rest

refuse_results : (end : Span) (p n : ℕ) (ts : List Symbol) → Refuses (results_at end p n ts)
unfolding results_at
refuse_results end p n ts = refuse_results_by end p n ts (seen fixed.Returns ts)

refuse_local_by : (end : Span) (n : ℕ) (o : Option (Read Span)) → Refuses (local_by end n o)
refuse_local_by end n None = tt
refuse_local_by end n (Some word) = refuse_there (declared_behind end n word.rest) (refuse_declared end n word.rest)

refuse_local : (end : Span) (n : ℕ) (ts : List Symbol) → Refuses (local_at end n ts)
unfolding local_at
refuse_local end n ts = refuse_local_by end n (seen fixed.Var ts)

refuse_locals : (end : Span) (n : ℕ) (ts : List Symbol) → Refuses (locals_at end n ts)
unfolding locals_at
refuse_locals end n ts = refuse_repeated (local_at end) length (refuse_local end) (length ts) n ts

refuse_head : (end : Span) (p v : ℕ) (here : Span) (ts : List Symbol) → Refuses (head_at end p v here ts)
unfolding head_at
refuse_head end p v here ts =
    then (name_at end ts) _ (refuse_name end ts) (λ x.
    then (formals_at end p v x.rest) _ (refuse_formals end p v x.rest) (λ ps.
    then (results_at end p (v - length ps.value) ps.rest) _ (refuse_results end p (v - length ps.value) ps.rest) (λ rs. tt)))

refuse_modifies_by : (end : Span) (ts : List Symbol) (o : Option (Read Span)) → Refuses (modifies_by end ts o)
refuse_modifies_by end ts (Some semicolon) = tt
refuse_modifies_by end ts None = then (listed_names end ts) _ (refuse_listed_names end ts) (λ xs. tt)

refuse_modifies : (end : Span) (ts : List Symbol) → Refuses (modifies_at end ts)
unfolding modifies_at
refuse_modifies end ts = refuse_modifies_by end ts (seen fixed.Semicolon ts)

refuse_break_by : (end here : Span) (ts : List Symbol) (o : Option (Read Span)) → Refuses (break_by end here ts o)
refuse_break_by end here ts (Some semicolon) = tt
refuse_break_by end here ts None =
    then (name_at end ts) _ (refuse_name end ts) (λ x.
    then (behind end fixed.Semicolon x.rest) _ (refuse_behind end fixed.Semicolon x.rest) (λ semicolon. tt))

refuse_break : (end here : Span) (ts : List Symbol) → Refuses (break_at end here ts)
unfolding break_at
refuse_break end here ts = refuse_break_by end here ts (seen fixed.Semicolon ts)

refuse_return : (end here : Span) (ts : List Symbol) → Refuses (return_at end here ts)
unfolding return_at
refuse_return end here ts = then (behind end fixed.Semicolon ts) _ (refuse_behind end fixed.Semicolon ts) (λ semicolon. tt)

refuse_havoc : (end here : Span) (ts : List Symbol) → Refuses (havoc_at end here ts)
unfolding havoc_at
refuse_havoc end here ts = then (listed_names end ts) _ (refuse_listed_names end ts) (λ xs. tt)

refuse_goto : (end here : Span) (ts : List Symbol) → Refuses (goto_at end here ts)
unfolding goto_at
refuse_goto end here ts = then (listed_names end ts) _ (refuse_listed_names end ts) (λ xs. tt)

-- what opens a block is refused so
record RefusesInside (i : Inside) : Type 0 where
  block : (ts : List Symbol) → Refuses (i.block ts)
  branch : (here : Span) (ts : List Symbol) → Refuses (i.branch here ts)

module _ (reads : ℕ → List Symbol → ReadResult Expression) (end : Span) (refused : (p : ℕ) (ts : List Symbol) → Refuses (reads p ts)) (p : ℕ) where
  refuse_expressions : (q : ℕ) (ts : List Symbol) → Refuses (expressions_at reads end q ts)
  unfolding expressions_at
  refuse_expressions q ts = refuse_separated (expression_item reads q) (λ n us. refuse_one (reads q us) (refused q us)) end (length ts) 0 ts

  refuse_arguments : (ts : List Symbol) → Refuses (arguments_at reads end p ts)
  unfolding arguments_at
  refuse_arguments ts =
      then (opened end fixed.OpenParenthesis p ts) _ (refuse_opened end fixed.OpenParenthesis p ts) (λ inner.
      refuse_listed end (expressions_at reads end inner.value) inner.rest (seen fixed.CloseParenthesis inner.rest) (refuse_expressions inner.value))

  refuse_guard_by : (q : ℕ) (ts : List Symbol) (o : Option (Read Span)) → Refuses (guard_by reads end q ts o)
  refuse_guard_by q ts (Some star) = refuse_closed end _ star.rest
  refuse_guard_by q ts None = then (reads q ts) _ (refused q ts) (λ e. refuse_closed end _ e.rest)

  refuse_guard : (ts : List Symbol) → Refuses (guard_at reads end p ts)
  unfolding guard_at
  refuse_guard ts =
      then (opened end fixed.OpenParenthesis p ts) _ (refuse_opened end fixed.OpenParenthesis p ts) (λ inner.
      refuse_guard_by inner.value inner.rest (seen fixed.Star inner.rest))

  refuse_claim : (ts : List Symbol) → Refuses (claim_at reads end p ts)
  unfolding claim_at
  refuse_claim ts =
      then (reads p ts) _ (refused p ts) (λ e.
      then (behind end fixed.Semicolon e.rest) _ (refuse_behind end fixed.Semicolon e.rest) (λ semicolon. tt))

  refuse_condition : (free : Bool) (word : Read Span) → Refuses (condition_behind reads end p free word)
  unfolding condition_behind
  refuse_condition free word = then (claim_at reads end p word.rest) _ (refuse_claim word.rest) (λ e. tt)

  refuse_invariant_by : (a b : Option (Read Span)) → Refuses (invariant_by reads end p a b)
  refuse_invariant_by (Some first) b = refuse_there _ (then (behind end fixed.Invariant first.rest) _ (refuse_behind end fixed.Invariant first.rest) (λ word. refuse_condition true word))
  refuse_invariant_by None (Some word) = refuse_there _ (refuse_condition false word)
  refuse_invariant_by None None = tt

  refuse_invariant : (ts : List Symbol) → Refuses (invariant_at reads end p ts)
  unfolding invariant_at
  refuse_invariant ts = refuse_invariant_by (seen fixed.Free ts) (seen fixed.Invariant ts)

  refuse_invariants : (ts : List Symbol) → Refuses (invariants_at reads end p ts)
  unfolding invariants_at
  refuse_invariants ts = refuse_repeated (invariant_item reads end p) length (λ n us. refuse_one_there (invariant_at reads end p us) (refuse_invariant us)) (length ts) 0 ts

  refuse_assert : (here : Span) (ts : List Symbol) → Refuses (assert_at reads end p here ts)
  unfolding assert_at
  refuse_assert here ts = then (claim_at reads end p ts) _ (refuse_claim ts) (λ e. tt)

  refuse_assume : (here : Span) (ts : List Symbol) → Refuses (assume_at reads end p here ts)
  unfolding assume_at
  refuse_assume here ts = then (claim_at reads end p ts) _ (refuse_claim ts) (λ e. tt)

  refuse_assign : (here : Span) (ts : List Symbol) → Refuses (assign_at reads end p here ts)
  unfolding assign_at
  refuse_assign here ts =
      then (names_at end (length ts) ts) _ (refuse_names end (length ts) ts) (λ xs.
      then (behind end fixed.Becomes xs.rest) _ (refuse_behind end fixed.Becomes xs.rest) (λ becomes.
      then (expressions_at reads end p becomes.rest) _ (refuse_expressions p becomes.rest) (λ es.
      then (behind end fixed.Semicolon es.rest) _ (refuse_behind end fixed.Semicolon es.rest) (λ semicolon. tt))))

  refuse_called : (here : Span) (xs : List Name) (x : Name) (ts : List Symbol) → Refuses (called_at reads end p here xs x ts)
  unfolding called_at
  refuse_called here xs x ts =
      then (arguments_at reads end p ts) _ (refuse_arguments ts) (λ es.
      then (behind end fixed.Semicolon es.rest) _ (refuse_behind end fixed.Semicolon es.rest) (λ semicolon. tt))

  refuse_call_into : (here : Span) (ts : List Symbol) → Refuses (call_into reads end p here ts)
  unfolding call_into
  refuse_call_into here ts =
      then (names_at end (length ts) ts) _ (refuse_names end (length ts) ts) (λ xs.
      then (behind end fixed.Becomes xs.rest) _ (refuse_behind end fixed.Becomes xs.rest) (λ becomes.
      then (name_at end becomes.rest) _ (refuse_name end becomes.rest) (λ x. refuse_called here xs.value x.value x.rest)))

  refuse_call_by : (here : Span) (ts : List Symbol) (x : Read Name) (o : Option (Read Span)) → Refuses (call_by reads end p here ts x o)
  refuse_call_by here ts x (Some parenthesis) = refuse_called here [] x.value x.rest
  refuse_call_by here ts x None = refuse_call_into here ts

  refuse_call : (here : Span) (ts : List Symbol) → Refuses (call_at reads end p here ts)
  unfolding call_at
  refuse_call here ts = then (name_at end ts) _ (refuse_name end ts) (λ x. refuse_call_by here ts x (seen fixed.OpenParenthesis x.rest))

  refuse_named_by : (x : Name) (ts : List Symbol) (o : Option (Read Span)) → Refuses (named_by reads end p x ts o)
  refuse_named_by x ts (Some colon) = tt
  refuse_named_by x ts None = refuse_assign x.span ts

  refuse_named : (x : Name) (ts rest : List Symbol) → Refuses (named_at reads end p x ts rest)
  unfolding named_at
  refuse_named x ts rest = refuse_named_by x ts (seen fixed.Colon rest)

  refuse_loop : (i : Inside) → RefusesInside i → (here : Span) (ts : List Symbol) → Refuses (loop_at reads end p i.block here ts)
  unfolding loop_at
  refuse_loop i k here ts =
      then (guard_at reads end p ts) _ (refuse_guard ts) (λ x.
      then (invariants_at reads end p x.rest) _ (refuse_invariants x.rest) (λ is.
      then (i.block is.rest) _ (k.block is.rest) (λ y. tt)))

  refuse_other : (i : Inside) → RefusesInside i → (ts : List Symbol) (o : Option (Read Span)) → Refuses (other_by i ts o)
  refuse_other i k ts None = k.block ts
  refuse_other i k ts (Some word) = then (i.branch word.value word.rest) _ (k.branch word.value word.rest) (λ s. tt)

  refuse_else : (i : Inside) → RefusesInside i → (here : Span) (x : Guard) (y : Block) (ts : List Symbol) (o : Option (Read Span)) → Refuses (else_by i here x y ts o)
  refuse_else i k here x y ts None = tt
  refuse_else i k here x y ts (Some word) = then (other_by i word.rest (seen fixed.If word.rest)) _ (refuse_other i k word.rest (seen fixed.If word.rest)) (λ z. tt)

  refuse_branch : (i : Inside) → RefusesInside i → (here : Span) (ts : List Symbol) → Refuses (branch_by reads end p i here ts)
  unfolding branch_by
  refuse_branch i k here ts =
      then (guard_at reads end p ts) _ (refuse_guard ts) (λ x.
      then (i.block x.rest) _ (k.block x.rest) (λ y. refuse_else i k here x.value y.value y.rest (seen fixed.Else y.rest)))

  refuse_statement_by : (i : Inside) → RefusesInside i → (t : Symbol) (ts : List Symbol) (s : Sign) → Refuses (statement_by reads end p i t ts s)
  refuse_statement_by i k t ts (signs.Fixed fixed.Assert) = refuse_there _ (refuse_assert t.span ts)
  refuse_statement_by i k t ts (signs.Fixed fixed.Assume) = refuse_there _ (refuse_assume t.span ts)
  refuse_statement_by i k t ts (signs.Fixed fixed.Havoc) = refuse_there _ (refuse_havoc end t.span ts)
  refuse_statement_by i k t ts (signs.Fixed fixed.Call) = refuse_there _ (refuse_call t.span ts)
  refuse_statement_by i k t ts (signs.Fixed fixed.If) = refuse_there _ (refuse_branch i k t.span ts)
  refuse_statement_by i k t ts (signs.Fixed fixed.While) = refuse_there _ (refuse_loop i k t.span ts)
  refuse_statement_by i k t ts (signs.Fixed fixed.Break) = refuse_there _ (refuse_break end t.span ts)
  refuse_statement_by i k t ts (signs.Fixed fixed.Goto) = refuse_there _ (refuse_goto end t.span ts)
  refuse_statement_by i k t ts (signs.Fixed fixed.Return) = refuse_there _ (refuse_return end t.span ts)
  refuse_statement_by i k t ts (signs.Name x) = refuse_there _ (refuse_named (record { span = t.span; text = x }) (t ∷ ts) ts)
  refuse_statement_by i k t ts s = tt

  refuse_statement : (i : Inside) → RefusesInside i → (ts : List Symbol) → Refuses (statement_at reads end p i ts)
  unfolding statement_at
  refuse_statement i k [] = tt
  refuse_statement i k (t ∷ ts) = refuse_statement_by i k t ts t.sign

  refuse_list : (i : Inside) → RefusesInside i → (ts : List Symbol) → Refuses (list_at reads end p i ts)
  unfolding list_at
  refuse_list i k ts = refuse_repeated (statement_item reads end p i) length (λ n us. refuse_one_there (statement_at reads end p i us) (refuse_statement i k us)) (length ts) 0 ts

  refuse_block : (i : Inside) → RefusesInside i → (ts : List Symbol) → Refuses (block_by reads end p i ts)
  unfolding block_by
  refuse_block i k ts =
      then (behind end fixed.OpenBrace ts) _ (refuse_behind end fixed.OpenBrace ts) (λ brace.
      then (list_at reads end p i brace.rest) _ (refuse_list i k brace.rest) (λ ss.
      then (behind end fixed.CloseBrace ss.rest) _ (refuse_behind end fixed.CloseBrace ss.rest) (λ closing. tt)))

  refuse_no_block : (ts : List Symbol) → Refuses (no_block reads end p ts)
  unfolding no_block
  refuse_no_block ts = then (behind end fixed.OpenBrace ts) _ (refuse_behind end fixed.OpenBrace ts) (λ brace. tt)

  refuse_no_branch : (here : Span) (ts : List Symbol) → Refuses (no_branch reads end p here ts)
  unfolding no_branch
  refuse_no_branch here ts = tt

  refuse_inside : (b : ℕ) → RefusesInside (inside_at reads end p b)
  unfolding inside_at
  refuse_inside zero = record { block = refuse_no_block; branch = refuse_no_branch }
  refuse_inside (suc b) = let k = refuse_inside b in record { block = refuse_block (inside_at reads end p b) k; branch = refuse_branch (inside_at reads end p b) k }

  refuse_requires : (free : Bool) (word : Read Span) → Refuses (requires_at reads end p free word)
  unfolding requires_at
  refuse_requires free word = then (condition_behind reads end p free word) _ (refuse_condition free word) (λ i. tt)

  refuse_ensures : (free : Bool) (word : Read Span) → Refuses (ensures_at reads end p free word)
  unfolding ensures_at
  refuse_ensures free word = then (condition_behind reads end p free word) _ (refuse_condition free word) (λ i. tt)

  refuse_claimed_by : (free : Bool) (a b : Option (Read Span)) → Refuses (claimed_by reads end p free a b)
  refuse_claimed_by free (Some word) b = refuse_there _ (refuse_requires free word)
  refuse_claimed_by free None (Some word) = refuse_there _ (refuse_ensures free word)
  refuse_claimed_by free None None = tt

  refuse_claimed : (free : Bool) (ts : List Symbol) → Refuses (claimed_at reads end p free ts)
  unfolding claimed_at
  refuse_claimed free ts = refuse_claimed_by free (seen fixed.Requires ts) (seen fixed.Ensures ts)

  refuse_must_stand : (ts : List Symbol) (x : Possible Specification) → Refuses x → Refuses (must_stand reads end p ts x)
  refuse_must_stand ts (Ok None) h = tt
  refuse_must_stand ts (Ok (Some a)) h = tt
  refuse_must_stand ts (Err e) h = h

  refuse_free : (ts : List Symbol) → Refuses (free_at reads end p ts)
  unfolding free_at
  refuse_free ts = refuse_must_stand ts (claimed_at reads end p true ts) (refuse_claimed true ts)

  refuse_specification_by : (ts : List Symbol) (a b : Option (Read Span)) → Refuses (specification_by reads end p ts a b)
  refuse_specification_by ts (Some first) b = refuse_free first.rest
  refuse_specification_by ts None (Some word) = refuse_there _ (refuse_modifies end word.rest)
  refuse_specification_by ts None None = refuse_claimed false ts

  refuse_specification : (ts : List Symbol) → Refuses (specification_at reads end p ts)
  unfolding specification_at
  refuse_specification ts = refuse_specification_by ts (seen fixed.Free ts) (seen fixed.Modifies ts)

  refuse_specifications : (ts : List Symbol) → Refuses (specifications_at reads end p ts)
  unfolding specifications_at
  refuse_specifications ts = refuse_repeated (specification_item reads end p) length (λ n us. refuse_one_there (specification_at reads end p us) (refuse_specification us)) (length ts) 0 ts

  refuse_axiom : (here : Span) (ts : List Symbol) → Refuses (axiom_at reads end p here ts)
  unfolding axiom_at
  refuse_axiom here ts = then (claim_at reads end p ts) _ (refuse_claim ts) (λ e. tt)

  module _ (b : ℕ) where
    refuse_body : (n : ℕ) (ts : List Symbol) → Refuses (body_at reads end p b n ts)
    unfolding body_at
    refuse_body n ts =
        then (opened end fixed.OpenBrace b ts) _ (refuse_opened end fixed.OpenBrace b ts) (λ inner.
        then (locals_at end n inner.rest) _ (refuse_locals end n inner.rest) (λ vs.
        then (list_at reads end p (inside_at reads end p inner.value) vs.rest) _ (refuse_list (inside_at reads end p inner.value) (refuse_inside inner.value) vs.rest) (λ ss.
        then (behind end fixed.CloseBrace ss.rest) _ (refuse_behind end fixed.CloseBrace ss.rest) (λ closing. tt))))

    module _ (v : ℕ) where
      refuse_procedure_by : (h : Head) (ts : List Symbol) (o : Option (Read Span)) → Refuses (procedure_by reads end p b v h ts o)
      refuse_procedure_by h ts (Some semicolon) = then (specifications_at reads end p semicolon.rest) _ (refuse_specifications semicolon.rest) (λ ss. tt)
      refuse_procedure_by h ts None =
          then (specifications_at reads end p ts) _ (refuse_specifications ts) (λ ss.
          then (body_at reads end p b (room_behind v h) ss.rest) _ (refuse_body (room_behind v h) ss.rest) (λ x. tt))

      refuse_procedure : (here : Span) (ts : List Symbol) → Refuses (procedure_at reads end p b v here ts)
      unfolding procedure_at
      refuse_procedure here ts = then (head_at end p v here ts) _ (refuse_head end p v here ts) (λ h. refuse_procedure_by h.value h.rest (seen fixed.Semicolon h.rest))

      refuse_implementation : (here : Span) (ts : List Symbol) → Refuses (implementation_at reads end p b v here ts)
      unfolding implementation_at
      refuse_implementation here ts =
          then (head_at end p v here ts) _ (refuse_head end p v here ts) (λ h.
          then (body_at reads end p b (room_behind v h.value) h.rest) _ (refuse_body (room_behind v h.value) h.rest) (λ x. tt))

      refuse_new_procedure : (n : ℕ) (here : Span) (ts : List Symbol) → Refuses (new_procedure reads end p b v n here ts)
      unfolding new_procedure
      refuse_new_procedure zero here ts = tt
      refuse_new_procedure (suc n) here ts = refuse_procedure here ts

      refuse_constants : (ts : List Symbol) → Refuses (constants_at reads end p b v ts)
      unfolding constants_at
      refuse_constants ts = then (declared_behind end v ts) _ (refuse_declared end v ts) (λ vs. tt)

      refuse_globals : (ts : List Symbol) → Refuses (globals_at reads end p b v ts)
      unfolding globals_at
      refuse_globals ts = then (declared_behind end v ts) _ (refuse_declared end v ts) (λ vs. tt)

      refuse_declaration_by : (n : ℕ) (here : Span) (ts : List Symbol) (s : Sign) → Refuses (declaration_by reads end p b v n here ts s)
      refuse_declaration_by n here ts (signs.Fixed fixed.Const) = refuse_there _ (refuse_constants ts)
      refuse_declaration_by n here ts (signs.Fixed fixed.Var) = refuse_there _ (refuse_globals ts)
      refuse_declaration_by n here ts (signs.Fixed fixed.Axiom) = refuse_there _ (refuse_axiom here ts)
      refuse_declaration_by n here ts (signs.Fixed fixed.Procedure) = refuse_there _ (refuse_new_procedure n here ts)
      refuse_declaration_by n here ts (signs.Fixed fixed.Implementation) = refuse_there _ (refuse_implementation here ts)
      refuse_declaration_by n here ts s = tt

      refuse_declaration : (n : ℕ) (ts : List Symbol) → Refuses (declaration_at reads end p b v n ts)
      unfolding declaration_at
      refuse_declaration n [] = tt
      refuse_declaration n (t ∷ ts) = refuse_declaration_by n t.span ts t.sign

      refuse_declarations : (n : ℕ) (ts : List Symbol) → Refuses (declarations_at reads end p b v n ts)
      unfolding declarations_at
      refuse_declarations n ts = refuse_repeated (declaration_at reads end p b v) procedures_counted refuse_declaration (length ts) n ts

      refuse_finished : (ds : Read (List Declaration)) (ts : List Symbol) → Refuses (finished end ds ts)
      refuse_finished ds [] = tt
      refuse_finished ds (t ∷ ts) = tt

      refuse_program : (n : ℕ) (ts : List Symbol) → Refuses (program_at reads end p b v n ts)
      unfolding program_at
      refuse_program n ts = then (declarations_at reads end p b v n ts) _ (refuse_declarations n ts) (λ ds. refuse_finished ds ds.rest)

-- expressions have a limit of programs alone
is_of_programs : (f : Fault) → IsRefusal IsOfExpressions f → IsRefusal IsOfPrograms f
is_of_programs (faults.Syntax line col) h = tt
is_of_programs (faults.Limit limits.Literal line col) h = h
is_of_programs (faults.Limit limits.Nesting line col) h = tt
is_of_programs (faults.Limit limits.Procedures line col) h = tt
is_of_programs (faults.Limit limits.Variables line col) h = tt
is_of_programs (faults.Unsupported what line col) h = h
is_of_programs faults.Memory h = h

widen : {X : Type 0} (x : ReadResult X) → IfErr x (IsRefusal IsOfExpressions) → Refuses x
widen (Ok a) h = tt
widen (Err f) h = is_of_programs f h

refuse_expression : (end : Span) (p : ℕ) (ts : List Symbol) → Refuses (expression_at end p ts)
unfolding expression_at
refuse_expression end p ts = widen (expression_at end p ts) (expression_refusals end p 200 ts)

pub program_refusals : (end : Span) (p b v n : ℕ) (ts : List Symbol) → IfErr (program_at (expression_at end) end p b v n ts) (IsRefusal IsOfPrograms)
program_refusals end p b v n ts = refuse_program (expression_at end) end (refuse_expression end) p b v n ts

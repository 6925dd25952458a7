-- A program's limit stands at a symbol, and is the same whatever follows this one.
use Rattle.std.proofs.Common.{◌≡◌, ℕ, zero, suc, ◌-◌, ◌<◌, ◌≤◌, Bool, true, false, List, [], ◌∷◌, ◌++◌, length, Option, None, Some, IfSome, Ok, Err, refl, ap, ◌∙◌, subst, arith}
use Rattle.boogie_tree.specs.declared.span.Span.{Span}
use Rattle.boogie_tree.specs.declared.tree.Name.{Name}
use Rattle.boogie_tree.specs.declared.tree.Ty.{Ty}
use Rattle.boogie_tree.specs.Tree.{Expression, Guard, Any, Statement, Assign, If, Block, Empty, Then, Specification, Declaration}
use Rattle.boogie_parse.specs.declared.fault.Fault.TheVariants as faults
use Rattle.boogie_parse.specs.declared.fault.Which.{Which}
use Rattle.boogie_parse.specs.declared.fault.Which.TheVariants as limits
use Rattle.boogie_parse.specs.declared.symbols.Fixed.{Fixed}
use Rattle.boogie_parse.specs.declared.symbols.Fixed.TheVariants as fixed
use Rattle.boogie_parse.specs.declared.symbols.Sign.{Sign}
use Rattle.boogie_parse.specs.declared.symbols.Sign.TheVariants as signs
use Rattle.boogie_parse.specs.declared.symbols.Symbol.{Symbol}
use Rattle.boogie_parse.specs.Reading.Outcomes.{Read, ReadResult, place_or, syntax_fault, limit_fault, refused}
use Rattle.boogie_parse.specs.Rules.GrammarProgram.{Head}
use Rattle.boogie_parse.specs.Rules.GrammarLimits.{procedures_counted}
use Rattle.boogie_parse.specs.Reading.ListReading.{◌>>=◌, read, Possible, there, one, seen, must_be, behind, name_by, name_at, new_name, with_front, more_by, separated, name_item, names_at, type_by, type_said, type_at, listed_names, group_at, variables_at, declared_behind, opened_by, opened, closed, listed_by, formals_at, results_by, results_at, expression_at, expression_item, expressions_at, arguments_at, guard_by, guard_at, claim_at, condition_behind, invariant_by, invariant_at, invariant_item, invariants_at}
use Rattle.boogie_parse.specs.Reading.StatementReading.{Inside, other_by, else_by, break_by, break_at, return_at, havoc_at, goto_at, assert_at, assume_at, assign_at, called_at, call_into, call_by, call_at, named_by, named_at, loop_at, branch_by, statement_by, statement_at, statement_item, list_at, no_block, block_by, no_branch, inside_at}
use Rattle.boogie_parse.specs.Reading.ProgramReading.{local_by, local_at, locals_at, modifies_by, modifies_at, head_at, room_behind, finished, requires_at, ensures_at, claimed_by, claimed_at, must_stand, free_at, specification_by, specification_at, specification_item, specifications_at, axiom_at, body_at, procedure_by, procedure_at, implementation_at, new_procedure, constants_at, globals_at, declaration_by, declaration_at, declarations_at, program_at}
use Rattle.boogie_parse.specs.Ties.Settled.{IsSettled}
use Rattle.boogie_parse.proofs.Faults.SettledTools.{StopsBy, SteadyBy, Steady, MaybeBy, Maybe, stop_as, first, next, perhaps, steady_all, weaker, by_head, by_limit, taken_none, mapped, tail, steady_tail, by_seen, seen_first, seen_next, seen_shorter, there_as, there_behind, none_there, nothing_there, maybe_head, maybe_tail, maybe_seen, one_maybe, separated_steady, unrolled, repeated_steady}
use Rattle.boogie_parse.proofs.Faults.SettledExpressions.{expression_steady, no_expression}

-- ---- words, marks and names

pub steady_behind : (end : Span) (w : Fixed) (ts : List Symbol) → Steady 1 (behind end w) ts
unfolding behind
steady_behind end w ts = seen_first w (λ us o. must_be end us o) ts tt (λ t r e. taken_none t.span r)

name_sign : (t : Symbol) (r : List Symbol) (s : Sign) → Steady 1 (tail (λ us. name_by t.span us s)) (t ∷ r)
name_sign t r (signs.Name x) = steady_tail (λ us. name_by t.span us (signs.Name x)) t r (taken_none (record { span = t.span; text = x }) r)
name_sign t r (signs.Fixed w) = tt
name_sign t r (signs.Number n) = tt

pub steady_name : (end : Span) (ts : List Symbol) → Steady 1 (name_at end) ts
unfolding name_at
steady_name end [] = tt
steady_name end (t ∷ r) = by_head 1 (tail (λ us. name_by t.span us t.sign)) (name_at end) t r (λ us. refl) (name_sign t r t.sign)

abbrev past : Read Name → ReadResult Name
past x = Err (limit_fault limits.Variables x.value.span)

past_sign : (t : Symbol) (r : List Symbol) (s : Sign) → Steady 1 (tail (λ us. name_by t.span us s >>= past)) (t ∷ r)
past_sign t r (signs.Name x) = by_limit 1 (tail (λ us. name_by t.span us (signs.Name x) >>= past)) t r limits.Variables (λ us. refl)
past_sign t r (signs.Fixed w) = tt
past_sign t r (signs.Number n) = tt

pub steady_new_name : (end : Span) (n : ℕ) (ts : List Symbol) → Steady 1 (new_name end n) ts
unfolding new_name name_at
steady_new_name end zero [] = tt
steady_new_name end zero (t ∷ r) = by_head 1 (tail (λ us. name_by t.span us t.sign >>= past)) (new_name end zero) t r (λ us. refl) (past_sign t r t.sign)
steady_new_name end (suc n) ts = steady_name end ts

pub no_new_name : (end : Span) (n : ℕ) → name_item end n [] ≡ refused end []
unfolding new_name name_at
no_new_name end zero = refl
no_new_name end (suc n) = refl

pub steady_names : (end : Span) (n : ℕ) (ts : List Symbol) → Steady 1 (names_at end n) ts
unfolding names_at
steady_names end n ts = separated_steady (name_item end) end (λ m us. mapped 1 (new_name end m) one (λ x. x ∷ []) us (λ x r. refl) (λ e. refl) (steady_new_name end m us)) (no_new_name end) n ts

-- names, whatever room there is
abbrev pub plain_item : Span → ℕ → List Symbol → ReadResult (List Name)
plain_item end n us = one (name_at end us)

pub plain_steady : (end : Span) (n : ℕ) (us : List Symbol) → Steady 1 (plain_item end n) us
plain_steady end n us = mapped 1 (name_at end) one (λ x. x ∷ []) us (λ x r. refl) (λ e. refl) (steady_name end us)

pub no_plain : (end : Span) (n : ℕ) → plain_item end n [] ≡ refused end []
unfolding name_at
no_plain end n = refl

-- as many names as symbols find room
pub room_enough : (end : Span) (k n m : ℕ) (us : List Symbol) → length us ≤ n → separated (name_item end) end n k us ≡ separated (plain_item end) end m k us
unfolding separated new_name name_at
room_enough end zero n m us low = refl
room_enough end (suc k) zero m [] low = refl
room_enough end (suc k) (suc n) m [] low = refl
room_enough end (suc k) zero m (t ∷ us) low = absurd (omega (arith, low))
room_enough end (suc k) (suc n) m (t ∷ us) low = by (λ a b vs h. room_enough end k a b vs h) t.sign
  where
    short : ((a b : ℕ) (vs : List Symbol) → length vs ≤ a → separated (name_item end) end a k vs ≡ separated (plain_item end) end b k vs) → (x : Name) (o : Option (Read Span)) → IfSome o (λ c. length c.rest < length us) →
        more_by (separated (name_item end) end (suc n - length (x ∷ [])) k) (x ∷ []) us o ≡ more_by (separated (plain_item end) end (m - length (x ∷ [])) k) (x ∷ []) us o
    short again x None h = refl
    short again x (Some c) h = ap (with_front (x ∷ [])) (again (suc n - length (x ∷ [])) (m - length (x ∷ [])) c.rest (omega (arith, low, h)))

    by : ((a b : ℕ) (vs : List Symbol) → length vs ≤ a → separated (name_item end) end a k vs ≡ separated (plain_item end) end b k vs) → (s : Sign) →
        (one (name_by t.span us s) >>= (λ xs. more_by (separated (name_item end) end (suc n - length xs.value) k) xs.value xs.rest (seen fixed.Comma xs.rest)))
        ≡ (one (name_by t.span us s) >>= (λ xs. more_by (separated (plain_item end) end (m - length xs.value) k) xs.value xs.rest (seen fixed.Comma xs.rest)))
    by again (signs.Name x) = short again (record { span = t.span; text = x }) (seen fixed.Comma us) (seen_shorter fixed.Comma us)
    by again (signs.Fixed w) = refl
    by again (signs.Number n) = refl

abbrev pub plain_names : Span → ℕ → List Symbol → ReadResult (List Name)
plain_names end n us = separated (plain_item end) end n (length us) us

pub all_names : (end : Span) (us : List Symbol) → names_at end (length us) us ≡ plain_names end 0 us
unfolding names_at
all_names end us = room_enough end (length us) (length us) 0 us (omega arith)

pub steady_all_names : (end : Span) (ts : List Symbol) → Steady 1 (λ us. names_at end (length us) us) ts
steady_all_names end ts = steady_all 1 (plain_names end 0) (λ us. names_at end (length us) us) ts (all_names end) (separated_steady (plain_item end) end (plain_steady end) (no_plain end) 0 ts)

-- the names behind the first one
abbrev pub names_behind : Span → Name → List Symbol → ReadResult (List Name)
names_behind end x us = more_by (plain_names end (0 - length (x ∷ []))) (x ∷ []) us (seen fixed.Comma us)

pub names_from : (end : Span) (t : Symbol) (x : List ℕ) (us : List Symbol) → t.sign ≡ signs.Name x → names_at end (length (t ∷ us)) (t ∷ us) ≡ names_behind end (record { span = t.span; text = x }) us
unfolding name_at
names_from end t x us e =
    all_names end (t ∷ us) ∙ unrolled (plain_item end) end (plain_steady end) (no_plain end) 0 (t ∷ us)
    ∙ ap (λ s. one (name_by t.span us s) >>= (λ xs. more_by (plain_names end (0 - length xs.value)) xs.value xs.rest (seen fixed.Comma xs.rest))) e

pub steady_names_behind : (end : Span) (x : Name) (ts : List Symbol) → Steady 0 (names_behind end x) ts
steady_names_behind end x ts =
    let n : ℕ = 0 - length (x ∷ []) in
    seen_next fixed.Comma (λ us o. more_by (plain_names end n) (x ∷ []) us o) ts (taken_none (x ∷ []) ts)
    (λ t r e.
    weaker (λ us. with_front (x ∷ []) (plain_names end n us)) r
    (mapped 1 (plain_names end n) (with_front (x ∷ [])) (λ ys. x ∷ ys) r (λ ys us. refl) (λ e. refl) (separated_steady (plain_item end) end (plain_steady end) (no_plain end) n r)))

-- ---- lists

type_option : (t : Symbol) (r : List Symbol) (o : Option Ty) → Steady 1 (tail (λ us. type_by t.span us o)) (t ∷ r)
type_option t r None = tt
type_option t r (Some ty) = steady_tail (λ us. type_by t.span us (Some ty)) t r (taken_none ty r)

pub steady_type : (end : Span) (ts : List Symbol) → Steady 1 (type_at end) ts
unfolding type_at
steady_type end [] = tt
steady_type end (t ∷ r) = by_head 1 (tail (λ us. type_by t.span us (type_said t.sign))) (type_at end) t r (λ us. refl) (type_option t r (type_said t.sign))

pub steady_listed_names : (end : Span) (ts : List Symbol) → Steady 1 (listed_names end) ts
unfolding listed_names
steady_listed_names end ts =
    first (λ us. names_at end (length us) us) _ ts (steady_all_names end ts) (λ xs.
    next (behind end fixed.Semicolon) _ xs.rest (steady_behind end fixed.Semicolon xs.rest) (λ semicolon. taken_none xs.value semicolon.rest))

pub steady_group : (end : Span) (n : ℕ) (ts : List Symbol) → Steady 1 (group_at end n) ts
unfolding group_at
steady_group end n ts =
    first (names_at end n) _ ts (steady_names end n ts) (λ xs.
    next (behind end fixed.Colon) _ xs.rest (steady_behind end fixed.Colon xs.rest) (λ colon.
    next (type_at end) _ colon.rest (steady_type end colon.rest) (λ ty. taken_none _ ty.rest)))

pub no_group : (end : Span) (n : ℕ) → group_at end n [] ≡ refused end []
unfolding group_at names_at separated
no_group end n = refl

pub steady_variables : (end : Span) (n : ℕ) (ts : List Symbol) → Steady 1 (variables_at end n) ts
unfolding variables_at
steady_variables end n ts = separated_steady (group_at end) end (steady_group end) (no_group end) n ts

pub steady_declared : (end : Span) (n : ℕ) (ts : List Symbol) → Steady 1 (declared_behind end n) ts
unfolding declared_behind
steady_declared end n ts =
    first (variables_at end n) _ ts (steady_variables end n ts) (λ vs.
    next (behind end fixed.Semicolon) _ vs.rest (steady_behind end fixed.Semicolon vs.rest) (λ semicolon. taken_none vs.value semicolon.rest))

pub steady_opened : (end : Span) (w : Fixed) (p : ℕ) (ts : List Symbol) → Steady 1 (opened end w p) ts
unfolding opened behind
steady_opened end w zero ts =
    by_seen 1 w (λ us o. opened_by zero (must_be end us o)) ts tt
    (λ t r e. by_limit 1 (tail (λ us. opened_by zero (must_be end (t ∷ us) (Some (record { value = t.span; rest = us }))))) t r limits.Nesting (λ us. refl))
steady_opened end w (suc p) ts = seen_first w (λ us o. opened_by (suc p) (must_be end us o)) ts tt (λ t r e. taken_none p r)

pub steady_closed : {X : Type 0} (end : Span) (x : X) (ts : List Symbol) → Steady 0 (closed end x) ts
steady_closed end x ts = next (behind end fixed.CloseParenthesis) _ ts (steady_behind end fixed.CloseParenthesis ts) (λ parenthesis. taken_none x parenthesis.rest)

pub steady_listed : {X : Type 0} (end : Span) (f : List Symbol → ReadResult (List X)) → ((us : List Symbol) → Steady 1 f us) → (ts : List Symbol) → Steady 0 (λ us. listed_by end f us (seen fixed.CloseParenthesis us)) ts
steady_listed end f h ts = seen_next fixed.CloseParenthesis (λ us o. listed_by end f us o) ts (next f _ ts (h ts) (λ xs. steady_closed end xs.value xs.rest)) (λ t r e. taken_none [] r)

pub steady_formals : (end : Span) (p n : ℕ) (ts : List Symbol) → Steady 1 (formals_at end p n) ts
unfolding formals_at
steady_formals end p n ts =
    first (opened end fixed.OpenParenthesis p) _ ts (steady_opened end fixed.OpenParenthesis p ts) (λ inner. steady_listed end (variables_at end n) (steady_variables end n) inner.rest)

pub steady_results : (end : Span) (p n : ℕ) (ts : List Symbol) → Steady 0 (results_at end p n) ts
unfolding results_at
steady_results end p n ts = seen_next fixed.Returns (λ us o. results_by end p n us o) ts (taken_none [] ts) (λ t r e. weaker (formals_at end p n) r (steady_formals end p n r))

pub steady_local : (end : Span) (n : ℕ) (ts : List Symbol) → Maybe (local_at end n) ts
unfolding local_at
steady_local end n ts = maybe_seen fixed.Var (λ us o. local_by end n o) (λ t us. declared_behind end n us) ts (λ t us. refl) (λ m s. refl) (λ t r. weaker (declared_behind end n) r (steady_declared end n r))

pub no_local : (end : Span) (n : ℕ) → local_at end n [] ≡ Ok None
unfolding local_at seen
no_local end n = refl

pub steady_locals : (end : Span) (n : ℕ) (ts : List Symbol) → Steady 0 (locals_at end n) ts
unfolding locals_at
steady_locals end n ts = repeated_steady (local_at end) length (steady_local end) (no_local end) n ts

pub steady_modifies : (end : Span) (ts : List Symbol) → Steady 0 (modifies_at end) ts
unfolding modifies_at
steady_modifies end ts = seen_next fixed.Semicolon (λ us o. modifies_by end us o) ts (next (listed_names end) _ ts (steady_listed_names end ts) (λ xs. taken_none _ xs.rest)) (λ t r e. taken_none _ r)

pub steady_head : (end : Span) (p v : ℕ) (here : Span) (ts : List Symbol) → Steady 1 (head_at end p v here) ts
unfolding head_at
steady_head end p v here ts =
    first (name_at end) _ ts (steady_name end ts) (λ x.
    next (formals_at end p v) _ x.rest (steady_formals end p v x.rest) (λ ps.
    perhaps (results_at end p (v - length ps.value)) _ ps.rest (steady_results end p (v - length ps.value) ps.rest) (λ rs. taken_none _ rs.rest)))

-- ---- statements without expressions

pub steady_break : (end here : Span) (ts : List Symbol) → Steady 0 (break_at end here) ts
unfolding break_at
steady_break end here ts =
    seen_next fixed.Semicolon (λ us o. break_by end here us o) ts
    (next (name_at end) _ ts (steady_name end ts) (λ x. next (behind end fixed.Semicolon) _ x.rest (steady_behind end fixed.Semicolon x.rest) (λ semicolon. taken_none _ semicolon.rest)))
    (λ t r e. taken_none _ r)

pub steady_return : (end here : Span) (ts : List Symbol) → Steady 0 (return_at end here) ts
unfolding return_at
steady_return end here ts = next (behind end fixed.Semicolon) _ ts (steady_behind end fixed.Semicolon ts) (λ semicolon. taken_none _ semicolon.rest)

pub steady_havoc : (end here : Span) (ts : List Symbol) → Steady 0 (havoc_at end here) ts
unfolding havoc_at
steady_havoc end here ts = next (listed_names end) _ ts (steady_listed_names end ts) (λ xs. taken_none _ xs.rest)

pub steady_goto : (end here : Span) (ts : List Symbol) → Steady 0 (goto_at end here) ts
unfolding goto_at
steady_goto end here ts = next (listed_names end) _ ts (steady_listed_names end ts) (λ xs. taken_none _ xs.rest)

-- what opens a block is so; a branch from its `if` on
pub record SteadyInside (i : Inside) : Type 0 where
  pub block : (ts : List Symbol) → Steady 1 i.block ts
  pub branch : (t : Symbol) (r : List Symbol) → Steady 1 (tail (i.branch t.span)) (t ∷ r)

-- it must stand there
abbrev pub standing : {X : Type 0} → Span → List Symbol → Possible X → ReadResult X
standing end ts (Ok None) = Err (syntax_fault (place_or end ts))
standing end ts (Ok (Some r)) = Ok r
standing end ts (Err f) = Err f

pub steady_standing : {X : Type 0} (end : Span) (R : List Symbol → Possible X) (ts : List Symbol) → Maybe R ts → Steady 1 (λ us. standing end us (R us)) ts
steady_standing {X} end R ts h = by (R ts) h
  where
    by : (o : Possible X) → MaybeBy R ts o → SteadyBy 1 (λ us. standing end us (R us)) ts (standing end ts o)
    by (Ok None) h = tt
    by (Ok (Some a)) g = record { front = g.front; taken = g.taken; parts = g.parts; again = λ m s. ap (standing end (g.front ++ m)) (g.again m s) }
    by (Err f) w = stop_as R (λ us. standing end us (R us)) [] ts ts f refl (λ m s e q. ap (standing end m) q) w

module _ (reads : ℕ → List Symbol → ReadResult Expression) (end : Span) (steady : (p : ℕ) (ts : List Symbol) → Steady 1 (reads p) ts) (none : (p : ℕ) → reads p [] ≡ refused end []) (p : ℕ) where
  pub steady_expressions : (q : ℕ) (ts : List Symbol) → Steady 1 (expressions_at reads end q) ts
  unfolding expressions_at
  steady_expressions q ts = separated_steady (expression_item reads q) end (λ n us. mapped 1 (reads q) one (λ x. x ∷ []) us (λ x r. refl) (λ e. refl) (steady q us)) (λ n. ap one (none q)) 0 ts

  pub steady_arguments : (ts : List Symbol) → Steady 1 (arguments_at reads end p) ts
  unfolding arguments_at
  steady_arguments ts = first (opened end fixed.OpenParenthesis p) _ ts (steady_opened end fixed.OpenParenthesis p ts) (λ inner. steady_listed end (expressions_at reads end inner.value) (steady_expressions inner.value) inner.rest)

  pub steady_guard_by : (q : ℕ) (ts : List Symbol) → Steady 0 (λ us. guard_by reads end q us (seen fixed.Star us)) ts
  steady_guard_by q ts = seen_next fixed.Star (λ us o. guard_by reads end q us o) ts (next (reads q) _ ts (steady q ts) (λ e. steady_closed end _ e.rest)) (λ t r e. steady_closed end Any r)

  pub steady_guard : (ts : List Symbol) → Steady 1 (guard_at reads end p) ts
  unfolding guard_at
  steady_guard ts = first (opened end fixed.OpenParenthesis p) _ ts (steady_opened end fixed.OpenParenthesis p ts) (λ inner. steady_guard_by inner.value inner.rest)

  pub steady_claim : (ts : List Symbol) → Steady 1 (claim_at reads end p) ts
  unfolding claim_at
  steady_claim ts = first (reads p) _ ts (steady p ts) (λ e. next (behind end fixed.Semicolon) _ e.rest (steady_behind end fixed.Semicolon e.rest) (λ semicolon. taken_none e.value semicolon.rest))

  pub steady_condition : (free : Bool) (here : Span) (ts : List Symbol) → Steady 0 (λ us. condition_behind reads end p free (record { value = here; rest = us })) ts
  unfolding condition_behind
  steady_condition free here ts = next (claim_at reads end p) _ ts (steady_claim ts) (λ e. taken_none _ e.rest)

  pub steady_invariant : (ts : List Symbol) → Maybe (invariant_at reads end p) ts
  unfolding invariant_at
  steady_invariant ts =
      maybe_seen fixed.Free (λ us o. invariant_by reads end p o (seen fixed.Invariant us)) (λ t us. behind end fixed.Invariant us >>= (λ word. condition_behind reads end p true word)) ts (λ t us. refl)
      (maybe_seen fixed.Invariant (λ us o. invariant_by reads end p None o) (λ t us. condition_behind reads end p false (record { value = t.span; rest = us })) ts (λ t us. refl) (λ m s. refl) (λ t r. steady_condition false t.span r))
      (λ t r. next (behind end fixed.Invariant) _ r (steady_behind end fixed.Invariant r) (λ word. steady_condition true word.value word.rest))

  pub no_invariant : (n : ℕ) → invariant_item reads end p n [] ≡ Ok None
  unfolding invariant_at seen
  no_invariant n = refl

  pub steady_invariants : (ts : List Symbol) → Steady 0 (invariants_at reads end p) ts
  unfolding invariants_at
  steady_invariants ts = repeated_steady (invariant_item reads end p) length (λ n us. one_maybe (invariant_at reads end p) us (steady_invariant us)) no_invariant 0 ts

  pub steady_assert : (here : Span) (ts : List Symbol) → Steady 0 (assert_at reads end p here) ts
  unfolding assert_at
  steady_assert here ts = next (claim_at reads end p) _ ts (steady_claim ts) (λ e. taken_none _ e.rest)

  pub steady_assume : (here : Span) (ts : List Symbol) → Steady 0 (assume_at reads end p here) ts
  unfolding assume_at
  steady_assume here ts = next (claim_at reads end p) _ ts (steady_claim ts) (λ e. taken_none _ e.rest)

  pub steady_called : (here : Span) (xs : List Name) (x : Name) (ts : List Symbol) → Steady 1 (called_at reads end p here xs x) ts
  unfolding called_at
  steady_called here xs x ts = first (arguments_at reads end p) _ ts (steady_arguments ts) (λ es. next (behind end fixed.Semicolon) _ es.rest (steady_behind end fixed.Semicolon es.rest) (λ semicolon. taken_none _ semicolon.rest))

  -- an assignment from its first target on
  pub steady_assign : (here : Span) (t : Symbol) (x : List ℕ) → t.sign ≡ signs.Name x → (ts : List Symbol) → Steady 0 (λ us. assign_at reads end p here (t ∷ us)) ts
  unfolding assign_at
  steady_assign here t x is ts =
      steady_all 0 (λ us. names_behind end (record { span = t.span; text = x }) us >>= rest) (λ us. assign_at reads end p here (t ∷ us)) ts (λ us. ap (λ z. z >>= rest) (names_from end t x us is))
      (perhaps (names_behind end (record { span = t.span; text = x })) rest ts (steady_names_behind end (record { span = t.span; text = x }) ts) (λ xs.
      next (behind end fixed.Becomes) _ xs.rest (steady_behind end fixed.Becomes xs.rest) (λ becomes.
      next (expressions_at reads end p) _ becomes.rest (steady_expressions p becomes.rest) (λ es.
      next (behind end fixed.Semicolon) _ es.rest (steady_behind end fixed.Semicolon es.rest) (λ semicolon. taken_none _ semicolon.rest)))))
    where
      rest : Read (List Name) → ReadResult Statement
      rest xs = do
        becomes ← behind end fixed.Becomes xs.rest
        es ← expressions_at reads end p becomes.rest
        semicolon ← behind end fixed.Semicolon es.rest
        read (Assign here xs.value es.value) semicolon.rest

  -- a call from its first result on
  pub steady_into : (here : Span) (t : Symbol) (x : List ℕ) → t.sign ≡ signs.Name x → (ts : List Symbol) → Steady 0 (λ us. call_into reads end p here (t ∷ us)) ts
  unfolding call_into
  steady_into here t x is ts =
      steady_all 0 (λ us. names_behind end (record { span = t.span; text = x }) us >>= rest) (λ us. call_into reads end p here (t ∷ us)) ts (λ us. ap (λ z. z >>= rest) (names_from end t x us is))
      (perhaps (names_behind end (record { span = t.span; text = x })) rest ts (steady_names_behind end (record { span = t.span; text = x }) ts) (λ xs.
      next (behind end fixed.Becomes) _ xs.rest (steady_behind end fixed.Becomes xs.rest) (λ becomes.
      next (name_at end) _ becomes.rest (steady_name end becomes.rest) (λ f. weaker (called_at reads end p here xs.value f.value) f.rest (steady_called here xs.value f.value f.rest)))))
    where
      rest : Read (List Name) → ReadResult Statement
      rest xs = do
        becomes ← behind end fixed.Becomes xs.rest
        f ← name_at end becomes.rest
        called_at reads end p here xs.value f.value f.rest

  call_sign : (here : Span) (t : Symbol) (r : List Symbol) (s : Sign) → t.sign ≡ s →
      Steady 1 (tail (λ us. name_by t.span us s >>= (λ f. call_by reads end p here (t ∷ us) f (seen fixed.OpenParenthesis f.rest)))) (t ∷ r)
  call_sign here t r (signs.Name x) is =
      let f : Name = record { span = t.span; text = x } in
      steady_tail (λ us. call_by reads end p here (t ∷ us) (record { value = f; rest = us }) (seen fixed.OpenParenthesis us)) t r
      (by_seen 0 fixed.OpenParenthesis (λ us o. call_by reads end p here (t ∷ us) (record { value = f; rest = us }) o) r (steady_into here t x is r)
      (λ u n e.
      by_head 0 (called_at reads end p here [] f) (tail (λ us. called_at reads end p here [] f (u ∷ us))) u n (λ us. refl)
      (weaker (called_at reads end p here [] f) (u ∷ n) (steady_called here [] f (u ∷ n)))))
  call_sign here t r (signs.Fixed w) is = tt
  call_sign here t r (signs.Number n) is = tt

  pub steady_call : (here : Span) (ts : List Symbol) → Steady 1 (call_at reads end p here) ts
  unfolding call_at name_at
  steady_call here [] = tt
  steady_call here (t ∷ r) =
      by_head 1 (tail (λ us. name_by t.span us t.sign >>= (λ f. call_by reads end p here (t ∷ us) f (seen fixed.OpenParenthesis f.rest)))) (call_at reads end p here) t r (λ us. refl) (call_sign here t r t.sign refl)

  -- a label or an assignment, behind its name
  pub steady_named : (t : Symbol) (x : List ℕ) → t.sign ≡ signs.Name x → (ts : List Symbol) → Steady 0 (λ us. named_at reads end p (record { span = t.span; text = x }) (t ∷ us) us) ts
  unfolding named_at
  steady_named t x is ts =
      seen_next fixed.Colon (λ us o. named_by reads end p (record { span = t.span; text = x }) (t ∷ us) o) ts (steady_assign t.span t x is ts) (λ u r e. taken_none _ r)

  pub steady_loop : (i : Inside) → SteadyInside i → (here : Span) (ts : List Symbol) → Steady 0 (loop_at reads end p i.block here) ts
  unfolding loop_at
  steady_loop i k here ts =
      next (guard_at reads end p) _ ts (steady_guard ts) (λ g.
      perhaps (invariants_at reads end p) _ g.rest (steady_invariants g.rest) (λ is.
      next i.block _ is.rest (k.block is.rest) (λ b. taken_none _ b.rest)))

  pub steady_other : (i : Inside) → SteadyInside i → (ts : List Symbol) → Steady 0 (λ us. other_by i us (seen fixed.If us)) ts
  steady_other i k ts =
      by_seen 0 fixed.If (λ us o. other_by i us o) ts (weaker i.block ts (k.block ts))
      (λ t r e.
      by_head 0 (λ us. tail (i.branch t.span) us >>= (λ s. read (Then s.value Empty) s.rest)) (tail (λ us. other_by i (t ∷ us) (Some (record { value = t.span; rest = us })))) t r (λ us. refl)
      (next (tail (i.branch t.span)) (λ s. read (Then s.value Empty) s.rest) (t ∷ r) (k.branch t r) (λ s. taken_none _ s.rest)))

  pub steady_else : (i : Inside) → SteadyInside i → (here : Span) (g : Guard) (a : Block) (ts : List Symbol) → Steady 0 (λ us. else_by i here g a us (seen fixed.Else us)) ts
  steady_else i k here g a ts =
      seen_next fixed.Else (λ us o. else_by i here g a us o) ts (taken_none (If here g a Empty) ts)
      (λ t r e. perhaps (λ us. other_by i us (seen fixed.If us)) (λ b. read (If here g a b.value) b.rest) r (steady_other i k r) (λ b. taken_none _ b.rest))

  pub steady_branch : (i : Inside) → SteadyInside i → (t : Symbol) (r : List Symbol) → Steady 1 (tail (branch_by reads end p i t.span)) (t ∷ r)
  unfolding branch_by
  steady_branch i k t r =
      steady_tail (branch_by reads end p i t.span) t r
      (next (guard_at reads end p) _ r (steady_guard r) (λ g.
      next i.block _ g.rest (k.block g.rest) (λ a. steady_else i k t.span g.value a.value a.rest)))

  statement_sign : (i : Inside) → SteadyInside i → (t : Symbol) (r : List Symbol) (s : Sign) → t.sign ≡ s → Maybe (maybe_tail (λ us. statement_by reads end p i t us s)) (t ∷ r)
  statement_sign i k t r (signs.Fixed fixed.Assert) is = there_behind (assert_at reads end p t.span) (maybe_tail (λ us. there (assert_at reads end p t.span us))) t r (λ us. refl) (steady_assert t.span r)
  statement_sign i k t r (signs.Fixed fixed.Assume) is = there_behind (assume_at reads end p t.span) (maybe_tail (λ us. there (assume_at reads end p t.span us))) t r (λ us. refl) (steady_assume t.span r)
  statement_sign i k t r (signs.Fixed fixed.Havoc) is = there_behind (havoc_at end t.span) (maybe_tail (λ us. there (havoc_at end t.span us))) t r (λ us. refl) (steady_havoc end t.span r)
  statement_sign i k t r (signs.Fixed fixed.Call) is =
      there_behind (call_at reads end p t.span) (maybe_tail (λ us. there (call_at reads end p t.span us))) t r (λ us. refl) (weaker (call_at reads end p t.span) r (steady_call t.span r))
  statement_sign i k t r (signs.Fixed fixed.If) is = there_as (tail (branch_by reads end p i t.span)) (maybe_tail (λ us. there (branch_by reads end p i t.span us))) t r (λ us. refl) (steady_branch i k t r)
  statement_sign i k t r (signs.Fixed fixed.While) is = there_behind (loop_at reads end p i.block t.span) (maybe_tail (λ us. there (loop_at reads end p i.block t.span us))) t r (λ us. refl) (steady_loop i k t.span r)
  statement_sign i k t r (signs.Fixed fixed.Break) is = there_behind (break_at end t.span) (maybe_tail (λ us. there (break_at end t.span us))) t r (λ us. refl) (steady_break end t.span r)
  statement_sign i k t r (signs.Fixed fixed.Goto) is = there_behind (goto_at end t.span) (maybe_tail (λ us. there (goto_at end t.span us))) t r (λ us. refl) (steady_goto end t.span r)
  statement_sign i k t r (signs.Fixed fixed.Return) is = there_behind (return_at end t.span) (maybe_tail (λ us. there (return_at end t.span us))) t r (λ us. refl) (steady_return end t.span r)
  statement_sign i k t r (signs.Name x) is =
      there_behind (λ us. named_at reads end p (record { span = t.span; text = x }) (t ∷ us) us) (maybe_tail (λ us. there (named_at reads end p (record { span = t.span; text = x }) (t ∷ us) us))) t r (λ us. refl) (steady_named t x is r)
  statement_sign i k t r s is = none_there (maybe_tail (λ us. Ok None)) t r (λ us. refl)

  pub steady_statement : (i : Inside) → SteadyInside i → (ts : List Symbol) → Maybe (statement_at reads end p i) ts
  unfolding statement_at
  steady_statement i k [] = nothing_there (statement_at reads end p i) refl
  steady_statement i k (t ∷ r) = maybe_head (maybe_tail (λ us. statement_by reads end p i t us t.sign)) (statement_at reads end p i) t r (λ us. refl) (statement_sign i k t r t.sign refl)

  pub no_statement : (i : Inside) (n : ℕ) → statement_item reads end p i n [] ≡ Ok None
  unfolding statement_at
  no_statement i n = refl

  pub steady_list : (i : Inside) → SteadyInside i → (ts : List Symbol) → Steady 0 (list_at reads end p i) ts
  unfolding list_at
  steady_list i k ts = repeated_steady (statement_item reads end p i) length (λ n us. one_maybe (statement_at reads end p i) us (steady_statement i k us)) (no_statement i) 0 ts

  pub steady_block : (i : Inside) → SteadyInside i → (ts : List Symbol) → Steady 1 (block_by reads end p i) ts
  unfolding block_by
  steady_block i k ts =
      first (behind end fixed.OpenBrace) _ ts (steady_behind end fixed.OpenBrace ts) (λ brace.
      perhaps (list_at reads end p i) _ brace.rest (steady_list i k brace.rest) (λ ss.
      next (behind end fixed.CloseBrace) _ ss.rest (steady_behind end fixed.CloseBrace ss.rest) (λ closing. taken_none _ closing.rest)))

  pub steady_no_block : (ts : List Symbol) → Steady 1 (no_block reads end p) ts
  unfolding no_block behind
  steady_no_block ts =
      by_seen 1 fixed.OpenBrace (λ us o. must_be end us o >>= too_many) ts tt
      (λ t r e. by_limit 1 (tail (λ us. must_be end (t ∷ us) (Some (record { value = t.span; rest = us })) >>= too_many)) t r limits.Nesting (λ us. refl))
    where
      too_many : Read Span → ReadResult Block
      too_many brace = Err (limit_fault limits.Nesting brace.value)

  pub steady_no_branch : (t : Symbol) (r : List Symbol) → Steady 1 (tail (no_branch reads end p t.span)) (t ∷ r)
  unfolding no_branch
  steady_no_branch t r = by_limit 1 (tail (no_branch reads end p t.span)) t r limits.Nesting (λ us. refl)

  pub steady_inside : (b : ℕ) → SteadyInside (inside_at reads end p b)
  unfolding inside_at
  steady_inside zero = record { block = steady_no_block; branch = steady_no_branch }
  steady_inside (suc b) = let k = steady_inside b in record { block = steady_block (inside_at reads end p b) k; branch = steady_branch (inside_at reads end p b) k }

  pub steady_requires : (free : Bool) (here : Span) (ts : List Symbol) → Steady 0 (λ us. requires_at reads end p free (record { value = here; rest = us })) ts
  unfolding requires_at
  steady_requires free here ts = perhaps (λ us. condition_behind reads end p free (record { value = here; rest = us })) _ ts (steady_condition free here ts) (λ i. taken_none _ i.rest)

  pub steady_ensures : (free : Bool) (here : Span) (ts : List Symbol) → Steady 0 (λ us. ensures_at reads end p free (record { value = here; rest = us })) ts
  unfolding ensures_at
  steady_ensures free here ts = perhaps (λ us. condition_behind reads end p free (record { value = here; rest = us })) _ ts (steady_condition free here ts) (λ i. taken_none _ i.rest)

  pub steady_claimed : (free : Bool) (ts : List Symbol) → Maybe (claimed_at reads end p free) ts
  unfolding claimed_at
  steady_claimed free ts =
      maybe_seen fixed.Requires (λ us o. claimed_by reads end p free o (seen fixed.Ensures us)) (λ t us. requires_at reads end p free (record { value = t.span; rest = us })) ts (λ t us. refl)
      (maybe_seen fixed.Ensures (λ us o. claimed_by reads end p free None o) (λ t us. ensures_at reads end p free (record { value = t.span; rest = us })) ts (λ t us. refl) (λ m s. refl) (λ t r. steady_ensures free t.span r))
      (λ t r. steady_requires free t.span r)

  must_is : (ts : List Symbol) (x : Possible Specification) → must_stand reads end p ts x ≡ there (standing end ts x)
  must_is ts (Ok None) = refl
  must_is ts (Ok (Some r)) = refl
  must_is ts (Err f) = refl

  pub steady_specification : (ts : List Symbol) → Maybe (specification_at reads end p) ts
  unfolding specification_at free_at
  steady_specification ts =
      maybe_seen fixed.Free (λ us o. specification_by reads end p us o (seen fixed.Modifies us)) (λ t us. standing end us (claimed_at reads end p true us)) ts (λ t us. must_is us (claimed_at reads end p true us))
      (maybe_seen fixed.Modifies (λ us o. specification_by reads end p us None o) (λ t us. modifies_at end us) ts (λ t us. refl) (steady_claimed false ts) (λ t r. steady_modifies end r))
      (λ t r. weaker (λ us. standing end us (claimed_at reads end p true us)) r (steady_standing end (claimed_at reads end p true) r (steady_claimed true r)))

  pub no_specification : (n : ℕ) → specification_item reads end p n [] ≡ Ok None
  unfolding specification_at claimed_at seen
  no_specification n = refl

  pub steady_specifications : (ts : List Symbol) → Steady 0 (specifications_at reads end p) ts
  unfolding specifications_at
  steady_specifications ts = repeated_steady (specification_item reads end p) length (λ n us. one_maybe (specification_at reads end p) us (steady_specification us)) no_specification 0 ts

  pub steady_axiom : (here : Span) (ts : List Symbol) → Steady 0 (axiom_at reads end p here) ts
  unfolding axiom_at
  steady_axiom here ts = next (claim_at reads end p) _ ts (steady_claim ts) (λ e. taken_none _ e.rest)

  module _ (b : ℕ) where
    pub steady_body : (n : ℕ) (ts : List Symbol) → Steady 1 (body_at reads end p b n) ts
    unfolding body_at
    steady_body n ts =
        first (opened end fixed.OpenBrace b) _ ts (steady_opened end fixed.OpenBrace b ts) (λ inner.
        perhaps (locals_at end n) _ inner.rest (steady_locals end n inner.rest) (λ vs.
        perhaps (list_at reads end p (inside_at reads end p inner.value)) _ vs.rest (steady_list (inside_at reads end p inner.value) (steady_inside inner.value) vs.rest) (λ ss.
        next (behind end fixed.CloseBrace) _ ss.rest (steady_behind end fixed.CloseBrace ss.rest) (λ closing. taken_none _ closing.rest))))

    module _ (v : ℕ) where
      steady_procedure_by : (h : Head) (ts : List Symbol) → Steady 0 (λ us. procedure_by reads end p b v h us (seen fixed.Semicolon us)) ts
      steady_procedure_by h ts =
          seen_next fixed.Semicolon (λ us o. procedure_by reads end p b v h us o) ts
          (perhaps (specifications_at reads end p) _ ts (steady_specifications ts) (λ ss.
          next (body_at reads end p b (room_behind v h)) _ ss.rest (steady_body (room_behind v h) ss.rest) (λ x. taken_none _ x.rest)))
          (λ t r e. perhaps (specifications_at reads end p) _ r (steady_specifications r) (λ ss. taken_none _ ss.rest))

      steady_procedure : (here : Span) (ts : List Symbol) → Steady 0 (procedure_at reads end p b v here) ts
      unfolding procedure_at
      steady_procedure here ts = next (head_at end p v here) _ ts (steady_head end p v here ts) (λ h. steady_procedure_by h.value h.rest)

      steady_implementation : (here : Span) (ts : List Symbol) → Steady 0 (implementation_at reads end p b v here) ts
      unfolding implementation_at
      steady_implementation here ts =
          next (head_at end p v here) _ ts (steady_head end p v here ts) (λ h.
          next (body_at reads end p b (room_behind v h.value)) _ h.rest (steady_body (room_behind v h.value) h.rest) (λ x. taken_none _ x.rest))

      steady_new_procedure : (n : ℕ) (t : Symbol) (r : List Symbol) → Steady 1 (tail (new_procedure reads end p b v n t.span)) (t ∷ r)
      unfolding new_procedure
      steady_new_procedure zero t r = by_limit 1 (tail (new_procedure reads end p b v zero t.span)) t r limits.Procedures (λ us. refl)
      steady_new_procedure (suc n) t r = steady_tail (procedure_at reads end p b v t.span) t r (steady_procedure t.span r)

      steady_constants : (ts : List Symbol) → Steady 0 (constants_at reads end p b v) ts
      unfolding constants_at
      steady_constants ts = next (declared_behind end v) _ ts (steady_declared end v ts) (λ vs. taken_none _ vs.rest)

      steady_globals : (ts : List Symbol) → Steady 0 (globals_at reads end p b v) ts
      unfolding globals_at
      steady_globals ts = next (declared_behind end v) _ ts (steady_declared end v ts) (λ vs. taken_none _ vs.rest)

      declaration_sign : (n : ℕ) (t : Symbol) (r : List Symbol) (s : Sign) → Maybe (maybe_tail (λ us. declaration_by reads end p b v n t.span us s)) (t ∷ r)
      declaration_sign n t r (signs.Fixed fixed.Const) = there_behind (constants_at reads end p b v) (maybe_tail (λ us. there (constants_at reads end p b v us))) t r (λ us. refl) (steady_constants r)
      declaration_sign n t r (signs.Fixed fixed.Var) = there_behind (globals_at reads end p b v) (maybe_tail (λ us. there (globals_at reads end p b v us))) t r (λ us. refl) (steady_globals r)
      declaration_sign n t r (signs.Fixed fixed.Axiom) = there_behind (axiom_at reads end p t.span) (maybe_tail (λ us. there (axiom_at reads end p t.span us))) t r (λ us. refl) (steady_axiom t.span r)
      declaration_sign n t r (signs.Fixed fixed.Procedure) =
          there_as (tail (new_procedure reads end p b v n t.span)) (maybe_tail (λ us. there (new_procedure reads end p b v n t.span us))) t r (λ us. refl) (steady_new_procedure n t r)
      declaration_sign n t r (signs.Fixed fixed.Implementation) =
          there_behind (implementation_at reads end p b v t.span) (maybe_tail (λ us. there (implementation_at reads end p b v t.span us))) t r (λ us. refl) (steady_implementation t.span r)
      declaration_sign n t r s = none_there (maybe_tail (λ us. Ok None)) t r (λ us. refl)

      pub steady_declaration : (n : ℕ) (ts : List Symbol) → Maybe (declaration_at reads end p b v n) ts
      unfolding declaration_at
      steady_declaration n [] = nothing_there (declaration_at reads end p b v n) refl
      steady_declaration n (t ∷ r) = maybe_head (maybe_tail (λ us. declaration_by reads end p b v n t.span us t.sign)) (declaration_at reads end p b v n) t r (λ us. refl) (declaration_sign n t r t.sign)

      no_declaration : (n : ℕ) → declaration_at reads end p b v n [] ≡ Ok None
      unfolding declaration_at
      no_declaration n = refl

      steady_declarations : (n : ℕ) (ts : List Symbol) → Steady 0 (declarations_at reads end p b v n) ts
      unfolding declarations_at
      steady_declarations n ts = repeated_steady (declaration_at reads end p b v) procedures_counted steady_declaration no_declaration n ts

      -- behind the declarations no limit is left
      no_limit : (ds : Read (List Declaration)) (ts : List Symbol) (kind : Which) (line col : ℕ) → finished end ds ts ≡ Err (faults.Limit kind line col) → ⊥
      no_limit ds [] kind line col is = cc
      no_limit ds (t ∷ ts) kind line col is = cc

      settled_by : (n : ℕ) (ts : List Symbol) (kind : Which) (line col : ℕ) (o : ReadResult (List Declaration)) → SteadyBy 0 (declarations_at reads end p b v n) ts o → (o >>= (λ ds. finished end ds ds.rest)) ≡ Err (faults.Limit kind line col) →
          IsSettled (List Declaration) (program_at reads end p b v n) ts kind line col
      unfolding program_at
      settled_by n ts kind line col (Ok ds) g is = absurd (no_limit ds ds.rest kind line col is)
      settled_by n ts kind line col (Err f) w is =
          let one : f ≡ faults.Limit kind line col = cc in
          subst (StopsBy (program_at reads end p b v n) ts) one (stop_as (declarations_at reads end p b v n) (program_at reads end p b v n) [] ts ts f refl (λ m s e q. ap (λ z. z >>= (λ ds. finished end ds ds.rest)) q) w)

      program-settled : (n : ℕ) (ts : List Symbol) (kind : Which) (line col : ℕ) → program_at reads end p b v n ts ≡ Err (faults.Limit kind line col) → IsSettled (List Declaration) (program_at reads end p b v n) ts kind line col
      unfolding program_at
      program-settled n ts kind line col is = settled_by n ts kind line col (declarations_at reads end p b v n ts) (steady_declarations n ts) is

pub at_steady : (end : Span) (p : ℕ) (ts : List Symbol) → Steady 1 (expression_at end p) ts
unfolding expression_at
at_steady end p ts = expression_steady end p 200 ts

pub no_at : (end : Span) (p : ℕ) → expression_at end p [] ≡ refused end []
unfolding expression_at
no_at end p = no_expression end p 200

pub limit_settled : (end : Span) (p b v n : ℕ) (ts : List Symbol) (kind : Which) (line col : ℕ) → program_at (expression_at end) end p b v n ts ≡ Err (faults.Limit kind line col) →
    IsSettled (List Declaration) (program_at (expression_at end) end p b v n) ts kind line col
limit_settled end p b v n ts kind line col is = program-settled (expression_at end) end (at_steady end) (no_at end) p b v n ts kind line col is

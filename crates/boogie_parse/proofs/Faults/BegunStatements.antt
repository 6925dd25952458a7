-- A limit in a statement stands at a symbol up to which such a statement begins.
use Rattle.std.proofs.Common.{◌≡◌, ℕ, zero, suc, List, [], ◌∷◌, length, Option, None, Some, IfSome, Err, IfOk, refl, sym, ap, subst}
use Rattle.boogie_tree.specs.declared.span.Span.{Span}
use Rattle.boogie_tree.specs.declared.tree.Name.{Name}
use Rattle.boogie_tree.specs.Tree.{Guard, Invariant, Statement, Block, Empty}
use Rattle.boogie_tree.specs.View.{block}
use Rattle.boogie_parse.specs.declared.fault.Which.TheVariants as limits
use Rattle.boogie_parse.specs.declared.symbols.Fixed.{Fixed}
use Rattle.boogie_parse.specs.declared.symbols.Fixed.TheVariants as fixed
use Rattle.boogie_parse.specs.declared.symbols.Sign.{Sign}
use Rattle.boogie_parse.specs.declared.symbols.Sign.TheVariants as signs
use Rattle.boogie_parse.specs.declared.symbols.Symbol.{Symbol}
use Rattle.boogie_tree.specs.declared.level.Level.TheVariants.{Equivalence}
use Rattle.boogie_parse.proofs.Faults.BegunExpressions.{Spells}
use Rattle.boogie_parse.specs.Reading.Outcomes.{Read, ReadResult, limit_fault}
use Rattle.boogie_parse.specs.Rules.Grammar.{Is}
use Rattle.boogie_parse.specs.Rules.GrammarStatements as grammar
use Rattle.boogie_parse.specs.Rules.GrammarStatements.{ReadsStatement, ReadsIf, ReadsBlock, ReadsList}
use Rattle.boogie_parse.specs.Rules.GrammarLists.{either_way, no_invariant}
use Rattle.boogie_parse.specs.Reading.ListReading.{◌>>=◌, seen, must_be, behind, name_by, name_at, names_at, listed_names, expression_at, expressions_at, arguments_at, guard_at, claim_at, invariants_at}
use Rattle.boogie_parse.specs.Reading.StatementReading.{Inside, other_by, else_by, break_by, break_at, return_at, havoc_at, goto_at, assert_at, assume_at, assign_at, called_at, call_into, call_by, call_at, named_by, named_at, loop_at, branch_by, statement_by, statement_at, statement_item, list_at, no_block, block_by, no_branch, inside_at}
use Rattle.boogie_parse.proofs.Faults.SettledTools.{Steady, one_maybe}
use Rattle.boogie_parse.proofs.Faults.SettledPrograms.{SteadyInside, steady_name, steady_all_names, steady_arguments, steady_guard, steady_invariants, steady_statement, steady_list, steady_inside, at_steady, no_at}
use Rattle.boogie_parse.proofs.Rules.ListSound.{weaker, Stands, seen-sound}
use Rattle.boogie_parse.proofs.Rules.ConditionSound.{IsGuardRead, AreInvariants, guard-sound, invariants-sound, expression_at-sound}
use Rattle.boogie_parse.proofs.Rules.StatementSound.{IsInside, IsBlockRead, IsStatementRead, AreStatements, statement-sound, inside-sound, list-sound}
use Rattle.boogie_parse.proofs.Rules.WeakerRoom.{weak_guard, weak_invariants, weak_statement, weak_block, weak_list}
use Rattle.boogie_parse.proofs.Faults.BegunTools.{Relation, Mark, mark, BegunIf, Filled, begun_at, begun_map, begun_behind, begun_there, begun_one_there, begun_then, a_mark, begun_marked, begun_end, begun_read, behind_word, EndedBy, begun_ended, repeated_begun}
use Rattle.boogie_parse.proofs.Faults.BegunLists.{AName, a_name, Names, some_name, is_some_name, name_sound, begun_name, begun_names, names_sound, begun_listed_names, Expressions, begun_expressions, expressions_sound, steady_all, filled_expressions, Arguments, begun_arguments, arguments_sound, filled_arguments, Guarded, begun_guard, Claimed, begun_claim, Invariants, begun_invariants, there_sound}

abbrev pub Stated : ℕ → ℕ → Relation
Stated p b n r = (s : Statement) × ReadsStatement (suc p) (suc (suc b)) n s r

abbrev Branched : ℕ → ℕ → Relation
Branched p b n r = (s : Statement) × ReadsIf (suc p) (suc (suc b)) n s r

-- the branch of an `else if`
abbrev Within : ℕ → ℕ → Relation
Within p b n r = (s : Statement) × ReadsIf (suc p) (suc b) n s r

abbrev Blocked : ℕ → ℕ → Relation
Blocked p b n r = (x : Block) × ReadsBlock (suc p) (suc (suc b)) n x r

abbrev pub Statements : ℕ → ℕ → Relation
Statements p b n r = (x : Block) × ReadsList (suc p) (suc (suc b)) n x r

-- ---- claims, lists of names and what has no part that is limited

asserted_by : (p b : ℕ) (t : Symbol) (n m r : List Symbol) → Is t fixed.Assert → Spells p Equivalence n m → Mark fixed.Semicolon m r → Stated p b (t ∷ n) r
asserted_by p b t n m r it e (mark u iu) = (_, grammar.asserts t u it e.1 iu)

assumed_by : (p b : ℕ) (t : Symbol) (n m r : List Symbol) → Is t fixed.Assume → Spells p Equivalence n m → Mark fixed.Semicolon m r → Stated p b (t ∷ n) r
assumed_by p b t n m r it e (mark u iu) = (_, grammar.assumes t u it e.1 iu)

havocked_by : (p b : ℕ) (t : Symbol) (n m r : List Symbol) → Is t fixed.Havoc → Names n m → Mark fixed.Semicolon m r → Stated p b (t ∷ n) r
havocked_by p b t n m r it e (mark u iu) = (_, grammar.havocs t u it e.1 iu)

gone_by : (p b : ℕ) (t : Symbol) (n m r : List Symbol) → Is t fixed.Goto → Names n m → Mark fixed.Semicolon m r → Stated p b (t ∷ n) r
gone_by p b t n m r it e (mark u iu) = (_, grammar.goes_to t u it e.1 iu)

begun_assert : (end : Span) (p b : ℕ) (t : Symbol) (us : List Symbol) → Is t fixed.Assert → BegunIf (Stated p b) (t ∷ us) (assert_at (expression_at end) end p t.span us)
unfolding assert_at
begun_assert end p b t us it =
    begun_behind (Claimed p) (Stated p b) t us _ (λ n r h. asserted_by p b t n h.0 r it h.1.0 h.1.1) (begun_read (Claimed p) us (claim_at (expression_at end) end p us) _ (begun_claim end p us))

begun_assume : (end : Span) (p b : ℕ) (t : Symbol) (us : List Symbol) → Is t fixed.Assume → BegunIf (Stated p b) (t ∷ us) (assume_at (expression_at end) end p t.span us)
unfolding assume_at
begun_assume end p b t us it =
    begun_behind (Claimed p) (Stated p b) t us _ (λ n r h. assumed_by p b t n h.0 r it h.1.0 h.1.1) (begun_read (Claimed p) us (claim_at (expression_at end) end p us) _ (begun_claim end p us))

begun_havoc : (end : Span) (p b : ℕ) (t : Symbol) (us : List Symbol) → Is t fixed.Havoc → BegunIf (Stated p b) (t ∷ us) (havoc_at end t.span us)
unfolding havoc_at
begun_havoc end p b t us it =
    begun_behind (EndedBy Names fixed.Semicolon) (Stated p b) t us _ (λ n r h. havocked_by p b t n h.0 r it h.1.0 h.1.1) (begun_read (EndedBy Names fixed.Semicolon) us (listed_names end us) _ (begun_listed_names end us))

begun_goto : (end : Span) (p b : ℕ) (t : Symbol) (us : List Symbol) → Is t fixed.Goto → BegunIf (Stated p b) (t ∷ us) (goto_at end t.span us)
unfolding goto_at
begun_goto end p b t us it =
    begun_behind (EndedBy Names fixed.Semicolon) (Stated p b) t us _ (λ n r h. gone_by p b t n h.0 r it h.1.0 h.1.1) (begun_read (EndedBy Names fixed.Semicolon) us (listed_names end us) _ (begun_listed_names end us))

begun_return : (K : Relation) (end here : Span) (us : List Symbol) → BegunIf K us (return_at end here us)
unfolding return_at
begun_return K end here us = begun_end K _ end fixed.Semicolon us

broken_by : (p b : ℕ) (t : Symbol) (n m r : List Symbol) → Is t fixed.Break → AName n m → Mark fixed.Semicolon m r → Stated p b (t ∷ n) r
broken_by p b t n m r it (a_name x ix) (mark u iu) = (_, grammar.breaks_from t x u it ix iu)

break_begun : (end : Span) (p b : ℕ) (t : Symbol) (us : List Symbol) (o : Option (Read Span)) → Is t fixed.Break → BegunIf (Stated p b) (t ∷ us) (break_by end t.span us o)
break_begun end p b t us (Some a) it = tt
break_begun end p b t us None it =
    begun_behind (EndedBy AName fixed.Semicolon) (Stated p b) t us _ (λ n r h. broken_by p b t n h.0 r it h.1.0 h.1.1)
    (begun_ended 1 (name_at end) _ end fixed.Semicolon AName us (steady_name end us) (name_sound end) (begun_name AName end us))

begun_break : (end : Span) (p b : ℕ) (t : Symbol) (us : List Symbol) → Is t fixed.Break → BegunIf (Stated p b) (t ∷ us) (break_at end t.span us)
unfolding break_at
begun_break end p b t us it = break_begun end p b t us (seen fixed.Semicolon us) it

-- ---- assignments and calls

-- `:=` and what follows it
abbrev Assigned : ℕ → Relation
Assigned p n r = (m : List Symbol) × (Mark fixed.Becomes n m × EndedBy (Expressions (suc p)) fixed.Semicolon m r)

assigns_by : (p b : ℕ) (n m k l r : List Symbol) → Names n m → Mark fixed.Becomes m k → Expressions (suc p) k l → Mark fixed.Semicolon l r → Stated p b n r
assigns_by p b n m k l r xs (mark t it) es (mark u iu) = (_, grammar.assigns t u xs.1 it es.1 iu)

pub filled_ended : (G : Relation) (f : Fixed) → Filled G → Filled (EndedBy G f)
filled_ended G f x = record { symbols = λ r. x.symbols (a_mark f ∷ r); fills = λ r. (a_mark f ∷ r, (x.fills (a_mark f ∷ r), mark (a_mark f) refl)) }

begun_assign : (end : Span) (p b : ℕ) (here : Span) (us : List Symbol) → BegunIf (Stated p b) us (assign_at (expression_at end) end p here us)
unfolding assign_at
begun_assign end p b here us =
    begun_then 1 (λ vs. names_at end (length vs) vs) _ Names (Assigned p) (Stated p b) us (steady_all_names end us) (λ vs. names_sound end (length vs) vs)
    (λ n m r xs h. assigns_by p b n m h.0 h.1.1.0 r xs h.1.0 h.1.1.1.0 h.1.1.1.1)
    (let x = filled_ended (Expressions (suc p)) fixed.Semicolon (filled_expressions p) in
    record { symbols = λ r. a_mark fixed.Becomes ∷ x.symbols r; fills = λ r. (x.symbols r, (mark (a_mark fixed.Becomes) refl, x.fills r)) })
    (begun_names end 0 (length us) us)
    (λ xs vs.
    begun_marked end fixed.Becomes _ (EndedBy (Expressions (suc p)) fixed.Semicolon) (Assigned p) vs (λ n m r k h. (m, (k, h))) (filled_ended (Expressions (suc p)) fixed.Semicolon (filled_expressions p))
    (λ becomes ws. begun_ended 1 (expressions_at (expression_at end) end p) _ end fixed.Semicolon (Expressions (suc p)) ws (steady_all end p ws) (expressions_sound end p) (begun_expressions end p ws)))

-- the arguments of a call and its semicolon
abbrev Called : ℕ → Relation
Called p = EndedBy (Arguments p) fixed.Semicolon

begun_called : (end : Span) (p : ℕ) (here : Span) (xs : List Name) (f : Name) (us : List Symbol) → BegunIf (Called p) us (called_at (expression_at end) end p here xs f us)
unfolding called_at
begun_called end p here xs f us =
    begun_ended 1 (arguments_at (expression_at end) end p) _ end fixed.Semicolon (Arguments p) us (steady_arguments (expression_at end) end (at_steady end) (no_at end) p us) (arguments_sound end p) (begun_arguments end p us)

filled_called : (p : ℕ) → Filled (Called p)
filled_called p = filled_ended (Arguments p) fixed.Semicolon (filled_arguments p)

-- the procedure and its arguments
abbrev Named : ℕ → Relation
Named p n r = (m : List Symbol) × (AName n m × Called p m r)

filled_named : (p : ℕ) → Filled (Named p)
filled_named p = let x = filled_called p in record { symbols = λ r. some_name ∷ x.symbols r; fills = λ r. (x.symbols r, (a_name some_name is_some_name, x.fills r)) }

-- `:=`, the procedure and its arguments
abbrev Into : ℕ → Relation
Into p n r = (m : List Symbol) × (Mark fixed.Becomes n m × Named p m r)

filled_into : (p : ℕ) → Filled (Into p)
filled_into p = let x = filled_named p in record { symbols = λ r. a_mark fixed.Becomes ∷ x.symbols r; fills = λ r. (x.symbols r, (mark (a_mark fixed.Becomes) refl, x.fills r)) }

-- a call behind its word
abbrev Calls : ℕ → ℕ → Relation
Calls p b n r = (t : Symbol) → Is t fixed.Call → Stated p b (t ∷ n) r

calls_into_by : (p b : ℕ) (n m k l i r : List Symbol) → Names n m → Mark fixed.Becomes m k → AName k l → Arguments p l i → Mark fixed.Semicolon i r → Calls p b n r
calls_into_by p b n m k l i r xs (mark c ic) (a_name f nf) es (mark u iu) t it = (_, grammar.calls_into t c f u it xs.1 ic nf es.1 iu)

calls_by : (p b : ℕ) (n m k r : List Symbol) → AName n m → Arguments p m k → Mark fixed.Semicolon k r → Calls p b n r
calls_by p b n m k r (a_name f nf) es (mark u iu) t it = (_, grammar.calls t f u it nf es.1 iu)

begun_into : (end : Span) (p b : ℕ) (here : Span) (us : List Symbol) → BegunIf (Calls p b) us (call_into (expression_at end) end p here us)
unfolding call_into
begun_into end p b here us =
    begun_then 1 (λ vs. names_at end (length vs) vs) _ Names (Into p) (Calls p b) us (steady_all_names end us) (λ vs. names_sound end (length vs) vs)
    (λ n m r xs h. calls_into_by p b n m h.0 h.1.1.0 h.1.1.1.1.0 r xs h.1.0 h.1.1.1.0 h.1.1.1.1.1.0 h.1.1.1.1.1.1)
    (filled_into p) (begun_names end 0 (length us) us)
    (λ xs vs.
    begun_marked end fixed.Becomes _ (Named p) (Into p) vs (λ n m r k h. (m, (k, h))) (filled_named p)
    (λ becomes ws.
    begun_then 1 (name_at end) _ AName (Called p) (Named p) ws (steady_name end ws) (name_sound end) (λ n m r x h. (m, (x, h))) (filled_called p) (begun_name AName end ws)
    (λ f is. begun_called end p here xs f is)))

call_named : (end : Span) (p b : ℕ) (here : Span) (t : Symbol) (us : List Symbol) (x : List ℕ) → t.sign ≡ signs.Name x → (o : Option (Read Span)) →
    BegunIf (Calls p b) (t ∷ us) (call_by (expression_at end) end p here (t ∷ us) (record { value = record { span = t.span; text = x }; rest = us }) o)
call_named end p b here t us x is (Some a) =
    let f : Name = record { span = t.span; text = x } in
    begun_behind (Called p) (Calls p b) t us (called_at (expression_at end) end p here [] f us)
    (λ n r h. calls_by p b (t ∷ n) n h.0 r (a_name {x = f} t (record { sign = is; span = refl })) h.1.0 h.1.1) (begun_called end p here [] f us)
call_named end p b here t us x is None = begun_into end p b here (t ∷ us)

call_of_sign : (end : Span) (p b : ℕ) (here : Span) (t : Symbol) (us : List Symbol) (s : Sign) → t.sign ≡ s →
    BegunIf (Calls p b) (t ∷ us) (name_by t.span us s >>= (λ f. call_by (expression_at end) end p here (t ∷ us) f (seen fixed.OpenParenthesis f.rest)))
call_of_sign end p b here t us (signs.Name x) is = call_named end p b here t us x is (seen fixed.OpenParenthesis us)
call_of_sign end p b here t us (signs.Fixed w) is = tt
call_of_sign end p b here t us (signs.Number n) is = tt

begun_call : (end : Span) (p b : ℕ) (here : Span) (us : List Symbol) → BegunIf (Calls p b) us (call_at (expression_at end) end p here us)
unfolding call_at name_at
begun_call end p b here [] = tt
begun_call end p b here (t ∷ us) = call_of_sign end p b here t us t.sign refl

named_begun : (end : Span) (p b : ℕ) (x : Name) (ts : List Symbol) (o : Option (Read Span)) → BegunIf (Stated p b) ts (named_by (expression_at end) end p x ts o)
named_begun end p b x ts (Some a) = tt
named_begun end p b x ts None = begun_assign end p b x.span ts

begun_named : (end : Span) (p b : ℕ) (x : Name) (ts us : List Symbol) → BegunIf (Stated p b) ts (named_at (expression_at end) end p x ts us)
unfolding named_at
begun_named end p b x ts us = named_begun end p b x ts (seen fixed.Colon us)

-- ---- loops and branches

-- how what opens a block is read
record BegunInside (end : Span) (p b : ℕ) (i : Inside) : Type 0 where
  steady : SteadyInside i
  sound : (us : List Symbol) → IfOk (i.block us) (λ a. Blocked p b us a.rest)
  block : (us : List Symbol) → BegunIf (Blocked p b) us (i.block us)
  branch : (t : Symbol) (us : List Symbol) → Is t fixed.If → BegunIf (Within p b) (t ∷ us) (i.branch t.span us)

guard_sound : (end : Span) (p : ℕ) (us : List Symbol) → IfOk (guard_at (expression_at end) end p us) (λ a. Guarded p us a.rest)
guard_sound end p us =
    weaker (λ (x : Read Guard). IsGuardRead p us x.value x.rest) (λ a. Guarded p us a.rest) (guard_at (expression_at end) end p us) (guard-sound (expression_at end) end (expression_at-sound end) p us) (λ a h. (a.value, weak_guard h.0))

invariants_sound : (end : Span) (p : ℕ) (us : List Symbol) → IfOk (invariants_at (expression_at end) end p us) (λ a. Invariants p us a.rest)
invariants_sound end p us =
    weaker (λ (x : Read (List Invariant)). AreInvariants p us x.value x.rest) (λ a. Invariants p us a.rest) (invariants_at (expression_at end) end p us) (invariants-sound (expression_at end) end (expression_at-sound end) p us)
    (λ a h. (a.value, weak_invariants h.0))

steady_guarded : (end : Span) (p : ℕ) (us : List Symbol) → Steady 1 (guard_at (expression_at end) end p) us
steady_guarded end p us = steady_guard (expression_at end) end (at_steady end) (no_at end) p us

-- an empty block
abbrev emptied : List Symbol → List Symbol
emptied r = a_mark fixed.OpenBrace ∷ a_mark fixed.CloseBrace ∷ r

filled_block : (p b : ℕ) → Filled (Blocked p b)
filled_block p b = record { symbols = emptied; fills = λ r. (Empty, grammar.block (a_mark fixed.OpenBrace) (a_mark fixed.CloseBrace) refl grammar.no_statement refl) }

-- the invariants of a loop and its block
abbrev Looped : ℕ → ℕ → Relation
Looped p b n r = (m : List Symbol) × (Invariants p n m × Blocked p b m r)

filled_loop : (p b : ℕ) → Filled (Looped p b)
filled_loop p b = let x = filled_block p b in record { symbols = x.symbols; fills = λ r. (x.symbols r, (([], no_invariant), x.fills r)) }

begun_loop : (end : Span) (p b : ℕ) (i : Inside) → BegunInside end p b i → (t : Symbol) (us : List Symbol) → Is t fixed.While → BegunIf (Stated p b) (t ∷ us) (loop_at (expression_at end) end p i.block t.span us)
unfolding loop_at
begun_loop end p b i k t us it =
    begun_behind (λ n r. Stated p b (t ∷ n) r) (Stated p b) t us _ (λ n r h. h)
    (begun_then 1 (guard_at (expression_at end) end p) _ (Guarded p) (Looped p b) (λ n r. Stated p b (t ∷ n) r) us (steady_guarded end p us) (guard_sound end p)
    (λ n m r g h. (_, grammar.loops t it g.1 h.1.0.1 h.1.1.1)) (filled_loop p b) (begun_guard end p us)
    (λ g vs.
    begun_then 0 (invariants_at (expression_at end) end p) _ (Invariants p) (Blocked p b) (Looped p b) vs (steady_invariants (expression_at end) end (at_steady end) (no_at end) p vs) (invariants_sound end p)
    (λ n m r is h. (m, (is, h))) (filled_block p b) (begun_invariants end p vs)
    (λ is ws. begun_read (Blocked p b) ws (i.block ws) _ (k.block ws))))

-- what stands behind a branch's block
data Else (p b : ℕ) : List Symbol → List Symbol → Type 0 where
  no_else : {r : List Symbol} → Else p b r r
  else_block : {n r : List Symbol} (u : Symbol) → Is u fixed.Else → Blocked p b n r → Else p b (u ∷ n) r
  else_branch : {n r : List Symbol} (u : Symbol) → Is u fixed.Else → Within p b n r → Else p b (u ∷ n) r

-- a block, or a branch from its word on
data Other (p b : ℕ) : List Symbol → List Symbol → Type 0 where
  other_block : {n r : List Symbol} → Blocked p b n r → Other p b n r
  other_branch : {n r : List Symbol} → Within p b n r → Other p b n r

begun_other : (end : Span) (p b : ℕ) (i : Inside) → BegunInside end p b i → (us : List Symbol) (o : Option (Read Span)) → IfSome o (Stands fixed.If us) → BegunIf (Other p b) us (other_by i us o)
begun_other end p b i k us None s = begun_map (Blocked p b) (Other p b) us (i.block us) (λ n r h. other_block h) (k.block us)
begun_other end p b i k us (Some word) s =
    let h : BegunIf (Within p b) (s.symbol ∷ word.rest) (i.branch s.symbol.span word.rest) = k.branch s.symbol word.rest s.is in
    let w : BegunIf (Within p b) (s.symbol ∷ word.rest) (i.branch word.value word.rest) = subst (λ x. BegunIf (Within p b) (s.symbol ∷ word.rest) (i.branch x word.rest)) s.here h in
    let v : BegunIf (Within p b) us (i.branch word.value word.rest) = subst (λ x. BegunIf (Within p b) x (i.branch word.value word.rest)) (sym s.all) w in
    begun_map (Within p b) (Other p b) us (other_by i us (Some word)) (λ n r h. other_branch h) (begun_read (Within p b) us (i.branch word.value word.rest) _ v)

else_by_other : (p b : ℕ) (u : Symbol) (n r : List Symbol) → Is u fixed.Else → Other p b n r → Else p b (u ∷ n) r
else_by_other p b u n r iu (other_block h) = else_block u iu h
else_by_other p b u n r iu (other_branch h) = else_branch u iu h

begun_else : (end : Span) (p b : ℕ) (i : Inside) → BegunInside end p b i → (here : Span) (g : Guard) (x : Block) (us : List Symbol) (o : Option (Read Span)) → IfSome o (Stands fixed.Else us) →
    BegunIf (Else p b) us (else_by i here g x us o)
begun_else end p b i k here g x us None s = tt
begun_else end p b i k here g x us (Some word) s =
    behind_word fixed.Else (Other p b) (Else p b) us word s (else_by i here g x us (Some word)) (λ t n r it h. else_by_other p b t n r it h)
    (begun_read (Other p b) word.rest (other_by i word.rest (seen fixed.If word.rest)) _ (begun_other end p b i k word.rest (seen fixed.If word.rest) (seen-sound fixed.If word.rest)))

-- the block of a branch and what stands behind it
abbrev Parted : ℕ → ℕ → Relation
Parted p b n r = (m : List Symbol) × (Blocked p b n m × Else p b m r)

join_branch : (p b : ℕ) (t : Symbol) (n m k r : List Symbol) → Is t fixed.If → Guarded p n m → Blocked p b m k → Else p b k r → Branched p b (t ∷ n) r
join_branch p b t n m k r it g x no_else = (_, grammar.without_else t it g.1 x.1)
join_branch p b t n m k r it g x (else_block u iu y) = (_, grammar.with_else t u it g.1 x.1 iu y.1)
join_branch p b t n m k r it g x (else_branch u iu y) = (_, grammar.with_else_if t u it g.1 x.1 iu y.1)

filled_parted : (p b : ℕ) → Filled (Parted p b)
filled_parted p b = let x = filled_block p b in record { symbols = x.symbols; fills = λ r. (r, (x.fills r, no_else)) }

begun_branch : (end : Span) (p b : ℕ) (i : Inside) → BegunInside end p b i → (t : Symbol) (us : List Symbol) → Is t fixed.If → BegunIf (Branched p b) (t ∷ us) (branch_by (expression_at end) end p i t.span us)
unfolding branch_by
begun_branch end p b i k t us it =
    begun_behind (λ n r. Branched p b (t ∷ n) r) (Branched p b) t us _ (λ n r h. h)
    (begun_then 1 (guard_at (expression_at end) end p) _ (Guarded p) (Parted p b) (λ n r. Branched p b (t ∷ n) r) us (steady_guarded end p us) (guard_sound end p)
    (λ n m r g h. join_branch p b t n m h.0 r it g h.1.0 h.1.1) (filled_parted p b) (begun_guard end p us)
    (λ g vs.
    begun_then 1 i.block _ (Blocked p b) (Else p b) (Parted p b) vs (k.steady.block vs) k.sound (λ n m r x h. (m, (x, h))) (record { symbols = λ r. r; fills = λ r. no_else }) (k.block vs)
    (λ x ws. begun_else end p b i k t.span g x ws (seen fixed.Else ws) (seen-sound fixed.Else ws))))

-- ---- statements

abbrev Semicolon : Relation
Semicolon = Mark fixed.Semicolon

returned : (p b : ℕ) (t : Symbol) (n r : List Symbol) → Is t fixed.Return → Semicolon n r → Stated p b (t ∷ n) r
returned p b t n r it (mark u iu) = (_, grammar.returns t u it iu)

begun_by_sign : (end : Span) (p b : ℕ) (i : Inside) → BegunInside end p b i → (t : Symbol) (us : List Symbol) (s : Sign) → t.sign ≡ s → BegunIf (Stated p b) (t ∷ us) (statement_by (expression_at end) end p i t us s)
begun_by_sign end p b i k t us (signs.Fixed fixed.Assert) is = begun_there (Stated p b) (t ∷ us) (assert_at (expression_at end) end p t.span us) (begun_assert end p b t us is)
begun_by_sign end p b i k t us (signs.Fixed fixed.Assume) is = begun_there (Stated p b) (t ∷ us) (assume_at (expression_at end) end p t.span us) (begun_assume end p b t us is)
begun_by_sign end p b i k t us (signs.Fixed fixed.Havoc) is = begun_there (Stated p b) (t ∷ us) (havoc_at end t.span us) (begun_havoc end p b t us is)
begun_by_sign end p b i k t us (signs.Fixed fixed.Call) is =
    begun_there (Stated p b) (t ∷ us) (call_at (expression_at end) end p t.span us)
    (begun_behind (Calls p b) (Stated p b) t us (call_at (expression_at end) end p t.span us) (λ n r h. h t is) (begun_call end p b t.span us))
begun_by_sign end p b i k t us (signs.Fixed fixed.If) is =
    begun_there (Stated p b) (t ∷ us) (branch_by (expression_at end) end p i t.span us)
    (begun_map (Branched p b) (Stated p b) (t ∷ us) (branch_by (expression_at end) end p i t.span us) (λ n r h. (h.0, grammar.branches h.1)) (begun_branch end p b i k t us is))
begun_by_sign end p b i k t us (signs.Fixed fixed.While) is = begun_there (Stated p b) (t ∷ us) (loop_at (expression_at end) end p i.block t.span us) (begun_loop end p b i k t us is)
begun_by_sign end p b i k t us (signs.Fixed fixed.Break) is = begun_there (Stated p b) (t ∷ us) (break_at end t.span us) (begun_break end p b t us is)
begun_by_sign end p b i k t us (signs.Fixed fixed.Goto) is = begun_there (Stated p b) (t ∷ us) (goto_at end t.span us) (begun_goto end p b t us is)
begun_by_sign end p b i k t us (signs.Fixed fixed.Return) is =
    begun_there (Stated p b) (t ∷ us) (return_at end t.span us) (begun_behind Semicolon (Stated p b) t us (return_at end t.span us) (λ n r h. returned p b t n r is h) (begun_return Semicolon end t.span us))
begun_by_sign end p b i k t us (signs.Name x) is =
    begun_there (Stated p b) (t ∷ us) (named_at (expression_at end) end p (record { span = t.span; text = x }) (t ∷ us) us) (begun_named end p b (record { span = t.span; text = x }) (t ∷ us) us)
begun_by_sign end p b i k t us s is = tt

begun_statement : (end : Span) (p b : ℕ) (i : Inside) → BegunInside end p b i → (us : List Symbol) → BegunIf (Stated p b) us (statement_at (expression_at end) end p i us)
unfolding statement_at
begun_statement end p b i k [] = tt
begun_statement end p b i k (t ∷ us) = begun_by_sign end p b i k t us t.sign refl

begun_list : (end : Span) (p b : ℕ) (i : Inside) → BegunInside end p b i → IsInside p i b → (us : List Symbol) → BegunIf (Statements p b) us (list_at (expression_at end) end p i us)
unfolding list_at
begun_list end p b i k whole us =
    repeated_begun (statement_item (expression_at end) end p i) length (Stated p b) (Statements p b)
    (λ n vs. one_maybe (statement_at (expression_at end) end p i) vs (steady_statement (expression_at end) end (at_steady end) (no_at end) p i k.steady vs))
    (λ n vs. there_sound (λ x. IsStatementRead p b vs x.value x.rest) (Stated p b) vs (statement_at (expression_at end) end p i vs) (statement-sound (expression_at end) end p (expression_at-sound end) i b whole vs) (λ a h. (a.value, weak_statement h.0)))
    (λ n vs. begun_one_there (Stated p b) vs (statement_at (expression_at end) end p i vs) (begun_statement end p b i k vs))
    (λ r. (Empty, grammar.no_statement)) (λ n m r s x. (_, grammar.next_statement s.1 x.1)) (length us) 0 us

pub list_sound : (end : Span) (p b : ℕ) (us : List Symbol) → IfOk (list_at (expression_at end) end p (inside_at (expression_at end) end p b) us) (λ a. Statements p b us a.rest)
list_sound end p b us =
    weaker (λ (x : Read (List Statement)). AreStatements p b us x.value x.rest) (λ a. Statements p b us a.rest) (list_at (expression_at end) end p (inside_at (expression_at end) end p b) us)
    (list-sound (expression_at end) end p (expression_at-sound end) b us) (λ a h. (block a.value, weak_list h.0))

-- ---- blocks

braced_by : (p b : ℕ) (u : Symbol) (n m r : List Symbol) → Is u fixed.OpenBrace → Statements p b n m → Mark fixed.CloseBrace m r → Blocked p (suc b) (u ∷ n) r
braced_by p b u n m r iu x (mark v iv) = (_, grammar.block u v iu x.1 iv)

join_block : (p b : ℕ) (n m r : List Symbol) → Mark fixed.OpenBrace n m → EndedBy (Statements p b) fixed.CloseBrace m r → Blocked p (suc b) n r
join_block p b n m r (mark u iu) h = braced_by p b u m h.0 r iu h.1.0 h.1.1

begun_block : (end : Span) (p b : ℕ) → BegunInside end p b (inside_at (expression_at end) end p b) → (us : List Symbol) → BegunIf (Blocked p (suc b)) us (block_by (expression_at end) end p (inside_at (expression_at end) end p b) us)
unfolding block_by
begun_block end p b k us =
    begun_marked end fixed.OpenBrace _ (EndedBy (Statements p b) fixed.CloseBrace) (Blocked p (suc b)) us (join_block p b)
    (filled_ended (Statements p b) fixed.CloseBrace (record { symbols = λ r. r; fills = λ r. (Empty, grammar.no_statement) }))
    (λ brace vs.
    begun_ended 0 (list_at (expression_at end) end p (inside_at (expression_at end) end p b)) _ end fixed.CloseBrace (Statements p b) vs
    (steady_list (expression_at end) end (at_steady end) (no_at end) p (inside_at (expression_at end) end p b) k.steady vs) (list_sound end p b)
    (begun_list end p b (inside_at (expression_at end) end p b) k (inside-sound (expression_at end) end p (expression_at-sound end) b) vs))

no_block_by : (end : Span) (p : ℕ) (us : List Symbol) (o : Option (Read Span)) → IfSome o (Stands fixed.OpenBrace us) →
    BegunIf (Blocked p zero) us (must_be end us o >>= (λ brace. let x : ReadResult Block = Err (limit_fault limits.Nesting brace.value) in x))
no_block_by end p [] None s = tt
no_block_by end p (t ∷ us) None s = tt
no_block_by end p us (Some a) s = record {
  before = [];
  symbol = s.symbol;
  after = a.rest;
  parts = s.all;
  place = ap (limit_fault limits.Nesting) s.here;
  more = λ r. a_mark fixed.CloseBrace ∷ r;
  begins = λ r. (Empty, grammar.block s.symbol (a_mark fixed.CloseBrace) s.is grammar.no_statement refl);
}

begun_no_block : (end : Span) (p : ℕ) (us : List Symbol) → BegunIf (Blocked p zero) us (no_block (expression_at end) end p us)
unfolding no_block behind
begun_no_block end p us = no_block_by end p us (seen fixed.OpenBrace us) (seen-sound fixed.OpenBrace us)

begun_no_branch : (end : Span) (p : ℕ) (t : Symbol) (us : List Symbol) → Is t fixed.If → BegunIf (Within p zero) (t ∷ us) (no_branch (expression_at end) end p t.span us)
unfolding no_branch
begun_no_branch end p t us it =
    begun_at (Within p zero) t us limits.Nesting (λ r. a_mark fixed.OpenParenthesis ∷ a_mark fixed.Star ∷ a_mark fixed.CloseParenthesis ∷ emptied r)
    (λ r. (
      _,
      grammar.without_else t it (either_way (a_mark fixed.OpenParenthesis) (a_mark fixed.Star) (a_mark fixed.CloseParenthesis) refl refl refl)
          (grammar.block (a_mark fixed.OpenBrace) (a_mark fixed.CloseBrace) refl grammar.no_statement refl),
    ))

block_sound : (end : Span) (p b : ℕ) (us : List Symbol) → IfOk ((inside_at (expression_at end) end p b).block us) (λ a. Blocked p b us a.rest)
block_sound end p b us =
    let i : Inside = inside_at (expression_at end) end p b in
    let whole = inside-sound (expression_at end) end p (expression_at-sound end) b in
    weaker (λ (x : Read Block). IsBlockRead p b us x.value x.rest) (λ a. Blocked p b us a.rest) (i.block us) (whole.block_read us) (λ a h. (a.value, weak_block h.0))

begun_inside : (end : Span) (p b : ℕ) → BegunInside end p b (inside_at (expression_at end) end p b)
unfolding inside_at
begun_inside end p zero = record {
  steady = steady_inside (expression_at end) end (at_steady end) (no_at end) p zero;
  sound = block_sound end p zero;
  block = begun_no_block end p;
  branch = begun_no_branch end p;
}
begun_inside end p (suc b) =
    let k = begun_inside end p b in
    record {
      steady = steady_inside (expression_at end) end (at_steady end) (no_at end) p (suc b);
      sound = block_sound end p (suc b);
      block = begun_block end p b k;
      branch = λ t us it. begun_branch end p b (inside_at (expression_at end) end p b) k t us it;
    }

pub begun_statements : (end : Span) (p b : ℕ) (us : List Symbol) → BegunIf (Statements p b) us (list_at (expression_at end) end p (inside_at (expression_at end) end p b) us)
begun_statements end p b us = begun_list end p b (inside_at (expression_at end) end p b) (begun_inside end p b) (inside-sound (expression_at end) end p (expression_at-sound end) b) us

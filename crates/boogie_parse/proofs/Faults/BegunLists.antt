-- A limit in a list stands at a symbol up to which such a list begins.
use Rattle.std.proofs.Common.{◌≡◌, ◌⊎◌, inl, inr, ℕ, zero, suc, Bool, true, false, List, [], ◌∷◌, length, Option, None, Some, IfSome, Ok, Err, IfOk, refl, sym, subst}
use Rattle.boogie_tree.specs.declared.span.Span.{Span}
use Rattle.boogie_tree.specs.declared.level.Level.TheVariants.{Equivalence}
use Rattle.boogie_tree.specs.declared.tree.Name.{Name}
use Rattle.boogie_tree.specs.declared.tree.Ty.{Ty}
use Rattle.boogie_tree.specs.declared.tree.Ty.TheVariants as types
use Rattle.boogie_tree.specs.declared.tree.Vary.{Vary}
use Rattle.boogie_tree.specs.Tree.{Expression, Guard, Any, Invariant}
use Rattle.boogie_tree.specs.Places.{beginning}
use Rattle.boogie_parse.specs.declared.fault.Which.TheVariants as limits
use Rattle.boogie_parse.specs.declared.symbols.Fixed.{Fixed}
use Rattle.boogie_parse.specs.declared.symbols.Fixed.TheVariants as fixed
use Rattle.boogie_parse.specs.declared.symbols.Sign.{Sign}
use Rattle.boogie_parse.specs.declared.symbols.Sign.TheVariants as signs
use Rattle.boogie_parse.specs.declared.symbols.Symbol.{Symbol}
use Rattle.boogie_parse.specs.Reading.Outcomes.{Read, ReadResult, limit_fault}
use Rattle.boogie_parse.specs.Rules.Grammar.{Is, Reads}
use Rattle.boogie_parse.specs.Rules.GrammarLists as grammar
use Rattle.boogie_parse.specs.Rules.GrammarLists.{IsName, ReadsNames, ReadsExpressions, ReadsArguments, ReadsGuard, ReadsCondition, ReadsInvariants, type_named, ReadsGroup, ReadsVariables, ReadsDeclared, ReadsFormals, ReadsResults}
use Rattle.boogie_parse.specs.Reading.ListReading.{◌>>=◌, read, Possible, one, one_there, seen, behind, name_by, name_at, new_name, name_item, names_at, type_by, type_said, type_at, listed_names, group_at, variables_at, declared_behind, closed, listed_by, formals_at, results_by, results_at, expression_at, expression_item, expressions_at, arguments_at, guard_by, guard_at, claim_at, condition_behind, invariant_by, invariant_at, invariant_item, invariants_at}
use Rattle.boogie_parse.proofs.Faults.SettledTools.{Steady, mapped, one_maybe}
use Rattle.boogie_parse.proofs.Faults.SettledPrograms.{steady_new_name, steady_names, steady_all_names, steady_group, steady_variables, steady_expressions, steady_invariant, at_steady, no_at}
use Rattle.boogie_parse.proofs.Rules.ListSound.{weaker, Stands, seen-sound, Named, name-sound, NewName, new_name-sound, AreNames, names-sound, AreGroup, group-sound, AreVariables, variables-sound, AreFormals, formals-sound}
use Rattle.boogie_parse.proofs.Rules.ConditionSound.{IfThere, IsExpressionRead, AreExpressions, AreArguments, IsConditionRead, expressions-sound, arguments-sound, invariant-sound, expression_at-sound}
use Rattle.boogie_parse.proofs.Rules.WeakerRoom.{weak, weak_expressions, weak_arguments, weak_condition, weak_formals}
use Rattle.boogie_parse.proofs.Faults.BegunTools.{Relation, Mark, mark, BegunIf, Filled, begun_at, begun_map, begun_there, begun_one, begun_one_there, begun_then, a_mark, begun_marked, begun_end, begun_read, behind_word, EndedBy, begun_ended, begun_inside_it, separated_begun, repeated_begun}
use Rattle.boogie_parse.proofs.Faults.BegunExpressions.{Spells, a_number, at_equivalence, expression_begun}

-- ---- names and types

pub data AName : List Symbol → List Symbol → Type 0 where
  a_name : {r : List Symbol} {x : Name} (t : Symbol) → IsName t x → AName (t ∷ r) r

abbrev pub Names : Relation
Names n r = (xs : List Name) × ReadsNames n xs r

-- a name at any place
abbrev pub some_name : Symbol
some_name = record { span = beginning; sign = signs.Name (97 ∷ []) }

pub is_some_name : IsName some_name (record { span = beginning; text = 97 ∷ [] })
is_some_name = record { sign = refl; span = refl }

pub filled_name : Filled AName
filled_name = record { symbols = λ r. some_name ∷ r; fills = λ r. a_name some_name is_some_name }

named : (us : List Symbol) (a : Read Name) → Named us a → AName us a.rest
named us a h = subst (λ x. AName x a.rest) (sym h.all) (a_name h.symbol h.is)

pub name_sound : (end : Span) (us : List Symbol) → IfOk (name_at end us) (λ a. AName us a.rest)
name_sound end us = weaker (Named us) (λ a. AName us a.rest) (name_at end us) (name-sound end us) (named us)

name_of_sign : (K : Relation) (t : Symbol) (r : List Symbol) (s : Sign) → BegunIf K (t ∷ r) (name_by t.span r s)
name_of_sign K t r (signs.Name x) = tt
name_of_sign K t r (signs.Fixed w) = tt
name_of_sign K t r (signs.Number n) = tt

pub begun_name : (K : Relation) (end : Span) (us : List Symbol) → BegunIf K us (name_at end us)
unfolding name_at
begun_name K end [] = tt
begun_name K end (t ∷ r) = name_of_sign K t r t.sign

past_name : (t : Symbol) (r : List Symbol) (s : Sign) → t.sign ≡ s → BegunIf AName (t ∷ r) (name_by t.span r s >>= (λ x. let o : ReadResult Name = Err (limit_fault limits.Variables x.value.span) in o))
past_name t r (signs.Name x) is = begun_at AName t r limits.Variables (λ m. m) (λ m. a_name {x = record { span = t.span; text = x }} t (record { sign = is; span = refl }))
past_name t r (signs.Fixed w) is = tt
past_name t r (signs.Number n) is = tt

begun_new_name : (end : Span) (n : ℕ) (us : List Symbol) → BegunIf AName us (new_name end n us)
unfolding new_name name_at
begun_new_name end zero [] = tt
begun_new_name end zero (t ∷ r) = past_name t r t.sign refl
begun_new_name end (suc n) us = begun_name AName end us

one_sound : {X : Type 0} (G : Relation) (us : List Symbol) (o : ReadResult X) → IfOk o (λ a. G us a.rest) → IfOk (one o) (λ a. G us a.rest)
one_sound G us (Ok a) h = h
one_sound G us (Err e) h = tt

new_name_sound : (end : Span) (n : ℕ) (us : List Symbol) → IfOk (new_name end n us) (λ a. AName us a.rest)
new_name_sound end n us = weaker (NewName n us) (λ a. AName us a.rest) (new_name end n us) (new_name-sound end n us) (λ a h. named us a h.0)

last_of_names : (n r : List Symbol) → AName n r → Names n r
last_of_names n r (a_name t is) = (_, grammar.last_name t is)

next_of_names : (n m k r : List Symbol) → AName n m → Mark fixed.Comma m k → Names k r → Names n r
next_of_names n m k r (a_name t is) (mark u iu) h = (_, grammar.next_name t u is iu h.1)

pub begun_names : (end : Span) (k n : ℕ) (us : List Symbol) → BegunIf Names us (names_at end n us)
unfolding names_at
begun_names end k n us =
    separated_begun (name_item end) end AName Names (λ m vs. mapped 1 (new_name end m) one (λ x. x ∷ []) vs (λ x r. refl) (λ e. refl) (steady_new_name end m vs))
    (λ m vs. one_sound AName vs (new_name end m vs) (new_name_sound end m vs)) (λ m vs. begun_one AName vs (new_name end m vs) (begun_new_name end m vs)) last_of_names next_of_names (length us) n us

pub names_sound : (end : Span) (n : ℕ) (us : List Symbol) → IfOk (names_at end n us) (λ a. Names us a.rest)
names_sound end n us = weaker (λ (x : Read (List Name)). AreNames n us x.value x.rest) (λ a. Names us a.rest) (names_at end n us) (names-sound end n us) (λ a h. (a.value, h.0))

pub begun_listed_names : (end : Span) (us : List Symbol) → BegunIf (EndedBy Names fixed.Semicolon) us (listed_names end us)
unfolding listed_names
begun_listed_names end us =
    begun_ended 1 (λ vs. names_at end (length vs) vs) _ end fixed.Semicolon Names us (steady_all_names end us) (λ vs. names_sound end (length vs) vs) (begun_names end 0 (length us) us)

data AType : List Symbol → List Symbol → Type 0 where
  a_type : {r : List Symbol} {f : Fixed} {ty : Ty} (t : Symbol) → Is t f → type_named f ≡ Some ty → AType (t ∷ r) r

data Typing : List Symbol → List Symbol → Type 0 where
  typing : {r : List Symbol} {f : Fixed} {ty : Ty} (t u : Symbol) → Is t fixed.Colon → Is u f → type_named f ≡ Some ty → Typing (t ∷ u ∷ r) r

some_type : (r : List Symbol) → AType (a_mark fixed.Int ∷ r) r
some_type r = a_type {f = fixed.Int} {ty = types.Int} (a_mark fixed.Int) refl refl

join_typing : (n m r : List Symbol) → Mark fixed.Colon n m → AType m r → Typing n r
join_typing n m r (mark t it) (a_type {f = f} {ty = ty} u iu e) = typing {f = f} {ty = ty} t u it iu e

type_read : {B : Type 0} (K : Relation) (g : Read Ty → B) (t : Symbol) (r : List Symbol) (o : Option Ty) → BegunIf K (t ∷ r) (type_by t.span r o >>= (λ a. read (g a) a.rest))
type_read K g t r None = tt
type_read K g t r (Some ty) = tt

begun_type : {B : Type 0} (K : Relation) (end : Span) (g : Read Ty → B) (us : List Symbol) → BegunIf K us (type_at end us >>= (λ a. read (g a) a.rest))
unfolding type_at
begun_type K end g [] = tt
begun_type K end g (t ∷ r) = type_read K g t r (type_said t.sign)

-- ---- variables

abbrev pub Group : Relation
Group n r = (vs : List Vary) × ReadsGroup n vs r

abbrev pub Variables : Relation
Variables n r = (vs : List Vary) × ReadsVariables n vs r

join_group : (n m r : List Symbol) → Names n m → Typing m r → Group n r
join_group n m r names (typing {f = f} {ty = ty} t u it iu e) = (_, grammar.group t u names.1 it iu e)

begun_group : (end : Span) (n : ℕ) (us : List Symbol) → BegunIf Group us (group_at end n us)
unfolding group_at
begun_group end n us =
    begun_then 1 (names_at end n) _ Names Typing Group us (steady_names end n us) (names_sound end n) join_group
    (record { symbols = λ r. a_mark fixed.Colon ∷ a_mark fixed.Int ∷ r; fills = λ r. join_typing (a_mark fixed.Colon ∷ a_mark fixed.Int ∷ r) (a_mark fixed.Int ∷ r) r (mark (a_mark fixed.Colon) refl) (some_type r) })
    (begun_names end 0 n us)
    (λ xs vs.
    begun_marked end fixed.Colon _ AType Typing vs join_typing (record { symbols = λ r. a_mark fixed.Int ∷ r; fills = some_type })
    (λ colon ws. begun_type AType end _ ws))

group_sound : (end : Span) (n : ℕ) (us : List Symbol) → IfOk (group_at end n us) (λ a. Group us a.rest)
group_sound end n us = weaker (λ (x : Read (List Vary)). AreGroup n us x.value x.rest) (λ a. Group us a.rest) (group_at end n us) (group-sound end n us) (λ a h. (a.value, h.0))

last_of_variables : (n r : List Symbol) → Group n r → Variables n r
last_of_variables n r g = (_, grammar.last_group g.1)

next_of_variables : (n m k r : List Symbol) → Group n m → Mark fixed.Comma m k → Variables k r → Variables n r
next_of_variables n m k r g (mark u iu) h = (_, grammar.next_group u g.1 iu h.1)

begun_variables : (end : Span) (n : ℕ) (us : List Symbol) → BegunIf Variables us (variables_at end n us)
unfolding variables_at
begun_variables end n us = separated_begun (group_at end) end Group Variables (steady_group end) (group_sound end) (begun_group end) last_of_variables next_of_variables (length us) n us

variables_sound : (end : Span) (n : ℕ) (us : List Symbol) → IfOk (variables_at end n us) (λ a. Variables us a.rest)
variables_sound end n us = weaker (λ (x : Read (List Vary)). AreVariables n us x.value x.rest) (λ a. Variables us a.rest) (variables_at end n us) (variables-sound end n us) (λ a h. (a.value, h.0))

pub begun_declared : (end : Span) (n : ℕ) (us : List Symbol) → BegunIf (EndedBy Variables fixed.Semicolon) us (declared_behind end n us)
unfolding declared_behind
begun_declared end n us = begun_ended 1 (variables_at end n) _ end fixed.Semicolon Variables us (steady_variables end n us) (variables_sound end n) (begun_variables end n us)

abbrev pub Declared : Fixed → Relation
Declared f n r = (vs : List Vary) × ReadsDeclared f n vs r

declared_by : (f : Fixed) (t : Symbol) (n m r : List Symbol) → Is t f → Variables n m → Mark fixed.Semicolon m r → Declared f (t ∷ n) r
declared_by f t n m r it vs (mark u iu) = (_, grammar.declared t u it vs.1 iu)

pub join_declared : (f : Fixed) (t : Symbol) (n r : List Symbol) → Is t f → EndedBy Variables fixed.Semicolon n r → Declared f (t ∷ n) r
join_declared f t n r it h = declared_by f t n h.0 r it h.1.0 h.1.1

-- ---- lists in parentheses

abbrev pub Listed : Relation → Relation
Listed G n r = Mark fixed.CloseParenthesis n r ⊎ EndedBy G fixed.CloseParenthesis n r

filled_listed : (G : Relation) → Filled (Listed G)
filled_listed G = record { symbols = λ r. a_mark fixed.CloseParenthesis ∷ r; fills = λ r. inl (mark (a_mark fixed.CloseParenthesis) refl) }

begun_listed : {X : Type 0} (end : Span) (f : List Symbol → ReadResult (List X)) (G : Relation) → ((us : List Symbol) → Steady 1 f us) → ((us : List Symbol) → IfOk (f us) (λ a. G us a.rest)) → ((us : List Symbol) → BegunIf G us (f us)) →
    (us : List Symbol) (o : Option (Read Span)) → BegunIf (Listed G) us (listed_by end f us o)
begun_listed end f G steady sound begun us (Some a) = tt
begun_listed end f G steady sound begun us None =
    begun_map (EndedBy G fixed.CloseParenthesis) (Listed G) us (listed_by end f us None) (λ n r h. inr h) (begun_ended 1 f _ end fixed.CloseParenthesis G us (steady us) sound (begun us))

abbrev pub Formals : ℕ → Relation
Formals p n r = (vs : List Vary) × ReadsFormals (suc p) n vs r

listed_formals : (p : ℕ) (u : Symbol) (n m r : List Symbol) → Is u fixed.OpenParenthesis → Variables n m → Mark fixed.CloseParenthesis m r → Formals p (u ∷ n) r
listed_formals p u n m r iu vs (mark v iv) = (_, grammar.formals u v iu vs.1 iv)

join_formals : (p : ℕ) (n m r : List Symbol) → Mark fixed.OpenParenthesis n m → Listed Variables m r → Formals p n r
join_formals p n m r (mark u iu) (inl (mark v iv)) = ([], grammar.no_formal u v iu iv)
join_formals p n m r (mark u iu) (inr h) = listed_formals p u m h.0 r iu h.1.0 h.1.1

pub begun_formals : (end : Span) (p n : ℕ) (us : List Symbol) → BegunIf (Formals p) us (formals_at end p n us)
unfolding formals_at
begun_formals end p n us =
    begun_inside_it end fixed.OpenParenthesis p _ (Listed Variables) (Formals p) us (join_formals p) (filled_listed Variables)
    (λ q vs e. begun_listed end (variables_at end n) Variables (steady_variables end n) (variables_sound end n) (begun_variables end n) vs (seen fixed.CloseParenthesis vs))

pub formals_sound : (end : Span) (p n : ℕ) (us : List Symbol) → IfOk (formals_at end p n us) (λ a. Formals p us a.rest)
formals_sound end p n us = weaker (λ (x : Read (List Vary)). AreFormals p n us x.value x.rest) (λ a. Formals p us a.rest) (formals_at end p n us) (formals-sound end p n us) (λ a h. (a.value, weak_formals h.0))

pub filled_formals : (p : ℕ) → Filled (Formals p)
filled_formals p = record {
  symbols = λ r. a_mark fixed.OpenParenthesis ∷ a_mark fixed.CloseParenthesis ∷ r;
  fills = λ r. ([], grammar.no_formal (a_mark fixed.OpenParenthesis) (a_mark fixed.CloseParenthesis) refl refl);
}

abbrev pub Results : ℕ → Relation
Results p n r = (vs : List Vary) × ReadsResults (suc p) n vs r

results_begun : (end : Span) (p n : ℕ) (us : List Symbol) (o : Option (Read Span)) → IfSome o (Stands fixed.Returns us) → BegunIf (Results p) us (results_by end p n us o)
results_begun end p n us None s = tt
results_begun end p n us (Some a) s = behind_word fixed.Returns (Formals p) (Results p) us a s (formals_at end p n a.rest) (λ t m r it h. (h.0, grammar.results t it h.1)) (begun_formals end p n a.rest)

pub begun_results : (end : Span) (p n : ℕ) (us : List Symbol) → BegunIf (Results p) us (results_at end p n us)
unfolding results_at
begun_results end p n us = results_begun end p n us (seen fixed.Returns us) (seen-sound fixed.Returns us)

pub filled_results : (p : ℕ) → Filled (Results p)
filled_results p = record { symbols = λ r. r; fills = λ r. ([], grammar.no_result) }

-- ---- expressions

pub begun_expression : (end : Span) (p : ℕ) (us : List Symbol) → BegunIf (Spells p Equivalence) us (expression_at end p us)
unfolding expression_at
begun_expression end p us = expression_begun end p 200 us

expression_sound : (end : Span) (p : ℕ) (us : List Symbol) → IfOk (expression_at end p us) (λ a. Spells p Equivalence us a.rest)
expression_sound end p us =
    weaker (λ (x : Read Expression). IsExpressionRead p us x.value x.rest) (λ a. Spells p Equivalence us a.rest) (expression_at end p us) (expression_at-sound end p us) (λ a h. (a.value, weak h.0))

-- expressions with so many parentheses
abbrev pub Expressions : ℕ → Relation
Expressions q n r = (es : List Expression) × ReadsExpressions q n es r

last_of_expressions : (p : ℕ) (n r : List Symbol) → Spells p Equivalence n r → Expressions (suc p) n r
last_of_expressions p n r e = (_, grammar.last_expression e.1)

next_of_expressions : (p : ℕ) (n m k r : List Symbol) → Spells p Equivalence n m → Mark fixed.Comma m k → Expressions (suc p) k r → Expressions (suc p) n r
next_of_expressions p n m k r e (mark u iu) h = (_, grammar.next_expression u e.1 iu h.1)

pub begun_expressions : (end : Span) (p : ℕ) (us : List Symbol) → BegunIf (Expressions (suc p)) us (expressions_at (expression_at end) end p us)
unfolding expressions_at
begun_expressions end p us =
    separated_begun (expression_item (expression_at end) p) end (Spells p Equivalence) (Expressions (suc p))
    (λ n vs. mapped 1 (expression_at end p) one (λ x. x ∷ []) vs (λ x r. refl) (λ e. refl) (at_steady end p vs)) (λ n vs. one_sound (Spells p Equivalence) vs (expression_at end p vs) (expression_sound end p vs))
    (λ n vs. begun_one (Spells p Equivalence) vs (expression_at end p vs) (begun_expression end p vs)) (last_of_expressions p) (next_of_expressions p) (length us) 0 us

pub expressions_sound : (end : Span) (p : ℕ) (us : List Symbol) → IfOk (expressions_at (expression_at end) end p us) (λ a. Expressions (suc p) us a.rest)
expressions_sound end p us =
    weaker (λ (x : Read (List Expression)). AreExpressions p us x.value x.rest) (λ a. Expressions (suc p) us a.rest) (expressions_at (expression_at end) end p us) (expressions-sound (expression_at end) end (expression_at-sound end) p us)
    (λ a h. (a.value, weak_expressions h.0))

pub steady_all : (end : Span) (p : ℕ) (us : List Symbol) → Steady 1 (expressions_at (expression_at end) end p) us
steady_all end p us = steady_expressions (expression_at end) end (at_steady end) (no_at end) 0 p us

pub filled_expressions : (p : ℕ) → Filled (Expressions (suc p))
filled_expressions p = record { symbols = λ r. a_number ∷ r; fills = λ r. (_, grammar.last_expression (at_equivalence (suc p) r)) }

abbrev pub Arguments : ℕ → Relation
Arguments p n r = (es : List Expression) × ReadsArguments (suc p) n es r

listed_arguments : (p : ℕ) (u : Symbol) (n m r : List Symbol) → Is u fixed.OpenParenthesis → Expressions p n m → Mark fixed.CloseParenthesis m r → Arguments p (u ∷ n) r
listed_arguments p u n m r iu es (mark v iv) = (_, grammar.arguments u v iu es.1 iv)

join_arguments : (p : ℕ) (n m r : List Symbol) → Mark fixed.OpenParenthesis n m → Listed (Expressions p) m r → Arguments p n r
join_arguments p n m r (mark u iu) (inl (mark v iv)) = ([], grammar.no_argument u v iu iv)
join_arguments p n m r (mark u iu) (inr h) = listed_arguments p u m h.0 r iu h.1.0 h.1.1

pub begun_arguments : (end : Span) (p : ℕ) (us : List Symbol) → BegunIf (Arguments p) us (arguments_at (expression_at end) end p us)
unfolding arguments_at
begun_arguments end p us =
    begun_inside_it end fixed.OpenParenthesis p _ (Listed (Expressions p)) (Arguments p) us (join_arguments p) (filled_listed (Expressions p))
    (λ q vs e.
    subst (λ k. BegunIf (Listed (Expressions k)) vs (listed_by end (expressions_at (expression_at end) end q) vs (seen fixed.CloseParenthesis vs))) (sym e)
    (begun_listed end (expressions_at (expression_at end) end q) (Expressions (suc q)) (steady_all end q) (expressions_sound end q) (begun_expressions end q) vs (seen fixed.CloseParenthesis vs)))

pub arguments_sound : (end : Span) (p : ℕ) (us : List Symbol) → IfOk (arguments_at (expression_at end) end p us) (λ a. Arguments p us a.rest)
arguments_sound end p us =
    weaker (λ (x : Read (List Expression)). AreArguments p us x.value x.rest) (λ a. Arguments p us a.rest) (arguments_at (expression_at end) end p us) (arguments-sound (expression_at end) end (expression_at-sound end) p us)
    (λ a h. (a.value, weak_arguments h.0))

pub filled_arguments : (p : ℕ) → Filled (Arguments p)
filled_arguments p = record {
  symbols = λ r. a_mark fixed.OpenParenthesis ∷ a_mark fixed.CloseParenthesis ∷ r;
  fills = λ r. ([], grammar.no_argument (a_mark fixed.OpenParenthesis) (a_mark fixed.CloseParenthesis) refl refl);
}

-- ---- guards and conditions

abbrev Expressed : ℕ → Relation
Expressed q n r = (e : Expression) × Reads q Equivalence n e r

abbrev pub Guarded : ℕ → Relation
Guarded p n r = (g : Guard) × ReadsGuard (suc p) n g r

-- what stands behind the opening parenthesis
data InGuard (p : ℕ) : List Symbol → List Symbol → Type 0 where
  star : {r : List Symbol} (t v : Symbol) → Is t fixed.Star → Is v fixed.CloseParenthesis → InGuard p (t ∷ v ∷ r) r
  expressed : {n r : List Symbol} {e : Expression} (v : Symbol) → Reads p Equivalence n e (v ∷ r) → Is v fixed.CloseParenthesis → InGuard p n r

in_guard : (p : ℕ) (n m r : List Symbol) → Expressed p n m → Mark fixed.CloseParenthesis m r → InGuard p n r
in_guard p n m r e (mark v iv) = expressed v e.1 iv

join_guard : (p : ℕ) (n m r : List Symbol) → Mark fixed.OpenParenthesis n m → InGuard p m r → Guarded p n r
join_guard p n m r (mark u iu) (star t v it iv) = (Any, grammar.either_way u t v iu it iv)
join_guard p n m r (mark u iu) (expressed v d iv) = (_, grammar.condition u v iu d iv)

filled_guard : (p : ℕ) → Filled (InGuard p)
filled_guard p = record { symbols = λ r. a_mark fixed.Star ∷ a_mark fixed.CloseParenthesis ∷ r; fills = λ r. star (a_mark fixed.Star) (a_mark fixed.CloseParenthesis) refl refl }

guard_begun : (end : Span) (q : ℕ) (us : List Symbol) (o : Option (Read Span)) → IfSome o (Stands fixed.Star us) → BegunIf (InGuard (suc q)) us (guard_by (expression_at end) end q us o)
guard_begun end q us (Some a) s = behind_word fixed.Star (Mark fixed.CloseParenthesis) (InGuard (suc q)) us a s (closed end Any a.rest) (λ t n r it k. starred t n r it k) (begun_end (Mark fixed.CloseParenthesis) Any end fixed.CloseParenthesis a.rest)
  where
    starred : (t : Symbol) (n r : List Symbol) → Is t fixed.Star → Mark fixed.CloseParenthesis n r → InGuard (suc q) (t ∷ n) r
    starred t n r it (mark v iv) = star t v it iv
guard_begun end q us None s =
    begun_map (EndedBy (Spells q Equivalence) fixed.CloseParenthesis) (InGuard (suc q)) us (guard_by (expression_at end) end q us None) (λ n r h. in_guard (suc q) n h.0 r h.1.0 h.1.1)
    (begun_ended 1 (expression_at end q) _ end fixed.CloseParenthesis (Spells q Equivalence) us (at_steady end q us) (expression_sound end q) (begun_expression end q us))

pub begun_guard : (end : Span) (p : ℕ) (us : List Symbol) → BegunIf (Guarded p) us (guard_at (expression_at end) end p us)
unfolding guard_at
begun_guard end p us =
    begun_inside_it end fixed.OpenParenthesis p _ (InGuard p) (Guarded p) us (join_guard p) (filled_guard p)
    (λ q vs e. subst (λ k. BegunIf (InGuard k) vs (guard_by (expression_at end) end q vs (seen fixed.Star vs))) (sym e) (guard_begun end q vs (seen fixed.Star vs) (seen-sound fixed.Star vs)))

-- an expression and its semicolon
abbrev pub Claimed : ℕ → Relation
Claimed p = EndedBy (Spells p Equivalence) fixed.Semicolon

pub begun_claim : (end : Span) (p : ℕ) (us : List Symbol) → BegunIf (Claimed p) us (claim_at (expression_at end) end p us)
unfolding claim_at
begun_claim end p us = begun_ended 1 (expression_at end p) _ end fixed.Semicolon (Spells p Equivalence) us (at_steady end p us) (expression_sound end p) (begun_expression end p us)

filled_claim : (p : ℕ) → Filled (Claimed p)
filled_claim p = record {
  symbols = λ r. a_number ∷ a_mark fixed.Semicolon ∷ r;
  fills = λ r. (a_mark fixed.Semicolon ∷ r, ((_, at_equivalence (suc p) (a_mark fixed.Semicolon ∷ r)), mark (a_mark fixed.Semicolon) refl));
}

pub begun_condition : (end : Span) (p : ℕ) (free : Bool) (word : Read Span) → BegunIf (Claimed p) word.rest (condition_behind (expression_at end) end p free word)
unfolding condition_behind
begun_condition end p free word = begun_read (Claimed p) word.rest (claim_at (expression_at end) end p word.rest) _ (begun_claim end p word.rest)

abbrev pub Conditioned : ℕ → Fixed → Relation
Conditioned p f n r = (i : Invariant) × ReadsCondition (suc p) f n i r

checked_by : (p : ℕ) (f : Fixed) (t : Symbol) (n m r : List Symbol) → Is t f → Spells p Equivalence n m → Mark fixed.Semicolon m r → Conditioned p f (t ∷ n) r
checked_by p f t n m r it e (mark u iu) = (_, grammar.checked t u it e.1 iu)

pub join_checked : (p : ℕ) (f : Fixed) (t : Symbol) (n r : List Symbol) → Is t f → Claimed p n r → Conditioned p f (t ∷ n) r
join_checked p f t n r it h = checked_by p f t n h.0 r it h.1.0 h.1.1

free_by : (p : ℕ) (f : Fixed) (s t : Symbol) (n m r : List Symbol) → Is s fixed.Free → Is t f → Spells p Equivalence n m → Mark fixed.Semicolon m r → Conditioned p f (s ∷ t ∷ n) r
free_by p f s t n m r is it e (mark u iu) = (_, grammar.free s t u is it e.1 iu)

pub join_free : (p : ℕ) (f : Fixed) (s t : Symbol) (n r : List Symbol) → Is s fixed.Free → Is t f → Claimed p n r → Conditioned p f (s ∷ t ∷ n) r
join_free p f s t n r is it h = free_by p f s t n h.0 r is it h.1.0 h.1.1

-- that word and a claim
abbrev pub Worded : ℕ → Fixed → Relation
Worded p f n r = (m : List Symbol) × (Mark f n m × Claimed p m r)

free_worded : (p : ℕ) (f : Fixed) (s : Symbol) (n m r : List Symbol) → Is s fixed.Free → Mark f n m → Claimed p m r → Conditioned p f (s ∷ n) r
free_worded p f s n m r is (mark t it) h = join_free p f s t m r is it h

pub join_worded : (p : ℕ) (f : Fixed) (s : Symbol) (n r : List Symbol) → Is s fixed.Free → Worded p f n r → Conditioned p f (s ∷ n) r
join_worded p f s n r is h = free_worded p f s n h.0 r is h.1.0 h.1.1

pub begun_worded : (end : Span) (p : ℕ) (f : Fixed) (us : List Symbol) → BegunIf (Worded p f) us (behind end f us >>= (λ word. condition_behind (expression_at end) end p true word))
begun_worded end p f us =
    begun_marked end f (λ word. condition_behind (expression_at end) end p true word) (Claimed p) (Worded p f) us (λ n m r k h. (m, (k, h))) (filled_claim p)
    (λ a vs. begun_condition end p true (record { value = a; rest = vs }))

invariant_begun : (end : Span) (p : ℕ) (us : List Symbol) (a b : Option (Read Span)) → IfSome a (Stands fixed.Free us) → IfSome b (Stands fixed.Invariant us) →
    BegunIf (Conditioned p fixed.Invariant) us (invariant_by (expression_at end) end p a b)
invariant_begun end p us (Some first) b s w =
    begun_there (Conditioned p fixed.Invariant) us (behind end fixed.Invariant first.rest >>= (λ word. condition_behind (expression_at end) end p true word))
    (behind_word fixed.Free (Worded p fixed.Invariant) (Conditioned p fixed.Invariant) us first s (behind end fixed.Invariant first.rest >>= (λ word. condition_behind (expression_at end) end p true word))
    (λ t n r it h. join_worded p fixed.Invariant t n r it h) (begun_worded end p fixed.Invariant first.rest))
invariant_begun end p us None (Some word) s w =
    begun_there (Conditioned p fixed.Invariant) us (condition_behind (expression_at end) end p false word)
    (behind_word fixed.Invariant (Claimed p) (Conditioned p fixed.Invariant) us word w (condition_behind (expression_at end) end p false word) (λ t n r it h. join_checked p fixed.Invariant t n r it h) (begun_condition end p false word))
invariant_begun end p us None None s w = tt

begun_invariant : (end : Span) (p : ℕ) (us : List Symbol) → BegunIf (Conditioned p fixed.Invariant) us (invariant_at (expression_at end) end p us)
unfolding invariant_at
begun_invariant end p us = invariant_begun end p us (seen fixed.Free us) (seen fixed.Invariant us) (seen-sound fixed.Free us) (seen-sound fixed.Invariant us)

abbrev pub Invariants : ℕ → Relation
Invariants p n r = (is : List Invariant) × ReadsInvariants (suc p) n is r

pub there_sound : {X : Type 0} (P : Read X → Type 0) (G : Relation) (us : List Symbol) (o : Possible X) → IfThere o P → ((a : Read X) → P a → G us a.rest) → IfThere (one_there o) (λ a. G us a.rest)
there_sound P G us (Ok None) h f = tt
there_sound P G us (Ok (Some a)) h f = f a h
there_sound P G us (Err e) h f = tt

pub begun_invariants : (end : Span) (p : ℕ) (us : List Symbol) → BegunIf (Invariants p) us (invariants_at (expression_at end) end p us)
unfolding invariants_at
begun_invariants end p us =
    repeated_begun (invariant_item (expression_at end) end p) length (Conditioned p fixed.Invariant) (Invariants p)
    (λ n vs. one_maybe (invariant_at (expression_at end) end p) vs (steady_invariant (expression_at end) end (at_steady end) (no_at end) p vs))
    (λ n vs. there_sound (λ x. IsConditionRead p fixed.Invariant vs x.value x.rest) (Conditioned p fixed.Invariant) vs (invariant_at (expression_at end) end p vs) (invariant-sound (expression_at end) end (expression_at-sound end) p vs) (λ a h. (a.value, weak_condition h.0)))
    (λ n vs. begun_one_there (Conditioned p fixed.Invariant) vs (invariant_at (expression_at end) end p vs) (begun_invariant end p vs))
    (λ r. ([], grammar.no_invariant)) (λ n m r i is. (_, grammar.next_invariant i.1 is.1)) (length us) 0 us

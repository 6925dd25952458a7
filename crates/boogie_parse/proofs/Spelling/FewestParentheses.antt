-- The canonical text of what is read opens no more parentheses than what it is read from.
use Rattle.std.proofs.Common.{◌≡◌, ℕ, ◌+◌, ◌≤◌, ℤ, pos, negsuc, Bool, true, false, List, [], ◌∷◌, ◌++◌, map, refl, sym, ap, subst, ◌∙◌, arith}
use Rattle.std.proofs.lemmas.Bool.{false≢true}
use Rattle.boogie_tree.specs.declared.span.Span.{Span}
use Rattle.boogie_tree.specs.declared.level.Level.{Level}
use Rattle.boogie_tree.specs.declared.level.Level.TheVariants.{Equivalence, Implication, Junction, Conjunction, Disjunction, Comparison, Sum, Unary, Primary}
use Rattle.boogie_tree.specs.declared.tree.Name.{Name}
use Rattle.boogie_tree.specs.declared.tree.Op.{Op}
use Rattle.boogie_tree.specs.declared.tree.Op.TheVariants as op
use Rattle.boogie_tree.specs.declared.tree.Ty.{Ty}
use Rattle.boogie_tree.specs.declared.tree.Ty.TheVariants as types
use Rattle.boogie_tree.specs.declared.tree.Vary.{Vary}
use Rattle.boogie_tree.specs.Levels.{may_stand, level_of, level_of_operator, left_of, right_of}
use Rattle.boogie_tree.specs.Tree.{Expression, Lit, Bin, Guard, Invariant}
use Rattle.boogie_parse.specs.declared.symbols.Fixed.{Fixed}
use Rattle.boogie_parse.specs.declared.symbols.Fixed.TheVariants as fixed
use Rattle.boogie_parse.specs.declared.symbols.Sign.{Sign}
use Rattle.boogie_parse.specs.declared.symbols.Symbol.{Symbol}
use Rattle.boogie_parse.specs.Rules.Grammar
use Rattle.boogie_parse.specs.Rules.Grammar.{Is, symbols_place, Reads}
use Rattle.boogie_parse.specs.Rules.GrammarLists as lists
use Rattle.boogie_parse.specs.Rules.GrammarLists.{ReadsNames, ReadsExpressions, ReadsArguments, ReadsGuard, ReadsCondition, ReadsInvariants, of_type, ReadsGroup, ReadsVariables, ReadsDeclared, ReadsFormals, ReadsResults}
use Rattle.boogie_parse.specs.Spelling.Spelled.{led, name_sign, operator_sign, grouped_signs, expression_signs, continued_signs, listed_signs, names_signs, expressions_signs, type_sign, variable_signs, variables_signs, enclosed_signs, ended_signs, guard_signs, condition_signs, invariants_signs, targets_signs}
use Rattle.boogie_parse.specs.Spelling.PrintedTokens.{IsSpellable, AreSpellable, IsSpellableGuard, AreSpellableInvariants}
use Rattle.boogie_parse.specs.Spelling.Respelled.{signs_of}
use Rattle.boogie_parse.specs.Spelling.Parentheses.{opens_one, opened_by, opened_in}
use Rattle.boogie_parse.proofs.Spelling.RespelledExpressions.{each_stands, stands_unary, stands_comparison, stands_implication, stands_conjoined, stands_disjoined, stands_chain, stands_itself, chain_operator, comparison_operator}

-- ---- counting

pub append_opened : (a b : List Sign) → opened_in (a ++ b) ≡ opened_in a + opened_in b
append_opened [] b = omega arith
append_opened (s ∷ a) b = let h = append_opened a b in omega arith

-- how many parentheses these symbols open
abbrev pub count : List Symbol → ℕ
count ts = opened_in (signs_of ts)

pub is_one : (t : Symbol) → Is t fixed.OpenParenthesis → opened_by t.sign ≡ 1
is_one t is = ap opened_by is

grouped_opened : (ss : List Sign) → opened_in (grouped_signs false ss) ≡ opened_in ss + 1
grouped_opened ss = let h = append_opened ss (led fixed.CloseParenthesis []) in omega arith

fewer : (c d : Bool) (ss : List Sign) → (d ≡ true → c ≡ true) → opened_in (grouped_signs c ss) ≤ opened_in (grouped_signs d ss)
fewer true true ss f = omega arith
fewer true false ss f = let h = grouped_opened ss in omega arith
fewer false true ss f = absurd (false≢true (f refl))
fewer false false ss f = omega arith

one_at_most : (c : Bool) (ss : List Sign) → opened_in (grouped_signs c ss) ≤ opened_in ss + 1
one_at_most true ss = omega arith
one_at_most false ss = let h = grouped_opened ss in omega arith

none_opened : (o : Op) → opens_one (operator_sign o) ≡ 0
none_opened op.Iff = refl
none_opened op.Implies = refl
none_opened op.And = refl
none_opened op.Or = refl
none_opened op.Eq = refl
none_opened op.Ne = refl
none_opened op.Lt = refl
none_opened op.Le = refl
none_opened op.Gt = refl
none_opened op.Ge = refl
none_opened op.Add = refl
none_opened op.Sub = refl
none_opened op.Mul = refl
none_opened op.Div = refl
none_opened op.Mod = refl

-- ---- expressions

-- the signs of an expression where that level is asked for
abbrev placed : Level → Expression → List Sign
placed l e = grouped_signs (may_stand l (level_of e)) (expression_signs e)

-- its text at that level opens no more
abbrev Few : Level → List Symbol → Expression → List Symbol → Type 0
Few l ts e r = opened_in (placed l e) + count r ≤ count ts

raised : (l k : Level) (ts r : List Symbol) (e : Expression) → (may_stand k (level_of e) ≡ true → may_stand l (level_of e) ≡ true) → Few k ts e r → Few l ts e r
raised l k ts r e f h = let w = fewer (may_stand l (level_of e)) (may_stand k (level_of e)) (expression_signs e) f in omega arith

plainly : (l : Level) (e : Expression) → may_stand l (level_of e) ≡ true → opened_in (placed l e) ≡ opened_in (expression_signs e)
plainly l e c = ap (λ b. opened_in (grouped_signs b (expression_signs e))) c

operation : (s : Span) (o : Op) (a b : Expression) (t : Symbol) (ts m r : List Symbol) → Few (left_of (level_of_operator o)) ts a (t ∷ m) → Few (right_of (level_of_operator o)) m b r → Few (level_of_operator o) ts (Bin s o a b) r
operation s o a b t ts m r x y =
    let k : Level = level_of_operator o in
    let left : List Sign = placed (left_of k) a in
    let right : List Sign = placed (right_of k) b in
    let bare : opened_in (placed k (Bin s o a b)) ≡ opened_in (left ++ led (operator_sign o) right) = plainly k (Bin s o a b) (stands_itself k) in
    let parts : opened_in (left ++ led (operator_sign o) right) ≡ opened_in left + opened_in (led (operator_sign o) right) = append_opened left (led (operator_sign o) right) in
    let none = none_opened o in
    omega arith

literal_few : (s : Span) (n : ℤ) (t : Symbol) (r : List Symbol) → IsSpellable (Lit s n) → Few Primary (t ∷ r) (Lit s n) r
literal_few s (pos n) t r w = omega arith
literal_few s (negsuc n) t r w = absurd w

pub few : {p : ℕ} {l : Level} {ts r : List Symbol} {e : Expression} → Reads p l ts e r → IsSpellable e → Few l ts e r
few (Grammar.one {l = l} {ts = ts} {r = r} {e = e} c h) w = raised l (right_of l) ts r e (stands_chain l (level_of e) c) (few h w)
few (Grammar.more {l = l} {ts = ts} {m = m} {r = r} {a = a} {b = b} {f = f} {o = o} t h is k g) w =
    let c = chain_operator l f o k in
    let x : Few (left_of (level_of_operator o)) ts a (t ∷ m) = subst (λ k. Few k ts a (t ∷ m)) (sym (ap left_of c.level ∙ c.left)) (few h w.0) in
    let y : Few (right_of (level_of_operator o)) m b r = subst (λ k. Few k m b r) (sym (ap right_of c.level)) (few g w.1) in
    subst (λ k. Few k ts (Bin (symbols_place ts) o a b) r) c.level (operation (symbols_place ts) o a b t ts m r x y)
few (Grammar.unimplied {ts = ts} {r = r} {e = e} h) w = raised Implication Junction ts r e (stands_implication (level_of e)) (few h w)
few (Grammar.implied {ts = ts} {m = m} {r = r} {a = a} {b = b} t h is g) w = operation (symbols_place ts) op.Implies a b t ts m r (few h w.0) (few g w.1)
few (Grammar.conjoined {ts = ts} {r = r} {e = e} h) w = raised Junction Conjunction ts r e (stands_conjoined (level_of e)) (few h w)
few (Grammar.disjoined {ts = ts} {r = r} {e = e} h) w = raised Junction Disjunction ts r e (stands_disjoined (level_of e)) (few h w)
few (Grammar.uncompared {ts = ts} {r = r} {e = e} h) w = raised Comparison Sum ts r e (stands_comparison (level_of e)) (few h w)
few (Grammar.compared {ts = ts} {m = m} {r = r} {a = a} {b = b} {f = f} {o = o} t h is k g) w =
    let c = comparison_operator f o k in
    let x : Few (left_of (level_of_operator o)) ts a (t ∷ m) = subst (λ k. Few (left_of k) ts a (t ∷ m)) (sym c) (few h w.0) in
    let y : Few (right_of (level_of_operator o)) m b r = subst (λ k. Few (right_of k) m b r) (sym c) (few g w.1) in
    subst (λ k. Few k ts (Bin (symbols_place ts) o a b) r) c (operation (symbols_place ts) o a b t ts m r x y)
few (Grammar.unsigned {ts = ts} {r = r} {e = e} h) w = raised Unary Primary ts r e (stands_unary (level_of e)) (few h w)
few (Grammar.negated t is h) w = let x = few h w in omega arith
few (Grammar.denied t is h) w = let x = few h w in omega arith
few (Grammar.number {r = r} {n = n} t is) w = literal_few t.span n t r w
few (Grammar.true_word t is) w = omega arith
few (Grammar.false_word t is) w = omega arith
few (Grammar.name t is) w = omega arith
few (Grammar.old_value {ts = ts} {r = r} {e = e} t u v it iu h iv) w =
    let x : Few Equivalence ts e (v ∷ r) = few h w in
    let bare = plainly Equivalence e (each_stands (level_of e)) in
    let parts = append_opened (expression_signs e) (led fixed.CloseParenthesis []) in
    let one = is_one u iu in
    omega arith
few (Grammar.grouped {ts = ts} {r = r} {e = e} u v iu h iv) w =
    let x : Few Equivalence ts e (v ∷ r) = few h w in
    let bare = plainly Equivalence e (each_stands (level_of e)) in
    let most = one_at_most (may_stand Primary (level_of e)) (expression_signs e) in
    let one = is_one u iu in
    omega arith

-- an expression's text opens no more
abbrev Fewer : List Sign → List Symbol → List Symbol → Type 0
Fewer ss ts r = opened_in ss + count r ≤ count ts

pub few_whole : {p : ℕ} {ts r : List Symbol} {e : Expression} → Reads p Equivalence ts e r → IsSpellable e → Fewer (expression_signs e) ts r
few_whole {e = e} h w = let x = few h w in let bare = plainly Equivalence e (each_stands (level_of e)) in omega arith

-- ---- lists

continued_few : (xs : List (List Sign)) → opened_in (continued_signs xs) ≤ opened_in (listed_signs xs)
continued_few [] = omega arith
continued_few (x ∷ xs) = omega arith

pub few_expressions : {p : ℕ} {ts r : List Symbol} {es : List Expression} → ReadsExpressions p ts es r → AreSpellable es → Fewer (expressions_signs es) ts r
few_expressions (lists.last_expression {e = e} d) w = let x = few_whole d w.0 in let parts = append_opened (expression_signs e) [] in omega arith
few_expressions (lists.next_expression {e = e} {es = es} u d iu ds) w =
    let x = few_whole d w.0 in
    let y = few_expressions ds w.1 in
    let parts = append_opened (expression_signs e) (continued_signs (map expression_signs es)) in
    let more = continued_few (map expression_signs es) in
    omega arith

pub few_names : {ts r : List Symbol} {xs : List Name} → ReadsNames ts xs r → count r ≤ count ts
few_names (lists.last_name t is) = omega arith
few_names (lists.next_name t u is iu h) = let x = few_names h in omega arith

names_continued : (xs : List Name) → opened_in (continued_signs (map (λ (x : Name). name_sign x ∷ []) xs)) ≡ 0
names_continued [] = refl
names_continued (x ∷ xs) = let h = names_continued xs in omega arith

pub no_names : (xs : List Name) → opened_in (names_signs xs) ≡ 0
no_names [] = refl
no_names (x ∷ xs) = let h = names_continued xs in omega arith

pub no_targets : (xs : List Name) → opened_in (targets_signs xs) ≡ 0
no_targets [] = refl
no_targets (x ∷ xs) = let h = append_opened (names_signs (x ∷ xs)) (led fixed.Becomes []) in let none = no_names (x ∷ xs) in omega arith

no_type : (ty : Ty) → opens_one (type_sign ty) ≡ 0
no_type types.Int = refl
no_type types.Bool = refl

pub no_variable : (v : Vary) → opened_in (variable_signs v) ≡ 0
no_variable v = let h = no_type v.ty in omega arith

variables_continued : (vs : List Vary) → opened_in (continued_signs (map variable_signs vs)) ≡ 0
variables_continued [] = refl
variables_continued (v ∷ vs) =
    let parts = append_opened (variable_signs v) (continued_signs (map variable_signs vs)) in
    let none = no_variable v in
    let rest = variables_continued vs in
    omega arith

pub no_variables : (vs : List Vary) → opened_in (variables_signs vs) ≡ 0
no_variables [] = refl
no_variables (v ∷ vs) =
    let parts = append_opened (variable_signs v) (continued_signs (map variable_signs vs)) in
    let none = no_variable v in
    let rest = variables_continued vs in
    omega arith

few_group : {ts r : List Symbol} {vs : List Vary} → ReadsGroup ts vs r → count r ≤ count ts
few_group (lists.group t u h it iu e) = let x = few_names h in omega arith

few_variables : {ts r : List Symbol} {vs : List Vary} → ReadsVariables ts vs r → count r ≤ count ts
few_variables (lists.last_group h) = few_group h
few_variables (lists.next_group u h iu g) = let x = few_group h in let y = few_variables g in omega arith

pub few_declared : {f : Fixed} {ts r : List Symbol} {vs : List Vary} → ReadsDeclared f ts vs r → count r ≤ count ts
few_declared (lists.declared t u it h iu) = let x = few_variables h in omega arith

-- in parentheses
enclosed_opened : (ss : List Sign) → opened_in (enclosed_signs ss) ≡ opened_in ss + 1
enclosed_opened ss = let h = append_opened ss (led fixed.CloseParenthesis []) in omega arith

pub few_formals : {p : ℕ} {ts r : List Symbol} {vs : List Vary} → ReadsFormals p ts vs r → Fewer (enclosed_signs (variables_signs vs)) ts r
few_formals (lists.no_formal u v iu iv) = let one = is_one u iu in omega arith
few_formals (lists.formals {vs = vs} u v iu h iv) =
    let one = is_one u iu in
    let x = few_variables h in
    let parts = enclosed_opened (variables_signs vs) in
    let none = no_variables vs in
    omega arith

pub few_arguments : {p : ℕ} {ts r : List Symbol} {es : List Expression} → ReadsArguments p ts es r → AreSpellable es → Fewer (enclosed_signs (expressions_signs es)) ts r
few_arguments (lists.no_argument u v iu iv) w = let one = is_one u iu in omega arith
few_arguments (lists.arguments {es = es} u v iu h iv) w =
    let one = is_one u iu in
    let x = few_expressions h w in
    let parts = enclosed_opened (expressions_signs es) in
    omega arith

pub few_guard : {p : ℕ} {ts r : List Symbol} {g : Guard} → ReadsGuard p ts g r → IsSpellableGuard g → Fewer (enclosed_signs (guard_signs g)) ts r
few_guard (lists.either_way u t v iu it iv) w = let one = is_one u iu in omega arith
few_guard (lists.condition {e = e} u v iu h iv) w =
    let one = is_one u iu in
    let x = few_whole h w in
    let parts = enclosed_opened (expression_signs e) in
    omega arith

pub ended_opened : (ss : List Sign) → opened_in (ended_signs ss) ≡ opened_in ss
ended_opened ss = let h = append_opened ss (led fixed.Semicolon []) in omega arith

pub few_condition : {p : ℕ} {f : Fixed} {ts r : List Symbol} {i : Invariant} → opens_one f ≡ 0 → ReadsCondition p f ts i r → IsSpellable i.cond → Fewer (condition_signs f i) ts r
few_condition none (lists.checked {e = e} t u it h iu) w = let x = few_whole h w in let parts = ended_opened (expression_signs e) in omega arith
few_condition none (lists.free {e = e} s t u is it h iu) w = let x = few_whole h w in let parts = ended_opened (expression_signs e) in omega arith

pub few_invariants : {p : ℕ} {ts r : List Symbol} {is : List Invariant} → ReadsInvariants p ts is r → AreSpellableInvariants is → Fewer (invariants_signs is) ts r
few_invariants lists.no_invariant w = omega arith
few_invariants (lists.next_invariant {i = i} {is = is} h hs) w =
    let x = few_condition refl h w.0 in
    let y = few_invariants hs w.1 in
    let parts = append_opened (condition_signs fixed.Invariant i) (invariants_signs is) in
    omega arith

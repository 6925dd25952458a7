-- The signs of names, expressions, variables, guards and conditions are read as them.
use Rattle.std.proofs.Common.{◌≡◌, ℕ, suc, Bool, true, false, List, [], ◌∷◌, ◌++◌, map, Some, refl, ap, ◌∙◌, append_assoc}
use Rattle.boogie_tree.specs.declared.tree.Name.{Name}
use Rattle.boogie_tree.specs.declared.tree.Ty.{Ty}
use Rattle.boogie_tree.specs.declared.tree.Ty.TheVariants as types
use Rattle.boogie_tree.specs.declared.tree.Vary.{Vary}
use Rattle.boogie_tree.specs.Tree.{Expression, Guard, Any, Cond, Invariant}
use Rattle.boogie_tree.specs.Apart.{nowhere, bare, bare_name, bare_variable, bare_guard, bare_invariant}
use Rattle.boogie_parse.specs.declared.symbols.Fixed.{Fixed}
use Rattle.boogie_parse.specs.declared.symbols.Fixed.TheVariants as fixed
use Rattle.boogie_parse.specs.declared.symbols.Sign.{Sign}
use Rattle.boogie_parse.specs.declared.symbols.Symbol.{Symbol}
use Rattle.boogie_parse.specs.Rules.Grammar.{Is}
use Rattle.boogie_parse.specs.Rules.GrammarLists as lists
use Rattle.boogie_parse.specs.Rules.GrammarLists.{IsName, ReadsNames, ReadsExpressions, ReadsArguments, ReadsGuard, ReadsCondition, ReadsInvariants, type_named, ReadsGroup, ReadsVariables, ReadsDeclared, ReadsFormals, ReadsResults}
use Rattle.boogie_parse.specs.Spelling.Spelled.{led, name_sign, expression_signs, continued_signs, names_signs, expressions_signs, type_sign, variables_signs, enclosed_signs, guard_signs, condition_signs, invariants_signs, declared_signs, results_signs}
use Rattle.boogie_parse.specs.Spelling.Respelled.{signs_of, AreUnsigned}
use Rattle.boogie_parse.proofs.Spelling.RespelledTools.{Respells, led_by, led_after, up_to}
use Rattle.boogie_parse.proofs.Spelling.RespelledRest.{expression-rest, condition-rest}
use Rattle.boogie_parse.proofs.Spelling.RespelledExpressions.{expression-again}

pub same_list : {X : Type 0} {x y : X} {xs ys : List X} → x ≡ y → xs ≡ ys → x ∷ xs ≡ y ∷ ys
same_list e f = cc

-- the name where the symbol stands
abbrev pub named : Symbol → Name → Name
named t x = record { span = t.span; text = x.text }

pub is_named : (t : Symbol) (x : Name) → t.sign ≡ name_sign x → IsName t (named t x)
is_named t x is = record { sign = is; span = refl }

pub names-again : (x : Name) (xs : List Name) → Respells ReadsNames (map bare_name) (names_signs (x ∷ xs)) (x ∷ xs)
names-again x [] us behind e =
    led_by us e (λ t m is k. record { value = named t x ∷ []; rest = m; reads = lists.last_name t (is_named t x is); like = refl; follows = k })
names-again x (y ∷ ys) us behind e =
    led_by us e (λ t m is k.
    led_after (λ z. t ∷ z) m k (λ u n comma j.
    let a = names-again y ys n behind j in
    record {
      value = named t x ∷ a.value;
      rest = a.rest;
      reads = lists.next_name t u (is_named t x is) comma a.reads;
      like = ap (λ zs. bare_name x ∷ zs) a.like;
      follows = a.follows;
    }))

pub names-read : {ts r : List Symbol} {xs : List Name} → ReadsNames ts xs r → Respells ReadsNames (map bare_name) (names_signs xs) xs
names-read (lists.last_name {x = x} t n) = names-again x []
names-read (lists.next_name {x = x} {xs = xs} t u n c d) = names-again x xs

expressions-continued : {p : ℕ} {ts r : List Symbol} {es : List Expression} → ReadsExpressions p ts es r → continued_signs (map expression_signs es) ≡ led fixed.Comma (expressions_signs es)
expressions-continued (lists.last_expression d) = refl
expressions-continued (lists.next_expression u d c ds) = refl

pub expressions-again : {p : ℕ} {ts r : List Symbol} {es : List Expression} → ReadsExpressions p ts es r → AreUnsigned ts → Respells (ReadsExpressions p) (map bare) (expressions_signs es) es
expressions-again (lists.last_expression {e = e} d) w us behind s =
    let a = expression-again d w us behind (s ∙ append_assoc (expression_signs e) [] behind) in
    record { value = a.value ∷ []; rest = a.rest; reads = lists.last_expression a.reads; like = ap (λ z. z ∷ []) a.like; follows = a.follows }
expressions-again (lists.next_expression {e = e} {es = es} u d c ds) w us behind s =
    let first : List Sign = expression_signs e in
    let more : List Sign = expressions_signs es in
    let parts : signs_of us ≡ first ++ led fixed.Comma (more ++ behind) =
    s ∙ ap (λ z. (first ++ z) ++ behind) (expressions-continued ds) ∙ append_assoc first (led fixed.Comma more) behind in
    let a = up_to (expression-again d w us (led fixed.Comma (more ++ behind)) parts) in
    let b = expressions-again ds (expression-rest d w).1 a.rest behind a.follows in
    record { value = a.value ∷ b.value; rest = b.rest; reads = lists.next_expression a.next a.reads a.is b.reads; like = same_list a.like b.like; follows = b.follows }

pub arguments-again : {p : ℕ} {ts r : List Symbol} {es : List Expression} → ReadsArguments p ts es r → AreUnsigned ts → Respells (ReadsArguments p) (map bare) (enclosed_signs (expressions_signs es)) es
arguments-again (lists.no_argument u v iu iv) w us behind s =
    led_by us s (λ u m iu k.
    led_after (λ z. u ∷ z) m k (λ v n iv j.
    record { value = []; rest = n; reads = lists.no_argument u v iu iv; like = refl; follows = j }))
arguments-again (lists.arguments {es = es} u v iu d iv) w us behind s =
    led_by us s (λ u m iu k.
    let a = up_to (expressions-again d w.1 m (led fixed.CloseParenthesis behind) (k ∙ append_assoc (expressions_signs es) (led fixed.CloseParenthesis []) behind)) in
    record { value = a.value; rest = a.rest; reads = lists.arguments u a.next iu a.reads a.is; like = a.like; follows = a.follows })

pub guard-again : {p : ℕ} {ts r : List Symbol} {g : Guard} → ReadsGuard p ts g r → AreUnsigned ts → Respells (ReadsGuard p) bare_guard (enclosed_signs (guard_signs g)) g
guard-again (lists.either_way u t v iu it iv) w us behind s =
    led_by us s (λ u m iu k.
    led_after (λ z. u ∷ z) m k (λ t n it j.
    led_after (λ z. u ∷ t ∷ z) n j (λ v l iv i.
    record { value = Any; rest = l; reads = lists.either_way u t v iu it iv; like = refl; follows = i })))
guard-again (lists.condition {e = e} u v iu d iv) w us behind s =
    led_by us s (λ u m iu k.
    let a = up_to (expression-again d w.1 m (led fixed.CloseParenthesis behind) (k ∙ append_assoc (expression_signs e) (led fixed.CloseParenthesis []) behind)) in
    record { value = Cond a.value; rest = a.rest; reads = lists.condition u a.next iu a.reads a.is; like = ap Cond a.like; follows = a.follows })

abbrev bare_condition : Bool → Expression → Invariant
bare_condition b e = record { span = nowhere; free = b; cond = e }

pub condition-again : {p : ℕ} {f : Fixed} {ts r : List Symbol} {i : Invariant} → ReadsCondition p f ts i r → AreUnsigned ts → Respells (ReadsCondition p f) bare_invariant (condition_signs f i) i
condition-again (lists.checked {e = e} t u it d iu) w us behind s =
    led_by us s (λ t m it k.
    let a = up_to (expression-again d w.1 m (led fixed.Semicolon behind) (k ∙ append_assoc (expression_signs e) (led fixed.Semicolon []) behind)) in
    record {
      value = record { span = t.span; free = false; cond = a.value };
      rest = a.rest;
      reads = lists.checked t a.next it a.reads a.is;
      like = ap (bare_condition false) a.like;
      follows = a.follows;
    })
condition-again (lists.free {e = e} s t u is it d iu) w us behind h =
    led_by us h (λ s l is j.
    led_after (λ z. s ∷ z) l j (λ t m it k.
    let a = up_to (expression-again d w.1.1 m (led fixed.Semicolon behind) (k ∙ append_assoc (expression_signs e) (led fixed.Semicolon []) behind)) in
    record {
      value = record { span = t.span; free = true; cond = a.value };
      rest = a.rest;
      reads = lists.free s t a.next is it a.reads a.is;
      like = ap (bare_condition true) a.like;
      follows = a.follows;
    }))

pub invariants-again : {p : ℕ} {ts r : List Symbol} {is : List Invariant} → ReadsInvariants p ts is r → AreUnsigned ts → Respells (ReadsInvariants p) (map bare_invariant) (invariants_signs is) is
invariants-again lists.no_invariant w us behind s = record { value = []; rest = us; reads = lists.no_invariant; like = refl; follows = s }
invariants-again (lists.next_invariant {i = i} {is = is} d ds) w us behind s =
    let a = condition-again d w us (invariants_signs is ++ behind) (s ∙ append_assoc (condition_signs fixed.Invariant i) (invariants_signs is) behind) in
    let b = invariants-again ds (condition-rest d w) a.rest behind a.follows in
    record { value = a.value ∷ b.value; rest = b.rest; reads = lists.next_invariant a.reads b.reads; like = same_list a.like b.like; follows = b.follows }

-- ---- variables: each has its type behind it

type_back : (ty : Ty) → type_named (type_sign ty) ≡ Some ty
type_back types.Int = refl
type_back types.Bool = refl

abbrev variable_at : Symbol → Vary → Vary
variable_at t x = record { name = named t x.name; ty = x.ty }

group-one : (n t u : Symbol) (m : List Symbol) (x : Vary) → n.sign ≡ name_sign x.name → Is t fixed.Colon → Is u (type_sign x.ty) → ReadsGroup (n ∷ t ∷ u ∷ m) (variable_at n x ∷ []) m
group-one n t u m x is it iu = lists.group t u (lists.last_name n (is_named n x.name is)) it iu (type_back x.ty)

variables-again : (x : Vary) (xs : List Vary) → Respells ReadsVariables (map bare_variable) (variables_signs (x ∷ xs)) (x ∷ xs)
variables-again x [] us behind e =
    led_by us e (λ n a is h.
    led_after (λ z. n ∷ z) a h (λ t b it i.
    led_after (λ z. n ∷ t ∷ z) b i (λ u c iu j.
    record { value = variable_at n x ∷ []; rest = c; reads = lists.last_group (group-one n t u c x is it iu); like = refl; follows = j })))
variables-again x (y ∷ ys) us behind e =
    led_by us e (λ n a is h.
    led_after (λ z. n ∷ z) a h (λ t b it i.
    led_after (λ z. n ∷ t ∷ z) b i (λ u c iu j.
    led_after (λ z. n ∷ t ∷ u ∷ z) c j (λ v d iv k.
    let f = variables-again y ys d behind k in
    record {
      value = variable_at n x ∷ f.value;
      rest = f.rest;
      reads = lists.next_group v (group-one n t u (v ∷ d) x is it iu) iv f.reads;
      like = ap (λ zs. bare_variable x ∷ zs) f.like;
      follows = f.follows;
    }))))

-- a variable alone
pub declared-again : (f : Fixed) (x : Vary) → Respells (λ us v r. ReadsDeclared f us (v ∷ []) r) bare_variable (declared_signs f x) x
declared-again f x us behind e =
    led_by us e (λ s m is k.
    led_after (λ z. s ∷ z) m k (λ n a name h.
    led_after (λ z. s ∷ n ∷ z) a h (λ t b it i.
    led_after (λ z. s ∷ n ∷ t ∷ z) b i (λ u c iu j.
    led_after (λ z. s ∷ n ∷ t ∷ u ∷ z) c j (λ v d iv l.
    record {
      value = variable_at n x;
      rest = d;
      reads = lists.declared s v is (lists.last_group (group-one n t u (v ∷ d) x name it iu)) iv;
      like = refl;
      follows = l;
    })))))

formals-by : {p : ℕ} (vs : List Vary) → Respells (ReadsFormals (suc p)) (map bare_variable) (enclosed_signs (variables_signs vs)) vs
formals-by [] us behind s =
    led_by us s (λ u m iu k.
    led_after (λ z. u ∷ z) m k (λ v n iv j.
    record { value = []; rest = n; reads = lists.no_formal u v iu iv; like = refl; follows = j }))
formals-by (x ∷ xs) us behind s =
    led_by us s (λ u m iu k.
    let a = up_to (variables-again x xs m (led fixed.CloseParenthesis behind) (k ∙ append_assoc (variables_signs (x ∷ xs)) (led fixed.CloseParenthesis []) behind)) in
    record { value = a.value; rest = a.rest; reads = lists.formals u a.next iu a.reads a.is; like = a.like; follows = a.follows })

pub formals-again : {p : ℕ} {ts r : List Symbol} {vs : List Vary} → ReadsFormals p ts vs r → Respells (ReadsFormals p) (map bare_variable) (enclosed_signs (variables_signs vs)) vs
formals-again (lists.no_formal u v iu iv) = formals-by []
formals-again (lists.formals {vs = vs} u v iu d iv) = formals-by vs

results-by : {p : ℕ} (vs : List Vary) → Respells (ReadsFormals p) (map bare_variable) (enclosed_signs (variables_signs vs)) vs → Respells (ReadsResults p) (map bare_variable) (results_signs vs) vs
results-by [] h us behind s = record { value = []; rest = us; reads = lists.no_result; like = refl; follows = s }
results-by (x ∷ xs) h us behind s =
    led_by us s (λ t m it k.
    let a = h m behind k in
    record { value = a.value; rest = a.rest; reads = lists.results t it a.reads; like = a.like; follows = a.follows })

pub results-again : {p : ℕ} {ts r : List Symbol} {vs : List Vary} → ReadsResults p ts vs r → Respells (ReadsResults p) (map bare_variable) (results_signs vs) vs
results-again lists.no_result us behind s = record { value = []; rest = us; reads = lists.no_result; like = refl; follows = s }
results-again (lists.results {vs = vs} t it d) us behind s = results-by vs (formals-again d) us behind s

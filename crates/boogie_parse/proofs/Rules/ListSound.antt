-- What is read as a list is one by the grammar, and within the limits.
use Rattle.std.proofs.Common.{◌≡◌, ℕ, zero, suc, ◌+◌, ◌-◌, ◌<◌, ◌≤◌, Bool, true, false, cond, List, [], ◌∷◌, ◌++◌, length, Option, None, Some, Result, Ok, Err, IfOk, IfSome, refl, ap, subst, arith, length-append}
use denote.Enum.Bare.{same_true}
use Rattle.std.proofs.lemmas.List.{length-map}
use Rattle.boogie_tree.specs.declared.span.Span.{Span}
use Rattle.boogie_tree.specs.declared.tree.Name.{Name}
use Rattle.boogie_tree.specs.declared.tree.Ty.{Ty}
use Rattle.boogie_tree.specs.declared.tree.Vary.{Vary}
use Rattle.boogie_parse.specs.declared.fault.Fault.{Fault}
use Rattle.boogie_parse.specs.declared.symbols.Fixed.{Fixed}
use Rattle.boogie_parse.specs.declared.symbols.Fixed.TheVariants as fixed
use Rattle.boogie_parse.specs.contracts.symbols.Fixed.{the_type}
use Rattle.boogie_parse.specs.declared.symbols.Sign.{Sign}
use Rattle.boogie_parse.specs.declared.symbols.Sign.TheVariants as signs
use Rattle.boogie_parse.specs.declared.symbols.Symbol.{Symbol}
use Rattle.boogie_parse.specs.Reading.Outcomes.{Read, ReadResult}
use Rattle.boogie_parse.specs.Rules.Grammar.{Is}
use Rattle.boogie_parse.specs.Rules.GrammarLists.{IsName, ReadsNames, last_name, next_name, ReadsGroup, group, ReadsVariables, last_group, next_group, of_type, type_named, ReadsFormals, no_formal, formals, ReadsResults, no_result, results}
use Rattle.boogie_parse.specs.Reading.ListReading.{◌>>=◌, read, says, seen, must_be, behind, name_by, name_at, new_name, with_front, one, more_by, separated, name_item, names_at, listed_names, type_by, type_said, type_at, group_at, variables_at, declared_behind, opened_by, opened, listed_by, formals_at, results_by, results_at}

-- a step, and what follows from what it gives
pub then : {A B : Type 0} (Q : A → Type 0) (P : B → Type 0) (o : Result A Fault) (f : A → Result B Fault) → IfOk o Q → ((a : A) → Q a → IfOk (f a) P) → IfOk (o >>= f) P
then Q P (Ok a) f q h = h a q
then Q P (Err e) f q h = tt

-- the word or mark stands first
pub record Stands (f : Fixed) (ts : List Symbol) (r : Read Span) : Type 0 where
  pub symbol : Symbol
  pub is : Is symbol f
  pub here : symbol.span ≡ r.value
  pub all : ts ≡ symbol ∷ r.rest

says-sound : (f : Fixed) (s : Sign) → says f s ≡ true → s ≡ signs.Fixed f
says-sound f (signs.Fixed g) e = ap signs.Fixed (same_true the_type tt g f e)
says-sound f (signs.Number n) e = cc
says-sound f (signs.Name x) e = cc

seen_by : (f : Fixed) (t : Symbol) (ts : List Symbol) (b : Bool) → (b ≡ true → Is t f)
    → IfSome (cond b (Some (let r : Read Span = record { value = t.span; rest = ts } in r)) None) (Stands f (t ∷ ts))
seen_by f t ts true h = record { symbol = t; is = h refl; here = refl; all = refl }
seen_by f t ts false h = tt

pub seen-sound : (f : Fixed) (ts : List Symbol) → IfSome (seen f ts) (Stands f ts)
unfolding seen
seen-sound f [] = tt
seen-sound f (t ∷ ts) = seen_by f t ts (says f t.sign) (says-sound f t.sign)

must-sound : (end : Span) (ts : List Symbol) (P : Read Span → Type 0) (o : Option (Read Span)) → IfSome o P → IfOk (must_be end ts o) P
must-sound end ts P None h = tt
must-sound end ts P (Some r) h = h

pub behind-sound : (end : Span) (f : Fixed) (ts : List Symbol) → IfOk (behind end f ts) (Stands f ts)
unfolding behind
behind-sound end f ts = must-sound end ts (Stands f ts) (seen f ts) (seen-sound f ts)

-- a name stands first
pub record Named (ts : List Symbol) (x : Read Name) : Type 0 where
  pub symbol : Symbol
  pub is : IsName symbol x.value
  pub all : ts ≡ symbol ∷ x.rest

named_by : (t : Symbol) (ts : List Symbol) (s : Sign) → t.sign ≡ s → IfOk (name_by t.span ts s) (Named (t ∷ ts))
named_by t ts (signs.Name x) e = record { symbol = t; is = record { sign = e; span = refl }; all = refl }
named_by t ts (signs.Fixed f) e = tt
named_by t ts (signs.Number n) e = tt

pub name-sound : (end : Span) (ts : List Symbol) → IfOk (name_at end ts) (Named ts)
unfolding name_at
name-sound end [] = tt
name-sound end (t ∷ ts) = named_by t ts t.sign refl

abbrev pub NewName : ℕ → List Symbol → Read Name → Type 0
NewName n ts x = Named ts x × (0 < n)

with_room : (n : ℕ) (ts : List Symbol) → 0 < n → (o : ReadResult Name) → IfOk o (Named ts) → IfOk o (NewName n ts)
with_room n ts h (Ok x) q = (q, h)
with_room n ts h (Err f) q = tt

pub new_name-sound : (end : Span) (n : ℕ) (ts : List Symbol) → IfOk (new_name end n ts) (NewName n ts)
unfolding new_name
new_name-sound end zero ts = then (Named ts) (NewName zero ts) (name_at end ts) _ (name-sound end ts) (λ x q. tt)
new_name-sound end (suc n) ts = with_room (suc n) ts (omega arith) (name_at end ts) (name-sound end ts)

-- Lists with commas: what holds of one item, what of a last item, and what of an item before more.
module _ {X : Type 0} (item : ℕ → List Symbol → ReadResult (List X)) (I R : ℕ → List Symbol → List X → List Symbol → Type 0)
    (last : (n : ℕ) (ts : List Symbol) (xs : List X) (r : List Symbol) → I n ts xs r → R n ts xs r)
    (next : (n : ℕ) (ts : List Symbol) (xs : List X) (u : Symbol) (m : List Symbol) (ys : List X) (r : List Symbol)
    → I n ts xs (u ∷ m) → Is u fixed.Comma → R (n - length xs) m ys r → R n ts (xs ++ ys) r)
    (sound : (n : ℕ) (ts : List Symbol) → IfOk (item n ts) (λ x. I n ts x.value x.rest)) where
  abbrev Is_list : ℕ → List Symbol → Read (List X) → Type 0
  Is_list n ts x = R n ts x.value x.rest

  front-sound : (n : ℕ) (ts mid : List Symbol) (xs : List X) (comma : Read Span) (o : ReadResult (List X)) → I n ts xs mid → Stands fixed.Comma mid comma
      → IfOk o (Is_list (n - length xs) comma.rest) → IfOk (with_front xs o) (Is_list n ts)
  front-sound n ts mid xs comma (Ok x) i s h = next n ts xs s.symbol comma.rest x.value x.rest (subst (I n ts xs) s.all i) s.is h
  front-sound n ts mid xs comma (Err f) i s h = tt

  more-sound : (n : ℕ) (ts mid : List Symbol) (xs : List X) (more : List Symbol → ReadResult (List X)) (o : Option (Read Span)) → I n ts xs mid
      → IfSome o (Stands fixed.Comma mid) → ((us : List Symbol) → IfOk (more us) (Is_list (n - length xs) us)) → IfOk (more_by more xs mid o) (Is_list n ts)
  more-sound n ts mid xs more None i s h = last n ts xs mid i
  more-sound n ts mid xs more (Some comma) i s h = front-sound n ts mid xs comma (more comma.rest) i s (h comma.rest)

  pub separated-sound : (end : Span) (turns n : ℕ) (ts : List Symbol) → IfOk (separated item end n turns ts) (Is_list n ts)
  unfolding separated
  separated-sound end zero n ts = tt
  separated-sound end (suc turns) n ts =
      then (λ (x : Read (List X)). I n ts x.value x.rest) (Is_list n ts) (item n ts) _ (sound n ts)
      (λ xs i. more-sound n ts xs.rest xs.value (separated item end (n - length xs.value) turns) (seen fixed.Comma xs.rest) i (seen-sound fixed.Comma xs.rest) (λ us. separated-sound end turns (n - length xs.value) us))

-- one name as a list
record OneName (n : ℕ) (ts : List Symbol) (xs : List Name) (r : List Symbol) : Type 0 where
  name : Name
  symbol : Symbol
  is : IsName symbol name
  list : xs ≡ name ∷ []
  all : ts ≡ symbol ∷ r
  room : 0 < n

one_name : (n : ℕ) (ts : List Symbol) (o : ReadResult Name) → IfOk o (NewName n ts) → IfOk (one o) (λ x. OneName n ts x.value x.rest)
one_name n ts (Ok x) q = record { name = x.value; symbol = q.0.symbol; is = q.0.is; list = refl; all = q.0.all; room = q.1 }
one_name n ts (Err f) q = tt

abbrev pub AreNames : ℕ → List Symbol → List Name → List Symbol → Type 0
AreNames n ts xs r = ReadsNames ts xs r × (length xs ≤ n)

last_of_names : (n : ℕ) (ts : List Symbol) (xs : List Name) (r : List Symbol) → OneName n ts xs r → AreNames n ts xs r
last_of_names n ts xs r i = let h = i.room in rw (i.list, i.all) (last_name i.symbol i.is, omega arith)

next_of_names : (n : ℕ) (ts : List Symbol) (xs : List Name) (u : Symbol) (m : List Symbol) (ys : List Name) (r : List Symbol)
    → OneName n ts xs (u ∷ m) → Is u fixed.Comma → AreNames (n - length xs) m ys r → AreNames n ts (xs ++ ys) r
next_of_names n ts xs u m ys r i c h =
    let room = i.room in
    let few : length ys ≤ n - 1 = rw i.list at h.1 in
    rw (i.list, i.all) (next_name i.symbol u i.is c h.0, omega arith)

pub names-sound : (end : Span) (n : ℕ) (ts : List Symbol) → IfOk (names_at end n ts) (λ x. AreNames n ts x.value x.rest)
unfolding names_at
names-sound end n ts =
    separated-sound (name_item end) OneName AreNames last_of_names next_of_names (λ n us. one_name n us (new_name end n us) (new_name-sound end n us)) end (length ts) n ts

pub if_ok-first : {A : Type 0} (P Q : A → Type 0) (o : Result A Fault) → IfOk o (λ x. P x × Q x) → IfOk o P
if_ok-first P Q (Ok x) h = h.0
if_ok-first P Q (Err f) h = tt

-- a type stands first
pub record Typed (ts : List Symbol) (x : Read Ty) : Type 0 where
  symbol : Symbol
  word : Fixed
  is : Is symbol word
  type : type_named word ≡ Some x.value
  all : ts ≡ symbol ∷ x.rest

none-some : (ty : Ty) → ◌≡◌ {A = Option Ty} None (Some ty) → ⊥
none-some ty e = cc

-- the word that says a type
said_by : (s : Sign) (ty : Ty) → type_said s ≡ Some ty → (f : Fixed) × (s ≡ signs.Fixed f) × (type_named f ≡ Some ty)
said_by (signs.Fixed f) ty e = (f, refl, e)
said_by (signs.Number n) ty e = absurd (none-some ty e)
said_by (signs.Name x) ty e = absurd (none-some ty e)

typed_by : (t : Symbol) (ts : List Symbol) (o : Option Ty) → type_said t.sign ≡ o → IfOk (type_by t.span ts o) (Typed (t ∷ ts))
typed_by t ts None e = tt
typed_by t ts (Some ty) e = let w = said_by t.sign ty e in record { symbol = t; word = w.0; is = w.1; type = w.2; all = refl }

pub type-sound : (end : Span) (ts : List Symbol) → IfOk (type_at end ts) (Typed ts)
unfolding type_at
type-sound end [] = tt
type-sound end (t ∷ ts) = typed_by t ts (type_said t.sign) refl

abbrev pub AreGroup : ℕ → List Symbol → List Vary → List Symbol → Type 0
AreGroup n ts vs r = ReadsGroup ts vs r × (length vs ≤ n)

abbrev pub AreVariables : ℕ → List Symbol → List Vary → List Symbol → Type 0
AreVariables n ts vs r = ReadsVariables ts vs r × (length vs ≤ n)

of_group : (n : ℕ) (ts m mid r : List Symbol) (xs : List Name) (ty : Ty) (here : Span) → AreNames n ts xs m
    → Stands fixed.Colon m (record { value = here; rest = mid }) → Typed mid (record { value = ty; rest = r }) → AreGroup n ts (of_type ty xs) r
of_group n ts m mid r xs ty here names colon type =
    let spelled : ReadsNames ts xs (colon.symbol ∷ type.symbol ∷ r) = subst (λ us. ReadsNames ts xs (colon.symbol ∷ us)) type.all (subst (ReadsNames ts xs) colon.all names.0) in
    let few : length xs ≤ n = names.1 in
    (group colon.symbol type.symbol spelled colon.is type.is type.type, rw length-map few)

pub group-sound : (end : Span) (n : ℕ) (ts : List Symbol) → IfOk (group_at end n ts) (λ x. AreGroup n ts x.value x.rest)
unfolding group_at
group-sound end n ts =
    then (λ (x : Read (List Name)). AreNames n ts x.value x.rest) (λ x. AreGroup n ts x.value x.rest) (names_at end n ts) _ (names-sound end n ts) (λ xs names.
    then (Stands fixed.Colon xs.rest) (λ x. AreGroup n ts x.value x.rest) (behind end fixed.Colon xs.rest) _ (behind-sound end fixed.Colon xs.rest) (λ colon c.
    then (Typed colon.rest) (λ x. AreGroup n ts x.value x.rest) (type_at end colon.rest) _ (type-sound end colon.rest) (λ ty t.
    of_group n ts xs.rest colon.rest ty.rest xs.value ty.value colon.value names c t)))

last_of_variables : (n : ℕ) (ts : List Symbol) (vs : List Vary) (r : List Symbol) → AreGroup n ts vs r → AreVariables n ts vs r
last_of_variables n ts vs r i = (last_group i.0, i.1)

next_of_variables : (n : ℕ) (ts : List Symbol) (vs : List Vary) (u : Symbol) (m : List Symbol) (ws : List Vary) (r : List Symbol)
    → AreGroup n ts vs (u ∷ m) → Is u fixed.Comma → AreVariables (n - length vs) m ws r → AreVariables n ts (vs ++ ws) r
next_of_variables n ts vs u m ws r i c h =
    let few = i.1 in
    let more = h.1 in
    (next_group u i.0 c h.0, rw length-append (let k : length vs + length ws ≤ n = omega arith in k))

pub variables-sound : (end : Span) (n : ℕ) (ts : List Symbol) → IfOk (variables_at end n ts) (λ x. AreVariables n ts x.value x.rest)
unfolding variables_at
variables-sound end n ts = separated-sound (group_at end) AreGroup AreVariables last_of_variables next_of_variables (group-sound end) end (length ts) n ts

-- a value, and a word or mark behind it
pub record Before {X : Type 0} (R : X → List Symbol → Type 0) (f : Fixed) (x : Read X) : Type 0 where
  pub symbol : Symbol
  pub is : Is symbol f
  pub spelled : R x.value (symbol ∷ x.rest)

pub before : {X : Type 0} (R : X → List Symbol → Type 0) (f : Fixed) (x : X) (mid : List Symbol) (r : Read Span) → R x mid → Stands f mid r → Before R f (record { value = x; rest = r.rest })
before R f x mid r h s = record { symbol = s.symbol; is = s.is; spelled = subst (R x) s.all h }

-- a value is read, and a word or mark must stand behind it
pub before-sound :
    {X : Type 0} (R : X → List Symbol → Type 0) (end : Span) (f : Fixed) (x : X) (mid : List Symbol) → R x mid
    → IfOk (behind end f mid >>= (λ (r : Read Span). let o : ReadResult X = read x r.rest in o)) (Before R f)
before-sound R end f x mid h =
    then (Stands f mid) (Before R f) (behind end f mid) _ (behind-sound end f mid) (λ r s. before R f x mid r h s)

pub declared-sound : (end : Span) (n : ℕ) (ts : List Symbol) → IfOk (declared_behind end n ts) (Before (AreVariables n ts) fixed.Semicolon)
unfolding declared_behind
declared-sound end n ts =
    then (λ (x : Read (List Vary)). AreVariables n ts x.value x.rest) (Before (AreVariables n ts) fixed.Semicolon) (variables_at end n ts) _ (variables-sound end n ts) (λ vs h.
    before-sound (AreVariables n ts) end fixed.Semicolon vs.value vs.rest h)

pub listed_names-sound : (end : Span) (ts : List Symbol) → IfOk (listed_names end ts) (Before (ReadsNames ts) fixed.Semicolon)
unfolding listed_names
listed_names-sound end ts =
    then (λ (x : Read (List Name)). AreNames (length ts) ts x.value x.rest) (Before (ReadsNames ts) fixed.Semicolon) (names_at end (length ts) ts) _ (names-sound end (length ts) ts) (λ xs h.
    before-sound (ReadsNames ts) end fixed.Semicolon xs.value xs.rest h.0)

-- one more may be opened
pub record Opens (f : Fixed) (p : ℕ) (ts : List Symbol) (x : Read ℕ) : Type 0 where
  pub symbol : Symbol
  pub is : Is symbol f
  pub all : ts ≡ symbol ∷ x.rest
  pub room : p ≡ suc x.value

opened_by-sound : (f : Fixed) (p : ℕ) (ts : List Symbol) (o : ReadResult Span) → IfOk o (Stands f ts) → IfOk (opened_by p o) (Opens f p ts)
opened_by-sound f zero ts (Ok r) h = tt
opened_by-sound f (suc p) ts (Ok r) h = record { symbol = h.symbol; is = h.is; all = h.all; room = refl }
opened_by-sound f zero ts (Err e) h = tt
opened_by-sound f (suc p) ts (Err e) h = tt

pub opened-sound : (end : Span) (f : Fixed) (p : ℕ) (ts : List Symbol) → IfOk (opened end f p ts) (Opens f p ts)
unfolding opened
opened-sound end f p ts = opened_by-sound f p ts (behind end f ts) (behind-sound end f ts)

abbrev pub AreFormals : ℕ → ℕ → List Symbol → List Vary → List Symbol → Type 0
AreFormals p n ts vs r = ReadsFormals p ts vs r × (length vs ≤ n)

-- the list in parentheses is empty, or not
pub listed-sound :
    {X : Type 0} (R P : List X → List Symbol → Type 0) (end : Span) (list : List Symbol → ReadResult (List X)) (ts : List Symbol) (o : Option (Read Span))
    → IfSome o (Stands fixed.CloseParenthesis ts) → IfOk (list ts) (λ x. R x.value x.rest)
    → ((r : Read Span) → Stands fixed.CloseParenthesis ts r → P [] r.rest)
    → ((x : Read (List X)) → Before R fixed.CloseParenthesis x → P x.value x.rest)
    → IfOk (listed_by end list ts o) (λ x. P x.value x.rest)
listed-sound R P end list ts (Some r) s h none some = none r s
listed-sound {X} R P end list ts None s h none some =
    then (λ (x : Read (List X)). R x.value x.rest) (λ x. P x.value x.rest) (list ts) _ h (λ xs i.
    then (Stands fixed.CloseParenthesis xs.rest) (λ x. P x.value x.rest) (behind end fixed.CloseParenthesis xs.rest) _ (behind-sound end fixed.CloseParenthesis xs.rest) (λ r t.
    some (record { value = xs.value; rest = r.rest }) (before R fixed.CloseParenthesis xs.value xs.rest r i t)))

empty_formals : (p q n : ℕ) (ts m r : List Symbol) (u : Symbol) (here : Span) → p ≡ suc q → Is u fixed.OpenParenthesis → ts ≡ u ∷ m
    → Stands fixed.CloseParenthesis m (record { value = here; rest = r }) → AreFormals p n ts [] r
empty_formals p q n ts m r u here room is all s = rw (room, all, s.all) (no_formal u s.symbol is s.is, omega arith)

some_formals : (p q n : ℕ) (ts m r : List Symbol) (u : Symbol) (vs : List Vary) → p ≡ suc q → Is u fixed.OpenParenthesis → ts ≡ u ∷ m
    → Before (AreVariables n m) fixed.CloseParenthesis (record { value = vs; rest = r }) → AreFormals p n ts vs r
some_formals p q n ts m r u vs room is all b = rw (room, all) (formals u b.symbol is b.spelled.0 b.is, b.spelled.1)

pub formals-sound : (end : Span) (p n : ℕ) (ts : List Symbol) → IfOk (formals_at end p n ts) (λ x. AreFormals p n ts x.value x.rest)
unfolding formals_at
formals-sound end p n ts =
    then (Opens fixed.OpenParenthesis p ts) (λ x. AreFormals p n ts x.value x.rest) (opened end fixed.OpenParenthesis p ts) _ (opened-sound end fixed.OpenParenthesis p ts) (λ inner o.
    listed-sound (AreVariables n inner.rest) (AreFormals p n ts) end (variables_at end n) inner.rest (seen fixed.CloseParenthesis inner.rest) (seen-sound fixed.CloseParenthesis inner.rest) (variables-sound end n inner.rest)
    (λ r s. empty_formals p inner.value n ts inner.rest r.rest o.symbol r.value o.room o.is o.all s)
    (λ x b. some_formals p inner.value n ts inner.rest x.rest o.symbol x.value o.room o.is o.all b))

abbrev pub AreResults : ℕ → ℕ → List Symbol → List Vary → List Symbol → Type 0
AreResults p n ts vs r = ReadsResults p ts vs r × (length vs ≤ n)

pub results_of : (p n : ℕ) (ts : List Symbol) (r : Read Span) (x : Read (List Vary)) → Stands fixed.Returns ts r → AreFormals p n r.rest x.value x.rest → AreResults p n ts x.value x.rest
results_of p n ts r x s h = rw s.all (results s.symbol s.is h.0, h.1)

pub weaker : {A : Type 0} (P Q : A → Type 0) (o : Result A Fault) → IfOk o P → ((x : A) → P x → Q x) → IfOk o Q
weaker P Q (Ok x) h f = f x h
weaker P Q (Err e) h f = tt

results_by-sound : (end : Span) (p n : ℕ) (ts : List Symbol) (o : Option (Read Span)) → IfSome o (Stands fixed.Returns ts) → IfOk (results_by end p n ts o) (λ x. AreResults p n ts x.value x.rest)
results_by-sound end p n ts None s = (no_result, omega arith)
results_by-sound end p n ts (Some r) s =
    weaker (λ x. AreFormals p n r.rest x.value x.rest) (λ x. AreResults p n ts x.value x.rest) (formals_at end p n r.rest) (formals-sound end p n r.rest) (λ x h. results_of p n ts r x s h)

pub results-sound : (end : Span) (p n : ℕ) (ts : List Symbol) → IfOk (results_at end p n ts) (λ x. AreResults p n ts x.value x.rest)
unfolding results_at
results-sound end p n ts = results_by-sound end p n ts (seen fixed.Returns ts) (seen-sound fixed.Returns ts)

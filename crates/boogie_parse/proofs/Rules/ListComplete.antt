-- What is a list by the grammar, and within the limits, is read as it.
use Rattle.std.proofs.Common.{◌≡◌, ℕ, zero, suc, ◌+◌, ◌-◌, ◌<◌, ◌≤◌, false, List, [], ◌∷◌, ◌++◌, length, None, Some, Result, Ok, refl, ap, subst, arith, length-append}
use denote.Enum.Bare.{sameb, true_same}
use Rattle.std.proofs.lemmas.List.{length-map}
use Rattle.boogie_tree.specs.declared.span.Span.{Span}
use Rattle.boogie_tree.specs.declared.level.Level.{Level}
use Rattle.boogie_tree.specs.declared.tree.Name.{Name}
use Rattle.boogie_tree.specs.declared.tree.Ty.{Ty}
use Rattle.boogie_tree.specs.declared.tree.Vary.{Vary}
use Rattle.boogie_tree.specs.Tree.{Expression}
use Rattle.boogie_parse.specs.declared.fault.Fault.{Fault}
use Rattle.boogie_parse.specs.declared.symbols.Fixed.{Fixed}
use Rattle.boogie_parse.specs.declared.symbols.Fixed.TheVariants as fixed
use Rattle.boogie_parse.specs.contracts.symbols.Fixed.{the_type}
use Rattle.boogie_parse.specs.declared.symbols.Sign.TheVariants as signs
use Rattle.boogie_parse.specs.declared.symbols.Symbol.{Symbol}
use Rattle.boogie_parse.specs.Reading.Outcomes.{Read, ReadResult}
use Rattle.boogie_parse.specs.Rules.Grammar.{Is, Reads, one, more, unimplied, implied, conjoined, disjoined, uncompared, compared, unsigned, negated, denied, number, true_word, false_word, name, old_value, grouped}
use Rattle.boogie_parse.specs.Rules.GrammarLists as grammar
use Rattle.boogie_parse.specs.Rules.GrammarLists.{IsName, ReadsNames, last_name, next_name, ReadsGroup, ReadsVariables, last_group, next_group, of_type, type_named, ReadsFormals, no_formal, ReadsResults, no_result, results}
use Rattle.boogie_parse.specs.Reading.ListReading as reading
use Rattle.boogie_parse.specs.Reading.ListReading.{◌>>=◌, read, says, seen, must_be, behind, name_by, name_at, new_name, with_front, more_by, separated, name_item, names_at, listed_names, type_by, type_said, type_at, group_at, variables_at, declared_behind, opened_by, opened, closed, listed_by, formals_at, results_by, results_at}

abbrev pub here : Symbol → List Symbol → Read Span
here t ts = record { value = t.span; rest = ts }

-- the word or mark that stands first is seen
pub seen-it : (f : Fixed) (t : Symbol) (ts : List Symbol) → Is t f → seen f (t ∷ ts) ≡ Some (here t ts)
unfolding seen
seen-it f t ts is = rw (is, true_same the_type f f refl) refl

-- another is not
pub seen-other : (f g : Fixed) (t : Symbol) (ts : List Symbol) → Is t g → sameb the_type g f ≡ false → seen f (t ∷ ts) ≡ None
unfolding seen
seen-other f g t ts is e = rw (is, e) refl

pub seen-name : (f : Fixed) (t : Symbol) (ts : List Symbol) (x : List ℕ) → t.sign ≡ signs.Name x → seen f (t ∷ ts) ≡ None
unfolding seen
seen-name f t ts x is = rw is refl

pub behind-it : (end : Span) (f : Fixed) (t : Symbol) (ts : List Symbol) → Is t f → behind end f (t ∷ ts) ≡ Ok (here t ts)
unfolding behind
behind-it end f t ts is = ap (must_be end (t ∷ ts)) (seen-it f t ts is)

pub name-it : (end : Span) (t : Symbol) (ts : List Symbol) (x : Name) → IsName t x → name_at end (t ∷ ts) ≡ read x ts
unfolding name_at
name-it end t ts x is = rw (is.sign, is.span) refl

pub new_name-it : (end : Span) (n : ℕ) (t : Symbol) (ts : List Symbol) (x : Name) → 0 < n → IsName t x → new_name end n (t ∷ ts) ≡ read x ts
unfolding new_name
new_name-it end zero t ts x h is = absurd (omega arith)
new_name-it end (suc n) t ts x h is = name-it end t ts x is

-- a step of reading, where the one before gave that
pub bind : {A B : Type 0} (o : Result A Fault) (a : A) (f : A → Result B Fault) (z : Result B Fault) → o ≡ Ok a → f a ≡ z → o >>= f ≡ z
bind o a f z e h = rw e h

module _ {X : Type 0} (item : ℕ → List Symbol → ReadResult (List X)) (end : Span) where
  pub last-read : (n k : ℕ) (ts r : List Symbol) (xs : List X) → 0 < k → item n ts ≡ read xs r → seen fixed.Comma r ≡ None → separated item end n k ts ≡ read xs r
  unfolding separated
  last-read n zero ts r xs h i c = absurd (omega arith)
  last-read n (suc k) ts r xs h i c = rw (i, c) refl

  pub next-read : (n k : ℕ) (ts m r : List Symbol) (u : Symbol) (xs ys : List X) → 0 < k → item n ts ≡ read xs (u ∷ m) → Is u fixed.Comma
      → separated item end (n - length xs) (k - 1) m ≡ read ys r → separated item end n k ts ≡ read (xs ++ ys) r
  unfolding separated
  next-read n zero ts m r u xs ys h i c onward = absurd (omega arith)
  next-read n (suc k) ts m r u xs ys h i c onward =
      let e : suc k - 1 ≡ k = omega arith in
      let rest : separated item end (n - length xs) k m ≡ read ys r = subst (λ j. separated item end (n - length xs) j m ≡ read ys r) e onward in
      rw (i, seen-it fixed.Comma u m c, rest) refl

pub names-take : {ts r : List Symbol} {xs : List Name} → ReadsNames ts xs r → length r < length ts
names-take (last_name t is) = omega arith
names-take (next_name t u is c d) = let h = names-take d in omega arith

-- the first name and how it goes on do not matter here: names are read, where no comma follows and there is room
pub names-read : (end : Span) (n k : ℕ) (ts : List Symbol) (xs : List Name) (r : List Symbol) → ReadsNames ts xs r → seen fixed.Comma r ≡ None → length xs ≤ n → length ts ≤ k
    → separated (name_item end) end n k ts ≡ read xs r
names-read end n k ts xs r (last_name {x = x} t is) c few long =
    last-read (name_item end) end n k ts r xs (omega arith) (ap reading.one (new_name-it end n t r x (omega arith) is)) c
names-read end n k ts xs r (next_name {m = m} {x = x} {xs = ys} t u is comma d) c few long =
    next-read (name_item end) end n k ts m r u (x ∷ []) ys (omega arith) (ap reading.one (new_name-it end n t (u ∷ m) x (omega arith) is)) comma
    (names-read end (n - 1) (k - 1) m ys r d c (omega arith) (omega arith))

pub names-complete : (end : Span) (n : ℕ) (ts : List Symbol) (xs : List Name) (r : List Symbol) → ReadsNames ts xs r → seen fixed.Comma r ≡ None → length xs ≤ n → names_at end n ts ≡ read xs r
unfolding names_at
names-complete end n ts xs r d c few = names-read end n (length ts) ts xs r d c few (omega arith)

names-fit : {ts r : List Symbol} {xs : List Name} → ReadsNames ts xs r → length xs ≤ length ts
names-fit (last_name t is) = omega arith
names-fit (next_name t u is c d) = let h = names-fit d in omega arith

-- names for which there is always room
pub all_names-complete : (end : Span) (ts : List Symbol) (xs : List Name) (r : List Symbol) → ReadsNames ts xs r → seen fixed.Comma r ≡ None → names_at end (length ts) ts ≡ read xs r
all_names-complete end ts xs r d c = names-complete end (length ts) ts xs r d c (names-fit d)

pub listed_names-complete : (end : Span) (ts : List Symbol) (xs : List Name) (u : Symbol) (r : List Symbol) → ReadsNames ts xs (u ∷ r) → Is u fixed.Semicolon → listed_names end ts ≡ read xs r
unfolding listed_names
listed_names-complete end ts xs u r d is = rw (all_names-complete end ts xs (u ∷ r) d (seen-other fixed.Comma fixed.Semicolon u r is refl), behind-it end fixed.Semicolon u r is) refl

type-it : (end : Span) (t : Symbol) (ts : List Symbol) (f : Fixed) (ty : Ty) → Is t f → type_named f ≡ Some ty → type_at end (t ∷ ts) ≡ read ty ts
unfolding type_at
type-it end t ts f ty is e = rw (is, e) refl

group-read : (end : Span) (n : ℕ) (ts : List Symbol) (vs : List Vary) (r : List Symbol) → ReadsGroup ts vs r → length vs ≤ n → group_at end n ts ≡ read vs r
unfolding group_at
group-read end n ts vs r (grammar.group {xs = xs} {f = f} {ty = ty} t u names colon is type) few =
    let small : length xs ≤ n = rw length-map at few in
    rw (names-complete end n ts xs (t ∷ u ∷ r) names (seen-other fixed.Comma fixed.Colon t (u ∷ r) colon refl) small, behind-it end fixed.Colon t (u ∷ r) colon, type-it end u r f ty is type) refl

pub group-take : {ts r : List Symbol} {vs : List Vary} → ReadsGroup ts vs r → length r < length ts
group-take (grammar.group t u names colon is type) = let h = names-take names in omega arith

variables-read : (end : Span) (n k : ℕ) (ts : List Symbol) (vs : List Vary) (r : List Symbol) → ReadsVariables ts vs r → seen fixed.Comma r ≡ None → length vs ≤ n → length ts ≤ k
    → separated (group_at end) end n k ts ≡ read vs r
variables-read end n k ts vs r (last_group d) c few long = let h = group-take d in last-read (group_at end) end n k ts r vs (omega arith) (group-read end n ts vs r d few) c
variables-read end n k ts vs r (next_group {m = m} {vs = us} {ws = ws} u d comma ds) c few long =
    let h = group-take d in
    let both : length us + length ws ≤ n = rw length-append at few in
    next-read (group_at end) end n k ts m r u us ws (omega arith) (group-read end n ts us (u ∷ m) d (omega arith)) comma
    (variables-read end (n - length us) (k - 1) m ws r ds c (omega arith) (omega arith))

pub variables-complete : (end : Span) (n : ℕ) (ts : List Symbol) (vs : List Vary) (r : List Symbol) → ReadsVariables ts vs r → seen fixed.Comma r ≡ None → length vs ≤ n → variables_at end n ts ≡ read vs r
unfolding variables_at
variables-complete end n ts vs r d c few = variables-read end n (length ts) ts vs r d c few (omega arith)

pub declared-complete : (end : Span) (n : ℕ) (ts : List Symbol) (vs : List Vary) (u : Symbol) (r : List Symbol) → ReadsVariables ts vs (u ∷ r) → Is u fixed.Semicolon → length vs ≤ n → declared_behind end n ts ≡ read vs r
unfolding declared_behind
declared-complete end n ts vs u r d is few = rw (variables-complete end n ts vs (u ∷ r) d (seen-other fixed.Comma fixed.Semicolon u r is refl) few, behind-it end fixed.Semicolon u r is) refl

pub opened-it : (end : Span) (f : Fixed) (p : ℕ) (u : Symbol) (ts : List Symbol) → Is u f → opened end f (suc p) (u ∷ ts) ≡ read p ts
unfolding opened
opened-it end f p u ts is = rw (behind-it end f u ts is) refl

-- what begins a list of variables is no closing parenthesis
pub names-open : (f : Fixed) {ts r : List Symbol} {xs : List Name} → ReadsNames ts xs r → seen f ts ≡ None
names-open f (last_name {r = r} {x = x} t is) = seen-name f t r x.text is.sign
names-open f (next_name {m = m} {x = x} t u is c d) = seen-name f t (u ∷ m) x.text is.sign

variables-open : (f : Fixed) {ts r : List Symbol} {vs : List Vary} → ReadsVariables ts vs r → seen f ts ≡ None
variables-open f (last_group (grammar.group t u names colon is type)) = names-open f names
variables-open f (next_group v (grammar.group t u names colon is type) comma ds) = names-open f names

pub formals-complete : (end : Span) (p n : ℕ) (ts : List Symbol) (vs : List Vary) (r : List Symbol) → ReadsFormals p ts vs r → length vs ≤ n → formals_at end p n ts ≡ read vs r
unfolding formals_at
formals-complete end p n ts vs r (no_formal {p = q} u v open_mark close_mark) few =
    rw (opened-it end fixed.OpenParenthesis q u (v ∷ r) open_mark, seen-it fixed.CloseParenthesis v r close_mark) refl
formals-complete end p n ts vs r (grammar.formals {p = q} {ts = us} u v open_mark d close_mark) few =
    rw (
      opened-it end fixed.OpenParenthesis q u us open_mark,
      variables-open fixed.CloseParenthesis d,
      variables-complete end n us vs (v ∷ r) d (seen-other fixed.Comma fixed.CloseParenthesis v r close_mark refl) few,
      behind-it end fixed.CloseParenthesis v r close_mark,
    ) refl

pub results-complete : (end : Span) (p n : ℕ) (ts : List Symbol) (vs : List Vary) (r : List Symbol) → ReadsResults p ts vs r → seen fixed.Returns r ≡ None → length vs ≤ n → results_at end p n ts ≡ read vs r
unfolding results_at
results-complete end p n ts vs r no_result none few = rw none refl
results-complete end p n ts vs r (results {ts = us} t is d) none few = rw (seen-it fixed.Returns t us is) (formals-complete end p n us vs r d few)

-- an expression takes a symbol
pub reads-take : {p : ℕ} {l : Level} {ts r : List Symbol} {e : Expression} → Reads p l ts e r → length r < length ts
reads-take (one c d) = reads-take d
reads-take (more t a is l b) = let x = reads-take a in let y = reads-take b in omega arith
reads-take (unimplied d) = reads-take d
reads-take (implied t a is b) = let x = reads-take a in let y = reads-take b in omega arith
reads-take (conjoined d) = reads-take d
reads-take (disjoined d) = reads-take d
reads-take (uncompared d) = reads-take d
reads-take (compared t a is c b) = let x = reads-take a in let y = reads-take b in omega arith
reads-take (unsigned d) = reads-take d
reads-take (negated t is d) = let x = reads-take d in omega arith
reads-take (denied t is d) = let x = reads-take d in omega arith
reads-take (number t is) = omega arith
reads-take (true_word t is) = omega arith
reads-take (false_word t is) = omega arith
reads-take (name t is) = omega arith
reads-take (old_value t u v it iu d iv) = let x = reads-take d in omega arith
reads-take (grouped u v iu d iv) = let x = reads-take d in omega arith

-- What are statements by the grammar, and within the limits, are read as them.
use Rattle.std.proofs.Common.{◌≡◌, ℕ, suc, ◌-◌, ◌<◌, ◌≤◌, false, List, [], ◌∷◌, length, None, Some, Ok, refl, ap, sym, subst, arith}
use denote.Enum.Bare.{sameb}
use Rattle.std.specs.List.{AllByRecursion}
use Rattle.boogie_tree.specs.declared.span.Span.{Span}
use Rattle.boogie_tree.specs.declared.level.Level.TheVariants.{Equivalence}
use Rattle.boogie_tree.specs.declared.tree.Name.{Name}
use Rattle.boogie_tree.specs.Tree.{Expression, Invariant, Statement, Assign, Call, Label, Block, Then}
use Rattle.boogie_tree.specs.View.{block}
use Rattle.boogie_parse.specs.declared.symbols.Fixed.{Fixed}
use Rattle.boogie_parse.specs.declared.symbols.Fixed.TheVariants as fixed
use Rattle.boogie_parse.specs.contracts.symbols.Fixed.{the_type}
use Rattle.boogie_parse.specs.declared.symbols.Sign.{Sign}
use Rattle.boogie_parse.specs.declared.symbols.Sign.TheVariants as signs
use Rattle.boogie_parse.specs.declared.symbols.Symbol.{Symbol}
use Rattle.boogie_parse.specs.Reading.Outcomes.{Read, ReadResult}
use Rattle.boogie_parse.specs.Rules.Grammar.{Is, symbols_place, Reads}
use Rattle.boogie_parse.specs.Rules.GrammarLists as lists
use Rattle.boogie_parse.specs.Rules.GrammarLists.{IsName, ReadsNames, last_name, next_name, ReadsExpressions, ReadsArguments, ReadsInvariants}
use Rattle.boogie_parse.specs.Rules.GrammarStatements as grammar
use Rattle.boogie_parse.specs.Rules.GrammarStatements.{ReadsStatement, ReadsIf, ReadsBlock, ReadsList}
use Rattle.boogie_parse.specs.Rules.GrammarLimits.{EachOfStatement, EachOfBlock}
use Rattle.boogie_parse.specs.Ties.ExpressionLaws.{Ends}
use Rattle.boogie_parse.specs.Reading.ListReading.{read, Possible, there, one_there, repeated, seen, name_at, invariants_at}
use Rattle.boogie_parse.specs.Reading.StatementReading.{Inside, break_at, return_at, havoc_at, goto_at, assert_at, assume_at, assign_at, called_at, call_into, call_at, named_at, loop_at, branch_by, statement_by, statement_at, statement_item, list_at, block_by, inside_at}
use Rattle.boogie_parse.proofs.Rules.ListComplete.{seen-it, seen-other, seen-name, behind-it, name-it, names-take, names-open, all_names-complete, listed_names-complete, reads-take}
use Rattle.boogie_parse.proofs.Rules.ConditionComplete.{semicolon-ends, guard-take, condition-take, stop-read, item-read, expressions-complete, arguments-complete, guard-complete, claim-complete, invariants-complete}

expressions-take : {p : ℕ} {ts r : List Symbol} {es : List Expression} → ReadsExpressions p ts es r → length r < length ts
expressions-take (lists.last_expression d) = reads-take d
expressions-take (lists.next_expression u d c ds) = let x = reads-take d in let y = expressions-take ds in omega arith

arguments-take : {p : ℕ} {ts r : List Symbol} {es : List Expression} → ReadsArguments p ts es r → length r < length ts
arguments-take (lists.no_argument u v iu iv) = omega arith
arguments-take (lists.arguments u v iu d iv) = let x = expressions-take d in omega arith

invariants-take : {p : ℕ} {ts r : List Symbol} {is : List Invariant} → ReadsInvariants p ts is r → length r ≤ length ts
invariants-take lists.no_invariant = omega arith
invariants-take (lists.next_invariant d ds) = let x = condition-take d in let y = invariants-take ds in omega arith

-- a statement takes a symbol
mutual
  pub statement-take : {p b : ℕ} {ts r : List Symbol} {s : Statement} → ReadsStatement p b ts s r → length r < length ts
  statement-take (grammar.asserts t u is d iu) = let x = reads-take d in omega arith
  statement-take (grammar.assumes t u is d iu) = let x = reads-take d in omega arith
  statement-take (grammar.havocs t u is d iu) = let x = names-take d in omega arith
  statement-take (grammar.assigns t u d is e iu) = let x = names-take d in let y = expressions-take e in omega arith
  statement-take (grammar.calls t n u is f d iu) = let x = arguments-take d in omega arith
  statement-take (grammar.calls_into t c n u is d ic f e iu) = let x = names-take d in let y = arguments-take e in omega arith
  statement-take (grammar.branches d) = if-take d
  statement-take (grammar.loops t is g i x) = let a = guard-take g in let b = invariants-take i in let c = block-take x in omega arith
  statement-take (grammar.breaks t u is iu) = omega arith
  statement-take (grammar.breaks_from t n u is f iu) = omega arith
  statement-take (grammar.goes_to t u is d iu) = let x = names-take d in omega arith
  statement-take (grammar.returns t u is iu) = omega arith
  statement-take (grammar.labels n u f iu) = omega arith

  if-take : {p b : ℕ} {ts r : List Symbol} {s : Statement} → ReadsIf p b ts s r → length r < length ts
  if-take (grammar.without_else t is g x) = let a = guard-take g in let b = block-take x in omega arith
  if-take (grammar.with_else t u is g x iu y) = let a = guard-take g in let b = block-take x in let c = block-take y in omega arith
  if-take (grammar.with_else_if t u is g x iu y) = let a = guard-take g in let b = block-take x in let c = if-take y in omega arith

  block-take : {p b : ℕ} {ts r : List Symbol} {x : Block} → ReadsBlock p b ts x r → length r < length ts
  block-take (grammar.block u v iu d iv) = let a = list-take d in omega arith

  pub list-take : {p b : ℕ} {ts r : List Symbol} {x : Block} → ReadsList p b ts x r → length r ≤ length ts
  list-take grammar.no_statement = omega arith
  list-take (grammar.next_statement d ds) = let a = statement-take d in let b = list-take ds in omega arith

-- a word or mark that begins no statement
pub record BeginsNoStatement (f : Fixed) : Type 0 where
  pub assertion : sameb the_type fixed.Assert f ≡ false
  pub assumption : sameb the_type fixed.Assume f ≡ false
  pub havoc : sameb the_type fixed.Havoc f ≡ false
  pub call : sameb the_type fixed.Call f ≡ false
  pub branch : sameb the_type fixed.If f ≡ false
  pub loop : sameb the_type fixed.While f ≡ false
  pub breaking : sameb the_type fixed.Break f ≡ false
  pub jump : sameb the_type fixed.Goto f ≡ false
  pub returning : sameb the_type fixed.Return f ≡ false

pub else_begins_none : BeginsNoStatement fixed.Else
else_begins_none = record { assertion = refl; assumption = refl; havoc = refl; call = refl; branch = refl; loop = refl; breaking = refl; jump = refl; returning = refl }

pub var_begins_none : BeginsNoStatement fixed.Var
var_begins_none = record { assertion = refl; assumption = refl; havoc = refl; call = refl; branch = refl; loop = refl; breaking = refl; jump = refl; returning = refl }

if-open : (f : Fixed) → BeginsNoStatement f → {p b : ℕ} {ts r : List Symbol} {s : Statement} → ReadsIf p b ts s r → seen f ts ≡ None
if-open f b (grammar.without_else {ts = ts} t is g x) = seen-other f fixed.If t ts is b.branch
if-open f b (grammar.with_else {ts = ts} t u is g x iu y) = seen-other f fixed.If t ts is b.branch
if-open f b (grammar.with_else_if {ts = ts} t u is g x iu y) = seen-other f fixed.If t ts is b.branch

statement-open : (f : Fixed) → BeginsNoStatement f → {p b : ℕ} {ts r : List Symbol} {s : Statement} → ReadsStatement p b ts s r → seen f ts ≡ None
statement-open f b (grammar.asserts {ts = ts} t u is d iu) = seen-other f fixed.Assert t ts is b.assertion
statement-open f b (grammar.assumes {ts = ts} t u is d iu) = seen-other f fixed.Assume t ts is b.assumption
statement-open f b (grammar.havocs {ts = ts} t u is d iu) = seen-other f fixed.Havoc t ts is b.havoc
statement-open f b (grammar.assigns t u d is e iu) = names-open f d
statement-open f b (grammar.calls {ts = ts} t n u is name d iu) = seen-other f fixed.Call t (n ∷ ts) is b.call
statement-open f b (grammar.calls_into {ts = ts} t c n u is d ic name e iu) = seen-other f fixed.Call t ts is b.call
statement-open f b (grammar.branches d) = if-open f b d
statement-open f b (grammar.loops {ts = ts} t is g i x) = seen-other f fixed.While t ts is b.loop
statement-open f b (grammar.breaks {r = r} t u is iu) = seen-other f fixed.Break t (u ∷ r) is b.breaking
statement-open f b (grammar.breaks_from {r = r} t n u is name iu) = seen-other f fixed.Break t (n ∷ u ∷ r) is b.breaking
statement-open f b (grammar.goes_to {ts = ts} t u is d iu) = seen-other f fixed.Goto t ts is b.jump
statement-open f b (grammar.returns {r = r} t u is iu) = seen-other f fixed.Return t (u ∷ r) is b.returning
statement-open f b (grammar.labels {r = r} {x = x} n u name iu) = seen-name f n (u ∷ r) x.text name.sign

pub list-open : (f : Fixed) → BeginsNoStatement f → {p b : ℕ} {ts r : List Symbol} {x : Block} → ReadsList p b ts x r → seen f r ≡ None → seen f ts ≡ None
list-open f b grammar.no_statement h = h
list-open f b (grammar.next_statement d ds) h = statement-open f b d

-- names begin with one, and that word or mark does not follow it
record NamedStart (f : Fixed) (ts : List Symbol) : Type 0 where
  symbol : Symbol
  rest : List Symbol
  name : Name
  is : IsName symbol name
  all : ts ≡ symbol ∷ rest
  none : seen f rest ≡ None

names-start : (f : Fixed) {ts r : List Symbol} {xs : List Name} → sameb the_type fixed.Comma f ≡ false → ReadsNames ts xs r → seen f r ≡ None → NamedStart f ts
names-start f apart (last_name {r = r} {x = x} t is) h = record { symbol = t; rest = r; name = x; is = is; all = refl; none = h }
names-start f apart (next_name {m = m} {x = x} t u is c d) h = record { symbol = t; rest = u ∷ m; name = x; is = is; all = refl; none = seen-other f fixed.Comma u m c apart }

-- arguments begin with a parenthesis
arguments-start : {p : ℕ} {ts r : List Symbol} {es : List Expression} → ReadsArguments p ts es r → (x : Read Span) × (seen fixed.OpenParenthesis ts ≡ Some x)
arguments-start (lists.no_argument {r = r} u v iu iv) = (record { value = u.span; rest = v ∷ r }, seen-it fixed.OpenParenthesis u (v ∷ r) iu)
arguments-start (lists.arguments {ts = ts} u v iu d iv) = (record { value = u.span; rest = ts }, seen-it fixed.OpenParenthesis u ts iu)

block-open : (f : Fixed) {p b : ℕ} {ts r : List Symbol} {x : Block} → sameb the_type fixed.OpenBrace f ≡ false → ReadsBlock p b ts x r → seen f ts ≡ None
block-open f apart (grammar.block {ts = ts} u v iu d iv) = seen-other f fixed.OpenBrace u ts iu apart

abbrev stands : Statement → List Symbol → Possible Statement
stands s r = Ok (Some (record { value = s; rest = r }))

-- the statements of a list
pub record ListIs (x : Block) (r : List Symbol) (o : ReadResult (List Statement)) : Type 0 where
  pub items : List Statement
  pub tree : block items ≡ x
  pub reads : o ≡ read items r

-- what is `if` by the grammar, from behind its word
record IfIs (branch : Span → List Symbol → ReadResult Statement) (ts : List Symbol) (s : Statement) (r : List Symbol) : Type 0 where
  symbol : Symbol
  rest : List Symbol
  is : Is symbol fixed.If
  all : ts ≡ symbol ∷ rest
  reads : branch symbol.span rest ≡ read s r

module _ (reads : ℕ → List Symbol → ReadResult Expression) (end : Span) (IsSo : Expression → Type 0)
    (reads-complete : (p : ℕ) (ts : List Symbol) (e : Expression) (r : List Symbol) → Reads p Equivalence ts e r → IsSo e → Ends Equivalence r → reads p ts ≡ read e r) (p : ℕ) where
  -- no statement begins with a closing brace
  pub closing-stops : (inside : Inside) (v : Symbol) (r : List Symbol) → Is v fixed.CloseBrace → statement_at reads end p inside (v ∷ r) ≡ Ok None
  unfolding statement_at
  closing-stops inside v r is = rw is refl

  named-statement : (inside : Inside) (n : Symbol) (ts : List Symbol) (x : Name) (o : ReadResult Statement) → IsName n x → named_at reads end p x (n ∷ ts) ts ≡ o → statement_at reads end p inside (n ∷ ts) ≡ there o
  unfolding statement_at
  named-statement inside n ts x o is e =
      let name : x ≡ record { span = n.span; text = x.text } = ap (λ (w : Span). let y : Name = record { span = w; text = x.text } in y) (sym is.span) in
      let by : statement_by reads end p inside n ts (signs.Name x.text) ≡ there o = subst (λ (w : Name). there (named_at reads end p w (n ∷ ts) ts) ≡ there o) name (ap there e) in
      subst (λ (k : Sign). statement_by reads end p inside n ts k ≡ there o) (sym is.sign) by

  label-it : (inside : Inside) (n u : Symbol) (r : List Symbol) (x : Name) → IsName n x → Is u fixed.Colon → statement_at reads end p inside (n ∷ u ∷ r) ≡ stands (Label x) r
  unfolding named_at
  label-it inside n u r x is colon = named-statement inside n (u ∷ r) x (read (Label x) r) is (rw (seen-it fixed.Colon u r colon) refl)

  assign-here : (inside : Inside) (n : Symbol) (ts : List Symbol) (x : Name) (o : ReadResult Statement) → IsName n x → seen fixed.Colon ts ≡ None → assign_at reads end p n.span (n ∷ ts) ≡ o → statement_at reads end p inside (n ∷ ts) ≡ there o
  unfolding named_at
  assign-here inside n ts x o is none e =
      let placed : assign_at reads end p x.span (n ∷ ts) ≡ o = subst (λ (w : Span). assign_at reads end p w (n ∷ ts) ≡ o) is.span e in
      named-statement inside n ts x o is (rw none placed)

  assign-it : (inside : Inside) (ts : List Symbol) (o : ReadResult Statement) → NamedStart fixed.Colon ts → assign_at reads end p (symbols_place ts) ts ≡ o → statement_at reads end p inside ts ≡ there o
  assign-it inside ts o w =
      subst (λ us. assign_at reads end p (symbols_place us) us ≡ o → statement_at reads end p inside us ≡ there o) (sym w.all) (assign-here inside w.symbol w.rest w.name o w.is w.none)

  assigned : (ts m r : List Symbol) (t u : Symbol) (xs : List Name) (es : List Expression) → ReadsNames ts xs (t ∷ m) → Is t fixed.Becomes → ReadsExpressions p m es (u ∷ r) → Is u fixed.Semicolon → AllByRecursion IsSo es
      → assign_at reads end p (symbols_place ts) ts ≡ read (Assign (symbols_place ts) xs es) r
  unfolding assign_at
  assigned ts m r t u xs es names is d iu shallow =
      rw (
        all_names-complete end ts xs (t ∷ m) names (seen-other fixed.Comma fixed.Becomes t m is refl),
        behind-it end fixed.Becomes t m is,
        expressions-complete reads end IsSo reads-complete p m es (u ∷ r) d shallow (semicolon-ends u r iu) (seen-other fixed.Comma fixed.Semicolon u r iu refl),
        behind-it end fixed.Semicolon u r iu,
      ) refl

  called : (here : Span) (xs : List Name) (f : Name) (ts r : List Symbol) (u : Symbol) (es : List Expression) → ReadsArguments p ts es (u ∷ r) → Is u fixed.Semicolon → AllByRecursion IsSo es
      → called_at reads end p here xs f ts ≡ read (Call here xs f es) r
  unfolding called_at
  called here xs f ts r u es d iu shallow = rw (arguments-complete reads end IsSo reads-complete p ts es (u ∷ r) d shallow, behind-it end fixed.Semicolon u r iu) refl

  call-it : (here : Span) (n : Symbol) (ts r : List Symbol) (f : Name) (u : Symbol) (es : List Expression) → IsName n f → ReadsArguments p ts es (u ∷ r) → Is u fixed.Semicolon → AllByRecursion IsSo es
      → call_at reads end p here (n ∷ ts) ≡ read (Call here [] f es) r
  unfolding call_at
  call-it here n ts r f u es is d iu shallow = let w = arguments-start d in rw (name-it end n ts f is, w.1) (called here [] f ts r u es d iu shallow)

  into-it : (here : Span) (ts m r : List Symbol) (xs : List Name) (c n u : Symbol) (f : Name) (es : List Expression) → ReadsNames ts xs (c ∷ n ∷ m) → Is c fixed.Becomes → IsName n f → ReadsArguments p m es (u ∷ r) → Is u fixed.Semicolon → AllByRecursion IsSo es
      → call_into reads end p here ts ≡ read (Call here xs f es) r
  unfolding call_into
  into-it here ts m r xs c n u f es names ic is d iu shallow =
      rw (all_names-complete end ts xs (c ∷ n ∷ m) names (seen-other fixed.Comma fixed.Becomes c (n ∷ m) ic refl), behind-it end fixed.Becomes c (n ∷ m) ic, name-it end n m f is) (called here xs f m r u es d iu shallow)

  call-into-it : (here : Span) (ts : List Symbol) (o : ReadResult Statement) → NamedStart fixed.OpenParenthesis ts → call_into reads end p here ts ≡ o → call_at reads end p here ts ≡ o
  unfolding call_at
  call-into-it here ts o w e = let name : name_at end ts ≡ read w.name w.rest = rw w.all (name-it end w.symbol w.rest w.name w.is) in rw (name, w.none) e

  mutual
    unfolding statement_at assert_at assume_at havoc_at goto_at return_at break_at loop_at branch_by inside_at block_by list_at

    statement-complete : (b : ℕ) (ts : List Symbol) (s : Statement) (r : List Symbol) → ReadsStatement p b ts s r → EachOfStatement IsSo s → seen fixed.Else r ≡ None
        → statement_at reads end p (inside_at reads end p b) ts ≡ stands s r
    statement-complete b ts s r (grammar.asserts {ts = us} {e = e} t u is d iu) shallow none = rw (is, claim-complete reads end IsSo reads-complete p us e u r d iu shallow) refl
    statement-complete b ts s r (grammar.assumes {ts = us} {e = e} t u is d iu) shallow none = rw (is, claim-complete reads end IsSo reads-complete p us e u r d iu shallow) refl
    statement-complete b ts s r (grammar.havocs {ts = us} {xs = xs} t u is d iu) shallow none = rw (is, listed_names-complete end us xs u r d iu) refl
    statement-complete b ts s r (grammar.assigns {m = m} {xs = xs} {es = es} t u d is e iu) shallow none =
        assign-it (inside_at reads end p b) ts (read (Assign (symbols_place ts) xs es) r) (names-start fixed.Colon refl d (seen-other fixed.Colon fixed.Becomes t m is refl)) (assigned ts m r t u xs es d is e iu shallow)
    statement-complete b ts s r (grammar.calls {ts = us} {f = f} {es = es} t n u is name d iu) shallow none = rw (is, call-it t.span n us r f u es name d iu shallow) refl
    statement-complete b ts s r (grammar.calls_into {ts = us} {m = m} {xs = xs} {f = f} {es = es} t c n u is d ic name e iu) shallow none =
        rw (is, call-into-it t.span us (read (Call t.span xs f es) r) (names-start fixed.OpenParenthesis refl d (seen-other fixed.OpenParenthesis fixed.Becomes c (n ∷ m) ic refl)) (into-it t.span us m r xs c n u f es d ic name e iu shallow)) refl
    statement-complete b ts s r (grammar.branches d) shallow none = let w = if-complete b ts s r d shallow none in rw (w.all, w.is, w.reads) refl
    statement-complete b ts s r (grammar.loops {ts = us} {m = m} {n = n} {g = g} {is = is} {x = x} t it guard invariants body) shallow none =
        rw (it, guard-complete reads end IsSo reads-complete p us g m guard shallow.0, invariants-then b m is n x r invariants shallow.1 body, block-complete b n x r body shallow.2) refl
    statement-complete b ts s r (grammar.breaks t u is iu) shallow none = rw (is, seen-it fixed.Semicolon u r iu) refl
    statement-complete b ts s r (grammar.breaks_from {x = x} t n u is name iu) shallow none =
        rw (is, seen-name fixed.Semicolon n (u ∷ r) x.text name.sign, name-it end n (u ∷ r) x name, behind-it end fixed.Semicolon u r iu) refl
    statement-complete b ts s r (grammar.goes_to {ts = us} {xs = xs} t u is d iu) shallow none = rw (is, listed_names-complete end us xs u r d iu) refl
    statement-complete b ts s r (grammar.returns t u is iu) shallow none = rw (is, behind-it end fixed.Semicolon u r iu) refl
    statement-complete b ts s r (grammar.labels {x = x} n u name iu) shallow none = label-it (inside_at reads end p b) n u r x name iu

    if-complete : (b : ℕ) (ts : List Symbol) (s : Statement) (r : List Symbol) → ReadsIf p b ts s r → EachOfStatement IsSo s → seen fixed.Else r ≡ None → IfIs (branch_by reads end p (inside_at reads end p b)) ts s r
    if-complete b ts s r (grammar.without_else {ts = us} {m = m} {g = g} {x = x} t is guard body) shallow none =
        record { symbol = t; rest = us; is = is; all = refl; reads = rw (guard-complete reads end IsSo reads-complete p us g m guard shallow.0, block-complete b m x r body shallow.1, none) refl }
    if-complete b ts s r (grammar.with_else {ts = us} {m = m} {n = n} {g = g} {x = x} {y = y} t u is guard body iu other) shallow none =
        record {
          symbol = t;
          rest = us;
          is = is;
          all = refl;
          reads = rw (guard-complete reads end IsSo reads-complete p us g m guard shallow.0, block-complete b m x (u ∷ n) body shallow.1, seen-it fixed.Else u n iu, block-open fixed.If refl other, block-complete b n y r other shallow.2) refl;
        }
    if-complete b ts s r (grammar.with_else_if {b = c} {ts = us} {m = m} {n = n} {g = g} {x = x} {s = o} t u is guard body iu other) shallow none =
        let w = if-complete c n o r other shallow.2.0 none in
        record {
          symbol = t;
          rest = us;
          is = is;
          all = refl;
          reads = rw (guard-complete reads end IsSo reads-complete p us g m guard shallow.0, block-complete (suc c) m x (u ∷ n) body shallow.1, seen-it fixed.Else u n iu, w.all, seen-it fixed.If w.symbol w.rest w.is, w.reads) refl;
        }

    block-complete : (b : ℕ) (ts : List Symbol) (x : Block) (r : List Symbol) → ReadsBlock p b ts x r → EachOfBlock IsSo x → (inside_at reads end p b).block ts ≡ read x r
    block-complete b ts x r (grammar.block {b = c} {ts = us} u v iu d iv) shallow =
        let w = list-complete c 0 (length us) us x (v ∷ r) d shallow (closing-stops (inside_at reads end p c) v r iv) (seen-other fixed.Else fixed.CloseBrace v r iv refl) (omega arith) in
        rw (behind-it end fixed.OpenBrace u us iu, w.reads, behind-it end fixed.CloseBrace v r iv, w.tree) refl

    invariants-then : (b : ℕ) (ts : List Symbol) (is : List Invariant) (n : List Symbol) (x : Block) (r : List Symbol) → ReadsInvariants p ts is n → AllByRecursion (λ (i : Invariant). IsSo i.cond) is → ReadsBlock p b n x r → invariants_at reads end p ts ≡ read is n
    invariants-then b ts is n x r d shallow (grammar.block {ts = us} u v iu e iv) = invariants-complete reads end IsSo reads-complete p ts is u us d shallow iu

    list-complete : (b n k : ℕ) (ts : List Symbol) (x : Block) (r : List Symbol) → ReadsList p b ts x r → EachOfBlock IsSo x → statement_at reads end p (inside_at reads end p b) r ≡ Ok None → seen fixed.Else r ≡ None → length ts ≤ k
        → ListIs x r (repeated (statement_item reads end p (inside_at reads end p b)) length n k ts)
    list-complete b n k ts x r grammar.no_statement shallow stop none long =
        record { items = []; tree = refl; reads = stop-read (statement_item reads end p (inside_at reads end p b)) length n k r (ap one_there stop) }
    list-complete b n k ts x r (grammar.next_statement {m = m} {s = s} {x = y} d ds) shallow stop none long =
        let h = statement-take d in
        let w = list-complete b (n - 1) (k - 1) m y r ds shallow.1 stop none (omega arith) in
        record {
          items = s ∷ w.items;
          tree = ap (Then s) w.tree;
          reads = item-read (statement_item reads end p (inside_at reads end p b)) length n k ts m r (s ∷ []) w.items (omega arith) (ap one_there (statement-complete b ts s m d shallow.0 (list-open fixed.Else else_begins_none ds none))) w.reads;
        }

  pub list_is-read : (b : ℕ) (ts : List Symbol) (x : Block) (r : List Symbol) → ReadsList p b ts x r → EachOfBlock IsSo x → statement_at reads end p (inside_at reads end p b) r ≡ Ok None → seen fixed.Else r ≡ None
      → ListIs x r (list_at reads end p (inside_at reads end p b) ts)
  unfolding list_at
  list_is-read b ts x r d shallow stop none = list-complete b 0 (length ts) ts x r d shallow stop none (omega arith)

  pub block-read : (b : ℕ) (ts : List Symbol) (x : Block) (r : List Symbol) → ReadsBlock p b ts x r → EachOfBlock IsSo x → (inside_at reads end p b).block ts ≡ read x r
  block-read b ts x r d shallow = block-complete b ts x r d shallow

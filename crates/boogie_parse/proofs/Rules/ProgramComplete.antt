-- What is a program by the grammar, and within the limits, is read as it.
use Rattle.std.proofs.Common.{◌≡◌, ℕ, zero, suc, ◌+◌, ◌-◌, ◌<◌, ◌≤◌, true, false, List, [], ◌∷◌, ◌++◌, length, map, None, Some, Ok, refl, ap, sym, subst, ◌∙◌, arith, length-append}
use denote.Enum.Bare.{sameb}
use Rattle.std.specs.List.{AllByRecursion}
use Rattle.boogie_tree.specs.declared.span.Span.{Span}
use Rattle.boogie_tree.specs.declared.level.Level.TheVariants.{Equivalence}
use Rattle.boogie_tree.specs.declared.tree.Name.{Name}
use Rattle.boogie_tree.specs.declared.tree.Vary.{Vary}
use Rattle.boogie_tree.specs.Tree.{Expression, Invariant, Specification, Requires, Ensures, Modifies, ProcedureBody, Declaration, Const, Global, Axiom, Declares, Implements}
use Rattle.boogie_parse.specs.declared.symbols.Fixed.{Fixed}
use Rattle.boogie_parse.specs.declared.symbols.Fixed.TheVariants as fixed
use Rattle.boogie_parse.specs.contracts.symbols.Fixed.{the_type}
use Rattle.boogie_parse.specs.declared.symbols.Symbol.{Symbol}
use Rattle.boogie_parse.specs.Reading.Outcomes.{ReadResult}
use Rattle.boogie_parse.specs.Rules.Grammar.{Is, Reads}
use Rattle.boogie_parse.specs.Rules.GrammarLists as lists
use Rattle.boogie_parse.specs.Rules.GrammarLists.{ReadsNames, ReadsVariables, last_group, next_group, ReadsCondition, ReadsDeclared, declared}
use Rattle.boogie_parse.specs.Rules.GrammarProgram as grammar
use Rattle.boogie_parse.specs.Rules.GrammarProgram.{ReadsSpecification, ReadsSpecifications, ReadsLocals, ReadsBody, Head, ReadsHead, procedure_read, ReadsDeclaration, ReadsProgram, joined_groups}
use Rattle.boogie_parse.specs.Rules.GrammarLimits.{IsShallow, IsShallowDeclaration, EachOfBlock, EachOfSpecification, EachOfDeclaration, variables_counted, procedures_counted}
use Rattle.boogie_parse.specs.Ties.ExpressionLaws.{Ends}
use Rattle.boogie_parse.specs.Reading.ListReading.{read, Possible, one_there, repeated, seen, expression_at}
use Rattle.boogie_parse.specs.Reading.StatementReading.{inside_at}
use Rattle.boogie_parse.specs.Reading.ProgramReading.{local_at, locals_at, modifies_at, head_at, requires_at, ensures_at, claimed_at, free_at, specification_at, specification_item, specifications_at, axiom_at, body_at, procedure_at, implementation_at, new_procedure, constants_at, globals_at, declaration_at, declarations_at, program_at}
use Rattle.boogie_parse.specs.Spelling.ProgramSpelling.{Spells}
use Rattle.boogie_parse.proofs.Reading.ProgramCounts.{procedures_joined}
use Rattle.boogie_parse.proofs.Rules.ProgramSound.{count_constants, count_globals}
use Rattle.boogie_parse.proofs.Rules.ListComplete.{seen-it, seen-other, behind-it, name-it, names-take, names-open, group-take, listed_names-complete, declared-complete, opened-it, formals-complete, results-complete, reads-take}
use Rattle.boogie_parse.proofs.Rules.ConditionComplete.{expression_at-complete, condition-take, stop-read, item-read, claim-complete, condition-complete}
use Rattle.boogie_parse.proofs.Rules.StatementComplete.{list-open, var_begins_none, closing-stops, list-take, list_is-read}

variables-take : {ts r : List Symbol} {vs : List Vary} → ReadsVariables ts vs r → length r < length ts
variables-take (last_group d) = group-take d
variables-take (next_group u d c ds) = let x = group-take d in let y = variables-take ds in omega arith

declared-take : {f : Fixed} {ts r : List Symbol} {vs : List Vary} → ReadsDeclared f ts vs r → length r < length ts
declared-take (declared t u is d iu) = let x = variables-take d in omega arith

local-complete : (end : Span) (n : ℕ) (f : Fixed) (ts : List Symbol) (vs : List Vary) (r : List Symbol) → f ≡ fixed.Var → ReadsDeclared f ts vs r → length vs ≤ n → local_at end n ts ≡ Ok (Some (record { value = vs; rest = r }))
unfolding local_at
local-complete end n f ts vs r e (declared {ts = us} t u is d iu) few =
    let it : Is t fixed.Var = subst (Is t) e is in
    rw (seen-it fixed.Var t us it, declared-complete end n us vs u r d iu few) refl

no-local : (end : Span) (n : ℕ) (ts : List Symbol) → seen fixed.Var ts ≡ None → local_at end n ts ≡ Ok None
unfolding local_at
no-local end n ts none = rw none refl

locals-read : (end : Span) (n k : ℕ) (ts : List Symbol) (vs : List Vary) (r : List Symbol) → ReadsLocals ts vs r → seen fixed.Var r ≡ None → length vs ≤ n → length ts ≤ k → repeated (local_at end) length n k ts ≡ read vs r
locals-read end n k ts vs r grammar.no_local none few long = stop-read (local_at end) length n k r (no-local end n r none)
locals-read end n k ts vs r (grammar.next_locals {m = m} {vs = us} {ws = ws} d ds) none few long =
    let h = declared-take d in
    let both : length us + length ws ≤ n = rw length-append at few in
    item-read (local_at end) length n k ts m r us ws (omega arith) (local-complete end n fixed.Var ts us m refl d (omega arith)) (locals-read end (n - length us) (k - 1) m ws r ds none (omega arith) (omega arith))

-- a word or mark that begins no specification and no body
record BeginsNoPart (f : Fixed) : Type 0 where
  freedom : sameb the_type fixed.Free f ≡ false
  requirement : sameb the_type fixed.Requires f ≡ false
  assurance : sameb the_type fixed.Ensures f ≡ false
  modification : sameb the_type fixed.Modifies f ≡ false
  brace : sameb the_type fixed.OpenBrace f ≡ false

semicolon_begins_none : BeginsNoPart fixed.Semicolon
semicolon_begins_none = record { freedom = refl; requirement = refl; assurance = refl; modification = refl; brace = refl }

returns_begins_none : BeginsNoPart fixed.Returns
returns_begins_none = record { freedom = refl; requirement = refl; assurance = refl; modification = refl; brace = refl }

condition-open : (f g : Fixed) {p : ℕ} {ts r : List Symbol} {i : Invariant} → sameb the_type fixed.Free f ≡ false → sameb the_type g f ≡ false → ReadsCondition p g ts i r → seen f ts ≡ None
condition-open f g free apart (lists.checked {ts = us} t u is d iu) = seen-other f g t us is apart
condition-open f g free apart (lists.free {ts = us} s t u is it d iu) = seen-other f fixed.Free s (t ∷ us) is free

specification-open : (f : Fixed) → BeginsNoPart f → {p : ℕ} {ts r : List Symbol} {s : Specification} → ReadsSpecification p ts s r → seen f ts ≡ None
specification-open f b (grammar.requires d) = condition-open f fixed.Requires b.freedom b.requirement d
specification-open f b (grammar.ensures d) = condition-open f fixed.Ensures b.freedom b.assurance d
specification-open f b (grammar.modifies_nothing {r = r} t u is iu) = seen-other f fixed.Modifies t (u ∷ r) is b.modification
specification-open f b (grammar.modifies {ts = us} t u is d iu) = seen-other f fixed.Modifies t us is b.modification

body-open : (f : Fixed) {p c : ℕ} {ts r : List Symbol} {x : ProcedureBody} → sameb the_type fixed.OpenBrace f ≡ false → ReadsBody p c ts x r → seen f ts ≡ None
body-open f apart (grammar.body {ts = us} u v iu l d iv) = seen-other f fixed.OpenBrace u us iu apart

parts-open : (f : Fixed) → BeginsNoPart f → {p c : ℕ} {ts m r : List Symbol} {ss : List Specification} {x : ProcedureBody} → ReadsSpecifications p ts ss m → ReadsBody p c m x r → seen f ts ≡ None
parts-open f b grammar.no_specification d = body-open f b.brace d
parts-open f b (grammar.next_specification s ss) d = specification-open f b s

specification-take : {p : ℕ} {ts r : List Symbol} {s : Specification} → ReadsSpecification p ts s r → length r < length ts
specification-take (grammar.requires d) = condition-take d
specification-take (grammar.ensures d) = condition-take d
specification-take (grammar.modifies_nothing t u is iu) = omega arith
specification-take (grammar.modifies t u is d iu) = let x = names-take d in omega arith

modifies-complete : (end : Span) (ts : List Symbol) (xs : List Name) (u : Symbol) (r : List Symbol) → ReadsNames ts xs (u ∷ r) → Is u fixed.Semicolon → modifies_at end ts ≡ read (Modifies xs) r
unfolding modifies_at
modifies-complete end ts xs u r d is = rw (names-open fixed.Semicolon d, listed_names-complete end ts xs u r d is) refl

modifies_nothing-complete : (end : Span) (u : Symbol) (r : List Symbol) → Is u fixed.Semicolon → modifies_at end (u ∷ r) ≡ read (Modifies []) r
unfolding modifies_at
modifies_nothing-complete end u r is = rw (seen-it fixed.Semicolon u r is) refl

head-complete : (end : Span) (p v : ℕ) (t n : Symbol) (ts m r : List Symbol) (x : Name) (ps rs : List Vary) → lists.IsName n x → lists.ReadsFormals p ts ps m → lists.ReadsResults p m rs r → seen fixed.Returns r ≡ None → length ps + length rs ≤ v
    → head_at end p v t.span (n ∷ ts) ≡ read (record { span = t.span; name = x; params = ps; results = rs }) r
unfolding head_at
head-complete end p v t n ts m r x ps rs is a b none few = rw (name-it end n ts x is, formals-complete end p v ts ps m a (omega arith), results-complete end p (v - length ps) m rs r b none (omega arith)) refl

-- a declaration takes a symbol
formals-take : {p : ℕ} {ts r : List Symbol} {vs : List Vary} → lists.ReadsFormals p ts vs r → length r < length ts
formals-take (lists.no_formal u v iu iv) = omega arith
formals-take (lists.formals u v iu d iv) = let x = variables-take d in omega arith

results-take : {p : ℕ} {ts r : List Symbol} {vs : List Vary} → lists.ReadsResults p ts vs r → length r ≤ length ts
results-take lists.no_result = omega arith
results-take (lists.results t is d) = let x = formals-take d in omega arith

pub head-take : {p : ℕ} {f : Fixed} {ts r : List Symbol} {h : Head} → ReadsHead p f ts h r → length r < length ts
head-take (grammar.head t n is name a b) = let x = formals-take a in let y = results-take b in omega arith

pub specifications-take : {p : ℕ} {ts r : List Symbol} {ss : List Specification} → ReadsSpecifications p ts ss r → length r ≤ length ts
specifications-take grammar.no_specification = omega arith
specifications-take (grammar.next_specification d ds) = let x = specification-take d in let y = specifications-take ds in omega arith

pub locals-take : {ts r : List Symbol} {vs : List Vary} → ReadsLocals ts vs r → length r ≤ length ts
locals-take grammar.no_local = omega arith
locals-take (grammar.next_locals d ds) = let x = declared-take d in let y = locals-take ds in omega arith

body-take : {p b : ℕ} {ts r : List Symbol} {x : ProcedureBody} → ReadsBody p b ts x r → length r < length ts
body-take (grammar.body u v iu l d iv) = let x = locals-take l in let y = list-take d in omega arith

pub declaration-take : {p b : ℕ} {ts r : List Symbol} {ds : List Declaration} → ReadsDeclaration p b ts ds r → length r < length ts
declaration-take (grammar.constants d) = declared-take d
declaration-take (grammar.variables d) = declared-take d
declaration-take (grammar.axioms t u is d iu) = let x = reads-take d in omega arith
declaration-take (grammar.without_body u h is ss) = let x = head-take h in let y = specifications-take ss in omega arith
declaration-take (grammar.with_body h ss x) = let a = head-take h in let b = specifications-take ss in let c = body-take x in omega arith
declaration-take (grammar.implementation h x) = let a = head-take h in let b = body-take x in omega arith

both_parts : (P : Declaration → Type 0) (xs ys : List Declaration) → AllByRecursion P (xs ++ ys) → AllByRecursion P xs × AllByRecursion P ys
both_parts P [] ys h = (tt, h)
both_parts P (x ∷ xs) ys h = let w = both_parts P xs ys h.1 in ((h.0, w.0), w.1)

-- what is left where a text begins anew: no specification stands there
record Anew (ts : List Symbol) : Type 0 where
  free : seen fixed.Free ts ≡ None
  modifies : seen fixed.Modifies ts ≡ None
  requires : seen fixed.Requires ts ≡ None
  ensures : seen fixed.Ensures ts ≡ None

anew-at : (g : Fixed) (t : Symbol) (ts : List Symbol) → Is t g → sameb the_type g fixed.Free ≡ false → sameb the_type g fixed.Modifies ≡ false → sameb the_type g fixed.Requires ≡ false → sameb the_type g fixed.Ensures ≡ false → Anew (t ∷ ts)
anew-at g t ts is a b c d =
    record { free = seen-other fixed.Free g t ts is a; modifies = seen-other fixed.Modifies g t ts is b; requires = seen-other fixed.Requires g t ts is c; ensures = seen-other fixed.Ensures g t ts is d }

nothing-seen : (f : Fixed) → seen f [] ≡ None
unfolding seen
nothing-seen f = refl

anew-end : Anew []
anew-end = record { free = nothing-seen fixed.Free; modifies = nothing-seen fixed.Modifies; requires = nothing-seen fixed.Requires; ensures = nothing-seen fixed.Ensures }

body-anew : {p c : ℕ} {ts r : List Symbol} {x : ProcedureBody} → ReadsBody p c ts x r → Anew ts
body-anew (grammar.body {ts = us} u v iu l d iv) = anew-at fixed.OpenBrace u us iu refl refl refl refl

head-anew : (f : Fixed) {p : ℕ} {ts r : List Symbol} {h : Head} → sameb the_type f fixed.Free ≡ false → sameb the_type f fixed.Modifies ≡ false → sameb the_type f fixed.Requires ≡ false → sameb the_type f fixed.Ensures ≡ false → ReadsHead p f ts h r → Anew ts
head-anew f a b c d (grammar.head {ts = us} t n is name x y) = anew-at f t (n ∷ us) is a b c d

declared-anew : (f : Fixed) {ts r : List Symbol} {vs : List Vary} → sameb the_type f fixed.Free ≡ false → sameb the_type f fixed.Modifies ≡ false → sameb the_type f fixed.Requires ≡ false → sameb the_type f fixed.Ensures ≡ false → ReadsDeclared f ts vs r → Anew ts
declared-anew f a b c d (declared {ts = us} t u is x iu) = anew-at f t us is a b c d

declaration-anew : {p c : ℕ} {ts r : List Symbol} {ds : List Declaration} → ReadsDeclaration p c ts ds r → Anew ts
declaration-anew (grammar.constants d) = declared-anew fixed.Const refl refl refl refl d
declaration-anew (grammar.variables d) = declared-anew fixed.Var refl refl refl refl d
declaration-anew (grammar.axioms {ts = us} t u is d iu) = anew-at fixed.Axiom t us is refl refl refl refl
declaration-anew (grammar.without_body u h is ss) = head-anew fixed.Procedure refl refl refl refl h
declaration-anew (grammar.with_body h ss x) = head-anew fixed.Procedure refl refl refl refl h
declaration-anew (grammar.implementation h x) = head-anew fixed.Implementation refl refl refl refl h

program-anew : {p c : ℕ} {ts : List Symbol} {groups : List (List Declaration)} → ReadsProgram p c ts groups → Anew ts
program-anew grammar.no_declaration = anew-end
program-anew (grammar.next_declaration d ds) = declaration-anew d

module _ (reads : ℕ → List Symbol → ReadResult Expression) (end : Span) (IsSo : Expression → Type 0)
    (reads-complete : (p : ℕ) (ts : List Symbol) (e : Expression) (r : List Symbol) → Reads p Equivalence ts e r → IsSo e → Ends Equivalence r → reads p ts ≡ read e r) (p : ℕ) where
  requires-complete : (f : Fixed) (ts : List Symbol) (i : Invariant) (r : List Symbol) → f ≡ fixed.Requires → ReadsCondition p f ts i r → IsSo i.cond → specification_at reads end p ts ≡ Ok (Some (record { value = Requires i; rest = r }))
  unfolding specification_at free_at claimed_at requires_at
  requires-complete f ts i r e (lists.checked {ts = us} {e = c} t u is d iu) shallow =
      let it : Is t fixed.Requires = subst (Is t) e is in
      rw (seen-other fixed.Free fixed.Requires t us it refl, seen-other fixed.Modifies fixed.Requires t us it refl, seen-it fixed.Requires t us it, condition-complete reads end IsSo reads-complete p false t us c u r d iu shallow) refl
  requires-complete f ts i r e (lists.free {ts = us} {e = c} s t u free is d iu) shallow =
      let it : Is t fixed.Requires = subst (Is t) e is in
      rw (seen-it fixed.Free s (t ∷ us) free, seen-it fixed.Requires t us it, condition-complete reads end IsSo reads-complete p true t us c u r d iu shallow) refl

  ensures-complete : (f : Fixed) (ts : List Symbol) (i : Invariant) (r : List Symbol) → f ≡ fixed.Ensures → ReadsCondition p f ts i r → IsSo i.cond → specification_at reads end p ts ≡ Ok (Some (record { value = Ensures i; rest = r }))
  unfolding specification_at free_at claimed_at ensures_at
  ensures-complete f ts i r e (lists.checked {ts = us} {e = c} t u is d iu) shallow =
      let it : Is t fixed.Ensures = subst (Is t) e is in
      rw (
        seen-other fixed.Free fixed.Ensures t us it refl,
        seen-other fixed.Modifies fixed.Ensures t us it refl,
        seen-other fixed.Requires fixed.Ensures t us it refl,
        seen-it fixed.Ensures t us it,
        condition-complete reads end IsSo reads-complete p false t us c u r d iu shallow,
      ) refl
  ensures-complete f ts i r e (lists.free {ts = us} {e = c} s t u free is d iu) shallow =
      let it : Is t fixed.Ensures = subst (Is t) e is in
      rw (seen-it fixed.Free s (t ∷ us) free, seen-other fixed.Requires fixed.Ensures t us it refl, seen-it fixed.Ensures t us it, condition-complete reads end IsSo reads-complete p true t us c u r d iu shallow) refl

  specification-complete : (ts : List Symbol) (s : Specification) (r : List Symbol) → ReadsSpecification p ts s r → EachOfSpecification IsSo s → specification_at reads end p ts ≡ Ok (Some (record { value = s; rest = r }))
  unfolding specification_at
  specification-complete ts s r (grammar.requires {i = i} d) shallow = requires-complete fixed.Requires ts i r refl d shallow
  specification-complete ts s r (grammar.ensures {i = i} d) shallow = ensures-complete fixed.Ensures ts i r refl d shallow
  specification-complete ts s r (grammar.modifies_nothing t u is iu) shallow =
      rw (seen-other fixed.Free fixed.Modifies t (u ∷ r) is refl, seen-it fixed.Modifies t (u ∷ r) is, modifies_nothing-complete end u r iu) refl
  specification-complete ts s r (grammar.modifies {ts = us} {xs = xs} t u is d iu) shallow =
      rw (seen-other fixed.Free fixed.Modifies t us is refl, seen-it fixed.Modifies t us is, modifies-complete end us xs u r d iu) refl

  no-specification : (ts : List Symbol) → Anew ts → specification_at reads end p ts ≡ Ok None
  unfolding specification_at claimed_at
  no-specification ts a = rw (a.free, a.modifies, a.requires, a.ensures) refl

  specifications-read : (n k : ℕ) (ts : List Symbol) (ss : List Specification) (r : List Symbol) → ReadsSpecifications p ts ss r → AllByRecursion (EachOfSpecification IsSo) ss → Anew r → length ts ≤ k
      → repeated (specification_item reads end p) length n k ts ≡ read ss r
  specifications-read n k ts ss r grammar.no_specification shallow stop long = stop-read (specification_item reads end p) length n k r (ap one_there (no-specification r stop))
  specifications-read n k ts ss r (grammar.next_specification {m = m} {s = s} {ss = rest} d ds) shallow stop long =
      let h = specification-take d in
      item-read (specification_item reads end p) length n k ts m r (s ∷ []) rest (omega arith) (ap one_there (specification-complete ts s m d shallow.0)) (specifications-read (n - 1) (k - 1) m rest r ds shallow.1 stop (omega arith))

  specifications-complete : (ts : List Symbol) (ss : List Specification) (r : List Symbol) → ReadsSpecifications p ts ss r → AllByRecursion (EachOfSpecification IsSo) ss → Anew r → specifications_at reads end p ts ≡ read ss r
  unfolding specifications_at
  specifications-complete ts ss r d shallow stop = specifications-read 0 (length ts) ts ss r d shallow stop (omega arith)

  body-complete : (b n : ℕ) (ts : List Symbol) (x : ProcedureBody) (r : List Symbol) → ReadsBody p b ts x r → EachOfBlock IsSo x.stmts → length x.locals ≤ n → body_at reads end p b n ts ≡ read x r
  unfolding body_at locals_at
  body-complete b n ts x r (grammar.body {b = c} {ts = us} {m = m} {vs = vs} {x = y} u v iu l d iv) shallow few =
      let w = list_is-read reads end IsSo reads-complete p c m y (v ∷ r) d shallow (closing-stops reads end IsSo reads-complete p (inside_at reads end p c) v r iv) (seen-other fixed.Else fixed.CloseBrace v r iv refl) in
      let none : seen fixed.Var m ≡ None = list-open fixed.Var var_begins_none d (seen-other fixed.Var fixed.CloseBrace v r iv refl) in
      rw (opened-it end fixed.OpenBrace c u us iu, locals-read end n (length us) us vs m l none few (omega arith), w.reads, behind-it end fixed.CloseBrace v r iv, w.tree) refl

  module _ (b v : ℕ) where
    abbrev stands : List Declaration → List Symbol → Possible (List Declaration)
    stands ds r = Ok (Some (record { value = ds; rest = r }))

    new-procedure : (q : ℕ) (here : Span) (ts : List Symbol) → 0 < q → new_procedure reads end p b v q here ts ≡ procedure_at reads end p b v here ts
    unfolding new_procedure
    new-procedure zero here ts h = absurd (omega arith)
    new-procedure (suc q) here ts h = refl

    constants-complete : (q : ℕ) (f : Fixed) (ts : List Symbol) (vs : List Vary) (r : List Symbol) → f ≡ fixed.Const → ReadsDeclared f ts vs r → length vs ≤ v → declaration_at reads end p b v q ts ≡ stands (map Const vs) r
    unfolding declaration_at constants_at
    constants-complete q f ts vs r e (declared {ts = us} t u is d iu) few =
        let it : Is t fixed.Const = subst (Is t) e is in
        rw (it, declared-complete end v us vs u r d iu few) refl

    globals-complete : (q : ℕ) (f : Fixed) (ts : List Symbol) (vs : List Vary) (r : List Symbol) → f ≡ fixed.Var → ReadsDeclared f ts vs r → length vs ≤ v → declaration_at reads end p b v q ts ≡ stands (map Global vs) r
    unfolding declaration_at globals_at
    globals-complete q f ts vs r e (declared {ts = us} t u is d iu) few =
        let it : Is t fixed.Var = subst (Is t) e is in
        rw (it, declared-complete end v us vs u r d iu few) refl

    without-complete : (q : ℕ) (f : Fixed) (ts m r : List Symbol) (h : Head) (u : Symbol) (ss : List Specification) → f ≡ fixed.Procedure → 0 < q → ReadsHead p f ts h (u ∷ m) → length h.params + length h.results ≤ v → Is u fixed.Semicolon
        → ReadsSpecifications p m ss r → AllByRecursion (EachOfSpecification IsSo) ss → Anew r → declaration_at reads end p b v q ts ≡ stands (Declares (procedure_read h ss None) ∷ []) r
    unfolding declaration_at procedure_at
    without-complete q f ts m r h u ss e room (grammar.head {ts = us} {m = k} {x = x} {ps = ps} {rs = rs} t n is name a c) few semicolon specs shallow stop =
        let it : Is t fixed.Procedure = subst (Is t) e is in
        rw (
          it,
          new-procedure q t.span (n ∷ us) room,
          head-complete end p v t n us k (u ∷ m) x ps rs name a c (seen-other fixed.Returns fixed.Semicolon u m semicolon refl) few,
          seen-it fixed.Semicolon u m semicolon,
          specifications-complete m ss r specs shallow stop,
        ) refl

    with-complete : (q : ℕ) (f : Fixed) (ts m n r : List Symbol) (h : Head) (ss : List Specification) (y : ProcedureBody) → f ≡ fixed.Procedure → 0 < q → ReadsHead p f ts h m → length h.params + length h.results + length y.locals ≤ v
        → ReadsSpecifications p m ss n → AllByRecursion (EachOfSpecification IsSo) ss → ReadsBody p b n y r → EachOfBlock IsSo y.stmts → declaration_at reads end p b v q ts ≡ stands (Declares (procedure_read h ss (Some y)) ∷ []) r
    unfolding declaration_at procedure_at
    with-complete q f ts m n r h ss y e room (grammar.head {ts = us} {m = k} {x = x} {ps = ps} {rs = rs} t w is name a c) few specs shallow body low =
        let it : Is t fixed.Procedure = subst (Is t) e is in
        rw (
          it,
          new-procedure q t.span (w ∷ us) room,
          head-complete end p v t w us k m x ps rs name a c (parts-open fixed.Returns returns_begins_none specs body) (omega arith),
          parts-open fixed.Semicolon semicolon_begins_none specs body,
          specifications-complete m ss n specs shallow (body-anew body),
          body-complete b (v - length ps - length rs) n y r body low (omega arith),
        ) refl

    implementation-complete : (q : ℕ) (f : Fixed) (ts m r : List Symbol) (h : Head) (y : ProcedureBody) → f ≡ fixed.Implementation → ReadsHead p f ts h m → length h.params + length h.results + length y.locals ≤ v
        → ReadsBody p b m y r → EachOfBlock IsSo y.stmts → declaration_at reads end p b v q ts ≡ stands (Implements (procedure_read h [] (Some y)) ∷ []) r
    unfolding declaration_at implementation_at
    implementation-complete q f ts m r h y e (grammar.head {ts = us} {m = k} {x = x} {ps = ps} {rs = rs} t w is name a c) few body low =
        let it : Is t fixed.Implementation = subst (Is t) e is in
        rw (it, head-complete end p v t w us k m x ps rs name a c (body-open fixed.Returns refl body) (omega arith), body-complete b (v - length ps - length rs) m y r body low (omega arith)) refl

    axiom-complete : (q : ℕ) (t u : Symbol) (ts : List Symbol) (e : Expression) (r : List Symbol) → Is t fixed.Axiom → Reads p Equivalence ts e (u ∷ r) → Is u fixed.Semicolon → IsSo e → declaration_at reads end p b v q (t ∷ ts) ≡ stands (Axiom t.span e ∷ []) r
    unfolding declaration_at axiom_at
    axiom-complete q t u ts e r is d iu shallow = rw (is, claim-complete reads end IsSo reads-complete p ts e u r d iu shallow) refl

    declaration-complete : (q : ℕ) (ts : List Symbol) (ds : List Declaration) (r : List Symbol) → ReadsDeclaration p b ts ds r → AllByRecursion (EachOfDeclaration IsSo) ds → variables_counted ds ≤ v → procedures_counted ds ≤ q → Anew r
        → declaration_at reads end p b v q ts ≡ stands ds r
    declaration-complete q ts ds r (grammar.constants {vs = vs} d) shallow few room stop = constants-complete q fixed.Const ts vs r refl d (let k : length vs ≤ v = rw count_constants at few in k)
    declaration-complete q ts ds r (grammar.variables {vs = vs} d) shallow few room stop = globals-complete q fixed.Var ts vs r refl d (let k : length vs ≤ v = rw count_globals at few in k)
    declaration-complete q ts ds r (grammar.axioms {ts = us} {e = e} t u is d iu) shallow few room stop = axiom-complete q t u us e r is d iu shallow.0
    declaration-complete q ts ds r (grammar.without_body {m = m} {h = h} {ss = ss} u front is specs) shallow few room stop =
        without-complete q fixed.Procedure ts m r h u ss refl (omega arith) front (omega arith) is specs shallow.0.0 stop
    declaration-complete q ts ds r (grammar.with_body {m = m} {n = n} {h = h} {ss = ss} {x = x} front specs body) shallow few room stop =
        with-complete q fixed.Procedure ts m n r h ss x refl (omega arith) front (omega arith) specs shallow.0.0 body shallow.0.1
    declaration-complete q ts ds r (grammar.implementation {m = m} {h = h} {x = x} front body) shallow few room stop =
        implementation-complete q fixed.Implementation ts m r h x refl front (omega arith) body shallow.0.1

    no-declaration : (q : ℕ) → declaration_at reads end p b v q [] ≡ Ok None
    unfolding declaration_at
    no-declaration q = refl

    program-read : (q k : ℕ) (ts : List Symbol) (groups : List (List Declaration)) → ReadsProgram p b ts groups → AllByRecursion (EachOfDeclaration IsSo) (joined_groups groups) → AllByRecursion (λ ds. variables_counted ds ≤ v) groups
        → procedures_counted (joined_groups groups) ≤ q → length ts ≤ k → repeated (declaration_at reads end p b v) procedures_counted q k ts ≡ read (joined_groups groups) []
    program-read q k ts groups grammar.no_declaration shallow few room long = stop-read (declaration_at reads end p b v) procedures_counted q k [] (no-declaration q)
    program-read q k ts groups (grammar.next_declaration {m = m} {ds = ds} {groups = more} d rest) shallow few room long =
        let h = declaration-take d in
        let low = both_parts (EachOfDeclaration IsSo) ds (joined_groups more) shallow in
        let sum : procedures_counted ds + procedures_counted (joined_groups more) ≤ q = rw procedures_joined at room in
        item-read (declaration_at reads end p b v) procedures_counted q k ts m [] ds (joined_groups more) (omega arith) (declaration-complete q ts ds m d low.0 few.0 (omega arith) (program-anew rest))
        (program-read (q - procedures_counted ds) (k - 1) m more rest low.1 few.1 (omega arith) (omega arith))

    pub program-joined : (q : ℕ) (ts : List Symbol) (groups : List (List Declaration)) → ReadsProgram p b ts groups → AllByRecursion (EachOfDeclaration IsSo) (joined_groups groups) → AllByRecursion (λ ds. variables_counted ds ≤ v) groups
        → procedures_counted (joined_groups groups) ≤ q → program_at reads end p b v q ts ≡ Ok (joined_groups groups)
    unfolding program_at declarations_at
    program-joined q ts groups d shallow few room = rw (program-read q (length ts) ts groups d shallow few room (omega arith)) refl

pub program-complete : (end : Span) (p b v q : ℕ) (ts : List Symbol) (program : List Declaration) → Spells p b v q ts program → program_at (expression_at end) end p b v q ts ≡ Ok program
program-complete end p b v q ts program w =
    let shallow : AllByRecursion IsShallowDeclaration (joined_groups w.groups) = subst (AllByRecursion IsShallowDeclaration) w.declarations w.shallow in
    let room : procedures_counted (joined_groups w.groups) ≤ q = subst (λ ds. procedures_counted ds ≤ q) w.declarations w.few_procedures in
    program-joined (expression_at end) end IsShallow (expression_at-complete end) p b v q ts w.groups w.spelled shallow w.few_variables room ∙ ap Ok (sym w.declarations)

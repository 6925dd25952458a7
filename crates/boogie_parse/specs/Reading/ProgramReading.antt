-- Reading declarations and programs, step by step as the code does it. `reads` reads expressions; in a declaration p parentheses and b blocks may be open
-- at once, and v variables may be declared.
use Rattle.std.specs.Prelude.{ℕ, zero, suc, ◌-◌, Bool, true, false, List, [], ◌∷◌, length, map, Option, None, Some, Result, Ok, Err}
use Rattle.boogie_tree.specs.declared.span.Span.{Span}
use Rattle.boogie_tree.specs.declared.tree.Vary.{Vary}
use Rattle.boogie_tree.specs.Tree.{Expression, Specification, Requires, Ensures, Modifies, ProcedureBody, Declaration, Const, Global, Axiom, Declares, Implements}
use Rattle.boogie_tree.specs.View.{block}
use Rattle.boogie_parse.specs.declared.fault.Fault.{Fault}
use Rattle.boogie_parse.specs.declared.fault.Which.TheVariants as which
use Rattle.boogie_parse.specs.declared.symbols.Fixed.TheVariants as fixed
use Rattle.boogie_parse.specs.declared.symbols.Sign.{Sign}
use Rattle.boogie_parse.specs.declared.symbols.Sign.TheVariants as signs
use Rattle.boogie_parse.specs.declared.symbols.Symbol.{Symbol}
use Rattle.boogie_parse.specs.Reading.Outcomes.{Read, ReadResult, place_or, syntax_fault, limit_fault}
use Rattle.boogie_parse.specs.Rules.GrammarLimits.{procedures_counted}
use Rattle.boogie_parse.specs.Rules.GrammarProgram.{Head, procedure_read}
use Rattle.boogie_parse.specs.Reading.ListReading.{◌>>=◌, read, Possible, there, one_there, repeated, seen, behind, opened, name_at, listed_names, declared_behind, formals_at, results_at, claim_at, condition_behind}
use Rattle.boogie_parse.specs.Reading.StatementReading.{inside_at, list_at}

abbrev pub local_by : Span → ℕ → Option (Read Span) → Possible (List Vary)
local_by end room None = Ok None
local_by end room (Some word) = there (declared_behind end room word.rest)

-- the locals of one `var`, if it stands there, so many at most
unfoldable pub local_at : Span → ℕ → List Symbol → Possible (List Vary)
local_at end room ts = local_by end room (seen fixed.Var ts)

-- the locals that stand there, so many at most
unfoldable pub locals_at : Span → ℕ → List Symbol → ReadResult (List Vary)
locals_at end room ts = repeated (local_at end) length room (length ts) ts

abbrev pub modifies_by : Span → List Symbol → Option (Read Span) → ReadResult Specification
modifies_by end ts (Some semicolon) = read (Modifies []) semicolon.rest
modifies_by end ts None = do
  xs ← listed_names end ts
  read (Modifies xs.value) xs.rest

-- a modifies list, behind its word
unfoldable pub modifies_at : Span → List Symbol → ReadResult Specification
modifies_at end ts = modifies_by end ts (seen fixed.Semicolon ts)

-- the front of a procedure or an implementation, behind its word, which stands `here`, with v variables at most
unfoldable pub head_at : Span → ℕ → ℕ → Span → List Symbol → ReadResult Head
head_at end p v here ts = do
  x ← name_at end ts
  ps ← formals_at end p v x.rest
  rs ← results_at end p (v - length ps.value) ps.rest
  read (record { span = here; name = x.value; params = ps.value; results = rs.value }) rs.rest

-- how many more variables may be declared behind a head
abbrev pub room_behind : ℕ → Head → ℕ
room_behind v h = v - length h.params - length h.results

abbrev pub finished : Span → Read (List Declaration) → List Symbol → Result (List Declaration) Fault
finished end ds [] = Ok ds.value
finished end ds (t ∷ ts) = Err (syntax_fault t.span)

module _ (reads : ℕ → List Symbol → ReadResult Expression) (end : Span) (p : ℕ) where
  unfoldable pub requires_at : Bool → Read Span → ReadResult Specification
  requires_at free word = do
    i ← condition_behind reads end p free word
    read (Requires i.value) i.rest

  unfoldable pub ensures_at : Bool → Read Span → ReadResult Specification
  ensures_at free word = do
    i ← condition_behind reads end p free word
    read (Ensures i.value) i.rest

  -- a requires or an ensures, if it stands there
  abbrev pub claimed_by : Bool → Option (Read Span) → Option (Read Span) → Possible Specification
  claimed_by free (Some word) more = there (requires_at free word)
  claimed_by free None (Some word) = there (ensures_at free word)
  claimed_by free None None = Ok None

  unfoldable pub claimed_at : Bool → List Symbol → Possible Specification
  claimed_at free ts = claimed_by free (seen fixed.Requires ts) (seen fixed.Ensures ts)

  abbrev pub must_stand : List Symbol → Possible Specification → Possible Specification
  must_stand ts (Ok None) = Err (syntax_fault (place_or end ts))
  must_stand ts (Ok (Some r)) = Ok (Some r)
  must_stand ts (Err f) = Err f

  -- a requires or an ensures, which must stand there and is free
  unfoldable pub free_at : List Symbol → Possible Specification
  free_at ts = must_stand ts (claimed_at true ts)

  abbrev pub specification_by : List Symbol → Option (Read Span) → Option (Read Span) → Possible Specification
  specification_by ts (Some free) word = free_at free.rest
  specification_by ts None (Some word) = there (modifies_at end word.rest)
  specification_by ts None None = claimed_at false ts

  -- a specification, if one stands there
  unfoldable pub specification_at : List Symbol → Possible Specification
  specification_at ts = specification_by ts (seen fixed.Free ts) (seen fixed.Modifies ts)

  abbrev pub specification_item : ℕ → List Symbol → Possible (List Specification)
  specification_item room ts = one_there (specification_at ts)

  -- the specifications that stand there
  unfoldable pub specifications_at : List Symbol → ReadResult (List Specification)
  specifications_at ts = repeated specification_item length 0 (length ts) ts

  unfoldable pub axiom_at : Span → List Symbol → ReadResult (List Declaration)
  axiom_at here ts = do
    e ← claim_at reads end p ts
    read (Axiom here e.value ∷ []) e.rest

  module _ (b : ℕ) where
    -- a body, with so many locals at most
    unfoldable pub body_at : ℕ → List Symbol → ReadResult ProcedureBody
    body_at room ts = do
      inner ← opened end fixed.OpenBrace b ts
      vs ← locals_at end room inner.rest
      ss ← list_at reads end p (inside_at reads end p inner.value) vs.rest
      closing ← behind end fixed.CloseBrace ss.rest
      read (record { locals = vs.value; stmts = block ss.value }) closing.rest

    module _ (v : ℕ) where
      abbrev pub procedure_by : Head → List Symbol → Option (Read Span) → ReadResult (List Declaration)
      procedure_by h ts (Some semicolon) = do
        ss ← specifications_at semicolon.rest
        read (Declares (procedure_read h ss.value None) ∷ []) ss.rest
      procedure_by h ts None = do
        ss ← specifications_at ts
        x ← body_at (room_behind v h) ss.rest
        read (Declares (procedure_read h ss.value (Some x.value)) ∷ []) x.rest

      -- a procedure, behind its word
      unfoldable pub procedure_at : Span → List Symbol → ReadResult (List Declaration)
      procedure_at here ts = do
        h ← head_at end p v here ts
        procedure_by h.value h.rest (seen fixed.Semicolon h.rest)

      -- an implementation, behind its word
      unfoldable pub implementation_at : Span → List Symbol → ReadResult (List Declaration)
      implementation_at here ts = do
        h ← head_at end p v here ts
        x ← body_at (room_behind v h.value) h.rest
        read (Implements (procedure_read h.value [] (Some x.value)) ∷ []) x.rest

      -- a procedure, if there is room for one more
      unfoldable pub new_procedure : ℕ → Span → List Symbol → ReadResult (List Declaration)
      new_procedure zero here ts = Err (limit_fault which.Procedures here)
      new_procedure (suc room) here ts = procedure_at here ts

      unfoldable pub constants_at : List Symbol → ReadResult (List Declaration)
      constants_at ts = do
        vs ← declared_behind end v ts
        read (map Const vs.value) vs.rest

      unfoldable pub globals_at : List Symbol → ReadResult (List Declaration)
      globals_at ts = do
        vs ← declared_behind end v ts
        read (map Global vs.value) vs.rest

      abbrev pub declaration_by : ℕ → Span → List Symbol → Sign → Possible (List Declaration)
      declaration_by room here ts (signs.Fixed fixed.Const) = there (constants_at ts)
      declaration_by room here ts (signs.Fixed fixed.Var) = there (globals_at ts)
      declaration_by room here ts (signs.Fixed fixed.Axiom) = there (axiom_at here ts)
      declaration_by room here ts (signs.Fixed fixed.Procedure) = there (new_procedure room here ts)
      declaration_by room here ts (signs.Fixed fixed.Implementation) = there (implementation_at here ts)
      declaration_by room here ts sign = Ok None

      -- a declaration of the text, if one stands there, with so many procedures at most
      unfoldable pub declaration_at : ℕ → List Symbol → Possible (List Declaration)
      declaration_at room [] = Ok None
      declaration_at room (t ∷ ts) = declaration_by room t.span ts t.sign

      -- the declarations that stand there, with so many procedures at most
      unfoldable pub declarations_at : ℕ → List Symbol → ReadResult (List Declaration)
      declarations_at room ts = repeated declaration_at procedures_counted room (length ts) ts

      -- a whole program, with so many procedures at most
      unfoldable pub program_at : ℕ → List Symbol → Result (List Declaration) Fault
      program_at room ts = do
        ds ← declarations_at room ts
        finished end ds ds.rest

-- What is read as declarations and programs is so by the grammar, and within the limits.
use Rattle.std.proofs.Common.{◌≡◌, ℕ, zero, suc, ◌+◌, ◌-◌, ◌≤◌, true, false, List, [], ◌∷◌, ◌++◌, length, map, Option, None, Some, Ok, Err, IfOk, IfSome, refl, ap, sym, subst, arith, length-append}
use Rattle.std.specs.List.{AllByRecursion}
use Rattle.boogie_tree.specs.declared.span.Span.{Span}
use Rattle.boogie_tree.specs.declared.tree.Name.{Name}
use Rattle.boogie_tree.specs.declared.tree.Vary.{Vary}
use Rattle.boogie_tree.specs.Tree.{Expression, Invariant, Statement, Specification, ProcedureBody, Declaration, Const, Global, Declares, Implements}
use Rattle.boogie_tree.specs.View.{block}
use Rattle.boogie_parse.specs.declared.symbols.Fixed.{Fixed}
use Rattle.boogie_parse.specs.declared.symbols.Fixed.TheVariants as fixed
use Rattle.boogie_parse.specs.declared.symbols.Sign.{Sign}
use Rattle.boogie_parse.specs.declared.symbols.Sign.TheVariants as signs
use Rattle.boogie_parse.specs.declared.symbols.Symbol.{Symbol}
use Rattle.boogie_parse.specs.Reading.Outcomes.{Read, ReadResult}
use Rattle.boogie_parse.specs.Rules.Grammar.{Is}
use Rattle.boogie_parse.specs.Rules.GrammarLists.{ReadsNames, ReadsDeclared, declared}
use Rattle.boogie_parse.specs.Rules.GrammarStatements.{ReadsList}
use Rattle.boogie_parse.specs.Rules.GrammarProgram as grammar
use Rattle.boogie_parse.specs.Rules.GrammarProgram.{ReadsSpecification, ReadsSpecifications, ReadsLocals, ReadsBody, Head, ReadsHead, procedure_read, ReadsDeclaration, ReadsProgram, joined_groups}
use Rattle.boogie_parse.specs.Rules.GrammarLimits.{IsShallowBlock, IsShallowSpecification, IsShallowDeclaration, variables_counted, procedures_counted}
use Rattle.boogie_parse.specs.Reading.ListReading.{seen, behind, opened, name_at, listed_names, declared_behind, formals_at, results_at, claim_at, condition_behind}
use Rattle.boogie_parse.specs.Reading.StatementReading.{inside_at, list_at}
use Rattle.boogie_parse.specs.Reading.ProgramReading.{local_by, local_at, locals_at, modifies_by, modifies_at, head_at, room_behind, finished, requires_at, ensures_at, claimed_by, claimed_at, must_stand, free_at, specification_by, specification_at, specification_item, specifications_at, axiom_at, body_at, procedure_by, procedure_at, implementation_at, new_procedure, constants_at, globals_at, declaration_by, declaration_at, declarations_at, program_at}
use Rattle.boogie_parse.specs.Spelling.ProgramSpelling.{Spells}
use Rattle.boogie_parse.proofs.Reading.ProgramCounts.{procedures_joined}
use Rattle.boogie_parse.proofs.Rules.ListSound.{then, weaker, Stands, seen-sound, behind-sound, Named, name-sound, AreVariables, declared-sound, Before, listed_names-sound, Opens, opened-sound, AreFormals, formals-sound, AreResults, results-sound}
use Rattle.boogie_parse.proofs.Rules.ConditionSound.{IfThere, there-sound, repeated-sound, Alone, one_there-sound, IsExpressionRead, IsConditionRead, claim-sound, plain-sound, free-sound}
use Rattle.boogie_parse.proofs.Rules.StatementSound.{AreStatements, list-sound}

abbrev pub AreDeclared : Fixed → ℕ → List Symbol → List Vary → List Symbol → Type 0
AreDeclared f n ts vs r = ReadsDeclared f ts vs r × (length vs ≤ n)

declared_of : (f : Fixed) (n : ℕ) (ts : List Symbol) (word : Read Span) (x : Read (List Vary)) → Stands f ts word → Before (AreVariables n word.rest) fixed.Semicolon x → AreDeclared f n ts x.value x.rest
declared_of f n ts word x s b = (rw s.all (declared s.symbol b.symbol s.is b.spelled.0 b.is), b.spelled.1)

local_by-sound : (end : Span) (n : ℕ) (ts : List Symbol) (o : Option (Read Span)) → IfSome o (Stands fixed.Var ts) → IfThere (local_by end n o) (λ x. AreDeclared fixed.Var n ts x.value x.rest)
local_by-sound end n ts None s = tt
local_by-sound end n ts (Some word) s =
    there-sound (λ x. AreDeclared fixed.Var n ts x.value x.rest) (declared_behind end n word.rest)
    (weaker (Before (AreVariables n word.rest) fixed.Semicolon) (λ x. AreDeclared fixed.Var n ts x.value x.rest) (declared_behind end n word.rest) (declared-sound end n word.rest) (λ x b. declared_of fixed.Var n ts word x s b))

pub local-sound : (end : Span) (n : ℕ) (ts : List Symbol) → IfThere (local_at end n ts) (λ x. AreDeclared fixed.Var n ts x.value x.rest)
unfolding local_at
local-sound end n ts = local_by-sound end n ts (seen fixed.Var ts) (seen-sound fixed.Var ts)

abbrev pub AreLocals : ℕ → List Symbol → List Vary → List Symbol → Type 0
AreLocals n ts vs r = ReadsLocals ts vs r × (length vs ≤ n)

next_of_locals : (n : ℕ) (ts : List Symbol) (vs : List Vary) (m : List Symbol) (ws : List Vary) (r : List Symbol) → AreDeclared fixed.Var n ts vs m → AreLocals (n - length vs) m ws r → AreLocals n ts (vs ++ ws) r
next_of_locals n ts vs m ws r i h =
    let few = i.1 in
    let more = h.1 in
    (grammar.next_locals i.0 h.0, rw length-append (let k : length vs + length ws ≤ n = omega arith in k))

pub locals-sound : (end : Span) (n : ℕ) (ts : List Symbol) → IfOk (locals_at end n ts) (λ x. AreLocals n ts x.value x.rest)
unfolding locals_at
locals-sound end n ts = repeated-sound (local_at end) length (AreDeclared fixed.Var) AreLocals (λ n us. (grammar.no_local, omega arith)) next_of_locals (local-sound end) (length ts) n ts

abbrev pub IsSpecificationRead : ℕ → List Symbol → Specification → List Symbol → Type 0
IsSpecificationRead p ts s r = ReadsSpecification p ts s r × IsShallowSpecification s

modifies_by-sound : (end : Span) (p : ℕ) (ts : List Symbol) (word : Read Span) (o : Option (Read Span)) → Stands fixed.Modifies ts word → IfSome o (Stands fixed.Semicolon word.rest)
    → IfOk (modifies_by end word.rest o) (λ x. IsSpecificationRead p ts x.value x.rest)
modifies_by-sound end p ts word (Some semicolon) s c = (rw (s.all, c.all) (grammar.modifies_nothing s.symbol c.symbol s.is c.is), tt)
modifies_by-sound end p ts word None s c =
    then (Before (ReadsNames word.rest) fixed.Semicolon) (λ x. IsSpecificationRead p ts x.value x.rest) (listed_names end word.rest) _ (listed_names-sound end word.rest) (λ xs b.
    (rw s.all (grammar.modifies s.symbol b.symbol s.is b.spelled b.is), tt))

modifies-sound : (end : Span) (p : ℕ) (ts : List Symbol) (word : Read Span) → Stands fixed.Modifies ts word → IfOk (modifies_at end word.rest) (λ x. IsSpecificationRead p ts x.value x.rest)
unfolding modifies_at
modifies-sound end p ts word s = modifies_by-sound end p ts word (seen fixed.Semicolon word.rest) s (seen-sound fixed.Semicolon word.rest)

-- a head that begins with that word, with so many variables at most
abbrev pub IsHeadRead : ℕ → ℕ → Fixed → List Symbol → Head → List Symbol → Type 0
IsHeadRead p v f ts h r = ReadsHead p f ts h r × (length h.params + length h.results ≤ v)

headed : (p v : ℕ) (f : Fixed) (t : Symbol) (ts : List Symbol) (x : Read Name) (ps rs : Read (List Vary)) → Is t f → Named ts x → AreFormals p v x.rest ps.value ps.rest
    → AreResults p (v - length ps.value) ps.rest rs.value rs.rest → IsHeadRead p v f (t ∷ ts) (record { span = t.span; name = x.value; params = ps.value; results = rs.value }) rs.rest
headed p v f t ts x ps rs is n a b =
    let few = a.1 in
    let more = b.1 in
    (rw n.all (grammar.head t n.symbol is n.is a.0 b.0), omega arith)

pub head-sound : (end : Span) (p v : ℕ) (f : Fixed) (t : Symbol) (ts : List Symbol) → Is t f → IfOk (head_at end p v t.span ts) (λ x. IsHeadRead p v f (t ∷ ts) x.value x.rest)
unfolding head_at
head-sound end p v f t ts is =
    then (Named ts) (λ x. IsHeadRead p v f (t ∷ ts) x.value x.rest) (name_at end ts) _ (name-sound end ts) (λ x n.
    then (λ (y : Read (List Vary)). AreFormals p v x.rest y.value y.rest) (λ x. IsHeadRead p v f (t ∷ ts) x.value x.rest) (formals_at end p v x.rest) _ (formals-sound end p v x.rest) (λ ps a.
    then (λ (y : Read (List Vary)). AreResults p (v - length ps.value) ps.rest y.value y.rest) (λ x. IsHeadRead p v f (t ∷ ts) x.value x.rest) (results_at end p (v - length ps.value) ps.rest) _ (results-sound end p (v - length ps.value) ps.rest) (λ rs b.
    headed p v f t ts x ps rs is n a b)))

shallow_constants : (vs : List Vary) → AllByRecursion IsShallowDeclaration (map Const vs)
shallow_constants [] = tt
shallow_constants (v ∷ vs) = (tt, shallow_constants vs)

shallow_globals : (vs : List Vary) → AllByRecursion IsShallowDeclaration (map Global vs)
shallow_globals [] = tt
shallow_globals (v ∷ vs) = (tt, shallow_globals vs)

pub count_constants : (vs : List Vary) → variables_counted (map Const vs) ≡ length vs
count_constants [] = refl
count_constants (v ∷ vs) = ap suc (count_constants vs)

pub count_globals : (vs : List Vary) → variables_counted (map Global vs) ≡ length vs
count_globals [] = refl
count_globals (v ∷ vs) = ap suc (count_globals vs)

pub no_procedure_constants : (vs : List Vary) → procedures_counted (map Const vs) ≡ 0
no_procedure_constants [] = refl
no_procedure_constants (v ∷ vs) = no_procedure_constants vs

pub no_procedure_globals : (vs : List Vary) → procedures_counted (map Global vs) ≡ 0
no_procedure_globals [] = refl
no_procedure_globals (v ∷ vs) = no_procedure_globals vs

-- a declaration of the text, within the limits, with so many procedures at most
pub record IsDeclarationRead (p b v q : ℕ) (ts : List Symbol) (ds : List Declaration) (r : List Symbol) : Type 0 where
  pub spelled : ReadsDeclaration p b ts ds r
  shallow : AllByRecursion IsShallowDeclaration ds
  few : variables_counted ds ≤ v
  procedures : procedures_counted ds ≤ q

-- the declarations of a text that ends there are a program
record IsProgramRead (p b v q : ℕ) (ts : List Symbol) (ds : List Declaration) (r : List Symbol) : Type 0 where
  groups : List (List Declaration)
  pub spelled : r ≡ [] → ReadsProgram p b ts groups
  declarations : ds ≡ joined_groups groups
  shallow : AllByRecursion IsShallowDeclaration ds
  few : AllByRecursion (λ us. variables_counted us ≤ v) groups
  procedures : procedures_counted ds ≤ q

-- a body, within the limits, with so many locals at most
pub record IsBodyRead (p b n : ℕ) (ts : List Symbol) (x : ProcedureBody) (r : List Symbol) : Type 0 where
  pub spelled : ReadsBody p b ts x r
  shallow : IsShallowBlock x.stmts
  few : length x.locals ≤ n

both_shallow : (xs ys : List Declaration) → AllByRecursion IsShallowDeclaration xs → AllByRecursion IsShallowDeclaration ys → AllByRecursion IsShallowDeclaration (xs ++ ys)
both_shallow [] ys a b = b
both_shallow (x ∷ xs) ys a b = (a.0, both_shallow xs ys a.1 b)

module _ (p b v : ℕ) where
  constants_read : (n q : ℕ) (ts : List Symbol) (vs : List Vary) (r : List Symbol) → n ≡ v → AreDeclared fixed.Const n ts vs r → IsDeclarationRead p b v q ts (map Const vs) r
  constants_read n q ts vs r e h =
      let few = h.1 in
      record {
        spelled = grammar.constants h.0;
        shallow = shallow_constants vs;
        few = rw (count_constants vs) (let k : length vs ≤ v = omega arith in k);
        procedures = rw (no_procedure_constants vs) (omega arith);
      }

  globals_read : (n q : ℕ) (ts : List Symbol) (vs : List Vary) (r : List Symbol) → n ≡ v → AreDeclared fixed.Var n ts vs r → IsDeclarationRead p b v q ts (map Global vs) r
  globals_read n q ts vs r e h =
      let few = h.1 in
      record {
        spelled = grammar.variables h.0;
        shallow = shallow_globals vs;
        few = rw (count_globals vs) (let k : length vs ≤ v = omega arith in k);
        procedures = rw (no_procedure_globals vs) (omega arith);
      }

  abbrev pub AreSpecifications : List Symbol → List Specification → List Symbol → Type 0
  AreSpecifications ts ss r = ReadsSpecifications p ts ss r × AllByRecursion IsShallowSpecification ss

  next_of_specifications : (n : ℕ) (ts : List Symbol) (xs : List Specification) (m : List Symbol) (ys : List Specification) (r : List Symbol)
      → Alone (IsSpecificationRead p ts) xs m → AreSpecifications m ys r → AreSpecifications ts (xs ++ ys) r
  next_of_specifications n ts xs m ys r i h = rw i.list (grammar.next_specification i.holds.0 h.0, (i.holds.1, h.1))

  without_body : (q : ℕ) (ts m : List Symbol) (h : Head) (semicolon : Read Span) (ss : Read (List Specification)) → IsHeadRead p v fixed.Procedure ts h m → Stands fixed.Semicolon m semicolon
      → AreSpecifications semicolon.rest ss.value ss.rest → IsDeclarationRead p b v (suc q) ts (Declares (procedure_read h ss.value None) ∷ []) ss.rest
  without_body q ts m h semicolon ss front s specs =
      let spelled : ReadsHead p fixed.Procedure ts h (s.symbol ∷ semicolon.rest) = subst (ReadsHead p fixed.Procedure ts h) s.all front.0 in
      let few = front.1 in
      record { spelled = grammar.without_body s.symbol spelled s.is specs.0; shallow = ((specs.1, tt), tt); few = omega arith; procedures = omega arith }

  with_body : (q : ℕ) (ts m : List Symbol) (h : Head) (ss : Read (List Specification)) (x : Read ProcedureBody) → IsHeadRead p v fixed.Procedure ts h m
      → AreSpecifications m ss.value ss.rest → IsBodyRead p b (room_behind v h) ss.rest x.value x.rest → IsDeclarationRead p b v (suc q) ts (Declares (procedure_read h ss.value (Some x.value)) ∷ []) x.rest
  with_body q ts m h ss x front specs body =
      let few = front.1 in
      let locals = body.few in
      record { spelled = grammar.with_body front.0 specs.0 body.spelled; shallow = ((specs.1, body.shallow), tt); few = omega arith; procedures = omega arith }

  implemented : (q : ℕ) (ts m : List Symbol) (h : Head) (x : Read ProcedureBody) → IsHeadRead p v fixed.Implementation ts h m
      → IsBodyRead p b (room_behind v h) m x.value x.rest → IsDeclarationRead p b v q ts (Implements (procedure_read h [] (Some x.value)) ∷ []) x.rest
  implemented q ts m h x front body =
      let few = front.1 in
      let locals = body.few in
      record { spelled = grammar.implementation front.0 body.spelled; shallow = ((tt, body.shallow), tt); few = omega arith; procedures = omega arith }

  no_more : (q : ℕ) (ts : List Symbol) → IsProgramRead p b v q ts [] ts
  no_more q ts = record {
    groups = [];
    spelled = λ e. subst (λ us. ReadsProgram p b us []) (sym e) grammar.no_declaration;
    declarations = refl;
    shallow = tt;
    few = tt;
    procedures = omega arith;
  }

  next_of_program : (q : ℕ) (ts : List Symbol) (xs : List Declaration) (m : List Symbol) (ys : List Declaration) (r : List Symbol) → IsDeclarationRead p b v q ts xs m
      → IsProgramRead p b v (q - procedures_counted xs) m ys r → IsProgramRead p b v q ts (xs ++ ys) r
  next_of_program q ts xs m ys r i h =
      let few = i.procedures in
      let more = h.procedures in
      record {
        groups = xs ∷ h.groups;
        spelled = λ e. grammar.next_declaration i.spelled (h.spelled e);
        declarations = ap (λ us. xs ++ us) h.declarations;
        shallow = both_shallow xs ys i.shallow h.shallow;
        few = (i.few, h.few);
        procedures = rw (procedures_joined xs ys) (let k : procedures_counted xs + procedures_counted ys ≤ q = omega arith in k);
      }

module _ (reads : ℕ → List Symbol → ReadResult Expression) (end : Span) (p b v : ℕ)
    (reads-sound : (p : ℕ) (ts : List Symbol) → IfOk (reads p ts) (λ x. IsExpressionRead p ts x.value x.rest)) where
  requires-plain : (ts : List Symbol) (word : Read Span) → Stands fixed.Requires ts word → IfOk (requires_at reads end p false word) (λ x. IsSpecificationRead p ts x.value x.rest)
  unfolding requires_at
  requires-plain ts word s =
      then (λ (x : Read Invariant). IsConditionRead p fixed.Requires ts x.value x.rest) (λ x. IsSpecificationRead p ts x.value x.rest) (condition_behind reads end p false word) _ (plain-sound reads end reads-sound p fixed.Requires ts word s) (λ i h.
      (grammar.requires h.0, h.1))

  ensures-plain : (ts : List Symbol) (word : Read Span) → Stands fixed.Ensures ts word → IfOk (ensures_at reads end p false word) (λ x. IsSpecificationRead p ts x.value x.rest)
  unfolding ensures_at
  ensures-plain ts word s =
      then (λ (x : Read Invariant). IsConditionRead p fixed.Ensures ts x.value x.rest) (λ x. IsSpecificationRead p ts x.value x.rest) (condition_behind reads end p false word) _ (plain-sound reads end reads-sound p fixed.Ensures ts word s) (λ i h.
      (grammar.ensures h.0, h.1))

  requires-free : (ts : List Symbol) (first word : Read Span) → Stands fixed.Free ts first → Stands fixed.Requires first.rest word → IfOk (requires_at reads end p true word) (λ x. IsSpecificationRead p ts x.value x.rest)
  unfolding requires_at
  requires-free ts first word a s =
      then (λ (x : Read Invariant). IsConditionRead p fixed.Requires ts x.value x.rest) (λ x. IsSpecificationRead p ts x.value x.rest) (condition_behind reads end p true word) _ (free-sound reads end reads-sound p fixed.Requires ts first word a s) (λ i h.
      (grammar.requires h.0, h.1))

  ensures-free : (ts : List Symbol) (first word : Read Span) → Stands fixed.Free ts first → Stands fixed.Ensures first.rest word → IfOk (ensures_at reads end p true word) (λ x. IsSpecificationRead p ts x.value x.rest)
  unfolding ensures_at
  ensures-free ts first word a s =
      then (λ (x : Read Invariant). IsConditionRead p fixed.Ensures ts x.value x.rest) (λ x. IsSpecificationRead p ts x.value x.rest) (condition_behind reads end p true word) _ (free-sound reads end reads-sound p fixed.Ensures ts first word a s) (λ i h.
      (grammar.ensures h.0, h.1))

  claimed_plain : (ts : List Symbol) (a c : Option (Read Span)) → IfSome a (Stands fixed.Requires ts) → IfSome c (Stands fixed.Ensures ts)
      → IfThere (claimed_by reads end p false a c) (λ x. IsSpecificationRead p ts x.value x.rest)
  claimed_plain ts (Some word) c s t = there-sound (λ x. IsSpecificationRead p ts x.value x.rest) _ (requires-plain ts word s)
  claimed_plain ts None (Some word) s t = there-sound (λ x. IsSpecificationRead p ts x.value x.rest) _ (ensures-plain ts word t)
  claimed_plain ts None None s t = tt

  claimed_free : (ts : List Symbol) (first : Read Span) → Stands fixed.Free ts first → (a c : Option (Read Span)) → IfSome a (Stands fixed.Requires first.rest) → IfSome c (Stands fixed.Ensures first.rest)
      → IfThere (claimed_by reads end p true a c) (λ x. IsSpecificationRead p ts x.value x.rest)
  claimed_free ts first w (Some word) c s t = there-sound (λ x. IsSpecificationRead p ts x.value x.rest) _ (requires-free ts first word w s)
  claimed_free ts first w None (Some word) s t = there-sound (λ x. IsSpecificationRead p ts x.value x.rest) _ (ensures-free ts first word w t)
  claimed_free ts first w None None s t = tt

  must_stand-sound : (ts us : List Symbol) (o : _) → IfThere o (λ (x : Read Specification). IsSpecificationRead p ts x.value x.rest) → IfThere (must_stand reads end p us o) (λ x. IsSpecificationRead p ts x.value x.rest)
  must_stand-sound ts us (Ok None) h = tt
  must_stand-sound ts us (Ok (Some x)) h = h
  must_stand-sound ts us (Err f) h = tt

  claimed-sound : (ts : List Symbol) → IfThere (claimed_at reads end p false ts) (λ x. IsSpecificationRead p ts x.value x.rest)
  unfolding claimed_at
  claimed-sound ts = claimed_plain ts (seen fixed.Requires ts) (seen fixed.Ensures ts) (seen-sound fixed.Requires ts) (seen-sound fixed.Ensures ts)

  free_claim-sound : (ts : List Symbol) (first : Read Span) → Stands fixed.Free ts first → IfThere (free_at reads end p first.rest) (λ x. IsSpecificationRead p ts x.value x.rest)
  unfolding free_at claimed_at
  free_claim-sound ts first w =
      must_stand-sound ts first.rest (claimed_at reads end p true first.rest) (claimed_free ts first w (seen fixed.Requires first.rest) (seen fixed.Ensures first.rest) (seen-sound fixed.Requires first.rest) (seen-sound fixed.Ensures first.rest))

  specification_by-sound : (ts : List Symbol) (a c : Option (Read Span)) → IfSome a (Stands fixed.Free ts) → IfSome c (Stands fixed.Modifies ts)
      → IfThere (specification_by reads end p ts a c) (λ x. IsSpecificationRead p ts x.value x.rest)
  specification_by-sound ts (Some first) c s t = free_claim-sound ts first s
  specification_by-sound ts None (Some word) s t = there-sound (λ x. IsSpecificationRead p ts x.value x.rest) _ (modifies-sound end p ts word t)
  specification_by-sound ts None None s t = claimed-sound ts

  pub specification-sound : (ts : List Symbol) → IfThere (specification_at reads end p ts) (λ x. IsSpecificationRead p ts x.value x.rest)
  unfolding specification_at
  specification-sound ts = specification_by-sound ts (seen fixed.Free ts) (seen fixed.Modifies ts) (seen-sound fixed.Free ts) (seen-sound fixed.Modifies ts)

  pub specifications-sound : (ts : List Symbol) → IfOk (specifications_at reads end p ts) (λ x. AreSpecifications p b v ts x.value x.rest)
  unfolding specifications_at
  specifications-sound ts =
      repeated-sound (specification_item reads end p) length (λ n us. Alone (IsSpecificationRead p us)) (λ n. AreSpecifications p b v) (λ n us. (grammar.no_specification, tt)) (next_of_specifications p b v)
      (λ n us. one_there-sound (IsSpecificationRead p us) (specification_at reads end p us) (specification-sound us)) (length ts) 0 ts

  embodied : (n : ℕ) (ts : List Symbol) (inner : Read ℕ) (vs : Read (List Vary)) (ss : Read (List Statement)) (closing : Read Span) → Opens fixed.OpenBrace b ts inner → AreLocals n inner.rest vs.value vs.rest
      → AreStatements p inner.value vs.rest ss.value ss.rest → Stands fixed.CloseBrace ss.rest closing → IsBodyRead p b n ts (record { locals = vs.value; stmts = block ss.value }) closing.rest
  embodied n ts inner vs ss closing o locals list c =
      let spelled : ReadsList p inner.value vs.rest (block ss.value) (c.symbol ∷ closing.rest) = subst (ReadsList p inner.value vs.rest (block ss.value)) c.all list.0 in
      record { spelled = rw (o.room, o.all) (grammar.body o.symbol c.symbol o.is locals.0 spelled c.is); shallow = list.1; few = locals.1 }

  pub body-sound : (n : ℕ) (ts : List Symbol) → IfOk (body_at reads end p b n ts) (λ x. IsBodyRead p b n ts x.value x.rest)
  unfolding body_at
  body-sound n ts =
      then (Opens fixed.OpenBrace b ts) (λ x. IsBodyRead p b n ts x.value x.rest) (opened end fixed.OpenBrace b ts) _ (opened-sound end fixed.OpenBrace b ts) (λ inner o.
      then (λ (x : Read (List Vary)). AreLocals n inner.rest x.value x.rest) (λ x. IsBodyRead p b n ts x.value x.rest) (locals_at end n inner.rest) _ (locals-sound end n inner.rest) (λ vs locals.
      then (λ (x : Read (List Statement)). AreStatements p inner.value vs.rest x.value x.rest) (λ x. IsBodyRead p b n ts x.value x.rest) (list_at reads end p (inside_at reads end p inner.value) vs.rest) _ (list-sound reads end p reads-sound inner.value vs.rest) (λ ss list.
      then (Stands fixed.CloseBrace ss.rest) (λ x. IsBodyRead p b n ts x.value x.rest) (behind end fixed.CloseBrace ss.rest) _ (behind-sound end fixed.CloseBrace ss.rest) (λ closing c.
      embodied n ts inner vs ss closing o locals list c))))

  procedure_by-sound : (q : ℕ) (ts : List Symbol) (h : Read Head) (o : Option (Read Span)) → IsHeadRead p v fixed.Procedure ts h.value h.rest → IfSome o (Stands fixed.Semicolon h.rest)
      → IfOk (procedure_by reads end p b v h.value h.rest o) (λ x. IsDeclarationRead p b v (suc q) ts x.value x.rest)
  procedure_by-sound q ts h (Some semicolon) front s =
      then (λ (x : Read (List Specification)). AreSpecifications p b v semicolon.rest x.value x.rest) (λ x. IsDeclarationRead p b v (suc q) ts x.value x.rest) (specifications_at reads end p semicolon.rest) _ (specifications-sound semicolon.rest) (λ ss specs.
      without_body p b v q ts h.rest h.value semicolon ss front s specs)
  procedure_by-sound q ts h None front s =
      then (λ (x : Read (List Specification)). AreSpecifications p b v h.rest x.value x.rest) (λ x. IsDeclarationRead p b v (suc q) ts x.value x.rest) (specifications_at reads end p h.rest) _ (specifications-sound h.rest) (λ ss specs.
      then (λ (x : Read ProcedureBody). IsBodyRead p b (room_behind v h.value) ss.rest x.value x.rest) (λ x. IsDeclarationRead p b v (suc q) ts x.value x.rest) (body_at reads end p b (room_behind v h.value) ss.rest) _ (body-sound (room_behind v h.value) ss.rest) (λ x body.
      with_body p b v q ts h.rest h.value ss x front specs body))

  procedure-sound : (q : ℕ) (t : Symbol) (ts : List Symbol) → Is t fixed.Procedure → IfOk (procedure_at reads end p b v t.span ts) (λ x. IsDeclarationRead p b v (suc q) (t ∷ ts) x.value x.rest)
  unfolding procedure_at
  procedure-sound q t ts is =
      then (λ (x : Read Head). IsHeadRead p v fixed.Procedure (t ∷ ts) x.value x.rest) (λ x. IsDeclarationRead p b v (suc q) (t ∷ ts) x.value x.rest) (head_at end p v t.span ts) _ (head-sound end p v fixed.Procedure t ts is) (λ h front.
      procedure_by-sound q (t ∷ ts) h (seen fixed.Semicolon h.rest) front (seen-sound fixed.Semicolon h.rest))

  implementation-sound : (q : ℕ) (t : Symbol) (ts : List Symbol) → Is t fixed.Implementation → IfOk (implementation_at reads end p b v t.span ts) (λ x. IsDeclarationRead p b v q (t ∷ ts) x.value x.rest)
  unfolding implementation_at
  implementation-sound q t ts is =
      then (λ (x : Read Head). IsHeadRead p v fixed.Implementation (t ∷ ts) x.value x.rest) (λ x. IsDeclarationRead p b v q (t ∷ ts) x.value x.rest) (head_at end p v t.span ts) _ (head-sound end p v fixed.Implementation t ts is) (λ h front.
      then (λ (x : Read ProcedureBody). IsBodyRead p b (room_behind v h.value) h.rest x.value x.rest) (λ x. IsDeclarationRead p b v q (t ∷ ts) x.value x.rest) (body_at reads end p b (room_behind v h.value) h.rest) _ (body-sound (room_behind v h.value) h.rest) (λ x body.
      implemented p b v q (t ∷ ts) h.rest h.value x front body))

  new_procedure-sound : (q : ℕ) (t : Symbol) (ts : List Symbol) → Is t fixed.Procedure → IfOk (new_procedure reads end p b v q t.span ts) (λ x. IsDeclarationRead p b v q (t ∷ ts) x.value x.rest)
  unfolding new_procedure
  new_procedure-sound zero t ts is = tt
  new_procedure-sound (suc q) t ts is = procedure-sound q t ts is

  first : (f : Fixed) (t : Symbol) (ts : List Symbol) → Is t f → Stands f (t ∷ ts) (record { value = t.span; rest = ts })
  first f t ts is = record { symbol = t; is = is; here = refl; all = refl }

  constants-sound : (q : ℕ) (t : Symbol) (ts : List Symbol) → Is t fixed.Const → IfOk (constants_at reads end p b v ts) (λ x. IsDeclarationRead p b v q (t ∷ ts) x.value x.rest)
  unfolding constants_at
  constants-sound q t ts is =
      then (Before (AreVariables v ts) fixed.Semicolon) (λ x. IsDeclarationRead p b v q (t ∷ ts) x.value x.rest) (declared_behind end v ts) _ (declared-sound end v ts) (λ vs h.
      constants_read p b v v q (t ∷ ts) vs.value vs.rest refl (declared_of fixed.Const v (t ∷ ts) (record { value = t.span; rest = ts }) vs (first fixed.Const t ts is) h))

  globals-sound : (q : ℕ) (t : Symbol) (ts : List Symbol) → Is t fixed.Var → IfOk (globals_at reads end p b v ts) (λ x. IsDeclarationRead p b v q (t ∷ ts) x.value x.rest)
  unfolding globals_at
  globals-sound q t ts is =
      then (Before (AreVariables v ts) fixed.Semicolon) (λ x. IsDeclarationRead p b v q (t ∷ ts) x.value x.rest) (declared_behind end v ts) _ (declared-sound end v ts) (λ vs h.
      globals_read p b v v q (t ∷ ts) vs.value vs.rest refl (declared_of fixed.Var v (t ∷ ts) (record { value = t.span; rest = ts }) vs (first fixed.Var t ts is) h))

  axiom-sound : (q : ℕ) (t : Symbol) (ts : List Symbol) → Is t fixed.Axiom → IfOk (axiom_at reads end p t.span ts) (λ x. IsDeclarationRead p b v q (t ∷ ts) x.value x.rest)
  unfolding axiom_at
  axiom-sound q t ts is =
      then (Before (IsExpressionRead p ts) fixed.Semicolon) (λ x. IsDeclarationRead p b v q (t ∷ ts) x.value x.rest) (claim_at reads end p ts) _ (claim-sound reads end reads-sound p ts) (λ e c.
      record { spelled = grammar.axioms t c.symbol is c.spelled.0 c.is; shallow = (c.spelled.1, tt); few = omega arith; procedures = omega arith })

  declaration_by-sound : (q : ℕ) (t : Symbol) (ts : List Symbol) (k : Sign) → t.sign ≡ k → IfThere (declaration_by reads end p b v q t.span ts k) (λ x. IsDeclarationRead p b v q (t ∷ ts) x.value x.rest)
  declaration_by-sound q t ts (signs.Fixed fixed.Const) e = there-sound (λ x. IsDeclarationRead p b v q (t ∷ ts) x.value x.rest) _ (constants-sound q t ts e)
  declaration_by-sound q t ts (signs.Fixed fixed.Var) e = there-sound (λ x. IsDeclarationRead p b v q (t ∷ ts) x.value x.rest) _ (globals-sound q t ts e)
  declaration_by-sound q t ts (signs.Fixed fixed.Axiom) e = there-sound (λ x. IsDeclarationRead p b v q (t ∷ ts) x.value x.rest) _ (axiom-sound q t ts e)
  declaration_by-sound q t ts (signs.Fixed fixed.Procedure) e = there-sound (λ x. IsDeclarationRead p b v q (t ∷ ts) x.value x.rest) _ (new_procedure-sound q t ts e)
  declaration_by-sound q t ts (signs.Fixed fixed.Implementation) e = there-sound (λ x. IsDeclarationRead p b v q (t ∷ ts) x.value x.rest) _ (implementation-sound q t ts e)
  declaration_by-sound q t ts k e = tt

  pub declaration-sound : (q : ℕ) (ts : List Symbol) → IfThere (declaration_at reads end p b v q ts) (λ x. IsDeclarationRead p b v q ts x.value x.rest)
  unfolding declaration_at
  declaration-sound q [] = tt
  declaration-sound q (t ∷ ts) = declaration_by-sound q t ts t.sign refl

  declarations-sound : (q : ℕ) (ts : List Symbol) → IfOk (declarations_at reads end p b v q ts) (λ x. IsProgramRead p b v q ts x.value x.rest)
  unfolding declarations_at
  declarations-sound q ts =
      repeated-sound (declaration_at reads end p b v) procedures_counted (IsDeclarationRead p b v) (IsProgramRead p b v) (no_more p b v) (next_of_program p b v) declaration-sound (length ts) q ts

  finished-sound : (q : ℕ) (ts : List Symbol) (ds : Read (List Declaration)) (rest : List Symbol) → IsProgramRead p b v q ts ds.value rest → IfOk (finished end ds rest) (Spells p b v q ts)
  finished-sound q ts ds [] h = record { groups = h.groups; spelled = h.spelled refl; declarations = h.declarations; shallow = h.shallow; few_variables = h.few; few_procedures = h.procedures }
  finished-sound q ts ds (t ∷ us) h = tt

  pub program-sound : (q : ℕ) (ts : List Symbol) → IfOk (program_at reads end p b v q ts) (Spells p b v q ts)
  unfolding program_at
  program-sound q ts =
      then (λ (x : Read (List Declaration)). IsProgramRead p b v q ts x.value x.rest) (Spells p b v q ts) (declarations_at reads end p b v q ts) _ (declarations-sound q ts) (λ ds h.
      finished-sound q ts ds ds.rest h)

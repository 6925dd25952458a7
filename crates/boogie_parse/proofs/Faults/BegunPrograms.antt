-- A limit in a program stands at a symbol up to which a program begins.
use Rattle.std.proofs.Common.{◌≡◌, ℕ, zero, suc, ◌-◌, Bool, true, false, List, [], ◌∷◌, length, Option, None, Some, IfSome, Ok, Err, IfOk, refl, sym, subst}
use Rattle.boogie_tree.specs.declared.span.Span.{Span}
use Rattle.boogie_tree.specs.declared.level.Level.TheVariants.{Equivalence}
use Rattle.boogie_tree.specs.declared.tree.Vary.{Vary}
use Rattle.boogie_tree.specs.View.{block}
use Rattle.boogie_tree.specs.Tree.{Specification, ProcedureBody, Block, Empty, Declaration}
use Rattle.boogie_parse.specs.declared.fault.Fault.TheVariants as faults
use Rattle.boogie_parse.specs.declared.fault.Which.{Which}
use Rattle.boogie_parse.specs.declared.fault.Which.TheVariants as limits
use Rattle.boogie_parse.specs.declared.symbols.Fixed.{Fixed}
use Rattle.boogie_parse.specs.declared.symbols.Fixed.TheVariants as fixed
use Rattle.boogie_parse.specs.declared.symbols.Sign.{Sign}
use Rattle.boogie_parse.specs.declared.symbols.Sign.TheVariants as signs
use Rattle.boogie_parse.specs.declared.symbols.Symbol.{Symbol}
use Rattle.boogie_parse.specs.Reading.Outcomes.{Read, ReadResult}
use Rattle.boogie_parse.specs.Rules.Grammar.{Is}
use Rattle.boogie_parse.specs.Rules.GrammarStatements.{ReadsList, no_statement}
use Rattle.boogie_parse.specs.Rules.GrammarProgram as grammar
use Rattle.boogie_parse.specs.Rules.GrammarProgram.{ReadsSpecification, ReadsSpecifications, ReadsLocals, ReadsBody, Head, ReadsHead, ReadsDeclaration, ReadsProgram}
use Rattle.boogie_parse.specs.Rules.GrammarLimits.{procedures_counted}
use Rattle.boogie_parse.specs.Reading.ListReading.{◌>>=◌, read, Possible, seen, behind, name_at, listed_names, declared_behind, formals_at, results_at, expression_at, claim_at, condition_behind}
use Rattle.boogie_parse.specs.Reading.StatementReading.{inside_at, list_at}
use Rattle.boogie_parse.specs.Reading.ProgramReading.{local_by, local_at, locals_at, modifies_by, modifies_at, head_at, room_behind, finished, requires_at, ensures_at, claimed_by, claimed_at, must_stand, free_at, specification_by, specification_at, specification_item, specifications_at, axiom_at, body_at, procedure_by, procedure_at, implementation_at, new_procedure, constants_at, globals_at, declaration_by, declaration_at, declarations_at, program_at}
use Rattle.boogie_parse.proofs.Faults.SettledTools.{one_maybe}
use Rattle.boogie_parse.proofs.Faults.SettledPrograms.{steady_name, steady_formals, steady_head, steady_local, steady_locals, steady_specification, steady_specifications, steady_list, steady_inside, steady_declaration, at_steady, no_at}
use Rattle.boogie_parse.proofs.Rules.ListSound.{weaker, Stands, seen-sound}
use Rattle.boogie_parse.proofs.Rules.ConditionSound.{IfThere, expression_at-sound}
use Rattle.boogie_parse.proofs.Rules.ProgramSound.{AreDeclared, local-sound, AreLocals, locals-sound, IsHeadRead, head-sound, IsSpecificationRead, specification-sound, AreSpecifications, specifications-sound, IsBodyRead, body-sound, IsDeclarationRead, declaration-sound}
use Rattle.boogie_parse.proofs.Rules.WeakerRoom.{weak_head, weak_specification, weak_specifications, weak_body, weak_declaration}
use Rattle.boogie_parse.proofs.Faults.BegunTools.{Relation, Mark, mark, Begun, BegunBy, BegunIf, Filled, begun_at, begun_map, begun_behind, begun_there, begun_one_there, begun_then, a_mark, begun_read, behind_word, EndedBy, begun_ended, begun_inside_it, repeated_begun}
use Rattle.boogie_parse.proofs.Faults.BegunExpressions.{Spells}
use Rattle.boogie_parse.proofs.Faults.BegunLists.{AName, a_name, Names, some_name, is_some_name, name_sound, begun_name, begun_listed_names, Variables, Declared, begun_declared, join_declared, Formals, begun_formals, formals_sound, filled_formals, Results, begun_results, filled_results, Claimed, begun_claim, begun_condition, join_checked, join_free, there_sound}
use Rattle.boogie_parse.proofs.Faults.BegunStatements.{Statements, begun_statements, list_sound, filled_ended}

-- ---- locals and heads

abbrev Locals : Relation
Locals n r = (vs : List Vary) × ReadsLocals n vs r

local_begun : (end : Span) (n : ℕ) (us : List Symbol) (o : Option (Read Span)) → IfSome o (Stands fixed.Var us) → BegunIf (Declared fixed.Var) us (local_by end n o)
local_begun end n us None s = tt
local_begun end n us (Some word) s =
    begun_there (Declared fixed.Var) us (declared_behind end n word.rest)
    (behind_word fixed.Var (EndedBy Variables fixed.Semicolon) (Declared fixed.Var) us word s (declared_behind end n word.rest) (λ t m r it h. join_declared fixed.Var t m r it h) (begun_declared end n word.rest))

begun_local : (end : Span) (n : ℕ) (us : List Symbol) → BegunIf (Declared fixed.Var) us (local_at end n us)
unfolding local_at
begun_local end n us = local_begun end n us (seen fixed.Var us) (seen-sound fixed.Var us)

if_there : {X : Type 0} (P : Read X → Type 0) (G : Relation) (us : List Symbol) (o : Possible X) → IfThere o P → ((a : Read X) → P a → G us a.rest) → IfThere o (λ a. G us a.rest)
if_there P G us (Ok None) h f = tt
if_there P G us (Ok (Some a)) h f = f a h
if_there P G us (Err e) h f = tt

begun_locals : (end : Span) (n : ℕ) (us : List Symbol) → BegunIf Locals us (locals_at end n us)
unfolding locals_at
begun_locals end n us =
    repeated_begun (local_at end) length (Declared fixed.Var) Locals (steady_local end)
    (λ m vs. if_there (λ x. AreDeclared fixed.Var m vs x.value x.rest) (Declared fixed.Var) vs (local_at end m vs) (local-sound end m vs) (λ a h. (a.value, h.0))) (begun_local end)
    (λ r. ([], grammar.no_local)) (λ m k r v vs. (_, grammar.next_locals v.1 vs.1)) (length us) n us

locals_sound : (end : Span) (n : ℕ) (us : List Symbol) → IfOk (locals_at end n us) (λ a. Locals us a.rest)
locals_sound end n us = weaker (λ (x : Read (List Vary)). AreLocals n us x.value x.rest) (λ a. Locals us a.rest) (locals_at end n us) (locals-sound end n us) (λ a h. (a.value, h.0))

-- a head behind its word, which stands there
abbrev Headed : ℕ → Fixed → Span → Relation
Headed p f here n r = (t : Symbol) → Is t f → t.span ≡ here → (h : Head) × ReadsHead (suc p) f (t ∷ n) h r

-- the parameters and the results
abbrev Shown : ℕ → Relation
Shown p n r = (m : List Symbol) × (Formals p n m × Results p m r)

filled_shown : (p : ℕ) → Filled (Shown p)
filled_shown p =
    let x = filled_formals p in
    let y = filled_results p in
    record { symbols = λ r. x.symbols (y.symbols r); fills = λ r. (y.symbols r, (x.fills (y.symbols r), y.fills r)) }

join_head : (p : ℕ) (f : Fixed) (here : Span) (n m r : List Symbol) → AName n m → Shown p m r → Headed p f here n r
join_head p f here n m r (a_name x ix) h t it at = (_, grammar.head t x it ix h.1.0.1 h.1.1.1)

begun_head : (end : Span) (p v : ℕ) (f : Fixed) (here : Span) (us : List Symbol) → BegunIf (Headed p f here) us (head_at end p v here us)
unfolding head_at
begun_head end p v f here us =
    begun_then 1 (name_at end) _ AName (Shown p) (Headed p f here) us (steady_name end us) (name_sound end) (join_head p f here) (filled_shown p) (begun_name AName end us)
    (λ x vs.
    begun_then 1 (formals_at end p v) _ (Formals p) (Results p) (Shown p) vs (steady_formals end p v vs) (formals_sound end p v) (λ n m r a h. (m, (a, h))) (filled_results p) (begun_formals end p v vs)
    (λ ps ws. begun_read (Results p) ws (results_at end p (v - length ps) ws) _ (begun_results end p (v - length ps) ws)))

head_sound : (end : Span) (p v : ℕ) (f : Fixed) (here : Span) (us : List Symbol) → IfOk (head_at end p v here us) (λ a. Headed p f here us a.rest)
head_sound end p v f here us = by (head_at end p v here us) refl
  where
    by : (o : ReadResult Head) → head_at end p v here us ≡ o → IfOk o (λ a. Headed p f here us a.rest)
    by (Ok a) e = λ t it at.
        let P : Span → Type 0 = λ s. IfOk (head_at end p v s us) (λ x. IsHeadRead p v f (t ∷ us) x.value x.rest) in
        let h : IfOk (head_at end p v here us) (λ x. IsHeadRead p v f (t ∷ us) x.value x.rest) = subst P at (head-sound end p v f t us it) in
        let Q : ReadResult Head → Type 0 = λ o. IfOk o (λ x. IsHeadRead p v f (t ∷ us) x.value x.rest) in
        let w : IsHeadRead p v f (t ∷ us) a.value a.rest = subst Q e h in
        (a.value, weak_head w.0)
    by (Err e) q = tt

filled_head : (p : ℕ) (f : Fixed) (here : Span) → Filled (Headed p f here)
filled_head p f here =
    let x = filled_shown p in
    record { symbols = λ r. some_name ∷ x.symbols r; fills = λ r. join_head p f here (some_name ∷ x.symbols r) (x.symbols r) r (a_name some_name is_some_name) (x.fills r) }

-- ---- specifications

abbrev Specified : ℕ → Relation
Specified p n r = (s : Specification) × ReadsSpecification (suc p) n s r

abbrev Specifications : ℕ → Relation
Specifications p n r = (ss : List Specification) × ReadsSpecifications (suc p) n ss r

modified_by : (p : ℕ) (t : Symbol) (n m r : List Symbol) → Is t fixed.Modifies → Names n m → Mark fixed.Semicolon m r → Specified p (t ∷ n) r
modified_by p t n m r it xs (mark u iu) = (_, grammar.modifies t u it xs.1 iu)

modifies_begun : (end : Span) (us : List Symbol) (o : Option (Read Span)) → BegunIf (EndedBy Names fixed.Semicolon) us (modifies_by end us o)
modifies_begun end us (Some a) = tt
modifies_begun end us None = begun_read (EndedBy Names fixed.Semicolon) us (listed_names end us) _ (begun_listed_names end us)

begun_modifies : (end : Span) (us : List Symbol) → BegunIf (EndedBy Names fixed.Semicolon) us (modifies_at end us)
unfolding modifies_at
begun_modifies end us = modifies_begun end us (seen fixed.Semicolon us)

-- what `requires` or `ensures` begins
data Promised (p : ℕ) : List Symbol → List Symbol → Type 0 where
  required : {n r : List Symbol} (t : Symbol) → Is t fixed.Requires → Claimed p n r → Promised p (t ∷ n) r
  ensured : {n r : List Symbol} (t : Symbol) → Is t fixed.Ensures → Claimed p n r → Promised p (t ∷ n) r

plainly : (p : ℕ) (n r : List Symbol) → Promised p n r → Specified p n r
plainly p n r (required {n = m} t it h) = (_, grammar.requires (join_checked p fixed.Requires t m r it h).1)
plainly p n r (ensured {n = m} t it h) = (_, grammar.ensures (join_checked p fixed.Ensures t m r it h).1)

freely : (p : ℕ) (s : Symbol) (n r : List Symbol) → Is s fixed.Free → Promised p n r → Specified p (s ∷ n) r
freely p s n r is (required {n = m} t it h) = (_, grammar.requires (join_free p fixed.Requires s t m r is it h).1)
freely p s n r is (ensured {n = m} t it h) = (_, grammar.ensures (join_free p fixed.Ensures s t m r is it h).1)

begun_requires : (end : Span) (p : ℕ) (free : Bool) (word : Read Span) → BegunIf (Claimed p) word.rest (requires_at (expression_at end) end p free word)
unfolding requires_at
begun_requires end p free word = begun_read (Claimed p) word.rest (condition_behind (expression_at end) end p free word) _ (begun_condition end p free word)

begun_ensures : (end : Span) (p : ℕ) (free : Bool) (word : Read Span) → BegunIf (Claimed p) word.rest (ensures_at (expression_at end) end p free word)
unfolding ensures_at
begun_ensures end p free word = begun_read (Claimed p) word.rest (condition_behind (expression_at end) end p free word) _ (begun_condition end p free word)

claimed_begun : (end : Span) (p : ℕ) (free : Bool) (us : List Symbol) (a c : Option (Read Span)) → IfSome a (Stands fixed.Requires us) → IfSome c (Stands fixed.Ensures us) →
    BegunIf (Promised p) us (claimed_by (expression_at end) end p free a c)
claimed_begun end p free us (Some word) c s w =
    begun_there (Promised p) us (requires_at (expression_at end) end p free word)
    (behind_word fixed.Requires (Claimed p) (Promised p) us word s (requires_at (expression_at end) end p free word) (λ t n r it h. required t it h) (begun_requires end p free word))
claimed_begun end p free us None (Some word) s w =
    begun_there (Promised p) us (ensures_at (expression_at end) end p free word)
    (behind_word fixed.Ensures (Claimed p) (Promised p) us word w (ensures_at (expression_at end) end p free word) (λ t n r it h. ensured t it h) (begun_ensures end p free word))
claimed_begun end p free us None None s w = tt

begun_claimed : (end : Span) (p : ℕ) (free : Bool) (us : List Symbol) → BegunIf (Promised p) us (claimed_at (expression_at end) end p free us)
unfolding claimed_at
begun_claimed end p free us = claimed_begun end p free us (seen fixed.Requires us) (seen fixed.Ensures us) (seen-sound fixed.Requires us) (seen-sound fixed.Ensures us)

must_begin : (K : Relation) (end : Span) (p : ℕ) (us : List Symbol) (o : Possible Specification) → BegunIf K us o → BegunIf K us (must_stand (expression_at end) end p us o)
must_begin K end p [] (Ok None) h = tt
must_begin K end p (t ∷ us) (Ok None) h = tt
must_begin K end p us (Ok (Some a)) h = tt
must_begin K end p us (Err e) h = h

begun_free : (end : Span) (p : ℕ) (us : List Symbol) → BegunIf (Promised p) us (free_at (expression_at end) end p us)
unfolding free_at
begun_free end p us = must_begin (Promised p) end p us (claimed_at (expression_at end) end p true us) (begun_claimed end p true us)

specification_begun : (end : Span) (p : ℕ) (us : List Symbol) (a c : Option (Read Span)) → IfSome a (Stands fixed.Free us) → IfSome c (Stands fixed.Modifies us) →
    BegunIf (Specified p) us (specification_by (expression_at end) end p us a c)
specification_begun end p us (Some first) c s w =
    behind_word fixed.Free (Promised p) (Specified p) us first s (free_at (expression_at end) end p first.rest) (λ t n r it h. freely p t n r it h) (begun_free end p first.rest)
specification_begun end p us None (Some word) s w =
    begun_there (Specified p) us (modifies_at end word.rest)
    (behind_word fixed.Modifies (EndedBy Names fixed.Semicolon) (Specified p) us word w (modifies_at end word.rest) (λ t n r it h. modified_by p t n h.0 r it h.1.0 h.1.1) (begun_modifies end word.rest))
specification_begun end p us None None s w =
    begun_map (Promised p) (Specified p) us (claimed_at (expression_at end) end p false us) (plainly p) (begun_claimed end p false us)

begun_specification : (end : Span) (p : ℕ) (us : List Symbol) → BegunIf (Specified p) us (specification_at (expression_at end) end p us)
unfolding specification_at
begun_specification end p us = specification_begun end p us (seen fixed.Free us) (seen fixed.Modifies us) (seen-sound fixed.Free us) (seen-sound fixed.Modifies us)

begun_specifications : (end : Span) (p b v : ℕ) (us : List Symbol) → BegunIf (Specifications p) us (specifications_at (expression_at end) end p us)
unfolding specifications_at
begun_specifications end p b v us =
    repeated_begun (specification_item (expression_at end) end p) length (Specified p) (Specifications p)
    (λ n vs. one_maybe (specification_at (expression_at end) end p) vs (steady_specification (expression_at end) end (at_steady end) (no_at end) p vs))
    (λ n vs. there_sound (λ x. IsSpecificationRead p vs x.value x.rest) (Specified p) vs (specification_at (expression_at end) end p vs) (specification-sound (expression_at end) end p b v (expression_at-sound end) vs) (λ a h. (a.value, weak_specification h.0)))
    (λ n vs. begun_one_there (Specified p) vs (specification_at (expression_at end) end p vs) (begun_specification end p vs))
    (λ r. ([], grammar.no_specification)) (λ n m r s ss. (_, grammar.next_specification s.1 ss.1)) (length us) 0 us

specifications_sound : (end : Span) (p b v : ℕ) (us : List Symbol) → IfOk (specifications_at (expression_at end) end p us) (λ a. Specifications p us a.rest)
specifications_sound end p b v us =
    weaker (λ (x : Read (List Specification)). AreSpecifications p b v us x.value x.rest) (λ a. Specifications p us a.rest) (specifications_at (expression_at end) end p us)
    (specifications-sound (expression_at end) end p b v (expression_at-sound end) us) (λ a h. (a.value, weak_specifications h.0))

filled_specifications : (p : ℕ) → Filled (Specifications p)
filled_specifications p = record { symbols = λ r. r; fills = λ r. ([], grammar.no_specification) }

-- ---- bodies

abbrev Bodied : ℕ → ℕ → Relation
Bodied p b n r = (x : ProcedureBody) × ReadsBody (suc p) (suc (suc b)) n x r

abbrev Listing : ℕ → ℕ → Relation
Listing p b n r = (x : Block) × ReadsList (suc p) (suc b) n x r

-- what stands behind the opening brace
abbrev InBody : ℕ → ℕ → Relation
InBody p b n r = (m : List Symbol) × (Locals n m × EndedBy (Listing p b) fixed.CloseBrace m r)

bodied_by : (p b : ℕ) (u : Symbol) (n m k r : List Symbol) → Is u fixed.OpenBrace → Locals n m → Listing p b m k → Mark fixed.CloseBrace k r → Bodied p b (u ∷ n) r
bodied_by p b u n m k r iu vs x (mark v iv) = (_, grammar.body u v iu vs.1 x.1 iv)

join_body : (p b : ℕ) (n m r : List Symbol) → Mark fixed.OpenBrace n m → InBody p b m r → Bodied p b n r
join_body p b n m r (mark u iu) h = bodied_by p b u m h.0 h.1.1.0 r iu h.1.0 h.1.1.1.0 h.1.1.1.1

filled_list : (p b : ℕ) → Filled (EndedBy (Listing p b) fixed.CloseBrace)
filled_list p b = filled_ended (Listing p b) fixed.CloseBrace (record { symbols = λ r. r; fills = λ r. (Empty, no_statement) })

filled_in_body : (p b : ℕ) → Filled (InBody p b)
filled_in_body p b = let x = filled_list p b in record { symbols = x.symbols; fills = λ r. (x.symbols r, (([], grammar.no_local), x.fills r)) }

filled_body : (p b : ℕ) → Filled (Bodied p b)
filled_body p b =
    let x = filled_in_body p b in
    record { symbols = λ r. a_mark fixed.OpenBrace ∷ x.symbols r; fills = λ r. join_body p b (a_mark fixed.OpenBrace ∷ x.symbols r) (x.symbols r) r (mark (a_mark fixed.OpenBrace) refl) (x.fills r) }

-- the locals, the statements and the closing brace
in_body : Span → ℕ → ℕ → ℕ → List Symbol → ReadResult ProcedureBody
in_body end p c n us = do
  vs ← locals_at end n us
  ss ← list_at (expression_at end) end p (inside_at (expression_at end) end p c) vs.rest
  closing ← behind end fixed.CloseBrace ss.rest
  read (record { locals = vs.value; stmts = block ss.value }) closing.rest

begun_in_body : (end : Span) (p c n : ℕ) (us : List Symbol) → BegunIf (InBody p (suc c)) us (in_body end p c n us)
unfolding in_body
begun_in_body end p c n us =
    begun_then 0 (locals_at end n) _ Locals (EndedBy (Listing p (suc c)) fixed.CloseBrace) (InBody p (suc c)) us (steady_locals end n us) (locals_sound end n) (λ n m r vs h. (m, (vs, h))) (filled_list p (suc c)) (begun_locals end n us)
    (λ vs ws.
    begun_ended 0 (list_at (expression_at end) end p (inside_at (expression_at end) end p c)) _ end fixed.CloseBrace (Statements p c) ws
    (steady_list (expression_at end) end (at_steady end) (no_at end) p (inside_at (expression_at end) end p c) (steady_inside (expression_at end) end (at_steady end) (no_at end) p c) ws)
    (list_sound end p c) (begun_statements end p c ws))

begun_body : (end : Span) (p b n : ℕ) (us : List Symbol) → BegunIf (Bodied p b) us (body_at (expression_at end) end p b n us)
unfolding body_at in_body
begun_body end p b n us =
    begun_inside_it end fixed.OpenBrace b _ (InBody p b) (Bodied p b) us (join_body p b) (filled_in_body p b)
    (λ c vs e. subst (λ k. BegunIf (InBody p k) vs (in_body end p c n vs)) (sym e) (begun_in_body end p c n vs))

body_sound : (end : Span) (p b v n : ℕ) (us : List Symbol) → IfOk (body_at (expression_at end) end p b n us) (λ a. Bodied p b us a.rest)
body_sound end p b v n us =
    weaker (λ (x : Read ProcedureBody). IsBodyRead p b n us x.value x.rest) (λ a. Bodied p b us a.rest) (body_at (expression_at end) end p b n us) (body-sound (expression_at end) end p b v (expression_at-sound end) n us)
    (λ a h. (a.value, weak_body h.spelled))

-- ---- declarations

abbrev Declaring : ℕ → ℕ → Relation
Declaring p b n r = (ds : List Declaration) × ReadsDeclaration (suc p) (suc (suc b)) n ds r

-- what stands behind the head of a procedure
data Behind (p b : ℕ) : List Symbol → List Symbol → Type 0 where
  no_body : {n r : List Symbol} (u : Symbol) → Is u fixed.Semicolon → Specifications p n r → Behind p b (u ∷ n) r
  a_body : {n m r : List Symbol} → Specifications p n m → Bodied p b m r → Behind p b n r

filled_behind : (p b : ℕ) → Filled (Behind p b)
filled_behind p b = record { symbols = λ r. a_mark fixed.Semicolon ∷ r; fills = λ r. no_body (a_mark fixed.Semicolon) refl ([], grammar.no_specification) }

-- specifications and a body
abbrev Embodied : ℕ → ℕ → Relation
Embodied p b n r = (m : List Symbol) × (Specifications p n m × Bodied p b m r)

procedure_begun : (end : Span) (p b v : ℕ) (h : Head) (us : List Symbol) (o : Option (Read Span)) → IfSome o (Stands fixed.Semicolon us) → BegunIf (Behind p b) us (procedure_by (expression_at end) end p b v h us o)
procedure_begun end p b v h us (Some a) s =
    behind_word fixed.Semicolon (Specifications p) (Behind p b) us a s (procedure_by (expression_at end) end p b v h us (Some a)) (λ t n r it ss. no_body t it ss)
    (begun_read (Specifications p) a.rest (specifications_at (expression_at end) end p a.rest) _ (begun_specifications end p b v a.rest))
procedure_begun end p b v h us None s =
    begun_map (Embodied p b) (Behind p b) us (procedure_by (expression_at end) end p b v h us None) (λ n r w. a_body w.1.0 w.1.1)
    (begun_then 0 (specifications_at (expression_at end) end p) _ (Specifications p) (Bodied p b) (Embodied p b) us (steady_specifications (expression_at end) end (at_steady end) (no_at end) p us) (specifications_sound end p b v)
    (λ n m r ss x. (m, (ss, x))) (filled_body p b) (begun_specifications end p b v us)
    (λ ss vs. begun_read (Bodied p b) vs (body_at (expression_at end) end p b (room_behind v h) vs) _ (begun_body end p b (room_behind v h) vs)))

join_procedure : (p b : ℕ) (t : Symbol) (n m r : List Symbol) → Is t fixed.Procedure → Headed p fixed.Procedure t.span n m → Behind p b m r → Declaring p b (t ∷ n) r
join_procedure p b t n m r it h (no_body u iu ss) = let w = h t it refl in (_, grammar.without_body u w.1 iu ss.1)
join_procedure p b t n m r it h (a_body ss x) = let w = h t it refl in (_, grammar.with_body w.1 ss.1 x.1)

begun_procedure : (end : Span) (p b v : ℕ) (t : Symbol) (us : List Symbol) → Is t fixed.Procedure → BegunIf (Declaring p b) (t ∷ us) (procedure_at (expression_at end) end p b v t.span us)
unfolding procedure_at
begun_procedure end p b v t us it =
    begun_behind (λ n r. Declaring p b (t ∷ n) r) (Declaring p b) t us _ (λ n r h. h)
    (begun_then 1 (head_at end p v t.span) _ (Headed p fixed.Procedure t.span) (Behind p b) (λ n r. Declaring p b (t ∷ n) r) us (steady_head end p v t.span us) (head_sound end p v fixed.Procedure t.span)
    (λ n m r h w. join_procedure p b t n m r it h w) (filled_behind p b) (begun_head end p v fixed.Procedure t.span us)
    (λ h vs. procedure_begun end p b v h vs (seen fixed.Semicolon vs) (seen-sound fixed.Semicolon vs)))

begun_implementation : (end : Span) (p b v : ℕ) (t : Symbol) (us : List Symbol) → Is t fixed.Implementation → BegunIf (Declaring p b) (t ∷ us) (implementation_at (expression_at end) end p b v t.span us)
unfolding implementation_at
begun_implementation end p b v t us it =
    begun_behind (λ n r. Declaring p b (t ∷ n) r) (Declaring p b) t us _ (λ n r h. h)
    (begun_then 1 (head_at end p v t.span) _ (Headed p fixed.Implementation t.span) (Bodied p b) (λ n r. Declaring p b (t ∷ n) r) us (steady_head end p v t.span us) (head_sound end p v fixed.Implementation t.span)
    (λ n m r h x. let w = h t it refl in (_, grammar.implementation w.1 x.1)) (filled_body p b) (begun_head end p v fixed.Implementation t.span us)
    (λ h vs. begun_read (Bodied p b) vs (body_at (expression_at end) end p b (room_behind v h) vs) _ (begun_body end p b (room_behind v h) vs)))

begun_new_procedure : (end : Span) (p b v n : ℕ) (t : Symbol) (us : List Symbol) → Is t fixed.Procedure → BegunIf (Declaring p b) (t ∷ us) (new_procedure (expression_at end) end p b v n t.span us)
unfolding new_procedure
begun_new_procedure end p b v zero t us it =
    let x = filled_head p fixed.Procedure t.span in
    let y = filled_behind p b in
    begun_at (Declaring p b) t us limits.Procedures (λ r. x.symbols (y.symbols r)) (λ r. join_procedure p b t (x.symbols (y.symbols r)) (y.symbols r) r it (x.fills (y.symbols r)) (y.fills r))
begun_new_procedure end p b v (suc n) t us it = begun_procedure end p b v t us it

begun_constants : (end : Span) (p b v : ℕ) (t : Symbol) (us : List Symbol) → Is t fixed.Const → BegunIf (Declaring p b) (t ∷ us) (constants_at (expression_at end) end p b v us)
unfolding constants_at
begun_constants end p b v t us it =
    begun_behind (EndedBy Variables fixed.Semicolon) (Declaring p b) t us _ (λ n r h. (_, grammar.constants (join_declared fixed.Const t n r it h).1)) (begun_read (EndedBy Variables fixed.Semicolon) us (declared_behind end v us) _ (begun_declared end v us))

begun_globals : (end : Span) (p b v : ℕ) (t : Symbol) (us : List Symbol) → Is t fixed.Var → BegunIf (Declaring p b) (t ∷ us) (globals_at (expression_at end) end p b v us)
unfolding globals_at
begun_globals end p b v t us it =
    begun_behind (EndedBy Variables fixed.Semicolon) (Declaring p b) t us _ (λ n r h. (_, grammar.variables (join_declared fixed.Var t n r it h).1)) (begun_read (EndedBy Variables fixed.Semicolon) us (declared_behind end v us) _ (begun_declared end v us))

axiom_by : (p b : ℕ) (t : Symbol) (n m r : List Symbol) → Is t fixed.Axiom → Spells p Equivalence n m → Mark fixed.Semicolon m r → Declaring p b (t ∷ n) r
axiom_by p b t n m r it e (mark u iu) = (_, grammar.axioms t u it e.1 iu)

begun_axiom : (end : Span) (p b : ℕ) (t : Symbol) (us : List Symbol) → Is t fixed.Axiom → BegunIf (Declaring p b) (t ∷ us) (axiom_at (expression_at end) end p t.span us)
unfolding axiom_at
begun_axiom end p b t us it =
    begun_behind (Claimed p) (Declaring p b) t us _ (λ n r h. axiom_by p b t n h.0 r it h.1.0 h.1.1) (begun_read (Claimed p) us (claim_at (expression_at end) end p us) _ (begun_claim end p us))

declaration_begun : (end : Span) (p b v n : ℕ) (t : Symbol) (us : List Symbol) (s : Sign) → t.sign ≡ s → BegunIf (Declaring p b) (t ∷ us) (declaration_by (expression_at end) end p b v n t.span us s)
declaration_begun end p b v n t us (signs.Fixed fixed.Const) is = begun_there (Declaring p b) (t ∷ us) (constants_at (expression_at end) end p b v us) (begun_constants end p b v t us is)
declaration_begun end p b v n t us (signs.Fixed fixed.Var) is = begun_there (Declaring p b) (t ∷ us) (globals_at (expression_at end) end p b v us) (begun_globals end p b v t us is)
declaration_begun end p b v n t us (signs.Fixed fixed.Axiom) is = begun_there (Declaring p b) (t ∷ us) (axiom_at (expression_at end) end p t.span us) (begun_axiom end p b t us is)
declaration_begun end p b v n t us (signs.Fixed fixed.Procedure) is = begun_there (Declaring p b) (t ∷ us) (new_procedure (expression_at end) end p b v n t.span us) (begun_new_procedure end p b v n t us is)
declaration_begun end p b v n t us (signs.Fixed fixed.Implementation) is =
    begun_there (Declaring p b) (t ∷ us) (implementation_at (expression_at end) end p b v t.span us) (begun_implementation end p b v t us is)
declaration_begun end p b v n t us s is = tt

begun_declaration : (end : Span) (p b v n : ℕ) (us : List Symbol) → BegunIf (Declaring p b) us (declaration_at (expression_at end) end p b v n us)
unfolding declaration_at
begun_declaration end p b v n [] = tt
begun_declaration end p b v n (t ∷ us) = declaration_begun end p b v n t us t.sign refl

-- what makes a program of what is one
abbrev pub Programs : ℕ → ℕ → Relation
Programs p b n r = (groups : List (List Declaration)) → ReadsProgram (suc p) (suc (suc b)) r groups → (all : List (List Declaration)) × ReadsProgram (suc p) (suc (suc b)) n all

begun_declarations : (end : Span) (p b v n : ℕ) (us : List Symbol) → BegunIf (Programs p b) us (declarations_at (expression_at end) end p b v n us)
unfolding declarations_at
begun_declarations end p b v n us =
    repeated_begun (declaration_at (expression_at end) end p b v) procedures_counted (Declaring p b) (Programs p b) (steady_declaration (expression_at end) end (at_steady end) (no_at end) p b v)
    (λ m vs. if_there (λ x. IsDeclarationRead p b v m vs x.value x.rest) (Declaring p b) vs (declaration_at (expression_at end) end p b v m vs) (declaration-sound (expression_at end) end p b v (expression_at-sound end) m vs) (λ a h. (a.value, weak_declaration h.spelled)))
    (begun_declaration end p b v) (λ r groups d. (groups, d)) (λ m k r d ds groups g. let w = ds groups g in (_, grammar.next_declaration d.1 w.1)) (length us) n us

-- behind the declarations no limit is left
no_limit_left : (end : Span) (ds : Read (List Declaration)) (us : List Symbol) (kind : Which) (line col : ℕ) → finished end ds us ≡ Err (faults.Limit kind line col) → ⊥
no_limit_left end ds [] kind line col is = cc
no_limit_left end ds (t ∷ us) kind line col is = cc

by_declarations : (end : Span) (p b : ℕ) (us : List Symbol) (kind : Which) (line col : ℕ) (o : ReadResult (List Declaration)) → BegunIf (Programs p b) us o → (o >>= (λ ds. finished end ds ds.rest)) ≡ Err (faults.Limit kind line col) →
    Begun (Programs p b) us kind line col
by_declarations end p b us kind line col (Ok ds) h is = absurd (no_limit_left end ds ds.rest kind line col is)
by_declarations end p b us kind line col (Err f) h is = let one : f ≡ faults.Limit kind line col = cc in subst (BegunBy (Programs p b) us) one h

pub program_begun : (end : Span) (p b v n : ℕ) (us : List Symbol) (kind : Which) (line col : ℕ) → program_at (expression_at end) end p b v n us ≡ Err (faults.Limit kind line col) → Begun (Programs p b) us kind line col
unfolding program_at
program_begun end p b v n us kind line col is = by_declarations end p b us kind line col (declarations_at (expression_at end) end p b v n us) (begun_declarations end p b v n us) is

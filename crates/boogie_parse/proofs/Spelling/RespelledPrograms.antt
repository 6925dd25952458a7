-- The signs of declarations are read as them, each in a declaration of its own.
use Rattle.std.proofs.Common.{◌≡◌, ℕ, suc, List, [], ◌∷◌, ◌++◌, map, Option, None, Some, refl, sym, ap, ◌∙◌, append_assoc}
use Rattle.std.specs.List.{AllByRecursion}
use Rattle.boogie_tree.specs.declared.span.Span.{Span}
use Rattle.boogie_tree.specs.declared.tree.Name.{Name}
use Rattle.boogie_tree.specs.declared.tree.Vary.{Vary}
use Rattle.boogie_tree.specs.Tree.{Expression, Block, Specification, Requires, Ensures, Modifies, ProcedureBody, Declaration, Const, Global, Axiom, Declares, Implements}
use Rattle.boogie_tree.specs.Apart.{nowhere, bare_name, bare_variable, bare_block, bare_specification, bare_body, bare_declaration}
use Rattle.boogie_parse.specs.declared.symbols.Fixed.{Fixed}
use Rattle.boogie_parse.specs.declared.symbols.Fixed.TheVariants as fixed
use Rattle.boogie_parse.specs.declared.symbols.Sign.{Sign}
use Rattle.boogie_parse.specs.declared.symbols.Symbol.{Symbol}
use Rattle.boogie_parse.specs.Rules.GrammarLists.{ReadsFormals, ReadsResults}
use Rattle.boogie_parse.specs.Rules.GrammarProgram as programs
use Rattle.boogie_parse.specs.Rules.GrammarProgram.{ReadsSpecification, ReadsSpecifications, ReadsLocals, ReadsBody, Head, ReadsHead, procedure_read, ReadsDeclaration, ReadsProgram, joined_groups}
use Rattle.boogie_parse.specs.Spelling.Spelled.{led, name_sign, expression_signs, names_signs, variables_signs, enclosed_signs, block_signs, specification_signs, specifications_signs, declared_signs, locals_signs, results_signs, body_signs, declaration_signs, program_signs}
use Rattle.boogie_parse.specs.Spelling.Respelled.{signs_of, AreUnsigned, ReadsProgramAgain}
use Rattle.boogie_parse.proofs.Spelling.RespelledTools.{Respells, no_sign, led_by, led_after, up_to}
use Rattle.boogie_parse.proofs.Spelling.RespelledRest.{specification-rest, specifications-rest, locals-rest, head-rest, declaration-rest}
use Rattle.boogie_parse.proofs.Spelling.RespelledExpressions.{expression-again}
use Rattle.boogie_parse.proofs.Spelling.RespelledLists.{named, is_named, same_list, names-read, condition-again, declared-again, formals-again, results-again}
use Rattle.boogie_parse.proofs.Spelling.RespelledStatements.{ExpressionAgain, ListAgain, list-again}

-- ---- conditions of procedures

specification-again : {p : ℕ} {ts r : List Symbol} {s : Specification} → ReadsSpecification p ts s r → AreUnsigned ts → Respells (ReadsSpecification p) bare_specification (specification_signs s) s
specification-again (programs.requires d) w us behind e =
    let a = condition-again d w us behind e in
    record { value = Requires a.value; rest = a.rest; reads = programs.requires a.reads; like = ap Requires a.like; follows = a.follows }
specification-again (programs.ensures d) w us behind e =
    let a = condition-again d w us behind e in
    record { value = Ensures a.value; rest = a.rest; reads = programs.ensures a.reads; like = ap Ensures a.like; follows = a.follows }
specification-again (programs.modifies_nothing t u it iu) w us behind e =
    led_by us e (λ t m it k.
    led_after (λ z. t ∷ z) m k (λ u l iu j.
    record { value = Modifies []; rest = l; reads = programs.modifies_nothing t u it iu; like = refl; follows = j }))
specification-again (programs.modifies {xs = xs} t u it d iu) w us behind e =
    led_by us e (λ t m it k.
    let a = up_to (names-read d m (led fixed.Semicolon behind) (k ∙ append_assoc (names_signs xs) (led fixed.Semicolon []) behind)) in
    record { value = Modifies a.value; rest = a.rest; reads = programs.modifies t a.next it a.reads a.is; like = ap Modifies a.like; follows = a.follows })

specifications-again : {p : ℕ} {ts r : List Symbol} {ss : List Specification} → ReadsSpecifications p ts ss r → AreUnsigned ts →
    Respells (ReadsSpecifications p) (map bare_specification) (specifications_signs ss) ss
specifications-again programs.no_specification w us behind e = record { value = []; rest = us; reads = programs.no_specification; like = refl; follows = e }
specifications-again (programs.next_specification {s = s} {ss = ss} d ds) w us behind e =
    let a = specification-again d w us (specifications_signs ss ++ behind) (e ∙ append_assoc (specification_signs s) (specifications_signs ss) behind) in
    let c = specifications-again ds (specification-rest d w) a.rest behind a.follows in
    record { value = a.value ∷ c.value; rest = c.rest; reads = programs.next_specification a.reads c.reads; like = same_list a.like c.like; follows = c.follows }

-- ---- bodies

locals-again : (xs : List Vary) → Respells ReadsLocals (map bare_variable) (locals_signs xs) xs
locals-again [] us behind e = record { value = []; rest = us; reads = programs.no_local; like = refl; follows = e }
locals-again (x ∷ xs) us behind e =
    let a = declared-again fixed.Var x us (locals_signs xs ++ behind) (e ∙ append_assoc (declared_signs fixed.Var x) (locals_signs xs) behind) in
    let c = locals-again xs a.rest behind a.follows in
    record { value = a.value ∷ c.value; rest = c.rest; reads = programs.next_locals a.reads c.reads; like = same_list a.like c.like; follows = c.follows }

abbrev bare_whole : ProcedureBody → ProcedureBody
bare_whole x = record { locals = map bare_variable x.locals; stmts = bare_block x.stmts }

abbrev whole : List Vary → Block → ProcedureBody
whole vs x = record { locals = vs; stmts = x }

same_whole : {vs ws : List Vary} {x y : Block} → vs ≡ ws → x ≡ y → whole vs x ≡ whole ws y
same_whole {ws = ws} {x} d e = ap (λ vs. whole vs x) d ∙ ap (whole ws) e

body-by : {p b : ℕ} (vs : List Vary) (x : Block) → ListAgain p b x → Respells (ReadsBody p (suc b)) bare_whole (body_signs (Some (whole vs x))) (whole vs x)
body-by vs x h us behind e =
    let variables : List Sign = locals_signs vs in
    let statements : List Sign = block_signs x in
    led_by us e (λ u m iu k.
    let parts : signs_of m ≡ variables ++ (statements ++ led fixed.CloseBrace behind) =
    k ∙ append_assoc (variables ++ statements) (led fixed.CloseBrace []) behind ∙ append_assoc variables statements (led fixed.CloseBrace behind) in
    let a = locals-again vs m (statements ++ led fixed.CloseBrace behind) parts in
    let c = up_to (h a.rest (led fixed.CloseBrace behind) a.follows) in
    record { value = whole a.value c.value; rest = c.rest; reads = programs.body u c.next iu a.reads c.reads c.is; like = same_whole a.like c.like; follows = c.follows })

abbrev BodyAgain : ℕ → ℕ → ProcedureBody → Type 0
BodyAgain p b x = Respells (ReadsBody p b) bare_whole (body_signs (Some x)) x

body-again : {p b : ℕ} {ts r : List Symbol} {x : ProcedureBody} → ReadsBody p b ts x r → AreUnsigned ts → BodyAgain p b x
body-again (programs.body {vs = vs} {x = x} u v iu d ds iv) w = body-by vs x (list-again ds (locals-rest d w.1))

-- ---- the front of a procedure

abbrev bare_head : Head → Head
bare_head h = record { span = nowhere; name = bare_name h.name; params = map bare_variable h.params; results = map bare_variable h.results }

abbrev head_signs : Fixed → Head → List Sign
head_signs f h = led f (name_sign h.name ∷ (enclosed_signs (variables_signs h.params) ++ results_signs h.results))

abbrev front : Span → Name → List Vary → List Vary → Head
front s x ps rs = record { span = s; name = x; params = ps; results = rs }

same_front : (x : Name) {ps qs rs ss : List Vary} → ps ≡ qs → rs ≡ ss → front nowhere x ps rs ≡ front nowhere x qs ss
same_front x {qs = qs} {rs} d e = ap (λ ps. front nowhere x ps rs) d ∙ ap (front nowhere x qs) e

head-by : {p : ℕ} (f : Fixed) (s : Span) (x : Name) (ps rs : List Vary) → Respells (ReadsFormals p) (map bare_variable) (enclosed_signs (variables_signs ps)) ps →
    Respells (ReadsResults p) (map bare_variable) (results_signs rs) rs → Respells (ReadsHead p f) bare_head (head_signs f (front s x ps rs)) (front s x ps rs)
head-by f s x ps rs h i us behind e =
    led_by us e (λ t m it k.
    led_after (λ z. t ∷ z) m k (λ n l name j.
    let a = h l (results_signs rs ++ behind) (j ∙ append_assoc (enclosed_signs (variables_signs ps)) (results_signs rs) behind) in
    let c = i a.rest behind a.follows in
    record {
      value = front t.span (named n x) a.value c.value;
      rest = c.rest;
      reads = programs.head t n it (is_named n x name) a.reads c.reads;
      like = same_front (bare_name x) a.like c.like;
      follows = c.follows;
    }))

abbrev HeadAgain : ℕ → Fixed → Head → Type 0
HeadAgain p f h = Respells (ReadsHead p f) bare_head (head_signs f h) h

head-again : {p : ℕ} {f : Fixed} {ts r : List Symbol} {h : Head} → ReadsHead p f ts h r → HeadAgain p f h
head-again {f = f} (programs.head {x = x} {ps = ps} {rs = rs} t n it name d ds) = head-by f t.span x ps rs (formals-again d) (results-again ds)

-- ---- declarations

abbrev DeclarationAgain : ℕ → ℕ → Declaration → Type 0
DeclarationAgain p b d = Respells (λ us e r. ReadsDeclaration p b us (e ∷ []) r) bare_declaration (declaration_signs d) d

-- the four parts of a procedure's signs, one behind the other
parts_apart : (front end conditions body behind : List Sign) → (((front ++ end) ++ conditions) ++ body) ++ behind ≡ front ++ (end ++ (conditions ++ (body ++ behind)))
parts_apart front end conditions body behind =
    append_assoc ((front ++ end) ++ conditions) body behind ∙ append_assoc (front ++ end) conditions (body ++ behind) ∙ append_assoc front end (conditions ++ (body ++ behind))

same_declared : (h i : Head) (ss us : List Specification) (x y : Option ProcedureBody) → bare_head h ≡ bare_head i → map bare_specification ss ≡ map bare_specification us → bare_body x ≡ bare_body y →
    bare_declaration (Declares (procedure_read h ss x)) ≡ bare_declaration (Declares (procedure_read i us y))
same_declared h i ss us x y d e f =
    ap (λ h. Declares (procedure_read h (map bare_specification ss) (bare_body x))) d
    ∙ ap (λ ss. Declares (procedure_read (bare_head i) ss (bare_body x))) e
    ∙ ap (λ x. Declares (procedure_read (bare_head i) (map bare_specification us) x)) f

same_implemented : (h i : Head) (x y : Option ProcedureBody) → bare_head h ≡ bare_head i → bare_body x ≡ bare_body y →
    bare_declaration (Implements (procedure_read h [] x)) ≡ bare_declaration (Implements (procedure_read i [] y))
same_implemented h i x y d f =
    ap (λ h. Implements (procedure_read h [] (bare_body x))) d
    ∙ ap (λ x. Implements (procedure_read (bare_head i) [] x)) f

abbrev SpecificationsAgain : ℕ → List Specification → Type 0
SpecificationsAgain p ss = Respells (ReadsSpecifications p) (map bare_specification) (specifications_signs ss) ss

module _ {p b : ℕ} where
  constant-again : (x : Vary) → DeclarationAgain p b (Const x)
  constant-again x us behind e =
      let a = declared-again fixed.Const x us behind e in
      record { value = Const a.value; rest = a.rest; reads = programs.constants a.reads; like = ap Const a.like; follows = a.follows }

  variable-again : (x : Vary) → DeclarationAgain p b (Global x)
  variable-again x us behind e =
      let a = declared-again fixed.Var x us behind e in
      record { value = Global a.value; rest = a.rest; reads = programs.variables a.reads; like = ap Global a.like; follows = a.follows }

  axiom-again : (s : Span) (e : Expression) → ExpressionAgain p e → DeclarationAgain p b (Axiom s e)
  axiom-again s e h us behind n =
      led_by us n (λ t m it k.
      let a = up_to (h m (led fixed.Semicolon behind) (k ∙ append_assoc (expression_signs e) (led fixed.Semicolon []) behind)) in
      record { value = Axiom t.span a.value; rest = a.rest; reads = programs.axioms t a.next it a.reads a.is; like = ap (Axiom nowhere) a.like; follows = a.follows })

  procedure-again : (h : Head) (ss : List Specification) → HeadAgain p fixed.Procedure h → SpecificationsAgain p ss → DeclarationAgain p b (Declares (procedure_read h ss None))
  procedure-again h ss i j us behind e =
      let conditions : List Sign = specifications_signs ss in
      let a = up_to (i us (led fixed.Semicolon (conditions ++ behind)) (e ∙ parts_apart (head_signs fixed.Procedure h) (led fixed.Semicolon []) conditions [] behind)) in
      let c = j a.rest behind a.follows in
      record {
        value = Declares (procedure_read a.value c.value None);
        rest = c.rest;
        reads = programs.without_body a.next a.reads a.is c.reads;
        like = same_declared a.value h c.value ss None None a.like c.like refl;
        follows = c.follows;
      }

  procedure-with-body-again : (h : Head) (ss : List Specification) (x : ProcedureBody) → HeadAgain p fixed.Procedure h → SpecificationsAgain p ss → BodyAgain p b x →
      DeclarationAgain p b (Declares (procedure_read h ss (Some x)))
  procedure-with-body-again h ss x i j k us behind e =
      let conditions : List Sign = specifications_signs ss in
      let body : List Sign = body_signs (Some x) in
      let a = i us (conditions ++ (body ++ behind)) (e ∙ parts_apart (head_signs fixed.Procedure h) [] conditions body behind) in
      let c = j a.rest (body ++ behind) a.follows in
      let d = k c.rest behind c.follows in
      record {
        value = Declares (procedure_read a.value c.value (Some d.value));
        rest = d.rest;
        reads = programs.with_body a.reads c.reads d.reads;
        like = same_declared a.value h c.value ss (Some d.value) (Some x) a.like c.like (ap Some d.like);
        follows = d.follows;
      }

  implementation-again : (h : Head) (x : ProcedureBody) → HeadAgain p fixed.Implementation h → BodyAgain p b x → DeclarationAgain p b (Implements (procedure_read h [] (Some x)))
  implementation-again h x i k us behind e =
      let body : List Sign = body_signs (Some x) in
      let a = i us (body ++ behind) (e ∙ parts_apart (head_signs fixed.Implementation h) [] [] body behind) in
      let d = k a.rest behind a.follows in
      record {
        value = Implements (procedure_read a.value [] (Some d.value));
        rest = d.rest;
        reads = programs.implementation a.reads d.reads;
        like = same_implemented a.value h (Some d.value) (Some x) a.like (ap Some d.like);
        follows = d.follows;
      }

constants-again : (p b : ℕ) (xs : List Vary) → AllByRecursion (DeclarationAgain p b) (map Const xs)
constants-again p b [] = tt
constants-again p b (x ∷ xs) = (constant-again x, constants-again p b xs)

variables-again : (p b : ℕ) (xs : List Vary) → AllByRecursion (DeclarationAgain p b) (map Global xs)
variables-again p b [] = tt
variables-again p b (x ∷ xs) = (variable-again x, variables-again p b xs)

declarations-again : {p b : ℕ} {ts r : List Symbol} {ds : List Declaration} → ReadsDeclaration p b ts ds r → AreUnsigned ts → AllByRecursion (DeclarationAgain p b) ds
declarations-again {p} {b} (programs.constants {vs = vs} d) w = constants-again p b vs
declarations-again {p} {b} (programs.variables {vs = vs} d) w = variables-again p b vs
declarations-again (programs.axioms {e = e} t u it d iu) w = (axiom-again t.span e (expression-again d w.1), tt)
declarations-again (programs.without_body {h = h} {ss = ss} u d iu e) w = (procedure-again h ss (head-again d) (specifications-again e (head-rest d w).1), tt)
declarations-again (programs.with_body {h = h} {ss = ss} {x = x} d e i) w =
    (procedure-with-body-again h ss x (head-again d) (specifications-again e (head-rest d w)) (body-again i (specifications-rest e (head-rest d w))), tt)
declarations-again (programs.implementation {h = h} {x = x} d i) w = (implementation-again h x (head-again d) (body-again i (head-rest d w)), tt)

pub all_joined : {X : Type 0} (P : X → Type 0) (xs ys : List X) → AllByRecursion P xs → AllByRecursion P ys → AllByRecursion P (xs ++ ys)
all_joined P [] ys h g = g
all_joined P (x ∷ xs) ys h g = (h.0, all_joined P xs ys h.1 g)

groups-again : {p b : ℕ} {ts : List Symbol} {groups : List (List Declaration)} → ReadsProgram p b ts groups → AreUnsigned ts → AllByRecursion (DeclarationAgain p b) (joined_groups groups)
groups-again programs.no_declaration w = tt
groups-again {p} {b} (programs.next_declaration {ds = ds} {groups = groups} d e) w =
    all_joined (DeclarationAgain p b) ds (joined_groups groups) (declarations-again d w) (groups-again e (declaration-rest d w))

no_more : {p b : ℕ} (us : List Symbol) → signs_of us ≡ [] → ReadsProgramAgain p b us []
no_more [] e = record { again = []; reads = programs.no_declaration; alike = refl }
no_more (t ∷ us) e = absurd (no_sign (sym e))

each-again : {p b : ℕ} (ds : List Declaration) → AllByRecursion (DeclarationAgain p b) ds → (us : List Symbol) → signs_of us ≡ program_signs ds → ReadsProgramAgain p b us ds
each-again [] h us e = no_more us e
each-again (d ∷ ds) h us e =
    let a = h.0 us (program_signs ds) e in
    let c = each-again ds h.1 a.rest a.follows in
    record { again = a.value ∷ c.again; reads = programs.next_declaration a.reads c.reads; alike = same_list (sym a.like) c.alike }

-- The signs of a program that was read are read as it, with no more parentheses and blocks open.
pub program-again : {p b : ℕ} {ts : List Symbol} {groups : List (List Declaration)} → ReadsProgram p b ts groups → AreUnsigned ts →
    (us : List Symbol) → signs_of us ≡ program_signs (joined_groups groups) → ReadsProgramAgain p b us (joined_groups groups)
program-again {groups = groups} d w us e = each-again (joined_groups groups) (groups-again d w) us e

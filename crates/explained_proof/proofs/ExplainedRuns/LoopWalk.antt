-- Along a list of statements and what is left of it typed, each loop is told what holds at its head.
use Rattle.std.proofs.Common.{◌≡◌, ◌∙◌, ℕ, zero, suc, ◌+◌, ◌≤◌, Bool, true, false, List, [], ◌∷◌, ◌++◌, map, length, Option, None, Some, refl, sym, ap, subst, arith}
use Rattle.std.specs.Prelude.{◌&&◌, cond, filter, slice_get}
use Rattle.std.specs.Option.{option_map, option_and_then, is_some}
use Rattle.std.proofs.lemmas.List.Elements.{filter-append}
use Rattle.boogie_tree.specs.declared.span.Span.{Span}
use Rattle.boogie_tree.specs.declared.tree.Name.{Name}
use Rattle.boogie_tree.specs.declared.tree.Column.{Column}
use Rattle.boogie_tree.specs.Tree as tree
use Rattle.boogie_tree.specs.Tree.{Expression}
use Rattle.typed_tree.specs.TypedTree as typed
use Rattle.typed_tree.specs.TypedTree.{TypedExpression, TypedGuard, TypedInvariant, TypedStatement, TypedBlock, TypedProcedure}
use Rattle.typed_tree.specs.TypingRules.Counts.{assertions, points, block_assertions, block_points, plain_invariants, checked_at_call}
use Rattle.boogie_types.specs.Naming.{NamingPlace, each, from_both, named, named_guard, named_invariant, targets_of, label_number, levels, procedure_number, params_named, hidden_arguments, hidden_in, hidden_in_block, hidden_column, put_aside, named_arguments, named_call, label_of, in_loop, alone, in_front, named_statement, named_block}
use Rattle.boogie_types.proofs.ShapeLists.{option_map_some, option_and_then_some, both_some}
use Rattle.boogie_run.specs.BoogiePoints.Points.{Todo, Body, Point, before, past}
use Rattle.boogie_run.specs.BoogiePlaces.Places.{parts_from, at_statement, points_of, first_at}
use Rattle.explained_proof.specs.declared.row_expressions.scopes.Position.TheVariants as positions
use Rattle.explained_proof.specs.Clauses.{holding}
use Rattle.explained_proof.specs.Statements as told
use Rattle.explained_proof.specs.Statements.{Setting, Left, left, asserted, assertions_behind, is_left, past_hidden_in, explained_block, explained_statement}
use Rattle.explained_proof.specs.ExplainedRuns.Sited.{loops_of, span_at, is_head, IsToldAt, AreToldAt}

-- ---- heads among points

pub and_false : (a : Bool) → a && false ≡ false
and_false true = refl
and_false false = refl

abbrev pub heads : List Point → List Point
heads ps = filter is_head ps

-- none of the parts is a head, the numbers of which are not below lo
no_heads : (p : Point) (lo : ℕ) → ((i : ℕ) → lo ≤ i → is_head (record p { part = i }) ≡ false) → (k n : ℕ) → lo ≤ k → heads (parts_from p k n) ≡ []
no_heads p lo h k zero from = refl
no_heads p lo h k (suc n) from =
    let next : lo ≤ k + 1 = omega arith in
    ap (λ (b : Bool). cond b (record p { part = k } ∷ heads (parts_from p (k + 1) n)) (heads (parts_from p (k + 1) n))) (h k from) ∙ no_heads p lo h (k + 1) n next

pub no_head_parts : (p : Point) → ((i : ℕ) → is_head (record p { part = i }) ≡ false) → (n : ℕ) → heads (parts_from p 0 n) ≡ []
no_head_parts p h n = no_heads p 0 (λ i from. h i) 0 n (omega arith)

later_part : (p : Point) (i : ℕ) → 1 ≤ i → is_head (record p { part = i }) ≡ false
later_part p zero from = absurd (omega arith)
later_part p (suc i) from = and_false (is_some (span_at p.todo))

first_parts : (p : Point) (n : ℕ) → is_head (record p { part = 0 }) ≡ true → heads (parts_from p 0 (n + 1)) ≡ record p { part = 0 } ∷ []
first_parts p n h =
    let more : n + 1 ≡ suc n = omega arith in
    let first : Point = record p { part = 0 } in
    let rest : List Point = heads (parts_from p (0 + 1) n) in
    ap (λ (m : ℕ). heads (parts_from p 0 m)) more
    ∙ ap (λ (b : Bool). cond b (first ∷ rest) rest) h
    ∙ ap (λ (ps : List Point). first ∷ ps) (no_heads p 1 (later_part p) (0 + 1) n (omega arith))

pub heads_behind : (ps qs : List Point) → heads ps ≡ [] → heads (ps ++ qs) ≡ heads qs
heads_behind ps qs h = filter-append is_head ps qs ∙ ap (λ (rs : List Point). rs ++ heads qs) h

-- a loop among points: its head, those in its body, and those behind it
loop_heads : (p : Point) (n : ℕ) (ys zs : List Point) → is_head (record p { part = 0 }) ≡ true → heads ((parts_from p 0 (n + 1) ++ ys) ++ zs) ≡ record p { part = 0 } ∷ (heads ys ++ heads zs)
loop_heads p n ys zs h =
    filter-append is_head (parts_from p 0 (n + 1) ++ ys) zs
    ∙ ap (λ (ps : List Point). ps ++ heads zs) (filter-append is_head (parts_from p 0 (n + 1)) ys ∙ ap (λ (ps : List Point). ps ++ heads ys) (first_parts p n h))

branch_heads : (xs ys zs : List Point) → heads ((xs ++ ys) ++ zs) ≡ (heads xs ++ heads ys) ++ heads zs
branch_heads xs ys zs = filter-append is_head (xs ++ ys) zs ∙ ap (λ (ps : List Point). ps ++ heads zs) (filter-append is_head xs ys)

-- ---- what is told of loops in order

pub told_append : (P : Point → List Expression → Type 0) (ps qs : List Point) (ss ts us vs : List tree.Statement) → AreToldAt P ps ss us → AreToldAt P qs ts vs → AreToldAt P (ps ++ qs) (ss ++ ts) (us ++ vs)
told_append P [] qs [] ts [] vs h k = k
told_append P (p ∷ ps) qs (s ∷ ss) ts (u ∷ us) vs h k = (h.0, told_append P ps qs ss ts us vs h.1 k)
told_append P ps qs ss ts us vs h k = absurd h

pub told_weaker : (P Q : Point → List Expression → Type 0) → ((p : Point) (es : List Expression) → P p es → Q p es) → (ps : List Point) (ss us : List tree.Statement) → AreToldAt P ps ss us → AreToldAt Q ps ss us
told_weaker P Q f [] [] [] h = tt
told_weaker P Q f (p ∷ ps) (s ∷ ss) (u ∷ us) h =
    (record { at = h.0.at; added = h.0.added; invariants = h.0.invariants; so = f p h.0.added h.0.so }, told_weaker P Q f ps ss us h.1)
told_weaker P Q f ps ss us h = absurd h

-- no assertion is a loop
no_loop_before : (es : List Expression) (b : tree.Block) → loops_of (told.before (map asserted es) b) ≡ loops_of b
no_loop_before [] b = refl
no_loop_before (e ∷ es) b = no_loop_before es b

-- ---- what a result says of the parts that it was made from

pub alone_so : (P : List TypedStatement → Type 0) (o : Option TypedStatement) (ts : List TypedStatement) → ((t : TypedStatement) → o ≡ Some t → P (t ∷ [])) → alone o ≡ Some ts → P ts
alone_so P o ts h e =
    let a = option_map_some (λ (t : TypedStatement). t ∷ []) o ts e in
    subst P a.2 (h a.0 a.1)

pub one_so : {X : Type 0} (P : List TypedStatement → Type 0) (make : X → TypedStatement) (o : Option X) (ts : List TypedStatement) → ((x : X) → o ≡ Some x → P (make x ∷ [])) →
    alone (option_map make o) ≡ Some ts → P ts
one_so P make o ts h e =
    alone_so P (option_map make o) ts (λ t f. let a = option_map_some make o t f in subst (λ (u : TypedStatement). P (u ∷ [])) a.2 (h a.0 a.1)) e

pub two_so : {X Y : Type 0} (P : List TypedStatement → Type 0) (make : X → Y → TypedStatement) (x : Option X) (y : Option Y) (t : TypedStatement) → ((a : X) (b : Y) → x ≡ Some a → y ≡ Some b → P (make a b ∷ [])) →
    from_both make x y ≡ Some t → P (t ∷ [])
two_so P make x y t h e =
    let a = both_some make x y t e in
    subst (λ (u : TypedStatement). P (u ∷ [])) a.4 (h a.0 a.1 a.2 a.3)

pub guarded_so : {X Y : Type 0} (P : List TypedStatement → Type 0) (make : TypedGuard → X → Y → TypedStatement) (g : Option TypedGuard) (x : Option X) (y : Option Y) (ts : List TypedStatement) →
    ((guard : TypedGuard) (a : X) (b : Y) → x ≡ Some a → y ≡ Some b → P (make guard a b ∷ [])) → alone (option_and_then (λ guard. from_both (make guard) x y) g) ≡ Some ts → P ts
guarded_so P make g x y ts h e =
    alone_so P (option_and_then (λ guard. from_both (make guard) x y) g) ts
    (λ t f. let c = option_and_then_some (λ guard. from_both (make guard) x y) g t f in two_so P (make c.0) x y t (h c.0) c.2) e

-- ---- the walk

module _ (w : Setting) where
  -- what holds at a point of a body
  abbrev pub IsHeld : Point → List Expression → Type 0
  IsHeld p es = (p.stage ≡ Body) × (es ≡ holding w.procedure positions.Body (first_at p.todo + p.part))

  abbrev pub Walks : TypedBlock → tree.Block → Bool → List Todo → Type 0
  Walks x b loop under = (id at : ℕ) → AreToldAt IsHeld (heads (points_of w.procs x loop id at under)) (loops_of b) (loops_of (explained_block w b (left x at)))

  module _ (x : TypedBlock) (b : tree.Block) (loop : Bool) (under : List Todo) (rest : Walks x b loop under) where
    abbrev Front : tree.Statement → List TypedStatement → Type 0
    Front s ts = Walks (in_front ts x) (tree.Then s b) loop under

    havoc_walks : (at : Span) (xs : List Name) (cs : List Column) → Front (tree.Havoc at xs) (typed.Havoc at cs ∷ [])
    havoc_walks at xs cs id n =
        subst (λ (ps : List Point). AreToldAt IsHeld ps (loops_of b) (loops_of (explained_block w b (left x (n + length cs)))))
        (sym (heads_behind (parts_from (at_statement (typed.Havoc at cs) x loop id n under) 0 (length cs)) (points_of w.procs x loop (id + 0) (n + length cs) under)
        (no_head_parts (at_statement (typed.Havoc at cs) x loop id n under) (λ i. refl) (length cs))))
        (rest (id + 0) (n + length cs))

    label_walks : (y : Name) (k : ℕ) → Front (tree.Label y) (typed.Label k ∷ [])
    label_walks y k id n =
        subst (λ (us : List tree.Statement). AreToldAt IsHeld (heads (points_of w.procs x loop (id + 0) (n + 0) under)) (loops_of b) us)
        (sym (no_loop_before (assertions_behind w (is_left (tree.Label y) b) (left (typed.Then (typed.Label k) x) n)) (explained_block w b (left x (n + 0)))))
        (rest (id + 0) (n + 0))

    -- a call behind what is put aside for it
    call_walks : (at : Span) (cs : List Column) (f : ℕ) (es : List TypedExpression) (id n : ℕ) →
        AreToldAt IsHeld (heads (points_of w.procs (typed.Then (typed.Call at cs f es) x) loop id n under)) (loops_of b)
        (loops_of (explained_block w b (left x (n + points w.procs (typed.Call at cs f es)))))
    call_walks at cs f es id n =
        let m : ℕ = checked_at_call (slice_get w.procs f) in
        subst (λ (ps : List Point). AreToldAt IsHeld ps (loops_of b) (loops_of (explained_block w b (left x (n + (m + 1))))))
        (sym (heads_behind (parts_from (at_statement (typed.Call at cs f es) x loop id n under) 0 (m + 1)) (points_of w.procs x loop (id + m) (n + (m + 1)) under)
        (no_head_parts (at_statement (typed.Call at cs f es) x loop id n under) (λ i. refl) (m + 1))))
        (rest (id + m) (n + (m + 1)))

    aside_walks : (p : NamingPlace) (at : Span) (cs : List Column) (f : ℕ) (args : List TypedExpression) (es : List Expression) (k : ℕ) (ts : List TypedStatement) → put_aside p k at es ≡ Some ts →
        (id n : ℕ) → AreToldAt IsHeld (heads (points_of w.procs (in_front (ts ++ (typed.Call at cs f args ∷ [])) x) loop id n under)) (loops_of b)
        (loops_of (explained_block w b (told.past w.procs (past_hidden_in (in_front (ts ++ (typed.Call at cs f args ∷ [])) x) n))))
    aside_walks p at cs f args [] k ts e id n =
        let none : [] ≡ ts = (let s : Some [] ≡ Some ts = e in cc) in
        subst (λ (us : List TypedStatement). AreToldAt IsHeld (heads (points_of w.procs (in_front (us ++ (typed.Call at cs f args ∷ [])) x) loop id n under)) (loops_of b)
        (loops_of (explained_block w b (told.past w.procs (past_hidden_in (in_front (us ++ (typed.Call at cs f args ∷ [])) x) n))))) none
        (call_walks at cs f args id n)
    aside_walks p at cs f args (y ∷ es) k ts e id n =
        let a = both_some (λ t us. typed.Assign at (hidden_column p k ∷ []) (t ∷ []) ∷ us) (named p.scope y) (put_aside p (k + 1) at es) ts e in
        subst (λ (us : List TypedStatement). AreToldAt IsHeld (heads (points_of w.procs (in_front (us ++ (typed.Call at cs f args ∷ [])) x) loop id n under)) (loops_of b)
        (loops_of (explained_block w b (told.past w.procs (past_hidden_in (in_front (us ++ (typed.Call at cs f args ∷ [])) x) n))))) a.4
        (aside_walks p at cs f args es (k + 1) a.1 a.3 (id + 0) (n + 1))

    made_walks : (p : NamingPlace) (at : Span) (xs : List Name) (g : Name) (us : List Expression) (cs : List Column) (f : ℕ) (args : List TypedExpression) (es : List Expression) (k : ℕ) (ts : List TypedStatement) →
        put_aside p k at es ≡ Some ts → Front (tree.Call at xs g us) (ts ++ (typed.Call at cs f args ∷ []))
    made_walks p at xs g us cs f args es k ts e id n =
        let c : TypedBlock = in_front (ts ++ (typed.Call at cs f args ∷ [])) x in
        subst (λ (vs : List tree.Statement). AreToldAt IsHeld (heads (points_of w.procs c loop id n under)) (loops_of b) vs)
        (sym (no_loop_before (assertions_behind w false (left c n)) (explained_block w b (told.past w.procs (past_hidden_in c n)))))
        (aside_walks p at cs f args es k ts e id n)

    named_call_walks : (p : NamingPlace) (k : ℕ) (at : Span) (xs : List Name) (f : Name) (es : List Expression) (ts : List TypedStatement) → named_call p k at xs f es ≡ Some ts → Front (tree.Call at xs f es) ts
    named_call_walks p k at xs f es ts e =
        let hidden = hidden_arguments (params_named p f) es in
        let a = both_some (λ (front : List TypedStatement) (call : TypedStatement). front ++ (call ∷ [])) (put_aside p k at hidden)
        (option_and_then (λ cs. from_both (typed.Call at cs) (procedure_number p f) (named_arguments p k (params_named p f) es)) (targets_of p.scope xs)) ts e in
        let c = option_and_then_some (λ cs. from_both (typed.Call at cs) (procedure_number p f) (named_arguments p k (params_named p f) es)) (targets_of p.scope xs) a.1 a.3 in
        let d = both_some (typed.Call at c.0) (procedure_number p f) (named_arguments p k (params_named p f) es) a.1 c.2 in
        subst (Front (tree.Call at xs f es)) a.4 (subst (λ (t : TypedStatement). Front (tree.Call at xs f es) (a.0 ++ (t ∷ []))) {x = typed.Call at c.0 d.0 d.1} d.4 (made_walks p at xs f es c.0 d.0 d.1 hidden k a.0 a.2))

    if_walks : (at : Span) (g : tree.Guard) (guard : TypedGuard) (c d : tree.Block) (y z : TypedBlock) → ((under : List Todo) → Walks y c false under) → ((under : List Todo) → Walks z d false under) →
        Front (tree.If at g c d) (typed.If at guard y z ∷ [])
    if_walks at g guard c d y z h k id n =
        let after : List Todo = past w.procs (typed.If at guard y z) x loop id n ∷ under in
        let ys : List Point = points_of w.procs y false id (n + 1) after in
        let zs : List Point = points_of w.procs z false (id + block_assertions w.procs y) (n + 1 + block_points w.procs y) after in
        let m : ℕ = n + points w.procs (typed.If at guard y z) in
        let i : ℕ = id + assertions w.procs (typed.If at guard y z) in
        let xs : List Point = points_of w.procs x loop i m under in
        let us : List tree.Statement = loops_of (explained_block w c (left y (n + 1))) in
        let vs : List tree.Statement = loops_of (explained_block w d (left z ((n + 1) + block_points w.procs y))) in
        let ws : List tree.Statement = loops_of (explained_block w b (left x m)) in
        subst (λ (ps : List Point). AreToldAt IsHeld ps ((loops_of c ++ loops_of d) ++ loops_of b) ((us ++ vs) ++ ws)) (sym (branch_heads ys zs xs))
        (told_append IsHeld (heads ys ++ heads zs) (heads xs) (loops_of c ++ loops_of d) (loops_of b) (us ++ vs) ws
        (told_append IsHeld (heads ys) (heads zs) (loops_of c) (loops_of d) us vs (h after id (n + 1)) (k after (id + block_assertions w.procs y) (n + 1 + block_points w.procs y)))
        (rest i m))

    while_walks : (at : Span) (g : tree.Guard) (guard : TypedGuard) (is : List tree.Invariant) (js : List TypedInvariant) (c : tree.Block) (y : TypedBlock) → ((under : List Todo) → Walks y c true under) →
        Front (tree.While at g is c) (typed.While at guard js y ∷ [])
    while_walks at g guard is js c y h id n =
        let s : TypedStatement = typed.While at guard js y in
        let here : Todo = record { rest = typed.Then s x; of_loop = loop; id = id; at = n } in
        let head : Point = record (before (here ∷ under)) { part = 0 } in
        let i : ℕ = id + plain_invariants js in
        let m : ℕ = n + length js + 1 in
        let j : ℕ = id + assertions w.procs s in
        let k : ℕ = n + points w.procs s in
        let ys : List Point = points_of w.procs y true i m (here ∷ under) in
        let xs : List Point = points_of w.procs x loop j k under in
        let us : List tree.Statement = loops_of (explained_block w c (left y m)) in
        let ws : List tree.Statement = loops_of (explained_block w b (left x k)) in
        let same : n ≡ n + 0 = omega arith in
        let known : List Expression = holding w.procedure positions.Body n in
        let loop_told : IsToldAt IsHeld head (tree.While at g is c) (tree.While at g (map told.condition known ++ is) (explained_block w c (left y m))) =
        record { at = refl; added = known; invariants = refl; so = (refl, ap (holding w.procedure positions.Body) same) } in
        subst (λ (ps : List Point). AreToldAt IsHeld ps (loops_of (tree.Then (tree.While at g is c) b)) (loops_of (explained_block w (tree.Then (tree.While at g is c) b) (left (typed.Then s x) n))))
        (sym (loop_heads (before (here ∷ under)) (length js) ys xs refl))
        (loop_told, told_append IsHeld (heads ys) (heads xs) (loops_of c) (loops_of b) us ws (h (here ∷ under) i m) (rest j k))

  mutual
    pub statement_walks : (p : NamingPlace) (front : Option (List ℕ)) (n : ℕ) (s : tree.Statement) (ts : List TypedStatement) → named_statement p front n s ≡ Some ts →
        (x : TypedBlock) (b : tree.Block) (loop : Bool) (under : List Todo) → Walks x b loop under → Walks (in_front ts x) (tree.Then s b) loop under
    statement_walks p front n (tree.Assert at e) ts is x b loop under rest =
        one_so (Front x b loop under rest (tree.Assert at e)) (typed.Assert at) (named p.scope e) ts (λ y f id k. rest (id + 1) (k + 1)) is
    statement_walks p front n (tree.Assume at e) ts is x b loop under rest =
        one_so (Front x b loop under rest (tree.Assume at e)) (typed.Assume at) (named p.scope e) ts (λ y f id k. rest (id + 0) (k + 1)) is
    statement_walks p front n (tree.Havoc at xs) ts is x b loop under rest =
        one_so (Front x b loop under rest (tree.Havoc at xs)) (typed.Havoc at) (targets_of p.scope xs) ts (λ cs f. havoc_walks x b loop under rest at xs cs) is
    statement_walks p front n (tree.Assign at xs es) ts is x b loop under rest =
        alone_so (Front x b loop under rest (tree.Assign at xs es)) (from_both (typed.Assign at) (targets_of p.scope xs) (each (named p.scope) es)) ts
        (λ t f. two_so (Front x b loop under rest (tree.Assign at xs es)) (typed.Assign at) (targets_of p.scope xs) (each (named p.scope) es) t (λ cs us g h id k. rest (id + 0) (k + 1)) f) is
    statement_walks p front n (tree.Call at xs f es) ts is x b loop under rest = named_call_walks x b loop under rest p n at xs f es ts is
    statement_walks p front n (tree.If at g c d) ts is x b loop under rest =
        guarded_so (Front x b loop under rest (tree.If at g c d)) (typed.If at) (named_guard p.scope g) (named_block p None n c) (named_block p None (n + hidden_in_block p c) d) ts
        (λ guard y z e f. if_walks x b loop under rest at g guard c d y z (λ low. block_walks p None n c y e false low) (λ low. block_walks p None (n + hidden_in_block p c) d z f false low)) is
    statement_walks p front n (tree.While at g js c) ts is x b loop under rest =
        guarded_so (Front x b loop under rest (tree.While at g js c)) (typed.While at) (named_guard p.scope g) (each (named_invariant p.scope) js) (named_block (in_loop p front) None n c) ts
        (λ guard ks y e f. while_walks x b loop under rest at g guard js ks c y (λ low. block_walks (in_loop p front) None n c y f true low)) is
    statement_walks p front n (tree.Break at y) ts is x b loop under rest =
        one_so (Front x b loop under rest (tree.Break at y)) (typed.Break at) (levels p y) ts (λ k f id i. rest (id + 0) (i + 1)) is
    statement_walks p front n (tree.Goto at xs) ts is x b loop under rest =
        one_so (Front x b loop under rest (tree.Goto at xs)) (typed.Goto at) (each (label_number p) xs) ts (λ ks f id k. rest (id + 0) (k + 1)) is
    statement_walks p front n (tree.Return at) ts is x b loop under rest =
        let same : typed.Return at ∷ [] ≡ ts = (let e : Some (typed.Return at ∷ []) ≡ Some ts = is in cc) in
        subst (Front x b loop under rest (tree.Return at)) same (λ id k. rest (id + 0) (k + 1))
    statement_walks p front n (tree.Label y) ts is x b loop under rest =
        one_so (Front x b loop under rest (tree.Label y)) typed.Label (label_number p y) ts (λ k f. label_walks x b loop under rest y k) is

    pub block_walks : (p : NamingPlace) (front : Option (List ℕ)) (n : ℕ) (b : tree.Block) (x : TypedBlock) → named_block p front n b ≡ Some x → (loop : Bool) (under : List Todo) → Walks x b loop under
    block_walks p front n tree.Empty x is loop under =
        let same : typed.Empty ≡ x = (let e : Some typed.Empty ≡ Some x = is in cc) in
        subst (λ (y : TypedBlock). Walks y tree.Empty loop under) same (λ id at. tt)
    block_walks p front n (tree.Then s b) x is loop under =
        let a = both_some in_front (named_statement p front n s) (named_block p (label_of s) (n + hidden_in p s) b) x is in
        subst (λ (y : TypedBlock). Walks y (tree.Then s b) loop under) a.4
        (statement_walks p front n s a.0 a.2 a.1 b loop under (block_walks p (label_of s) (n + hidden_in p s) b a.1 a.3 loop under))

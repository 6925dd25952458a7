-- A body with its names replaced: its labels are the numbers of the labels of the body, in order, and the boolean arguments of its calls are simple.
use Rattle.std.proofs.Common.{◌≡◌, ℕ, ◌+◌, true, ◌&&◌, List, [], ◌∷◌, ◌++◌, map, Option, None, Some, slice_get, option_map, option_and_then, refl, ap, sym, ◌∙◌, subst, append_assoc, append-nil}
use Rattle.std.specs.List.{list_all}
use Rattle.std.proofs.lemmas.Bool.{and_parts, and_from}
use Rattle.boogie_tree.specs.declared.span.Span.{Span}
use Rattle.boogie_tree.specs.declared.tree.Name.{Name}
use Rattle.boogie_tree.specs.declared.tree.Vary.{Vary}
use Rattle.boogie_tree.specs.declared.tree.Column.{Column}
use Rattle.boogie_tree.specs.declared.tree.VarInfo.{VarInfo}
use Rattle.boogie_tree.specs.Tree as tree
use Rattle.typed_tree.specs.TypedTree as typed
use Rattle.typed_tree.specs.TypedTree.{TypedExpression, TypedGuard, TypedInvariant, TypedStatement, TypedBlock, TypedProcedure}
use Rattle.typed_tree.specs.TypingRules.Shape as shape
use Rattle.typed_tree.specs.TypingRules.Shape.{is_shaped, is_shaped_block, statement_labels, block_labels, are_arguments}
use Rattle.boogie_types.specs.Meanings.{variable_info}
use Rattle.boogie_types.specs.Sorted as sorted
use Rattle.boogie_types.specs.Sorted.{labels_in}
use Rattle.boogie_types.specs.Naming.{each, from_both, named, named_guard, named_invariant, targets_of, label_number, levels, procedure_number, params_if_any, params_named, hidden_arguments, hidden_in, hidden_in_block, hidden_column, put_aside, named_arguments, named_call, label_of, in_loop, alone, in_front, named_statement, named_block, NamingPlace}
use Rattle.boogie_types.proofs.ShapeLists.{option_map_some, option_and_then_some, both_some, each_cons, each_append, all_append}
use Rattle.boogie_types.proofs.ShapeArguments.{arguments_shaped}

-- all labels of statements
abbrev pub list_labels : List TypedStatement → List ℕ
list_labels [] = []
list_labels (t ∷ ts) = statement_labels t ++ list_labels ts

-- the parameters of each typed procedure are those of the procedure with its number
abbrev pub AreCallees : List TypedProcedure → List tree.Procedure → Type 0
AreCallees procs ps = (n : ℕ) → shape.params_if_any (slice_get procs n) ≡ map (variable_info true) (params_if_any (slice_get ps n))

-- what holds of the statements that a statement with those labels becomes
pub record FineList (procs : List TypedProcedure) (p : NamingPlace) (xs : List Name) (ts : List TypedStatement) : Type 0 where
  pub labels : each (label_number p) xs ≡ Some (list_labels ts)
  pub shaped : list_all (is_shaped procs) ts ≡ true

-- what holds of the list that a list with those labels becomes
pub record FineBlock (procs : List TypedProcedure) (p : NamingPlace) (xs : List Name) (b : TypedBlock) : Type 0 where
  pub labels : each (label_number p) xs ≡ Some (block_labels b)
  pub shaped : is_shaped_block procs b ≡ true

-- ---- statements in a row

front_labels : (ts : List TypedStatement) (b : TypedBlock) → block_labels (in_front ts b) ≡ list_labels ts ++ block_labels b
front_labels [] b = refl
front_labels (t ∷ ts) b =
    ap (λ (ns : List ℕ). statement_labels t ++ ns) (front_labels ts b) ∙ sym (append_assoc (statement_labels t) (list_labels ts) (block_labels b))

front_shaped : (procs : List TypedProcedure) (ts : List TypedStatement) (b : TypedBlock) → list_all (is_shaped procs) ts ≡ true → is_shaped_block procs b ≡ true →
    is_shaped_block procs (in_front ts b) ≡ true
front_shaped procs [] b h k = k
front_shaped procs (t ∷ ts) b h k =
    let a = and_parts (is_shaped procs t) (list_all (is_shaped procs) ts) h in
    and_from (is_shaped procs t) (is_shaped_block procs (in_front ts b)) a.0 (front_shaped procs ts b a.1 k)

labels_append : (ts us : List TypedStatement) → list_labels (ts ++ us) ≡ list_labels ts ++ list_labels us
labels_append [] us = refl
labels_append (t ∷ ts) us =
    ap (λ (ns : List ℕ). statement_labels t ++ ns) (labels_append ts us) ∙ sym (append_assoc (statement_labels t) (list_labels ts) (list_labels us))

-- a statement before a list
in_row : (procs : List TypedProcedure) (p : NamingPlace) (xs ys : List Name) (ts : List TypedStatement) (b c : TypedBlock) → FineList procs p xs ts → FineBlock procs p ys b →
    in_front ts b ≡ c → FineBlock procs p (xs ++ ys) c
in_row procs p xs ys ts b c f g e =
    subst (FineBlock procs p (xs ++ ys)) e (record {
      labels = each_append (label_number p) xs ys (list_labels ts) (block_labels b) f.labels g.labels ∙ ap (λ (ns : List ℕ). Some ns) (sym (front_labels ts b));
      shaped = front_shaped procs ts b f.shaped g.shaped;
    })

-- ---- one statement

one : (procs : List TypedProcedure) (p : NamingPlace) (xs : List Name) (o : Option TypedStatement) (ts : List TypedStatement) →
    ((t : TypedStatement) → o ≡ Some t → FineList procs p xs (t ∷ [])) → alone o ≡ Some ts → FineList procs p xs ts
one procs p xs o ts h e =
    let a = option_map_some (λ (t : TypedStatement). t ∷ []) o ts e in
    subst (FineList procs p xs) a.2 (h a.0 a.1)

one_of : {X : Type 0} (procs : List TypedProcedure) (p : NamingPlace) (xs : List Name) (make : X → TypedStatement) (o : Option X) (ts : List TypedStatement) →
    ((x : X) → o ≡ Some x → FineList procs p xs (make x ∷ [])) → alone (option_map make o) ≡ Some ts → FineList procs p xs ts
one_of procs p xs make o ts h e =
    one procs p xs (option_map make o) ts
    (λ t f. let a = option_map_some make o t f in subst (λ (u : TypedStatement). FineList procs p xs (u ∷ [])) a.2 (h a.0 a.1)) e

two_of : {X Y : Type 0} (procs : List TypedProcedure) (p : NamingPlace) (xs : List Name) (make : X → Y → TypedStatement) (x : Option X) (y : Option Y) (t : TypedStatement) →
    ((a : X) (b : Y) → x ≡ Some a → y ≡ Some b → FineList procs p xs (make a b ∷ [])) → from_both make x y ≡ Some t → FineList procs p xs (t ∷ [])
two_of procs p xs make x y t h e =
    let a = both_some make x y t e in
    subst (λ (u : TypedStatement). FineList procs p xs (u ∷ [])) a.4 (h a.0 a.1 a.2 a.3)

-- ---- a call

aside_fine : (procs : List TypedProcedure) (p : NamingPlace) (n : ℕ) (at : Span) (es : List tree.Expression) (ts : List TypedStatement) → put_aside p n at es ≡ Some ts →
    FineList procs p [] ts
aside_fine procs p n at [] ts e = let f : ts ≡ [] = cc in rw f (record { labels = refl; shaped = refl })
aside_fine procs p n at (x ∷ es) ts e =
    let a = both_some (λ t us. typed.Assign at (hidden_column p n ∷ []) (t ∷ []) ∷ us) (named p.scope x) (put_aside p (n + 1) at es) ts e in
    let r = aside_fine procs p (n + 1) at es a.1 a.3 in
    subst (FineList procs p []) a.4 (record { labels = r.labels; shaped = r.shaped })

-- a call whose callee and arguments are known
callee_fine : (procs : List TypedProcedure) (p : NamingPlace) → AreCallees procs p.procs → (at : Span) (f : Name) (cs : List Column) (k : ℕ) (ts : List TypedExpression) →
    procedure_number p f ≡ Some k → are_arguments (map (variable_info true) (params_named p f)) ts ≡ true → FineList procs p [] (typed.Call at cs k ts ∷ [])
callee_fine procs p callees at f cs k ts is simple =
    let same : params_named p f ≡ params_if_any (slice_get p.procs k) = ap (λ (o : Option ℕ). params_if_any (option_and_then (slice_get p.procs) o)) is in
    let callee : are_arguments (shape.params_if_any (slice_get procs k)) ts ≡ true =
    ap (λ (vs : List VarInfo). are_arguments vs ts) (callees k ∙ sym (ap (λ (vs : List Vary). map (variable_info true) vs) same)) ∙ simple in
    record { labels = refl; shaped = and_from (is_shaped procs (typed.Call at cs k ts)) true callee refl }

-- a call behind what is put aside for it
behind_aside : (procs : List TypedProcedure) (p : NamingPlace) (before : List TypedStatement) (call : TypedStatement) → FineList procs p [] before → FineList procs p [] (call ∷ []) →
    FineList procs p [] (before ++ (call ∷ []))
behind_aside procs p before call f g =
    record {
      labels = each_append (label_number p) [] [] (list_labels before) (list_labels (call ∷ [])) f.labels g.labels ∙ ap (λ (ns : List ℕ). Some ns) (sym (labels_append before (call ∷ [])));
      shaped = all_append (is_shaped procs) before (call ∷ []) f.shaped g.shaped;
    }

made_fine : (procs : List TypedProcedure) (p : NamingPlace) → AreCallees procs p.procs → (n : ℕ) (at : Span) (f : Name) (es : List tree.Expression) (cs : Option (List Column)) (call : TypedStatement) →
    option_and_then (λ xs. from_both (typed.Call at xs) (procedure_number p f) (named_arguments p n (params_named p f) es)) cs ≡ Some call → FineList procs p [] (call ∷ [])
made_fine procs p callees n at f es cs call e =
    let b = option_and_then_some (λ xs. from_both (typed.Call at xs) (procedure_number p f) (named_arguments p n (params_named p f) es)) cs call e in
    two_of procs p [] (typed.Call at b.0) (procedure_number p f) (named_arguments p n (params_named p f) es) call
    (λ k ts is args. callee_fine procs p callees at f b.0 k ts is (arguments_shaped p n (params_named p f) es ts args)) b.2

call_fine : (procs : List TypedProcedure) (p : NamingPlace) → AreCallees procs p.procs → (n : ℕ) (at : Span) (xs : List Name) (f : Name) (es : List tree.Expression) (ts : List TypedStatement) →
    named_call p n at xs f es ≡ Some ts → FineList procs p [] ts
call_fine procs p callees n at xs f es ts e =
    let hidden = hidden_arguments (params_named p f) es in
    let a = both_some (λ (before : List TypedStatement) (call : TypedStatement). before ++ (call ∷ [])) (put_aside p n at hidden) (made (targets_of p.scope xs)) ts e in
    subst (FineList procs p []) a.4
    (behind_aside procs p a.0 a.1 (aside_fine procs p n at hidden a.0 a.2) (made_fine procs p callees n at f es (targets_of p.scope xs) a.1 a.3))
  where
    made : Option (List Column) → Option TypedStatement
    made cs = option_and_then (λ ys. from_both (typed.Call at ys) (procedure_number p f) (named_arguments p n (params_named p f) es)) cs

-- ---- statements with lists inside

if_fine : (procs : List TypedProcedure) (p : NamingPlace) (at : Span) (xs ys : List Name) (g : Option TypedGuard) (a b : Option TypedBlock) (ts : List TypedStatement) →
    ((c : TypedBlock) → a ≡ Some c → FineBlock procs p xs c) → ((c : TypedBlock) → b ≡ Some c → FineBlock procs p ys c) →
    alone (option_and_then (λ guard. from_both (typed.If at guard) a b) g) ≡ Some ts → FineList procs p (xs ++ ys) ts
if_fine procs p at xs ys g a b ts h k e =
    one procs p (xs ++ ys) (option_and_then (λ guard. from_both (typed.If at guard) a b) g) ts
    (λ t f.
    let c = option_and_then_some (λ guard. from_both (typed.If at guard) a b) g t f in
    two_of procs p (xs ++ ys) (typed.If at c.0) a b t (λ l r u v.
    let left = h l u in
    let right = k r v in record {
      labels = each_append (label_number p) xs ys (block_labels l) (block_labels r) left.labels right.labels ∙ ap (λ (ns : List ℕ). Some ns) (sym (append-nil (block_labels l ++ block_labels r)));
      shaped = and_from (is_shaped_block procs l && is_shaped_block procs r) true (and_from (is_shaped_block procs l) (is_shaped_block procs r) left.shaped right.shaped) refl;
    }) c.2)
    e

while_fine : (procs : List TypedProcedure) (p : NamingPlace) (at : Span) (xs : List Name) (g : Option TypedGuard) (is : Option (List TypedInvariant)) (b : Option TypedBlock) (ts : List TypedStatement) →
    ((c : TypedBlock) → b ≡ Some c → FineBlock procs p xs c) →
    alone (option_and_then (λ guard. from_both (typed.While at guard) is b) g) ≡ Some ts → FineList procs p xs ts
while_fine procs p at xs g is b ts h e =
    one procs p xs (option_and_then (λ guard. from_both (typed.While at guard) is b) g) ts
    (λ t f.
    let c = option_and_then_some (λ guard. from_both (typed.While at guard) is b) g t f in
    two_of procs p xs (typed.While at c.0) is b t (λ l r u v.
    let inner = h r v in record {
      labels = inner.labels ∙ ap (λ (ns : List ℕ). Some ns) (sym (append-nil (block_labels r)));
      shaped = and_from (is_shaped_block procs r) true inner.shaped refl;
    }) c.2)
    e

-- a loop changes nothing but which breaks it takes
looped : (procs : List TypedProcedure) (p : NamingPlace) (before : Option (List ℕ)) (xs : List Name) (b : TypedBlock) → FineBlock procs (in_loop p before) xs b → FineBlock procs p xs b
looped procs p before xs b f = record { labels = f.labels; shaped = f.shaped }

label_fine : (procs : List TypedProcedure) (p : NamingPlace) (x : Name) (ts : List TypedStatement) → alone (option_map typed.Label (label_number p x)) ≡ Some ts → FineList procs p (x ∷ []) ts
label_fine procs p x ts e =
    one_of procs p (x ∷ []) typed.Label (label_number p x) ts
    (λ n f. record { labels = each_cons (label_number p) x [] n [] f refl; shaped = refl }) e

empty_fine : (procs : List TypedProcedure) (p : NamingPlace) (c : TypedBlock) → Some typed.Empty ≡ Some c → FineBlock procs p [] c
empty_fine procs p c e = let f : typed.Empty ≡ c = cc in subst (FineBlock procs p []) f (record { labels = refl; shaped = refl })

return_fine : (procs : List TypedProcedure) (p : NamingPlace) (at : Span) (ts : List TypedStatement) → Some (typed.Return at ∷ []) ≡ Some ts → FineList procs p [] ts
return_fine procs p at ts e = let f : typed.Return at ∷ [] ≡ ts = cc in subst (FineList procs p []) f (record { labels = refl; shaped = refl })

assign_fine : (procs : List TypedProcedure) (p : NamingPlace) (at : Span) (cs : Option (List Column)) (es : Option (List TypedExpression)) (ts : List TypedStatement) →
    alone (from_both (typed.Assign at) cs es) ≡ Some ts → FineList procs p [] ts
assign_fine procs p at cs es ts e =
    one procs p [] (from_both (typed.Assign at) cs es) ts
    (λ t f. two_of procs p [] (typed.Assign at) cs es t (λ a b u v. record { labels = refl; shaped = refl }) f) e

then_fine : (procs : List TypedProcedure) (p : NamingPlace) (xs ys : List Name) (s : Option (List TypedStatement)) (b : Option TypedBlock) (c : TypedBlock) →
    ((ts : List TypedStatement) → s ≡ Some ts → FineList procs p xs ts) → ((d : TypedBlock) → b ≡ Some d → FineBlock procs p ys d) →
    from_both in_front s b ≡ Some c → FineBlock procs p (xs ++ ys) c
then_fine procs p xs ys s b c h k e =
    let a = both_some in_front s b c e in
    in_row procs p xs ys a.0 a.1 c (h a.0 a.2) (k a.1 a.3) a.4

mutual
  pub statement_fine : (procs : List TypedProcedure) (p : NamingPlace) → AreCallees procs p.procs → (before : Option (List ℕ)) (n : ℕ) (s : tree.Statement) (ts : List TypedStatement) →
      named_statement p before n s ≡ Some ts → FineList procs p (labels_in s) ts
  statement_fine procs p callees before n (tree.Assert at e) ts is =
      one_of procs p [] (typed.Assert at) (named p.scope e) ts (λ x f. record { labels = refl; shaped = refl }) is
  statement_fine procs p callees before n (tree.Assume at e) ts is =
      one_of procs p [] (typed.Assume at) (named p.scope e) ts (λ x f. record { labels = refl; shaped = refl }) is
  statement_fine procs p callees before n (tree.Havoc at xs) ts is =
      one_of procs p [] (typed.Havoc at) (targets_of p.scope xs) ts (λ x f. record { labels = refl; shaped = refl }) is
  statement_fine procs p callees before n (tree.Assign at xs es) ts is = assign_fine procs p at (targets_of p.scope xs) (each (named p.scope) es) ts is
  statement_fine procs p callees before n (tree.Call at xs f es) ts is = call_fine procs p callees n at xs f es ts is
  statement_fine procs p callees before n (tree.If at g a b) ts is =
      if_fine procs p at (sorted.block_labels a) (sorted.block_labels b) (named_guard p.scope g) (named_block p None n a) (named_block p None (n + hidden_in_block p a) b) ts
      (block_fine procs p callees None n a) (block_fine procs p callees None (n + hidden_in_block p a) b) is
  statement_fine procs p callees before n (tree.While at g is b) ts e =
      while_fine procs p at (sorted.block_labels b) (named_guard p.scope g) (each (named_invariant p.scope) is) (named_block (in_loop p before) None n b) ts
      (λ c f. looped procs p before (sorted.block_labels b) c (block_fine procs (in_loop p before) callees None n b c f)) e
  statement_fine procs p callees before n (tree.Break at x) ts is =
      one_of procs p [] (typed.Break at) (levels p x) ts (λ x f. record { labels = refl; shaped = refl }) is
  statement_fine procs p callees before n (tree.Goto at xs) ts is =
      one_of procs p [] (typed.Goto at) (each (label_number p) xs) ts (λ x f. record { labels = refl; shaped = refl }) is
  statement_fine procs p callees before n (tree.Return at) ts is = return_fine procs p at ts is
  statement_fine procs p callees before n (tree.Label x) ts is = label_fine procs p x ts is

  pub block_fine : (procs : List TypedProcedure) (p : NamingPlace) → AreCallees procs p.procs → (before : Option (List ℕ)) (n : ℕ) (b : tree.Block) (c : TypedBlock) →
      named_block p before n b ≡ Some c → FineBlock procs p (sorted.block_labels b) c
  block_fine procs p callees before n tree.Empty c is = empty_fine procs p c is
  block_fine procs p callees before n (tree.Then s b) c is =
      then_fine procs p (labels_in s) (sorted.block_labels b) (named_statement p before n s) (named_block p (label_of s) (n + hidden_in p s) b) c
      (statement_fine procs p callees before n s) (block_fine procs p callees (label_of s) (n + hidden_in p s) b) is

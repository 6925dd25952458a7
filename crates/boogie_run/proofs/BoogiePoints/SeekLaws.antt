-- A search for a label in a statement, from the searches in its parts.
use Rattle.std.proofs.Common.{◌≡◌, ℕ, ◌+◌, Bool, true, false, List, ◌∷◌, length, map, refl, ap, sym, ◌∙◌, subst, rules, Option, None, Some, Result, Vec, Global}
use Rattle.std.specs.Prelude.{IfOk}
use Rattle.std.specs.Option.{option_or}
use Rattle.boogie_tree.specs.declared.span.Span.{Span}
use Rattle.boogie_tree.specs.declared.tree.Column.{Column}
use Rattle.typed_tree.specs.declared.types.TGuard.{TGuard}
use Rattle.typed_tree.specs.declared.types.TInv.{TInv}
use Rattle.typed_tree.specs.declared.types.TStmt.{TStmt, the_lemmas}
use Rattle.typed_tree.specs.declared.types.TStmt.TheVariants as code
use Rattle.typed_tree.specs.TypedTree.{TypedGuard, TypedInvariant, TypedStatement, Havoc, If, While, TypedBlock, Then, TypedProcedure}
use Rattle.typed_tree.specs.TypedView as view
use Rattle.typed_tree.specs.TypingRules.Counts.{block_assertions, block_points, plain_invariants}
use Rattle.boogie_run.specs.BoogiePoints.Points.{Todo, past, found_in, found_block}
use Rattle.boogie_run.specs.BoogiePoints.Ties.Seeking.{IsFound}

pub if_seen : (s : Span) (g : TGuard) (a b : Vec TStmt Global) → view.statement (code.If s g a b) ≡ If s (view.guard g) (view.statements a.items) (view.statements b.items)
if_seen s g a b = search (rules, the_lemmas)

pub while_seen : (s : Span) (g : TGuard) (is : Vec TInv Global) (b : Vec TStmt Global) → view.statement (code.While s g is b) ≡ While s (view.guard g) (map view.invariant is.items) (view.statements b.items)
while_seen s g is b = search (rules, the_lemmas)

none_found : (o : Option (List Todo)) (b : Bool) (u mid : List Todo) → b ≡ false → IsFound b o u mid → (o ≡ None) × (mid ≡ u)
none_found (Some ts) true u mid e h = cc
none_found None true u mid e h = absurd h
none_found (Some ts) false u mid e h = absurd h
none_found None false u mid e h = (refl, h)

-- a label that is not in the first branch is looked for in the second
pub else_found : {E : Type 0} (r : Result Bool E) (procs : List TypedProcedure) (k : ℕ) (s : TypedStatement) (b : TypedBlock) (l : Bool) (id at : ℕ) (u mid new : List Todo)
    (p : Span) (g : TypedGuard) (x y : TypedBlock) (first second : Option (List Todo)) (f : Bool) →
    s ≡ If p g x y → first ≡ found_block procs k x false id (at + 1) (past procs s b l id at ∷ u) → f ≡ false → IsFound f first u mid →
    second ≡ found_block procs k y false (id + block_assertions procs x) (at + 1 + block_points procs x) (past procs s b l id at ∷ mid) →
    IfOk r (λ c. IsFound c second mid new) → IfOk r (λ c. IsFound c (found_in procs k s b l id at u) u new)
else_found r procs k s b l id at u mid new p g x y first second f e d n h j w =
    let none = none_found first f u mid n h in
    let whole : found_in procs k s b l id at u ≡ second =
    ap (λ (q : TypedStatement). found_in procs k q b l id at u) e
    ∙ ap (λ (q : TypedStatement). option_or (found_block procs k x false id (at + 1) (past procs q b l id at ∷ u))
    (found_block procs k y false (id + block_assertions procs x) (at + 1 + block_points procs x) (past procs q b l id at ∷ u))) (sym e)
    ∙ ap (λ (o : Option (List Todo)). option_or o (found_block procs k y false (id + block_assertions procs x) (at + 1 + block_points procs x) (past procs s b l id at ∷ u))) (sym d ∙ none.0)
    ∙ ap (λ (v : List Todo). found_block procs k y false (id + block_assertions procs x) (at + 1 + block_points procs x) (past procs s b l id at ∷ v)) (sym none.1) ∙ sym j in
    subst (λ (o : Option (List Todo)). IfOk r (λ c. IsFound c o u new)) (sym whole) (subst (λ (v : List Todo). IfOk r (λ c. IsFound c second v new)) none.1 w)

pub while_found : {E : Type 0} (r : Result Bool E) (procs : List TypedProcedure) (k : ℕ) (s : TypedStatement) (b : TypedBlock) (l : Bool) (id at : ℕ) (u new : List Todo)
    (p : Span) (g : TypedGuard) (is : List TypedInvariant) (x : TypedBlock) (o : Option (List Todo)) →
    s ≡ While p g is x → o ≡ found_block procs k x true (id + plain_invariants is) (at + length is + 1) (record { rest = Then s b; of_loop = l; id = id; at = at } ∷ u) →
    IfOk r (λ c. IsFound c o u new) → IfOk r (λ c. IsFound c (found_in procs k s b l id at u) u new)
while_found r procs k s b l id at u new p g is x o e d w =
    let whole : found_in procs k s b l id at u ≡ o =
    ap (λ (q : TypedStatement). found_in procs k q b l id at u) e
    ∙ ap (λ (q : TypedStatement). found_block procs k x true (id + plain_invariants is) (at + length is + 1) (record { rest = Then q b; of_loop = l; id = id; at = at } ∷ u)) (sym e) ∙ sym d in
    subst (λ (v : Option (List Todo)). IfOk r (λ c. IsFound c v u new)) (sym whole) w

pub same_search : (procs : List TypedProcedure) (k : ℕ) (b c : TypedBlock) (l m : Bool) (i j a d : ℕ) (t v : Todo) (u : List Todo) →
    b ≡ c → l ≡ m → i ≡ j → a ≡ d → t ≡ v → found_block procs k b l i a (t ∷ u) ≡ found_block procs k c m j d (v ∷ u)
same_search procs k b c l m i j a d t v u p q r s w =
    ap (λ (x : TypedBlock). found_block procs k x l i a (t ∷ u)) p ∙ ap (λ (x : Bool). found_block procs k c x i a (t ∷ u)) q
    ∙ ap (λ (x : ℕ). found_block procs k c m x a (t ∷ u)) r ∙ ap (λ (x : ℕ). found_block procs k c m j x (t ∷ u)) s
    ∙ ap (λ (x : Todo). found_block procs k c m j d (x ∷ u)) w

pub havoc_seen : (s : Span) (xs : Vec Column Global) → view.statement (code.Havoc s xs) ≡ Havoc s xs.items
havoc_seen s xs = search (rules, the_lemmas)

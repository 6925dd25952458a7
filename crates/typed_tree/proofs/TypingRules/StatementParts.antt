-- Statements and lists of them, from their parts.
use Rattle.std.proofs.Common.{◌≡◌, ◌==◌, ℕ, ◌+◌, ◌<◌, ◌≤◌, Bool, true, false, ◌&&◌, List, [], ◌∷◌, length, drop, get_or, map, nat_lt, refl, ap, sym, ◌∙◌, subst, arith, inl, inr, rules, Result, Ok, Err, Vec, Global}
use Rattle.std.specs.List.{list_all}
use Rattle.std.proofs.lemmas.List.{drop_more}
use Rattle.std.proofs.lemmas.Bool.Decides.{nat_tests}
use Rattle.boogie_tree.specs.declared.span.Span.{Span}
use Rattle.boogie_tree.specs.declared.tree.Column.{Column}
use Rattle.typed_tree.specs.declared.fault.TypeFault.{TypeFault}
use Rattle.typed_tree.specs.declared.fault.TypeFault.TheVariants as fault
use Rattle.typed_tree.specs.declared.types.TExpr.{TExpr}
use Rattle.typed_tree.specs.declared.types.TGuard.{TGuard}
use Rattle.typed_tree.specs.declared.types.TInv.{TInv}
use Rattle.typed_tree.specs.declared.types.TStmt.{TStmt, the_lemmas}
use Rattle.typed_tree.specs.declared.types.TStmt.TheVariants as code
use Rattle.typed_tree.specs.TypedTree.{TypedExpression, TypedGuard, TypedInvariant, TypedStatement, Assert, Assume, Havoc, Assign, If, While, Break, Goto, TypedBlock}
use Rattle.typed_tree.specs.TypedView as view
use Rattle.typed_tree.specs.declared.typing_rules.frame.Frame.{Frame}
use Rattle.typed_tree.specs.TypingRules.Rules.{Context, is_condition, is_guard, is_invariant, are_targets, values_agree, is_member, is_statement, is_block, within, looped}
use Rattle.typed_tree.specs.TypingRules.BrokenTyping.{IsConditionBroken, IsGuardBroken, AreTargetsBroken, IsStatementBroken, asserted, assumed, nothing_chosen, chosen, nothing_assigned, assigned, branched, in_then, in_else, looping, in_invariant, in_loop, no_loop, nowhere, unreachable, IsBlockBroken, first, later}
use Rattle.typed_tree.specs.TypingRules.Ties.Judged.{IsFaultOf, Judges, JudgesIn, one, IsLoopHeadBroken, context, is_head}

-- ---- empty lists

pub nothing_chosen_fault : (k : Context) (at : Span) (cs : List Column) (b : Bool) → b ≡ (length cs == 0) → b ≡ true →
    IsFaultOf (IsStatementBroken k (Havoc at cs)) (fault.Mismatch at)
nothing_chosen_fault k at [] b e t = inr (nothing_chosen k at)
nothing_chosen_fault k at (c ∷ cs) b e t = absurd (grind arith)

pub nothing_assigned_fault : (k : Context) (at : Span) (cs : List Column) (es : List TypedExpression) (b : Bool) → b ≡ (length cs == 0) → b ≡ true →
    IsFaultOf (IsStatementBroken k (Assign at cs es)) (fault.Mismatch at)
nothing_assigned_fault k at [] es b e t = inr (nothing_assigned k at es)
nothing_assigned_fault k at (c ∷ cs) es b e t = absurd (grind arith)

pub nowhere_fault : (k : Context) (at : Span) (ns : List ℕ) (b : Bool) → b ≡ (length ns == 0) → b ≡ true →
    IsFaultOf (IsStatementBroken k (Goto at ns)) (fault.BadGoto at)
nowhere_fault k at [] b e t = inr (nowhere k at)
nowhere_fault k at (n ∷ ns) b e t = absurd (grind arith)

pub havoc_judged : {T : Type 0} (r : Result T TypeFault) (k : Context) (at : Span) (cs : List Column) (b : Bool) → b ≡ (length cs == 0) → b ≡ false →
    Judges r (are_targets k cs) (AreTargetsBroken k at cs) → Judges r (is_statement k (Havoc at cs)) (IsStatementBroken k (Havoc at cs))
havoc_judged (Ok x) k at [] b e t h = absurd (grind arith)
havoc_judged (Ok x) k at (c ∷ cs) b e t h = h
havoc_judged (Err f) k at cs b e t (inl m) = inl m
havoc_judged (Err f) k at cs b e t (inr p) = inr (chosen k at cs f p)

pub assign_target_fault : (k : Context) (at : Span) (cs : List Column) (es : List TypedExpression) (f : TypeFault) → IsFaultOf (AreTargetsBroken k at cs) f →
    IsFaultOf (IsStatementBroken k (Assign at cs es)) f
assign_target_fault k at cs es f (inl m) = inl m
assign_target_fault k at cs es f (inr p) = inr (assigned k at cs es f p)

pub assign_judged : {T : Type 0} (r : Result T TypeFault) (k : Context) (at : Span) (cs : List Column) (es : List TypedExpression) (b : Bool) →
    b ≡ (length cs == 0) → b ≡ false → are_targets k cs ≡ true →
    Judges r (values_agree k.scope cs es) (IsStatementBroken k (Assign at cs es)) → Judges r (is_statement k (Assign at cs es)) (IsStatementBroken k (Assign at cs es))
assign_judged (Ok x) k at [] es b e t w h = absurd (grind arith)
assign_judged (Ok x) k at (c ∷ cs) es b e t w h = rw w h
assign_judged (Err f) k at cs es b e t w h = h

pub goto_kept : (k : Context) (at : Span) (ns : List ℕ) (b : Bool) → b ≡ (length ns == 0) → b ≡ false →
    list_all (λ n. is_member n k.labels) ns ≡ true → is_statement k (Goto at ns) ≡ true
goto_kept k at [] b e t h = absurd (grind arith)
goto_kept k at (n ∷ ns) b e t h = h

pub unreachable_fault : (k : Context) (at : Span) (ns : List ℕ) → list_all (λ n. is_member n k.labels) ns ≡ false →
    IsFaultOf (IsStatementBroken k (Goto at ns)) (fault.BadGoto at)
unreachable_fault k at ns h = inr (unreachable k at ns h)

pub no_loop_fault : (k : Context) (at : Span) (n : ℕ) → k.loops ≤ n → IsFaultOf (IsStatementBroken k (Break at n)) (fault.BadGoto at)
no_loop_fault k at n h = inr (no_loop k at n (not_below n k.loops h))
  where
    not_below : (m l : ℕ) → l ≤ m → nat_lt m l ≡ false
    not_below m l g = grind (arith, nat_tests)

-- ---- statements as contracts see them

pub assert_seen : (s : Span) (e : TExpr) → view.statement (code.Assert s e) ≡ Assert s (view.expression e)
assert_seen s e = search (rules, the_lemmas)

pub assume_seen : (s : Span) (e : TExpr) → view.statement (code.Assume s e) ≡ Assume s (view.expression e)
assume_seen s e = search (rules, the_lemmas)

pub if_seen : (s : Span) (g : TGuard) (a b : Vec TStmt Global) → view.statement (code.If s g a b) ≡ If s (view.guard g) (view.statements a.items) (view.statements b.items)
if_seen s g a b = search (rules, the_lemmas)

pub while_seen : (s : Span) (g : TGuard) (is : Vec TInv Global) (b : Vec TStmt Global) → view.statement (code.While s g is b) ≡ While s (view.guard g) (map view.invariant is.items) (view.statements b.items)
while_seen s g is b = search (rules, the_lemmas)

-- ---- heads

pub assert_judged : {T : Type 0} (r : Result T TypeFault) (k : Context) (s : TypedStatement) (at : Span) (e : TypedExpression) → s ≡ Assert at e →
    Judges r (is_condition k.scope e) (IsConditionBroken k.scope e) → Judges r (is_head k s) (IsStatementBroken k s)
assert_judged r k s at e i h = subst (λ (x : TypedStatement). Judges r (is_head k x) (IsStatementBroken k x)) (sym i) (go r h)
  where
    go : {T : Type 0} (r : Result T TypeFault) → Judges r (is_condition k.scope e) (IsConditionBroken k.scope e) →
        Judges r (is_head k (Assert at e)) (IsStatementBroken k (Assert at e))
    go (Ok x) h = h
    go (Err f) (inl m) = inl m
    go (Err f) (inr p) = inr (asserted k at e f p)

pub assume_judged : {T : Type 0} (r : Result T TypeFault) (k : Context) (s : TypedStatement) (at : Span) (e : TypedExpression) → s ≡ Assume at e →
    Judges r (is_condition k.scope e) (IsConditionBroken k.scope e) → Judges r (is_head k s) (IsStatementBroken k s)
assume_judged r k s at e i h = subst (λ (x : TypedStatement). Judges r (is_head k x) (IsStatementBroken k x)) (sym i) (go r h)
  where
    go : {T : Type 0} (r : Result T TypeFault) → Judges r (is_condition k.scope e) (IsConditionBroken k.scope e) →
        Judges r (is_head k (Assume at e)) (IsStatementBroken k (Assume at e))
    go (Ok x) h = h
    go (Err f) (inl m) = inl m
    go (Err f) (inr p) = inr (assumed k at e f p)

pub branch_judged : {T : Type 0} (r : Result T TypeFault) (k : Context) (s : TypedStatement) (at : Span) (g : TypedGuard) (a b : TypedBlock) → s ≡ If at g a b →
    Judges r (is_guard k.scope g) (IsGuardBroken k.scope g) → Judges r (is_head k s) (IsStatementBroken k s)
branch_judged r k s at g a b i h = subst (λ (x : TypedStatement). Judges r (is_head k x) (IsStatementBroken k x)) (sym i) (go r h)
  where
    go : {T : Type 0} (r : Result T TypeFault) → Judges r (is_guard k.scope g) (IsGuardBroken k.scope g) →
        Judges r (is_head k (If at g a b)) (IsStatementBroken k (If at g a b))
    go (Ok x) h = h
    go (Err f) (inl m) = inl m
    go (Err f) (inr p) = inr (branched k at g a b f p)

pub loop_judged : {T : Type 0} (r : Result T TypeFault) (k : Context) (s : TypedStatement) (at : Span) (g : TypedGuard) (is seen_is : List TypedInvariant) (b : TypedBlock) →
    s ≡ While at g is b → seen_is ≡ is →
    Judges r (is_guard k.scope g && list_all (is_invariant k.scope) seen_is) (IsLoopHeadBroken k.scope g seen_is) → Judges r (is_head k s) (IsStatementBroken k s)
loop_judged r k s at g is seen_is b i j h =
    subst (λ (x : TypedStatement). Judges r (is_head k x) (IsStatementBroken k x)) (sym i)
    (go r (subst (λ (x : List TypedInvariant). Judges r (is_guard k.scope g && list_all (is_invariant k.scope) x) (IsLoopHeadBroken k.scope g x)) j h))
  where
    go : {T : Type 0} (r : Result T TypeFault) → Judges r (is_guard k.scope g && list_all (is_invariant k.scope) is) (IsLoopHeadBroken k.scope g is) →
        Judges r (is_head k (While at g is b)) (IsStatementBroken k (While at g is b))
    go (Ok x) h = h
    go (Err f) (inl m) = inl m
    go (Err f) (inr (inl p)) = inr (looping k at g is b f p)
    go (Err f) (inr (inr (one v e m p))) = inr (in_invariant k at g is b v e m p)

-- ---- lists inside

pub then_fault : (k : Context) (s : TypedStatement) (at : Span) (g : TypedGuard) (a seen_a b : TypedBlock) (f : TypeFault) → s ≡ If at g a b → seen_a ≡ a →
    IsFaultOf (IsBlockBroken (within k seen_a) seen_a) f → IsFaultOf (IsStatementBroken k s) f
then_fault k s at g a seen_a b f i j h =
    subst (λ (x : TypedStatement). IsFaultOf (IsStatementBroken k x) f) (sym i)
    (go (subst (λ (x : TypedBlock). IsFaultOf (IsBlockBroken (within k x) x) f) j h))
  where
    go : IsFaultOf (IsBlockBroken (within k a) a) f → IsFaultOf (IsStatementBroken k (If at g a b)) f
    go (inl m) = inl m
    go (inr p) = inr (in_then k at g a b f p)

pub if_judged : {T : Type 0} (k inner out : Frame) (r : Result T TypeFault) (s : TypedStatement) (at : Span) (g : TypedGuard) (a seen_a b seen_b : TypedBlock) →
    s ≡ If at g a b → seen_a ≡ a → seen_b ≡ b → is_head (context k) s ≡ true →
    inner ≡ k → is_block (within (context k) seen_a) seen_a ≡ true →
    JudgesIn inner out r (is_block (within (context inner) seen_b) seen_b) (IsBlockBroken (within (context inner) seen_b) seen_b) →
    JudgesIn k out r (is_statement (context k) s) (IsStatementBroken (context k) s)
if_judged k inner out r s at g a seen_a b seen_b i ja jb head e kept h =
    subst (λ (x : TypedStatement). JudgesIn k out r (is_statement (context k) x) (IsStatementBroken (context k) x)) (sym i)
    (go r (subst (λ (x : TypedStatement). is_head (context k) x ≡ true) i head)
    (subst (λ (x : TypedBlock). is_block (within (context k) x) x ≡ true) ja kept)
    (subst (λ (x : TypedBlock). JudgesIn k out r (is_block (within (context k) x) x) (IsBlockBroken (within (context k) x) x)) jb
    (subst (λ (x : Frame). JudgesIn x out r (is_block (within (context x) seen_b) seen_b) (IsBlockBroken (within (context x) seen_b) seen_b)) e h)))
  where
    go : {U : Type 0} (r : Result U TypeFault) → is_guard (context k).scope g ≡ true → is_block (within (context k) a) a ≡ true →
        JudgesIn k out r (is_block (within (context k) b) b) (IsBlockBroken (within (context k) b) b) →
        JudgesIn k out r (is_statement (context k) (If at g a b)) (IsStatementBroken (context k) (If at g a b))
    go (Ok x) u v w = (w.0, rw (u, v) w.1)
    go (Err f) u v (inl m) = inl m
    go (Err f) u v (inr p) = inr (in_else (context k) at g a b f p)

pub while_judged : {T : Type 0} (k out : Frame) (r : Result T TypeFault) (s : TypedStatement) (at : Span) (g : TypedGuard) (is : List TypedInvariant) (b seen_b : TypedBlock) →
    s ≡ While at g is b → seen_b ≡ b → is_head (context k) s ≡ true →
    JudgesIn k out r (is_block (within (looped (context k)) seen_b) seen_b) (IsBlockBroken (within (looped (context k)) seen_b) seen_b) →
    JudgesIn k out r (is_statement (context k) s) (IsStatementBroken (context k) s)
while_judged k out r s at g is b seen_b i j head h =
    subst (λ (x : TypedStatement). JudgesIn k out r (is_statement (context k) x) (IsStatementBroken (context k) x)) (sym i)
    (go r (is_guard (context k).scope g) (list_all (is_invariant (context k).scope) is) refl refl (subst (λ (x : TypedStatement). is_head (context k) x ≡ true) i head)
    (subst (λ (x : TypedBlock). JudgesIn k out r (is_block (within (looped (context k)) x) x) (IsBlockBroken (within (looped (context k)) x) x)) j h))
  where
    go : {U : Type 0} (r : Result U TypeFault) (u v : Bool) → is_guard (context k).scope g ≡ u → list_all (is_invariant (context k).scope) is ≡ v → (u && v) ≡ true →
        JudgesIn k out r (is_block (within (looped (context k)) b) b) (IsBlockBroken (within (looped (context k)) b) b) →
        JudgesIn k out r (is_statement (context k) (While at g is b)) (IsStatementBroken (context k) (While at g is b))
    go (Ok x) true true y z t w = (w.0, rw (y, z) w.1)
    go (Ok x) true false y z t w = absurd (grind arith)
    go (Ok x) false v y z t w = absurd (grind arith)
    go (Err f) u v y z t (inl m) = inl m
    go (Err f) u v y z t (inr p) = inr (in_loop (context k) at g is b f p)

-- ---- one statement after the other

front_of : (xs : List TStmt) (i : ℕ) (x : TStmt) → i < length xs → x ≡ get_or xs i x → drop i xs ≡ x ∷ drop (i + 1) xs
front_of xs i x l e = drop_more xs i x l ∙ ap (λ y. y ∷ drop (i + 1) xs) (sym e)

pub each_fault : (k j : Frame) (listed : List TStmt) (i : ℕ) (x : TStmt) (f : TypeFault) → j ≡ k → i < length listed → x ≡ get_or listed i x →
    ((g : TypeFault) → IsBlockBroken (context k) (view.statements (drop i listed)) g → IsBlockBroken (context k) (view.statements listed) g) →
    IsFaultOf (IsStatementBroken (context j) (view.statement x)) f → IsFaultOf (IsBlockBroken (context k) (view.statements listed)) f
each_fault k j listed i x f e l m out h = go (subst (λ (y : Frame). IsFaultOf (IsStatementBroken (context y) (view.statement x)) f) e h)
  where
    go : IsFaultOf (IsStatementBroken (context k) (view.statement x)) f → IsFaultOf (IsBlockBroken (context k) (view.statements listed)) f
    go (inl n) = inl n
    go (inr p) =
        inr (out f (subst (λ (ys : List TStmt). IsBlockBroken (context k) (view.statements ys) f) (sym (front_of listed i x l m))
        (first (context k) (view.statement x) (view.statements (drop (i + 1) listed)) f p)))

pub each_step : (k j : Frame) (listed : List TStmt) (i : ℕ) (x : TStmt) (b : Bool) → j ≡ k → i < length listed → x ≡ get_or listed i x →
    is_block (context k) (view.statements (drop i listed)) ≡ b → is_statement (context j) (view.statement x) ≡ true →
    is_block (context k) (view.statements (drop (i + 1) listed)) ≡ b
each_step k j listed i x b e l m h s =
    let t : is_statement (context k) (view.statement x) ≡ true = subst (λ (y : Frame). is_statement (context y) (view.statement x) ≡ true) e s in
    sym (ap (λ (u : Bool). u && is_block (context k) (view.statements (drop (i + 1) listed))) t)
    ∙ sym (ap (λ (ys : List TStmt). is_block (context k) (view.statements ys)) (front_of listed i x l m)) ∙ h

pub each_out : (k : Frame) (listed : List TStmt) (i : ℕ) (x : TStmt) → i < length listed → x ≡ get_or listed i x →
    ((g : TypeFault) → IsBlockBroken (context k) (view.statements (drop i listed)) g → IsBlockBroken (context k) (view.statements listed) g) →
    (g : TypeFault) → IsBlockBroken (context k) (view.statements (drop (i + 1) listed)) g → IsBlockBroken (context k) (view.statements listed) g
each_out k listed i x l m out g p =
    out g (subst (λ (ys : List TStmt). IsBlockBroken (context k) (view.statements ys) g) (sym (front_of listed i x l m))
    (later (context k) (view.statement x) (view.statements (drop (i + 1) listed)) g p))

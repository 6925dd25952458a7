-- Labels take no step and have no numbers.
use Rattle.std.proofs.Common.{◌≡◌, ℕ, ◌+◌, ◌<◌, Bool, true, List, [], ◌∷◌, length, refl, ap, sym, ◌∙◌, arith}
use Rattle.typed_tree.specs.declared.types.TStmt.{TStmt}
use Rattle.typed_tree.specs.TypedView.{statement, statements}
use Rattle.typed_tree.specs.TypedTree.{TypedStatement, Assert, Assume, Havoc, Assign, Call, If, While, Break, Goto, Return, Label, TypedBlock, Then, TypedProcedure}
use Rattle.typed_tree.specs.TypingRules.Counts.{assertions, points, block_assertions, block_points}
use Rattle.boogie_run.specs.BoogiePoints.Points.{Todo, Point, unless_ended, settled}
use Rattle.boogie_run.specs.BoogiePoints.Stacks.{with_top, is_label, standing, standing_in}

pub label_skipped : (s : TypedStatement) (b : TypedBlock) (l : Bool) (id at : ℕ) (u : List Todo) (a : Point) → is_label s ≡ true →
    unless_ended (Then s b) l id at u a ≡ unless_ended b l id at u a
label_skipped (Label n) b l id at u a e = refl
label_skipped (Assert s x) b l id at u a e = cc
label_skipped (Assume s x) b l id at u a e = cc
label_skipped (Havoc s cs) b l id at u a e = cc
label_skipped (Assign s cs es) b l id at u a e = cc
label_skipped (Call s cs f es) b l id at u a e = cc
label_skipped (If s g x y) b l id at u a e = cc
label_skipped (While s g is x) b l id at u a e = cc
label_skipped (Break s n) b l id at u a e = cc
label_skipped (Goto s ks) b l id at u a e = cc
label_skipped (Return s) b l id at u a e = cc

pub label_assertions : (procs : List TypedProcedure) (s : TypedStatement) → is_label s ≡ true → assertions procs s ≡ 0
label_assertions procs (Label n) e = refl
label_assertions procs (Assert s x) e = cc
label_assertions procs (Assume s x) e = cc
label_assertions procs (Havoc s cs) e = cc
label_assertions procs (Assign s cs es) e = cc
label_assertions procs (Call s cs f es) e = cc
label_assertions procs (If s g x y) e = cc
label_assertions procs (While s g is x) e = cc
label_assertions procs (Break s n) e = cc
label_assertions procs (Goto s ks) e = cc
label_assertions procs (Return s) e = cc

pub label_points : (procs : List TypedProcedure) (s : TypedStatement) → is_label s ≡ true → points procs s ≡ 0
label_points procs (Label n) e = refl
label_points procs (Assert s x) e = cc
label_points procs (Assume s x) e = cc
label_points procs (Havoc s cs) e = cc
label_points procs (Assign s cs es) e = cc
label_points procs (Call s cs f es) e = cc
label_points procs (If s g x y) e = cc
label_points procs (While s g is x) e = cc
label_points procs (Break s n) e = cc
label_points procs (Goto s ks) e = cc
label_points procs (Return s) e = cc

pub labels_settled : (xs ys : List TStmt) (x : TStmt) (l : Bool) (id at : ℕ) (u : List Todo) (a : Point) → xs ≡ x ∷ ys → is_label (statement x) ≡ true →
    unless_ended (statements xs) l id at u a ≡ unless_ended (statements ys) l id at u a
labels_settled xs ys x l id at u a e h =
    ap (λ (zs : List TStmt). unless_ended (statements zs) l id at u a) e ∙ label_skipped (statement x) (statements ys) l id at u a h

pub labels_assertions : (procs : List TypedProcedure) (xs ys : List TStmt) (x : TStmt) → xs ≡ x ∷ ys → is_label (statement x) ≡ true →
    block_assertions procs (statements ys) ≡ block_assertions procs (statements xs)
labels_assertions procs xs ys x e h =
    let p : block_assertions procs (statements xs) ≡ assertions procs (statement x) + block_assertions procs (statements ys) = ap (λ (zs : List TStmt). block_assertions procs (statements zs)) e in
    omega (arith, p, label_assertions procs (statement x) h)

pub labels_points : (procs : List TypedProcedure) (xs ys : List TStmt) (x : TStmt) → xs ≡ x ∷ ys → is_label (statement x) ≡ true →
    block_points procs (statements ys) ≡ block_points procs (statements xs)
labels_points procs xs ys x e h =
    let p : block_points procs (statements xs) ≡ points procs (statement x) + block_points procs (statements ys) = ap (λ (zs : List TStmt). block_points procs (statements zs)) e in
    omega (arith, p, label_points procs (statement x) h)

-- the point before the innermost block, once the labels at its front are left out
pub stands : (ts us ws : List Todo) (t : Todo) (xs : List TStmt) → ts ≡ t ∷ us → 0 < length xs →
    unless_ended t.rest t.of_loop t.id t.at us (settled us) ≡ standing_in (statements xs) (record { rest = statements xs; of_loop = t.of_loop; id = t.id; at = t.at }) us (settled us) →
    ws ≡ with_top (record { rest = statements xs; of_loop = t.of_loop; id = t.id; at = t.at }) ts →
    settled ts ≡ standing ws
stands ts us ws t [] e n h w = absurd (omega arith)
stands ts us ws t (x ∷ xs) e n h w =
    let v : Todo = record { rest = statements (x ∷ xs); of_loop = t.of_loop; id = t.id; at = t.at } in
    ap settled e ∙ h ∙ ap standing (sym (w ∙ ap (with_top v) e))

-- A search for a label that goes on behind the first statement of what is left, and room for the parts of a statement.
use Rattle.std.proofs.Common.{◌≡◌, ℕ, ◌+◌, ◌<◌, ◌≤◌, ◌^◌, Bool, true, false, List, [], ◌∷◌, length, take, drop, get_or, refl, ap, sym, ◌∙◌, subst, arith, Option, None, Some}
use Rattle.std.specs.Option.{option_or}
use Rattle.std.proofs.lemmas.List.{drop_more, drop_all}
use Rattle.boogie_tree.specs.declared.span.Span.{Span}
use Rattle.typed_tree.specs.declared.types.TStmt.{TStmt}
use Rattle.typed_tree.specs.TypedTree.{TypedGuard, TypedInvariant, TypedStatement, If, While, TypedBlock, Then, TypedProcedure}
use Rattle.typed_tree.specs.TypedView as view
use Rattle.typed_tree.specs.TypingRules.Counts.{assertions, points, block_assertions, block_points, plain_invariants}
use Rattle.boogie_run.specs.BoogiePoints.Points.{Todo, found_in, found_block}
use Rattle.boogie_run.specs.BoogiePoints.Ties.Seeking.{IsFound}

absent : (o : Option (List Todo)) (f : Bool) (u new : List Todo) → f ≡ false → IsFound f o u new → (o ≡ None) × (new ≡ u)
absent (Some ts) true u new e h = cc
absent None true u new e h = absurd h
absent (Some ts) false u new e h = absurd h
absent None false u new e h = (refl, h)

present : (o rest : Option (List Todo)) (f : Bool) (u new : List Todo) → f ≡ true → IsFound f o u new → IsFound true (option_or o rest) u new
present (Some ts) rest true u new e h = h
present None rest true u new e h = absurd h
present (Some ts) rest false u new e h = absurd h
present None rest false u new e h = cc

front : (block : List TStmt) (n : ℕ) (x : TStmt) → n < length block → x ≡ get_or block n x → drop n block ≡ x ∷ drop (n + 1) block
front block n x l is = drop_more block n x l ∙ ap (λ (y : TStmt). y ∷ drop (n + 1) block) (sym is)

-- what a search of what is left has reached
pub record Reached (procs : List TypedProcedure) (label : ℕ) (block : List TStmt) (n : ℕ) (of_loop : Bool) (id at : ℕ) (under : List Todo) (whole : Option (List Todo)) : Type 0 where
  pub found : whole ≡ found_block procs label (view.statements (drop n block)) of_loop id at under
  pub assertions : id + block_assertions procs (view.statements (drop n block)) < 2 ^ 32
  pub points : at + block_points procs (view.statements (drop n block)) < 2 ^ 32

-- the first statement does not have the label
pub searched_on : (procs : List TypedProcedure) (label : ℕ) (block part : List TStmt) (n : ℕ) (x : TStmt) (of_loop : Bool) (id at a p : ℕ) (u old new : List Todo) (whole : Option (List Todo)) (f : Bool) →
    n < length block → x ≡ get_or block n x → part ≡ drop (n + 1) block → f ≡ false →
    IsFound f (found_in procs label (view.statement x) (view.statements part) of_loop id at old) old new → old ≡ u →
    a ≡ assertions procs (view.statement x) → p ≡ points procs (view.statement x) → Reached procs label block n of_loop id at u whole →
    Reached procs label block (n + 1) of_loop (id + a) (at + p) u whole × (new ≡ u)
searched_on procs label block part n x of_loop id at a p u old new whole f l is e fails h same count_a count_p r =
    let gone = absent (found_in procs label (view.statement x) (view.statements part) of_loop id at old) f old new fails h in
    let none : found_in procs label (view.statement x) (view.statements (drop (n + 1) block)) of_loop id at u ≡ None =
    (λ i. found_in procs label (view.statement x) (view.statements (sym e i)) of_loop id at (sym same i)) ∙ gone.0 in
    let at_front : drop n block ≡ x ∷ drop (n + 1) block = front block n x l is in
    let some_a : block_assertions procs (view.statements (drop n block)) ≡ assertions procs (view.statement x) + block_assertions procs (view.statements (drop (n + 1) block)) =
    ap (λ (ss : List TStmt). block_assertions procs (view.statements ss)) at_front in
    let some_p : block_points procs (view.statements (drop n block)) ≡ points procs (view.statement x) + block_points procs (view.statements (drop (n + 1) block)) =
    ap (λ (ss : List TStmt). block_points procs (view.statements ss)) at_front in
    let fit_a : id + block_assertions procs (view.statements (drop n block)) < 2 ^ 32 = r.assertions in
    let fit_p : at + block_points procs (view.statements (drop n block)) < 2 ^ 32 = r.points in (
      record {
        found = r.found
            ∙ ap (λ (ss : List TStmt). found_block procs label (view.statements ss) of_loop id at u) at_front
            ∙ ap (λ (o : Option (List Todo)). option_or o (found_block procs label (view.statements (drop (n + 1) block)) of_loop (id + assertions procs (view.statement x)) (at + points procs (view.statement x)) u)) none
            ∙ (λ i. found_block procs label (view.statements (drop (n + 1) block)) of_loop (id + sym count_a i) (at + sym count_p i) u);
        assertions = omega arith;
        points = omega arith;
      },
      gone.1 ∙ same,
    )

-- the first statement has it
pub searched_there : (procs : List TypedProcedure) (label : ℕ) (block part : List TStmt) (n : ℕ) (x : TStmt) (of_loop : Bool) (id at : ℕ) (u old new : List Todo) (whole : Option (List Todo)) (f : Bool) →
    n < length block → x ≡ get_or block n x → part ≡ drop (n + 1) block → f ≡ true →
    IsFound f (found_in procs label (view.statement x) (view.statements part) of_loop id at old) old new → old ≡ u →
    whole ≡ found_block procs label (view.statements (drop n block)) of_loop id at u → IsFound true whole u new
searched_there procs label block part n x of_loop id at u old new whole f l is e there h same found =
    subst (λ (v : List Todo). IsFound true whole v new) same
    (subst (λ (o : Option (List Todo)). IsFound true o old new)
    ((λ i. option_or (found_in procs label (view.statement x) (view.statements (e i)) of_loop id at (same i))
    (found_block procs label (view.statements (drop (n + 1) block)) of_loop (id + assertions procs (view.statement x)) (at + points procs (view.statement x)) u))
    ∙ ap (λ (ss : List TStmt). found_block procs label (view.statements ss) of_loop id at u) (sym (front block n x l is)) ∙ sym found)
    (present (found_in procs label (view.statement x) (view.statements part) of_loop id at old)
    (found_block procs label (view.statements (drop (n + 1) block)) of_loop (id + assertions procs (view.statement x)) (at + points procs (view.statement x)) u) f old new there h))

-- no statement is left
pub searched_all : (procs : List TypedProcedure) (label : ℕ) (block : List TStmt) (n : ℕ) (of_loop : Bool) (id at : ℕ) (u new : List Todo) (whole : Option (List Todo)) → length block ≤ n →
    whole ≡ found_block procs label (view.statements (drop n block)) of_loop id at u → new ≡ u → IsFound false whole u new
searched_all procs label block n of_loop id at u new whole l found same =
    let none : whole ≡ None = found ∙ ap (λ (ss : List TStmt). found_block procs label (view.statements ss) of_loop id at u) (drop_all n block l) in
    subst (λ (o : Option (List Todo)). IsFound false o u new) (sym none) same

-- room for the statements of a branch
pub branch_fits : (procs : List TypedProcedure) (p : Span) (g : TypedGuard) (x y b w : TypedBlock) (id at : ℕ) → w ≡ Then (If p g x y) b → id + block_assertions procs w < 2 ^ 32 →
    at + block_points procs w < 2 ^ 32 → (id + block_assertions procs x < 2 ^ 32) × (at + (1 + block_points procs x) < 2 ^ 32)
branch_fits procs p g x y b w id at e h k =
    let a : block_assertions procs w ≡ (block_assertions procs x + block_assertions procs y) + block_assertions procs b = ap (block_assertions procs) e in
    let c : block_points procs w ≡ (1 + (block_points procs x + block_points procs y)) + block_points procs b = ap (block_points procs) e in
    (omega arith, omega arith)

-- room for the head of a loop
pub head_fits : (procs : List TypedProcedure) (p : Span) (g : TypedGuard) (is : List TypedInvariant) (x b w : TypedBlock) (id at n : ℕ) → w ≡ Then (While p g is x) b → n ≡ length is →
    id + block_assertions procs w < 2 ^ 32 → at + block_points procs w < 2 ^ 32 → (id + plain_invariants is < 2 ^ 32) × (at + (n + 1) < 2 ^ 32)
head_fits procs p g is x b w id at n e l h k =
    let a : block_assertions procs w ≡ (plain_invariants is + block_assertions procs x) + block_assertions procs b = ap (block_assertions procs) e in
    let c : block_points procs w ≡ (length is + (1 + block_points procs x)) + block_points procs b = ap (block_points procs) e in
    (omega arith, omega arith)

-- One statement of a block after the other.
use Rattle.std.proofs.Common.{◌≡◌, ◌∙◌, ℕ, zero, suc, ◌+◌, ◌<◌, Bool, true, false, ◌&&◌, List, [], ◌∷◌, ◌++◌, map, length, drop, get_or, nat_le, refl, sym, ap, arith, append_assoc, if◌then◌else◌}
use Rattle.std.specs.List.{list_all}
use Rattle.typed_tree.specs.declared.types.TStmt.{TStmt}
use Rattle.typed_tree.specs.TypedTree.{TypedStatement, Assert, Assume, Havoc, Assign, Call, If, While, Break, Goto, Return, Label, TypedBlock, Then, TypedProcedure}
use Rattle.typed_tree.specs.TypedView as view
use Rattle.typed_tree.specs.TypingRules.Counts.{points, block_points}
use Rattle.boogie_run.specs.BoogiePoints.Stacks.{is_label}
use Rattle.icfg_lower.specs.LabelPlaces.Ties.Ways.{place_of_rest, places_in, places_of}

first_left : (s : TypedStatement) (b : TypedBlock) (at after : ℕ) → place_of_rest (Then s b) at after ≡ (if is_label s then place_of_rest b at after else at)
first_left (Label n) b at after = refl
first_left (Assert span e) b at after = refl
first_left (Assume span e) b at after = refl
first_left (Havoc span cs) b at after = refl
first_left (Assign span cs es) b at after = refl
first_left (Call span cs f es) b at after = refl
first_left (If span g x y) b at after = refl
first_left (While span g is x) b at after = refl
first_left (Break span k) b at after = refl
first_left (Goto span ks) b at after = refl
first_left (Return span) b at after = refl

-- the first place of what is left is the one behind it where only labels are left
rest_left : (xs : List TStmt) (at after : ℕ) → place_of_rest (view.statements xs) at after ≡ (if list_all is_label (map view.statement xs) then after else at)
rest_left [] at after = refl
rest_left (x ∷ xs) at after =
    first_left (view.statement x) (view.statements xs) at after
    ∙ ap (λ (n : ℕ). if is_label (view.statement x) then n else at) (rest_left xs at after)
    ∙ both (is_label (view.statement x)) (list_all is_label (map view.statement xs))
  where
    both : (a b : Bool) → (if a then (if b then after else at) else at) ≡ (if a && b then after else at)
    both true b = refl
    both false b = refl

pub drop_at : (xs : List TStmt) (n : ℕ) (x : TStmt) → n < length xs → x ≡ get_or xs n x → drop n xs ≡ x ∷ drop (n + 1) xs
drop_at [] n x l e = absurd (omega arith)
drop_at (y ∷ ys) zero x l e = ap (λ (z : TStmt). z ∷ ys) (sym e)
drop_at (y ∷ ys) (suc n) x l e =
    let f : suc n + 1 ≡ suc (n + 1) = omega arith in
    drop_at ys n x (omega arith) e ∙ ap (λ (k : ℕ). x ∷ drop k (y ∷ ys)) (sym f)

-- with the labels of one more statement
pub next_labels : (procs : List TypedProcedure) (xs : List TStmt) (n place count next after last : ℕ) (x : TStmt) (old new : List ℕ) → n < length xs → x ≡ get_or xs n x →
    count ≡ points procs (view.statement x) → next ≡ (if nat_le last (n + 1) then after else (place + count)) → ((k : ℕ) → list_all is_label (map view.statement (drop k xs)) ≡ nat_le last k) →
    new ≡ old ++ places_in procs (view.statement x) place next →
    new ++ places_of procs (view.statements (drop (n + 1) xs)) (place + count) after ≡ old ++ places_of procs (view.statements (drop n xs)) place after
next_labels procs xs n place count next after last x old new l e b f h g =
    let rest : TypedBlock = view.statements (drop (n + 1) xs) in
    let begins : next ≡ place_of_rest rest (place + count) after =
    f ∙ ap (λ (t : Bool). if t then after else (place + count)) (sym (h (n + 1))) ∙ sym (rest_left (drop (n + 1) xs) (place + count) after) in
    ap (λ (ns : List ℕ). ns ++ places_of procs rest (place + count) after) (g ∙ ap (λ (i : ℕ). old ++ places_in procs (view.statement x) place i) begins)
    ∙ append_assoc old (places_in procs (view.statement x) place (place_of_rest rest (place + count) after)) (places_of procs rest (place + count) after)
    ∙ ap (λ (i : ℕ). old ++ (places_in procs (view.statement x) place (place_of_rest rest (place + i) after) ++ places_of procs rest (place + i) after)) b
    ∙ ap (λ (ys : List TStmt). old ++ places_of procs (view.statements ys) place after) (sym (drop_at xs n x l e))

-- the places that are left fit behind those of the statement
pub next_points : (procs : List TypedProcedure) (xs : List TStmt) (n place count m : ℕ) (x : TStmt) → n < length xs → x ≡ get_or xs n x → count ≡ points procs (view.statement x) →
    place + block_points procs (view.statements (drop n xs)) < m → place + count + block_points procs (view.statements (drop (n + 1) xs)) < m
next_points procs xs n place count m x l e b h =
    let same : block_points procs (view.statements (drop n xs)) ≡ points procs (view.statement x) + block_points procs (view.statements (drop (n + 1) xs)) =
    ap (λ (ys : List TStmt). block_points procs (view.statements ys)) (drop_at xs n x l e) in
    omega arith

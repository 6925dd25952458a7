-- Steps on blocks keep that all numbers have 32 bits.
use Rattle.std.proofs.Common.{◌≡◌, ℕ, zero, suc, ◌+◌, ◌<◌, ◌≤◌, ◌^◌, Bool, true, false, cond, nat_eq, List, [], ◌∷◌, length, map, nat_lt, refl, ap, sym, ◌∙◌, subst, arith, Option, None, Some}
use Rattle.std.specs.List.{AllByRecursion}
use Rattle.std.specs.Option.{option_or}
use Rattle.std.proofs.lemmas.Bool.Decides.{nat_tests}
use Rattle.std.proofs.lemmas.List.{length-map}
use Rattle.boogie_tree.specs.declared.span.Span.{Span}
use Rattle.typed_tree.specs.declared.types.TInv.{TInv}
use Rattle.typed_tree.specs.TypedView.{invariant}
use Rattle.typed_tree.specs.TypedTree.{TypedGuard, TypedStatement, Assert, Assume, Havoc, Assign, Call, If, While, Break, Goto, Return, Label, TypedBlock, Empty, Then, TypedProcedure}
use Rattle.typed_tree.specs.TypingRules.Counts.{assertions, points, block_assertions, block_points, plain_invariants}
use Rattle.boogie_run.specs.BoogiePoints.Points.{Todo, Point, unless_ended, settled, past, past_block, past_first, broken, found_in, found_block}
use Rattle.boogie_run.specs.BoogiePoints.Actions.{next_part}
use Rattle.boogie_run.specs.BoogiePoints.Ties.AtStatement.{branch_of}
use Rattle.boogie_run.specs.BoogiePoints.Room.{HasRoom, PointHasRoom}
use Rattle.boogie_run.specs.BoogiePoints.Ties.Seeking.{IsFound}
use Rattle.boogie_run.specs.BoogiePoints.Stacks.{without_top}

unless_room : (procs : List TypedProcedure) (b : TypedBlock) (l : Bool) (id at : ℕ) (under : List Todo) (after : Point) →
    id + block_assertions procs b < 2 ^ 32 → at + block_points procs b < 2 ^ 32 →
    AllByRecursion (HasRoom procs) under → AllByRecursion (HasRoom procs) after.todo → AllByRecursion (HasRoom procs) (unless_ended b l id at under after).todo
unless_room procs Empty l id at under after h k u r = r
unless_room procs (Then (Label n) b) l id at under after h k u r = unless_room procs b l id at under after (omega arith) (omega arith) u r
unless_room procs (Then (Assert s e) b) l id at under after h k u r = (record { assertions = h; places = k }, u)
unless_room procs (Then (Assume s e) b) l id at under after h k u r = (record { assertions = h; places = k }, u)
unless_room procs (Then (Havoc s cs) b) l id at under after h k u r = (record { assertions = h; places = k }, u)
unless_room procs (Then (Assign s cs es) b) l id at under after h k u r = (record { assertions = h; places = k }, u)
unless_room procs (Then (Call s cs f es) b) l id at under after h k u r = (record { assertions = h; places = k }, u)
unless_room procs (Then (If s g x y) b) l id at under after h k u r = (record { assertions = h; places = k }, u)
unless_room procs (Then (While s g is x) b) l id at under after h k u r = (record { assertions = h; places = k }, u)
unless_room procs (Then (Break s n) b) l id at under after h k u r = (record { assertions = h; places = k }, u)
unless_room procs (Then (Goto s ks) b) l id at under after h k u r = (record { assertions = h; places = k }, u)
unless_room procs (Then (Return s) b) l id at under after h k u r = (record { assertions = h; places = k }, u)

pub settled_room : (procs : List TypedProcedure) (ts : List Todo) → AllByRecursion (HasRoom procs) ts → PointHasRoom procs (settled ts)
settled_room procs [] h = tt
settled_room procs (t ∷ ts) h =
    unless_room procs t.rest t.of_loop t.id t.at ts (settled ts) h.0.assertions h.0.places h.1 (settled_room procs ts h.1)

past_room : (procs : List TypedProcedure) (b : TypedBlock) (l : Bool) (id at : ℕ) (ts : List Todo) →
    id + block_assertions procs b < 2 ^ 32 → at + block_points procs b < 2 ^ 32 →
    AllByRecursion (HasRoom procs) ts → AllByRecursion (HasRoom procs) (past_block procs b l id at ts)
past_room procs Empty l id at ts h k u = u
past_room procs (Then s b) l id at ts h k u = (record { assertions = omega arith; places = omega arith }, u)

pub past_first_room : (procs : List TypedProcedure) (ts : List Todo) → AllByRecursion (HasRoom procs) ts → AllByRecursion (HasRoom procs) (past_first procs ts)
past_first_room procs [] h = tt
past_first_room procs (t ∷ ts) h = past_room procs t.rest t.of_loop t.id t.at ts h.0.assertions h.0.places h.1

either : (procs : List TypedProcedure) (b : Bool) (xs ys : List Todo) → AllByRecursion (HasRoom procs) xs → AllByRecursion (HasRoom procs) ys → AllByRecursion (HasRoom procs) (cond b xs ys)
either procs true xs ys h k = h
either procs false xs ys h k = k

pub broken_room : (procs : List TypedProcedure) (n : ℕ) (ts : List Todo) → AllByRecursion (HasRoom procs) ts → AllByRecursion (HasRoom procs) (broken procs n ts)
broken_room procs zero [] h = tt
broken_room procs (suc n) [] h = tt
broken_room procs zero (t ∷ ts) h = either procs t.of_loop _ _ (past_first_room procs ts h.1) (broken_room procs zero ts h.1)
broken_room procs (suc n) (t ∷ ts) h = either procs t.of_loop _ _ (broken_room procs n ts h.1) (broken_room procs (suc n) ts h.1)

-- what is found has room, where the block and those under it have it
abbrev FoundHasRoom : List TypedProcedure → Option (List Todo) → Type 0
FoundHasRoom procs None = Unit {0}
FoundHasRoom procs (Some ts) = AllByRecursion (HasRoom procs) ts

or_room : (procs : List TypedProcedure) (o p : Option (List Todo)) → FoundHasRoom procs o → FoundHasRoom procs p → FoundHasRoom procs (option_or o p)
or_room procs None p h k = k
or_room procs (Some ts) p h k = h

label_room : (procs : List TypedProcedure) (b : Bool) (t : Todo) (ts : List Todo) → HasRoom procs t → AllByRecursion (HasRoom procs) ts →
    FoundHasRoom procs (cond b (Some (t ∷ ts)) None)
label_room procs true t ts h k = (h, k)
label_room procs false t ts h k = tt

mutual
  found_in_room : (procs : List TypedProcedure) (k : ℕ) (s : TypedStatement) (b : TypedBlock) (l : Bool) (id at : ℕ) (under : List Todo) →
      id + (assertions procs s + block_assertions procs b) < 2 ^ 32 → at + (points procs s + block_points procs b) < 2 ^ 32 →
      AllByRecursion (HasRoom procs) under → FoundHasRoom procs (found_in procs k s b l id at under)
  found_in_room procs k (Label n) b l id at under h p u =
      label_room procs (nat_eq n k) (record { rest = b; of_loop = l; id = id; at = at }) under (record { assertions = omega arith; places = omega arith }) u
  found_in_room procs k (If s g x y) b l id at under h p u =
      let after : AllByRecursion (HasRoom procs) (past procs (If s g x y) b l id at ∷ under) = (record { assertions = omega arith; places = omega arith }, u) in
      or_room procs _ _
      (found_block_room procs k x false id (at + 1) (past procs (If s g x y) b l id at ∷ under) (omega arith) (omega arith) after)
      (found_block_room procs k y false (id + block_assertions procs x) (at + 1 + block_points procs x) (past procs (If s g x y) b l id at ∷ under) (omega arith) (omega arith) after)
  found_in_room procs k (While s g is x) b l id at under h p u =
      found_block_room procs k x true (id + plain_invariants is) (at + length is + 1)
      (record { rest = Then (While s g is x) b; of_loop = l; id = id; at = at } ∷ under) (omega arith) (omega arith)
      (record { assertions = h; places = p }, u)
  found_in_room procs k (Assert s e) b l id at under h p u = tt
  found_in_room procs k (Assume s e) b l id at under h p u = tt
  found_in_room procs k (Havoc s cs) b l id at under h p u = tt
  found_in_room procs k (Assign s cs es) b l id at under h p u = tt
  found_in_room procs k (Call s cs f es) b l id at under h p u = tt
  found_in_room procs k (Break s n) b l id at under h p u = tt
  found_in_room procs k (Goto s ks) b l id at under h p u = tt
  found_in_room procs k (Return s) b l id at under h p u = tt

  found_block_room : (procs : List TypedProcedure) (k : ℕ) (b : TypedBlock) (l : Bool) (id at : ℕ) (under : List Todo) →
      id + block_assertions procs b < 2 ^ 32 → at + block_points procs b < 2 ^ 32 →
      AllByRecursion (HasRoom procs) under → FoundHasRoom procs (found_block procs k b l id at under)
  found_block_room procs k Empty l id at under h p u = tt
  found_block_room procs k (Then s b) l id at under h p u =
      or_room procs _ _
      (found_in_room procs k s b l id at under h p u)
      (found_block_room procs k b l (id + assertions procs s) (at + points procs s) under (omega arith) (omega arith) u)

pub settled_at : (procs : List TypedProcedure) (ts : List Todo) (p : Point) → p ≡ settled ts → AllByRecursion (HasRoom procs) ts → PointHasRoom procs p
settled_at procs ts p e h = subst (λ (q : Point). PointHasRoom procs q) (sym e) (settled_room procs ts h)

pub passed_at : (procs : List TypedProcedure) (ts : List Todo) (p : Point) → p ≡ settled (past_first procs ts) → AllByRecursion (HasRoom procs) ts → PointHasRoom procs p
passed_at procs ts p e h = settled_at procs (past_first procs ts) p e (past_first_room procs ts h)

-- ---- of the steps at statements

pub next_at : (procs : List TypedProcedure) (p q : Point) → q ≡ next_part p → PointHasRoom procs p → PointHasRoom procs q
next_at procs p q e h = subst (λ (r : Point). PointHasRoom procs r) (sym e) h

branch_room : (procs : List TypedProcedure) (x y : TypedBlock) (id at way : ℕ) → id + (block_assertions procs x + block_assertions procs y) < 2 ^ 32 →
    at + (1 + (block_points procs x + block_points procs y)) < 2 ^ 32 → HasRoom procs (branch_of procs x y id at way)
branch_room procs x y id at zero h k = record { assertions = omega arith; places = omega arith }
branch_room procs x y id at (suc n) h k = record { assertions = omega arith; places = omega arith }

pub if_room : (procs : List TypedProcedure) (ts us : List Todo) (t after : Todo) (s : TypedStatement) (b : TypedBlock) (p : Span) (g : TypedGuard) (x y : TypedBlock) (way : ℕ) (q : Point) →
    AllByRecursion (HasRoom procs) ts → ts ≡ t ∷ us → t.rest ≡ Then s b → s ≡ If p g x y → HasRoom procs after →
    q ≡ settled (branch_of procs x y t.id t.at way ∷ (after ∷ us)) → PointHasRoom procs q
if_room procs ts us t after s b p g x y way q h e f i k w =
    let all : AllByRecursion (HasRoom procs) (t ∷ us) = subst (λ (v : List Todo). AllByRecursion (HasRoom procs) v) e h in
    let rest : t.rest ≡ Then (If p g x y) b = f ∙ ap (λ (r : TypedStatement). Then r b) i in
    let asserted : block_assertions procs t.rest ≡ (block_assertions procs x + block_assertions procs y) + block_assertions procs b = ap (block_assertions procs) rest in
    let placed : block_points procs t.rest ≡ (1 + (block_points procs x + block_points procs y)) + block_points procs b = ap (block_points procs) rest in
    let a = all.0.assertions in
    let c = all.0.places in
    settled_at procs (branch_of procs x y t.id t.at way ∷ (after ∷ us)) q w (branch_room procs x y t.id t.at way (omega arith) (omega arith), (k, all.1))

loop_room : (procs : List TypedProcedure) (v : Bool) (way : ℕ) (ts : List Todo) (inner : Todo) (q : Point) →
    AllByRecursion (HasRoom procs) ts → HasRoom procs inner → (v ≡ true → PointHasRoom procs q) → (v ≡ false → way ≡ 0 → q ≡ settled (inner ∷ ts)) →
    (v ≡ false → 0 < way → q ≡ settled (past_first procs ts)) → PointHasRoom procs q
loop_room procs true way ts inner q h k a b c = a refl
loop_room procs false zero ts inner q h k a b c = settled_at procs (inner ∷ ts) q (b refl refl) (k, h)
loop_room procs false (suc n) ts inner q h k a b c = passed_at procs ts q (c refl (omega arith)) h

pub while_room : (procs : List TypedProcedure) (t : Todo) (s : TypedStatement) (b : TypedBlock) (here q : Point) (p : Span) (g : TypedGuard) (ds cs : List TInv) (x : TypedBlock) (way : ℕ) →
    s ≡ While p g (map invariant cs) x → ds ≡ cs → PointHasRoom procs here → here.todo ≡ t ∷ without_top here.todo → t.rest ≡ Then s b →
    (here.part < length ds → q ≡ next_part here) →
    (length ds ≤ here.part → way ≡ 0 → q ≡ settled (record { rest = x; of_loop = true; id = t.id + plain_invariants (map invariant ds); at = t.at + length ds + 1 } ∷ here.todo)) →
    (length ds ≤ here.part → 0 < way → q ≡ settled (past_first procs here.todo)) → PointHasRoom procs q
while_room procs t s b here q p g ds cs x way i d h e f item inside behind =
    let all : AllByRecursion (HasRoom procs) (t ∷ without_top here.todo) = subst (λ (v : List Todo). AllByRecursion (HasRoom procs) v) e h in
    let rest : t.rest ≡ Then (While p g (map invariant cs) x) b = f ∙ ap (λ (r : TypedStatement). Then r b) i in
    let asserted : block_assertions procs t.rest ≡ (plain_invariants (map invariant cs) + block_assertions procs x) + block_assertions procs b = ap (block_assertions procs) rest in
    let placed : block_points procs t.rest ≡ (length (map invariant cs) + (1 + block_points procs x)) + block_points procs b = ap (block_points procs) rest in
    let counted : plain_invariants (map invariant ds) ≡ plain_invariants (map invariant cs) = ap (λ (v : List TInv). plain_invariants (map invariant v)) d in
    let long : length ds ≡ length (map invariant cs) = ap length d ∙ sym (length-map cs invariant) in
    let a = all.0.assertions in
    let c = all.0.places in
    loop_room procs (nat_lt here.part (length ds)) way here.todo (record { rest = x; of_loop = true; id = t.id + plain_invariants (map invariant ds); at = t.at + length ds + 1 }) q
    h (record { assertions = omega arith; places = omega arith })
    (λ y. next_at procs here q (item (grind (arith, nat_tests, y))) h)
    (λ y z. inside (grind (arith, nat_tests, y)) z)
    (λ y z. behind (grind (arith, nat_tests, y)) z)

jumped : (procs : List TypedProcedure) (f : Bool) (o : Option (List Todo)) (new : List Todo) → FoundHasRoom procs o → IsFound f o [] new → AllByRecursion (HasRoom procs) new
jumped procs true (Some ts) new h k = subst (λ (v : List Todo). AllByRecursion (HasRoom procs) v) (sym k) h
jumped procs true None new h k = absurd k
jumped procs false (Some ts) new h k = absurd k
jumped procs false None new h k = subst (λ (v : List Todo). AllByRecursion (HasRoom procs) v) (sym k) tt

pub jump_room : (procs : List TypedProcedure) (k : ℕ) (t : Todo) (f : Bool) (u new : List Todo) (q : Point) → HasRoom procs t → u ≡ [] →
    IsFound f (found_block procs k t.rest false t.id t.at u) u new → q ≡ settled new → PointHasRoom procs q
jump_room procs k t f u new q h e i w =
    settled_at procs new q w
    (jumped procs f (found_block procs k t.rest false t.id t.at []) new (found_block_room procs k t.rest false t.id t.at [] h.assertions h.places tt)
    (subst (λ (v : List Todo). IsFound f (found_block procs k t.rest false t.id t.at v) v new) e i))

pub no_blocks : (procs : List TypedProcedure) (q : Point) → q.todo ≡ [] → PointHasRoom procs q
no_blocks procs q e = subst (λ (v : List Todo). AllByRecursion (HasRoom procs) v) (sym e) tt

-- The ways of the actions at a point.
use Rattle.std.proofs.Common.{◌≡◌, ℕ, zero, suc, ◌+◌, ◌<◌, ◌≤◌, Bool, true, false, List, [], ◌∷◌, length, map, refl, ap, sym, ◌∙◌, subst, arith, Option, None, Some}
use Rattle.std.specs.Prelude.{slice_get}
use Rattle.std.specs.Option.{is_some, option_map}
use Rattle.std.proofs.lemmas.List.{length-map}
use Rattle.std.proofs.lemmas.Option.{same_Some}
use Rattle.boogie_tree.specs.declared.span.Span.{Span}
use Rattle.boogie_tree.specs.declared.tree.Column.{Column}
use Rattle.typed_tree.specs.TypedTree.{TypedExpression, TypedGuard, Any, Cond, TypedInvariant, TypedStatement, Havoc, While, TypedBlock, Then, TypedProcedure}
use Rattle.typed_tree.specs.declared.types.TInv.{TInv}
use Rattle.typed_tree.specs.TypedView.{invariant}
use Rattle.typed_tree.specs.TypingRules.Counts.{plain_invariants}
use Rattle.boogie_run.specs.BoogiePoints.Points.{Todo, Entry, Point, at_exit, settled, past, past_block, past_first, found_block}
use Rattle.boogie_run.specs.BoogiePoints.Actions as spec
use Rattle.boogie_run.specs.BoogiePoints.Ties.AtStatement.{at_statement}
use Rattle.boogie_run.specs.BoogiePoints.Ties.Seeking.{IsFound}
use Rattle.boogie_run.specs.BoogiePoints.Stacks.{without_top}
use Rattle.boogie_run.specs.BoogiePoints.Told.{ways_of}

-- the only way
pub sole : (ps : List Point) (p : Point) (way : ℕ) → way < length ps → ps ≡ p ∷ [] → slice_get ps way ≡ Some p
sole ps p zero h e = ap (λ (qs : List Point). slice_get qs zero) e
sole ps p (suc n) h e = absurd (omega (arith, ap length e))

-- an item of a list, where its number is below the length
get_some : {A : Type 0} (xs : List A) (n : ℕ) → n < length xs → is_some (slice_get xs n) ≡ true
get_some [] n h = absurd (omega arith)
get_some (x ∷ xs) zero h = refl
get_some (x ∷ xs) (suc n) h = get_some xs n (omega arith)

get_none : {A : Type 0} (xs : List A) (n : ℕ) → length xs ≤ n → is_some (slice_get xs n) ≡ false
get_none [] n h = refl
get_none (x ∷ xs) zero h = absurd (omega arith)
get_none (x ∷ xs) (suc n) h = get_none xs n (omega arith)

-- ---- stages

checked_ways : (b : Bool) (id : ℕ) (at : Span) (e : TypedExpression) (p : Point) → ways_of (spec.checked b id at e p) ≡ p ∷ []
checked_ways true id at e p = refl
checked_ways false id at e p = refl

-- ---- statements

havoc_go : (o m : Option Column) (here after : Point) → is_some o ≡ true → is_some m ≡ true → ways_of (spec.havoc_action o m here after) ≡ spec.next_part here ∷ []
havoc_go None m here after h k = cc
havoc_go (Some e) None here after h k = cc
havoc_go (Some e) (Some d) here after h k = refl

havoc_end : (o m : Option Column) (here after : Point) → is_some m ≡ false → ways_of (spec.havoc_action o m here after) ≡ after ∷ []
havoc_end None m here after h = refl
havoc_end (Some e) None here after h = refl
havoc_end (Some e) (Some d) here after h = cc

pub havoc_next : (cs : List Column) (n : ℕ) (here after : Point) → n + 1 < length cs →
    ways_of (spec.havoc_action (slice_get cs n) (slice_get cs (n + 1)) here after) ≡ spec.next_part here ∷ []
havoc_next cs n here after h = havoc_go _ _ here after (get_some cs n (omega arith)) (get_some cs (n + 1) h)

pub havoc_last : (cs : List Column) (n : ℕ) (here after : Point) → length cs ≤ n + 1 →
    ways_of (spec.havoc_action (slice_get cs n) (slice_get cs (n + 1)) here after) ≡ after ∷ []
havoc_last cs n here after h = havoc_end _ _ here after (get_none cs (n + 1) h)

-- ---- guards

pub hit_way : (g : TypedGuard) (p q : Point) → slice_get (ways_of (spec.guarded g p q)) 0 ≡ Some p
hit_way Any p q = refl
hit_way (Cond e) p q = refl

pub miss_way : (g : TypedGuard) (p q : Point) (way : ℕ) → 0 < way → way < length (ways_of (spec.guarded g p q)) → slice_get (ways_of (spec.guarded g p q)) way ≡ Some q
miss_way g p q zero h k = absurd (omega arith)
miss_way Any p q (suc zero) h k = refl
miss_way (Cond e) p q (suc zero) h k = refl
miss_way Any p q (suc (suc n)) h k = absurd (omega arith)
miss_way (Cond e) p q (suc (suc n)) h k = absurd (omega arith)

-- ---- labels

label_at : (procs : List TypedProcedure) (b : TypedBlock) (id at : ℕ) (ks : List ℕ) (n k : ℕ) → slice_get ks n ≡ Some k →
    slice_get (spec.ways_to procs b id at ks) n ≡ Some (spec.point_behind (found_block procs k b false id at []))
label_at procs b id at [] n k e = cc
label_at procs b id at (j ∷ ks) zero k e = ap (λ (m : ℕ). Some (spec.point_behind (found_block procs m b false id at []))) (same_Some j k e)
label_at procs b id at (j ∷ ks) (suc n) k e = label_at procs b id at ks n k e

one_of_at : (ps : List Point) (n : ℕ) (p : Point) → slice_get ps n ≡ Some p → slice_get (ways_of (spec.one_of ps)) n ≡ Some p
one_of_at [] n p e = cc
one_of_at (q ∷ []) n p e = e
one_of_at (q ∷ r ∷ ps) n p e = e

found_way : (b : Bool) (o : Option (List Todo)) (new : List Todo) → IsFound b o [] new → settled new ≡ spec.point_behind o
found_way true (Some ts) new h = ap settled h
found_way true None new h = absurd h
found_way false (Some ts) new h = absurd h
found_way false None new h = ap settled h

pub jump_way : (procs : List TypedProcedure) (b : TypedBlock) (id at : ℕ) (ks : List ℕ) (n k : ℕ) (f : Bool) (u new : List Todo) (p : Point) → slice_get ks n ≡ Some k →
    u ≡ [] → IsFound f (found_block procs k b false id at u) u new → p ≡ settled new → slice_get (ways_of (spec.one_of (spec.ways_to procs b id at ks))) n ≡ Some p
jump_way procs b id at ks n k f u new p e d h w =
    let found : IsFound f (found_block procs k b false id at []) [] new = subst (λ (v : List Todo). IsFound f (found_block procs k b false id at v) v new) d h in
    one_of_at (spec.ways_to procs b id at ks) n p (label_at procs b id at ks n k e ∙ ap (λ (x : Point). Some x) (sym (w ∙ found_way f _ new found)))

counted : (procs : List TypedProcedure) (b : TypedBlock) (id at : ℕ) (ks : List ℕ) → length (spec.ways_to procs b id at ks) ≡ length ks
counted procs b id at [] = refl
counted procs b id at (k ∷ ks) = ap suc (counted procs b id at ks)

pub no_jump : (procs : List TypedProcedure) (b : TypedBlock) (id at : ℕ) (ks : List ℕ) (n : ℕ) (p : Point) → length ks ≤ n →
    n < length (ways_of (spec.one_of (spec.ways_to procs b id at ks))) → p ≡ at_exit → slice_get (ways_of (spec.one_of (spec.ways_to procs b id at ks))) n ≡ Some p
no_jump procs b id at [] zero p h k e = ap (λ (x : Point). Some x) (sym e)
no_jump procs b id at [] (suc n) p h k e = absurd (omega arith)
no_jump procs b id at (j ∷ []) zero p h k e = absurd (omega arith)
no_jump procs b id at (j ∷ []) (suc n) p h k e = absurd (omega arith)
no_jump procs b id at (i ∷ j ∷ ks) n p h k e = absurd (omega (arith, counted procs b id at ks))

-- ---- at statements

past_is : (procs : List TypedProcedure) (ts us : List Todo) (t : Todo) (s : TypedStatement) (b : TypedBlock) → ts ≡ t ∷ us → t.rest ≡ Then s b →
    past_first procs ts ≡ past procs s b t.of_loop t.id t.at ∷ us
past_is procs ts us t s b e f =
    ap (past_first procs) e ∙ ap (λ (r : TypedBlock). past_block procs r t.of_loop t.id t.at us) f

within : {A : Type 0} (xs : List A) (n : ℕ) → is_some (slice_get xs n) ≡ true → n < length xs
within [] n h = cc
within (x ∷ xs) zero h = omega arith
within (x ∷ xs) (suc n) h = omega (arith, within xs n h)

beyond : {A : Type 0} (xs : List A) (n : ℕ) → is_some (slice_get xs n) ≡ false → length xs ≤ n
beyond [] n h = omega arith
beyond (x ∷ xs) zero h = cc
beyond (x ∷ xs) (suc n) h = omega (arith, beyond xs n h)

loop_by : (o : Option TypedInvariant) (id way : ℕ) (here q hit miss : Point) (g : TypedGuard) →
    (is_some o ≡ true → q ≡ spec.next_part here) → (is_some o ≡ false → way ≡ 0 → q ≡ hit) → (is_some o ≡ false → 0 < way → q ≡ miss) →
    way < length (ways_of (spec.head_action o id here (spec.guarded g hit miss))) → slice_get (ways_of (spec.head_action o id here (spec.guarded g hit miss))) way ≡ Some q
loop_by (Some i) id way here q hit miss g item inside behind h =
    sole _ q way h (checked_ways i.free id i.span i.cond (spec.next_part here) ∙ ap (λ (x : Point). x ∷ []) (sym (item refl)))
loop_by None id zero here q hit miss g item inside behind h = hit_way g hit miss ∙ ap (λ (x : Point). Some x) (sym (inside refl refl))
loop_by None id (suc n) here q hit miss g item inside behind h =
    miss_way g hit miss (suc n) (omega arith) h ∙ ap (λ (x : Point). Some x) (sym (behind refl (omega arith)))

-- a loop, from what is done at its head
pub while_way : (procs : List TypedProcedure) (body t : Todo) (s : TypedStatement) (b : TypedBlock) (here q : Point) (p : Span) (g : TypedGuard) (ds cs : List TInv) (x : TypedBlock) (way : ℕ) →
    s ≡ While p g (map invariant cs) x → ds ≡ cs → here.todo ≡ t ∷ without_top here.todo → t.rest ≡ Then s b →
    (here.part < length ds → q ≡ spec.next_part here) →
    (length ds ≤ here.part → way ≡ 0 → q ≡ settled (record { rest = x; of_loop = true; id = t.id + plain_invariants (map invariant ds); at = t.at + length ds + 1 } ∷ here.todo)) →
    (length ds ≤ here.part → 0 < way → q ≡ settled (past_first procs here.todo)) →
    way < length (ways_of (at_statement procs body s b t here)) → slice_get (ways_of (at_statement procs body s b t here)) way ≡ Some q
while_way procs body t s b here q p g ds cs x way e d st f item inside behind h =
    subst (λ (r : TypedStatement). slice_get (ways_of (at_statement procs body r b t here)) way ≡ Some q) (sym e)
    (loop_by (slice_get (map invariant cs) here.part) _ way here q _ _ g
    (λ y. item (omega (arith, ap length d, same, within (map invariant cs) here.part y)))
    (λ y z. inside (omega (arith, ap length d, same, beyond (map invariant cs) here.part y)) z
    ∙ ap (λ (n : ℕ). settled (record { rest = x; of_loop = true; id = t.id + plain_invariants (map invariant ds); at = t.at + n + 1 } ∷ here.todo)) (ap length d ∙ sym same)
    ∙ ap (λ (v : List TInv). settled (record { rest = x; of_loop = true; id = t.id + plain_invariants (map invariant v); at = t.at + length (map invariant cs) + 1 } ∷ here.todo)) d)
    (λ y z. behind (omega (arith, ap length d, same, beyond (map invariant cs) here.part y)) z
    ∙ ap settled (past_is procs here.todo (without_top here.todo) t s b st f)
    ∙ ap (λ (r : TypedStatement). settled (past procs r b t.of_loop t.id t.at ∷ without_top here.todo)) e)
    (subst (λ (r : TypedStatement). way < length (ways_of (at_statement procs body r b t here))) e h))
  where
    same : length (map invariant cs) ≡ length cs
    same = length-map cs invariant

-- a havoc, from what is done
pub havoc_way : (procs : List TypedProcedure) (body t : Todo) (s : TypedStatement) (b : TypedBlock) (here q : Point) (p : Span) (cs : List Column) (n way : ℕ) →
    s ≡ Havoc p cs → n ≡ length cs → here.todo ≡ t ∷ without_top here.todo → t.rest ≡ Then s b →
    (here.part + 1 < n → q ≡ spec.next_part here) → (n ≤ here.part + 1 → q ≡ settled (past_first procs here.todo)) →
    way < length (ways_of (at_statement procs body s b t here)) → slice_get (ways_of (at_statement procs body s b t here)) way ≡ Some q
havoc_way procs body t s b here q p cs n way e d st f item behind h =
    subst (λ (r : TypedStatement). slice_get (ways_of (at_statement procs body r b t here)) way ≡ Some q) (sym e)
    (havoc_by (is_some (slice_get cs (here.part + 1))) refl)
  where
    way_in : way < length (ways_of (at_statement procs body (Havoc p cs) b t here))
    way_in = subst (λ (r : TypedStatement). way < length (ways_of (at_statement procs body r b t here))) e h

    havoc_by : (v : Bool) → is_some (slice_get cs (here.part + 1)) ≡ v → slice_get (ways_of (at_statement procs body (Havoc p cs) b t here)) way ≡ Some q
    havoc_by true y =
        sole _ q way way_in (havoc_next cs here.part here _ (within cs (here.part + 1) y)
        ∙ ap (λ (x : Point). x ∷ []) (sym (item (omega (arith, within cs (here.part + 1) y)))))
    havoc_by false y =
        sole _ q way way_in (havoc_last cs here.part here _ (beyond cs (here.part + 1) y)
        ∙ ap (λ (x : Point). x ∷ []) (sym (behind (omega (arith, beyond cs (here.part + 1) y))
        ∙ ap settled (past_is procs here.todo (without_top here.todo) t s b st f)
        ∙ ap (λ (r : TypedStatement). settled (past procs r b t.of_loop t.id t.at ∷ without_top here.todo)) e)))

pub entry_first : (is : List TypedInvariant) (t : Todo) → is_some (slice_get is 0) ≡ true → spec.entry_point is t ≡ record { stage = Entry; todo = t ∷ []; part = 0 }
entry_first [] t h = cc
entry_first (i ∷ is) t h = refl

pub entry_none : (is : List TypedInvariant) (t : Todo) → is_some (slice_get is 0) ≡ false → spec.entry_point is t ≡ settled (t ∷ [])
entry_none [] t h = refl
entry_none (i ∷ is) t h = cc

pub seen_some : {A B : Type 0} (f : A → B) (o : Option A) (p : Option B) → option_map f o ≡ p → is_some o ≡ is_some p
seen_some f None p e = ap is_some e
seen_some f (Some x) p e = ap is_some e

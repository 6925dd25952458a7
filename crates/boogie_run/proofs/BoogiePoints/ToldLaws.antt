-- What an action tells does not depend on the points that it leads to.
use Rattle.std.proofs.Common.{◌≡◌, ℕ, zero, suc, ◌+◌, ◌-◌, ◌<◌, ◌≤◌, ◌^◌, Bool, true, false, List, [], ◌∷◌, length, map, take, refl, ap, sym, ◌∙◌, arith, Option, None, Some}
use Rattle.std.specs.Prelude.{slice_get}
use Rattle.std.specs.Option.{option_map}
use Rattle.std.proofs.lemmas.List.{take-map}
use Rattle.std.proofs.lemmas.Option.{slice_get_within}
use Rattle.boogie_tree.specs.declared.span.Span.{Span}
use Rattle.boogie_tree.specs.declared.tree.Column.{Column}
use Rattle.typed_tree.specs.TypedTree.{TypedExpression, TypedGuard, Any, Cond, TypedInvariant, TypedStatement, Assert, Assume, Havoc, Assign, Call, If, While, Break, Goto, Return, Label, TypedBlock, Then, TypedSpecification, TypedProcedure}
use Rattle.typed_tree.specs.declared.types.TInv.{TInv}
use Rattle.typed_tree.specs.TypedView.{invariant}
use Rattle.typed_tree.specs.TypingRules.Counts.{plain_invariants, plain_requires, checked_at_call}
use Rattle.boogie_run.specs.BoogiePoints.Points.{Todo, Point, at_exit}
use Rattle.boogie_run.specs.BoogiePoints.Actions as spec
use Rattle.boogie_run.specs.BoogiePoints.Actions.{plain_conditions}
use Rattle.boogie_run.specs.BoogiePoints.Ties.AtStatement.{at_part, guessed, told_of, way_count}
use Rattle.boogie_run.specs.BoogiePoints.Told.{Told, told, ways_of, Guess, Pick, Grant, Finish}
use Rattle.boogie_run.proofs.BoogiePoints.ConditionLaws.{taken_less, plain_ensures_counted, plain_requires_counted}

pub checked_told : (b : Bool) (id : ℕ) (at : Span) (e : TypedExpression) (p q : Point) → told (spec.checked b id at e p) ≡ told (spec.checked b id at e q)
checked_told true id at e p q = refl
checked_told false id at e p q = refl

pub guarded_told : (g : TypedGuard) (p q r s : Point) → told (spec.guarded g p q) ≡ told (spec.guarded g r s)
guarded_told Any p q r s = refl
guarded_told (Cond e) p q r s = refl

pub exit_told : (o : Option TypedInvariant) (id : ℕ) (p q : Point) → told (spec.exit_action o id p) ≡ told (spec.exit_action o id q)
exit_told None id p q = refl
exit_told (Some i) id p q = checked_told i.free id i.span i.cond (spec.next_part p) (spec.next_part q)

havoc_told : (o m : Option Column) (p q : Point) → told (spec.havoc_action o m p q) ≡ guessed (option_map Guess o)
havoc_told None m p q = refl
havoc_told (Some c) None p q = refl
havoc_told (Some c) (Some d) p q = refl

unseen_told : (o : Option Column) (m : Option TypedInvariant) (f : ℕ) (cs : List Column) (es : List TypedExpression) (p q r s : Point) →
    told (spec.unseen_action o m f cs es p q) ≡ told (spec.unseen_action o m f cs es r s)
unseen_told (Some c) m f cs es p q r s = refl
unseen_told None (Some i) f cs es p q r s = refl
unseen_told None None f cs es p q r s = refl

called_told : (f : ℕ) (t : TypedProcedure) (b : Option TypedBlock) (cs : List Column) (es : List TypedExpression) (done : ℕ) (p q r s : Point) →
    told (spec.called_action f t b cs es done p q) ≡ told (spec.called_action f t b cs es done r s)
called_told f t None cs es done p q r s =
    unseen_told (slice_get (spec.chosen_columns t) done) (slice_get (spec.ensured_conditions t.specs) (done - length (spec.chosen_columns t))) f cs es p q r s
called_told f t (Some b) cs es done p q r s = refl

demand_told : (o : Option TypedInvariant) (id f : ℕ) (t : TypedProcedure) (at : Span) (cs : List Column) (es : List TypedExpression) (done : ℕ) (p q r s : Point) →
    told (spec.call_action o id f t at cs es done p q) ≡ told (spec.call_action o id f t at cs es done r s)
demand_told (Some i) id f t at cs es done p q r s = refl
demand_told None id f t at cs es done p q r s = called_told f t t.body cs es done p q r s

pub call_told : (o : Option TypedProcedure) (id f : ℕ) (at : Span) (cs : List Column) (es : List TypedExpression) (here after : Point) →
    told (spec.call_if_any o id f at cs es here after) ≡ told (spec.call_if_any o id f at cs es (at_part here.part) at_exit)
call_told None id f at cs es here after = refl
call_told (Some t) id f at cs es here after =
    demand_told (slice_get (spec.plain_conditions t.specs) here.part) (id + here.part) f t at cs es (here.part - length (spec.plain_conditions t.specs))
    here after (at_part here.part) at_exit

head_told : (o : Option TypedInvariant) (id : ℕ) (p q : Point) (g : TypedGuard) (a b c d : Point) →
    told (spec.head_action o id p (spec.guarded g a b)) ≡ told (spec.head_action o id q (spec.guarded g c d))
head_told None id p q g a b c d = guarded_told g a b c d
head_told (Some i) id p q g a b c d = checked_told i.free id i.span i.cond (spec.next_part p) (spec.next_part q)

ways_counted : (procs : List TypedProcedure) (body : TypedBlock) (id at : ℕ) (ks : List ℕ) → length (spec.ways_to procs body id at ks) ≡ length (map (λ k. at_exit) ks)
ways_counted procs body id at [] = refl
ways_counted procs body id at (k ∷ ks) = ap suc (ways_counted procs body id at ks)

goto_told : (procs : List TypedProcedure) (body : TypedBlock) (id at : ℕ) (ks : List ℕ) →
    told (spec.one_of (spec.ways_to procs body id at ks)) ≡ told (spec.one_of (map (λ k. at_exit) ks))
goto_told procs body id at [] = refl
goto_told procs body id at (k ∷ []) = refl
goto_told procs body id at (k ∷ l ∷ ks) = ap (λ n. Pick (suc (suc n))) (ways_counted procs body id at ks)

pub statement_told : (procs : List TypedProcedure) (body : TypedBlock) (first start : ℕ) (s : TypedStatement) (b : TypedBlock) (l : Bool) (id at : ℕ) (under : List Todo) (here : Point) →
    told (spec.statement_action procs body first start s b l id at under here) ≡ told_of procs s id here.part
statement_told procs body first start (Assert p e) b l id at under here = refl
statement_told procs body first start (Assume p e) b l id at under here = refl
statement_told procs body first start (Havoc p cs) b l id at under here = havoc_told (slice_get cs here.part) (slice_get cs (here.part + 1)) here _
statement_told procs body first start (Assign p cs es) b l id at under here = refl
statement_told procs body first start (Call p cs f es) b l id at under here = call_told (slice_get procs f) id f p cs es here _
statement_told procs body first start (If p g x y) b l id at under here = guarded_told g _ _ at_exit at_exit
statement_told procs body first start (While p g is x) b l id at under here =
    head_told (slice_get is here.part) (id + plain_invariants (take here.part is)) here (at_part here.part) g _ _ at_exit at_exit
statement_told procs body first start (Break p n) b l id at under here = refl
statement_told procs body first start (Goto p ks) b l id at under here = goto_told procs body first start ks
statement_told procs body first start (Return p) b l id at under here = refl
statement_told procs body first start (Label n) b l id at under here = refl

pub stack_told : (procs : List TypedProcedure) (body : TypedBlock) (first start : ℕ) (ts us : List Todo) (t : Todo) (s : TypedStatement) (b : TypedBlock) (here : Point) →
    ts ≡ t ∷ us → t.rest ≡ Then s b → told (spec.body_action procs body first start ts here) ≡ told_of procs s t.id here.part
stack_told procs body first start ts us t s b here e f =
    ap (λ (xs : List Todo). told (spec.body_action procs body first start xs here)) e
    ∙ ap (λ (r : TypedBlock). told (spec.block_action procs body first start r t.of_loop t.id t.at us here)) f
    ∙ statement_told procs body first start s b t.of_loop t.id t.at us here

-- ---- from what is read

pub head_some : (o : Option TypedInvariant) (i : TypedInvariant) (m id : ℕ) (p : Point) (g : spec.Action) → Some i ≡ o → m ≡ id →
    told (spec.checked i.free m i.span i.cond at_exit) ≡ told (spec.head_action o id p g)
head_some o i m id p g e f =
    ap (λ (n : ℕ). told (spec.checked i.free n i.span i.cond at_exit)) f ∙ checked_told i.free id i.span i.cond at_exit (spec.next_part p)
    ∙ ap (λ (x : Option TypedInvariant). told (spec.head_action x id p g)) e

pub head_none : (o : Option TypedInvariant) (id : ℕ) (p : Point) (g : spec.Action) → None ≡ o → told g ≡ told (spec.head_action o id p g)
head_none o id p g e = ap (λ (x : Option TypedInvariant). told (spec.head_action x id p g)) e

pub taken_seen : (k : ℕ) (is : List TInv) → plain_invariants (map invariant (take k is)) ≡ plain_invariants (take k (map invariant is))
taken_seen k is = ap plain_invariants (sym (take-map invariant k is))

pub taken_fits : (k id : ℕ) (is : List TInv) → id + plain_invariants (map invariant is) < 2 ^ 32 → id + plain_invariants (map invariant (take k is)) < 2 ^ 32
taken_fits k id is h = omega (arith, taken_seen k is, taken_less k (map invariant is))

pub unseen_grant : (o : Option Column) (m : Option TypedInvariant) (i : TypedInvariant) (f : ℕ) (cs : List Column) (es : List TypedExpression) → None ≡ o → Some i ≡ m →
    Grant f es i.cond ≡ told (spec.unseen_action o m f cs es at_exit at_exit)
unseen_grant o m i f cs es e g =
    ap (λ (x : Option TypedInvariant). told (spec.unseen_action None x f cs es at_exit at_exit)) g ∙ ap (λ (x : Option Column). told (spec.unseen_action x m f cs es at_exit at_exit)) e

pub unseen_finish : (o : Option Column) (m : Option TypedInvariant) (f : ℕ) (cs : List Column) (es : List TypedExpression) → None ≡ o → None ≡ m →
    Finish f es cs ≡ told (spec.unseen_action o m f cs es at_exit at_exit)
unseen_finish o m f cs es e g =
    ap (λ (x : Option TypedInvariant). told (spec.unseen_action None x f cs es at_exit at_exit)) g ∙ ap (λ (x : Option Column). told (spec.unseen_action x m f cs es at_exit at_exit)) e

pub past_none : {A : Type 0} (xs : List A) (n : ℕ) → None ≡ slice_get xs n → length xs ≤ n
past_none [] n e = omega arith
past_none (x ∷ xs) zero e = cc
past_none (x ∷ xs) (suc n) e = omega (arith, past_none xs n e)

pub call_fits : (o : Option TypedProcedure) (q : TypedProcedure) (ss : List TypedSpecification) (id part : ℕ) (i : TypedInvariant) → Some q ≡ o → ss ≡ q.specs →
    Some i ≡ slice_get (plain_conditions ss) part → id + checked_at_call o < 2 ^ 32 → id + part < 2 ^ 32
call_fits o q ss id part i e f g h =
    let within : part < length (plain_conditions ss) = slice_get_within (plain_conditions ss) part i (sym g) in
    let counted : length (plain_conditions ss) ≡ plain_requires q.specs = plain_requires_counted ss ∙ ap plain_requires f in
    let asked : plain_requires q.specs ≡ checked_at_call o = ap checked_at_call e in
    omega (arith, within, counted, asked)

pub ruleset leaving = (checked_told, exit_told, taken_less, plain_ensures_counted)

ways_are : (a : spec.Action) → length (ways_of a) ≡ way_count (told a)
ways_are (spec.Check id at e next) = refl
ways_are (spec.Suppose e next) = refl
ways_are (spec.Demand id at e args next) = refl
ways_are (spec.Write cs es next) = refl
ways_are (spec.Guess c next) = refl
ways_are (spec.Test e hit miss) = refl
ways_are (spec.Pick ways) = refl
ways_are (spec.Jump next) = refl
ways_are (spec.Enter f args) = refl
ways_are (spec.Keep f args c next) = refl
ways_are (spec.Grant f args e next) = refl
ways_are (spec.Finish f args targets next) = refl
ways_are spec.Leave = refl

-- the number of ways is told
pub ways_told : (a : spec.Action) (t : Told) (n : ℕ) → n ≡ way_count t → t ≡ told a → length (ways_of a) ≡ n
ways_told a t n e f = ways_are a ∙ ap way_count (sym f) ∙ sym e

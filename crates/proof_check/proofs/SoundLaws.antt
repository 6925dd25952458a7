-- Steps that are sound, by the numbers of their nodes.
use Rattle.std.proofs.Common.{◌≡◌, ◌∙◌, ◌↔◌, ℕ, ◌<◌, Bool, true, false, List, length, Option, Some, sym, subst, inl, inr}
use Rattle.std.specs.Prelude.{slice_get, IsTrue}
use Rattle.std.proofs.lemmas.Bool.{false≢true}
use Rattle.nwa_base.specs.declared.letters.Letter.{Letter}
use Rattle.nwa_base.specs.Members.{Member}
use Rattle.nwa_base.specs.Automata.{Automaton}
use Rattle.letter_acts.specs.Acts.{PlainAct}
use Rattle.letter_acts.specs.Invariant.{Graph}
use Rattle.triple_rows.proofs.ListLaws.{something_at}
use Rattle.proof_names.specs.declared.outlines.NamedStep.TheVariants as steps
use Rattle.proof_names.specs.Outlines.{OutlineNode, Sketch}
use Rattle.proof_check.specs.Steps.{IsNode, IsOf, InsideIsSound, CallIsSound, BackIsSound, StepIsSound, ReturnIsSound}
use Rattle.proof_check.specs.Ties.Plans.{IsOfNode}
use Rattle.proof_check.specs.Ties.Sound.{InsideIsShown, CallIsShown, BackIsShown, InsideIsSoundAt, CallIsSoundAt, BackIsSoundAt, StepIsSoundAt, ReturnIsSoundAt}

of_node : (nodes : List OutlineNode) (q n : ℕ) (x : OutlineNode) → slice_get nodes n ≡ Some x → IsOfNode nodes q n → IsOf q x
of_node nodes q n x e (inl z) = inl z
of_node nodes q n x e (inr h) = let c : h.0 ≡ x = let f = h.1 in cc in inr (subst (λ (y : OutlineNode). Member y.preds q) c h.2)

node_of : (nodes : List OutlineNode) (q n : ℕ) (x : OutlineNode) → slice_get nodes n ≡ Some x → IsOf q x → IsOfNode nodes q n
node_of nodes q n x e (inl z) = inl z
node_of nodes q n x e (inr h) = inr (x, e, h)

same_node : (s : Sketch) (n : ℕ) (x y : OutlineNode) → IsNode s n x → IsNode s n y → x ≡ y
same_node s n x y e f = cc

-- what is tested of a step by an inside letter
pub record InsideTested (g : Graph) (s : Sketch) (n : ℕ) (a : Letter) (before end : OutlineNode) : Type 0 where
  pub edge : Member g.automaton.insides (before.place, a, end.place)
  pub entry : end.entry ≡ before.entry
  pub shown : InsideIsShown s a.id n end.preds

pub inside_tested : (g : Graph) (s : Sketch) (n m : ℕ) (a : Letter) (before end : OutlineNode) → IsNode s n before → IsNode s m end →
    InsideTested g s n a before end ↔ InsideIsSoundAt g s n a m
inside_tested g s n m a before end i j = (there, back)
  where
    there : InsideTested g s n a before end → InsideIsSoundAt g s n a m
    there t b e p q =
        let x : before ≡ b = same_node s n before b i p in
        let y : end ≡ e = same_node s m end e j q in
        let r : InsideIsSound g s a before end = record {
          edge = t.edge;
          entry = t.entry;
          shown = λ r h. let w = t.shown r h in (w.0, w.1, of_node s.nodes w.0 n before i w.2);
        } in
        subst (λ (v : OutlineNode). InsideIsSound g s a v e) x (subst (λ (v : OutlineNode). InsideIsSound g s a before v) y r)

    back : InsideIsSoundAt g s n a m → InsideTested g s n a before end
    back h =
        let r = h before end i j in
        record { edge = r.edge; entry = r.entry; shown = λ k m. let w = r.shown k m in (w.0, w.1, node_of s.nodes w.0 n before i w.2) }

-- the same of a call letter
pub record CallTested (g : Graph) (s : Sketch) (n m : ℕ) (a : Letter) (before end : OutlineNode) : Type 0 where
  pub edge : Member g.automaton.calls (before.place, a, end.place)
  pub entry : end.entry ≡ m
  pub shown : CallIsShown s a.id n end.preds

pub call_tested : (g : Graph) (s : Sketch) (n m : ℕ) (a : Letter) (before end : OutlineNode) → IsNode s n before → IsNode s m end →
    CallTested g s n m a before end ↔ CallIsSoundAt g s n a m
call_tested g s n m a before end i j = (there, back)
  where
    there : CallTested g s n m a before end → CallIsSoundAt g s n a m
    there t b e p q =
        let x : before ≡ b = same_node s n before b i p in
        let y : end ≡ e = same_node s m end e j q in
        let r : CallIsSound g s a before m end = record {
          edge = t.edge;
          entry = t.entry;
          shown = λ r h. let w = t.shown r h in (w.0, w.1, of_node s.nodes w.0 n before i w.2);
        } in
        subst (λ (v : OutlineNode). CallIsSound g s a v m e) x (subst (λ (v : OutlineNode). CallIsSound g s a before m v) y r)

    back : CallIsSoundAt g s n a m → CallTested g s n m a before end
    back h =
        let r = h before end i j in
        record { edge = r.edge; entry = r.entry; shown = λ k l. let w = r.shown k l in (w.0, w.1, node_of s.nodes w.0 n before i w.2) }

-- the same of a return letter
pub record BackTested (g : Graph) (s : Sketch) (x c : ℕ) (a : Letter) (exit before end : OutlineNode) : Type 0 where
  pub edge : Member g.automaton.backs (exit.place, before.place, a, end.place)
  pub joined : Member s.steps (steps.Step c a.call exit.entry)
  pub entry : end.entry ≡ before.entry
  pub shown : BackIsShown s a.id x c end.preds

pub back_tested : (g : Graph) (s : Sketch) (x c m : ℕ) (a : Letter) (exit before end : OutlineNode) → IsNode s x exit → IsNode s c before → IsNode s m end →
    BackTested g s x c a exit before end ↔ BackIsSoundAt g s x c a m
back_tested g s x c m a exit before end h i j = (there, back)
  where
    there : BackTested g s x c a exit before end → BackIsSoundAt g s x c a m
    there t u b e o p q =
        let ex : exit ≡ u = same_node s x exit u h o in
        let bx : before ≡ b = same_node s c before b i p in
        let y : end ≡ e = same_node s m end e j q in
        let r : BackIsSound g s a exit c before end = record {
          edge = t.edge;
          joined = t.joined;
          entry = t.entry;
          shown = λ r k. let w = t.shown r k in (w.0, w.1, w.2, of_node s.nodes w.0 x exit h w.3, of_node s.nodes w.1 c before i w.4);
        } in
        subst (λ (v : OutlineNode). BackIsSound g s a v c b e) ex
        (subst (λ (v : OutlineNode). BackIsSound g s a exit c v e) bx (subst (λ (v : OutlineNode). BackIsSound g s a exit c before v) y r))

    back : BackIsSoundAt g s x c a m → BackTested g s x c a exit before end
    back f =
        let r = f exit before end h i j in
        record {
          edge = r.edge;
          joined = r.joined;
          entry = r.entry;
          shown = λ k l. let w = r.shown k l in (w.0, w.1, w.2, node_of s.nodes w.0 x exit h w.3, node_of s.nodes w.1 c before i w.4);
        }

-- ---- what the tests of a step say

-- a test that tells a fact, and fails or passes
fails : {P : Type 0} (b : Bool) → (IsTrue b ↔ P) → b ≡ false → P → ⊥
fails b h e p = false≢true (sym e ∙ h.1 p)

-- where a test fails, the step is not sound
not_sound : {P : Type 0} → (P → ⊥) → (IsTrue false → P) × (P → IsTrue false)
not_sound h = (λ f. absurd (false≢true f), λ p. absurd (h p))

pub inside_no_edge : (g : Graph) (s : Sketch) (n m : ℕ) (a : Letter) (before end : OutlineNode) (k : Automaton) (b : Bool) → IsNode s n before → IsNode s m end → k ≡ g.automaton →
    (IsTrue b ↔ Member k.insides (before.place, a, end.place)) → b ≡ false → (IsTrue false → InsideIsSoundAt g s n a m) × (InsideIsSoundAt g s n a m → IsTrue false)
inside_no_edge g s n m a before end k b i j e h f =
    not_sound (λ p. fails b h f (subst (λ (x : Automaton). Member x.insides (before.place, a, end.place)) (sym e) ((inside_tested g s n m a before end i j).1 p).edge))

pub inside_other_entry : (g : Graph) (s : Sketch) (n m : ℕ) (a : Letter) (before end : OutlineNode) → IsNode s n before → IsNode s m end → (end.entry ≡ before.entry → ⊥) →
    (IsTrue false → InsideIsSoundAt g s n a m) × (InsideIsSoundAt g s n a m → IsTrue false)
inside_other_entry g s n m a before end i j h = not_sound (λ p. h ((inside_tested g s n m a before end i j).1 p).entry)

pub inside_rest : (g : Graph) (s : Sketch) (n m : ℕ) (a : Letter) (before end : OutlineNode) (k : Automaton) (b r : Bool) (ps : List ℕ) → IsNode s n before → IsNode s m end → k ≡ g.automaton →
    (IsTrue b ↔ Member k.insides (before.place, a, end.place)) → b ≡ true → end.entry ≡ before.entry → ps ≡ end.preds → (IsTrue r ↔ InsideIsShown s a.id n ps) →
    (IsTrue r → InsideIsSoundAt g s n a m) × (InsideIsSoundAt g s n a m → IsTrue r)
inside_rest g s n m a before end k b r ps i j e h f t q w =
    let k = inside_tested g s n m a before end i j in
    let l : Member g.automaton.insides (before.place, a, end.place) = subst (λ (x : Automaton). Member x.insides (before.place, a, end.place)) e (h.0 f) in
    (λ v. k.0 (record { edge = l; entry = t; shown = subst (InsideIsShown s a.id n) q (w.0 v) }), λ p. w.1 (subst (InsideIsShown s a.id n) (sym q) (k.1 p).shown))

pub call_no_edge : (g : Graph) (s : Sketch) (n m : ℕ) (a : Letter) (before end : OutlineNode) (b : Bool) → IsNode s n before → IsNode s m end →
    (IsTrue b ↔ Member g.automaton.calls (before.place, a, end.place)) → b ≡ false → (IsTrue false → CallIsSoundAt g s n a m) × (CallIsSoundAt g s n a m → IsTrue false)
call_no_edge g s n m a before end b i j h f = not_sound (λ p. fails b h f ((call_tested g s n m a before end i j).1 p).edge)

pub call_other_entry : (g : Graph) (s : Sketch) (n m : ℕ) (a : Letter) (before end : OutlineNode) → IsNode s n before → IsNode s m end → (end.entry ≡ m → ⊥) →
    (IsTrue false → CallIsSoundAt g s n a m) × (CallIsSoundAt g s n a m → IsTrue false)
call_other_entry g s n m a before end i j h = not_sound (λ p. h ((call_tested g s n m a before end i j).1 p).entry)

pub call_rest : (g : Graph) (s : Sketch) (n m : ℕ) (a : Letter) (before end : OutlineNode) (b r : Bool) (ps : List ℕ) → IsNode s n before → IsNode s m end →
    (IsTrue b ↔ Member g.automaton.calls (before.place, a, end.place)) → b ≡ true → end.entry ≡ m → ps ≡ end.preds → (IsTrue r ↔ CallIsShown s a.id n ps) →
    (IsTrue r → CallIsSoundAt g s n a m) × (CallIsSoundAt g s n a m → IsTrue r)
call_rest g s n m a before end b r ps i j h f t q w =
    let k = call_tested g s n m a before end i j in
    (λ v. k.0 (record { edge = h.0 f; entry = t; shown = subst (CallIsShown s a.id n) q (w.0 v) }), λ p. w.1 (subst (CallIsShown s a.id n) (sym q) (k.1 p).shown))

pub back_no_edge : (g : Graph) (s : Sketch) (x c m : ℕ) (a : Letter) (exit before end : OutlineNode) (k : Automaton) (b : Bool) → IsNode s x exit → IsNode s c before → IsNode s m end →
    k ≡ g.automaton → (IsTrue b ↔ Member k.backs (exit.place, before.place, a, end.place)) → b ≡ false →
    (IsTrue false → BackIsSoundAt g s x c a m) × (BackIsSoundAt g s x c a m → IsTrue false)
back_no_edge g s x c m a exit before end k b i j l e h f =
    not_sound (λ p. fails b h f (subst (λ (y : Automaton). Member y.backs (exit.place, before.place, a, end.place)) (sym e) ((back_tested g s x c m a exit before end i j l).1 p).edge))

pub back_not_joined : (g : Graph) (s : Sketch) (x c m : ℕ) (a : Letter) (exit before end : OutlineNode) (b : Bool) → IsNode s x exit → IsNode s c before → IsNode s m end →
    (IsTrue b ↔ Member s.steps (steps.Step c a.call exit.entry)) → b ≡ false → (IsTrue false → BackIsSoundAt g s x c a m) × (BackIsSoundAt g s x c a m → IsTrue false)
back_not_joined g s x c m a exit before end b i j l h f = not_sound (λ p. fails b h f ((back_tested g s x c m a exit before end i j l).1 p).joined)

pub back_other_entry : (g : Graph) (s : Sketch) (x c m : ℕ) (a : Letter) (exit before end : OutlineNode) → IsNode s x exit → IsNode s c before → IsNode s m end →
    (end.entry ≡ before.entry → ⊥) → (IsTrue false → BackIsSoundAt g s x c a m) × (BackIsSoundAt g s x c a m → IsTrue false)
back_other_entry g s x c m a exit before end i j l h = not_sound (λ p. h ((back_tested g s x c m a exit before end i j l).1 p).entry)

pub back_rest : (g : Graph) (s : Sketch) (x c m : ℕ) (a : Letter) (exit before end : OutlineNode) (k : Automaton) (b d r : Bool) (ps : List ℕ) → IsNode s x exit → IsNode s c before →
    IsNode s m end → k ≡ g.automaton → (IsTrue b ↔ Member k.backs (exit.place, before.place, a, end.place)) → b ≡ true →
    (IsTrue d ↔ Member s.steps (steps.Step c a.call exit.entry)) → d ≡ true → end.entry ≡ before.entry → ps ≡ end.preds → (IsTrue r ↔ BackIsShown s a.id x c ps) →
    (IsTrue r → BackIsSoundAt g s x c a m) × (BackIsSoundAt g s x c a m → IsTrue r)
back_rest g s x c m a exit before end k b d r ps i j l e h f u v t q w =
    let z = back_tested g s x c m a exit before end i j l in
    let y : Member g.automaton.backs (exit.place, before.place, a, end.place) =
    subst (λ (y : Automaton). Member y.backs (exit.place, before.place, a, end.place)) e (h.0 f) in
    (λ o. z.0 (record { edge = y; joined = u.0 v; entry = t; shown = subst (BackIsShown s a.id x c) q (w.0 o) }), λ p. w.1 (subst (BackIsShown s a.id x c) (sym q) (z.1 p).shown))

-- ---- steps by their letter's act

pub step_by_act : (g : Graph) (s : Sketch) (n l m : ℕ) (o : Option PlainAct) (r : Bool) → o ≡ slice_get g.acts l →
    (IsTrue r ↔ ((before end : OutlineNode) → IsNode s n before → IsNode s m end → StepIsSound g s l before m end o)) →
    (IsTrue r → StepIsSoundAt g s n l m) × (StepIsSoundAt g s n l m → IsTrue r)
step_by_act g s n l m o r e h = (
  λ t before end i j. subst (λ (x : Option PlainAct). StepIsSound g s l before m end x) e (h.0 t before end i j),
  λ k. h.1 (λ before end i j. subst (λ (x : Option PlainAct). StepIsSound g s l before m end x) (sym e) (k before end i j)),
)

pub step_by_none : (g : Graph) (s : Sketch) (n l m : ℕ) (o : Option PlainAct) → n < length s.nodes → m < length s.nodes → o ≡ slice_get g.acts l →
    ((before end : OutlineNode) → StepIsSound g s l before m end o → ⊥) → (IsTrue false → StepIsSoundAt g s n l m) × (StepIsSoundAt g s n l m → IsTrue false)
step_by_none g s n l m o a b e h =
    let x = something_at s.nodes n a in
    let y = something_at s.nodes m b in
    not_sound (λ k. h x.0 y.0 (subst (λ (z : Option PlainAct). StepIsSound g s l x.0 m y.0 z) (sym e) (k x.0 y.0 x.1 y.1)))

pub return_by_act : (g : Graph) (s : Sketch) (x c l m : ℕ) (o : Option PlainAct) (r : Bool) → o ≡ slice_get g.acts l →
    (IsTrue r ↔ ((exit before end : OutlineNode) → IsNode s x exit → IsNode s c before → IsNode s m end → ReturnIsSound g s l exit c before end o)) →
    (IsTrue r → ReturnIsSoundAt g s x c l m) × (ReturnIsSoundAt g s x c l m → IsTrue r)
return_by_act g s x c l m o r e h = (
  λ t exit before end i j k. subst (λ (z : Option PlainAct). ReturnIsSound g s l exit c before end z) e (h.0 t exit before end i j k),
  λ w. h.1 (λ exit before end i j k. subst (λ (z : Option PlainAct). ReturnIsSound g s l exit c before end z) (sym e) (w exit before end i j k)),
)

pub return_by_none : (g : Graph) (s : Sketch) (x c l m : ℕ) (o : Option PlainAct) → x < length s.nodes → c < length s.nodes → m < length s.nodes → o ≡ slice_get g.acts l →
    ((exit before end : OutlineNode) → ReturnIsSound g s l exit c before end o → ⊥) → (IsTrue false → ReturnIsSoundAt g s x c l m) × (ReturnIsSoundAt g s x c l m → IsTrue false)
return_by_none g s x c l m o a b d e h =
    let u = something_at s.nodes x a in
    let v = something_at s.nodes c b in
    let w = something_at s.nodes m d in
    not_sound (λ k. h u.0 v.0 w.0 (subst (λ (z : Option PlainAct). ReturnIsSound g s l u.0 c v.0 w.0 z) (sym e) (k u.0 v.0 w.0 u.1 v.1 w.1)))

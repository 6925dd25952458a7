-- What triples and steps enter into the indexes.
use Rattle.std.proofs.Common.{◌≡◌, ◌∙◌, ℕ, Bool, true, false, not, ◌&&◌, eqb, List, Option, None, Some, refl, sym, ap, subst}
use Rattle.std.specs.Prelude.{slice_get}
use Rattle.std.specs.Option.{option_map}
use Rattle.std.proofs.lemmas.Bool.{eqb-true, false≢true}
use Rattle.std.proofs.lemmas.Option.{same_Some}
use Rattle.nwa_base.specs.Members.{Member}
use Rattle.nwa_base.proofs.LetterLemmas.{and_left, and_right, and_both, eqb-refl}
use Rattle.proof_names.specs.declared.outlines.Listed.{Listed}
use Rattle.proof_names.specs.declared.outlines.Listed.TheVariants.{Inside, Call, Back}
use Rattle.proof_names.specs.declared.outlines.NamedTriple.{NamedTriple}
use Rattle.proof_names.specs.declared.outlines.NamedStep.{NamedStep}
use Rattle.proof_names.specs.declared.outlines.NamedStep.TheVariants as steps
use Rattle.proof_names.specs.Outlines.{OutlineNode, Sketch}
use Rattle.proof_check.specs.Steps.{HasStepTo, BacksTo}
use Rattle.proof_check.specs.Ties.Plans.{AreGroups, IsTest, InsideSource, CallSource, BackSource, Entering, Stepped, Landed, BackLanded}
use Rattle.proof_check.proofs.IndexLaws.{Enters, HasGroups, HasKeys, TellsKeys}

-- ---- keys of numbers

pub tells_one : TellsKeys (λ (k l : ℕ). eqb k l)
tells_one = record { same = λ k l e. eqb-true k l e; itself = λ k. eqb-refl k }

pub tells_two : TellsKeys (λ (k l : ℕ × ℕ). eqb k.0 l.0 && eqb k.1 l.1)
tells_two = record {
  same = λ k l e.
      let a = eqb-true k.0 l.0 (and_left (eqb k.0 l.0) (eqb k.1 l.1) e) in
      let b = eqb-true k.1 l.1 (and_right (eqb k.0 l.0) (eqb k.1 l.1) e) in
      λ i. (a i, b i);
  itself = λ k. and_both (eqb k.0 k.0) (eqb k.1 k.1) (eqb-refl k.0) (eqb-refl k.1);
}

pub tells_three : TellsKeys (λ (k l : ℕ × ℕ × ℕ). (eqb k.0 l.0 && eqb k.1 l.1) && eqb k.2 l.2)
tells_three = record {
  same = λ k l e.
      let r = and_left (eqb k.0 l.0 && eqb k.1 l.1) (eqb k.2 l.2) e in
      let a = eqb-true k.0 l.0 (and_left (eqb k.0 l.0) (eqb k.1 l.1) r) in
      let b = eqb-true k.1 l.1 (and_right (eqb k.0 l.0) (eqb k.1 l.1) r) in
      let c = eqb-true k.2 l.2 (and_right (eqb k.0 l.0 && eqb k.1 l.1) (eqb k.2 l.2) e) in
      λ i. (a i, b i, c i);
  itself = λ k.
      and_both (eqb k.0 k.0 && eqb k.1 k.1) (eqb k.2 k.2) (and_both (eqb k.0 k.0) (eqb k.1 k.1) (eqb-refl k.0) (eqb-refl k.1)) (eqb-refl k.2);
}

pub tells_four : TellsKeys (λ (k l : ℕ × ℕ × ℕ × ℕ). ((eqb k.0 l.0 && eqb k.1 l.1) && eqb k.2 l.2) && eqb k.3 l.3)
tells_four = record {
  same = λ k l e.
      let r = and_left ((eqb k.0 l.0 && eqb k.1 l.1) && eqb k.2 l.2) (eqb k.3 l.3) e in
      let s = and_left (eqb k.0 l.0 && eqb k.1 l.1) (eqb k.2 l.2) r in
      let a = eqb-true k.0 l.0 (and_left (eqb k.0 l.0) (eqb k.1 l.1) s) in
      let b = eqb-true k.1 l.1 (and_right (eqb k.0 l.0) (eqb k.1 l.1) s) in
      let c = eqb-true k.2 l.2 (and_right (eqb k.0 l.0 && eqb k.1 l.1) (eqb k.2 l.2) r) in
      let d = eqb-true k.3 l.3 (and_right ((eqb k.0 l.0 && eqb k.1 l.1) && eqb k.2 l.2) (eqb k.3 l.3) e) in
      λ i. (a i, b i, c i, d i);
  itself = λ k.
      and_both ((eqb k.0 k.0 && eqb k.1 k.1) && eqb k.2 k.2) (eqb k.3 k.3)
      (and_both (eqb k.0 k.0 && eqb k.1 k.1) (eqb k.2 k.2) (and_both (eqb k.0 k.0) (eqb k.1 k.1) (eqb-refl k.0) (eqb-refl k.1)) (eqb-refl k.2)) (eqb-refl k.3);
}

-- ---- sources of triples

abbrev pub inside_of : Listed → Option ((ℕ × ℕ) × ℕ)
inside_of (Inside q l r) = Some ((l, r), q)
inside_of (Call q l r) = None
inside_of (Back x b l r) = None

abbrev pub call_of : Listed → Option ((ℕ × ℕ) × ℕ)
call_of (Inside q l r) = None
call_of (Call q l r) = Some ((l, r), q)
call_of (Back x b l r) = None

abbrev pub back_of : Listed → Option ((ℕ × ℕ) × (ℕ × ℕ))
back_of (Inside q l r) = None
back_of (Call q l r) = None
back_of (Back x b l r) = Some ((l, r), (x, b))

abbrev pub inside_entry : NamedTriple → Option ((ℕ × ℕ) × ℕ)
inside_entry t = inside_of t.listed

abbrev pub call_entry : NamedTriple → Option ((ℕ × ℕ) × ℕ)
call_entry t = call_of t.listed

abbrev pub back_entry : NamedTriple → Option ((ℕ × ℕ) × (ℕ × ℕ))
back_entry t = back_of t.listed

inside_is : (n : Listed) (k : ℕ × ℕ) (q : ℕ) → inside_of n ≡ Some (k, q) → n ≡ Inside q k.0 k.1
inside_is (Inside a b c) k q e = let p = same_Some ((b, c), a) (k, q) e in λ i. Inside (p i).1 (p i).0.0 (p i).0.1
inside_is (Call a b c) k q e = absurd (cc)
inside_is (Back x b l r) k q e = absurd (cc)

call_is : (n : Listed) (k : ℕ × ℕ) (q : ℕ) → call_of n ≡ Some (k, q) → n ≡ Call q k.0 k.1
call_is (Inside a b c) k q e = absurd (cc)
call_is (Call a b c) k q e = let p = same_Some ((b, c), a) (k, q) e in λ i. Call (p i).1 (p i).0.0 (p i).0.1
call_is (Back x b l r) k q e = absurd (cc)

back_is : (n : Listed) (k s : ℕ × ℕ) → back_of n ≡ Some (k, s) → n ≡ Back s.0 s.1 k.0 k.1
back_is (Inside a b c) k s e = absurd (cc)
back_is (Call a b c) k s e = absurd (cc)
back_is (Back x b l r) k s e = let p = same_Some ((l, r), (x, b)) (k, s) e in λ i. Back (p i).1.0 (p i).1.1 (p i).0.0 (p i).0.1

pub inside_groups : (triples : List NamedTriple) (groups : ℕ × ℕ → List ℕ) → HasGroups inside_entry triples groups → AreGroups (InsideSource triples) groups
inside_groups triples groups h k q = (
  λ m. let n = (h k q).0 m in record { triple = n.0; stands = n.1; has = inside_is n.0.listed k q n.2 },
  λ l. (h k q).1 (l.triple, l.stands, ap inside_of l.has),
)

pub call_groups : (triples : List NamedTriple) (groups : ℕ × ℕ → List ℕ) → HasGroups call_entry triples groups → AreGroups (CallSource triples) groups
call_groups triples groups h k q = (
  λ m. let n = (h k q).0 m in record { triple = n.0; stands = n.1; has = call_is n.0.listed k q n.2 },
  λ l. (h k q).1 (l.triple, l.stands, ap call_of l.has),
)

pub back_groups : (triples : List NamedTriple) (groups : ℕ × ℕ → List (ℕ × ℕ)) → HasGroups back_entry triples groups → AreGroups (BackSource triples) groups
back_groups triples groups h k s = (
  λ m. let n = (h k s).0 m in record { triple = n.0; stands = n.1; has = back_is n.0.listed k s n.2 },
  λ l. (h k s).1 (l.triple, l.stands, ap back_of l.has),
)

-- ---- steps

abbrev pub entering_entry : NamedStep → Option (ℕ × (ℕ × ℕ))
entering_entry (steps.Step n l m) = Some (m, (n, l))
entering_entry (steps.Back x c l m) = None

abbrev pub step_key : NamedStep → Option (ℕ × ℕ × ℕ)
step_key (steps.Step n l m) = Some (n, l, m)
step_key (steps.Back x c l m) = None

entering_is : (t : NamedStep) (m : ℕ) (s : ℕ × ℕ) → entering_entry t ≡ Some (m, s) → t ≡ steps.Step s.0 s.1 m
entering_is (steps.Step n l k) m s e = let p = same_Some (k, (n, l)) (m, s) e in λ i. steps.Step (p i).1.0 (p i).1.1 (p i).0
entering_is (steps.Back x c l k) m s e = absurd (cc)

step_is : (t : NamedStep) (k : ℕ × ℕ × ℕ) → step_key t ≡ Some k → t ≡ steps.Step k.0 k.1 k.2
step_is (steps.Step n l m) k e = let p = same_Some (n, l, m) k e in λ i. steps.Step (p i).0 (p i).1 (p i).2
step_is (steps.Back x c l m) k e = absurd (cc)

pub entering_groups : (moves : List NamedStep) (groups : ℕ → List (ℕ × ℕ)) → HasGroups entering_entry moves groups → AreGroups (Entering moves) groups
entering_groups moves groups h m s = (
  λ g. let n = (h m s).0 g in subst (λ (t : NamedStep). Member moves t) (entering_is n.0 m s n.2) n.1,
  λ g. (h m s).1 (steps.Step s.0 s.1 m, g, refl),
)

pub step_keys : (moves : List NamedStep) (has : ℕ × ℕ × ℕ → Bool) → HasKeys step_key moves has → IsTest (Stepped moves) has
step_keys moves has h k = (
  λ g. let n = (h k).0 g in subst (λ (t : NamedStep). Member moves t) (step_is n.0 k n.2) n.1,
  λ g. (h k).1 (steps.Step k.0 k.1 k.2, g, refl),
)

-- what is seen as a step enters the groups
pub seen_enters : (moves : List NamedStep) (k : ℕ × ℕ × ℕ) → Enters step_key moves k → Enters entering_entry moves (k.2, (k.0, k.1))
seen_enters moves k n = (n.0, n.1, ap entering_entry (step_is n.0 k n.2))

abbrev pub landed_key : List OutlineNode → NamedStep → Option (ℕ × ℕ × ℕ)
landed_key nodes (steps.Step n l m) = option_map (λ x. (n, l, x.place)) (slice_get nodes m)
landed_key nodes (steps.Back x c l m) = None

abbrev pub back_landed_key : List OutlineNode → NamedStep → Option (ℕ × ℕ × ℕ × ℕ)
back_landed_key nodes (steps.Step n l m) = None
back_landed_key nodes (steps.Back x c l m) = option_map (λ y. (x, c, l, y.place)) (slice_get nodes m)

landed_at : (s : Sketch) (n l m : ℕ) (k : ℕ × ℕ × ℕ) (o : Option OutlineNode) → slice_get s.nodes m ≡ o → option_map (λ x. (n, l, x.place)) o ≡ Some k →
    Member s.steps (steps.Step n l m) → HasStepTo s k.0 k.1 k.2
landed_at s n l m k None g e h = absurd (cc)
landed_at s n l m k (Some x) g e h =
    let p = same_Some (n, l, x.place) k e in
    record {
      number = m;
      end = x;
      stands = g;
      at = ap (λ (j : ℕ × ℕ × ℕ). j.2) p;
      step = subst (λ (j : ℕ × ℕ × ℕ). Member s.steps (steps.Step j.0 j.1 m)) p h;
    }

landed_by : (s : Sketch) (t : NamedStep) (k : ℕ × ℕ × ℕ) → landed_key s.nodes t ≡ Some k → Member s.steps t → HasStepTo s k.0 k.1 k.2
landed_by s (steps.Step n l m) k e h = landed_at s n l m k (slice_get s.nodes m) refl e h
landed_by s (steps.Back x c l m) k e h = absurd (cc)

pub landed_keys : (s : Sketch) (has : ℕ × ℕ × ℕ → Bool) → HasKeys (landed_key s.nodes) s.steps has → IsTest (Landed s) has
landed_keys s has h k = (
  λ g. let n = (h k).0 g in landed_by s n.0 k n.2 n.1,
  λ r. (h k).1 (
    steps.Step k.0 k.1 r.number,
    r.step,
    ap (option_map (λ (x : OutlineNode). (k.0, k.1, x.place))) r.stands ∙ ap (λ (q : ℕ). Some (k.0, k.1, q)) r.at,
  ),
)

back_landed_at : (s : Sketch) (x c l m : ℕ) (k : ℕ × ℕ × ℕ × ℕ) (o : Option OutlineNode) → slice_get s.nodes m ≡ o → option_map (λ y. (x, c, l, y.place)) o ≡ Some k →
    Member s.steps (steps.Back x c l m) → BacksTo s k.0 k.1 k.2 k.3
back_landed_at s x c l m k None g e h = absurd (cc)
back_landed_at s x c l m k (Some y) g e h =
    let p = same_Some (x, c, l, y.place) k e in
    record {
      number = m;
      end = y;
      stands = g;
      at = ap (λ (j : ℕ × ℕ × ℕ × ℕ). j.3) p;
      back = subst (λ (j : ℕ × ℕ × ℕ × ℕ). Member s.steps (steps.Back j.0 j.1 j.2 m)) p h;
    }

back_landed_by : (s : Sketch) (t : NamedStep) (k : ℕ × ℕ × ℕ × ℕ) → back_landed_key s.nodes t ≡ Some k → Member s.steps t → BacksTo s k.0 k.1 k.2 k.3
back_landed_by s (steps.Step n l m) k e h = absurd (cc)
back_landed_by s (steps.Back x c l m) k e h = back_landed_at s x c l m k (slice_get s.nodes m) refl e h

pub back_landed_keys : (s : Sketch) (has : ℕ × ℕ × ℕ × ℕ → Bool) → HasKeys (back_landed_key s.nodes) s.steps has → IsTest (BackLanded s) has
back_landed_keys s has h k = (
  λ g. let n = (h k).0 g in back_landed_by s n.0 k n.2 n.1,
  λ r. (h k).1 (
    steps.Back k.0 k.1 k.2 r.number,
    r.back,
    ap (option_map (λ (y : OutlineNode). (k.0, k.1, k.2, y.place))) r.stands ∙ ap (λ (q : ℕ). Some (k.0, k.1, k.2, q)) r.at,
  ),
)

-- the tests of keys that are pairs, triples and so on of numbers
abbrev pub same_two : ℕ × ℕ → ℕ × ℕ → Bool
same_two k l = eqb k.0 l.0 && eqb k.1 l.1

abbrev pub same_three : ℕ × ℕ × ℕ → ℕ × ℕ × ℕ → Bool
same_three k l = (eqb k.0 l.0 && eqb k.1 l.1) && eqb k.2 l.2

abbrev pub same_four : ℕ × ℕ × ℕ × ℕ → ℕ × ℕ × ℕ × ℕ → Bool
same_four k l = ((eqb k.0 l.0 && eqb k.1 l.1) && eqb k.2 l.2) && eqb k.3 l.3

-- ---- what is none of a kind enters nothing

pub not_inside : (n : Listed) → ((q l r : ℕ) → n ≡ Inside q l r → ⊥) → inside_of n ≡ None
not_inside (Inside q l r) h = absurd (h q l r refl)
not_inside (Call q l r) h = refl
not_inside (Back x b l r) h = refl

pub not_call : (n : Listed) → ((q l r : ℕ) → n ≡ Call q l r → ⊥) → call_of n ≡ None
not_call (Inside q l r) h = refl
not_call (Call q l r) h = absurd (h q l r refl)
not_call (Back x b l r) h = refl

pub not_back : (n : Listed) → ((x b l r : ℕ) → n ≡ Back x b l r → ⊥) → back_of n ≡ None
not_back (Inside q l r) h = refl
not_back (Call q l r) h = refl
not_back (Back x b l r) h = absurd (h x b l r refl)

-- ---- the place at the end

pub at_place : (o : Option OutlineNode) (n l p : ℕ) → Some p ≡ option_map (λ (x : OutlineNode). x.place) o → option_map {U = ℕ × ℕ × ℕ} (λ (x : OutlineNode). (n, l, x.place)) o ≡ Some (n, l, p)
at_place None n l p e = absurd (cc)
at_place (Some x) n l p e = let q : x.place ≡ p = sym (same_Some p x.place e) in ap (λ (k : ℕ). Some (n, l, k)) q

pub at_no_place : (o : Option OutlineNode) (n l : ℕ) → None ≡ option_map (λ (x : OutlineNode). x.place) o → option_map {U = ℕ × ℕ × ℕ} (λ (x : OutlineNode). (n, l, x.place)) o ≡ None
at_no_place None n l e = refl
at_no_place (Some x) n l e = absurd (cc)

pub back_at_place : (o : Option OutlineNode) (x c l p : ℕ) → Some p ≡ option_map (λ (y : OutlineNode). y.place) o → option_map {U = ℕ × ℕ × ℕ × ℕ} (λ (y : OutlineNode). (x, c, l, y.place)) o ≡ Some (x, c, l, p)
back_at_place None x c l p e = absurd (cc)
back_at_place (Some y) x c l p e = let q : y.place ≡ p = sym (same_Some p y.place e) in ap (λ (k : ℕ). Some (x, c, l, k)) q

pub back_at_no_place : (o : Option OutlineNode) (x c l : ℕ) → None ≡ option_map (λ (y : OutlineNode). y.place) o → option_map {U = ℕ × ℕ × ℕ × ℕ} (λ (y : OutlineNode). (x, c, l, y.place)) o ≡ None
back_at_no_place None x c l e = refl
back_at_no_place (Some y) x c l e = absurd (cc)

pub not_false : (b : Bool) → false ≡ not b → b ≡ true
not_false true e = refl
not_false false e = absurd (false≢true e)

-- Which items name something, stage by stage.
use Rattle.std.proofs.Common.{◌≡◌, ℕ, ◌+◌, ◌<◌, List, length, Option, None, Some, refl, sym, subst, inl, inr, arith}
use Rattle.std.specs.Prelude.{slice_get, IsSome}
use Rattle.letter_acts.specs.Invariant.{Graph}
use Rattle.letter_acts.proofs.ListLemmas.{below_or_from}
use Rattle.triple_rows.specs.declared.triples.Scoped.{Scoped}
use Rattle.triple_rows.proofs.ListLaws.{within, something_at}
use Rattle.proof_form.specs.declared.lines.StepLine.{StepLine}
use Rattle.proof_form.specs.Lines as form
use Rattle.proof_form.specs.Annotations.{Content}
use Rattle.proof_names.specs.declared.outlines.NamedTriple.{NamedTriple}
use Rattle.proof_names.specs.declared.outlines.NamedStep.{NamedStep}
use Rattle.proof_names.specs.Pairs.{ArePaired, IsAt}
use Rattle.proof_names.specs.Predicates.{pred_named}
use Rattle.proof_names.specs.Naming.{NamesTriple, NamesNode, NamesStep}
use Rattle.proof_names.specs.Outlines.{OutlineNode, Sketch}
use Rattle.proof_names.specs.Items.{pred_at, place_at, first_triple, first_node, first_step, IsNamed, IsFirstUnnamed, Names}

-- ---- the stages

abbrev pub PredsIn : Graph → ℕ → form.Pred → Scoped → Type 0
PredsIn g k line s = pred_named g line ≡ Some s

abbrev pub TriplesIn : Graph → Content → ℕ → form.Triple → NamedTriple → Type 0
TriplesIn g a k line t = NamesTriple g (pred_at g a) line t

abbrev pub NodesIn : Graph → Content → ℕ → form.Node → OutlineNode → Type 0
NodesIn g a n line x = NamesNode g (pred_at g a) a.nodes n line x

abbrev pub StepsIn : Graph → Content → ℕ → StepLine → NamedStep → Type 0
StepsIn g a k line t = NamesStep g (place_at a) line t

-- each line of the first stages names something
abbrev pub AllNamed : {X Y : Type 0} → (ℕ → X → Y → Type 0) → List X → Type 0
AllNamed {X} {Y} R xs = (k : ℕ) (x : X) → slice_get xs k ≡ Some x → (y : Y) × R k x y

pub all_named : {X Y : Type 0} (R : ℕ → X → Y → Type 0) (xs : List X) (ys : List Y) → ArePaired R xs ys → AllNamed R xs
all_named R xs ys a k x e =
    let l = within xs k x e in let c = a.count in let w = something_at ys k (omega (arith, l, c)) in
    (w.0, a.related k x w.0 e w.1)

some_is : {X : Type 0} (o : Option X) (x : X) → o ≡ Some x → IsSome o
some_is None x e = absurd (cc)
some_is (Some y) x e = refl

none_is : {X : Type 0} (o : Option X) → ((x : X) → o ≡ Some x → ⊥) → IsSome o → ⊥
none_is None h s = absurd (cc)
none_is (Some x) h s = h x refl

-- ---- items by their stage

in_preds : (g : Graph) (a : Content) (i : ℕ) → i < first_triple a → ((line : form.Pred) → slice_get a.preds i ≡ Some line → IsSome (pred_named g line)) → IsNamed g a i
in_preds g a i l h = record {
  preds = h;
  triples = λ k line e s. absurd (omega (arith, l, e));
  nodes = λ n line e s. absurd (omega (arith, l, e));
  steps = λ k line e s. absurd (omega (arith, l, e));
}

in_triples : (g : Graph) (a : Content) (i j : ℕ) → i ≡ first_triple a + j → j < length a.triples →
    ((line : form.Triple) → slice_get a.triples j ≡ Some line → (t : NamedTriple) × TriplesIn g a j line t) → IsNamed g a i
in_triples g a i j e l h = record {
  preds = λ line s. absurd (let w = within a.preds i line s in omega (arith, e, w));
  triples = λ k line f s. let c : k ≡ j = omega (arith, e, f) in h line (subst (λ (n : ℕ). slice_get a.triples n ≡ Some line) c s);
  nodes = λ n line f s. absurd (omega (arith, e, f, l));
  steps = λ k line f s. absurd (omega (arith, e, f, l));
}

in_nodes : (g : Graph) (a : Content) (i j : ℕ) → i ≡ first_node a + j → j < length a.nodes →
    ((line : form.Node) → slice_get a.nodes j ≡ Some line → (x : OutlineNode) × NodesIn g a j line x) → IsNamed g a i
in_nodes g a i j e l h = record {
  preds = λ line s. absurd (let w = within a.preds i line s in omega (arith, e, w));
  triples = λ k line f s. absurd (let w = within a.triples k line s in omega (arith, e, f, w));
  nodes = λ n line f s.
      let c : n ≡ j = omega (arith, e, f) in
      let r = h line (subst (λ (m : ℕ). slice_get a.nodes m ≡ Some line) c s) in
      (r.0, subst (λ (m : ℕ). NodesIn g a m line r.0) (sym c) r.1);
  steps = λ k line f s. absurd (omega (arith, e, f, l));
}

in_steps : (g : Graph) (a : Content) (i j : ℕ) → i ≡ first_step a + j →
    ((line : StepLine) → slice_get a.steps j ≡ Some line → (t : NamedStep) × StepsIn g a j line t) → IsNamed g a i
in_steps g a i j e h = record {
  preds = λ line s. absurd (let w = within a.preds i line s in omega (arith, e, w));
  triples = λ k line f s. absurd (let w = within a.triples k line s in omega (arith, e, f, w));
  nodes = λ n line f s. absurd (let w = within a.nodes n line s in omega (arith, e, f, w));
  steps = λ k line f s. let c : k ≡ j = omega (arith, e, f) in h line (subst (λ (n : ℕ). slice_get a.steps n ≡ Some line) c s);
}

-- ---- the first stage that stops

pred_item : (g : Graph) (a : Content) (i : ℕ) → i < first_triple a → ((line : form.Pred) → slice_get a.preds i ≡ Some line → (s : Scoped) × PredsIn g i line s) → IsNamed g a i
pred_item g a i l h = in_preds g a i l (λ line e. let r = h line e in some_is (pred_named g line) r.0 r.1)

pub stops_in_preds : (g : Graph) (a : Content) (i : ℕ) → IsAt (PredsIn g) a.preds 0 i → IsFirstUnnamed g a i
stops_in_preds g a i h =
    let w = h.is_first in
    let l = within a.preds h.place w.member w.stands in
    let c : i ≡ h.place = let k = h.counted in omega (arith, k) in
    record {
      before = λ k b. pred_item g a k (omega (arith, b, c, l)) (λ line e. w.before k line (omega (arith, b, c)) e);
      fails = λ n. none_is (pred_named g w.member) w.none (n.preds w.member (subst (λ (m : ℕ). slice_get a.preds m ≡ Some w.member) (sym c) w.stands));
    }

pub stops_in_triples : (g : Graph) (a : Content) (i : ℕ) → AllNamed (PredsIn g) a.preds → IsAt (TriplesIn g a) a.triples (first_triple a) i → IsFirstUnnamed g a i
stops_in_triples g a i preds h =
    let w = h.is_first in
    let l = within a.triples h.place w.member w.stands in
    let c = h.counted in
    record {
      before = λ k b. elim (below_or_from k (first_triple a)) [
        | inl m ↦ pred_item g a k m (preds k)
        | inr m ↦ let f = m.1 in in_triples g a k m.0 f (omega (arith, b, c, l, f)) (λ line e. w.before m.0 line (omega (arith, b, c, f)) e)
      ];
      fails = λ n. let r = n.triples h.place w.member c w.stands in w.none r.0 r.1;
    }

pub stops_in_nodes : (g : Graph) (a : Content) (i : ℕ) → AllNamed (PredsIn g) a.preds → AllNamed (TriplesIn g a) a.triples →
    IsAt (NodesIn g a) a.nodes (first_node a) i → IsFirstUnnamed g a i
stops_in_nodes g a i preds triples h =
    let w = h.is_first in
    let l = within a.nodes h.place w.member w.stands in
    let c = h.counted in
    record {
      before = λ k b. elim (below_or_from k (first_triple a)) [
        | inl m ↦ pred_item g a k m (preds k)
        | inr m ↦ by_triples k m.0 m.1 b
      ];
      fails = λ n. let r = n.nodes h.place w.member c w.stands in w.none r.0 r.1;
    }
  where
    by_triples : (k j : ℕ) → k ≡ first_triple a + j → k < i → IsNamed g a k
    by_triples k j f b =
        let w = h.is_first in
        let l = within a.nodes h.place w.member w.stands in
        let c = h.counted in
        elim (below_or_from j (length a.triples)) [
          | inl m ↦ in_triples g a k j f m (triples j)
          | inr m ↦ let e = m.1 in in_nodes g a k m.0 (omega (arith, f, e)) (omega (arith, b, c, l, f, e)) (λ line s. w.before m.0 line (omega (arith, b, c, f, e)) s)
        ]

pub stops_in_steps : (g : Graph) (a : Content) (i : ℕ) → AllNamed (PredsIn g) a.preds → AllNamed (TriplesIn g a) a.triples → AllNamed (NodesIn g a) a.nodes →
    IsAt (StepsIn g a) a.steps (first_step a) i → IsFirstUnnamed g a i
stops_in_steps g a i preds triples nodes h =
    let w = h.is_first in
    let c = h.counted in
    record {
      before = λ k b. elim (below_or_from k (first_triple a)) [
        | inl m ↦ pred_item g a k m (preds k)
        | inr m ↦ by_triples k m.0 m.1 b
      ];
      fails = λ n. let r = n.steps h.place w.member c w.stands in w.none r.0 r.1;
    }
  where
    by_nodes : (k j : ℕ) → k ≡ first_node a + j → k < i → IsNamed g a k
    by_nodes k j f b =
        let w = h.is_first in
        let c = h.counted in
        elim (below_or_from j (length a.nodes)) [
          | inl m ↦ in_nodes g a k j f m (nodes j)
          | inr m ↦ let e = m.1 in in_steps g a k m.0 (omega (arith, f, e)) (λ line s. w.before m.0 line (omega (arith, b, c, f, e)) s)
        ]

    by_triples : (k j : ℕ) → k ≡ first_triple a + j → k < i → IsNamed g a k
    by_triples k j f b =
        elim (below_or_from j (length a.triples)) [
          | inl m ↦ in_triples g a k j f m (triples j)
          | inr m ↦ let e = m.1 in by_nodes k m.0 (omega (arith, f, e)) b
        ]

-- ---- all stages

pub all_named_are : (g : Graph) (a : Content) (s : Sketch) → AllNamed (PredsIn g) a.preds → ArePaired (TriplesIn g a) a.triples s.triples →
    ArePaired (NodesIn g a) a.nodes s.nodes → ArePaired (StepsIn g a) a.steps s.steps → Names g a s
all_named_are g a s preds triples nodes steps = record {
  preds = λ k line e. let r = preds k line e in some_is (pred_named g line) r.0 r.1;
  triples = triples;
  nodes = nodes;
  steps = steps;
}

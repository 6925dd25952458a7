-- What lines that spell a draft name: its numbers, each in its scope.
use Rattle.std.proofs.Common.{◌≡◌, ◌∙◌, ℕ, suc, true, List, [], ◌∷◌, Option, Some, refl, sym, ap, subst, arith}
use Rattle.std.specs.Prelude.{map, slice_get, IsSome}
use Rattle.std.specs.List.{AllByRecursion}
use Rattle.farkas_check.specs.Refutes.{goal_of}
use Rattle.letter_acts.specs.Invariant.{Graph, alphabet_of}
use Rattle.triple_rows.specs.declared.triples.Scoped.{Scoped}
use Rattle.triple_rows.proofs.ListLaws.{all_mapped, all_at, within, something_at}
use Rattle.proof_form.specs.declared.lines.PredLine.{PredLine}
use Rattle.proof_form.specs.declared.lines.TripleLine.{TripleLine}
use Rattle.proof_form.specs.declared.lines.NodeLine.{NodeLine}
use Rattle.proof_form.specs.declared.lines.StepLine.{StepLine}
use Rattle.proof_form.specs.Lines as form
use Rattle.proof_form.specs.Lines.{is_pred, is_triple, is_node, is_step}
use Rattle.proof_form.specs.Annotations.{Content, content, is_annotation}
use Rattle.proof_names.specs.declared.outlines.NamedTriple.{NamedTriple}
use Rattle.proof_names.specs.declared.outlines.NamedStep.{NamedStep}
use Rattle.proof_names.specs.Numbers.{short_in}
use Rattle.proof_names.specs.Pairs.{ArePaired}
use Rattle.proof_names.specs.Predicates.{pred_named}
use Rattle.proof_names.specs.Naming.{NamesTriple, NamesNode, NamesStep, IsEntryIn, IsInScope, width, letter_in}
use Rattle.proof_names.specs.declared.outlines.NamedNode.{NamedNode}
use Rattle.proof_names.specs.Outlines.{OutlineNode, Sketch, node}
use Rattle.proof_names.specs.Items.{Names, pred_at, place_at}
use Rattle.proof_names.proofs.PairLaws.{same_at, map_same}
use Rattle.proof_names.specs.declared.proof_spell.drafts.Shown.{Shown}
use Rattle.proof_names.specs.ProofSpell.Correspond.{Correspond}
use Rattle.proof_names.specs.ProofSpell.Drafts.{PlainShown, Draft, draft, plain, AscendFrom, MayBeShown, MayStand, MayBeSpelled, IsEntryOf, node_place}
use Rattle.proof_names.specs.ProofSpell.Nodes.{HasNumbers}
use Rattle.proof_names.specs.ProofSpell.Spelled.{SpellsPred, SpellsTriple, SpellsNode, SpellsStep, Spells, IsOutlined, Outlines}
use Rattle.proof_names.proofs.ProofSpell.CorrespondLaws.{viewed, views, paired, at_place, all_pass, counted}
use Rattle.proof_names.proofs.ProofSpell.RefutationLaws.{have_numbers}

-- ---- a refutation has numbers that a line can spell

pub shown_has_numbers : (g : Graph) (preds : List Scoped) (t : PlainShown) → MayBeShown g preds t → AllByRecursion HasNumbers t.proof
shown_has_numbers g preds t m = have_numbers t.proof (goal_of m.refuted.system ∷ []) m.refuted.refutes

-- ---- predicates and places by number

abbrev PredIs : Graph → ℕ → form.Pred → Scoped → Type 0
PredIs g k line s = pred_named g line ≡ Some s

preds_paired : (g : Graph) (lines : List form.Pred) (ps : List Scoped) → Correspond (SpellsPred g) lines ps → ArePaired (PredIs g) lines ps
preds_paired g lines ps c = paired (SpellsPred g) (PredIs g) lines ps c (λ k x y p q r. r.named)

same_preds : (g : Graph) (a : Content) (ps : List Scoped) → Correspond (SpellsPred g) a.preds ps → slice_get ps ≡ pred_at g a
same_preds g a ps c =
    let e : (k : ℕ) → slice_get ps k ≡ pred_at g a k =
    λ k. sym (map_same (slice_get ps k)) ∙ same_at (pred_named g) (λ (s : Scoped). s) (PredIs g) a.preds ps (λ j x y r. r) (preds_paired g a.preds ps c) k in
    λ i k. e k i

abbrev PlaceIs : ℕ → form.Node → OutlineNode → Type 0
PlaceIs k line x = short_in line.place ≡ Some x.place

same_places : (a : Content) (ns : List OutlineNode) → Correspond SpellsNode a.nodes ns → node_place ns ≡ place_at a
same_places a ns c =
    let e : (k : ℕ) → node_place ns k ≡ place_at a k =
    same_at (λ (line : form.Node). short_in line.place) (λ (x : OutlineNode). x.place) PlaceIs a.nodes ns (λ j x y r. r)
    (paired SpellsNode PlaceIs a.nodes ns c (λ k x y p q r. r.place)) in
    λ i k. e k i

-- ---- triples

abbrev triples_of : (g : Graph) (preds : List Scoped) (ts : List PlainShown) → AllByRecursion (MayBeShown g preds) ts → List NamedTriple
triples_of g preds [] h = []
triples_of g preds (t ∷ ts) h = record { listed = t.listed; triple = h.0.triple; proof = Some t.proof } ∷ triples_of g preds ts h.1

outlined : (g : Graph) (preds : List Scoped) (ts : List PlainShown) (h : AllByRecursion (MayBeShown g preds) ts) → Correspond (IsOutlined g (slice_get preds)) (triples_of g preds ts h) ts
outlined g preds [] h = tt
outlined g preds (t ∷ ts) h = (record { listed = refl; triple = h.0.is; proof = refl }, outlined g preds ts h.1)

triples_named : (g : Graph) (preds : List Scoped) (lines : List form.Triple) (ts : List PlainShown) (h : AllByRecursion (MayBeShown g preds) ts) → Correspond SpellsTriple lines ts →
    Correspond (NamesTriple g (slice_get preds)) lines (triples_of g preds ts h)
triples_named g preds [] [] h c = tt
triples_named g preds [] (t ∷ ts) h c = absurd c
triples_named g preds (line ∷ lines) [] h c = absurd c
triples_named g preds (line ∷ lines) (t ∷ ts) h c = (
  record {
    numbers = c.0.numbers;
    triple = h.0.is;
    agrees = h.0.agrees;
    named = c.0.named (width (alphabet_of g) (slice_get g.acts (letter_in t.listed))) h.0.within;
    proof = sym c.0.proof;
  },
  triples_named g preds lines ts h.1 c.1,
)

-- ---- nodes

entry_named : (g : Graph) (p : ℕ) (lines : List form.Node) (ns : List OutlineNode) (n : ℕ) → Correspond SpellsNode lines ns → IsEntryOf g p ns n → IsEntryIn g p lines n
entry_named g p lines ns n c e =
    let l = within ns n e.node e.stands in
    let k = counted SpellsNode lines ns c in
    let w = something_at lines n (omega (arith, l, k)) in
    let r = at_place SpellsNode lines ns n w.0 e.node c w.1 e.stands in
    record {
      line = w.0;
      stands = w.1;
      itself = r.entry ∙ ap Some e.itself;
      belongs = record { place = e.node.place; number = r.place; belongs = e.belongs };
    }

node_named : (g : Graph) (preds : List Scoped) (lines : List form.Node) (ns : List OutlineNode) (n : ℕ) (line : form.Node) (x : OutlineNode) → Correspond SpellsNode lines ns → SpellsNode line x →
    MayStand g preds ns n x → NamesNode g (slice_get preds) lines n line x
node_named g preds lines ns n line x c r m = record {
  proc = m.proc;
  place = r.place;
  exists = m.exists;
  preds_are = r.preds;
  scoped = m.scoped;
  entry = r.entry;
  is_entry = entry_named g m.proc lines ns x.entry c m.entry;
  begins = m.begins;
}

-- ---- all

is_some_of : {X : Type 0} (o : Option X) (x : X) → o ≡ Some x → IsSome o
is_some_of o x e = subst (λ p. IsSome p) (sym e) refl

abbrev sketch_of : (g : Graph) (d : Draft) → MayBeSpelled g d → Sketch
sketch_of g d m = record { triples = triples_of g d.preds d.triples m.triples; nodes = d.nodes; steps = d.steps }

draft_named : (g : Graph) (a : Content) (d : Draft) (m : MayBeSpelled g d) → Spells g a d → Names g a (sketch_of g d m)
draft_named g a d m s = record {
  preds = λ k line e.
      let l = within a.preds k line e in
      let n = counted (SpellsPred g) a.preds d.preds s.preds in
      let w = something_at d.preds k (omega (arith, l, n)) in
      is_some_of (pred_named g line) w.0 (at_place (SpellsPred g) a.preds d.preds k line w.0 s.preds e w.1).named;
  triples = subst (λ (f : ℕ → Option Scoped). ArePaired (λ k line t. NamesTriple g f line t) a.triples (triples_of g d.preds d.triples m.triples)) (same_preds g a d.preds s.preds)
      (paired (NamesTriple g (slice_get d.preds)) (λ k line t. NamesTriple g (slice_get d.preds) line t) a.triples (triples_of g d.preds d.triples m.triples)
      (triples_named g d.preds a.triples d.triples m.triples s.triples) (λ k x y p q r. r));
  nodes = subst (λ (f : ℕ → Option Scoped). ArePaired (NamesNode g f a.nodes) a.nodes d.nodes) (same_preds g a d.preds s.preds)
      (paired SpellsNode (NamesNode g (slice_get d.preds) a.nodes) a.nodes d.nodes s.nodes
      (λ k x y p q r. node_named g d.preds a.nodes d.nodes k x y s.nodes r (m.nodes k y q)));
  steps = subst (λ (f : ℕ → Option ℕ). ArePaired (λ k line t. NamesStep g f line t) a.steps d.steps) (same_places a d.nodes s.nodes)
      (paired SpellsStep (λ k line t. NamesStep g (node_place d.nodes) line t) a.steps d.steps s.steps
      (λ k x y p q r. record { numbers = r.numbers; scoped = all_at (IsInScope g (node_place d.nodes)) d.steps k y q m.steps }));
}

-- lines that spell a draft name it
pub spelled_names : (g : Graph) (a : Content) (d : Draft) → MayBeSpelled g d → Spells g a d → (s : Sketch) × Names g a s × Outlines g s d
spelled_names g a d m s =
    (sketch_of g d m, draft_named g a d m s, record { triples = outlined g d.preds d.triples m.triples; nodes = refl; steps = refl })

-- and are those of an annotation
pub spelled_valid : (g : Graph) (a : Content) (d : Draft) → Spells g a d → is_annotation a ≡ true
spelled_valid g a d s =
    rw (
      all_pass (SpellsPred g) is_pred (λ x y r. r.valid) a.preds d.preds s.preds,
      all_pass SpellsTriple is_triple (λ x y r. r.valid) a.triples d.triples s.triples,
      all_pass SpellsNode is_node (λ x y r. r.valid) a.nodes d.nodes s.nodes,
      all_pass SpellsStep is_step (λ x y r. r.valid) a.steps d.steps s.steps,
    ) refl

-- what is known of the lists of a draft

pub all_numbered : (g : Graph) (preds : List Scoped) (ts : List Shown) → AllByRecursion (MayBeShown g preds) (map plain ts) → AllByRecursion (λ t. AllByRecursion HasNumbers t.proof.now) ts
all_numbered g preds [] h = tt
all_numbered g preds (t ∷ ts) h = (shown_has_numbers g preds (plain t) h.0, all_numbered g preds ts h.1)

every : {X : Type 0} (P : X → Type 0) (xs : List X) → ((k : ℕ) (x : X) → slice_get xs k ≡ Some x → P x) → AllByRecursion P xs
every P [] h = tt
every P (x ∷ xs) h = (h 0 x refl, every P xs (λ k y e. h (suc k) y e))

pub all_ascend : (g : Graph) (preds : List Scoped) (ns : List NamedNode) → ((n : ℕ) (x : OutlineNode) → slice_get (map node ns) n ≡ Some x → MayStand g preds (map node ns) n x) →
    AllByRecursion (λ n. AscendFrom 1 n.preds.items) ns
all_ascend g preds ns h = (all_mapped (λ (x : OutlineNode). AscendFrom 1 x.preds) node ns).0 (every (λ (x : OutlineNode). AscendFrom 1 x.preds) (map node ns) (λ k x e. (h k x e).ascend))

pub lists_spell : (g : Graph) (ps : List PredLine) (ts : List TripleLine) (ns : List NodeLine) (ss : List StepLine) (preds : List Scoped) (triples : List Shown) (nodes : List NamedNode)
    (steps : List NamedStep) → Correspond (λ line. SpellsPred g (form.pred line)) ps preds → Correspond (λ line t. SpellsTriple (form.triple line) (plain t)) ts triples →
    Correspond (λ line n. SpellsNode (form.node line) (node n)) ns nodes → Correspond SpellsStep ss steps → Spells g (content ps ts ns ss) (draft preds triples nodes steps)
lists_spell g ps ts ns ss preds triples nodes steps a b c d = record {
  preds = viewed (SpellsPred g) form.pred ps preds a;
  triples = views SpellsTriple form.triple plain ts triples b;
  nodes = views SpellsNode form.node node ns nodes c;
  steps = d;
}

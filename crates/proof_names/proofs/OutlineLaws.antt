-- The stages of the naming, over the predicates and the places that were found.
use Rattle.std.proofs.Common.{◌≡◌, ◌∙◌, ℕ, List, length, Option, None, Some, refl, sym, ap, subst}
use Rattle.std.specs.Prelude.{map, slice_get}
use Rattle.std.specs.Option.{option_map}
use Rattle.std.proofs.lemmas.List.{length-map}
use Rattle.letter_acts.specs.Invariant.{Graph}
use Rattle.triple_rows.specs.declared.triples.Scoped.{Scoped}
use Rattle.proof_form.specs.declared.lines.PredLine.{PredLine}
use Rattle.proof_form.specs.declared.lines.TripleLine.{TripleLine}
use Rattle.proof_form.specs.declared.lines.NodeLine.{NodeLine}
use Rattle.proof_form.specs.declared.lines.StepLine.{StepLine}
use Rattle.proof_form.specs.Lines as form
use Rattle.proof_form.specs.Annotations.{Content}
use Rattle.proof_names.specs.declared.outlines.NamedTriple.{NamedTriple}
use Rattle.proof_names.specs.declared.outlines.NamedNode.{NamedNode}
use Rattle.proof_names.specs.declared.outlines.NamedStep.{NamedStep}
use Rattle.proof_names.specs.Numbers.{short_in}
use Rattle.proof_names.specs.Pairs.{ArePaired, IsAt}
use Rattle.proof_names.specs.Predicates.{pred_named}
use Rattle.proof_names.specs.Naming.{NamesTriple, NamesNode, NamesStep}
use Rattle.proof_names.specs.Outlines.{OutlineNode, node, named_place}
use Rattle.proof_names.specs.Items.{pred_at, place_at, first_triple, first_node, first_step, IsFirstUnnamed}
use Rattle.proof_names.proofs.PairLaws.{same_at, map_same, got_of_map}
use Rattle.proof_names.proofs.ItemLaws.{PredsIn, TriplesIn, NodesIn, StepsIn, all_named, stops_in_preds, stops_in_triples, stops_in_nodes, stops_in_steps}

-- ---- what was found, by number

pub same_preds : (g : Graph) (a : Content) (ps : List Scoped) → ArePaired (PredsIn g) a.preds ps → slice_get ps ≡ pred_at g a
same_preds g a ps h =
    let e : (k : ℕ) → slice_get ps k ≡ pred_at g a k =
    λ k. sym (map_same (slice_get ps k)) ∙ same_at (pred_named g) (λ s. s) (PredsIn g) a.preds ps (λ j x y r. r) h k in
    λ i k. e k i

place_kept : (o : Option NamedNode) → option_map (λ x. x.place) o ≡ option_map (λ (x : OutlineNode). x.place) (option_map node o)
place_kept None = refl
place_kept (Some x) = refl

pub same_places : (g : Graph) (a : Content) (nodes : List NamedNode) → ArePaired (NodesIn g a) a.nodes (map node nodes) → named_place nodes ≡ place_at a
same_places g a nodes h =
    let e : (k : ℕ) → named_place nodes k ≡ place_at a k =
    λ k. place_kept (slice_get nodes k) ∙ ap (option_map (λ (x : OutlineNode). x.place)) (sym (got_of_map node nodes k)) ∙
    same_at (λ (line : form.Node). short_in line.place) (λ (x : OutlineNode). x.place) (NodesIn g a) a.nodes (map node nodes) (λ j x y r. r.place) h k in
    λ i k. e k i

-- ---- stages that end

pub preds_end : (g : Graph) (a : Content) (lines : List PredLine) (ps : List Scoped) → map form.pred lines ≡ a.preds → ArePaired (PredsIn g) (map form.pred lines) ps →
    ArePaired (PredsIn g) a.preds ps
preds_end g a lines ps e h = subst (λ (l : List form.Pred). ArePaired (PredsIn g) l ps) e h

pub triples_end : (g : Graph) (a : Content) (ps : List Scoped) (lines : List TripleLine) (ts : List NamedTriple) → ArePaired (PredsIn g) a.preds ps → map form.triple lines ≡ a.triples →
    ArePaired (λ k line t. NamesTriple g (slice_get ps) line t) (map form.triple lines) ts → ArePaired (TriplesIn g a) a.triples ts
triples_end g a ps lines ts p e h =
    subst (λ (l : List form.Triple). ArePaired (TriplesIn g a) l ts) e
    (subst (λ (f : ℕ → Option Scoped). ArePaired (λ k line t. NamesTriple g f line t) (map form.triple lines) ts) (same_preds g a ps p) h)

pub nodes_end : (g : Graph) (a : Content) (ps : List Scoped) (lines : List NodeLine) (ns : List OutlineNode) → ArePaired (PredsIn g) a.preds ps → map form.node lines ≡ a.nodes →
    ArePaired (NamesNode g (slice_get ps) (map form.node lines)) (map form.node lines) ns → ArePaired (NodesIn g a) a.nodes ns
nodes_end g a ps lines ns p e h =
    subst (λ (l : List form.Node). ArePaired (NamesNode g (pred_at g a) l) l ns) e
    (subst (λ (f : ℕ → Option Scoped). ArePaired (NamesNode g f (map form.node lines)) (map form.node lines) ns) (same_preds g a ps p) h)

pub steps_end : (g : Graph) (a : Content) (nodes : List NamedNode) (lines : List StepLine) (ss : List NamedStep) → ArePaired (NodesIn g a) a.nodes (map node nodes) → lines ≡ a.steps →
    ArePaired (λ k line t. NamesStep g (named_place nodes) line t) lines ss → ArePaired (StepsIn g a) a.steps ss
steps_end g a nodes lines ss n e h =
    subst (λ (l : List StepLine). ArePaired (StepsIn g a) l ss) e
    (subst (λ (f : ℕ → Option ℕ). ArePaired (λ k line t. NamesStep g f line t) lines ss) (same_places g a nodes n) h)

-- ---- stages that stop

pub preds_stop : (g : Graph) (a : Content) (lines : List PredLine) (i : ℕ) → map form.pred lines ≡ a.preds → IsAt (PredsIn g) (map form.pred lines) 0 i → IsFirstUnnamed g a i
preds_stop g a lines i e h = stops_in_preds g a i (subst (λ (l : List form.Pred). IsAt (PredsIn g) l 0 i) e h)

pub triples_stop : (g : Graph) (a : Content) (ps : List Scoped) (lines : List TripleLine) (n i : ℕ) → ArePaired (PredsIn g) a.preds ps → map form.triple lines ≡ a.triples →
    n ≡ first_triple a → IsAt (λ k line t. NamesTriple g (slice_get ps) line t) (map form.triple lines) n i → IsFirstUnnamed g a i
triples_stop g a ps lines n i p e f h =
    stops_in_triples g a i (all_named (PredsIn g) a.preds ps p)
    (subst (λ (m : ℕ). IsAt (TriplesIn g a) a.triples m i) f
    (subst (λ (l : List form.Triple). IsAt (TriplesIn g a) l n i) e
    (subst (λ (x : ℕ → Option Scoped). IsAt (λ k line t. NamesTriple g x line t) (map form.triple lines) n i) (same_preds g a ps p) h)))

pub nodes_stop : (g : Graph) (a : Content) (ps : List Scoped) (ts : List NamedTriple) (lines : List NodeLine) (n i : ℕ) → ArePaired (PredsIn g) a.preds ps →
    ArePaired (TriplesIn g a) a.triples ts → map form.node lines ≡ a.nodes →
    n ≡ first_node a → IsAt (NamesNode g (slice_get ps) (map form.node lines)) (map form.node lines) n i → IsFirstUnnamed g a i
nodes_stop g a ps ts lines n i p t e f h =
    stops_in_nodes g a i (all_named (PredsIn g) a.preds ps p) (all_named (TriplesIn g a) a.triples ts t)
    (subst (λ (m : ℕ). IsAt (NodesIn g a) a.nodes m i) f
    (subst (λ (l : List form.Node). IsAt (NamesNode g (pred_at g a) l) l n i) e
    (subst (λ (x : ℕ → Option Scoped). IsAt (NamesNode g x (map form.node lines)) (map form.node lines) n i) (same_preds g a ps p) h)))

pub steps_stop : (g : Graph) (a : Content) (ps : List Scoped) (ts : List NamedTriple) (nodes : List NamedNode) (lines : List StepLine) (n i : ℕ) → ArePaired (PredsIn g) a.preds ps →
    ArePaired (TriplesIn g a) a.triples ts → ArePaired (NodesIn g a) a.nodes (map node nodes) → lines ≡ a.steps →
    n ≡ first_step a → IsAt (λ k line t. NamesStep g (named_place nodes) line t) lines n i → IsFirstUnnamed g a i
steps_stop g a ps ts nodes lines n i p t x e f h =
    stops_in_steps g a i (all_named (PredsIn g) a.preds ps p) (all_named (TriplesIn g a) a.triples ts t) (all_named (NodesIn g a) a.nodes (map node nodes) x)
    (subst (λ (m : ℕ). IsAt (StepsIn g a) a.steps m i) f
    (subst (λ (l : List StepLine). IsAt (StepsIn g a) l n i) e
    (subst (λ (y : ℕ → Option ℕ). IsAt (λ k line t. NamesStep g y line t) lines n i) (same_places g a nodes x) h)))

-- ---- numbers and lines

pub counted : {X Y : Type 0} (f : X → Y) (xs : List X) (ys : List Y) → map f xs ≡ ys → length xs ≡ length ys
counted f xs ys e = sym (length-map xs f) ∙ ap length e

-- Lines name one thing each, so what all lines name is one.
use Rattle.std.proofs.Common.{◌≡◌, ◌∙◌, ℕ, suc, List, [], ◌∷◌, length, Option, Some, refl, sym, ap, arith}
use Rattle.std.specs.Prelude.{slice_get}
use Rattle.std.proofs.lemmas.Option.{same_Some}
use Rattle.letter_acts.specs.Invariant.{Graph}
use Rattle.triple_rows.specs.declared.triples.Scoped.{Scoped}
use Rattle.triple_rows.proofs.ListLaws.{within, something_at}
use Rattle.proof_form.specs.Lines as form
use Rattle.proof_form.specs.Annotations.{Content}
use Rattle.proof_names.specs.declared.outlines.Listed.{Listed}
use Rattle.proof_names.specs.declared.outlines.NamedTriple.{NamedTriple}
use Rattle.proof_names.specs.Pairs.{ArePaired}
use Rattle.proof_names.specs.Naming.{triple_at, NamesTriple, NamesNode, NamesStep}
use Rattle.proof_names.specs.Items.{Names, pred_at, place_at}
use Rattle.proof_names.specs.Outlines.{OutlineNode, Sketch}

-- ---- lists with the same members

same_lists : {X : Type 0} (xs ys : List X) → length xs ≡ length ys → ((k : ℕ) (x y : X) → slice_get xs k ≡ Some x → slice_get ys k ≡ Some y → x ≡ y) → xs ≡ ys
same_lists [] [] l h = refl
same_lists [] (y ∷ ys) l h = absurd (omega arith)
same_lists (x ∷ xs) [] l h = absurd (omega arith)
same_lists (x ∷ xs) (y ∷ ys) l h =
    let a : x ≡ y = h 0 x y refl refl in
    let b : xs ≡ ys = same_lists xs ys (omega arith) (λ k u v e f. h (suc k) u v e f) in
    λ i. a i ∷ b i

-- a relation that relates one thing at most to a member pairs a list with one list at most
paired_one : {X Y : Type 0} (R : ℕ → X → Y → Type 0) (xs : List X) (ys zs : List Y) → ((k : ℕ) (x : X) (y z : Y) → R k x y → R k x z → y ≡ z) →
    ArePaired R xs ys → ArePaired R xs zs → ys ≡ zs
paired_one R xs ys zs u a b = same_lists ys zs (a.count ∙ sym b.count) (λ k y z e f.
    let l = within ys k y e in
    let c = a.count in
    let w = something_at xs k (omega (arith, l, c)) in
    u k w.0 y z (a.related k w.0 y w.1 e) (b.related k w.0 z w.1 f))

-- ---- lines name one thing

triple_one : (g : Graph) (preds : ℕ → Option Scoped) (line : form.Triple) (t u : NamedTriple) → NamesTriple g preds line t → NamesTriple g preds line u → t ≡ u
triple_one g preds line t u n m =
    let l : t.listed ≡ u.listed = same_Some t.listed u.listed (sym n.numbers ∙ m.numbers) in
    let r : t.triple ≡ u.triple = same_Some t.triple u.triple (sym n.triple ∙ ap (λ (x : Listed). triple_at g.acts preds x) l ∙ m.triple) in
    let p = n.proof ∙ sym m.proof in
    λ i. record { listed = l i; triple = r i; proof = p i }

node_one : (g : Graph) (preds : ℕ → Option Scoped) (lines : List form.Node) (k : ℕ) (line : form.Node) (x y : OutlineNode) → NamesNode g preds lines k line x →
    NamesNode g preds lines k line y → x ≡ y
node_one g preds lines k line x y n m =
    let p : x.place ≡ y.place = same_Some x.place y.place (sym n.place ∙ m.place) in
    let e : x.entry ≡ y.entry = same_Some x.entry y.entry (sym n.entry ∙ m.entry) in
    let q : x.preds ≡ y.preds = same_Some x.preds y.preds (sym n.preds_are ∙ m.preds_are) in
    λ i. record { place = p i; entry = e i; preds = q i }

-- what all lines name is one
pub names_one : (g : Graph) (a : Content) (s t : Sketch) → Names g a s → Names g a t → s ≡ t
names_one g a s t n m =
    let p : s.triples ≡ t.triples =
    paired_one (λ k line x. NamesTriple g (pred_at g a) line x) a.triples s.triples t.triples (λ k line x y h j. triple_one g (pred_at g a) line x y h j) n.triples m.triples in
    let q : s.nodes ≡ t.nodes =
    paired_one (NamesNode g (pred_at g a) a.nodes) a.nodes s.nodes t.nodes (λ k line x y h j. node_one g (pred_at g a) a.nodes k line x y h j) n.nodes m.nodes in
    let r : s.steps ≡ t.steps =
    paired_one (λ k line x. NamesStep g (place_at a) line x) a.steps s.steps t.steps (λ k line x y h j. same_Some x y (sym h.numbers ∙ j.numbers)) n.steps m.steps in
    λ i. record { triples = p i; nodes = q i; steps = r i }

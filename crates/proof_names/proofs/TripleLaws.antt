-- What the line of a triple names, from its parts.
use Rattle.std.proofs.Common.{◌≡◌, ◌↔◌, ◌∙◌, ℕ, Bool, true, false, ◌&&◌, List, Option, Some, sym, ap, subst}
use Rattle.std.specs.Prelude.{map, IsTrue, slice_get}
use Rattle.std.specs.List.{list_all}
use Rattle.std.proofs.lemmas.Bool.{false≢true}
use Rattle.std.proofs.lemmas.List.Folds.{list_all-map}
use Rattle.std.proofs.lemmas.Option.{same_Some}
use Rattle.letter_acts.specs.Invariant.{Graph, alphabet_of}
use Rattle.triple_rows.specs.declared.triples.Scoped.{Scoped}
use Rattle.triple_rows.specs.declared.triples.Triple.{Triple}
use Rattle.triple_rows.specs.Triples.{Agrees}
use Rattle.proof_form.specs.declared.refutations.RNode.{RNode}
use Rattle.proof_form.specs.Refutations as form
use Rattle.proof_form.specs.Numerals.{is_numeral}
use Rattle.proof_form.specs.Lines as lines
use Rattle.proof_form.specs.Lines.{inside_triple, call_triple, back_triple}
use Rattle.proof_form.proofs.RunLaws.{both_hold}
use Rattle.proof_names.specs.declared.outlines.Listed.{Listed}
use Rattle.proof_names.specs.declared.outlines.NamedTriple.{NamedTriple}
use Rattle.proof_names.specs.Naming.{listed_of, proof_in, triple_at, letter_in, width, NamesTriple}
use Rattle.proof_names.specs.Refutations.{node_is_named, refutation_is_named, refutation_of}

same_listed : (g : Graph) (preds : ℕ → Option Scoped) (line : lines.Triple) (t : NamedTriple) (listed : Listed) → NamesTriple g preds line t → Some listed ≡ listed_of line → t.listed ≡ listed
same_listed g preds line t listed n e = same_Some t.listed listed (sym n.numbers ∙ sym e)

same_triple : (g : Graph) (preds : ℕ → Option Scoped) (line : lines.Triple) (t : NamedTriple) (listed : Listed) (triple : Triple) → NamesTriple g preds line t →
    Some listed ≡ listed_of line → Some triple ≡ triple_at g.acts preds listed → t.triple ≡ triple
same_triple g preds line t listed triple n e f =
    same_Some t.triple triple (sym n.triple ∙ ap (triple_at g.acts preds) (same_listed g preds line t listed n e) ∙ sym f)

-- a triple whose scopes do not agree is named by no line
pub not_agreed : (g : Graph) (preds : ℕ → Option Scoped) (line : lines.Triple) (listed : Listed) (triple : Triple) (b : Bool) → Some listed ≡ listed_of line →
    Some triple ≡ triple_at g.acts preds listed → (IsTrue b ↔ Agrees (alphabet_of g) triple) → b ≡ false → (t : NamedTriple) → NamesTriple g preds line t → ⊥
not_agreed g preds line listed triple b e f a n t h =
    false≢true (sym n ∙ a.1 (subst (λ (x : Triple). Agrees (alphabet_of g) x) (same_triple g preds line t listed triple h e f) h.agrees))

-- and so is one whose refutation names what does not exist
nodes_are : (w v : ℕ) (ns : List RNode) (line : lines.Triple) (b : Bool) → w ≡ v → b ≡ list_all (λ n. node_is_named w (form.plain_refutation_node n)) ns →
    map form.plain_refutation_node ns ≡ proof_in line → b ≡ refutation_is_named v (proof_in line)
nodes_are w v ns line b e h m = h ∙ sym (list_all-map (node_is_named w) form.plain_refutation_node ns) ∙ ap (refutation_is_named w) m ∙ ap (λ (k : ℕ). refutation_is_named k (proof_in line)) e

pub not_named : (g : Graph) (preds : ℕ → Option Scoped) (line : lines.Triple) (listed : Listed) (l w : ℕ) (ns : List RNode) (b : Bool) → Some listed ≡ listed_of line →
    l ≡ letter_in listed → w ≡ width (alphabet_of g) (slice_get g.acts l) → b ≡ list_all (λ n. node_is_named w (form.plain_refutation_node n)) ns → map form.plain_refutation_node ns ≡ proof_in line → b ≡ false →
    (t : NamedTriple) → NamesTriple g preds line t → ⊥
not_named g preds line listed l w ns b e i h j m n t u =
    let k : t.listed ≡ listed = same_listed g preds line t listed u e in
    let v : w ≡ width (alphabet_of g) (slice_get g.acts (letter_in t.listed)) =
    h ∙ ap (λ (x : ℕ). width (alphabet_of g) (slice_get g.acts x)) (i ∙ sym (ap letter_in k)) in
    false≢true (sym n ∙ nodes_are w (width (alphabet_of g) (slice_get g.acts (letter_in t.listed))) ns line b v j m ∙ u.named)

pub names_triple : (g : Graph) (preds : ℕ → Option Scoped) (line : lines.Triple) (t : NamedTriple) (l w : ℕ) (ns : List RNode) (a b : Bool) → Some t.listed ≡ listed_of line →
    Some t.triple ≡ triple_at g.acts preds t.listed → (IsTrue a ↔ Agrees (alphabet_of g) t.triple) → a ≡ true →
    l ≡ letter_in t.listed → w ≡ width (alphabet_of g) (slice_get g.acts l) → b ≡ list_all (λ n. node_is_named w (form.plain_refutation_node n)) ns → map form.plain_refutation_node ns ≡ proof_in line → b ≡ true →
    t.proof ≡ refutation_of (map form.plain_refutation_node ns) → NamesTriple g preds line t
names_triple g preds line t l w ns a b e f h i j k m o p r = record {
  numbers = sym e;
  triple = sym f;
  agrees = h.0 i;
  named =
      let v : w ≡ width (alphabet_of g) (slice_get g.acts (letter_in t.listed)) = k ∙ ap (λ (x : ℕ). width (alphabet_of g) (slice_get g.acts x)) j in
      sym (nodes_are w (width (alphabet_of g) (slice_get g.acts (letter_in t.listed))) ns line b v m o) ∙ p;
  proof = r ∙ ap refutation_of o;
}

proof_holds : (line : lines.Triple) → IsTrue (lines.is_triple line) → IsTrue (form.is_refutation (proof_in line))
proof_holds (inside_triple q l r proof) h =
    (both_hold (is_numeral r) (form.is_refutation proof) (both_hold (is_numeral l) (is_numeral r && form.is_refutation proof)
    (both_hold (is_numeral q) (is_numeral l && (is_numeral r && form.is_refutation proof)) h).1).1).1
proof_holds (call_triple q l r proof) h =
    (both_hold (is_numeral r) (form.is_refutation proof) (both_hold (is_numeral l) (is_numeral r && form.is_refutation proof)
    (both_hold (is_numeral q) (is_numeral l && (is_numeral r && form.is_refutation proof)) h).1).1).1
proof_holds (back_triple x b l r proof) h =
    (both_hold (is_numeral r) (form.is_refutation proof) (both_hold (is_numeral l) (is_numeral r && form.is_refutation proof)
    (both_hold (is_numeral b) (is_numeral l && (is_numeral r && form.is_refutation proof))
    (both_hold (is_numeral x) (is_numeral b && (is_numeral l && (is_numeral r && form.is_refutation proof))) h).1).1).1).1

-- the refutation of a line of the grammar is in the grammar
pub proof_is_one : (line : lines.Triple) (ns : List RNode) → IsTrue (lines.is_triple line) → map form.plain_refutation_node ns ≡ proof_in line → IsTrue (form.is_refutation (map form.plain_refutation_node ns))
proof_is_one line ns h e = ap form.is_refutation e ∙ proof_holds line h

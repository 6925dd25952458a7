-- The procedure in which the graph of a program starts has a body.
use Rattle.std.proofs.Common.{◌≡◌, ℕ, Bool, true, ◌&&◌, map, Option, None, Some, refl, sym, ap, subst, ◌∙◌}
use Rattle.std.specs.Prelude.{IsTrue, slice_get}
use Rattle.std.specs.Option.{option_map}
use Rattle.std.proofs.lemmas.Bool.{and_parts, false≢true}
use Rattle.std.proofs.lemmas.Option.{same_Some}
use Rattle.typed_tree.specs.TypedTree.{TypedProgram}
use Rattle.typed_tree.specs.TypingRules.Rules.{meets, keeps_typing}
use Rattle.typed_tree.specs.TypingRules.Shape.{has_shape}
use Rattle.typed_tree.specs.TypingRules.Counts.{numbers_fit}
use Rattle.typed_tree.specs.TypingRules.ValidProgram as valid
use Rattle.typed_tree.specs.TypingRules.ValidProgram.{has_body, is_typed, is_valid}
use Rattle.letter_acts.specs.Invariant.{Graph}
use Rattle.lowered_graph.specs.Lowered.{entry_of, counted_procs, lowered}
use Rattle.lowered_graph.proofs.Alphabet.{counted_get}
use Rattle.proof_names.specs.Columns.{is_some_entry}
use Rattle.proof_build.specs.Numbering.{StartHasBody}

there : {X : Type 0} (test : X → Bool) (o : Option X) → meets test o ≡ true → (x : X) × (o ≡ Some x) × (test x ≡ true)
there test None h = absurd (false≢true h)
there test (Some x) h = (x, refl, h)

has_place : {X : Type 0} (f : X → ℕ) (o : Option X) → meets (λ x. true) o ≡ true → is_some_entry (Some (option_map f o)) ≡ true
has_place f None h = absurd (false≢true h)
has_place f (Some x) h = refl

entry_stands : (t : TypedProgram) → IsTrue (is_valid t) → valid.has_entry t ≡ true
entry_stands t v =
    let typed = (and_parts (is_typed t) (numbers_fit t) v).0 in
    (and_parts (keeps_typing t) (valid.has_entry t) (and_parts (has_shape t) (keeps_typing t && valid.has_entry t) typed).1).1

-- the entry of the procedure at which runs begin
entered : (t : TypedProgram) → IsTrue (is_valid t) → is_some_entry (slice_get (map (entry_of t) (counted_procs 0 t.procs)) t.entry) ≡ true
entered t v =
    let q = there has_body (slice_get t.procs t.entry) (entry_stands t v) in
    ap is_some_entry (counted_get (entry_of t) 0 t.procs t.entry q.0 q.1) ∙ has_place _ q.0.body q.2

pub start_has_body : (t : TypedProgram) → IsTrue (is_valid t) → StartHasBody (lowered t)
start_has_body t v = λ p e.
    subst (λ (n : ℕ). is_some_entry (slice_get (map (entry_of t) (counted_procs 0 t.procs)) n) ≡ true) (same_Some t.entry p e) (entered t v)

pub starts : (g : Graph) (t : TypedProgram) → g ≡ lowered t → IsTrue (is_valid t) → StartHasBody g
starts g t e v = subst StartHasBody (sym e) (start_has_body t v)

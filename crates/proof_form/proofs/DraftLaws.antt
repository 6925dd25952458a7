-- Lines that are kept, and lines that come too late.
use Rattle.std.proofs.Common.{◌≡◌, ℕ, ◌+◌, Bool, true, false, ◌&&◌, List, length, Option, Some, None, Result, Ok, Err, refl, ap, subst}
use Rattle.std.specs.Option.{option_map}
use Rattle.proof_form.specs.declared.refusal.Refusal.{Refusal}
use Rattle.proof_form.specs.declared.refusal.Refusal.TheVariants.{Form, Memory}
use Rattle.proof_form.specs.Outcomes.{Gives, ◌>>=◌}
use Rattle.proof_form.specs.LineReading.{checked}
use Rattle.proof_form.specs.Annotations.{Content}
use Rattle.proof_form.specs.Standing.{none, pred_item, triple_item, node_item, with_item}
use Rattle.proof_form.specs.TextReading.{checked_pred_of, checked_triple_of, checked_node_of, with_pred, with_triple, with_node}

seen_checked : {C X : Type 0} (view : C → X) (test : X → Bool) (holds : Bool) (x : C) → holds ≡ test (view x) → option_map view (checked (λ _. holds) x) ≡ checked test (view x)
seen_checked view test true x e = rw (← e) refl
seen_checked view test false x e = rw (← e) refl

given_as : {C X : Type 0} (view : C → X) (result : Result C Refusal) (o : Option C) → Gives (λ y. y) result o → Gives view result (option_map view o)
given_as view (Ok y) o h = ap (option_map view) h
given_as view (Err Form) o h = ap (option_map view) h
given_as view (Err Memory) o h = tt

-- what is kept, as contracts see it
pub kept_as : {C X : Type 0} (view : C → X) (test : X → Bool) (result : Result C Refusal) (holds : Bool) (x : C) → holds ≡ test (view x)
    → Gives (λ y. y) result (checked (λ _. holds) x) → Gives view result (checked test (view x))
kept_as view test result holds x e h = subst (λ o. Gives view result o) (seen_checked view test holds x e) (given_as view result (checked (λ _. holds) x) h)

never : {A B : Type 0} (o : Option A) (f : A → Option B) → ((x : A) → f x ≡ None) → (o >>= f) ≡ None
never None f h = refl
never (Some x) f h = h x

pub pred_too_late : (a : Content) (line : List ℕ) → false ≡ (none a.triples && (none a.nodes && none a.steps)) → with_pred a line ≡ None
unfolding with_pred
pred_too_late a line h = never (checked_pred_of (length a.preds + 2) line) (λ p. with_item a (pred_item p)) (λ p. rw (← h) refl)

pub triple_too_late : (a : Content) (line : List ℕ) → false ≡ (none a.nodes && none a.steps) → with_triple a line ≡ None
unfolding with_triple
triple_too_late a line h = never (checked_triple_of line) (λ t. with_item a (triple_item t)) (λ t. rw (← h) refl)

pub node_too_late : (a : Content) (line : List ℕ) → false ≡ none a.steps → with_node a line ≡ None
unfolding with_node
node_too_late a line h = never (checked_node_of (length a.nodes) line) (λ x. with_item a (node_item x)) (λ x. rw (← h) refl)

-- The nodes of the steps that lines name exist.
use Rattle.std.proofs.Common.{◌≡◌, ℕ, ◌<◌, length, Option, None, Some, refl, arith}
use Rattle.std.specs.Prelude.{slice_get, IsSomeAnd}
use Rattle.std.specs.Option.{option_and_then}
use Rattle.letter_acts.specs.Acts.{PlainAct, inside_act, call_act, back_act}
use Rattle.letter_acts.specs.Invariant.{Graph}
use Rattle.triple_rows.proofs.ListLaws.{within, something_at}
use Rattle.proof_form.specs.Lines as form
use Rattle.proof_form.specs.Annotations.{Content}
use Rattle.proof_names.specs.declared.outlines.NamedStep.{NamedStep}
use Rattle.proof_names.specs.declared.outlines.NamedStep.TheVariants as steps
use Rattle.proof_names.specs.Naming.{IsNodeIn, StepIsIn, ReturnIsIn, BackIsIn, IsInScope}
use Rattle.proof_names.specs.Items.{Names, place_at}
use Rattle.proof_names.specs.Numbers.{short_in}
use Rattle.proof_names.specs.Outlines.{Sketch}
use Rattle.proof_check.specs.Ties.Covering.{AllExist}
use Rattle.proof_check.specs.Ties.Sound.{StepExists}
use Rattle.proof_check.proofs.ListLaws.{place_of}

-- a node whose place is known has a line
has_line : (a : Content) (n : ℕ) (P : ℕ → Type 0) → IsSomeAnd (place_at a n) P → n < length a.nodes
has_line a n P h = by_line (slice_get a.nodes n) refl h
  where
    by_line : (o : Option form.Node) → slice_get a.nodes n ≡ o → IsSomeAnd (option_and_then (λ (line : form.Node). short_in line.place) o) P → n < length a.nodes
    by_line None e h = absurd h
    by_line (Some line) e h = within a.nodes n line e

node_exists : (g : Graph) (a : Content) (s : Sketch) (p n : ℕ) → length s.nodes ≡ length a.nodes → IsNodeIn g (place_at a) p n → n < length s.nodes
node_exists g a s p n e h = let l = has_line a n _ h in omega (arith, e, l)

step_exists : (g : Graph) (a : Content) (s : Sketch) (n m : ℕ) (o : Option PlainAct) → length s.nodes ≡ length a.nodes → StepIsIn g (place_at a) n m o →
    (n < length s.nodes) × (m < length s.nodes)
step_exists g a s n m None e h = absurd h
step_exists g a s n m (Some (inside_act p written helpers rows)) e h = (node_exists g a s p n e h.0, node_exists g a s p m e h.1)
step_exists g a s n m (Some (call_act caller callee helpers rows)) e h = (node_exists g a s caller n e h.0, node_exists g a s callee m e h.1)
step_exists g a s n m (Some (back_act c targets)) e h = absurd h

return_exists : (g : Graph) (a : Content) (s : Sketch) (x c m : ℕ) (o : Option PlainAct) → length s.nodes ≡ length a.nodes → ReturnIsIn g (place_at a) x c m o →
    (x < length s.nodes) × (c < length s.nodes) × (m < length s.nodes)
return_exists g a s x c m None e h = absurd h
return_exists g a s x c m (Some (inside_act p written helpers rows)) e h = absurd h
return_exists g a s x c m (Some (call_act caller callee helpers rows)) e h =
    (node_exists g a s callee x e h.0, node_exists g a s caller c e h.1, node_exists g a s caller m e h.2)
return_exists g a s x c m (Some (back_act l targets)) e h = absurd h

back_exists : (g : Graph) (a : Content) (s : Sketch) (x c m : ℕ) (o : Option PlainAct) → length s.nodes ≡ length a.nodes → BackIsIn g (place_at a) x c m o →
    (x < length s.nodes) × (c < length s.nodes) × (m < length s.nodes)
back_exists g a s x c m None e h = absurd h
back_exists g a s x c m (Some (inside_act p written helpers rows)) e h = absurd h
back_exists g a s x c m (Some (call_act caller callee helpers rows)) e h = absurd h
back_exists g a s x c m (Some (back_act l targets)) e h = return_exists g a s x c m (slice_get g.acts l) e h

scoped_exists : (g : Graph) (a : Content) (s : Sketch) (t : NamedStep) → length s.nodes ≡ length a.nodes → IsInScope g (place_at a) t → StepExists s t
scoped_exists g a s (steps.Step n l m) e h = step_exists g a s n m (slice_get g.acts l) e h
scoped_exists g a s (steps.Back x c l m) e h = back_exists g a s x c m (slice_get g.acts l) e h

-- the nodes of all steps exist
pub all_exist : (g : Graph) (a : Content) (s : Sketch) → Names g a s → AllExist s
all_exist g a s n t m =
    let p = place_of s.steps t m in
    let l = within s.steps p.0 t p.1 in
    let c = n.steps.count in
    let w = something_at a.steps p.0 (omega (arith, l, c)) in
    scoped_exists g a s t n.nodes.count (n.steps.related p.0 w.0 t w.1 p.1).scoped

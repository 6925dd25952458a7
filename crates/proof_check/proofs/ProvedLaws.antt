-- What a proof of a graph gives: its triples are valid.
use Rattle.std.proofs.Common.{◌≡◌, ℕ, zero, suc, Bool, true, false, List, [], ◌∷◌, Option, None, Some, refl, subst, inl, arith}
use Rattle.std.specs.Prelude.{slice_get, IsTrue}
use Rattle.std.specs.List.{list_all}
use Rattle.std.specs.Option.{option_and_then}
use Rattle.nwa_base.specs.declared.letters.Letter.{Letter}
use Rattle.nwa_base.specs.Members.{Member}
use Rattle.nwa_base.specs.Acceptance.{Accepts}
use Rattle.letter_acts.specs.Acts.{PlainAct, inside_act, call_act, back_act, Alphabet}
use Rattle.letter_acts.specs.Feasible.{IsFeasible}
use Rattle.letter_acts.specs.Invariant.{Graph, IsGraph, alphabet_of}
use Rattle.farkas_check.specs.Nodes.{PlainNode}
use Rattle.triple_rows.specs.declared.triples.Scoped.{Scoped}
use Rattle.triple_rows.specs.declared.triples.Triple.{Triple}
use Rattle.triple_rows.specs.Predicates.{truth, SpellsPredicate}
use Rattle.triple_rows.specs.Triples.{HasTarget, IsRefuted, truth_of}
use Rattle.triple_rows.proofs.ListLaws.{within, something_at}
use Rattle.triple_rows.proofs.ValidLaws.{refuted_valid}
use Rattle.proof_form.specs.Lines as form
use Rattle.proof_form.specs.Annotations.{Content, is_annotation}
use Rattle.proof_form.proofs.RunLaws.{both_hold}
use Rattle.proof_names.specs.declared.outlines.Listed.{Listed}
use Rattle.proof_names.specs.declared.outlines.Listed.TheVariants.{Inside, Call, Back}
use Rattle.proof_names.specs.declared.outlines.NamedTriple.{NamedTriple}
use Rattle.proof_names.specs.Predicates.{pred_named}
use Rattle.proof_names.specs.Naming.{scoped_at, inside_at, call_at, return_at, back_at, triple_at, NamesTriple}
use Rattle.proof_names.specs.Items.{pred_at, Names}
use Rattle.proof_names.specs.Outlines.{Sketch}
use Rattle.proof_names.proofs.SpelledLaws.{pred_spells}
use Rattle.proof_check.specs.Steps.{Lists}
use Rattle.proof_check.specs.Proves.{IsRefutedBy, Proves}
use Rattle.proof_check.proofs.ListLaws.{place_of}
use Rattle.proof_check.proofs.NamedLaws.{inside_two, call_two, three}
use Rattle.proof_check.proofs.Soundness.{IsProved, Facts, sound}

-- ---- targets spell predicates

abbrev Spell : (ℕ → Option Scoped) → Type 0
Spell preds = (k : ℕ) (sc : Scoped) → preds k ≡ Some sc → SpellsPredicate sc.pred

passes_at : (line : List form.Pred) (k : ℕ) (p : form.Pred) → list_all form.is_pred line ≡ true → slice_get line k ≡ Some p → form.is_pred p ≡ true
passes_at [] k p h e = absurd (cc)
passes_at (q ∷ qs) zero p h e =
    let b = both_hold (form.is_pred q) (list_all form.is_pred qs) h in
    let i : q ≡ p = cc in
    subst (λ (x : form.Pred). form.is_pred x ≡ true) i b.0
passes_at (q ∷ qs) (suc k) p h e = passes_at qs k p (both_hold (form.is_pred q) (list_all form.is_pred qs) h).1 e

spelled_line : (g : Graph) (o : Option form.Pred) (sc : Scoped) → ((p : form.Pred) → o ≡ Some p → form.is_pred p ≡ true) → option_and_then (pred_named g) o ≡ Some sc → SpellsPredicate sc.pred
spelled_line g None sc h e = absurd (cc)
spelled_line g (Some p) sc h e = pred_spells g p sc (h p refl) e

preds_spell : (g : Graph) (a : Content) → IsTrue (is_annotation a) → Spell (pred_at g a)
preds_spell g a h k sc e =
    let b = both_hold (list_all form.is_pred a.preds) _ h in
    spelled_line g (slice_get a.preds k) sc (λ p i. passes_at a.preds k p b.0 i) e

truth_spells : (p : ℕ) (value : Bool) → SpellsPredicate (truth_of p value).pred
truth_spells p value = (truth value, refl, inl tt)

scoped_spells : (preds : ℕ → Option Scoped) (p k : ℕ) (sc : Scoped) → Spell preds → scoped_at preds p k ≡ Some sc → SpellsPredicate sc.pred
scoped_spells preds p zero sc h e = let i : truth_of p true ≡ sc = cc in subst (λ (x : Scoped). SpellsPredicate x.pred) i (truth_spells p true)
scoped_spells preds p (suc zero) sc h e = let i : truth_of p false ≡ sc = cc in subst (λ (x : Scoped). SpellsPredicate x.pred) i (truth_spells p false)
scoped_spells preds p (suc (suc k)) sc h e = h k sc e

inside_target : (preds : ℕ → Option Scoped) (q l r : ℕ) (o : Option PlainAct) (t : Triple) → Spell preds → inside_at preds q l r o ≡ Some t → HasTarget t
inside_target preds q l r None t h e = absurd (cc)
inside_target preds q l r (Some (inside_act p written helpers rows)) t h e =
    let w = inside_two preds q l r p written helpers rows (Some (inside_act p written helpers rows)) t refl e in
    subst HasTarget w.made (scoped_spells preds p r w.other h w.second)
inside_target preds q l r (Some (call_act caller callee helpers rows)) t h e = absurd (cc)
inside_target preds q l r (Some (back_act c targets)) t h e = absurd (cc)

call_target : (preds : ℕ → Option Scoped) (q l r : ℕ) (o : Option PlainAct) (t : Triple) → Spell preds → call_at preds q l r o ≡ Some t → HasTarget t
call_target preds q l r None t h e = absurd (cc)
call_target preds q l r (Some (inside_act p written helpers rows)) t h e = absurd (cc)
call_target preds q l r (Some (call_act caller callee helpers rows)) t h e =
    let w = call_two preds q l r caller callee helpers rows (Some (call_act caller callee helpers rows)) t refl e in
    subst HasTarget w.made (scoped_spells preds callee r w.other h w.second)
call_target preds q l r (Some (back_act c targets)) t h e = absurd (cc)

return_target : (preds : ℕ → Option Scoped) (x b l r : ℕ) (o : Option PlainAct) (t : Triple) → Spell preds → return_at preds x b l r o ≡ Some t → HasTarget t
return_target preds x b l r None t h e = absurd (cc)
return_target preds x b l r (Some (inside_act p written helpers rows)) t h e = absurd (cc)
return_target preds x b l r (Some (call_act caller callee helpers rows)) t h e =
    let w = three l (scoped_at preds callee x) (scoped_at preds caller b) (scoped_at preds caller r) t e in
    subst HasTarget w.made (scoped_spells preds caller r w.to h w.third)
return_target preds x b l r (Some (back_act c targets)) t h e = absurd (cc)

back_target : (acts : List PlainAct) (preds : ℕ → Option Scoped) (x b l r : ℕ) (o : Option PlainAct) (t : Triple) → Spell preds → back_at acts preds x b l r o ≡ Some t → HasTarget t
back_target acts preds x b l r None t h e = absurd (cc)
back_target acts preds x b l r (Some (inside_act p written helpers rows)) t h e = absurd (cc)
back_target acts preds x b l r (Some (call_act caller callee helpers rows)) t h e = absurd (cc)
back_target acts preds x b l r (Some (back_act c targets)) t h e = return_target preds x b l r (slice_get acts c) t h e

target : (acts : List PlainAct) (preds : ℕ → Option Scoped) (numbers : Listed) (t : Triple) → Spell preds → triple_at acts preds numbers ≡ Some t → HasTarget t
target acts preds (Inside q l r) t h e = inside_target preds q l r (slice_get acts l) t h e
target acts preds (Call q l r) t h e = call_target preds q l r (slice_get acts l) t h e
target acts preds (Back x b l r) t h e = back_target acts preds x b l r (slice_get acts l) t h e

-- ---- triples are valid

refuted_by : (al : Alphabet) (t : Triple) (o : Option (List PlainNode)) → IsRefutedBy al t o → (nodes : List PlainNode) × IsRefuted al t nodes
refuted_by al t None h = absurd h
refuted_by al t (Some nodes) h = (nodes, h)

-- the line of a triple names it
pub triple_names : (g : Graph) (a : Content) (s : Sketch) (t : NamedTriple) → Names g a s → Member s.triples t → (line : form.Triple) × NamesTriple g (pred_at g a) line t
triple_names g a s t n m =
    let p = place_of s.triples t m in
    let l = within s.triples p.0 t p.1 in
    let c = n.triples.count in
    let w = something_at a.triples p.0 (omega (arith, l, c)) in
    (w.0, n.triples.related p.0 w.0 t w.1 p.1)

listed_proved : (g : Graph) (a : Content) → IsGraph g → IsTrue (is_annotation a) → (p : Proves g a) → (numbers : Listed) → Lists p.sketch.triples numbers → IsProved g (pred_at g a) numbers
listed_proved g a i h p numbers l =
    let n = (triple_names g a p.sketch l.triple p.named l.stands).1 in
    let r = refuted_by (alphabet_of g) l.triple.triple l.triple.proof (p.refuted l.triple l.stands) in
    record {
      triple = l.triple.triple;
      named = subst (λ (x : Listed). triple_at g.acts (pred_at g a) x ≡ Some l.triple.triple) l.has n.triple;
      valid = refuted_valid g l.triple.triple r.0 i (target g.acts (pred_at g a) l.triple.listed l.triple.triple (preds_spell g a h) n.triple) n.agrees r.1;
    }

pub facts_of : (g : Graph) (a : Content) → IsGraph g → IsTrue (is_annotation a) → (p : Proves g a) → Facts g (pred_at g a) p.sketch
facts_of g a i h p = record {
  graph = i;
  proved = listed_proved g a i h p;
  errors = p.errors;
  sound = p.sound;
  steps = p.steps;
  backs = p.backs;
}

-- no word that the automaton accepts is feasible
pub proved_infeasible : (g : Graph) (a : Content) → IsGraph g → IsTrue (is_annotation a) → Proves g a → (w : List Letter) → Accepts g.automaton w → IsFeasible (alphabet_of g) w → ⊥
proved_infeasible g a i h p w accepts feasible = sound g (pred_at g a) p.sketch (facts_of g a i h p) p.start w accepts feasible

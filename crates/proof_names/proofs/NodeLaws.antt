-- When a line names no node: its place, its predicates or its entry node is none.
use Rattle.std.proofs.Common.{◌≡◌, ◌↔◌, ◌∙◌, ℕ, Bool, false, List, Option, None, Some, map, slice_get, sym, ap, subst}
use Rattle.std.specs.Prelude.{IsTrue}
use Rattle.std.specs.List.{AllByRecursion}
use Rattle.std.proofs.lemmas.Bool.{false≢true}
use Rattle.letter_acts.specs.Invariant.{Graph}
use Rattle.triple_rows.specs.declared.triples.Scoped.{Scoped}
use Rattle.proof_form.specs.Lines as form
use Rattle.proof_names.specs.Numbers.{index_in, short_in}
use Rattle.proof_names.specs.Options.{all_some}
use Rattle.proof_names.specs.Outlines.{OutlineNode}
use Rattle.proof_names.specs.Naming.{IsPredOf, IsEntryIn, MayBegin, NamesNode}

same_value : {X : Type 0} (o : Option X) (x y : X) → Some x ≡ o → o ≡ Some y → x ≡ y
same_value o x y e f = let k : Some x ≡ Some y = e ∙ f in cc

pub no_value : {X : Type 0} (o : Option X) (x : X) → None ≡ o → o ≡ Some x → ⊥
no_value o x e f = let k : None ≡ Some x = e ∙ f in absurd (cc)

pub no_preds : (g : Graph) (preds : ℕ → Option Scoped) (lines : List form.Node) (n : ℕ) (line : form.Node) → None ≡ all_some (map index_in line.preds) →
    (x : OutlineNode) → NamesNode g preds lines n line x → ⊥
no_preds g preds lines n line e x h = no_value (all_some (map index_in line.preds)) x.preds e h.preds_are

pub named_preds : (g : Graph) (preds : ℕ → Option Scoped) (lines : List form.Node) (n : ℕ) (line : form.Node) (place p : ℕ) (numbers : List ℕ) →
    Some place ≡ short_in line.place → Some p ≡ slice_get g.place_procs place → Some numbers ≡ all_some (map index_in line.preds) →
    (x : OutlineNode) → NamesNode g preds lines n line x → AllByRecursion (IsPredOf preds p) numbers
named_preds g preds lines n line place p numbers e f k x h =
    let a : place ≡ x.place = same_value (short_in line.place) place x.place e h.place in
    let b : p ≡ h.proc = same_value (slice_get g.place_procs place) p h.proc f (ap (slice_get g.place_procs) a ∙ h.exists) in
    let d : numbers ≡ x.preds = same_value (all_some (map index_in line.preds)) numbers x.preds k h.preds_are in
    subst (λ (q : ℕ). AllByRecursion (IsPredOf preds q) numbers) (sym b) (subst (AllByRecursion (IsPredOf preds h.proc)) (sym d) h.scoped)

pub named_entry : (g : Graph) (preds : ℕ → Option Scoped) (lines : List form.Node) (n : ℕ) (line : form.Node) (place p entry : ℕ) →
    Some place ≡ short_in line.place → Some p ≡ slice_get g.place_procs place → Some entry ≡ index_in line.entry →
    (x : OutlineNode) → NamesNode g preds lines n line x → IsEntryIn g p lines entry × (entry ≡ n → MayBegin g p place)
named_entry g preds lines n line place p entry e f k x h =
    let a : place ≡ x.place = same_value (short_in line.place) place x.place e h.place in
    let b : p ≡ h.proc = same_value (slice_get g.place_procs place) p h.proc f (ap (slice_get g.place_procs) a ∙ h.exists) in
    let d : entry ≡ x.entry = same_value (index_in line.entry) entry x.entry k h.entry in (
      subst (λ (q : ℕ). IsEntryIn g q lines entry) (sym b) (subst (IsEntryIn g h.proc lines) (sym d) h.is_entry),
      λ i. subst (λ (q : ℕ). MayBegin g q place) (sym b) (subst (MayBegin g h.proc) (sym a) (h.begins (sym d ∙ i))),
    )

pub refused : (P : Type 0) (b : Bool) → (IsTrue b ↔ P) → b ≡ false → P → ⊥
refused P b h e p = false≢true (sym e ∙ h.1 p)

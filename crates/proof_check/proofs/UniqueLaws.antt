-- What the checks of what lines name say of the annotation.
use Rattle.std.proofs.Common.{◌≡◌, ℕ, ◌+◌, ◌<◌, List, Some, refl, subst, arith}
use Rattle.std.specs.Prelude.{slice_get, Result, Ok, Err, OnOk, IsTrue}
use Rattle.nwa_base.specs.declared.letters.Letter.{Letter}
use Rattle.nwa_base.specs.Acceptance.{Accepts}
use Rattle.letter_acts.specs.Invariant.{Graph, alphabet_of}
use Rattle.letter_acts.specs.Feasible.{IsFeasible}
use Rattle.letter_acts.specs.Kept.{Keeps}
use Rattle.triple_rows.proofs.ListLaws.{within, something_at}
use Rattle.proof_form.specs.Annotations.{Content, is_annotation}
use Rattle.proof_names.specs.Pairs.{ArePaired}
use Rattle.proof_names.specs.Naming.{NamesTriple, NamesNode, NamesStep}
use Rattle.proof_names.specs.Items.{Names, IsNamed, IsFirstUnnamed, pred_at, place_at, first_triple, first_node, first_step, item_count}
use Rattle.proof_names.specs.Outlines.{Sketch}
use Rattle.proof_names.proofs.OnceLaws.{names_one}
use Rattle.proof_check.specs.declared.rejects.Reject.{Reject}
use Rattle.proof_check.specs.declared.rejects.Reject.TheVariants.{At}
use Rattle.proof_check.specs.declared.rejects.RejectCause.{RejectCause}
use Rattle.proof_check.specs.declared.rejects.RejectCause.TheVariants.{BadTriple, NoStart, OpenError, MissingStep, BadStep, BadName}
use Rattle.proof_check.specs.Proves.{Proves}
use Rattle.proof_check.specs.Checks.{PassesIn, Passes, turn, IsFirst, IsFirstIn, AreOutcomes}
use Rattle.proof_check.proofs.ListLaws.{member_at, place_of}
use Rattle.proof_check.proofs.ProvedLaws.{proved_infeasible}

-- ---- each item is named

related_at : {X Y : Type 0} (R : ℕ → X → Y → Type 0) (xs : List X) (ys : List Y) → ArePaired R xs ys → (k : ℕ) (x : X) → slice_get xs k ≡ Some x → (y : Y) × R k x y
related_at R xs ys a k x e =
    let l = within xs k x e in
    let c = a.count in
    let w = something_at ys k (omega (arith, l, c)) in
    (w.0, a.related k x w.0 e w.1)

named_item : (g : Graph) (a : Content) (s : Sketch) → Names g a s → (i : ℕ) → IsNamed g a i
named_item g a s n i = record {
  preds = λ line e. n.preds i line e;
  triples = λ k line e f. related_at (λ j l x. NamesTriple g (pred_at g a) l x) a.triples s.triples n.triples k line f;
  nodes = λ k line e f. related_at (NamesNode g (pred_at g a) a.nodes) a.nodes s.nodes n.nodes k line f;
  steps = λ k line e f. related_at (λ j l x. NamesStep g (place_at a) l x) a.steps s.steps n.steps k line f;
}

-- ---- items of the annotation

passes : (g : Graph) (a : Content) (s : Sketch) → Names g a s → (c : RejectCause) (i : ℕ) → PassesIn g a s c i → Passes g a c i
passes g a s n BadName i p = named_item g a s n i
passes g a s n BadTriple i p = λ t m. subst (λ (x : Sketch). PassesIn g a x BadTriple i) (names_one g a s t n m) p
passes g a s n NoStart i p = λ t m. subst (λ (x : Sketch). PassesIn g a x NoStart i) (names_one g a s t n m) p
passes g a s n OpenError i p = λ t m. subst (λ (x : Sketch). PassesIn g a x OpenError i) (names_one g a s t n m) p
passes g a s n BadStep i p = λ t m. subst (λ (x : Sketch). PassesIn g a x BadStep i) (names_one g a s t n m) p
passes g a s n MissingStep i p = λ t m. subst (λ (x : Sketch). PassesIn g a x MissingStep i) (names_one g a s t n m) p

fails_too : (g : Graph) (a : Content) (s : Sketch) → Names g a s → (c : RejectCause) (i : ℕ) → (PassesIn g a s c i → ⊥) → Passes g a c i → ⊥
fails_too g a s n BadName i h p = h tt
fails_too g a s n BadTriple i h p = h (p s n)
fails_too g a s n NoStart i h p = h (p s n)
fails_too g a s n OpenError i h p = h (p s n)
fails_too g a s n BadStep i h p = h (p s n)
fails_too g a s n MissingStep i h p = h (p s n)

-- the first that fails of what lines name is the first that fails
pub first_of : (g : Graph) (a : Content) (s : Sketch) (item : ℕ) (cause : RejectCause) → Names g a s → IsFirstIn g a s item cause → IsFirst g a item cause
first_of g a s item cause n h = record {
  earlier = λ c i l. passes g a s n c i (h.earlier c i l);
  before = λ i l. passes g a s n cause i (h.before i l);
  fails = fails_too g a s n cause item h.fails;
}

none_earlier : (g : Graph) (a : Content) (c : RejectCause) (i : ℕ) → turn c < 1 → Passes g a c i
none_earlier g a BadName i l = absurd (omega arith)
none_earlier g a BadTriple i l = absurd (omega arith)
none_earlier g a NoStart i l = absurd (omega arith)
none_earlier g a OpenError i l = absurd (omega arith)
none_earlier g a BadStep i l = absurd (omega arith)
none_earlier g a MissingStep i l = absurd (omega arith)

pub unnamed_first : (g : Graph) (a : Content) (item : ℕ) → IsFirstUnnamed g a item → IsFirst g a item BadName
unnamed_first g a item h = record { earlier = none_earlier g a; before = h.before; fails = h.fails }

-- ---- Proves

pub proves_of : (g : Graph) (a : Content) (s : Sketch) → Names g a s → ((c : RejectCause) (i : ℕ) → PassesIn g a s c i) → Proves g a
proves_of g a s n h = record {
  sketch = s;
  named = n;
  refuted = λ t m. let p = place_of s.triples t m in h BadTriple (first_triple a + p.0) p.0 t refl p.1;
  start = h NoStart (item_count a) refl;
  errors = λ k x e. h OpenError (first_node a + k) k x refl e;
  sound = λ t m. let p = place_of s.steps t m in h BadStep (first_step a + p.0) p.0 t refl p.1;
  steps = λ k x e o. (h MissingStep (first_node a + k) k x refl e o).0;
  backs = λ k x e o. (h MissingStep (first_node a + k) k x refl e o).1;
}

proved_passes : (g : Graph) (a : Content) (p : Proves g a) (c : RejectCause) (i : ℕ) → PassesIn g a p.sketch c i
proved_passes g a p BadName i = tt
proved_passes g a p BadTriple i = λ k t e f. p.refuted t (member_at p.sketch.triples k t f)
proved_passes g a p NoStart i = λ e. p.start
proved_passes g a p OpenError i = λ k x e f. p.errors k x f
proved_passes g a p BadStep i = λ k t e f. p.sound t (member_at p.sketch.steps k t f)
proved_passes g a p MissingStep i = λ k x e f o. (p.steps k x f o, p.backs k x f o)

-- where the annotation proves the graph, no check fails
pub proved_no_first : (g : Graph) (a : Content) (item : ℕ) (cause : RejectCause) → Proves g a → IsFirst g a item cause → ⊥
proved_no_first g a item cause p h = h.fails (passes g a p.sketch p.named cause item (proved_passes g a p cause item))

-- ---- the outcome of all checks

pub ok_proves : (g : Graph) (a : Content) (s : Sketch) (r : Result (Unit {0}) Reject) → Names g a s → AreOutcomes g a s r → OnOk r (Proves g a)
ok_proves g a s (Ok u) n h = proves_of g a s n h
ok_proves g a s (Err r) n h = tt

pub first_at : (g : Graph) (a : Content) (s : Sketch) (r : Result (Unit {0}) Reject) → Names g a s → AreOutcomes g a s r → (item : ℕ) (cause : RejectCause) →
    r ≡ Err (At item cause) → IsFirst g a item cause
first_at g a s r n h item cause e = first_of g a s item cause n (subst (λ (x : Result (Unit {0}) Reject). AreOutcomes g a s x) e h)

pub ok_infeasible : (g : Graph) (a : Content) (r : Result (Unit {0}) Reject) → Keeps g → IsTrue (is_annotation a) → OnOk r (Proves g a) →
    OnOk r ((w : List Letter) → Accepts g.automaton w → IsFeasible (alphabet_of g) w → ⊥)
unfolding Keeps
ok_infeasible g a (Ok u) k v p = proved_infeasible g a k v p
ok_infeasible g a (Err r) k v p = tt

-- What the invariant of a graph gives of its frames and of the letters on its edges.
use Rattle.std.proofs.Common.{◌≡◌, ◌∙◌, ℕ, zero, suc, ◌<◌, Bool, true, false, List, [], ◌∷◌, length, Option, None, Some, refl, sym, ap, subst, arith}
use Rattle.std.specs.Prelude.{slice_get, unwrap_or, is_some, if◌then◌else◌}
use Rattle.std.specs.List.{AllByRecursion}
use Rattle.std.proofs.lemmas.Bool.{false≢true}
use Rattle.boogie_tree.specs.declared.tree.VarInfo.{VarInfo}
use Rattle.nwa_base.specs.declared.letters.Kind.TheVariants as kinds
use Rattle.nwa_base.specs.declared.letters.Letter.{Letter}
use Rattle.nwa_base.specs.Letters.{same_letter}
use Rattle.nwa_base.specs.Members.{Member}
use Rattle.nwa_base.proofs.LetterLemmas.{same_letter-true}
use Rattle.letter_acts.specs.Frames.{Columns, IsFrame}
use Rattle.letter_acts.specs.Acts.{PlainAct, inside_act, call_act, back_act, Alphabet, frame_of, letter_of, named_act, act_of}
use Rattle.letter_acts.specs.Invariant.{Graph, alphabet_of, IsGraph, IsActed, BackIsActedFrom, InsideStays, InsideFollows, CallEnters, CallFollows, BackLeaves, BackFollows}
use Rattle.letter_acts.specs.Known.{FramesAgree, InsideKnown, CallKnown, BackKnown}
use Rattle.letter_acts.proofs.ListLemmas.{all_member}
use Rattle.letter_acts.proofs.FrameLemmas.{globals_are, constants_are, variables_are, olds_are, olds_of_variables}

pub frames_agree : (globals : List VarInfo) (a b : Columns) → IsFrame globals a → IsFrame globals b → FramesAgree a b
frames_agree globals a b f g = record {
  globals = globals_are globals a f ∙ sym (globals_are globals b g);
  constants = constants_are globals a f ∙ sym (constants_are globals b g);
  variables = variables_are globals a f ∙ sym (variables_are globals b g);
  olds = olds_are globals a f ∙ sym (olds_are globals b g);
  olds_are_variables = olds_of_variables globals a f;
}

frame_at : (P : Columns → Type 0) (frames : List Columns) (p : ℕ) → p < length frames → AllByRecursion P frames → P (unwrap_or (slice_get frames p) [])
frame_at P [] p l h = absurd (omega arith)
frame_at P (f ∷ fs) zero l h = h.0
frame_at P (f ∷ fs) (suc p) l h = frame_at P fs p (omega arith) h.1

pub frames_laid_out : (g : Graph) → IsGraph g → (globals : List VarInfo) × ((p : ℕ) → p < length g.frames → IsFrame globals (frame_of (alphabet_of g) p))
frames_laid_out g h = (h.frames.globals, λ p l. frame_at (IsFrame h.frames.globals) g.frames p l h.frames.laid_out)

all_get : {X : Type 0} (P : X → Type 0) (xs : List X) (i : ℕ) (x : X) → slice_get xs i ≡ Some x → AllByRecursion P xs → P x
all_get P [] i x e h = absurd (cc)
all_get P (y ∷ ys) zero x e h = let k : y ≡ x = cc in subst P k h.0
all_get P (y ∷ ys) (suc i) x e h = all_get P ys i x e h.1

if_found : (a : Letter) (b act : PlainAct) (t : Bool) → same_letter a (letter_of a.id b) ≡ t → (if t then Some b else None) ≡ Some act →
    (Some b ≡ Some act) × (a ≡ letter_of a.id act)
if_found a b act true e h =
    let k : b ≡ act = cc in
    (h, same_letter-true a (letter_of a.id b) e ∙ ap (letter_of a.id) k)
if_found a b act false e h = absurd (cc)

named_found : (a : Letter) (o : Option PlainAct) (act : PlainAct) → named_act a o ≡ Some act → (o ≡ Some act) × (a ≡ letter_of a.id act)
named_found a None act h = absurd (cc)
named_found a (Some b) act h = if_found a b act (same_letter a (letter_of a.id b)) refl h

-- the act of a letter of the alphabet has the letter's number, and makes that letter
pub act_found : (al : Alphabet) (a : Letter) (act : PlainAct) → act_of al a ≡ Some act → (slice_get al.acts a.id ≡ Some act) × (a ≡ letter_of a.id act)
act_found al a act h = named_found a (slice_get al.acts a.id) act h

inside_known : (g : Graph) → IsGraph g → (q e : ℕ) (a : Letter) (o : Option PlainAct) → act_of (alphabet_of g) a ≡ o → InsideStays g o q e → InsideKnown g q a e
inside_known g h q e a None i s = absurd s
inside_known g h q e a (Some (inside_act p written helpers rows)) i s =
    let f = act_found (alphabet_of g) a (inside_act p written helpers rows) i in
    record {
      proc = p;
      written = written;
      helpers = helpers;
      rows = rows;
      act = f.0;
      call = ap (λ (b : Letter). b.call) f.1;
      acted = all_get (IsActed (alphabet_of g)) g.acts a.id (inside_act p written helpers rows) f.0 h.acts;
      starts = s.0;
      ends = s.1;
    }
inside_known g h q e a (Some (call_act caller callee helpers rows)) i s = absurd s
inside_known g h q e a (Some (back_act c targets)) i s = absurd s

pub inside_edge_known : (g : Graph) → IsGraph g → (q e : ℕ) (a : Letter) → Member g.automaton.insides (q, a, e) → InsideKnown g q a e
inside_edge_known g h q e a m =
    inside_known g h q e a (act_of (alphabet_of g) a) refl (all_member (InsideFollows g) g.automaton.insides (q, a, e) m h.edges.insides).stays

call_known : (g : Graph) → IsGraph g → (q e : ℕ) (a : Letter) (o : Option PlainAct) → act_of (alphabet_of g) a ≡ o → CallEnters g o q e → CallKnown g q a e
call_known g h q e a None i s = absurd s
call_known g h q e a (Some (inside_act p written helpers rows)) i s = absurd s
call_known g h q e a (Some (call_act caller callee helpers rows)) i s =
    let f = act_found (alphabet_of g) a (call_act caller callee helpers rows) i in
    record {
      caller = caller;
      callee = callee;
      helpers = helpers;
      rows = rows;
      act = f.0;
      call = ap (λ (b : Letter). b.call) f.1;
      acted = all_get (IsActed (alphabet_of g)) g.acts a.id (call_act caller callee helpers rows) f.0 h.acts;
      starts = s.0;
      enters = s.1;
    }
call_known g h q e a (Some (back_act c targets)) i s = absurd s

pub call_edge_known : (g : Graph) → IsGraph g → (q e : ℕ) (a : Letter) → Member g.automaton.calls (q, a, e) → CallKnown g q a e
call_edge_known g h q e a m =
    call_known g h q e a (act_of (alphabet_of g) a) refl (all_member (CallFollows g) g.automaton.calls (q, a, e) m h.edges.calls).enters

back_from : (g : Graph) → IsGraph g → (q p e : ℕ) (r : Letter) (targets : List ℕ) (o : Option PlainAct) → slice_get g.acts r.call ≡ o →
    slice_get g.acts r.id ≡ Some (back_act r.call targets) → BackIsActedFrom (alphabet_of g) targets o → BackLeaves g o q p e → BackKnown g q p r e
back_from g h q p e r targets None i k b s = absurd s
back_from g h q p e r targets (Some (inside_act n written helpers rows)) i k b s = absurd s
back_from g h q p e r targets (Some (call_act caller callee helpers rows)) i k b s = record {
  targets = targets;
  caller = caller;
  callee = callee;
  helpers = helpers;
  rows = rows;
  act = k;
  call = i;
  call_acted = all_get (IsActed (alphabet_of g)) g.acts r.call (call_act caller callee helpers rows) i h.acts;
  acted = b;
  leaves = s.0;
  before = s.1;
  ends = s.2;
}
back_from g h q p e r targets (Some (back_act c more)) i k b s = absurd s

back_known : (g : Graph) → IsGraph g → (q p e : ℕ) (r : Letter) (o : Option PlainAct) → r.kind ≡ kinds.Back → act_of (alphabet_of g) r ≡ o → is_some o ≡ true →
    BackLeaves g (slice_get g.acts r.call) q p e → BackKnown g q p r e
back_known g h q p e r None k i n s = absurd (false≢true n)
back_known g h q p e r (Some (inside_act m written helpers rows)) k i n s =
    let f = act_found (alphabet_of g) r (inside_act m written helpers rows) i in
    let w : kinds.Inside ≡ kinds.Back = sym (ap (λ (b : Letter). b.kind) f.1) ∙ k in
    absurd (cc)
back_known g h q p e r (Some (call_act caller callee helpers rows)) k i n s =
    let f = act_found (alphabet_of g) r (call_act caller callee helpers rows) i in
    let w : kinds.Call ≡ kinds.Back = sym (ap (λ (b : Letter). b.kind) f.1) ∙ k in
    absurd (cc)
back_known g h q p e r (Some (back_act c targets)) k i n s =
    let f = act_found (alphabet_of g) r (back_act c targets) i in
    let w : r.call ≡ c = ap (λ (b : Letter). b.call) f.1 in
    let a : BackIsActedFrom (alphabet_of g) targets (slice_get g.acts c) = all_get (IsActed (alphabet_of g)) g.acts r.id (back_act c targets) f.0 h.acts in
    back_from g h q p e r targets (slice_get g.acts r.call) refl
    (f.0 ∙ ap (λ (d : ℕ). Some (back_act d targets)) (sym w))
    (subst (λ (d : ℕ). BackIsActedFrom (alphabet_of g) targets (slice_get g.acts d)) (sym w) a) s

pub back_edge_known : (g : Graph) → IsGraph g → (q p e : ℕ) (r : Letter) → r.kind ≡ kinds.Back → Member g.automaton.backs (q, p, r, e) → BackKnown g q p r e
back_edge_known g h q p e r k m =
    let f = all_member (BackFollows g) g.automaton.backs (q, p, r, e) m h.edges.backs in
    back_known g h q p e r (act_of (alphabet_of g) r) k refl f.letter f.leaves

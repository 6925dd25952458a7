-- Where an annotation proves a graph, no accepted word is feasible: a run of the stack machine is followed by nodes that describe
-- where it is, and a node without false describes no error.
use Rattle.std.proofs.Common.{◌≡◌, ◌∙◌, ℕ, List, [], ◌∷◌, Option, None, Some, refl, sym, subst, inl, inr}
use Rattle.std.specs.Prelude.{Bool, true, false, slice_get, if◌then◌else◌}
use Rattle.nwa_base.specs.declared.letters.Kind.{Kind}
use Rattle.nwa_base.specs.declared.letters.Kind.TheVariants as kinds
use Rattle.nwa_base.specs.declared.letters.Letter.{Letter}
use Rattle.nwa_base.specs.Letters.{same_letter}
use Rattle.nwa_base.specs.Members.{Member}
use Rattle.nwa_base.specs.Acceptance.{Accepts}
use Rattle.lin_rows.specs.Rows.{LinearRow}
use Rattle.letter_acts.specs.Acts.{PlainAct, inside_act, call_act, back_act, Alphabet, letter_of, named_act, act_of}
use Rattle.letter_acts.specs.Meaning.{Situation, ActInside, ActCalls, ActReturns, ReturnsFrom}
use Rattle.letter_acts.specs.Ways.{Leads, Goes}
use Rattle.letter_acts.specs.Feasible.{IsFeasible, machine}
use Rattle.letter_acts.specs.Invariant.{Graph, IsGraph, alphabet_of}
use Rattle.letter_acts.proofs.MachineLemmas.{machine_runs}
use Rattle.letter_acts.proofs.KnownLemmas.{inside_edge_known, call_edge_known, back_edge_known}
use Rattle.triple_rows.specs.declared.triples.Scoped.{Scoped}
use Rattle.triple_rows.specs.declared.triples.Triple.{Triple}
use Rattle.triple_rows.specs.declared.triples.Triple.TheVariants as triples
use Rattle.triple_rows.specs.Triples.{ScopedHolds, IsValid, truth_of}
use Rattle.proof_names.specs.declared.outlines.Listed.{Listed}
use Rattle.proof_names.specs.declared.outlines.Listed.TheVariants.{Inside, Call, Back}
use Rattle.proof_names.specs.declared.outlines.NamedStep.{NamedStep}
use Rattle.proof_names.specs.declared.outlines.NamedStep.TheVariants as steps
use Rattle.proof_names.specs.Naming.{scoped_at, triple_at}
use Rattle.proof_names.specs.Outlines.{OutlineNode, Sketch}
use Rattle.proof_check.specs.Steps.{IsNode, IsOf, IsOpen, Lists, StepIsSound, ReturnIsSound, IsSound, HasSteps, HasBacks}
use Rattle.proof_check.specs.Described.{HoldsAt, Describes}
use Rattle.proof_check.specs.Proves.{HasStart}
use Rattle.proof_check.proofs.NamedLaws.{inside_two, call_two, back_three}

-- a listed triple, which is named and valid
pub record IsProved (g : Graph) (preds : ℕ → Option Scoped) (numbers : Listed) : Type 0 where
  pub triple : Triple
  pub named : triple_at g.acts preds numbers ≡ Some triple
  pub valid : IsValid (alphabet_of g) triple

-- what is used of an annotation that proves a graph
pub record Facts (g : Graph) (preds : ℕ → Option Scoped) (s : Sketch) : Type 0 where
  pub graph : IsGraph g
  pub proved : (numbers : Listed) → Lists s.triples numbers → IsProved g preds numbers
  pub errors : (n : ℕ) (x : OutlineNode) → IsNode s n x → Member g.automaton.finals x.place → Member x.preds 1
  pub sound : (t : NamedStep) → Member s.steps t → IsSound g s t
  pub steps : (n : ℕ) (x : OutlineNode) → IsNode s n x → IsOpen x → HasSteps g s n x
  pub backs : (n : ℕ) (x : OutlineNode) → IsNode s n x → IsOpen x → HasBacks g s n x

-- a configuration on the stack is described by a node from which a step leads by the call letter to the entry node of the callee
record IsOpenCall (g : Graph) (preds : ℕ → Option Scoped) (s : Sketch) (entry : ℕ) (c : ℕ × Situation) (n : ℕ) (x : OutlineNode) : Type 0 where
  stands : IsNode s n x
  describes : Describes preds x c
  letter : Letter
  to : ℕ
  edge : Member g.automaton.calls (c.0, letter, to)
  step : Member s.steps (steps.Step n letter.id entry)

abbrev AreLinked : Graph → (ℕ → Option Scoped) → Sketch → ℕ → List (ℕ × Situation) → Type 0
AreLinked g preds s entry [] = Unit {0}
AreLinked g preds s entry (c ∷ stack) = (n : ℕ) × (x : OutlineNode) × IsOpenCall g preds s entry c n x × AreLinked g preds s x.entry stack

false_holds_not : (preds : ℕ → Option Scoped) (s : Situation) → HoldsAt preds 1 s → ⊥
false_holds_not preds s h =
    let k : Some (truth_of s.proc false) ≡ Some h.0 = h.1 in
    let e : truth_of s.proc false ≡ h.0 = cc in
    (subst (λ (sc : Scoped). ScopedHolds sc s) (sym e) h.2).1

true_holds : (preds : ℕ → Option Scoped) (s : Situation) → HoldsAt preds 0 s
true_holds preds s = (truth_of s.proc true, refl, (refl, tt))

-- a node that describes something lacks false
pub describes_open : (preds : ℕ → Option Scoped) (x : OutlineNode) (c : ℕ × Situation) → Describes preds x c → IsOpen x
describes_open preds x c d h = false_holds_not preds c.1 (d.holds 1 h)

-- a source that is true or in the node holds
pub source_holds : (preds : ℕ → Option Scoped) (x : OutlineNode) (c : ℕ × Situation) (q : ℕ) → Describes preds x c → IsOf q x → HoldsAt preds q c.1
source_holds preds x c q d (inl e) = subst (λ (k : ℕ). HoldsAt preds k c.1) (sym e) (true_holds preds c.1)
source_holds preds x c q d (inr h) = d.holds q h

-- what holds of the situation by its number is the predicate that the procedure has under it
same_holds : (preds : ℕ → Option Scoped) (p q : ℕ) (sc : Scoped) (s : Situation) → scoped_at preds p q ≡ Some sc → s.proc ≡ p → HoldsAt preds q s → ScopedHolds sc s
same_holds preds p q sc s e i h =
    let k : scoped_at preds p q ≡ Some h.0 = subst (λ (n : ℕ). scoped_at preds n q ≡ Some h.0) i h.1 in
    let m : h.0 ≡ sc = cc in
    subst (λ (x : Scoped). ScopedHolds x s) m h.2

holds_so : (preds : ℕ → Option Scoped) (p r : ℕ) (sc : Scoped) (s : Situation) → scoped_at preds p r ≡ Some sc → s.proc ≡ p → ScopedHolds sc s → HoldsAt preds r s
holds_so preds p r sc s e i h = (sc, subst (λ (n : ℕ). scoped_at preds n r ≡ Some sc) (sym i) e, h)

-- ---- the acts of letters

inside_if : (al : Alphabet) (act : PlainAct) (b : Bool) (s t : Situation) → ActInside al (if b then Some act else None) s t → ActInside al (Some act) s t
inside_if al act true s t h = h
inside_if al act false s t h = absurd h

inside_named : (al : Alphabet) (a : Letter) (o : Option PlainAct) (s t : Situation) → ActInside al (named_act a o) s t → ActInside al o s t
inside_named al a None s t h = absurd h
inside_named al a (Some act) s t h = inside_if al act (same_letter a (letter_of a.id act)) s t h

pub letter_inside : (g : Graph) (a : Letter) (s t : Situation) → ActInside (alphabet_of g) (act_of (alphabet_of g) a) s t → ActInside (alphabet_of g) (slice_get g.acts a.id) s t
letter_inside g a s t h = inside_named (alphabet_of g) a (slice_get g.acts a.id) s t h

calls_if : (al : Alphabet) (act : PlainAct) (b : Bool) (s t : Situation) → ActCalls al (if b then Some act else None) s t → ActCalls al (Some act) s t
calls_if al act true s t h = h
calls_if al act false s t h = absurd h

calls_named : (al : Alphabet) (a : Letter) (o : Option PlainAct) (s t : Situation) → ActCalls al (named_act a o) s t → ActCalls al o s t
calls_named al a None s t h = absurd h
calls_named al a (Some act) s t h = calls_if al act (same_letter a (letter_of a.id act)) s t h

pub letter_calls : (g : Graph) (a : Letter) (s t : Situation) → ActCalls (alphabet_of g) (act_of (alphabet_of g) a) s t → ActCalls (alphabet_of g) (slice_get g.acts a.id) s t
letter_calls g a s t h = calls_named (alphabet_of g) a (slice_get g.acts a.id) s t h

returns_if : (al : Alphabet) (act : PlainAct) (b : Bool) (x c t : Situation) → ActReturns al (if b then Some act else None) x c t → ActReturns al (Some act) x c t
returns_if al act true x c t h = h
returns_if al act false x c t h = absurd h

returns_named : (al : Alphabet) (a : Letter) (o : Option PlainAct) (x c t : Situation) → ActReturns al (named_act a o) x c t → ActReturns al o x c t
returns_named al a None x c t h = absurd h
returns_named al a (Some act) x c t h = returns_if al act (same_letter a (letter_of a.id act)) x c t h

pub letter_returns : (g : Graph) (a : Letter) (x c t : Situation) → ActReturns (alphabet_of g) (act_of (alphabet_of g) a) x c t → ActReturns (alphabet_of g) (slice_get g.acts a.id) x c t
letter_returns g a x c t h = returns_named (alphabet_of g) a (slice_get g.acts a.id) x c t h

-- ---- inside letters

inside_situations : (g : Graph) (p : ℕ) (written : List ℕ) (helpers : ℕ) (rows : List LinearRow) (o : Option PlainAct) (s t : Situation) →
    o ≡ Some (inside_act p written helpers rows) → ActInside (alphabet_of g) o s t → (s.proc ≡ p) × (t.proc ≡ p)
inside_situations g p written helpers rows o s t e h =
    let k : ActInside (alphabet_of g) (Some (inside_act p written helpers rows)) s t = subst (λ (a : Option PlainAct). ActInside (alphabet_of g) a s t) e h in
    (k.0.0, k.1.0)

pub inside_shown : (g : Graph) (preds : ℕ → Option Scoped) (p l q r : ℕ) (written : List ℕ) (helpers : ℕ) (rows : List LinearRow) (s t : Situation) →
    slice_get g.acts l ≡ Some (inside_act p written helpers rows) → ActInside (alphabet_of g) (slice_get g.acts l) s t →
    IsProved g preds (Inside q l r) → HoldsAt preds q s → HoldsAt preds r t
inside_shown g preds p l q r written helpers rows s t e h v hold =
    let w = inside_two preds q l r p written helpers rows (slice_get g.acts l) v.triple e v.named in
    let i = inside_situations g p written helpers rows (slice_get g.acts l) s t e h in
    let valid : IsValid (alphabet_of g) (triples.Inside w.one l w.other) = subst (λ (x : Triple). IsValid (alphabet_of g) x) (sym w.made) v.valid in
    holds_so preds p r w.other t w.second i.1 (valid s t h (same_holds preds p q w.one s w.first i.0 hold))

-- the end of a sound step by an inside letter describes what the letter leads to
inside_step : (g : Graph) (preds : ℕ → Option Scoped) (s : Sketch) → Facts g preds s → (n : ℕ) (x : OutlineNode) (c d : ℕ × Situation) (stack : List (ℕ × Situation)) (a : Letter) →
    IsNode s n x → Describes preds x c → AreLinked g preds s x.entry stack → Member g.automaton.insides (c.0, a, d.0) → ActInside (alphabet_of g) (act_of (alphabet_of g) a) c.1 d.1 →
    (m : ℕ) × (y : OutlineNode) × IsNode s m y × Describes preds y d × AreLinked g preds s y.entry stack
inside_step g preds s f n x c d stack a i u k edge act =
    let known = inside_edge_known g f.graph c.0 d.0 a edge in
    let found = letter_inside g a c.1 d.1 act in
    let there : Member g.automaton.insides (x.place, a, d.0) = subst (λ (q : ℕ). Member g.automaton.insides (q, a, d.0)) u.at edge in
    let to = (f.steps n x i (describes_open preds x c u)).insides a d.0 there in
    let any = f.sound (steps.Step n a.id to.number) to.step x to.end i to.stands in
    let sound : StepIsSound g s a.id x to.number to.end (Some (inside_act known.proc known.written known.helpers known.rows)) =
    subst (λ (o : Option PlainAct). StepIsSound g s a.id x to.number to.end o) known.act any in (
      to.number,
      to.end,
      to.stands,
      record {
        at = sym to.at;
        holds = λ r h.
            let w = sound.shown r h in
            inside_shown g preds known.proc a.id w.0 r known.written known.helpers known.rows c.1 d.1 known.act found
            (f.proved (Inside w.0 a.id r) w.1) (source_holds preds x c w.0 u w.2);
      },
      subst (λ (e : ℕ). AreLinked g preds s e stack) (sym sound.entry) k,
    )

-- ---- calls

call_situations : (g : Graph) (caller callee helpers : ℕ) (rows : List LinearRow) (o : Option PlainAct) (s t : Situation) →
    o ≡ Some (call_act caller callee helpers rows) → ActCalls (alphabet_of g) o s t → (s.proc ≡ caller) × (t.proc ≡ callee)
call_situations g caller callee helpers rows o s t e h =
    let k : ActCalls (alphabet_of g) (Some (call_act caller callee helpers rows)) s t = subst (λ (a : Option PlainAct). ActCalls (alphabet_of g) a s t) e h in
    (k.0.0, k.1.0)

pub call_shown : (g : Graph) (preds : ℕ → Option Scoped) (caller callee l q r helpers : ℕ) (rows : List LinearRow) (s t : Situation) →
    slice_get g.acts l ≡ Some (call_act caller callee helpers rows) → ActCalls (alphabet_of g) (slice_get g.acts l) s t →
    IsProved g preds (Call q l r) → HoldsAt preds q s → HoldsAt preds r t
call_shown g preds caller callee l q r helpers rows s t e h v hold =
    let w = call_two preds q l r caller callee helpers rows (slice_get g.acts l) v.triple e v.named in
    let i = call_situations g caller callee helpers rows (slice_get g.acts l) s t e h in
    let valid : IsValid (alphabet_of g) (triples.Call w.one l w.other) = subst (λ (x : Triple). IsValid (alphabet_of g) x) (sym w.made) v.valid in
    holds_so preds callee r w.other t w.second i.1 (valid s t h (same_holds preds caller q w.one s w.first i.0 hold))

call_step : (g : Graph) (preds : ℕ → Option Scoped) (s : Sketch) → Facts g preds s → (n : ℕ) (x : OutlineNode) (c d : ℕ × Situation) (stack : List (ℕ × Situation)) (a : Letter) →
    IsNode s n x → Describes preds x c → AreLinked g preds s x.entry stack → Member g.automaton.calls (c.0, a, d.0) → ActCalls (alphabet_of g) (act_of (alphabet_of g) a) c.1 d.1 →
    (m : ℕ) × (y : OutlineNode) × IsNode s m y × Describes preds y d × AreLinked g preds s y.entry (c ∷ stack)
call_step g preds s f n x c d stack a i u k edge act =
    let known = call_edge_known g f.graph c.0 d.0 a edge in
    let found = letter_calls g a c.1 d.1 act in
    let there : Member g.automaton.calls (x.place, a, d.0) = subst (λ (q : ℕ). Member g.automaton.calls (q, a, d.0)) u.at edge in
    let to = (f.steps n x i (describes_open preds x c u)).calls a d.0 there in
    let any = f.sound (steps.Step n a.id to.number) to.step x to.end i to.stands in
    let sound : StepIsSound g s a.id x to.number to.end (Some (call_act known.caller known.callee known.helpers known.rows)) =
    subst (λ (o : Option PlainAct). StepIsSound g s a.id x to.number to.end o) known.act any in (
      to.number,
      to.end,
      to.stands,
      record {
        at = sym to.at;
        holds = λ r h.
            let w = sound.shown r h in
            call_shown g preds known.caller known.callee a.id w.0 r known.helpers known.rows c.1 d.1 known.act found
            (f.proved (Call w.0 a.id r) w.1) (source_holds preds x c w.0 u w.2);
      },
      (
        n,
        x,
        record {
          stands = i;
          describes = u;
          letter = a;
          to = d.0;
          edge = edge;
          step = subst (λ (e : ℕ). Member s.steps (steps.Step n a.id e)) (sym sound.entry) to.step;
        },
        k,
      ),
    )

-- ---- returns

return_situations : (g : Graph) (targets : List ℕ) (caller callee helpers : ℕ) (rows : List LinearRow) (o : Option PlainAct) (x b t : Situation) →
    o ≡ Some (call_act caller callee helpers rows) → ReturnsFrom (alphabet_of g) targets o x b t → (x.proc ≡ callee) × (b.proc ≡ caller) × (t.proc ≡ caller)
return_situations g targets caller callee helpers rows o x b t e h =
    let k : ReturnsFrom (alphabet_of g) targets (Some (call_act caller callee helpers rows)) x b t =
    subst (λ (a : Option PlainAct). ReturnsFrom (alphabet_of g) targets a x b t) e h in
    (k.0.0, k.1.0, k.2.0)

back_situations : (g : Graph) (c : ℕ) (targets : List ℕ) (caller callee helpers : ℕ) (rows : List LinearRow) (o : Option PlainAct) (x b t : Situation) →
    o ≡ Some (back_act c targets) → slice_get g.acts c ≡ Some (call_act caller callee helpers rows) → ActReturns (alphabet_of g) o x b t →
    (x.proc ≡ callee) × (b.proc ≡ caller) × (t.proc ≡ caller)
back_situations g c targets caller callee helpers rows o x b t e f h =
    return_situations g targets caller callee helpers rows (slice_get g.acts c) x b t f (subst (λ (a : Option PlainAct). ActReturns (alphabet_of g) a x b t) e h)

pub back_shown : (g : Graph) (preds : ℕ → Option Scoped) (l x b r c : ℕ) (targets : List ℕ) (caller callee helpers : ℕ) (rows : List LinearRow) (at_exit at_call at_end : Situation) →
    slice_get g.acts l ≡ Some (back_act c targets) → slice_get g.acts c ≡ Some (call_act caller callee helpers rows) →
    ActReturns (alphabet_of g) (slice_get g.acts l) at_exit at_call at_end → IsProved g preds (Back x b l r) →
    HoldsAt preds x at_exit → HoldsAt preds b at_call → HoldsAt preds r at_end
back_shown g preds l x b r c targets caller callee helpers rows at_exit at_call at_end e k h v hx hb =
    let w = back_three g.acts preds x b l r c targets caller callee helpers rows (slice_get g.acts l) v.triple e k v.named in
    let i = back_situations g c targets caller callee helpers rows (slice_get g.acts l) at_exit at_call at_end e k h in
    let valid : IsValid (alphabet_of g) (triples.Back w.exit w.before l w.to) = subst (λ (t : Triple). IsValid (alphabet_of g) t) (sym w.made) v.valid in
    holds_so preds caller r w.to at_end w.third i.2
    (valid at_exit at_call at_end h (same_holds preds callee x w.exit at_exit w.first i.0 hx) (same_holds preds caller b w.before at_call w.second i.1 hb))

back_step : (g : Graph) (preds : ℕ → Option Scoped) (s : Sketch) → Facts g preds s → (n : ℕ) (x : OutlineNode) (c b d : ℕ × Situation) (stack : List (ℕ × Situation)) (a : Letter) →
    a.kind ≡ kinds.Back → IsNode s n x → Describes preds x c → AreLinked g preds s x.entry (b ∷ stack) →
    Member g.automaton.backs (c.0, b.0, a, d.0) → ActReturns (alphabet_of g) (act_of (alphabet_of g) a) c.1 b.1 d.1 →
    (m : ℕ) × (y : OutlineNode) × IsNode s m y × Describes preds y d × AreLinked g preds s y.entry stack
back_step g preds s f n x c b d stack a kind i u k edge act =
    let known = back_edge_known g f.graph c.0 b.0 d.0 a kind edge in
    let found = letter_returns g a c.1 b.1 d.1 act in
    let caller : OutlineNode = k.1 in
    let called = k.2 in
    let one : called.letter.id ≡ a.call = f.graph.edges.one_call.both b.0 c.0 called.to d.0 called.letter a called.edge edge in
    let joined : Member s.steps (steps.Step k.0 a.call x.entry) = subst (λ (l : ℕ). Member s.steps (steps.Step k.0 l x.entry)) one called.step in
    let there : Member g.automaton.backs (x.place, b.0, a, d.0) = subst (λ (q : ℕ). Member g.automaton.backs (q, b.0, a, d.0)) u.at edge in
    let here : Member g.automaton.backs (x.place, caller.place, a, d.0) =
    subst (λ (q : ℕ). Member g.automaton.backs (x.place, q, a, d.0)) called.describes.at there in
    let to = f.backs n x i (describes_open preds x c u) k.0 caller called.stands (describes_open preds caller b called.describes) a d.0 here joined in
    let any = f.sound (steps.Back n k.0 a.id to.number) to.back x caller to.end i called.stands to.stands in
    let sound : ReturnIsSound g s a.id x k.0 caller to.end (Some (back_act a.call known.targets)) =
    subst (λ (o : Option PlainAct). ReturnIsSound g s a.id x k.0 caller to.end o) known.act any in (
      to.number,
      to.end,
      to.stands,
      record {
        at = sym to.at;
        holds = λ r h.
            let w = sound.shown r h in
            back_shown g preds a.id w.0 w.1 r a.call known.targets known.caller known.callee known.helpers known.rows c.1 b.1 d.1 known.act known.call found
            (f.proved (Back w.0 w.1 a.id r) w.2) (source_holds preds x c w.0 u w.3) (source_holds preds caller b w.1 called.describes w.4);
      },
      subst (λ (e : ℕ). AreLinked g preds s e stack) (sym sound.entry) k.3,
    )

-- ---- words

-- a node that describes where the machine is, and is linked to its stack
record Follows (g : Graph) (preds : ℕ → Option Scoped) (s : Sketch) (stack : List (ℕ × Situation)) (c : ℕ × Situation) : Type 0 where
  number : ℕ
  node : OutlineNode
  stands : IsNode s number node
  describes : Describes preds node c
  linked : AreLinked g preds s node.entry stack

-- one letter on
letter_on : (g : Graph) (preds : ℕ → Option Scoped) (s : Sketch) → Facts g preds s → (kind : Kind) (a : Letter) → a.kind ≡ kind →
    (stack : List (ℕ × Situation)) (c d : ℕ × Situation) (P : List (ℕ × Situation) → Type 0) → Follows g preds s stack c → Leads (machine g.automaton (alphabet_of g)) kind a stack c d P →
    (after : List (ℕ × Situation)) × Follows g preds s after d × P after
letter_on g preds s f kinds.Inside a e stack c d P w h =
    let r = inside_step g preds s f w.number w.node c d stack a w.stands w.describes w.linked h.0.0 h.0.1 in
    (stack, record { number = r.0; node = r.1; stands = r.2; describes = r.3; linked = r.4 }, h.1)
letter_on g preds s f kinds.Call a e stack c d P w h =
    let r = call_step g preds s f w.number w.node c d stack a w.stands w.describes w.linked h.0.0 h.0.1 in
    (c ∷ stack, record { number = r.0; node = r.1; stands = r.2; describes = r.3; linked = r.4 }, h.1)
letter_on g preds s f kinds.Back a e [] c d P w h = absurd h
letter_on g preds s f kinds.Back a e (b ∷ stack) c d P w h =
    let r = back_step g preds s f w.number w.node c b d stack a e w.stands w.describes w.linked h.0.0 h.0.1 in
    (stack, record { number = r.0; node = r.1; stands = r.2; describes = r.3; linked = r.4 }, h.1)

-- no way from what a node describes ends in an error
no_error : (g : Graph) (preds : ℕ → Option Scoped) (s : Sketch) → Facts g preds s → (w : List Letter) (stack after : List (ℕ × Situation)) (c last : ℕ × Situation) →
    Follows g preds s stack c → Goes (machine g.automaton (alphabet_of g)) stack c w after last → Member g.automaton.finals last.0 → ⊥
no_error g preds s f [] stack after c last u h e =
    let d : Describes preds u.node last = subst (λ (x : ℕ × Situation). Describes preds u.node x) h.1 u.describes in
    describes_open preds u.node last d (f.errors u.number u.node u.stands (subst (λ (q : ℕ). Member g.automaton.finals q) d.at e))
no_error g preds s f (a ∷ w) stack after c last u h e =
    let r = letter_on g preds s f a.kind a refl stack c h.0 (λ l. Goes (machine g.automaton (alphabet_of g)) l h.0 w after last) u h.1 in
    no_error g preds s f w r.0 after h.0 last r.1 r.2 e

-- no accepted word is feasible
pub sound : (g : Graph) (preds : ℕ → Option Scoped) (s : Sketch) → Facts g preds s → HasStart s → (w : List Letter) →
    Accepts g.automaton w → IsFeasible (alphabet_of g) w → ⊥
sound g preds s f start w accepts feasible =
    let run = (machine_runs g.automaton (alphabet_of g) w).0 (accepts, feasible) in
    let d : Describes preds start.1 (g.automaton.start, run.first) = record {
      at = f.graph.procedures.start ∙ sym start.3.at;
      holds = λ k h. absurd (subst (λ (ks : List ℕ). Member ks k) start.3.bare h);
    } in
    no_error g preds s f w [] run.open_calls (g.automaton.start, run.first) run.last
    (record { number = start.0; node = start.1; stands = start.2; describes = d; linked = tt }) run.goes run.ends

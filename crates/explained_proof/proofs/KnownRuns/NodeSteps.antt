-- Nodes follow the letters of a graph: inside letters from node to node of one entry node, call letters to entry nodes, and return letters back.
use Rattle.std.proofs.Common.{◌≡◌, ◌∙◌, ℕ, Option, Some, refl, sym, subst}
use Rattle.nwa_base.specs.declared.letters.Kind.TheVariants as kinds
use Rattle.nwa_base.specs.declared.letters.Letter.{Letter}
use Rattle.nwa_base.specs.Members.{Member}
use Rattle.letter_acts.specs.Acts.{PlainAct, inside_act, call_act, back_act, act_of}
use Rattle.letter_acts.specs.Meaning.{Situation, ActInside, ActCalls, ActReturns}
use Rattle.letter_acts.specs.Invariant.{Graph, alphabet_of}
use Rattle.letter_acts.proofs.KnownLemmas.{inside_edge_known, call_edge_known, back_edge_known}
use Rattle.triple_rows.specs.declared.triples.Scoped.{Scoped}
use Rattle.proof_names.specs.declared.outlines.Listed.TheVariants.{Inside, Call, Back}
use Rattle.proof_names.specs.declared.outlines.NamedStep.TheVariants as steps
use Rattle.proof_names.specs.Outlines.{OutlineNode, Sketch}
use Rattle.proof_check.specs.Steps.{IsNode, StepIsSound, ReturnIsSound}
use Rattle.proof_check.specs.Described.{Describes}
use Rattle.proof_check.proofs.Soundness.{Facts, describes_open, source_holds, letter_inside, letter_calls, letter_returns, inside_shown, call_shown, back_shown}
use Rattle.explained_proof.specs.KnownRuns.Followed.{IsDescribed}

-- from each node that describes the first, some node with its entry node describes the second
abbrev pub Leads : (ℕ → Option Scoped) → Sketch → ℕ × Situation → ℕ × Situation → Type 0
Leads preds s c d = (n : ℕ) (x : OutlineNode) → IsNode s n x → Describes preds x c → IsDescribed preds s x.entry d

pub stays : (preds : ℕ → Option Scoped) (s : Sketch) (c : ℕ × Situation) → Leads preds s c c
stays preds s c n x i u = record { number = n; node = x; stands = i; entry = refl; describes = u }

-- an entry node that a step reaches by a call letter
pub record IsCalled (preds : ℕ → Option Scoped) (s : Sketch) (n l : ℕ) (d : ℕ × Situation) : Type 0 where
  pub number : ℕ
  pub node : OutlineNode
  pub stands : IsNode s number node
  pub itself : node.entry ≡ number
  pub describes : Describes preds node d
  pub step : Member s.steps (steps.Step n l number)

module _ (g : Graph) (preds : ℕ → Option Scoped) (s : Sketch) (f : Facts g preds s) where
  pub inside_on : (n : ℕ) (c d : ℕ × Situation) (a : Letter) → Member g.automaton.insides (c.0, a, d.0) → ActInside (alphabet_of g) (act_of (alphabet_of g) a) c.1 d.1 →
      IsDescribed preds s n c → IsDescribed preds s n d
  inside_on n c d a edge act u =
      let known = inside_edge_known g f.graph c.0 d.0 a edge in
      let found = letter_inside g a c.1 d.1 act in
      let there : Member g.automaton.insides (u.node.place, a, d.0) = subst (λ (q : ℕ). Member g.automaton.insides (q, a, d.0)) u.describes.at edge in
      let to = (f.steps u.number u.node u.stands (describes_open preds u.node c u.describes)).insides a d.0 there in
      let any = f.sound (steps.Step u.number a.id to.number) to.step u.node to.end u.stands to.stands in
      let sound : StepIsSound g s a.id u.node to.number to.end (Some (inside_act known.proc known.written known.helpers known.rows)) =
      subst (λ (o : Option PlainAct). StepIsSound g s a.id u.node to.number to.end o) known.act any in
      record {
        number = to.number;
        node = to.end;
        stands = to.stands;
        entry = sound.entry ∙ u.entry;
        describes = record {
          at = sym to.at;
          holds = λ r h.
              let w = sound.shown r h in
              inside_shown g preds known.proc a.id w.0 r known.written known.helpers known.rows c.1 d.1 known.act found
              (f.proved (Inside w.0 a.id r) w.1) (source_holds preds u.node c w.0 u.describes w.2);
        };
      }

  pub call_on : (n : ℕ) (x : OutlineNode) (c d : ℕ × Situation) (a : Letter) → IsNode s n x → Describes preds x c → Member g.automaton.calls (c.0, a, d.0) →
      ActCalls (alphabet_of g) (act_of (alphabet_of g) a) c.1 d.1 → IsCalled preds s n a.id d
  call_on n x c d a i u edge act =
      let known = call_edge_known g f.graph c.0 d.0 a edge in
      let found = letter_calls g a c.1 d.1 act in
      let there : Member g.automaton.calls (x.place, a, d.0) = subst (λ (q : ℕ). Member g.automaton.calls (q, a, d.0)) u.at edge in
      let to = (f.steps n x i (describes_open preds x c u)).calls a d.0 there in
      let any = f.sound (steps.Step n a.id to.number) to.step x to.end i to.stands in
      let sound : StepIsSound g s a.id x to.number to.end (Some (call_act known.caller known.callee known.helpers known.rows)) =
      subst (λ (o : Option PlainAct). StepIsSound g s a.id x to.number to.end o) known.act any in
      record {
        number = to.number;
        node = to.end;
        stands = to.stands;
        itself = sound.entry;
        describes = record {
          at = sym to.at;
          holds = λ r h.
              let w = sound.shown r h in
              call_shown g preds known.caller known.callee a.id w.0 r known.helpers known.rows c.1 d.1 known.act found
              (f.proved (Call w.0 a.id r) w.1) (source_holds preds x c w.0 u w.2);
        };
        step = to.step;
      }

  -- from the exit c of a frame that was entered by a step from the node that describes b
  pub back_on : (m l : ℕ) (y : OutlineNode) (c b d : ℕ × Situation) (a : Letter) (e : ℕ) → a.kind ≡ kinds.Back → IsNode s m y → Describes preds y b → l ≡ a.call → Member s.steps (steps.Step m l e) →
      Member g.automaton.backs (c.0, b.0, a, d.0) → ActReturns (alphabet_of g) (act_of (alphabet_of g) a) c.1 b.1 d.1 → IsDescribed preds s e c → IsDescribed preds s y.entry d
  back_on m l y c b d a e kind j v one step edge act u =
      let known = back_edge_known g f.graph c.0 b.0 d.0 a kind edge in
      let found = letter_returns g a c.1 b.1 d.1 act in
      let named : Member s.steps (steps.Step m a.call e) = subst (λ (k : ℕ). Member s.steps (steps.Step m k e)) one step in
      let joined : Member s.steps (steps.Step m a.call u.node.entry) = subst (λ (k : ℕ). Member s.steps (steps.Step m a.call k)) (sym u.entry) named in
      let there : Member g.automaton.backs (u.node.place, b.0, a, d.0) = subst (λ (q : ℕ). Member g.automaton.backs (q, b.0, a, d.0)) u.describes.at edge in
      let here : Member g.automaton.backs (u.node.place, y.place, a, d.0) = subst (λ (q : ℕ). Member g.automaton.backs (u.node.place, q, a, d.0)) v.at there in
      let to = f.backs u.number u.node u.stands (describes_open preds u.node c u.describes) m y j (describes_open preds y b v) a d.0 here joined in
      let any = f.sound (steps.Back u.number m a.id to.number) to.back u.node y to.end u.stands j to.stands in
      let sound : ReturnIsSound g s a.id u.node m y to.end (Some (back_act a.call known.targets)) =
      subst (λ (o : Option PlainAct). ReturnIsSound g s a.id u.node m y to.end o) known.act any in
      record {
        number = to.number;
        node = to.end;
        stands = to.stands;
        entry = sound.entry;
        describes = record {
          at = sym to.at;
          holds = λ r h.
              let w = sound.shown r h in
              back_shown g preds a.id w.0 w.1 r a.call known.targets known.caller known.callee known.helpers known.rows c.1 b.1 d.1 known.act known.call found
              (f.proved (Back w.0 w.1 a.id r) w.2) (source_holds preds u.node c w.0 u.describes w.3) (source_holds preds y b w.1 v w.4);
        };
      }

  -- ---- frames

  pub inside_leads : (e c d : ℕ × Situation) (a : Letter) → Member g.automaton.insides (c.0, a, d.0) → ActInside (alphabet_of g) (act_of (alphabet_of g) a) c.1 d.1 → Leads preds s e c → Leads preds s e d
  inside_leads e c d a edge act h n x i u = inside_on x.entry c d a edge act (h n x i u)

  -- the frame above was entered at e by a call letter from b, and stands at its exit c
  pub back_leads : (start b e c d : ℕ × Situation) (a r : Letter) → r.kind ≡ kinds.Back → Member g.automaton.calls (b.0, a, e.0) → ActCalls (alphabet_of g) (act_of (alphabet_of g) a) b.1 e.1 →
      Member g.automaton.backs (c.0, b.0, r, d.0) → ActReturns (alphabet_of g) (act_of (alphabet_of g) r) c.1 b.1 d.1 → Leads preds s start b → Leads preds s e c → Leads preds s start d
  back_leads start b e c d a r kind called calls edge act below above n x i u =
      let waits : IsDescribed preds s x.entry b = below n x i u in
      let w : IsCalled preds s waits.number a.id e = call_on waits.number waits.node b e a waits.stands waits.describes called calls in
      let exit : IsDescribed preds s w.node.entry c = above w.number w.node w.stands w.describes in
      let own : IsDescribed preds s w.number c = subst (λ (k : ℕ). IsDescribed preds s k c) w.itself exit in
      let one : a.id ≡ r.call = f.graph.edges.one_call.both b.0 c.0 e.0 d.0 a r called edge in
      let behind : IsDescribed preds s waits.node.entry d = back_on waits.number a.id waits.node c b d r w.number kind waits.stands waits.describes one w.step edge act own in
      subst (λ (k : ℕ). IsDescribed preds s k d) waits.entry behind

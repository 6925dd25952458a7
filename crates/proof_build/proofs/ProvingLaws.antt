-- What an annotation says of an unwinding proves the graph.
use Rattle.std.proofs.Common.{◌≡◌, ◌∙◌, ℕ, ◌<◌, List, [], ◌∷◌, ◌++◌, length, Option, Some, refl, sym, ap, subst, inl, inr}
use Rattle.std.specs.Prelude.{map, slice_get}
use Rattle.nwa_base.specs.declared.letters.Kind.{Kind}
use Rattle.nwa_base.specs.declared.letters.Kind.TheVariants as kinds
use Rattle.nwa_base.specs.declared.letters.Letter.{Letter}
use Rattle.nwa_base.specs.Members.{Member}
use Rattle.nwa_base.specs.Automata.{Automaton, IsAutomaton, IsEdge}
use Rattle.nwa_base.proofs.MemberLemmas.{member_split, member_from_map, member_front, member_rest, member_map}
use Rattle.lin_rows.specs.Rows.{LinearRow}
use Rattle.farkas_check.specs.Nodes.{PlainNode}
use Rattle.letter_acts.specs.Acts.{PlainAct, inside_act, call_act, back_act, letter_of}
use Rattle.letter_acts.specs.Invariant.{Graph, IsGraph, alphabet_of}
use Rattle.letter_acts.proofs.KnownLemmas.{inside_edge_known, call_edge_known, back_edge_known}
use Rattle.triple_rows.specs.declared.triples.Scoped.{Scoped}
use Rattle.triple_rows.specs.declared.triples.Triple.{Triple}
use Rattle.triple_rows.specs.Triples.{IsRefuted}
use Rattle.triple_rows.proofs.ListLaws.{within}
use Rattle.proof_form.specs.Annotations.{Content}
use Rattle.proof_names.specs.declared.outlines.Listed.{Listed}
use Rattle.proof_names.specs.declared.outlines.Listed.TheVariants.{Inside, Call, Back}
use Rattle.proof_names.specs.declared.outlines.NamedTriple.{NamedTriple}
use Rattle.proof_names.specs.declared.outlines.NamedStep.{NamedStep}
use Rattle.proof_names.specs.declared.outlines.NamedStep.TheVariants as steps
use Rattle.proof_names.specs.Outlines.{OutlineNode, Sketch}
use Rattle.proof_names.specs.Items.{Names}
use Rattle.proof_names.specs.ProofSpell.Correspond.{Correspond}
use Rattle.proof_names.specs.ProofSpell.Drafts.{PlainShown, MayBeShown}
use Rattle.proof_names.specs.ProofSpell.Spelled.{IsOutlined, Outlines}
use Rattle.proof_check.specs.Steps.{IsNode, IsOpen, Lists, InsideIsSound, CallIsSound, BackIsSound, StepIsSound, ReturnIsSound, IsSound, BacksTo, HasSteps, HasBacks}
use Rattle.proof_check.specs.Proves.{IsRefutedBy, IsShown, HasStart, HasStartIn, ErrorIsFalse, Proves}
use Rattle.proof_build.specs.ProofUnwind.Unwindings.{node_at, node_place_in, entry_of, bare}
use Rattle.proof_build.specs.Unwindings.{Unwinding, step_of, back_of, steps_of, draft_of, HasTriple}
use Rattle.proof_build.specs.Unwound.{AreCovering, IsUnwound}
use Rattle.proof_build.proofs.WordLaws.{node_is, node_there, error_has_false}
use Rattle.proof_build.proofs.ScopeLaws.{all_of_member, back_kind, first_is}

-- ---- triples

-- an outlined triple, and the one of the unwinding that it is
record Pair (g : Graph) (preds : List Scoped) (ts : List PlainShown) (t : NamedTriple) : Type 0 where
  shown : PlainShown
  member : Member ts shown
  outlined : IsOutlined g (slice_get preds) t shown

pair_of : (g : Graph) (preds : List Scoped) (os : List NamedTriple) (ts : List PlainShown) (t : NamedTriple) → Correspond (IsOutlined g (slice_get preds)) os ts → Member os t → Pair g preds ts t
pair_of g preds [] ts t c m = absurd m
pair_of g preds (o ∷ os) [] t c m = absurd c
pair_of g preds (o ∷ os) (s ∷ ts) t c (inl e) = subst (λ (x : NamedTriple). Pair g preds (s ∷ ts) x) e (record { shown = s; member = inl refl; outlined = c.0 })
pair_of g preds (o ∷ os) (s ∷ ts) t c (inr m) = let p = pair_of g preds os ts t c.1 m in record { shown = p.shown; member = inr p.member; outlined = p.outlined }

listed_of : (g : Graph) (preds : List Scoped) (os : List NamedTriple) (ts : List PlainShown) (t : PlainShown) → Correspond (IsOutlined g (slice_get preds)) os ts → Member ts t → Lists os t.listed
listed_of g preds os [] t c m = absurd m
listed_of g preds [] (s ∷ ts) t c m = absurd c
listed_of g preds (o ∷ os) (s ∷ ts) t c (inl e) = record { triple = o; stands = inl refl; has = c.0.listed ∙ ap (λ (x : PlainShown). x.listed) e }
listed_of g preds (o ∷ os) (s ∷ ts) t c (inr m) = let l = listed_of g preds os ts t c.1 m in record { triple = l.triple; stands = inr l.stands; has = l.has }

lists : (g : Graph) (preds : List Scoped) (os : List NamedTriple) (ts : List PlainShown) (numbers : Listed) → Correspond (IsOutlined g (slice_get preds)) os ts → HasTriple ts numbers → Lists os numbers
lists g preds os ts numbers c t = subst (λ (n : Listed). Lists os n) t.2 (listed_of g preds os ts t.0 c t.1)

-- ---- letters of edges

letter_is : (a : Letter) (k : Kind) (c : ℕ) → a.kind ≡ k → a.call ≡ c → ◌≡◌ {A = Letter} (record { id = a.id; kind = k; call = c }) a
letter_is a k c e f = λ j. record { id = a.id; kind = sym e j; call = sym f j }

same_steps : (a b : ℕ) (l m : ℕ) (c d : ℕ) → steps.Step a l c ≡ steps.Step b m d → (a ≡ b) × (l ≡ m) × (c ≡ d)
same_steps a b l m c d e = (cc, cc, cc)

module _ (g : Graph) (bs : List Automaton) (u : Unwinding) (i : IsGraph g) (m : IsAutomaton g.automaton) (h : IsUnwound g bs u) (s : Sketch) (o : Outlines g s (draft_of u)) where
  -- ---- nodes and steps of the sketch

  node_of : (n : ℕ) (x : OutlineNode) → IsNode s n x → (n < length u.nodes) × (node_at u.nodes n ≡ x)
  node_of n x e =
      let f : slice_get u.nodes n ≡ Some x = subst (λ (l : List OutlineNode). slice_get l n ≡ Some x) o.nodes e in
      (within u.nodes n x f, node_is u.nodes n x f)

  is_node : (n : ℕ) → n < length u.nodes → IsNode s n (node_at u.nodes n)
  is_node n l = subst (λ (k : List OutlineNode). slice_get k n ≡ Some (node_at u.nodes n)) (sym o.nodes) (node_there u.nodes n l)

  step_member : (t : NamedStep) → Member (steps_of u.steps) t → Member s.steps t
  step_member t e = subst (λ (l : List NamedStep). Member l t) (sym o.steps) e

  inside_member : (n : ℕ) (a : Letter) (k : ℕ) → Member u.steps.insides (n, a, k) → Member s.steps (steps.Step n a.id k)
  inside_member n a k e =
      step_member (steps.Step n a.id k) (member_front (map step_of u.steps.insides) (map step_of u.steps.calls ++ map back_of u.steps.backs) (steps.Step n a.id k)
      (member_map step_of u.steps.insides (n, a, k) e))

  call_member : (n : ℕ) (a : Letter) (k : ℕ) → Member u.steps.calls (n, a, k) → Member s.steps (steps.Step n a.id k)
  call_member n a k e =
      step_member (steps.Step n a.id k) (member_rest (map step_of u.steps.insides) (map step_of u.steps.calls ++ map back_of u.steps.backs) (steps.Step n a.id k)
      (member_front (map step_of u.steps.calls) (map back_of u.steps.backs) (steps.Step n a.id k) (member_map step_of u.steps.calls (n, a, k) e)))

  back_member : (x c : ℕ) (r : Letter) (k : ℕ) → Member u.steps.backs (x, c, r, k) → Member s.steps (steps.Back x c r.id k)
  back_member x c r k e =
      step_member (steps.Back x c r.id k) (member_rest (map step_of u.steps.insides) (map step_of u.steps.calls ++ map back_of u.steps.backs) (steps.Back x c r.id k)
      (member_rest (map step_of u.steps.calls) (map back_of u.steps.backs) (steps.Back x c r.id k) (member_map back_of u.steps.backs (x, c, r, k) e)))

  -- ---- triples are refuted

  refuted_by : (t : NamedTriple) (nodes : List PlainNode) → t.proof ≡ Some nodes → IsRefuted (alphabet_of g) t.triple nodes → IsShown g t
  refuted_by t nodes e r = subst (λ (p : Option (List PlainNode)). IsRefutedBy (alphabet_of g) t.triple p) (sym e) r

  refuted : (t : NamedTriple) → Member s.triples t → IsShown g t
  refuted t e =
      let p = pair_of g u.preds s.triples u.triples t o.triples e in
      let w = all_of_member (MayBeShown g u.preds) u.triples p.shown h.triples p.member in
      let k : Some w.triple ≡ Some t.triple = sym w.is ∙ p.outlined.triple in
      let j : w.triple ≡ t.triple = cc in
      refuted_by t p.shown.proof p.outlined.proof (subst (λ (x : Triple). IsRefuted (alphabet_of g) x p.shown.proof) j w.refuted)

  -- ---- the start, and nodes at error places

  start : HasStart s
  start = subst (λ (l : List OutlineNode). HasStartIn l) (sym o.nodes) (0, bare, h.start, record { itself = refl; at = refl; bare = refl })

  errors : AreCovering g.automaton bs → (n : ℕ) (x : OutlineNode) → IsNode s n x → ErrorIsFalse g.automaton x
  errors c n x e =
      let k = node_of n x e in
      let z : node_place_in u.nodes 0 ≡ 0 = ap (λ (y : OutlineNode). y.place) (first_is g bs u i m h) in
      subst (λ (y : OutlineNode). ErrorIsFalse g.automaton y) k.1
      (λ f. error_has_false g.automaton h.tree u.nodes u.steps bs n (entry_of u.nodes n) i.procedures.start z h.along h.part h.spread c (h.reached n k.0) f)

  -- ---- steps are sound

  inside_sound : (n : ℕ) (a : Letter) (k : ℕ) → Member u.steps.insides (n, a, k) → (before to : OutlineNode) → node_at u.nodes n ≡ before → node_at u.nodes k ≡ to →
      StepIsSound g s a.id before k to (slice_get g.acts a.id)
  inside_sound n a k e before to p q =
      let d = h.along.insides n a k e in
      let w = inside_edge_known g i (node_place_in u.nodes n) (node_place_in u.nodes k) a d.edge in
      let kind : a.kind ≡ kinds.Inside = (all_of_member (IsEdge g.automaton.states kinds.Inside) g.automaton.insides (node_place_in u.nodes n, a, node_place_in u.nodes k) m.insides d.edge).letter in
      let l : letter_of a.id (inside_act w.proc w.written w.helpers w.rows) ≡ a = letter_is a kinds.Inside 0 kind w.call in
      let one : InsideIsSound g s a (node_at u.nodes n) (node_at u.nodes k) = record {
        edge = d.edge;
        entry = d.entry;
        shown = λ r f. let t = h.shown.insides n a k e r f in (t.0, lists g u.preds s.triples u.triples (Inside t.0 a.id r) o.triples t.1, t.2);
      } in
      subst (λ (c : Option PlainAct). StepIsSound g s a.id before k to c) (sym w.act)
      (subst (λ (b : Letter). InsideIsSound g s b before to) (sym l)
      (subst (λ (x : OutlineNode). InsideIsSound g s a before x) q (subst (λ (x : OutlineNode). InsideIsSound g s a x (node_at u.nodes k)) p one)))

  call_sound : (n : ℕ) (a : Letter) (k : ℕ) → Member u.steps.calls (n, a, k) → (before to : OutlineNode) → node_at u.nodes n ≡ before → node_at u.nodes k ≡ to →
      StepIsSound g s a.id before k to (slice_get g.acts a.id)
  call_sound n a k e before to p q =
      let d = h.along.calls n a k e in
      let w = call_edge_known g i (node_place_in u.nodes n) (node_place_in u.nodes k) a d.edge in
      let kind : a.kind ≡ kinds.Call = (all_of_member (IsEdge g.automaton.states kinds.Call) g.automaton.calls (node_place_in u.nodes n, a, node_place_in u.nodes k) m.calls d.edge).letter in
      let l : letter_of a.id (call_act w.caller w.callee w.helpers w.rows) ≡ a = letter_is a kinds.Call 0 kind w.call in
      let one : CallIsSound g s a (node_at u.nodes n) k (node_at u.nodes k) = record {
        edge = d.edge;
        entry = d.entry;
        shown = λ r f. let t = h.shown.calls n a k e r f in (t.0, lists g u.preds s.triples u.triples (Call t.0 a.id r) o.triples t.1, t.2);
      } in
      subst (λ (c : Option PlainAct). StepIsSound g s a.id before k to c) (sym w.act)
      (subst (λ (b : Letter). CallIsSound g s b before k to) (sym l)
      (subst (λ (x : OutlineNode). CallIsSound g s a before k x) q (subst (λ (x : OutlineNode). CallIsSound g s a x k (node_at u.nodes k)) p one)))

  back_sound : (x c : ℕ) (r : Letter) (k : ℕ) → Member u.steps.backs (x, c, r, k) → (exit before to : OutlineNode) → node_at u.nodes x ≡ exit → node_at u.nodes c ≡ before → node_at u.nodes k ≡ to →
      ReturnIsSound g s r.id exit c before to (slice_get g.acts r.id)
  back_sound x c r k e exit before to p q v =
      let d = h.along.backs x c r k e in
      let kind : r.kind ≡ kinds.Back = back_kind g.automaton (node_place_in u.nodes x) (node_place_in u.nodes c) (node_place_in u.nodes k) r m d.edge in
      let w = back_edge_known g i (node_place_in u.nodes x) (node_place_in u.nodes c) (node_place_in u.nodes k) r kind d.edge in
      let l : letter_of r.id (back_act r.call w.targets) ≡ r = letter_is r kinds.Back r.call kind refl in
      let n : d.letter.id ≡ r.call = sym d.names in
      let one : BackIsSound g s r (node_at u.nodes x) c (node_at u.nodes c) (node_at u.nodes k) = record {
        edge = d.edge;
        joined = subst (λ (y : ℕ). Member s.steps (steps.Step c y (entry_of u.nodes x))) n (call_member c d.letter (entry_of u.nodes x) d.joined);
        entry = d.entry;
        shown = λ y f. let t = h.shown.backs x c r k e y f in (t.0, t.1, lists g u.preds s.triples u.triples (Back t.0 t.1 r.id y) o.triples t.2, t.3, t.4);
      } in
      subst (λ (b : Option PlainAct). ReturnIsSound g s r.id exit c before to b) (sym w.act)
      (subst (λ (b : Letter). BackIsSound g s b exit c before to) (sym l)
      (subst (λ (y : OutlineNode). BackIsSound g s r exit c before y) v (subst (λ (y : OutlineNode). BackIsSound g s r exit c y (node_at u.nodes k)) q
      (subst (λ (y : OutlineNode). BackIsSound g s r y c (node_at u.nodes c) (node_at u.nodes k)) p one))))

  sound_in : (t : NamedStep) → Member (steps_of u.steps) t → IsSound g s t
  sound_in t e = elim (member_split (map step_of u.steps.insides) (map step_of u.steps.calls ++ map back_of u.steps.backs) t e) [
    | inl a ↦ let f = member_from_map step_of u.steps.insides t a in
        subst (λ (y : NamedStep). IsSound g s y) f.2 (λ before to p q. inside_sound f.0.0 f.0.1 f.0.2 f.1 before to (node_of f.0.0 before p).1 (node_of f.0.2 to q).1)
    | inr b ↦ elim (member_split (map step_of u.steps.calls) (map back_of u.steps.backs) t b) [
      | inl a ↦ let f = member_from_map step_of u.steps.calls t a in
          subst (λ (y : NamedStep). IsSound g s y) f.2 (λ before to p q. call_sound f.0.0 f.0.1 f.0.2 f.1 before to (node_of f.0.0 before p).1 (node_of f.0.2 to q).1)
      | inr a ↦ let f = member_from_map back_of u.steps.backs t a in
          subst (λ (y : NamedStep). IsSound g s y) f.2
          (λ exit before to p q v. back_sound f.0.0 f.0.1 f.0.2 f.0.3 f.1 exit before to (node_of f.0.0 exit p).1 (node_of f.0.1 before q).1 (node_of f.0.3 to v).1)
    ]
  ]

  sound : (t : NamedStep) → Member s.steps t → IsSound g s t
  sound t e = sound_in t (subst (λ (l : List NamedStep). Member l t) o.steps e)

  -- ---- steps that are due

  has_steps : (n : ℕ) → n < length u.nodes → IsOpen (node_at u.nodes n) → HasSteps g s n (node_at u.nodes n)
  has_steps n l x = record {
    insides = λ a e k. let w = h.closed.insides n l x a e k in
        record { number = w.number; end = node_at u.nodes w.number; stands = is_node w.number (h.along.insides n a w.number w.step).to; at = w.at; step = inside_member n a w.number w.step };
    calls = λ a e k. let w = h.closed.calls n l x a e k in
        record { number = w.number; end = node_at u.nodes w.number; stands = is_node w.number (h.along.calls n a w.number w.step).to; at = w.at; step = call_member n a w.number w.step };
  }

  steps_due : (n : ℕ) (x : OutlineNode) → IsNode s n x → IsOpen x → HasSteps g s n x
  steps_due n x e =
      let k = node_of n x e in
      subst (λ (y : OutlineNode). IsOpen y → HasSteps g s n y) k.1 (λ f. has_steps n k.0 f)

  -- the step by the call letter of a return edge is a call step
  call_step : (c l e : ℕ) (caller callee helpers : ℕ) (rows : List LinearRow) → slice_get g.acts l ≡ Some (call_act caller callee helpers rows) → Member (steps_of u.steps) (steps.Step c l e) →
      (a : Letter) × Member u.steps.calls (c, a, e) × (l ≡ a.id)
  call_step c l e caller callee helpers rows act x = elim (member_split (map step_of u.steps.insides) (map step_of u.steps.calls ++ map back_of u.steps.backs) (steps.Step c l e) x) [
    | inl a ↦ let f = member_from_map step_of u.steps.insides (steps.Step c l e) a in
        let q = same_steps f.0.0 c f.0.1.id l f.0.2 e f.2 in
        let d = h.along.insides f.0.0 f.0.1 f.0.2 f.1 in
        let w = inside_edge_known g i (node_place_in u.nodes f.0.0) (node_place_in u.nodes f.0.2) f.0.1 d.edge in
        let v : slice_get g.acts f.0.1.id ≡ Some (call_act caller callee helpers rows) = ap (slice_get g.acts) q.1 ∙ act in
        let y : Some (inside_act w.proc w.written w.helpers w.rows) ≡ Some (call_act caller callee helpers rows) = sym w.act ∙ v in
        absurd (cc)
    | inr b ↦ elim (member_split (map step_of u.steps.calls) (map back_of u.steps.backs) (steps.Step c l e) b) [
      | inl a ↦ let f = member_from_map step_of u.steps.calls (steps.Step c l e) a in
          let q = same_steps f.0.0 c f.0.1.id l f.0.2 e f.2 in
          (f.0.1, subst (λ (y : ℕ). Member u.steps.calls (c, f.0.1, y)) q.2 (subst (λ (y : ℕ). Member u.steps.calls (y, f.0.1, f.0.2)) q.0 f.1), sym q.1)
      | inr a ↦ let f = member_from_map back_of u.steps.backs (steps.Step c l e) a in absurd (let y = f.2 in cc)
    ]
  ]

  has_backs : (x : ℕ) → x < length u.nodes → IsOpen (node_at u.nodes x) → (c : ℕ) → c < length u.nodes → IsOpen (node_at u.nodes c) → (r : Letter) (e : ℕ) →
      Member g.automaton.backs (node_place_in u.nodes x, node_place_in u.nodes c, r, e) → Member s.steps (steps.Step c r.call (entry_of u.nodes x)) → BacksTo s x c r.id e
  has_backs x l f c k q r e b j =
      let kind : r.kind ≡ kinds.Back = back_kind g.automaton (node_place_in u.nodes x) (node_place_in u.nodes c) e r m b in
      let w = back_edge_known g i (node_place_in u.nodes x) (node_place_in u.nodes c) e r kind b in
      let t = call_step c r.call (entry_of u.nodes x) w.caller w.callee w.helpers w.rows w.call (subst (λ (y : List NamedStep). Member y (steps.Step c r.call (entry_of u.nodes x))) o.steps j) in
      let v = h.closed.backs x c l k f q t.0 t.1 r e b t.2 in
      record { number = v.number; end = node_at u.nodes v.number; stands = is_node v.number (h.along.backs x c r v.number v.back).to; at = v.at; back = back_member x c r v.number v.back }

  backs_due : (n : ℕ) (x : OutlineNode) → IsNode s n x → IsOpen x → HasBacks g s n x
  backs_due n x e =
      let k = node_of n x e in
      subst (λ (y : OutlineNode). IsOpen y → HasBacks g s n y) k.1 (λ f c before p q r d b j.
      let v = node_of c before p in
      has_backs n k.0 f c v.0 (subst (λ (y : OutlineNode). IsOpen y) (sym v.1) q) r d (subst (λ (y : OutlineNode). Member g.automaton.backs (node_place_in u.nodes n, y.place, r, d)) (sym v.1) b) j)

  pub proves : AreCovering g.automaton bs → (a : Content) → Names g a s → Proves g a
  proves c a n = record {
    sketch = s;
    named = n;
    refuted = refuted;
    start = start;
    errors = errors c;
    sound = sound;
    steps = steps_due;
    backs = backs_due;
  }

-- The predicates of each certificate spread over an unwinding by the union, and what its steps show is listed.
use Rattle.std.proofs.Common.{◌≡◌, ℕ, ◌<◌, List, length, Option, None, Some, refl, sym, ap, subst, arith}
use Rattle.std.specs.Prelude.{true, false, IsTrue, unwrap_or, slice_get}
use Rattle.std.specs.List.{AllByRecursion}
use Rattle.lin_rows.specs.Rows.{LinearRow}
use Rattle.nwa_base.specs.declared.letters.Letter.{Letter}
use Rattle.nwa_base.specs.Members.{Member}
use Rattle.nwa_base.specs.Automata.{Automaton, IsAutomaton}
use Rattle.letter_acts.specs.Acts.{PlainAct, inside_act, call_act, back_act}
use Rattle.letter_acts.specs.Invariant.{Graph, IsGraph, alphabet_of, IsPlaceOf}
use Rattle.letter_acts.proofs.KnownLemmas.{inside_edge_known, call_edge_known, back_edge_known}
use Rattle.triple_rows.specs.declared.triples.Scoped.{Scoped}
use Rattle.triple_rows.specs.declared.triples.Triple.{Triple}
use Rattle.triple_rows.specs.declared.triples.Triple.TheVariants as triples
use Rattle.triple_rows.specs.Triples.{InsideAgrees, CallAgrees, ReturnAgrees, BackAgrees}
use Rattle.triple_rows.specs.Proofs.{PlainProof}
use Rattle.triple_rows.proofs.ListLaws.{something_at}
use Rattle.itp_automaton.specs.Certified.{Certificate, IsCertified}
use Rattle.itp_automaton.specs.Making.{named_in}
use Rattle.proof_names.specs.declared.outlines.Listed.{Listed}
use Rattle.proof_names.specs.declared.outlines.Listed.TheVariants.{Inside, Call, Back}
use Rattle.proof_names.specs.Columns.{is_some_entry}
use Rattle.proof_names.specs.Outlines.{OutlineNode}
use Rattle.proof_names.specs.ProofSpell.Drafts.{PlainShown}
use Rattle.proof_check.specs.Steps.{IsOf}
use Rattle.proof_build.specs.ProofUnwind.Unwindings.{node_at, node_place_in, entry_of, bare, Claims, Spreads}
use Rattle.proof_build.specs.ProofUnwind.Exploring.{IsExploring}
use Rattle.proof_build.specs.Unwindings.{HasTriple, IsShown}
use Rattle.proof_build.specs.Numbering.{HasBody, StartHasBody, IsNumberOf, IsNumber, AreNumbers, AreListed, IsNumbered, AreNumbered, AreAllNumbered}
use Rattle.proof_build.specs.Ties.Listing.{AreTriplesOf}
use Rattle.proof_build.specs.Ties.Needs.{AreNeeded}
use Rattle.proof_build.specs.Ties.Unions.{HasEdgesOf, IsUnionOf}
use Rattle.proof_build.proofs.WordLaws.{node_is, kept_everywhere}
use Rattle.proof_build.proofs.ScopeLaws.{all_of_member, same_proc, call_ends, back_leaves, back_kind}
use Rattle.proof_build.proofs.NumberLaws.{one_number}
use Rattle.proof_build.proofs.TripleLaws.{listed_there}

-- ---- procedures of letters

-- a number that is there is that of the predicate
number_found : (g : Graph) (preds : List Scoped) (s : Scoped) (o : Option ℕ) (k : ℕ) → AreListed g preds → IsNumber preds s o → IsNumberOf preds s k → o ≡ Some k
number_found g preds s None k d n h = absurd (n k h)
number_found g preds s (Some j) k d n h = ap Some (one_number g preds s j k d n h)

inside_procs : (g : Graph) (o : Option PlainAct) (before after : Scoped) (p : ℕ) (written : List ℕ) (helpers : ℕ) (rows : List LinearRow) → o ≡ Some (inside_act p written helpers rows) →
    InsideAgrees (alphabet_of g) o before after → (before.proc ≡ p) × (after.proc ≡ p)
inside_procs g o before after p written helpers rows e h =
    let k : InsideAgrees (alphabet_of g) (Some (inside_act p written helpers rows)) before after = subst (λ (x : Option PlainAct). InsideAgrees (alphabet_of g) x before after) e h in
    (k.0.proc, k.1.proc)

call_procs : (g : Graph) (o : Option PlainAct) (before after : Scoped) (caller callee helpers : ℕ) (rows : List LinearRow) → o ≡ Some (call_act caller callee helpers rows) →
    CallAgrees (alphabet_of g) o before after → (before.proc ≡ caller) × (after.proc ≡ callee)
call_procs g o before after caller callee helpers rows e h =
    let k : CallAgrees (alphabet_of g) (Some (call_act caller callee helpers rows)) before after = subst (λ (x : Option PlainAct). CallAgrees (alphabet_of g) x before after) e h in
    (k.0.proc, k.1.proc)

back_procs : (g : Graph) (o : Option PlainAct) (exit before after : Scoped) (c : ℕ) (targets : List ℕ) (caller callee helpers : ℕ) (rows : List LinearRow) → o ≡ Some (back_act c targets) →
    slice_get g.acts c ≡ Some (call_act caller callee helpers rows) → BackAgrees (alphabet_of g) o exit before after →
    (exit.proc ≡ callee) × (before.proc ≡ caller) × (after.proc ≡ caller)
back_procs g o exit before after c targets caller callee helpers rows e f h =
    let k : ReturnAgrees (alphabet_of g) (slice_get g.acts c) exit before after = subst (λ (x : Option PlainAct). BackAgrees (alphabet_of g) x exit before after) e h in
    let l : ReturnAgrees (alphabet_of g) (Some (call_act caller callee helpers rows)) exit before after = subst (λ (x : Option PlainAct). ReturnAgrees (alphabet_of g) x exit before after) f k in
    (l.0.proc, l.1.proc, l.2.proc)

entered : (o : Option (Option ℕ)) (e : ℕ) → o ≡ Some (Some e) → IsTrue (is_some_entry o)
entered o e h = subst (λ (x : Option (Option ℕ)). IsTrue (is_some_entry x)) (sym h) refl

of_body : (g : Graph) (s : Scoped) (p : ℕ) → s.proc ≡ p → HasBody g p → HasBody g s.proc
of_body g s p e h = subst (λ (x : ℕ). HasBody g x) (sym e) h

-- the predicates of a proof's triple have numbers
numbers_in : (g : Graph) (preds : List Scoped) (ps : List PlainProof) (p : PlainProof) (t : Triple) → AreNumbered g preds ps → Member ps p → p.triple ≡ t → AllByRecursion (IsNumbered g preds) (named_in t)
numbers_in g preds ps p t n m e =
    subst (λ (x : Triple). AllByRecursion (IsNumbered g preds) (named_in x)) e (all_of_member (λ (x : PlainProof). AllByRecursion (IsNumbered g preds) (named_in x.triple)) ps p n m)

some_place : (procs : List ℕ) (a : Automaton) → a.start < a.states → a.start ≡ 0 → length procs ≡ a.states → 0 < length procs
some_place procs a l s e = omega arith

-- the place of the node belongs to a procedure with a body
abbrev HasPlace : Graph → List OutlineNode → ℕ → Type 0
HasPlace g nodes n = (p : ℕ) × IsPlaceOf g.place_procs p (node_place_in nodes n) × HasBody g p

abbrev number_in : (ℕ → Option ℕ) → ℕ → ℕ
number_in number q = unwrap_or (number q) 0

is_in : (number : ℕ → Option ℕ) (q k : ℕ) → number q ≡ Some k → number_in number q ≡ k
is_in number q k e = ap (λ (o : Option ℕ). unwrap_or o 0) e

module _ (g : Graph) (preds : List Scoped) (cs : List Certificate) (union : Automaton) (nodes : List OutlineNode) (steps : Automaton) (i : IsGraph g) (m : IsAutomaton g.automaton)
    (certified : AllByRecursion (IsCertified (alphabet_of g)) cs) (body : StartHasBody g) (listed : AreListed g preds) (numbered : AreAllNumbered g preds cs) (united : IsUnionOf preds cs union)
    (exploring : IsExploring g.automaton union nodes steps) where
  body_of : (n p : ℕ) → HasPlace g nodes n → IsPlaceOf g.place_procs p (node_place_in nodes n) → HasBody g p
  body_of n p h b = subst (λ (x : ℕ). HasBody g x) (same_proc g.place_procs h.0 p (node_place_in nodes n) h.1 b) h.2

  first_has : HasPlace g nodes 0
  first_has =
      let p = something_at g.place_procs 0 (some_place g.place_procs g.automaton m.start i.procedures.start i.procedures.place_procs) in
      let f : node_at nodes 0 ≡ bare = node_is nodes 0 bare exploring.first in
      let z : node_place_in nodes 0 ≡ 0 = ap (λ (x : OutlineNode). x.place) f in
      (p.0, subst (λ (x : ℕ). IsPlaceOf g.place_procs p.0 x) (sym z) p.1, body p.0 p.1)

  inside_has : (n : ℕ) (a : Letter) (k : ℕ) → Member steps.insides (n, a, k) → HasPlace g nodes n → HasPlace g nodes k
  inside_has n a k e h =
      let w = inside_edge_known g i (node_place_in nodes n) (node_place_in nodes k) a (exploring.along.insides n a k e).edge in
      (w.proc, w.ends, body_of n w.proc h w.starts)

  call_has : (n : ℕ) (a : Letter) (k : ℕ) → Member steps.calls (n, a, k) → HasPlace g nodes k
  call_has n a k e =
      let w = call_edge_known g i (node_place_in nodes n) (node_place_in nodes k) a (exploring.along.calls n a k e).edge in
      (w.callee, call_ends g (node_place_in nodes n) (node_place_in nodes k) a i w, entered (slice_get g.entries w.callee) (node_place_in nodes k) w.enters)

  back_has : (x c : ℕ) (r : Letter) (k : ℕ) → Member steps.backs (x, c, r, k) → HasPlace g nodes c → HasPlace g nodes k
  back_has x c r k e h =
      let d = (exploring.along.backs x c r k e).edge in
      let w = back_edge_known g i (node_place_in nodes x) (node_place_in nodes c) (node_place_in nodes k) r (back_kind g.automaton (node_place_in nodes x) (node_place_in nodes c) (node_place_in nodes k) r m d) d in
      (w.caller, w.ends, body_of c w.caller h w.before)

  -- the place of each node belongs to a procedure with a body
  each_has : (n : ℕ) → n < length nodes → HasPlace g nodes n
  each_has n l = kept_everywhere exploring.tree (HasPlace g nodes) (entry_of nodes n) n (record {
    insides = λ q a k e h. inside_has q a k (exploring.part.insides q a k e) h;
    calls = λ q a k e h. call_has q a k (exploring.part.calls q a k e);
    backs = λ x c r k e h t. back_has x c r k (exploring.part.backs x c r k e) t;
  }) first_has (exploring.reached n l)

  cert_of : (c : Certificate) → Member cs c → IsCertified (alphabet_of g) c
  cert_of c mc = all_of_member (IsCertified (alphabet_of g)) cs c certified mc

  numbered_of : (c : Certificate) → Member cs c → AreNumbered g preds c.proofs
  numbered_of c mc = all_of_member (λ (x : Certificate). AreNumbered g preds x.proofs) cs c numbered mc

  -- the state has the number of its predicate
  state_has : (c : Certificate) (number : ℕ → Option ℕ) (q : ℕ) (s : Scoped) → AreNumbers preds c.preds number → slice_get c.preds q ≡ Some s → IsNumbered g preds s → HasBody g s.proc →
      (k : ℕ) × (number q ≡ Some k)
  state_has c number q s n e h b = let k = h b in (k.0, number_found g preds s (number q) k.0 listed (n.each q s e) k.1)

  -- ---- predicates spread

  inside_spreads : (c : Certificate) → Member cs c → (h : HasEdgesOf preds union c) (n : ℕ) (a : Letter) (k : ℕ) → Member exploring.tree.insides (n, a, k) → (x y : ℕ) →
      Member c.automaton.insides (x, a, y) → IsOf (number_in h.number x) (node_at nodes n) → Claims (node_at nodes k) (number_in h.number y)
  inside_spreads c mc h n a k e x y edge o =
      let d = exploring.along.insides n a k (exploring.part.insides n a k e) in
      let w = inside_edge_known g i (node_place_in nodes n) (node_place_in nodes k) a d.edge in
      let b : HasBody g w.proc = body_of n w.proc (each_has n d.from) w.starts in
      let t = (cert_of c mc).insides x y a edge in
      let p = inside_procs g (slice_get g.acts a.id) t.before t.after w.proc w.written w.helpers w.rows w.act t.proved.agrees in
      let ns = numbers_in g preds c.proofs t.proved.proof (triples.Inside t.before a.id t.after) (numbered_of c mc) t.proved.listed t.proved.is in
      let q = state_has c h.number x t.before h.numbers t.source ns.0 (of_body g t.before w.proc p.0 b) in
      let r = state_has c h.number y t.after h.numbers t.target ns.1.0 (of_body g t.after w.proc p.1 b) in
      let o2 : IsOf q.0 (node_at nodes n) = subst (λ (z : ℕ). IsOf z (node_at nodes n)) (is_in h.number x q.0 q.1) o in
      subst (λ (z : ℕ). Claims (node_at nodes k) z) (sym (is_in h.number y r.0 r.1)) ((exploring.spread.insides n a k e).1 q.0 r.0 (h.insides x y q.0 r.0 a edge q.1 r.1) o2)

  call_spreads : (c : Certificate) → Member cs c → (h : HasEdgesOf preds union c) (n : ℕ) (a : Letter) (k : ℕ) → Member exploring.tree.calls (n, a, k) → (x y : ℕ) →
      Member c.automaton.calls (x, a, y) → IsOf (number_in h.number x) (node_at nodes n) → Claims (node_at nodes k) (number_in h.number y)
  call_spreads c mc h n a k e x y edge o =
      let d = exploring.along.calls n a k (exploring.part.calls n a k e) in
      let w = call_edge_known g i (node_place_in nodes n) (node_place_in nodes k) a d.edge in
      let b : HasBody g w.caller = body_of n w.caller (each_has n d.from) w.starts in
      let t = (cert_of c mc).calls x y a edge in
      let p = call_procs g (slice_get g.acts a.id) t.before t.after w.caller w.callee w.helpers w.rows w.act t.proved.agrees in
      let ns = numbers_in g preds c.proofs t.proved.proof (triples.Call t.before a.id t.after) (numbered_of c mc) t.proved.listed t.proved.is in
      let q = state_has c h.number x t.before h.numbers t.source ns.0 (of_body g t.before w.caller p.0 b) in
      let r = state_has c h.number y t.after h.numbers t.target ns.1.0 (of_body g t.after w.callee p.1 (entered (slice_get g.entries w.callee) (node_place_in nodes k) w.enters)) in
      let o2 : IsOf q.0 (node_at nodes n) = subst (λ (z : ℕ). IsOf z (node_at nodes n)) (is_in h.number x q.0 q.1) o in
      subst (λ (z : ℕ). Claims (node_at nodes k) z) (sym (is_in h.number y r.0 r.1)) ((exploring.spread.calls n a k e).1 q.0 r.0 (h.calls x y q.0 r.0 a edge q.1 r.1) o2)

  back_spreads : (c : Certificate) → Member cs c → (h : HasEdgesOf preds union c) (v n : ℕ) (a : Letter) (k : ℕ) → Member exploring.tree.backs (v, n, a, k) → (x z y : ℕ) →
      Member c.automaton.backs (x, z, a, y) → IsOf (number_in h.number x) (node_at nodes v) → IsOf (number_in h.number z) (node_at nodes n) → Claims (node_at nodes k) (number_in h.number y)
  back_spreads c mc h v n a k e x z y edge o u =
      let d = exploring.along.backs v n a k (exploring.part.backs v n a k e) in
      let w = back_edge_known g i (node_place_in nodes v) (node_place_in nodes n) (node_place_in nodes k) a (back_kind g.automaton (node_place_in nodes v) (node_place_in nodes n) (node_place_in nodes k) a m d.edge) d.edge in
      let b : HasBody g w.caller = body_of n w.caller (each_has n d.before) w.before in
      let f : HasBody g w.callee = body_of v w.callee (each_has v d.exit) (back_leaves g (node_place_in nodes v) (node_place_in nodes n) (node_place_in nodes k) a i w) in
      let t = (cert_of c mc).backs x z y a edge in
      let p = back_procs g (slice_get g.acts a.id) t.exit t.before t.after a.call w.targets w.caller w.callee w.helpers w.rows w.act w.call t.proved.agrees in
      let ns = numbers_in g preds c.proofs t.proved.proof (triples.Back t.exit t.before a.id t.after) (numbered_of c mc) t.proved.listed t.proved.is in
      let q = state_has c h.number x t.exit h.numbers t.source ns.0 (of_body g t.exit w.callee p.0 f) in
      let s = state_has c h.number z t.before h.numbers t.caller ns.1.0 (of_body g t.before w.caller p.1 b) in
      let r = state_has c h.number y t.after h.numbers t.target ns.1.1.0 (of_body g t.after w.caller p.2 b) in
      let o2 : IsOf q.0 (node_at nodes v) = subst (λ (j : ℕ). IsOf j (node_at nodes v)) (is_in h.number x q.0 q.1) o in
      let u2 : IsOf s.0 (node_at nodes n) = subst (λ (j : ℕ). IsOf j (node_at nodes n)) (is_in h.number z s.0 s.1) u in
      subst (λ (j : ℕ). Claims (node_at nodes k) j) (sym (is_in h.number y r.0 r.1)) ((exploring.spread.backs v n a k e).2 q.0 s.0 r.0 (h.backs x z y q.0 s.0 r.0 a edge q.1 s.1 r.1) o2 u2)

  pub certificate_spreads : (c : Certificate) → Member cs c → (number : ℕ → ℕ) × Spreads c.automaton exploring.tree nodes number
  certificate_spreads c mc =
      let h = united.each c mc in
      let k = cert_of c mc in (
        number_in h.number,
        record {
          start = is_in h.number c.automaton.start 0 (h.numbers.truths c.automaton.start true k.start);
          finals = λ q f. is_in h.number q 1 (h.numbers.truths q false (k.finals q f));
          insides = λ n a e t. ((exploring.spread.insides n a e t).0, λ x y edge o. inside_spreads c mc h n a e t x y edge o);
          calls = λ n a e t. ((exploring.spread.calls n a e t).0, λ x y edge o. call_spreads c mc h n a e t x y edge o);
          backs = λ v n a e t. ((exploring.spread.backs v n a e t).0, (exploring.spread.backs v n a e t).1, λ x z y edge o u. back_spreads c mc h v n a e t x z y edge o u);
        },
      )

  -- ---- steps show listed triples

  module _ (needed : List Listed) (need : AreNeeded union nodes steps needed) (shown : List PlainShown) (ts : AreTriplesOf preds cs needed shown) where
    numbered_as : (c : Certificate) (number : ℕ → Option ℕ) (x q : ℕ) (s : Scoped) → AreNumbers preds c.preds number → slice_get c.preds x ≡ Some s → number x ≡ Some q → IsNumberOf preds s q
    numbered_as c number x q s n e f = subst (λ (o : Option ℕ). IsNumber preds s o) f (n.each x s e)

    inside_listed : (q r : ℕ) (a : Letter) → Member union.insides (q, a, r) → Member needed (Inside q a.id r) → HasTriple shown (Inside q a.id r)
    inside_listed q r a e m =
        let w = united.insides q r a e in
        let t = (cert_of w.certificate w.among).insides w.x w.y a w.edge in
        listed_there g preds needed shown t.proved.proof (triples.Inside t.before a.id t.after) (Inside q a.id r) listed (ts.all w.certificate w.among t.proved.proof t.proved.listed) t.proved.is
        (numbered_as w.certificate w.number w.x q t.before w.numbers t.source w.source, refl, numbered_as w.certificate w.number w.y r t.after w.numbers t.target w.target) m

    call_listed : (q r : ℕ) (a : Letter) → Member union.calls (q, a, r) → Member needed (Call q a.id r) → HasTriple shown (Call q a.id r)
    call_listed q r a e m =
        let w = united.calls q r a e in
        let t = (cert_of w.certificate w.among).calls w.x w.y a w.edge in
        listed_there g preds needed shown t.proved.proof (triples.Call t.before a.id t.after) (Call q a.id r) listed (ts.all w.certificate w.among t.proved.proof t.proved.listed) t.proved.is
        (numbered_as w.certificate w.number w.x q t.before w.numbers t.source w.source, refl, numbered_as w.certificate w.number w.y r t.after w.numbers t.target w.target) m

    back_listed : (q p r : ℕ) (a : Letter) → Member union.backs (q, p, a, r) → Member needed (Back q p a.id r) → HasTriple shown (Back q p a.id r)
    back_listed q p r a e m =
        let w = united.backs q p r a e in
        let t = (cert_of w.certificate w.among).backs w.x w.z w.y a w.edge in
        listed_there g preds needed shown t.proved.proof (triples.Back t.exit t.before a.id t.after) (Back q p a.id r) listed (ts.all w.certificate w.among t.proved.proof t.proved.listed) t.proved.is (
          numbered_as w.certificate w.number w.x q t.exit w.numbers t.source w.source,
          numbered_as w.certificate w.number w.z p t.before w.numbers t.caller w.caller,
          refl,
          numbered_as w.certificate w.number w.y r t.after w.numbers t.target w.target,
        ) m

    pub steps_shown : IsShown shown nodes steps
    steps_shown = record {
      insides = λ n a k e r f. (let w = need.insides n a k e r f (exploring.shown.insides n a k e r f) in (w.source, inside_listed w.source r a w.edge w.listed, w.has));
      calls = λ n a k e r f. (let w = need.calls n a k e r f (exploring.shown.calls n a k e r f) in (w.source, call_listed w.source r a w.edge w.listed, w.has));
      backs = λ x c a k e r f.
          (let w = need.backs x c a k e r f (exploring.shown.backs x c a k e r f) in (w.source, w.caller, back_listed w.source w.caller r a w.edge w.listed, w.has, w.called));
    }

-- A step from a node, to one that is there or to a new one.
use Rattle.std.proofs.Common.{◌≡◌, ◌∙◌, ◌⊎◌, ℕ, ◌<◌, List, [], ◌∷◌, ◌++◌, length, refl, sym, ap, subst, inl, inr}
use Rattle.std.specs.Prelude.{Result, Ok, Err, OnOk}
use Rattle.nwa_base.specs.declared.letters.Kind.TheVariants as kinds
use Rattle.nwa_base.specs.declared.letters.Letter.{Letter}
use Rattle.nwa_base.specs.Members.{Member}
use Rattle.nwa_base.specs.Automata.{Automaton}
use Rattle.nwa_base.proofs.MemberLemmas.{member_front, member_rest, member_split}
use Rattle.proof_names.specs.Outlines.{OutlineNode}
use Rattle.proof_check.specs.Steps.{IsOpen}
use Rattle.proof_build.specs.ProofUnwind.Unwindings.{node_at, node_place_in, entry_of}
use Rattle.proof_build.specs.ProofUnwind.Exploring.{InsideFollows, CallFollows, BackFollows, AreFollowing, IsExploring, Grows, Stage, Stepped, Called, Returned, with_inside, with_call, with_back, with_state, with_node, linked_inside, linked_call, linked_back}
use Rattle.proof_build.specs.ProofUnwind.Spots.{IsWeaker, IsEntryWith}
use Rattle.proof_build.proofs.ProofUnwind.GrowingLaws.{last_at}
use Rattle.proof_build.proofs.ProofUnwind.ExploringLaws.{covered_inside, covered_call, covered_back, fresh_inside, fresh_call, fresh_back}
use Rattle.std.proofs.lemmas.List.{append-nil}

-- ---- what was added

grown_inside : (nodes rest : List OutlineNode) (s t : Automaton) (e : ℕ × Letter × ℕ) → t.insides ≡ s.insides ++ e ∷ [] → t.calls ≡ s.calls → t.backs ≡ s.backs → Grows nodes s (nodes ++ rest) t
grown_inside nodes rest s t e i c b = record {
  rest = rest;
  nodes_are = refl;
  part = record {
    insides = λ n a k m. subst (λ (l : List (ℕ × Letter × ℕ)). Member l (n, a, k)) (sym i) (member_front s.insides (e ∷ []) (n, a, k) m);
    calls = λ n a k m. subst (λ (l : List (ℕ × Letter × ℕ)). Member l (n, a, k)) (sym c) m;
    backs = λ x d q k m. subst (λ (l : List (ℕ × ℕ × Letter × ℕ)). Member l (x, d, q, k)) (sym b) m;
  };
}

grown_back : (nodes rest : List OutlineNode) (s t : Automaton) (e : ℕ × ℕ × Letter × ℕ) → t.insides ≡ s.insides → t.calls ≡ s.calls → t.backs ≡ s.backs ++ e ∷ [] → Grows nodes s (nodes ++ rest) t
grown_back nodes rest s t e i c b = record {
  rest = rest;
  nodes_are = refl;
  part = record {
    insides = λ n a k m. subst (λ (l : List (ℕ × Letter × ℕ)). Member l (n, a, k)) (sym i) m;
    calls = λ n a k m. subst (λ (l : List (ℕ × Letter × ℕ)). Member l (n, a, k)) (sym c) m;
    backs = λ x d q k m. subst (λ (l : List (ℕ × ℕ × Letter × ℕ)). Member l (x, d, q, k)) (sym b) (member_front s.backs (e ∷ []) (x, d, q, k) m);
  };
}

grown_call : (nodes rest : List OutlineNode) (s t : Automaton) (e : ℕ × Letter × ℕ) → t.insides ≡ s.insides → t.calls ≡ s.calls ++ e ∷ [] → t.backs ≡ s.backs → Grows nodes s (nodes ++ rest) t
grown_call nodes rest s t e i c b = record {
  rest = rest;
  nodes_are = refl;
  part = record {
    insides = λ n l k m. subst (λ (x : List (ℕ × Letter × ℕ)). Member x (n, l, k)) (sym i) m;
    calls = λ n l k m. subst (λ (x : List (ℕ × Letter × ℕ)). Member x (n, l, k)) (sym c) (member_front s.calls (e ∷ []) (n, l, k) m);
    backs = λ x d q k m. subst (λ (l : List (ℕ × ℕ × Letter × ℕ)). Member l (x, d, q, k)) (sym b) m;
  };
}

-- calls are those before and one from r
calls_from : (s : Automaton) (r : ℕ) (a : Letter) (k : ℕ) (d : ℕ) (l : Letter) (e : ℕ) → Member (s.calls ++ (r, a, k) ∷ []) (d, l, e) → Member s.calls (d, l, e) ⊎ (d ≡ r)
calls_from s r a k d l e m = by_case (member_split s.calls ((r, a, k) ∷ []) (d, l, e) m)
  where
    by_case : Member s.calls (d, l, e) ⊎ Member {X = ℕ × Letter × ℕ} ((r, a, k) ∷ []) (d, l, e) → Member s.calls (d, l, e) ⊎ (d ≡ r)
    by_case (inl x) = inl x
    by_case (inr (inl x)) = inr (sym (ap (λ (y : ℕ × Letter × ℕ). y.0) x))
    by_case (inr (inr x)) = absurd x

no_node : (nodes : List OutlineNode) (s t : Automaton) → Grows nodes s (nodes ++ []) t → Grows nodes s nodes t
no_node nodes s t g = subst (λ (l : List OutlineNode). Grows nodes s l t) (append-nil nodes) g

abbrev pub stage : List OutlineNode → Automaton → Stage
stage nodes s = record { nodes = nodes; steps = s }

-- ---- inside steps

pub inside_to : (m b : Automaton) (nodes : List OutlineNode) (s : Automaton) (n : ℕ) (a : Letter) (e : ℕ) (preds : List ℕ) (k : ℕ) → IsExploring m b nodes s → n < length nodes →
    Member m.insides (node_place_in nodes n, a, e) → AreFollowing (InsideFollows b a (node_at nodes n)) preds → IsWeaker nodes e (entry_of nodes n) preds k →
    Stepped m b n a e (stage nodes s) (linked_inside (stage nodes s) (n, a, k))
inside_to m b nodes s n a e preds k h l i f w = record {
  goes = record {
    exploring = covered_inside m b nodes s n a k h (record {
      «from» = l;
      to = w.there;
      edge = subst (λ (p : ℕ). Member m.insides (node_place_in nodes n, a, p)) (sym w.at) i;
      entry = w.under;
    }) (λ r q. f.sound r (w.among r q));
    grows = no_node nodes s (with_inside s (n, a, k)) (grown_inside nodes [] s (with_inside s (n, a, k)) (n, a, k) refl refl refl);
    calls = refl;
  };
  step = record { number = k; step = member_rest s.insides ((n, a, k) ∷ []) (n, a, k) (inl refl); at = w.at };
}

pub inside_new : (m b : Automaton) (nodes : List OutlineNode) (s : Automaton) (n : ℕ) (a : Letter) (x : OutlineNode) → IsExploring m b nodes s → n < length nodes → IsOpen (node_at nodes n) →
    a.kind ≡ kinds.Inside → Member m.insides (node_place_in nodes n, a, x.place) → x.entry ≡ entry_of nodes n → AreFollowing (InsideFollows b a (node_at nodes n)) x.preds →
    Stepped m b n a x.place (stage nodes s) (linked_inside (with_node (stage nodes s) x) (n, a, length nodes))
inside_new m b nodes s n a x h l o k i e f = record {
  goes = record {
    exploring = fresh_inside m b nodes s n a x h l o k i e f;
    grows = grown_inside nodes (x ∷ []) s (with_inside (with_state s) (n, a, length nodes)) (n, a, length nodes) refl refl refl;
    calls = refl;
  };
  step = record {
    number = length nodes;
    step = member_rest s.insides ((n, a, length nodes) ∷ []) (n, a, length nodes) (inl refl);
    at = ap (λ (y : OutlineNode). y.place) (last_at nodes x);
  };
}

-- ---- calls

pub call_to : (m b : Automaton) (nodes : List OutlineNode) (s : Automaton) (n : ℕ) (a : Letter) (e : ℕ) (preds : List ℕ) (k : ℕ) → IsExploring m b nodes s → n < length nodes → IsOpen (node_at nodes n) →
    Member m.calls (node_place_in nodes n, a, e) → AreFollowing (CallFollows b a (node_at nodes n)) preds → IsEntryWith nodes e preds k →
    Called m b n a e (stage nodes s) (linked_call (stage nodes s) (n, a, k))
call_to m b nodes s n a e preds k h l o i f w = record {
  goes = record {
    exploring = covered_call m b nodes s n a k h (record {
      «from» = l;
      to = w.there;
      edge = subst (λ (p : ℕ). Member m.calls (node_place_in nodes n, a, p)) (sym w.at) i;
      entry = w.itself;
    }) o (subst (λ (q : List ℕ). AreFollowing (CallFollows b a (node_at nodes n)) q) (sym w.same) f);
    grows = no_node nodes s (with_call s (n, a, k)) (grown_call nodes [] s (with_call s (n, a, k)) (n, a, k) refl refl refl);
    calls = calls_from s n a k;
  };
  step = record { number = k; step = member_rest s.calls ((n, a, k) ∷ []) (n, a, k) (inl refl); at = w.at };
}

pub call_new : (m b : Automaton) (nodes : List OutlineNode) (s : Automaton) (n : ℕ) (a : Letter) (x : OutlineNode) → IsExploring m b nodes s → n < length nodes → IsOpen (node_at nodes n) →
    a.kind ≡ kinds.Call → Member m.calls (node_place_in nodes n, a, x.place) → x.entry ≡ length nodes → AreFollowing (CallFollows b a (node_at nodes n)) x.preds →
    Called m b n a x.place (stage nodes s) (linked_call (with_node (stage nodes s) x) (n, a, length nodes))
call_new m b nodes s n a x h l o k i e f = record {
  goes = record {
    exploring = fresh_call m b nodes s n a x h l o k i e f;
    grows = grown_call nodes (x ∷ []) s (with_call (with_state s) (n, a, length nodes)) (n, a, length nodes) refl refl refl;
    calls = calls_from s n a (length nodes);
  };
  step = record {
    number = length nodes;
    step = member_rest s.calls ((n, a, length nodes) ∷ []) (n, a, length nodes) (inl refl);
    at = ap (λ (y : OutlineNode). y.place) (last_at nodes x);
  };
}

-- ---- backs

pub back_to : (m b : Automaton) (nodes : List OutlineNode) (s : Automaton) (x c : ℕ) (a r : Letter) (e : ℕ) (preds : List ℕ) (k : ℕ) → IsExploring m b nodes s → x < length nodes → c < length nodes →
    Member s.calls (c, a, entry_of nodes x) → r.call ≡ a.id → Member m.backs (node_place_in nodes x, node_place_in nodes c, r, e) →
    AreFollowing (BackFollows b r (node_at nodes x) (node_at nodes c)) preds → IsWeaker nodes e (entry_of nodes c) preds k →
    Returned m b x c r e (stage nodes s) (linked_back (stage nodes s) (x, c, r, k))
back_to m b nodes s x c a r e preds k h l o j id i f w = record {
  goes = record {
    exploring = covered_back m b nodes s x c r k h (record {
      exit = l;
      before = o;
      to = w.there;
      edge = subst (λ (p : ℕ). Member m.backs (node_place_in nodes x, node_place_in nodes c, r, p)) (sym w.at) i;
      entry = w.under;
      letter = a;
      joined = j;
      names = id;
    }) (λ q g. f.sound q (w.among q g));
    grows = no_node nodes s (with_back s (x, c, r, k)) (grown_back nodes [] s (with_back s (x, c, r, k)) (x, c, r, k) refl refl refl);
    calls = refl;
  };
  back = record { number = k; back = member_rest s.backs ((x, c, r, k) ∷ []) (x, c, r, k) (inl refl); at = w.at };
}

pub back_new : (m b : Automaton) (nodes : List OutlineNode) (s : Automaton) (y c : ℕ) (a r : Letter) (x : OutlineNode) → IsExploring m b nodes s → y < length nodes → c < length nodes →
    IsOpen (node_at nodes y) → IsOpen (node_at nodes c) → a.kind ≡ kinds.Call → r.kind ≡ kinds.Back → Member s.calls (c, a, entry_of nodes y) → r.call ≡ a.id →
    Member m.backs (node_place_in nodes y, node_place_in nodes c, r, x.place) → x.entry ≡ entry_of nodes c → AreFollowing (BackFollows b r (node_at nodes y) (node_at nodes c)) x.preds →
    Returned m b y c r x.place (stage nodes s) (linked_back (with_node (stage nodes s) x) (y, c, r, length nodes))
back_new m b nodes s y c a r x h l o p q ka kr j id i e f = record {
  goes = record {
    exploring = fresh_back m b nodes s y c a r x h l o p q ka kr j id i e f;
    grows = grown_back nodes (x ∷ []) s (with_back (with_state s) (y, c, r, length nodes)) (y, c, r, length nodes) refl refl refl;
    calls = refl;
  };
  back = record {
    number = length nodes;
    back = member_rest s.backs ((y, c, r, length nodes) ∷ []) (y, c, r, length nodes) (inl refl);
    at = ap (λ (v : OutlineNode). v.place) (last_at nodes x);
  };
}

-- ---- outcomes

pub then_at : {T E : Type 0} (r : Result T E) (P : Stage → Type 0) (new t : Stage) → P t → OnOk r (new ≡ t) → OnOk r (P new)
then_at (Ok x) P new t p h = subst P (sym h) p
then_at (Err e) P new t p h = h

-- after a new node a step to it
pub then_new : {T E : Type 0} (r : Result T E) (P : Stage → Type 0) (link : Stage → ℕ → Stage) (s mid new : Stage) (x : OutlineNode) (to : ℕ) → mid ≡ with_node s x → to ≡ s.steps.states →
    s.steps.states ≡ length s.nodes → P (link (with_node s x) (length s.nodes)) → OnOk r (new ≡ link mid to) → OnOk r (P new)
then_new r P link s mid new x to e f g p h =
    then_at r P new (link mid to) (subst (λ (u : Stage). P (link u to)) (sym e) (subst (λ (k : ℕ). P (link (with_node s x) k)) (sym (f ∙ g)) p)) h

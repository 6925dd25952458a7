-- The search goes on: what is kept, and what stays of nodes and steps that were there.
use Rattle.std.proofs.Common.{◌≡◌, ◌∙◌, ℕ, ◌<◌, List, length, get_or, refl, sym, ap, subst, inl, inr}
use Rattle.nwa_base.specs.declared.letters.Kind.TheVariants as kinds
use Rattle.nwa_base.specs.declared.letters.Letter.{Letter}
use Rattle.nwa_base.specs.Members.{Member}
use Rattle.nwa_base.specs.Automata.{Automaton, IsAutomaton, IsEdge, IsBackEdge}
use Rattle.nwa_base.specs.Edges.{leaving, backs_between}
use Rattle.proof_names.specs.Outlines.{OutlineNode}
use Rattle.proof_check.specs.Steps.{IsOpen}
use Rattle.proof_build.specs.ProofUnwind.Unwindings.{node_at, node_place_in, entry_of, HasStep, HasBack}
use Rattle.proof_build.specs.ProofUnwind.Exploring.{Grows, Stage, Explores, GoesOn, GoesOnFrom, HasBacks, IsExit}
use Rattle.proof_build.proofs.ProofUnwind.OpeningLaws.{grown_at, grown_long, grows_not, grows_on, step_stays, call_stays, back_stays}
use Rattle.proof_build.proofs.ProofUnwind.LoopLaws.{Each, item_leaving, item_between, does_leave, does_go_between, of_all}

-- ---- going on

pub goes_not : (m b : Automaton) (s : Stage) → Explores m b s → GoesOn m b s s
goes_not m b s h = record { exploring = h; grows = grows_not s.nodes s.steps; calls = refl }

pub goes_on : (m b : Automaton) (s t u : Stage) → GoesOn m b s t → GoesOn m b t u → GoesOn m b s u
goes_on m b s t u g h = record {
  exploring = h.exploring;
  grows = grows_on s.nodes s.steps t.nodes t.steps u.nodes u.steps g.grows h.grows;
  calls = h.calls ∙ g.calls;
}

pub from_not : (m b : Automaton) (n : ℕ) (s : Stage) → Explores m b s → GoesOnFrom m b n s s
from_not m b n s h = record { exploring = h; grows = grows_not s.nodes s.steps; calls = λ c a k i. inl i }

pub from_on : (m b : Automaton) (n : ℕ) (s t u : Stage) → GoesOnFrom m b n s t → GoesOnFrom m b n t u → GoesOnFrom m b n s u
from_on m b n s t u g h = record {
  exploring = h.exploring;
  grows = grows_on s.nodes s.steps t.nodes t.steps u.nodes u.steps g.grows h.grows;
  calls = λ c a k i. elim (h.calls c a k i) [ inl j ↦ g.calls c a k j | inr e ↦ inr e ];
}

pub goes_from : (m b : Automaton) (n : ℕ) (s t : Stage) → GoesOn m b s t → GoesOnFrom m b n s t
goes_from m b n s t g = record {
  exploring = g.exploring;
  grows = g.grows;
  calls = λ c a k i. inl (subst (λ (l : List (ℕ × Letter × ℕ)). Member l (c, a, k)) g.calls i);
}

-- ---- nodes stay

abbrev pub Grown : Stage → Stage → Type 0
Grown s t = Grows s.nodes s.steps t.nodes t.steps

pub there_stays : (s t : Stage) (n : ℕ) → Grown s t → n < length s.nodes → n < length t.nodes
there_stays s t n g l = grown_long s.nodes s.steps t.nodes t.steps n g l

pub at_stays : (s t : Stage) (n : ℕ) → Grown s t → n < length s.nodes → node_at t.nodes n ≡ node_at s.nodes n
at_stays s t n g l = grown_at s.nodes s.steps t.nodes t.steps n g l

pub open_stays : (s t : Stage) (n : ℕ) → Grown s t → n < length s.nodes → IsOpen (node_at s.nodes n) → IsOpen (node_at t.nodes n)
open_stays s t n g l o = subst (λ (x : OutlineNode). IsOpen x) (sym (at_stays s t n g l)) o

place_stays : (s t : Stage) (n place : ℕ) → Grown s t → n < length s.nodes → place ≡ node_place_in s.nodes n → place ≡ node_place_in t.nodes n
place_stays s t n place g l e = e ∙ sym (ap (λ (x : OutlineNode). x.place) (at_stays s t n g l))

pub exit_stays : (s t : Stage) (k x : ℕ) → Grown s t → IsExit s.nodes k x → IsExit t.nodes k x
exit_stays s t k x g h = record {
  there = there_stays s t x g h.there;
  under = ap (λ (y : OutlineNode). y.entry) (at_stays s t x g h.there) ∙ h.under;
  opens = open_stays s t x g h.there h.opens;
}

-- ---- edges from the place of a node

pub edge_from : (items edges : List (ℕ × Letter × ℕ)) (s t : Stage) (n place i : ℕ) (d : ℕ × Letter × ℕ) → Grown s t → n < length s.nodes → place ≡ node_place_in s.nodes n →
    items ≡ leaving place edges → i < length items → Member edges (node_place_in t.nodes n, (get_or items i d).1, (get_or items i d).2)
edge_from items edges s t n place i d g l e f k =
    subst (λ (p : ℕ). Member edges (p, (get_or items i d).1, (get_or items i d).2)) (place_stays s t n place g l e) (item_leaving items edges place i d f k)

pub each_from : (items edges : List (ℕ × Letter × ℕ)) (s t : Stage) (n place : ℕ) (P : ℕ × Letter × ℕ → Type 0) → Grown s t → n < length s.nodes → place ≡ node_place_in s.nodes n →
    items ≡ leaving place edges → Each items P → (a : Letter) (e : ℕ) → Member edges (node_place_in t.nodes n, a, e) → P (place, a, e)
each_from items edges s t n place P g l e f h a k m =
    h (place, a, k) (subst (λ (z : List (ℕ × Letter × ℕ)). Member z (place, a, k)) (sym f)
    (does_leave place edges a k (subst (λ (p : ℕ). Member edges (p, a, k)) (sym (place_stays s t n place g l e)) m)))

pub edge_between : (items edges : List (ℕ × ℕ × Letter × ℕ)) (s t : Stage) (x c place outer i : ℕ) (d : ℕ × ℕ × Letter × ℕ) → Grown s t → x < length s.nodes → c < length s.nodes →
    place ≡ node_place_in s.nodes x → outer ≡ node_place_in s.nodes c → items ≡ backs_between place outer edges → i < length items →
    Member edges (node_place_in t.nodes x, node_place_in t.nodes c, (get_or items i d).2, (get_or items i d).3)
edge_between items edges s t x c place outer i d g l o e u f k =
    subst (λ (p : ℕ). Member edges (p, node_place_in t.nodes c, (get_or items i d).2, (get_or items i d).3)) (place_stays s t x place g l e)
    (subst (λ (p : ℕ). Member edges (place, p, (get_or items i d).2, (get_or items i d).3)) (place_stays s t c outer g o u) (item_between items edges place outer i d f k))

pub each_between : (items edges : List (ℕ × ℕ × Letter × ℕ)) (s t : Stage) (x c place outer : ℕ) (P : ℕ × ℕ × Letter × ℕ → Type 0) → Grown s t → x < length s.nodes → c < length s.nodes →
    place ≡ node_place_in s.nodes x → outer ≡ node_place_in s.nodes c → items ≡ backs_between place outer edges → Each items P → (a : Letter) (e : ℕ) →
    Member edges (node_place_in t.nodes x, node_place_in t.nodes c, a, e) → P (place, outer, a, e)
each_between items edges s t x c place outer P g l o e u f h a k m =
    h (place, outer, a, k) (subst (λ (z : List (ℕ × ℕ × Letter × ℕ)). Member z (place, outer, a, k)) (sym f)
    (does_go_between place outer edges a k (subst (λ (p : ℕ). Member edges (p, outer, a, k)) (sym (place_stays s t x place g l e))
    (subst (λ (p : ℕ). Member edges (node_place_in t.nodes x, p, a, k)) (sym (place_stays s t c outer g o u)) m))))

-- ---- letters of edges

pub inside_kind : (m : Automaton) (q : ℕ) (a : Letter) (e : ℕ) → IsAutomaton m → Member m.insides (q, a, e) → a.kind ≡ kinds.Inside
inside_kind m q a e v i = (of_all (IsEdge m.states kinds.Inside) m.insides (q, a, e) v.insides i).letter

pub call_kind : (m : Automaton) (q : ℕ) (a : Letter) (e : ℕ) → IsAutomaton m → Member m.calls (q, a, e) → a.kind ≡ kinds.Call
call_kind m q a e v i = (of_all (IsEdge m.states kinds.Call) m.calls (q, a, e) v.calls i).letter

pub back_kind : (m : Automaton) (q p : ℕ) (a : Letter) (e : ℕ) → IsAutomaton m → Member m.backs (q, p, a, e) → a.kind ≡ kinds.Back
back_kind m q p a e v i = (of_all (IsBackEdge m.states) m.backs (q, p, a, e) v.backs i).letter

-- ---- steps stay

pub inside_stays : (m b : Automaton) (s t : Stage) (n : ℕ) (a : Letter) (e : ℕ) → Explores m b s → Grown s t → HasStep s.steps.insides s.nodes n a e → HasStep t.steps.insides t.nodes n a e
inside_stays m b s t n a e h g d = step_stays m s.nodes s.steps t.nodes t.steps n a e h.along g d

pub called_stays : (m b : Automaton) (s t : Stage) (n : ℕ) (a : Letter) (e : ℕ) → Explores m b s → Grown s t → HasStep s.steps.calls s.nodes n a e → HasStep t.steps.calls t.nodes n a e
called_stays m b s t n a e h g d = call_stays m s.nodes s.steps t.nodes t.steps n a e h.along g d

pub returned_stays : (m b : Automaton) (s t : Stage) (x c : ℕ) (a : Letter) (e : ℕ) → Explores m b s → Grown s t → HasBack s.steps.backs s.nodes x c a e → HasBack t.steps.backs t.nodes x c a e
returned_stays m b s t x c a e h g d = back_stays m s.nodes s.steps t.nodes t.steps x c a e h.along g d

-- ---- joined nodes

-- the nodes are there, and have all their backs
pub record Joined (m : Automaton) (s : Stage) (x c : ℕ) (a : Letter) : Type 0 where
  pub exit : x < length s.nodes
  pub before : c < length s.nodes
  pub backs : HasBacks m s x c a

pub joined_stays : (m b : Automaton) (s t : Stage) (x c : ℕ) (a : Letter) → Explores m b s → Grown s t → Joined m s x c a → Joined m t x c a
joined_stays m b s t x c a h g j = record {
  exit = there_stays s t x g j.exit;
  before = there_stays s t c g j.before;
  backs = λ l e i id. returned_stays m b s t x c l e h g
      (j.backs l e (subst (λ (y : OutlineNode). Member m.backs (y.place, node_place_in s.nodes c, l, e)) (at_stays s t x g j.exit)
      (subst (λ (y : OutlineNode). Member m.backs (node_place_in t.nodes x, y.place, l, e)) (at_stays s t c g j.before) i)) id);
}

-- the node from which a call leads
pub record IsCaller (m : Automaton) (s : Stage) (c : ℕ) (a : Letter) : Type 0 where
  pub there : c < length s.nodes
  pub opens : IsOpen (node_at s.nodes c)
  pub kind : a.kind ≡ kinds.Call

pub caller : (m b : Automaton) (s : Stage) (c : ℕ) (a : Letter) (k : ℕ) → IsAutomaton m → Explores m b s → Member s.steps.calls (c, a, k) → IsCaller m s c a
caller m b s c a k v h i = let d = h.along.calls c a k i in record {
  there = d.from;
  opens = (h.spread.calls c a k (h.all_calls c a k i)).0;
  kind = call_kind m (node_place_in s.nodes c) a (node_place_in s.nodes k) v d.edge;
}

-- a call to the entry node of an exit stays one
pub call_to_stays : (m b : Automaton) (s t : Stage) (x c : ℕ) (a : Letter) → GoesOn m b s t → x < length s.nodes → Member s.steps.calls (c, a, entry_of s.nodes x) →
    Member t.steps.calls (c, a, entry_of t.nodes x)
call_to_stays m b s t x c a g l i =
    subst (λ (y : OutlineNode). Member t.steps.calls (c, a, y.entry)) (sym (at_stays s t x g.grows l))
    (subst (λ (z : List (ℕ × Letter × ℕ)). Member z (c, a, entry_of s.nodes x)) (sym g.calls) i)

pub joined_by : (m b : Automaton) (t u : Stage) (x c : ℕ) (a : Letter) (k : ℕ) → IsAutomaton m → Explores m b t → x < length t.nodes → Member t.steps.calls (c, a, k) → GoesOn m b t u →
    HasBacks m u x c a → Joined m u x c a
joined_by m b t u x c a k v h l i g j = let p : IsCaller m t c a = caller m b t c a k v h i in
    record { exit = there_stays t u x g.grows l; before = there_stays t u c g.grows p.there; backs = j }

-- calls that stay
pub call_stays_there : (m b : Automaton) (s t : Stage) (c : ℕ) (a : Letter) (k : ℕ) → GoesOn m b s t → Member s.steps.calls (c, a, k) → Member t.steps.calls (c, a, k)
call_stays_there m b s t c a k g i = subst (λ (z : List (ℕ × Letter × ℕ)). Member z (c, a, k)) (sym g.calls) i

-- Whether the states of an automaton have what an image has at their names.
use Rattle.std.proofs.Common.{◌≡◌, ◌∙◌, ◌<◌, ◌+◌, ℕ, List, Option, None, Some, length, get_or, sym, subst, inl, inr, arith}
use Rattle.std.proofs.lemmas.Bool.{cases_lt}
use Rattle.nwa_base.specs.declared.letters.Letter.{Letter}
use Rattle.nwa_base.specs.Members.{Member}
use Rattle.nwa_base.specs.Automata.{Automaton}
use Rattle.nwa_base.specs.Edges.{leaving, backs_between, ends, back_ends}
use Rattle.nwa_base.proofs.MemberLemmas.{member_at}
use Rattle.nwa_base.proofs.PairLemmas.{ends_member, back_ends_member}
use Rattle.nwa_reduce.specs.Ties.Naming.{named}
use Rattle.nwa_reduce.specs.Ties.Levels.{Returns, AreJoins}
use Rattle.nwa_reduce.specs.Ties.Folding.{IsFolding, IsCopy, IsStateCopy, IsJoinCopy, LeadsToName, ReturnsToName}
use Rattle.nwa_reduce.proofs.ListLemmas.{get_within, same_some}
use Rattle.nwa_reduce.proofs.NameLemmas.{name_of}
use Rattle.nwa_reduce.proofs.EachLemmas.{Each, leaves, stands_between}

-- the first states are copies
abbrev pub CopiesBelow : Automaton → (ℕ → Option ℕ) → Automaton → ℕ → Type 0
CopiesBelow m name n count = (q : ℕ) → q < count → IsStateCopy m name n q

pub copies_none : (m n : Automaton) (name : ℕ → Option ℕ) → CopiesBelow m name n 0
copies_none m n name q l = absurd (omega arith)

pub copies_more : (m n : Automaton) (name : ℕ → Option ℕ) (k : ℕ) → CopiesBelow m name n k → IsStateCopy m name n k → CopiesBelow m name n (k + 1)
copies_more m n name k h g q l =
    elim (cases_lt q k) [
      | inl o ↦ h q o
      | inr o ↦ let e : k ≡ q = omega arith in subst (IsStateCopy m name n) e g
    ]

no_name : (x : ℕ) → None ≡ Some x → ⊥
no_name x e = cc

-- a state that has a name and what the image has there
pub state_copy : (m n : Automaton) (name : ℕ → Option ℕ) (q x : ℕ) (insides calls : List (ℕ × Letter × ℕ)) → name q ≡ Some x →
    insides ≡ leaving x n.insides → calls ≡ leaving x n.calls → (Member n.finals x → Member m.finals q) → (Returns n x → Returns m q) →
    Each insides (λ e. LeadsToName m.insides name q e.1 e.2) → Each calls (λ e. LeadsToName m.calls name q e.1 e.2) → IsStateCopy m name n q
state_copy m n name q x insides calls e i c f r hi hc y g =
    subst (IsCopy m name n q) (same_some x y (sym e ∙ g)) (record {
      finals = f;
      insides = λ a z k. hi (x, a, z) (subst (λ (l : List (ℕ × Letter × ℕ)). Member l (x, a, z)) (sym i) (leaves x n.insides a z k));
      calls = λ a z k. hc (x, a, z) (subst (λ (l : List (ℕ × Letter × ℕ)). Member l (x, a, z)) (sym c) (leaves x n.calls a z k));
      returns = r;
    })

-- a pair whose states have names
pub join_copy : (m n : Automaton) (name : ℕ → Option ℕ) (p q x z : ℕ) (edges : List (ℕ × ℕ × Letter × ℕ)) → name q ≡ Some x → name p ≡ Some z →
    edges ≡ backs_between x z n.backs → Each edges (λ e. ReturnsToName m.backs name q p e.2 e.3) → IsJoinCopy m name n p q
join_copy m n name p q x z edges e f b h x' z' g k a y i =
    let ex : x' ≡ x = same_some x' x (sym g ∙ e) in
    let ez : z' ≡ z = same_some z' z (sym k ∙ f) in
    let j = subst (λ (u : ℕ). Member n.backs (x, u, a, y)) ez (subst (λ (u : ℕ). Member n.backs (u, z', a, y)) ex i) in
    h (x, z, a, y) (subst (λ (l : List (ℕ × ℕ × Letter × ℕ)). Member l (x, z, a, y)) (sym b) (stands_between x n.backs z a y j))

-- a pair with a state that has no name
pub no_exit : (m n : Automaton) (name : ℕ → Option ℕ) (p q : ℕ) → name q ≡ None → IsJoinCopy m name n p q
no_exit m n name p q e x z g k = absurd (no_name x (sym e ∙ g))

pub no_before : (m n : Automaton) (name : ℕ → Option ℕ) (p q : ℕ) → name p ≡ None → IsJoinCopy m name n p q
no_before m n name p q e x z g k = absurd (no_name z (sym e ∙ k))

-- all states and all pairs
pub folding : (m n : Automaton) (names : List (Option ℕ)) (joins : List (ℕ × ℕ)) → length names ≡ m.states → AreJoins m joins →
    CopiesBelow m (named names) n m.states → Each joins (λ x. IsJoinCopy m (named names) n x.0 x.1) → IsFolding m (named names) n
folding m n names joins l j c h = record {
  copies = λ q x e. let w = get_within names q (Some x) (name_of names q x e) in c q (omega arith) x e;
  backs = λ p q x z i e f a y k.
      let w = get_within names q (Some x) (name_of names q x e) in
      let r = (c q (omega arith) x e).returns (record { before = z; letter = a; end = y; edge = k }) in
      h (p, q) (j p q i r) x z e f a y k;
}

-- one of the ends by a letter has the name
pub leads_to_name : (edges : List (ℕ × Letter × ℕ)) (name : ℕ → Option ℕ) (q : ℕ) (a : Letter) (y : ℕ) (to : List ℕ) → to ≡ ends q a edges →
    (e : ℕ) × Member to e × (name e ≡ Some y) → LeadsToName edges name q a y
leads_to_name edges name q a y to f h = (h.0, ends_member q a edges h.0 (subst (λ (l : List ℕ). Member l h.0) f h.1), h.2)

pub returns_to_name : (edges : List (ℕ × ℕ × Letter × ℕ)) (name : ℕ → Option ℕ) (q p : ℕ) (a : Letter) (y : ℕ) (to : List ℕ) → to ≡ back_ends q p a edges →
    (e : ℕ) × Member to e × (name e ≡ Some y) → ReturnsToName edges name q p a y
returns_to_name edges name q p a y to f h = (h.0, back_ends_member q p a edges h.0 (subst (λ (l : List ℕ). Member l h.0) f h.1), h.2)

-- a state at a place has the name
pub name_there : (name : ℕ → Option ℕ) (states : List ℕ) (i d y : ℕ) → i < length states → name (get_or states i d) ≡ Some y →
    (e : ℕ) × Member states e × (name e ≡ Some y)
name_there name states i d y l h = (get_or states i d, member_at states i d l, h)

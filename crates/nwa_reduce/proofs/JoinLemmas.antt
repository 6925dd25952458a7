-- States before calls, and the states in those calls that returns leave.
use Rattle.std.proofs.Common.{◌≡◌, ◌↔◌, ◌==◌, ◌∙◌, ◌<◌, ◌≤◌, ◌+◌, ℕ, Bool, true, false, not, List, [], ◌∷◌, ◌++◌, length, take, get_or, refl, sym, ap, subst, inl, inr, arith, eqb}
use Rattle.std.proofs.lemmas.Bool.{cases_lt, eqb-true}
use Rattle.std.proofs.lemmas.List.{take_more, take_all}
use Rattle.nwa_base.specs.declared.letters.Letter.{Letter}
use Rattle.nwa_base.specs.Members.{Member}
use Rattle.nwa_base.specs.Automata.{Automaton, IsAutomaton}
use Rattle.nwa_base.specs.Edges.{entering, backs_leaving}
use Rattle.nwa_base.proofs.MemberLemmas.{member_front, member_rest, member_split, filter_member}
use Rattle.nwa_reduce.specs.Ways.{IsWay}
use Rattle.nwa_reduce.specs.Ties.Searching.{IsSearched, AddsSteps}
use Rattle.nwa_reduce.specs.Ties.Levels.{Stays, Returns, AreJoins, JoinsCallers, JoinsExits, JoinsOf}
use Rattle.nwa_reduce.proofs.ListLemmas.{only_member}
use Rattle.nwa_reduce.proofs.StepLemmas.{edge_from}
use Rattle.nwa_reduce.proofs.TrimLemmas.{all_member, way_closed}
use Rattle.nwa_reduce.proofs.EachLemmas.{is_none, has_one, enters, leaves_back}

-- the steps of inside edges and of calls with their returns
pub steps_stay : (m : Automaton) (none insides backs : ℕ → List ℕ) → ((q : ℕ) → none q ≡ []) → AddsSteps (λ x. x.0) (λ x. x.2) m.insides none insides →
    AddsSteps (λ x. x.1) (λ x. x.3) m.backs insides backs → (q e : ℕ) → Member (backs q) e ↔ Stays m q e
steps_stay m none insides backs n i k q e = (
  λ h.
      elim ((k q e).0 h) [
        | inr f ↦ inr (f.0.0, f.0.2, subst (Member m.backs) (λ j. (f.0.0, f.2 j, f.0.2, f.3 j)) f.1)
        | inl o ↦ elim ((i q e).0 o) [ inr b ↦ inl ((edge_from m.insides q e).0 b) | inl z ↦ absurd (subst (λ (l : List ℕ). Member l e) (n q) z) ]
      ],
  λ h.
      elim h [
        | inl a ↦ (k q e).1 (inl ((i q e).1 (inr ((edge_from m.insides q e).1 a))))
        | inr b ↦ (k q e).1 (inr ((b.0, q, b.1, e), b.2, refl, refl))
      ],
)

not_true : (b : Bool) → not b ≡ true → b ≡ false
not_true true h = let f : false ≡ true = h in cc
not_true false h = refl

not_false : (b : Bool) → (b ≡ true → ⊥) → not b ≡ true
not_false true n = absurd (n refl)
not_false false n = refl

-- whether return edges leave a state
pub returns_of : (m : Automaton) (q : ℕ) (edges : List (ℕ × ℕ × Letter × ℕ)) (empty : Bool) → edges ≡ backs_leaving q m.backs → empty ≡ length edges == 0 →
    (not empty ≡ true) ↔ Returns m q
returns_of m q edges empty e f = (
  λ h.
      let x = has_one edges (sym f ∙ not_true empty h) in
      let k = filter_member (λ (u : ℕ × ℕ × Letter × ℕ). eqb u.0 q) m.backs x.0 (subst (λ (l : List (ℕ × ℕ × Letter × ℕ)). Member l x.0) e x.1) in
      let i : x.0.0 ≡ q = eqb-true x.0.0 q k.1 in
      record { before = x.0.1; letter = x.0.2; end = x.0.3; edge = subst (λ (z : ℕ). Member m.backs (z, x.0.1, x.0.2, x.0.3)) i k.0 },
  λ r. not_false empty (λ t. is_none edges (sym f ∙ t) (q, r.before, r.letter, r.end)
      (subst (λ (l : List (ℕ × ℕ × Letter × ℕ)). Member l (q, r.before, r.letter, r.end)) (sym e) (leaves_back q m.backs r.before r.letter r.end r.edge))),
)

-- ---- callers with one state
pub callers_none : (callers : List (ℕ × Letter × ℕ)) (q : ℕ) (old : List (ℕ × ℕ)) → JoinsCallers (take 0 callers) q old old
callers_none callers q old = record { keeps = λ x m. m; joins = λ e m. absurd m }

callers_on : (front : List (ℕ × Letter × ℕ)) (c : ℕ × Letter × ℕ) (q : ℕ) (old mid new : List (ℕ × ℕ)) → JoinsCallers front q old mid →
    new ≡ mid ++ (c.0, q) ∷ [] → JoinsCallers (front ++ c ∷ []) q old new
callers_on front c q old mid new h e = record {
  keeps = λ x m. subst (λ (l : List (ℕ × ℕ)). Member l x) (sym e) (member_front mid ((c.0, q) ∷ []) x (h.keeps x m));
  joins = λ x m.
      subst (λ (l : List (ℕ × ℕ)). Member l (x.0, q)) (sym e)
      (elim (member_split front (c ∷ []) x m) [
        | inl a ↦ member_front mid ((c.0, q) ∷ []) (x.0, q) (h.joins x a)
        | inr b ↦ member_rest mid ((c.0, q) ∷ []) (x.0, q) (inl (ap (λ (z : ℕ × Letter × ℕ). (z.0, q)) (only_member c x b)))
      ]);
}

pub callers_more : (callers : List (ℕ × Letter × ℕ)) (i : ℕ) (d : ℕ × Letter × ℕ) (q : ℕ) (old mid new : List (ℕ × ℕ)) → i < length callers →
    JoinsCallers (take i callers) q old mid → new ≡ mid ++ ((get_or callers i d).0, q) ∷ [] → JoinsCallers (take (i + 1) callers) q old new
callers_more callers i d q old mid new l h e =
    subst (λ (f : List (ℕ × Letter × ℕ)). JoinsCallers f q old new) (sym (take_more callers i d l))
    (callers_on (take i callers) (get_or callers i d) q old mid new h e)

pub callers_all : (callers : List (ℕ × Letter × ℕ)) (i : ℕ) (q : ℕ) (old new : List (ℕ × ℕ)) → length callers ≤ i →
    JoinsCallers (take i callers) q old new → JoinsCallers callers q old new
callers_all callers i q old new l h = subst (λ (f : List (ℕ × Letter × ℕ)). JoinsCallers f q old new) (take_all i callers l) h

-- ---- callers with each state that returns leave
pub exit_none : (m : Automaton) (callers : List (ℕ × Letter × ℕ)) (q : ℕ) (old : List (ℕ × ℕ)) → (Returns m q → ⊥) → JoinsExits m callers (q ∷ []) old old
exit_none m callers q old n = record {
  keeps = λ x h. h;
  joins = λ x h r. absurd (n (subst (Returns m) (sym (only_member q x h)) r));
}

pub exit_one : (m : Automaton) (callers : List (ℕ × Letter × ℕ)) (q : ℕ) (old new : List (ℕ × ℕ)) → JoinsCallers callers q old new →
    JoinsExits m callers (q ∷ []) old new
exit_one m callers q old new h = record {
  keeps = h.keeps;
  joins = λ x k r e m'. subst (λ (z : ℕ). Member {X = ℕ × ℕ} new (e.0, z)) (only_member q x k) (h.joins e m');
}

pub exits_none : (m : Automaton) (callers : List (ℕ × Letter × ℕ)) (inner : List ℕ) (old : List (ℕ × ℕ)) → JoinsExits m callers (take 0 inner) old old
exits_none m callers inner old = record { keeps = λ x h. h; joins = λ x h. absurd h }

exits_on : (m : Automaton) (callers : List (ℕ × Letter × ℕ)) (front : List ℕ) (q : ℕ) (old mid new : List (ℕ × ℕ)) → JoinsExits m callers front old mid →
    JoinsExits m callers (q ∷ []) mid new → JoinsExits m callers (front ++ q ∷ []) old new
exits_on m callers front q old mid new h g = record {
  keeps = λ x k. g.keeps x (h.keeps x k);
  joins = λ x k r e c.
      elim (member_split front (q ∷ []) x k) [
        | inl a ↦ g.keeps (e.0, x) (h.joins x a r e c)
        | inr b ↦ g.joins x b r e c
      ];
}

pub exits_more : (m : Automaton) (callers : List (ℕ × Letter × ℕ)) (inner : List ℕ) (i d : ℕ) (old mid new : List (ℕ × ℕ)) → i < length inner →
    JoinsExits m callers (take i inner) old mid → JoinsExits m callers (get_or inner i d ∷ []) mid new → JoinsExits m callers (take (i + 1) inner) old new
exits_more m callers inner i d old mid new l h g =
    subst (λ (f : List ℕ). JoinsExits m callers f old new) (sym (take_more inner i d l)) (exits_on m callers (take i inner) (get_or inner i d) old mid new h g)

pub exits_all : (m : Automaton) (callers : List (ℕ × Letter × ℕ)) (inner : List ℕ) (i : ℕ) (old new : List (ℕ × ℕ)) → length inner ≤ i →
    JoinsExits m callers (take i inner) old new → JoinsExits m callers inner old new
exits_all m callers inner i old new l h = subst (λ (f : List ℕ). JoinsExits m callers f old new) (take_all i inner l) h

-- ---- the callers of an entry, with the states in its calls
pub entry_none : (m : Automaton) (entry : ℕ) (callers : List (ℕ × Letter × ℕ)) (old : List (ℕ × ℕ)) → callers ≡ entering entry m.calls →
    length callers == 0 ≡ true → JoinsOf m entry old old
entry_none m entry callers old e f = record {
  keeps = λ x h. h;
  joins = λ p q c way k w r.
      absurd (is_none callers f (p, c, entry)
      (subst (λ (l : List (ℕ × Letter × ℕ)). Member l (p, c, entry)) (sym e) (enters entry m.calls p c k)));
}

pub entry_all : (m : Automaton) (entry : ℕ) (callers : List (ℕ × Letter × ℕ)) (next : ℕ → List ℕ) (roots found slice : List ℕ) (old new : List (ℕ × ℕ)) →
    callers ≡ entering entry m.calls → roots ≡ entry ∷ [] → slice ≡ found → IsSearched next roots found → ((q e : ℕ) → Member (next q) e ↔ Stays m q e) →
    JoinsExits m callers slice old new → JoinsOf m entry old new
entry_all m entry callers next roots found slice old new e b f s n h = record {
  keeps = h.keeps;
  joins = λ p q c way k w r.
      h.joins q
      (subst (λ (l : List ℕ). Member l q) (sym f)
      (way_closed (Stays m) found (λ x y i j. s.closed x y i ((n x y).1 j)) entry way q w
      (s.roots entry (subst (λ (l : List ℕ). Member l entry) (sym b) (inl refl))))) r (p, c, entry)
      (subst (λ (l : List (ℕ × Letter × ℕ)). Member l (p, c, entry)) (sym e) (enters entry m.calls p c k));
}

-- ---- all entries
-- the pairs of the first entries stand in the list
abbrev pub JoinedBelow : Automaton → ℕ → List (ℕ × ℕ) → Type 0
JoinedBelow m n joins =
    (p q k : ℕ) (c : Letter) (way : List ℕ) → k < n → Member m.calls (p, c, k) → IsWay (Stays m) k way q → Returns m q → Member {X = ℕ × ℕ} joins (p, q)

pub below_none : (m : Automaton) (joins : List (ℕ × ℕ)) → JoinedBelow m 0 joins
below_none m joins p q k c way l h w r = absurd (omega arith)

pub below_more : (m : Automaton) (n : ℕ) (old new : List (ℕ × ℕ)) → JoinedBelow m n old → JoinsOf m n old new → JoinedBelow m (n + 1) new
below_more m n old new h g p q k c way l f w r =
    elim (cases_lt k n) [
      | inl o ↦ g.keeps (p, q) (h p q k c way o f w r)
      | inr o ↦
          let e : k ≡ n = omega arith in
          g.joins p q c way (subst (λ (z : ℕ). Member m.calls (p, c, z)) e f) (subst (λ (z : ℕ). IsWay (Stays m) z way q) e w) r
    ]

pub below_all : (m : Automaton) (n : ℕ) (joins : List (ℕ × ℕ)) → IsAutomaton m → m.states ≤ n → JoinedBelow m n joins → AreJoins m joins
below_all m n joins a l h p q i r =
    let e = (all_member _ m.calls (p, i.letter, i.entry) a.calls i.call).to in
    h p q i.entry i.letter i.states (omega arith) i.call i.way r

pub absent : (b : Bool) → b ≡ false → b ≡ true → ⊥
absent true h e = let f : true ≡ false = h in cc
absent false h e = let f : false ≡ true = e in cc

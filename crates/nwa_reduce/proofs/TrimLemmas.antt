-- Names for the states that lie on ways from the start to final states.
use Rattle.std.proofs.Common.{◌≡◌, ◌≢◌, ◌∙◌, ◌⊎◌, ◌↔◌, ◌<◌, ◌≤◌, ℕ, List, [], ◌∷◌, Option, None, Some, length, refl, sym, subst, inl, inr, arith}
use Rattle.std.specs.List.{AllByRecursion}
use Rattle.nwa_base.specs.Members.{Member}
use Rattle.nwa_base.specs.Automata.{Automaton, IsAutomaton}
use Rattle.nwa_reduce.specs.Ways.{Leads, IsWay, IsReached, CanEnd, IsUseful}
use Rattle.nwa_reduce.specs.Images.{IsLike, IsSafe}
use Rattle.nwa_reduce.specs.Ties.Searching.{IsSearched}
use Rattle.nwa_reduce.specs.Ties.Naming.{named, IsTrimming, IsOrder, IsIndex}
use Rattle.nwa_reduce.proofs.ListLemmas.{get_within, member_or, few_below, fewer_below, same_some, only_member}
use Rattle.nwa_reduce.proofs.NameLemmas.{name_of, no_name}
use Rattle.nwa_reduce.proofs.WayLemmas.{ends_here, ends_from}

pub way_closed : (step : ℕ → ℕ → Type 0) (found : List ℕ) → ((q e : ℕ) → Member found q → step q e → Member found e) → (r : ℕ) (way : List ℕ) (q : ℕ) →
    IsWay step r way q → Member found r → Member found q
way_closed step found c r [] q h m = subst (Member found) h m
way_closed step found c r (s ∷ way) q h m = way_closed step found c s way q h.1 (c r s m h.0)

pub way_map : (step step' : ℕ → ℕ → Type 0) → ((q e : ℕ) → step q e → step' q e) → (r : ℕ) (way : List ℕ) (q : ℕ) → IsWay step r way q → IsWay step' r way q
way_map step step' f r [] q h = h
way_map step step' f r (s ∷ way) q h = (f r s h.0, way_map step step' f s way q h.1)

-- a way that goes back along edges
way_back : (m : Automaton) (step : ℕ → ℕ → Type 0) → ((q e : ℕ) → step q e → Leads m e q) → (r : ℕ) (way : List ℕ) (q : ℕ) → IsWay step r way q → CanEnd m r → CanEnd m q
way_back m step f r [] q h g = subst (CanEnd m) h g
way_back m step f r (s ∷ way) q h g = way_back m step f s way q h.1 (ends_from m s r (f r s h.0) g)

pub all_member : {X : Type 0} (P : X → Type 0) (xs : List X) (x : X) → AllByRecursion P xs → Member xs x → P x
all_member P [] x h m = absurd m
all_member P (y ∷ xs) x h (inl e) = subst P e h.0
all_member P (y ∷ xs) x h (inr m) = all_member P xs x h.1 m

pub leads_within : (m : Automaton) (q e : ℕ) → IsAutomaton m → Leads m q e → e < m.states
leads_within m q e v (inl h) = (all_member _ m.insides (q, h.0, e) v.insides h.1).to
leads_within m q e v (inr (inl h)) = (all_member _ m.calls (q, h.0, e) v.calls h.1).to
leads_within m q e v (inr (inr h)) = (all_member _ m.backs (q, h.0, h.1, e) v.backs h.2).to

way_within : (m : Automaton) → IsAutomaton m → (r : ℕ) (way : List ℕ) (q : ℕ) → IsWay (Leads m) r way q → r < m.states → q < m.states
way_within m v r [] q h l = subst (λ (z : ℕ). z < m.states) h l
way_within m v r (s ∷ way) q h l = way_within m v s way q h.1 (leads_within m r s v h.0)

pub reached_within : (m : Automaton) (q : ℕ) → IsAutomaton m → IsReached m q → q < m.states
reached_within m q v h = way_within m v m.start h.states q h.way v.start

ends_found : (m : Automaton) (prev : ℕ → List ℕ) (ending : List ℕ) → IsSearched prev m.finals ending → ((q e : ℕ) → Member (prev e) q ↔ Leads m q e) →
    (way : List ℕ) (q f : ℕ) → IsWay (Leads m) q way f → Member m.finals f → Member ending q
ends_found m prev ending s p [] q f h g = s.roots q (subst (Member m.finals) (sym h) g)
ends_found m prev ending s p (r ∷ way) q f h g = s.closed r q (ends_found m prev ending s p way r f h.1 g) ((p q r).1 h.0)

pub reached_by : (m : Automaton) (next : ℕ → List ℕ) (begin reached : List ℕ) → begin ≡ m.start ∷ [] → IsSearched next begin reached →
    ((q e : ℕ) → Member (next q) e ↔ Leads m q e) → (q : ℕ) → Member reached q ↔ IsReached m q
reached_by m next begin reached b s n q = (
  λ h.
      let r = s.reached q h in
      let i = only_member m.start r.0 (subst (λ (l : List ℕ). Member l r.0) b r.2) in
      record { states = r.1; way = subst (λ (z : ℕ). IsWay (Leads m) z r.1 q) (sym i) (way_map (λ x e. Member (next x) e) (Leads m) (λ x e. (n x e).0) r.0 r.1 q r.3) },
  λ h.
      way_closed (Leads m) reached (λ x e k l. s.closed x e k ((n x e).1 l)) m.start h.states q h.way
      (s.roots m.start (subst (λ (l : List ℕ). Member l m.start) (sym b) (inl refl))),
)

pub ends_by : (m : Automaton) (prev : ℕ → List ℕ) (finals ending : List ℕ) → finals ≡ m.finals → IsSearched prev finals ending →
    ((q e : ℕ) → Member (prev e) q ↔ Leads m q e) → (q : ℕ) → Member ending q ↔ CanEnd m q
ends_by m prev finals ending b s p q =
    let t = subst (λ (l : List ℕ). IsSearched prev l ending) b s in (
      λ h. let r = t.reached q h in way_back m (λ x e. Member (prev x) e) (λ x e. (p e x).0) r.0 r.1 q r.3 (ends_here m r.0 r.2),
      λ h. ends_found m prev ending t p h.states q h.end h.way h.final,
    )

-- the states are those that are reached, and those from which a final state is
pub record IsFound (m : Automaton) (here there : List ℕ) : Type 0 where
  pub reached : (q : ℕ) → Member here q ↔ IsReached m q
  pub ends : (q : ℕ) → Member there q ↔ CanEnd m q

pub kept_within : (m : Automaton) (reached ending kept : List ℕ) → IsAutomaton m → IsFound m reached ending → IsOrder m.start reached ending kept →
    (q : ℕ) → Member kept q → q < m.states
kept_within m reached ending kept v f o q h =
    elim ((o.has q).0 h) [ inl e ↦ subst (λ (z : ℕ). z < m.states) (sym e) v.start | inr k ↦ reached_within m q v ((f.reached q).0 k.0) ]

-- no more are kept than there are
pub kept_few : (m : Automaton) (reached ending kept : List ℕ) → IsAutomaton m → IsFound m reached ending → IsOrder m.start reached ending kept →
    length kept ≤ m.states
kept_few m reached ending kept v f o = few_below m.states kept o.distinct (kept_within m reached ending kept v f o)

pub like_itself : {X : Type 0} (m : Automaton) (name : ℕ → X) (q : ℕ) → IsLike m name q q
like_itself m name q = record {
  finals = λ h. h;
  insides = λ a e h. (e, h, refl);
  calls = λ a e h. (e, h, refl);
  backs = λ s a e h. (e, h, refl);
  before = λ s a e h. (e, h, refl);
}

some_name : (o : Option ℕ) → (o ≡ None → ⊥) → (x : ℕ) × (o ≡ Some x)
some_name None h = absurd (h refl)
some_name (Some x) h = (x, refl)

-- the start has a name, and so has each useful state
has_place : (kept : List ℕ) (names : List (Option ℕ)) (q : ℕ) → IsIndex kept names → q < length names → Member kept q → (x : ℕ) × (named names q ≡ Some x)
has_place kept names q i l h = some_name (named names q) (λ e. i.unnamed q (no_name names q l e) h)

named_safe : (m : Automaton) (reached ending kept : List ℕ) (names : List (Option ℕ)) → IsAutomaton m → IsFound m reached ending → IsOrder m.start reached ending kept →
    IsIndex kept names → length names ≡ m.states → IsSafe m (named names)
named_safe m reached ending kept names v f o i l = record {
  useless = λ q e u.
      let w = reached_within m q v u.reached in
      i.unnamed q (no_name names q (omega arith) e) ((o.has q).1 (inr ((f.reached q).1 u.reached, (f.ends q).1 u.ends)));
  alike = λ p q x a b.
      let j : Some p ≡ Some q = sym (i.named p x (name_of names p x a)) ∙ i.named q x (name_of names q x b) in
      subst (λ (z : ℕ). IsLike m (named names) p z) (same_some p q j) (like_itself m (named names) p);
}

useful_kept : (m : Automaton) (reached ending kept : List ℕ) → IsFound m reached ending → IsOrder m.start reached ending kept → (q : ℕ) → q ≢ m.start →
    Member kept q → IsUseful m q
useful_kept m reached ending kept f o q n h =
    elim ((o.has q).0 h) [ inl e ↦ absurd (n e) | inr k ↦ record { reached = (f.reached q).0 k.0; ends = (f.ends q).0 k.1 } ]

stable : {P : Type 0} → P ⊎ (P → ⊥) → ((P → ⊥) → ⊥) → P
stable (inl p) h = p
stable (inr n) h = absurd (h n)

-- the places of the kept states name what is to be kept
pub trimmed : (m : Automaton) (reached ending kept : List ℕ) (names : List (Option ℕ)) → IsAutomaton m → IsFound m reached ending → IsOrder m.start reached ending kept →
    IsIndex kept names → length names ≡ m.states → IsTrimming m names (length kept)
trimmed m reached ending kept names v f o i l = record {
  naming = record {
    few = kept_few m reached ending kept v f o;
    within = λ q x e. get_within kept x q (i.named q x (name_of names q x e));
    start = has_place kept names m.start i (let s = v.start in omega arith) ((o.has m.start).1 (inl refl));
    safe = named_safe m reached ending kept names v f o i l;
  };
  whole = λ e q k n. useful_kept m reached ending kept f o q n (stable (member_or kept q) (λ a. let w = fewer_below m.states q kept o.distinct (kept_within m reached ending kept v f o) k a in omega arith));
}

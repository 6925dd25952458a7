-- Names for states with one signature.
use Rattle.std.proofs.Common.{◌≡◌, ◌∙◌, ◌↔◌, ◌<◌, ◌≤◌, ℕ, List, None, Some, length, slice_get, sym, ap, subst, inl, inr, arith}
use Rattle.nwa_base.specs.Members.{Member}
use Rattle.nwa_base.specs.Automata.{Automaton, IsAutomaton}
use Rattle.nwa_reduce.specs.Lean.{AreTwins}
use Rattle.nwa_reduce.specs.Images.{IsLike}
use Rattle.nwa_reduce.specs.Ties.Naming.{AreDistinct, name_at, named, IsMerging}
use Rattle.nwa_reduce.specs.declared.marking.Mark.{Mark}
use Rattle.nwa_reduce.specs.declared.marking.Mark.TheVariants as marks
use Rattle.nwa_reduce.specs.Ties.Marks.{leader_in, HasMark}
use Rattle.nwa_reduce.specs.Ties.Signatures.{IsSignature}
use Rattle.nwa_reduce.specs.Ties.Classes.{Classed, IsClassed, WasSigned}
use Rattle.nwa_reduce.proofs.ListLemmas.{get_within, get_there, one_place, same_some}
use Rattle.nwa_reduce.proofs.NameLemmas.{name_of}
use Rattle.nwa_reduce.proofs.OrderLemmas.{ascending_same}
use Rattle.nwa_reduce.proofs.TrimLemmas.{reached_within}
use Rattle.nwa_reduce.proofs.ClassLemmas.{like_map, like_on, leader_some, leader_none, either}

-- each of the first states has a name
has_class : (s : Classed) (q : ℕ) → IsClassed s → q < length s.leaders → (x : ℕ) × (named s.names q ≡ Some x)
has_class s q v l =
    let e = v.long in
    let g = get_there s.names q (omega arith) in
    let r = v.named q g.0 g.1 in
    (r.0, ap name_at g.1 ∙ r.2)

name_leads : (s : Classed) (e : ℕ) → IsClassed s → named s.names e ≡ named s.names (leader_in s.leaders e)
name_leads s e v =
    elim (either (slice_get s.leaders e)) [
      | inl n ↦ ap (named s.names) (sym (leader_none s.leaders e n))
      | inr h ↦
          let w = get_within s.leaders e h.0 h.1 in
          let l = v.long in
          let g = get_there s.names e (omega arith) in
          let r = v.named e g.0 g.1 in
          let i : r.1 ≡ h.0 = same_some r.1 h.0 (sym r.4 ∙ h.1) in
          let k = v.head r.0 r.1 r.3 in
          ap name_at g.1 ∙ r.2 ∙ sym (ap name_at k.1) ∙ ap (named s.names) (i ∙ sym (leader_some s.leaders e h.0 h.1))
    ]

-- states of one leader have one name
one_leader : (s : Classed) → IsClassed s → (e f : ℕ) → leader_in s.leaders e ≡ leader_in s.leaders f → named s.names e ≡ named s.names f
one_leader s v e f h = name_leads s e v ∙ ap (named s.names) h ∙ sym (name_leads s f v)

-- the head of the class whose number a state has as its name
head_of : (s : Classed) (q x : ℕ) → IsClassed s → named s.names q ≡ Some x → (h : ℕ) × (slice_get s.heads x ≡ Some h) × (slice_get s.leaders q ≡ Some h)
head_of s q x v e =
    let r = v.named q (Some x) (name_of s.names q x e) in
    let i : x ≡ r.0 = same_some x r.0 r.2 in
    (r.1, subst (λ (c : ℕ). slice_get s.heads c ≡ Some r.1) (sym i) r.3, r.4)

one_class : (s : Classed) (p q x : ℕ) → IsClassed s → named s.names p ≡ Some x → named s.names q ≡ Some x → IsLike s.nwa (named s.names) p q
one_class s p q x v a b =
    let f = head_of s p x v a in
    let g = head_of s q x v b in
    let i : f.0 ≡ g.0 = same_some f.0 g.0 (sym f.1 ∙ g.1) in
    like_map s.nwa (leader_in s.leaders) (named s.names) p q (one_leader s v)
    (like_on s.nwa (leader_in s.leaders) p f.0 q (v.alike p f.0 f.2).0
    (subst (λ (h : ℕ). IsLike s.nwa (leader_in s.leaders) h q) (sym i) (v.alike q g.0 g.2).1))

-- twins have the same marks, where each state leads itself
twin_marks : (m : Automaton) (f g : ℕ → ℕ) (p q : ℕ) → ((e : ℕ) → f e ≡ e) → ((e : ℕ) → g e ≡ e) → AreTwins m p q → (x : Mark) → HasMark m f p x → HasMark m g q x
twin_marks m f g p q i j t marks.Final h = t.finals.0 h
twin_marks m f g p q i j t (marks.Inside a r) h = (h.0, (t.insides a h.0).0 h.1, j h.0 ∙ sym (i h.0) ∙ h.2)
twin_marks m f g p q i j t (marks.Call a r) h = (h.0, (t.calls a h.0).0 h.1, j h.0 ∙ sym (i h.0) ∙ h.2)
twin_marks m f g p q i j t (marks.Back s a r) h = (h.0, (t.backs s a h.0).0 h.1, j h.0 ∙ sym (i h.0) ∙ h.2)
twin_marks m f g p q i j t (marks.Before s a r) h = (h.0, (t.before s a h.0).0 h.1, j h.0 ∙ sym (i h.0) ∙ h.2)

turned : (P Q : Type 0) → P ↔ Q → Q ↔ P
turned P Q h = (h.1, h.0)

twins_turned : (m : Automaton) (p q : ℕ) → AreTwins m p q → AreTwins m q p
twins_turned m p q t = record {
  finals = turned _ _ t.finals;
  insides = λ a e. turned _ _ (t.insides a e);
  calls = λ a e. turned _ _ (t.calls a e);
  backs = λ s a e. turned _ _ (t.backs s a e);
  before = λ s a e. turned _ _ (t.before s a e);
}

-- the numbers of one signature are those of the other
numbers_in : (m : Automaton) (f g : ℕ → ℕ) (p q : ℕ) (table : List Mark) (xs ys : List ℕ) → AreDistinct table → IsSignature m f p table xs →
    IsSignature m g q table ys → ((x : Mark) → HasMark m f p x → HasMark m g q x) → (i : ℕ) → Member xs i → Member ys i
numbers_in m f g p q table xs ys d s t h i k =
    let x = s.sound i k in
    let y = t.complete x.0 (h x.0 x.1) in
    subst (Member ys) (one_place table y.0 i x.0 d y.2 x.2) y.1

-- the leaders are the states themselves
alone : (s : Classed) → IsClassed s → length s.leaders ≤ length s.heads → (e : ℕ) → leader_in s.leaders e ≡ e
alone s v l e =
    elim (either (slice_get s.leaders e)) [
      | inl n ↦ leader_none s.leaders e n
      | inr h ↦
          let w = get_within s.leaders e h.0 h.1 in
          let g = get_there s.heads e (omega arith) in
          let i : g.0 ≡ e = v.whole l e g.0 g.1 in
          let k = (v.head e g.0 g.1).0 in
          leader_some s.leaders e e (subst (λ (z : ℕ). slice_get s.leaders z ≡ Some z) i k)
    ]

-- the signature of a state that is the head of its own class
own_signature : (s : Classed) (p : ℕ) → IsClassed s → length s.leaders ≤ length s.heads → p < length s.heads →
    (numbers : List ℕ) × (slice_get s.signatures p ≡ Some numbers) × WasSigned s p numbers
own_signature s p v l w =
    let g = get_there s.heads p w in
    let e = v.signed_long in
    let k = get_there s.signatures p (omega arith) in
    (k.0, k.1, subst (λ (h : ℕ). WasSigned s h k.0) (v.whole l p g.0 g.1) (v.signed p g.0 k.0 g.1 k.1))

no_twins : (s : Classed) → IsClassed s → length s.leaders ≤ length s.heads → (p q : ℕ) → p < length s.heads → q < length s.heads → AreTwins s.nwa p q → p ≡ q
no_twins s v l p q a b t =
    let f = own_signature s p v l a in
    let g = own_signature s q v l b in
    let i = λ (e : ℕ). sym (alone s v l (f.2.lead e)) ∙ f.2.earlier e ∙ alone s v l e in
    let j = λ (e : ℕ). sym (alone s v l (g.2.lead e)) ∙ g.2.earlier e ∙ alone s v l e in
    let h = twin_marks s.nwa f.2.lead g.2.lead p q i j t in
    let k = twin_marks s.nwa g.2.lead f.2.lead q p j i (twins_turned s.nwa p q t) in
    let e =
    ascending_same f.0 g.0 f.2.signature.ascends g.2.signature.ascends
    (numbers_in s.nwa f.2.lead g.2.lead p q s.table f.0 g.0 v.table f.2.signature g.2.signature h)
    (numbers_in s.nwa g.2.lead f.2.lead q p s.table g.0 f.0 v.table g.2.signature f.2.signature k) in
    one_place s.signatures p q g.0 v.signatures (subst (λ (z : List ℕ). slice_get s.signatures p ≡ Some z) e f.1) g.1

classes_merge : (s : Classed) → IsClassed s → IsAutomaton s.nwa → length s.leaders ≡ s.nwa.states → IsMerging s.nwa s.names (length s.heads)
classes_merge s v a l = record {
  naming = record {
    few = let f = v.few in omega arith;
    within = λ q x e. let h = head_of s q x v e in get_within s.heads x h.0 h.1;
    start = has_class s s.nwa.start v (let b = a.start in omega arith);
    safe = record {
      useless = λ q e u.
          let w = reached_within s.nwa q a u.reached in
          let x = has_class s q v (omega arith) in
          let f : None ≡ Some x.0 = sym e ∙ x.1 in cc;
      alike = λ p q x. one_class s p q x v;
    };
  };
  total = λ q w. has_class s q v (omega arith);
  onto = λ x w.
      let g = get_there s.heads x w in
      let k = v.head x g.0 g.1 in
      let u = get_within s.leaders g.0 g.0 k.0 in
      (g.0, omega arith, ap name_at k.1);
  whole = λ e p q b c. no_twins s v (omega arith) p q (omega arith) (omega arith);
}

-- the names of the classes
pub merges : (s : Classed) (m : Automaton) → IsClassed s → s.nwa ≡ m → IsAutomaton m → length s.leaders ≡ m.states → IsMerging m s.names (length s.heads)
merges s m v e a l =
    subst (λ (z : Automaton). IsMerging z s.names (length s.heads)) e
    (classes_merge s v (subst IsAutomaton (sym e) a) (l ∙ ap (λ (z : Automaton). z.states) (sym e)))

-- Classes of states with one signature.
use Rattle.std.proofs.Common.{◌≡◌, ◌≢◌, ◌∙◌, ◌⊎◌, ◌≤◌, ◌+◌, ℕ, zero, suc, Bool, true, false, List, [], ◌∷◌, ◌++◌, Option, None, Some, length, slice_get, eqb, eq-eqb, refl, sym, ap, subst, inl, inr, arith, length-append}
use Rattle.std.specs.Prelude.{unwrap_or}
use Rattle.std.proofs.lemmas.Bool.{eqb-true, false≢true}
use Rattle.nwa_base.specs.declared.letters.Letter.{Letter}
use Rattle.nwa_base.specs.Members.{Member}
use Rattle.nwa_base.specs.Automata.{Automaton}
use Rattle.nwa_reduce.specs.Images.{IsLike}
use Rattle.nwa_reduce.specs.Ties.Naming.{AreDistinct}
use Rattle.nwa_reduce.specs.declared.marking.Mark.{Mark}
use Rattle.nwa_reduce.specs.declared.marking.Mark.TheVariants as marks
use Rattle.nwa_reduce.specs.Ties.Marks.{leader_in, HasMark, backs_before}
use Rattle.nwa_reduce.specs.Ties.Signatures.{IsSignature}
use Rattle.nwa_reduce.specs.Ties.Classes.{Classed, IsClassed, WasSigned}
use Rattle.nwa_reduce.proofs.ListLemmas.{get_front, get_last, get_push, get_within, same_some, distinct_push}
use Rattle.nwa_reduce.proofs.TrimLemmas.{like_itself}

-- a coarser naming, and what is alike under it
pub like_map : {X Y : Type 0} (m : Automaton) (name : ℕ → X) (name' : ℕ → Y) (p q : ℕ) → ((e f : ℕ) → name e ≡ name f → name' e ≡ name' f) →
    IsLike m name p q → IsLike m name' p q
like_map m name name' p q c h = record {
  finals = h.finals;
  insides = λ a e k. let r = h.insides a e k in (r.0, r.1, c r.0 e r.2);
  calls = λ a e k. let r = h.calls a e k in (r.0, r.1, c r.0 e r.2);
  backs = λ s a e k. let r = h.backs s a e k in (r.0, r.1, c r.0 e r.2);
  before = λ s a e k. let r = h.before s a e k in (r.0, r.1, c r.0 e r.2);
}

pub like_on : {X : Type 0} (m : Automaton) (name : ℕ → X) (p q r : ℕ) → IsLike m name p q → IsLike m name q r → IsLike m name p r
like_on m name p q r g h = record {
  finals = λ k. h.finals (g.finals k);
  insides = λ a e k. let i = g.insides a e k in let j = h.insides a i.0 i.1 in (j.0, j.1, j.2 ∙ i.2);
  calls = λ a e k. let i = g.calls a e k in let j = h.calls a i.0 i.1 in (j.0, j.1, j.2 ∙ i.2);
  backs = λ s a e k. let i = g.backs s a e k in let j = h.backs s a i.0 i.1 in (j.0, j.1, j.2 ∙ i.2);
  before = λ s a e k. let i = g.before s a e k in let j = h.before s a i.0 i.1 in (j.0, j.1, j.2 ∙ i.2);
}

-- ends with one leader earlier have one leader now
same_leader : (lead f g : ℕ → ℕ) (e d : ℕ) → ((n : ℕ) → lead (f n) ≡ lead n) → ((n : ℕ) → lead (g n) ≡ lead n) → g d ≡ f e → lead d ≡ lead e
same_leader lead f g e d i j h = sym (j d) ∙ ap lead h ∙ i e

-- states with the same marks are alike
pub like_by_marks : (m : Automaton) (lead f g : ℕ → ℕ) (p q : ℕ) → ((n : ℕ) → lead (f n) ≡ lead n) → ((n : ℕ) → lead (g n) ≡ lead n) →
    ((x : Mark) → HasMark m f p x → HasMark m g q x) → IsLike m lead p q
like_by_marks m lead f g p q i j h = record {
  finals = h marks.Final;
  insides = λ a e k. let r = h (marks.Inside a (f e)) (e, k, refl) in (r.0, r.1, same_leader lead f g e r.0 i j r.2);
  calls = λ a e k. let r = h (marks.Call a (f e)) (e, k, refl) in (r.0, r.1, same_leader lead f g e r.0 i j r.2);
  backs = λ s a e k. let r = h (marks.Back s a (f e)) (e, k, refl) in (r.0, r.1, same_leader lead f g e r.0 i j r.2);
  before = λ s a e k. let r = h (marks.Before s a (f e)) (e, k, refl) in (r.0, r.1, same_leader lead f g e r.0 i j r.2);
}

-- one signature, the same marks
pub marks_by_signature : (m : Automaton) (f g : ℕ → ℕ) (p q : ℕ) (table : List Mark) (numbers : List ℕ) → IsSignature m f p table numbers →
    IsSignature m g q table numbers → (x : Mark) → HasMark m f p x → HasMark m g q x
marks_by_signature m f g p q table numbers s t x h =
    let i = s.complete x h in
    let y = t.sound i.0 i.1 in
    subst (HasMark m g q) (same_some y.0 x (sym y.2 ∙ i.2)) y.1

pub signature_stays : (m : Automaton) (lead : ℕ → ℕ) (q : ℕ) (old new more : List Mark) (numbers : List ℕ) → new ≡ old ++ more →
    IsSignature m lead q old numbers → IsSignature m lead q new numbers
signature_stays m lead q old new more numbers e s = record {
  ascends = s.ascends;
  sound = λ i h. let r = s.sound i h in (r.0, r.1, subst (λ (l : List Mark). slice_get l i ≡ Some r.0) (sym e) (get_front old more i r.0 r.2));
  complete = λ x h. let r = s.complete x h in (r.0, r.1, subst (λ (l : List Mark). slice_get l r.0 ≡ Some x) (sym e) (get_front old more r.0 x r.2));
}

-- leaders, with one more
past_none : {X : Type 0} (xs : List X) (i : ℕ) → length xs ≤ i → slice_get xs i ≡ None
past_none [] i l = refl
past_none (x ∷ xs) zero l = absurd (omega arith)
past_none (x ∷ xs) (suc i) l = past_none xs i (omega arith)

get_other : {X : Type 0} (xs : List X) (x : X) (i : ℕ) → i ≢ length xs → slice_get (xs ++ x ∷ []) i ≡ slice_get xs i
get_other [] x zero n = absurd (n refl)
get_other [] x (suc i) n = refl
get_other (y ∷ xs) x zero n = refl
get_other (y ∷ xs) x (suc i) n = get_other xs x i (λ e. n (ap suc e))

leader_other : (leaders : List ℕ) (h e : ℕ) → e ≢ length leaders → leader_in (leaders ++ h ∷ []) e ≡ leader_in leaders e
leader_other leaders h e n = ap (λ (o : Option ℕ). unwrap_or o e) (get_other leaders h e n)

pub leader_itself : (leaders : List ℕ) → leader_in leaders (length leaders) ≡ length leaders
leader_itself leaders = ap (λ (o : Option ℕ). unwrap_or o (length leaders)) (past_none leaders (length leaders) (omega arith))

pub leader_some : (leaders : List ℕ) (e h : ℕ) → slice_get leaders e ≡ Some h → leader_in leaders e ≡ h
leader_some leaders e h g = ap (λ (o : Option ℕ). unwrap_or o e) g

pub leader_none : (leaders : List ℕ) (e : ℕ) → slice_get leaders e ≡ None → leader_in leaders e ≡ e
leader_none leaders e g = ap (λ (o : Option ℕ). unwrap_or o e) g

pub either : (o : Option ℕ) → (o ≡ None) ⊎ ((h : ℕ) × (o ≡ Some h))
either None = inl refl
either (Some h) = inr (h, refl)

-- each leader leads itself
pub leads_itself : (leaders : List ℕ) → ((p h : ℕ) → slice_get leaders p ≡ Some h → slice_get leaders h ≡ Some h) → (e : ℕ) →
    leader_in leaders (leader_in leaders e) ≡ leader_in leaders e
leads_itself leaders s e =
    elim (either (slice_get leaders e)) [
      | inl n ↦ ap (leader_in leaders) (leader_none leaders e n)
      | inr r ↦
          let i = leader_some leaders e r.0 r.1 in
          ap (leader_in leaders) i ∙ leader_some leaders r.0 r.0 (s e r.0 r.1) ∙ sym i
    ]

-- nothing but the next state has it as its leader
next_alone : (leaders : List ℕ) → ((p h : ℕ) → slice_get leaders p ≡ Some h → slice_get leaders h ≡ Some h) → (e : ℕ) →
    leader_in leaders e ≡ length leaders → e ≡ length leaders
next_alone leaders s e h =
    elim (either (slice_get leaders e)) [
      | inl n ↦ sym (leader_none leaders e n) ∙ h
      | inr r ↦
          let w = get_within leaders r.0 r.0 (s e r.0 r.1) in
          let i = leader_some leaders e r.0 r.1 in
          absurd (omega arith)
    ]

same_case : (a b : ℕ) (t : Bool) → eqb a b ≡ t → (a ≡ b) ⊎ (a ≢ b)
same_case a b true h = inl (eqb-true a b h)
same_case a b false h = inr (λ e. false≢true (sym h ∙ eq-eqb a b e))

same_or : (a b : ℕ) → (a ≡ b) ⊎ (a ≢ b)
same_or a b = same_case a b (eqb a b) refl

-- with one leader more, states that had one leader have one leader
pub coarser : (leaders : List ℕ) (h : ℕ) → ((p k : ℕ) → slice_get leaders p ≡ Some k → slice_get leaders k ≡ Some k) → (e f : ℕ) →
    leader_in leaders e ≡ leader_in leaders f → leader_in (leaders ++ h ∷ []) e ≡ leader_in (leaders ++ h ∷ []) f
coarser leaders h s e f i =
    let lead = leader_in (leaders ++ h ∷ []) in
    elim (same_or e (length leaders)) [
      | inl a ↦
          let g : f ≡ length leaders = next_alone leaders s f (sym i ∙ ap (leader_in leaders) a ∙ leader_itself leaders) in
          ap lead (a ∙ sym g)
      | inr a ↦
          elim (same_or f (length leaders)) [
            | inl b ↦ absurd (a (next_alone leaders s e (i ∙ ap (leader_in leaders) b ∙ leader_itself leaders)))
            | inr b ↦ leader_other leaders h e a ∙ i ∙ sym (leader_other leaders h f b)
          ]
    ]

-- what stays when the next state gets its leader
pub alike_stays : (m : Automaton) (leaders : List ℕ) (h p q : ℕ) → ((p k : ℕ) → slice_get leaders p ≡ Some k → slice_get leaders k ≡ Some k) →
    IsLike m (leader_in leaders) p q → IsLike m (leader_in (leaders ++ h ∷ [])) p q
alike_stays m leaders h p q s i = like_map m (leader_in leaders) (leader_in (leaders ++ h ∷ [])) p q (coarser leaders h s) i

pub settled_stays : (leaders : List ℕ) (h : ℕ) → ((p k : ℕ) → slice_get leaders p ≡ Some k → slice_get leaders k ≡ Some k) →
    slice_get (leaders ++ h ∷ []) h ≡ Some h → (p k : ℕ) → slice_get (leaders ++ h ∷ []) p ≡ Some k → slice_get (leaders ++ h ∷ []) k ≡ Some k
settled_stays leaders h s t p k g =
    elim (get_push leaders h p k g) [
      | inl o ↦ get_front leaders (h ∷ []) k k (s p k o)
      | inr n ↦ subst (λ (z : ℕ). slice_get (leaders ++ h ∷ []) z ≡ Some z) n.1 t
    ]

stayed : (s : Classed) (table more : List Mark) (q h : ℕ) (numbers : List ℕ) (t : Classed) → IsClassed s → WasSigned s q numbers → t.nwa ≡ s.nwa →
    t.table ≡ s.table ++ more → t.leaders ≡ s.leaders ++ h ∷ [] → WasSigned t q numbers
stayed s table more q h numbers t v w a b l = record {
  lead = w.lead;
  earlier = λ e. subst (λ (x : List ℕ). leader_in x (w.lead e) ≡ leader_in x e) (sym l) (coarser s.leaders h v.settled (w.lead e) e (w.earlier e));
  signature =
      subst (λ (m : Automaton). IsSignature m w.lead q t.table numbers) (sym a)
      (signature_stays s.nwa w.lead q s.table t.table more numbers b w.signature);
}

both_alike : (s t : Classed) (h : ℕ) (p q : ℕ) → IsClassed s → t.nwa ≡ s.nwa → t.leaders ≡ s.leaders ++ h ∷ [] →
    IsLike s.nwa (leader_in s.leaders) p q × IsLike s.nwa (leader_in s.leaders) q p →
    IsLike t.nwa (leader_in t.leaders) p q × IsLike t.nwa (leader_in t.leaders) q p
both_alike s t h p q v a l k =
    subst (λ (m : Automaton). IsLike m (leader_in t.leaders) p q × IsLike m (leader_in t.leaders) q p) (sym a)
    (subst (λ (x : List ℕ). IsLike s.nwa (leader_in x) p q × IsLike s.nwa (leader_in x) q p) (sym l)
    (alike_stays s.nwa s.leaders h p q v.settled k.0, alike_stays s.nwa s.leaders h q p v.settled k.1))

in_list : {X : Type 0} (old new : List X) (x : X) (i : ℕ) (y : X) → new ≡ old ++ x ∷ [] → slice_get old i ≡ Some y → slice_get new i ≡ Some y
in_list {X} old new x i y e h = subst (λ (l : List X). slice_get l i ≡ Some y) (sym e) (get_front old (x ∷ []) i y h)

at_last : {X : Type 0} (old new : List X) (x : X) (n : ℕ) → new ≡ old ++ x ∷ [] → length old ≡ n → slice_get new n ≡ Some x
at_last {X} old new x n e l = subst (λ (z : List X). slice_get z n ≡ Some x) (sym e) (subst (λ (k : ℕ). slice_get (old ++ x ∷ []) k ≡ Some x) l (get_last old x))

from_list : {X : Type 0} (old new : List X) (x : X) (i : ℕ) (y : X) → new ≡ old ++ x ∷ [] → slice_get new i ≡ Some y →
    (slice_get old i ≡ Some y) ⊎ ((i ≡ length old) × (x ≡ y))
from_list {X} old new x i y e h = get_push old x i y (subst (λ (l : List X). slice_get l i ≡ Some y) e h)

pub one_more : {X : Type 0} (old new : List X) (x : X) → new ≡ old ++ x ∷ [] → length new ≡ length old + 1
one_more old new x e = let f = ap length e in omega (arith, length-append old (x ∷ []))

-- the next state comes into the class c, whose head is h
pub joins : (s t : Classed) (more : List Mark) (numbers : List ℕ) (c h n : ℕ) → IsClassed s → length s.leaders ≡ n → t.nwa ≡ s.nwa → t.returns ≡ s.returns →
    t.table ≡ s.table ++ more → AreDistinct t.table → IsSignature s.nwa (leader_in s.leaders) n t.table numbers → t.signatures ≡ s.signatures →
    slice_get s.signatures c ≡ Some numbers → t.heads ≡ s.heads → slice_get s.heads c ≡ Some h → t.leaders ≡ s.leaders ++ h ∷ [] →
    t.names ≡ s.names ++ Some c ∷ [] → IsClassed t
joins s t more numbers c h n v l a r b d g i j k w x y = record {
  returns = λ p. ap (λ (f : ℕ → List (ℕ × ℕ × Letter × ℕ)). f p) r ∙ v.returns p ∙ ap (λ (m : Automaton). backs_before p m.backs) (sym a);
  table = d;
  signatures = subst AreDistinct (sym i) v.signatures;
  long = let p = one_more s.names t.names (Some c) y in let q = one_more s.leaders t.leaders h x in let e = v.long in omega arith;
  signed_long = ap length k ∙ v.signed_long ∙ ap length (sym i);
  few = let p = ap length k in let q = one_more s.leaders t.leaders h x in let e = v.few in omega arith;
  named = λ p o m.
      elim (from_list s.names t.names (Some c) p o y m) [
        | inl z ↦
            let f = v.named p o z in
            (f.0, f.1, f.2, subst (λ (u : List ℕ). slice_get u f.0 ≡ Some f.1) (sym k) f.3, in_list s.leaders t.leaders h p f.1 x f.4)
        | inr z ↦ (
          c,
          h,
          sym z.1,
          subst (λ (u : List ℕ). slice_get u c ≡ Some h) (sym k) w,
          at_last s.leaders t.leaders h p x (let e = v.long in let f = z.0 in omega arith),
        )
      ];
  head = λ e f m.
      let q = v.head e f (subst (λ (u : List ℕ). slice_get u e ≡ Some f) k m) in
      (in_list s.leaders t.leaders h f f x q.0, in_list s.names t.names (Some c) f (Some e) y q.1);
  settled =
      subst (λ (u : List ℕ). (p q : ℕ) → slice_get u p ≡ Some q → slice_get u q ≡ Some q) (sym x)
      (settled_stays s.leaders h v.settled (get_front s.leaders (h ∷ []) h h (v.head c h w).0));
  signed = λ e f m p q.
      stayed s s.table more f h m t v
      (v.signed e f m (subst (λ (u : List ℕ). slice_get u e ≡ Some f) k p) (subst (λ (u : List (List ℕ)). slice_get u e ≡ Some m) i q)) a b x;
  alike = λ p q m.
      elim (from_list s.leaders t.leaders h p q x m) [
        | inl z ↦ both_alike s t h p q v a x (v.alike p q z)
        | inr z ↦
            let o = v.signed c h numbers w j in
            let u = signature_stays s.nwa o.lead h s.table t.table more numbers b o.signature in
            let i' = leads_itself s.leaders v.settled in
            let e : n ≡ p = sym l ∙ sym z.0 in
            both_alike s t h p q v a x
            (subst (λ (y : ℕ). IsLike s.nwa (leader_in s.leaders) y q × IsLike s.nwa (leader_in s.leaders) q y) e
            (subst (λ (y : ℕ). IsLike s.nwa (leader_in s.leaders) n y × IsLike s.nwa (leader_in s.leaders) y n) z.1 (
              like_by_marks s.nwa (leader_in s.leaders) (leader_in s.leaders) o.lead n h i' o.earlier
                  (marks_by_signature s.nwa (leader_in s.leaders) o.lead n h t.table numbers g u),
              like_by_marks s.nwa (leader_in s.leaders) o.lead (leader_in s.leaders) h n o.earlier i'
                  (marks_by_signature s.nwa o.lead (leader_in s.leaders) h n t.table numbers u g),
            )))
      ];
  whole = λ m. absurd (let p = ap length k in let q = one_more s.leaders t.leaders h x in let e = v.few in omega arith);
}

-- the next state is the head of a new class
pub opens : (s t : Classed) (more : List Mark) (numbers : List ℕ) (n : ℕ) → IsClassed s → length s.leaders ≡ n → t.nwa ≡ s.nwa → t.returns ≡ s.returns →
    t.table ≡ s.table ++ more → AreDistinct t.table → IsSignature s.nwa (leader_in s.leaders) n t.table numbers →
    t.signatures ≡ s.signatures ++ numbers ∷ [] → (Member s.signatures numbers → ⊥) → t.heads ≡ s.heads ++ n ∷ [] → t.leaders ≡ s.leaders ++ n ∷ [] →
    t.names ≡ s.names ++ Some (length s.signatures) ∷ [] → IsClassed t
opens s t more numbers n v l a r b d g i j k x y = record {
  returns = λ p. ap (λ (f : ℕ → List (ℕ × ℕ × Letter × ℕ)). f p) r ∙ v.returns p ∙ ap (λ (m : Automaton). backs_before p m.backs) (sym a);
  table = d;
  signatures = subst AreDistinct (sym i) (distinct_push s.signatures numbers v.signatures j);
  long =
      let p = one_more s.names t.names (Some (length s.signatures)) y in let q = one_more s.leaders t.leaders n x in let e = v.long in omega arith;
  signed_long = let p = one_more s.heads t.heads n k in let q = one_more s.signatures t.signatures numbers i in let e = v.signed_long in omega arith;
  few = let p = one_more s.heads t.heads n k in let q = one_more s.leaders t.leaders n x in let e = v.few in omega arith;
  named = λ p o m.
      elim (from_list s.names t.names (Some (length s.signatures)) p o y m) [
        | inl z ↦
            let f = v.named p o z in
            (f.0, f.1, f.2, in_list s.heads t.heads n f.0 f.1 k f.3, in_list s.leaders t.leaders n p f.1 x f.4)
        | inr z ↦ (
          length s.signatures,
          n,
          sym z.1,
          at_last s.heads t.heads n (length s.signatures) k v.signed_long,
          at_last s.leaders t.leaders n p x (let e = v.long in let f = z.0 in omega arith),
        )
      ];
  head = λ e f m.
      elim (from_list s.heads t.heads n e f k m) [
        | inl z ↦
            let q = v.head e f z in
            (in_list s.leaders t.leaders n f f x q.0, in_list s.names t.names (Some (length s.signatures)) f (Some e) y q.1)
        | inr z ↦ (
          subst (λ (u : ℕ). slice_get t.leaders u ≡ Some u) z.1 (at_last s.leaders t.leaders n n x l),
          subst (λ (u : ℕ). slice_get t.names f ≡ Some (Some u)) (sym v.signed_long ∙ sym z.0)
              (subst (λ (u : ℕ). slice_get t.names u ≡ Some (Some (length s.signatures))) z.1
              (at_last s.names t.names (Some (length s.signatures)) n y (v.long ∙ l))),
        )
      ];
  settled =
      subst (λ (u : List ℕ). (p q : ℕ) → slice_get u p ≡ Some q → slice_get u q ≡ Some q) (sym x)
      (settled_stays s.leaders n v.settled (subst (λ (u : ℕ). slice_get (s.leaders ++ n ∷ []) u ≡ Some n) l (get_last s.leaders n)));
  signed = λ e f m p q.
      elim (from_list s.heads t.heads n e f k p) [
        | inl z ↦
            elim (from_list s.signatures t.signatures numbers e m i q) [
              | inl o ↦ stayed s s.table more f n m t v (v.signed e f m z o) a b x
              | inr o ↦ absurd (let w = get_within s.heads e f z in let u = v.signed_long in let c = o.0 in omega arith)
            ]
        | inr z ↦
            elim (from_list s.signatures t.signatures numbers e m i q) [
              | inl o ↦ absurd (let w = get_within s.signatures e m o in let u = v.signed_long in let c = z.0 in omega arith)
              | inr o ↦
                  subst (λ (u : ℕ). WasSigned t u m) z.1
                  (subst (WasSigned t n) o.1
                  (record {
                    lead = leader_in s.leaders;
                    earlier = λ c.
                        subst (λ (u : List ℕ). leader_in u (leader_in s.leaders c) ≡ leader_in u c) (sym x)
                        (coarser s.leaders n v.settled (leader_in s.leaders c) c (leads_itself s.leaders v.settled c));
                    signature = subst (λ (u : Automaton). IsSignature u (leader_in s.leaders) n t.table numbers) (sym a) g;
                  }))
            ]
      ];
  alike = λ p q m.
      elim (from_list s.leaders t.leaders n p q x m) [
        | inl z ↦ both_alike s t n p q v a x (v.alike p q z)
        | inr z ↦
            let e : p ≡ q = z.0 ∙ l ∙ z.1 in
            subst (λ (u : ℕ). IsLike t.nwa (leader_in t.leaders) p u × IsLike t.nwa (leader_in t.leaders) u p) e
            (like_itself t.nwa (leader_in t.leaders) p, like_itself t.nwa (leader_in t.leaders) p)
      ];
  whole = λ m e f p.
      let o = one_more s.heads t.heads n k in
      let q = one_more s.leaders t.leaders n x in
      let u = v.few in
      elim (from_list s.heads t.heads n e f k p) [
        | inl z ↦ v.whole (omega arith) e f z
        | inr z ↦ let w : length s.heads ≡ length s.leaders = omega arith in sym z.1 ∙ sym l ∙ sym w ∙ sym z.0
      ];
}

-- What covers accept, and how they are checked.
use Rattle.std.proofs.Common.{◌≡◌, ◌∙◌, ◌⊎◌, ◌<◌, ◌≤◌, ◌+◌, ◌==◌, ◌&&◌, ℕ, Bool, true, false, cond, List, [], ◌∷◌, length, take, get_or, Option, None, Some, Result, Ok, Err, refl, sym, ap, subst, inl, inr, eqb, eq-eqb, arith}
use Rattle.std.specs.Result.{IfOk}
use Rattle.std.proofs.lemmas.Bool.{eqb-true, cases_lt}
use Rattle.std.proofs.lemmas.List.{take_more, take_all}
use Rattle.nwa_base.specs.declared.letters.Kind.{Kind}
use Rattle.nwa_base.specs.declared.letters.Kind.TheVariants.{Inside, Call, Back}
use Rattle.nwa_base.specs.declared.letters.Kind.TheVariants as kinds
use Rattle.nwa_base.specs.declared.letters.Letter.{Letter}
use Rattle.nwa_base.specs.Automata.{Automaton, IsAutomaton, IsEdge}
use Rattle.nwa_base.specs.Acceptance.{Follows, AcceptsFrom}
use Rattle.nwa_base.specs.Members.{Member}
use Rattle.nwa_base.specs.Edges.{leaving, backs_leaving, ends}
use Rattle.nwa_base.proofs.EdgeLemmas.{letter_test}
use Rattle.nwa_base.proofs.LetterLemmas.{sameb-same_kind, same_letter-true, and_left, and_right}
use Rattle.nwa_base.proofs.MemberLemmas.{member_filter, member_at}
use Rattle.nwa_base.proofs.PairLemmas.{member_ends}
use Rattle.nwa_difference.specs.Covering.{AllCallAlike, Covers, AreCovers, IsEnd, HasCover, HaveCovers, InsideGoesOn, CallGoesOn, BackGoesOn, ReturnsFromAll, cover_in}
use Rattle.nwa_difference.proofs.MakingLemmas.{all_member}
use Rattle.nwa_difference.proofs.FollowLemmas.{Each, each_more, does_leave}
use Rattle.nwa_difference.proofs.OpeningLemmas.{is_none}

-- from the state q of a and a cover u of it the word is accepted alike
abbrev AcceptAlike : Automaton → Automaton → (ℕ → ℕ → Type 0) → List Letter → Type 0
AcceptAlike a b R w = (q u : ℕ) → R q u → (ps ks : List ℕ) → AllCallAlike a b ps ks → AcceptsFrom a ps q w → AcceptsFrom b ks u w

letter_alike : (a b : Automaton) (R : ℕ → ℕ → Type 0) → AreCovers a b R → (kind : Kind) (l : Letter) (w : List Letter) (q u e : ℕ) → R q u →
    (ps ks : List ℕ) → AllCallAlike a b ps ks → Follows a kind l ps q e (λ s. AcceptsFrom a s e w) → AcceptAlike a b R w →
    (v : ℕ) × Follows b kind l ks u v (λ s. AcceptsFrom b s v w)
letter_alike a b R c Inside l w q u e i ps ks t f ih =
    let r = c.inside q e u l i f.0 in
    (r.0, (r.2, ih e r.0 r.1 ps ks t f.1))
letter_alike a b R c Call l w q u e i ps ks t f ih =
    let r = c.call q e u l i f.0 in
    (r.0, (r.2, ih e r.0 r.1 (q ∷ ps) (u ∷ ks) ((l, e, r.0, f.0, r.2), t) f.1))
letter_alike a b R c Back l w q u e i [] ks t f ih = absurd f
letter_alike a b R c Back l w q u e i (p ∷ ps) [] t f ih = absurd t
letter_alike a b R c Back l w q u e i (p ∷ ps) (k ∷ ks) t f ih =
    let r = c.back q p e u k l i f.0 t.0 in
    (r.0, (r.2, ih e r.0 r.1 ps ks t.1 f.1))

accept_alike : (a b : Automaton) (R : ℕ → ℕ → Type 0) → AreCovers a b R → (w : List Letter) → AcceptAlike a b R w
accept_alike a b R c [] q u i ps ks t h = c.finals q u i h
accept_alike a b R c (l ∷ w) q u i ps ks t h = letter_alike a b R c l.kind l w q u h.0 i ps ks t h.1 (accept_alike a b R c w)

-- a cover of a state covers it
pub cover_covers : (a b : Automaton) (R : ℕ → ℕ → Type 0) → AreCovers a b R → (q u : ℕ) → R q u → Covers a b q u
cover_covers a b R c q u i w ps ks t h = accept_alike a b R c w q u i ps ks t h

-- ---- the checks

no_cover : (u : ℕ) → None ≡ Some u → ⊥
no_cover u e = cc

same_some : (x y : ℕ) → Some x ≡ Some y → x ≡ y
same_some x y e = cc

-- no state has a cover in the list
pub no_covers : (a b : Automaton) (covers : List (Option ℕ)) → covers ≡ [] → HaveCovers a b covers
no_covers a b covers e =
    subst (λ (l : List (Option ℕ)). HaveCovers a b l) (sym e) (record {
      finals = λ q u f m. elim f [ inl i ↦ absurd (no_cover u i) | inr n ↦ n.1 ];
      inside = λ q e u l f m. elim f [ inl i ↦ absurd (no_cover u i) | inr n ↦ absurd (n.0.inside l e m) ];
      call = λ q e u l f m. elim f [ inl i ↦ absurd (no_cover u i) | inr n ↦ absurd (n.0.call l e m) ];
      back = λ q p e u k l f m t. elim f [ inl i ↦ absurd (no_cover u i) | inr n ↦ absurd (n.0.back p l e m) ];
    })

-- what holds of each element of a list, found one after another
pub each_none : {X : Type 0} (xs : List X) (P : X → Type 0) → Each (take 0 xs) P
each_none xs P x m = absurd m

pub each_on : {X : Type 0} (xs : List X) (i : ℕ) (d : X) (P : X → Type 0) → i < length xs → Each (take i xs) P → P (get_or xs i d) → Each (take (i + 1) xs) P
each_on {X} xs i d P l h p =
    subst (λ (front : List X). Each front P) (sym (take_more xs i d l)) (each_more (take i xs) (get_or xs i d) P P h (λ x q. q) p)

pub each_all : {X : Type 0} (xs : List X) (i : ℕ) (P : X → Type 0) → length xs ≤ i → Each (take i xs) P → Each xs P
each_all {X} xs i P l h = subst (λ (front : List X). Each front P) (take_all i xs l) h

-- the covers of final states
abbrev pub FinalIsCovered : Automaton → (ℕ → Option ℕ) → ℕ → Type 0
FinalIsCovered b cover q = (u : ℕ) → cover q ≡ Some u → Member b.finals u

pub final_one : (b : Automaton) (cover : ℕ → Option ℕ) (q u : ℕ) → cover q ≡ Some u → Member b.finals u → FinalIsCovered b cover q
final_one b cover q u e m w f = subst (Member b.finals) (same_some u w (sym e ∙ f)) m

pub final_none : (b : Automaton) (cover : ℕ → Option ℕ) (q : ℕ) → cover q ≡ None → FinalIsCovered b cover q
final_none b cover q e w f = absurd (no_cover w (sym e ∙ f))

-- one edge
pub inside_one : (a b : Automaton) (covers : List (Option ℕ)) (e : ℕ × Letter × ℕ) (u v : ℕ) → cover_in covers e.0 ≡ Some u →
    HasCover a b covers e.2 v → Member b.insides (u, e.1, v) → InsideGoesOn a b covers e
inside_one a b covers e u v f g m w h = (v, g, subst (λ (z : ℕ). Member b.insides (z, e.1, v)) (same_some u w (sym f ∙ h)) m)

pub inside_none : (a b : Automaton) (covers : List (Option ℕ)) (e : ℕ × Letter × ℕ) → cover_in covers e.0 ≡ None → InsideGoesOn a b covers e
inside_none a b covers e f w h = absurd (no_cover w (sym f ∙ h))

pub call_one : (a b : Automaton) (covers : List (Option ℕ)) (e : ℕ × Letter × ℕ) (u v : ℕ) → cover_in covers e.0 ≡ Some u →
    HasCover a b covers e.2 v → Member b.calls (u, e.1, v) → CallGoesOn a b covers e
call_one a b covers e u v f g m w h = (v, g, subst (λ (z : ℕ). Member b.calls (z, e.1, v)) (same_some u w (sym f ∙ h)) m)

pub call_none : (a b : Automaton) (covers : List (Option ℕ)) (e : ℕ × Letter × ℕ) → cover_in covers e.0 ≡ None → CallGoesOn a b covers e
call_none a b covers e f w h = absurd (no_cover w (sym f ∙ h))

pub back_one : (a b : Automaton) (covers : List (Option ℕ)) (e : ℕ × ℕ × Letter × ℕ) (u v : ℕ) → cover_in covers e.0 ≡ Some u →
    HasCover a b covers e.3 v → ((c : Letter) (n : ℕ) → Member a.calls (e.1, c, n) → ReturnsFromAll b c u e.2 v) → BackGoesOn a b covers e
back_one a b covers e u v f g r w k h t =
    (v, g, subst (λ (z : ℕ). Member b.backs (z, k, e.2, v)) (same_some u w (sym f ∙ h)) (r t.0 t.1 t.3 k t.2 t.4))

pub back_none : (a b : Automaton) (covers : List (Option ℕ)) (e : ℕ × ℕ × Letter × ℕ) → cover_in covers e.0 ≡ None → BackGoesOn a b covers e
back_none a b covers e f w k h t = absurd (no_cover w (sym f ∙ h))

-- no edge leaves a state under whose number none is found
pub is_end : (a : Automaton) (q : ℕ) (i c : List (ℕ × Letter × ℕ)) (b : List (ℕ × ℕ × Letter × ℕ)) → i ≡ leaving q a.insides → c ≡ leaving q a.calls →
    b ≡ backs_leaving q a.backs → length i == 0 ≡ true → length c == 0 ≡ true → length b == 0 ≡ true → IsEnd a q
is_end a q i c b ei ec eb hi hc hb = record {
  inside = λ l e m. is_none i hi (q, l, e) (subst (λ (s : List (ℕ × Letter × ℕ)). Member s (q, l, e)) (sym ei) (does_leave q a.insides l e m));
  call = λ l e m. is_none c hc (q, l, e) (subst (λ (s : List (ℕ × Letter × ℕ)). Member s (q, l, e)) (sym ec) (does_leave q a.calls l e m));
  back = λ p l e m.
      is_none b hb (q, p, l, e)
      (subst (λ (s : List (ℕ × ℕ × Letter × ℕ)). Member s (q, p, l, e)) (sym eb)
      (member_filter (λ (x : ℕ × ℕ × Letter × ℕ). eqb x.0 q) a.backs (q, p, l, e) m (eq-eqb q q refl)));
}

-- the pair at a place, which ends in a state
pub ends_there : (pairs : List (ℕ × ℕ)) (i s : ℕ) (x : ℕ × ℕ) → i < length pairs → x ≡ get_or pairs i x → eqb x.1 s ≡ true → (k : ℕ) × Member pairs (k, s)
ends_there pairs i s x l e h =
    let m = subst (λ (z : ℕ × ℕ). Member {X = ℕ × ℕ} pairs z) (sym e) (member_at pairs i x l) in
    (x.0, subst (λ (z : ℕ). Member {X = ℕ × ℕ} pairs (x.0, z)) (eqb-true x.1 s h) m)

-- no call leads from a state before
pub returns_none : (b : Automaton) (c : Letter) (u k : ℕ) (l : Letter) (v : ℕ) (ends_of : List ℕ) → ends_of ≡ ends k c b.calls → length ends_of == 0 ≡ true →
    (j : ℕ) → Member b.calls (k, c, j) → Member b.backs (u, k, l, v)
returns_none b c u k l v ends_of e h j m =
    absurd (is_none ends_of h j (subst (λ (s : List ℕ). Member s j) (sym e) (member_ends k c b.calls j m)))

-- one state more before the call
pub returns_more : (b : Automaton) (c : Letter) (u n : ℕ) (l : Letter) (v : ℕ) →
    ((k j : ℕ) → k < n → Member b.calls (k, c, j) → Member b.backs (u, k, l, v)) →
    ((j : ℕ) → Member b.calls (n, c, j) → Member b.backs (u, n, l, v)) →
    (k j : ℕ) → k < n + 1 → Member b.calls (k, c, j) → Member b.backs (u, k, l, v)
returns_more b c u n l v h g k j i m =
    elim (cases_lt k n) [
      | inl o ↦ h k j o m
      | inr o ↦
          let e : n ≡ k = omega arith in
          subst (λ (z : ℕ). Member b.backs (u, z, l, v)) e (g j (subst (λ (z : ℕ). Member b.calls (z, c, j)) (sym e) m))
    ]

pub returns_whole : (b : Automaton) (c : Letter) (u n : ℕ) (l : Letter) (v : ℕ) → IsAutomaton b → b.states ≤ n →
    ((k j : ℕ) → k < n → Member b.calls (k, c, j) → Member b.backs (u, k, l, v)) → ReturnsFromAll b c u l v
returns_whole b c u n l v a i h k j m =
    let e = all_member (IsEdge b.states kinds.Call) b.calls (k, c, j) a.calls m in
    let f = e.«from» in
    h k j (omega arith) m

-- ---- what is known of returns
abbrev Return : Type 0
Return = Letter × ℕ × Letter × ℕ

-- the derived test of keys
abbrev pub return_test : Return → Return → Bool
return_test k l = ((letter_test k.0 l.0 && eqb k.1 l.1) && letter_test k.2 l.2) && eqb k.3 l.3

letter_tested : (a b : Letter) → letter_test a b ≡ true → a ≡ b
letter_tested a b h =
    same_letter-true a b (sym (ap (λ (k : Bool). eqb a.id b.id && (k && eqb a.call b.call)) (sameb-same_kind a.kind b.kind)) ∙ h)

cond_true : (b o : Bool) → cond b true o ≡ true → (b ≡ true) ⊎ (o ≡ true)
cond_true true o e = inl refl
cond_true false o e = inr e

returns_same : (b : Automaton) (k l : Return) → return_test k l ≡ true → ReturnsFromAll b k.0 k.1 k.2 k.3 → ReturnsFromAll b l.0 l.1 l.2 l.3
returns_same b k l t h =
    let t1 = and_left ((letter_test k.0 l.0 && eqb k.1 l.1) && letter_test k.2 l.2) (eqb k.3 l.3) t in
    let t2 = and_left (letter_test k.0 l.0 && eqb k.1 l.1) (letter_test k.2 l.2) t1 in
    let e0 = letter_tested k.0 l.0 (and_left (letter_test k.0 l.0) (eqb k.1 l.1) t2) in
    let e1 = eqb-true k.1 l.1 (and_right (letter_test k.0 l.0) (eqb k.1 l.1) t2) in
    let e2 = letter_tested k.2 l.2 (and_right (letter_test k.0 l.0 && eqb k.1 l.1) (letter_test k.2 l.2) t1) in
    let e3 = eqb-true k.3 l.3 (and_right ((letter_test k.0 l.0 && eqb k.1 l.1) && letter_test k.2 l.2) (eqb k.3 l.3) t) in
    subst (λ (z : Letter). ReturnsFromAll b z l.1 l.2 l.3) e0
    (subst (λ (z : ℕ). ReturnsFromAll b k.0 z l.2 l.3) e1
    (subst (λ (z : Letter). ReturnsFromAll b k.0 k.1 z l.3) e2
    (subst (λ (z : ℕ). ReturnsFromAll b k.0 k.1 k.2 z) e3 h)))

-- one return more is known
pub known_more : (b : Automaton) (old new : Return → Bool) (key : Return) →
    ((c : Letter) (u : ℕ) (l : Letter) (v : ℕ) → old (c, u, l, v) ≡ true → ReturnsFromAll b c u l v) →
    ((x : Return) → new x ≡ cond (return_test key x) true (old x)) → ReturnsFromAll b key.0 key.1 key.2 key.3 →
    (c : Letter) (u : ℕ) (l : Letter) (v : ℕ) → new (c, u, l, v) ≡ true → ReturnsFromAll b c u l v
known_more b old new key h n r c u l v t =
    elim (cond_true (return_test key (c, u, l, v)) (old (c, u, l, v)) (sym (n (c, u, l, v)) ∙ t)) [
      | inl i ↦ returns_same b key (c, u, l, v) i r
      | inr o ↦ h c u l v o
    ]

-- all checks
pub covers_are : (a b : Automaton) (covers : List (Option ℕ)) (finals : List ℕ) → finals ≡ a.finals → Each finals (FinalIsCovered b (cover_in covers)) →
    Each a.insides (InsideGoesOn a b covers) → Each a.calls (CallGoesOn a b covers) → Each a.backs (BackGoesOn a b covers) → HaveCovers a b covers
covers_are a b covers finals ef hf hi hc hb = record {
  finals = λ q u f m. elim f [ inl i ↦ hf q (subst (λ (l : List ℕ). Member l q) (sym ef) m) u i | inr n ↦ n.1 ];
  inside = λ q e u l f m.
      elim f [
        | inl i ↦ hi (q, l, e) m u i
        | inr n ↦ absurd (n.0.inside l e m)
      ];
  call = λ q e u l f m.
      elim f [
        | inl i ↦ hc (q, l, e) m u i
        | inr n ↦ absurd (n.0.call l e m)
      ];
  back = λ q p e u k l f m t. elim f [ inl i ↦ hb (q, p, l, e) m u k i t | inr n ↦ absurd (n.0.back p l e m) ];
}

-- what follows from what is said of a value
pub if_ok_then : {X E : Type 0} {P Q : X → Type 0} (r : Result X E) → IfOk r P → ((x : X) → P x → Q x) → IfOk r Q
if_ok_then (Ok x) h f = f x h
if_ok_then (Err e) h f = h

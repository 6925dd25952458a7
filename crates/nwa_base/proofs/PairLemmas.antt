-- Sets of pairs, and where letters lead from them.
use Rattle.std.proofs.Common.{◌≡◌, ℕ, zero, suc, ◌<◌, ◌&&◌, eqb, List, [], ◌∷◌, length, get_or, refl, sym, ap, subst, inl, inr, arith}
use Rattle.std.proofs.lemmas.Bool.{eqb-true}
use Rattle.std.specs.Prelude.{filter}
use Rattle.std.specs.List.{Contains}
use Rattle.nwa_base.specs.declared.letters.Letter.{Letter}
use Rattle.nwa_base.specs.Letters.{same_letter}
use Rattle.nwa_base.specs.Members.{Member, SameMembers}
use Rattle.nwa_base.specs.Edges.{ends, back_ends}
use Rattle.nwa_base.specs.Automata.{Automaton}
use Rattle.nwa_base.specs.Pairs.{IsInsideOf, IsCallOf, IsBackOf}
use Rattle.nwa_base.specs.Ties.Reading.{keyed, expanded, seconds}
use Rattle.nwa_base.proofs.LetterLemmas.{same_letter-true, same_letter-refl, and_left, and_right, and_both, eqb-refl}
use Rattle.nwa_base.proofs.MemberLemmas.{member_front, member_rest, member_split, member_map, member_from_map, member_filter, filter_member}

pub contains_member : {X : Type 0} (xs : List X) (x : X) (k : ℕ) → k < length xs → get_or xs k x ≡ x → Member xs x
contains_member [] x k l e = omega arith
contains_member (y ∷ ys) x zero l e = inl e
contains_member (y ∷ ys) x (suc k) l e = inr (contains_member ys x k (omega arith) e)

pub member_contains : {X : Type 0} (xs : List X) (x : X) → Member xs x → Contains xs x
member_contains [] x h = absurd h
member_contains (y ∷ ys) x (inl e) = (0, omega arith, e)
member_contains (y ∷ ys) x (inr h) = let r = member_contains ys x h in (suc r.0, omega arith, r.2)

-- a member of what is made key by key
pub member_expanded : (key : ℕ × ℕ → ℕ) (to : ℕ × ℕ → List ℕ) (s : List (ℕ × ℕ)) (x : ℕ × ℕ) (e : ℕ) →
    Member s x → Member (to x) e → Member (expanded key to s) (key x, e)
member_expanded key to [] x e h g = absurd h
member_expanded key to (y ∷ s) x e (inl p) g =
    member_front (keyed (key y) (to y)) (expanded key to s) (key x, e)
    (subst (λ (z : ℕ × ℕ). Member (keyed (key z) (to z)) (key x, e)) (sym p) (member_map (λ n. (key x, n)) (to x) e g))
member_expanded key to (y ∷ s) x e (inr h) g =
    member_rest (keyed (key y) (to y)) (expanded key to s) (key x, e) (member_expanded key to s x e h g)

pub expanded_member : (key : ℕ × ℕ → ℕ) (to : ℕ × ℕ → List ℕ) (s : List (ℕ × ℕ)) (k e : ℕ) →
    Member (expanded key to s) (k, e) → (x : ℕ × ℕ) × Member s x × (key x ≡ k) × Member (to x) e
expanded_member key to [] k e h = absurd h
expanded_member key to (y ∷ s) k e h =
    elim (member_split (keyed (key y) (to y)) (expanded key to s) (k, e) h) [
      | inl g ↦
          let r = member_from_map (λ n. (key y, n)) (to y) (k, e) g in
          (y, inl refl, ap (λ (z : ℕ × ℕ). z.0) r.2, subst (Member (to y)) (ap (λ (z : ℕ × ℕ). z.1) r.2) r.1)
      | inr g ↦ let r = expanded_member key to s k e g in (r.0, inr r.1, r.2, r.3)
    ]

-- an edge ends where it leads
pub ends_member : (q : ℕ) (a : Letter) (edges : List (ℕ × Letter × ℕ)) (e : ℕ) → Member (ends q a edges) e → Member edges (q, a, e)
ends_member q a edges e h =
    let r = member_from_map (λ (x : ℕ × Letter × ℕ). x.2) (filter (λ (x : ℕ × Letter × ℕ). eqb x.0 q && same_letter x.1 a) edges) e h in
    let f = filter_member (λ (x : ℕ × Letter × ℕ). eqb x.0 q && same_letter x.1 a) edges r.0 r.1 in
    let i : r.0.0 ≡ q = eqb-true _ _ (and_left _ _ f.1) in
    let j : r.0.1 ≡ a = same_letter-true _ _ (and_right _ _ f.1) in
    subst (Member edges) (λ n. (i n, j n, r.2 n)) f.0

pub member_ends : (q : ℕ) (a : Letter) (edges : List (ℕ × Letter × ℕ)) (e : ℕ) → Member edges (q, a, e) → Member (ends q a edges) e
member_ends q a edges e h =
    member_map (λ (x : ℕ × Letter × ℕ). x.2) (filter (λ (x : ℕ × Letter × ℕ). eqb x.0 q && same_letter x.1 a) edges) (q, a, e)
    (member_filter (λ (x : ℕ × Letter × ℕ). eqb x.0 q && same_letter x.1 a) edges (q, a, e) h (and_both _ _ (eqb-refl q) (same_letter-refl a)))

pub back_ends_member : (q p : ℕ) (a : Letter) (edges : List (ℕ × ℕ × Letter × ℕ)) (e : ℕ) →
    Member (back_ends q p a edges) e → Member edges (q, p, a, e)
back_ends_member q p a edges e h =
    let test = λ (x : ℕ × ℕ × Letter × ℕ). (eqb x.0 q && eqb x.1 p) && same_letter x.2 a in
    let r = member_from_map (λ (x : ℕ × ℕ × Letter × ℕ). x.3) (filter test edges) e h in
    let f = filter_member test edges r.0 r.1 in
    let b = and_left _ _ f.1 in
    let i : r.0.0 ≡ q = eqb-true _ _ (and_left _ _ b) in
    let k : r.0.1 ≡ p = eqb-true _ _ (and_right _ _ b) in
    let j : r.0.2 ≡ a = same_letter-true _ _ (and_right _ _ f.1) in
    subst (Member edges) (λ n. (i n, k n, j n, r.2 n)) f.0

pub member_back_ends : (q p : ℕ) (a : Letter) (edges : List (ℕ × ℕ × Letter × ℕ)) (e : ℕ) →
    Member edges (q, p, a, e) → Member (back_ends q p a edges) e
member_back_ends q p a edges e h =
    let test = λ (x : ℕ × ℕ × Letter × ℕ). (eqb x.0 q && eqb x.1 p) && same_letter x.2 a in
    member_map (λ (x : ℕ × ℕ × Letter × ℕ). x.3) (filter test edges) (q, p, a, e)
    (member_filter test edges (q, p, a, e) h (and_both _ _ (and_both _ _ (eqb-refl q) (eqb-refl p)) (same_letter-refl a)))

-- a second part stands beside its first part
pub seconds_member : (p : ℕ) (s : List (ℕ × ℕ)) (e : ℕ) → Member (seconds p s) e → Member s (p, e)
seconds_member p s e h =
    let r = member_from_map (λ (x : ℕ × ℕ). x.1) (filter (λ (x : ℕ × ℕ). eqb x.0 p) s) e h in
    let f = filter_member (λ (x : ℕ × ℕ). eqb x.0 p) s r.0 r.1 in
    let i : r.0.0 ≡ p = eqb-true _ _ f.1 in
    subst (Member s) (λ n. (i n, r.2 n)) f.0

pub member_seconds : (p : ℕ) (s : List (ℕ × ℕ)) (e : ℕ) → Member s (p, e) → Member (seconds p s) e
member_seconds p s e h =
    member_map (λ (x : ℕ × ℕ). x.1) (filter (λ (x : ℕ × ℕ). eqb x.0 p) s) (p, e) (member_filter (λ (x : ℕ × ℕ). eqb x.0 p) s (p, e) h (eqb-refl p))

pub is_inside_of : (m : Automaton) (a : Letter) (s made t : List (ℕ × ℕ)) →
    made ≡ expanded (λ x. x.0) (λ x. ends x.1 a m.insides) s → SameMembers made t → IsInsideOf m a s t
is_inside_of m a s made t e same = record {
  sound = λ k n h.
      let r = expanded_member (λ x. x.0) (λ x. ends x.1 a m.insides) s k n (subst (λ (l : List (ℕ × ℕ)). Member l (k, n)) e (same.back (k, n) h)) in
      (r.0.1, subst (λ (j : ℕ). Member s (j, r.0.1)) r.2 r.1, ends_member r.0.1 a m.insides n r.3);
  complete = λ k q n h g.
      same.there (k, n) (subst (λ (l : List (ℕ × ℕ)). Member l (k, n)) (sym e)
      (member_expanded (λ x. x.0) (λ x. ends x.1 a m.insides) s (k, q) n h (member_ends q a m.insides n g)));
}

pub is_call_of : (m : Automaton) (a : Letter) (s made t : List (ℕ × ℕ)) →
    made ≡ expanded (λ x. x.1) (λ x. ends x.1 a m.calls) s → SameMembers made t → IsCallOf m a s t
is_call_of m a s made t e same = record {
  sound = λ q n h.
      let r = expanded_member (λ x. x.1) (λ x. ends x.1 a m.calls) s q n (subst (λ (l : List (ℕ × ℕ)). Member l (q, n)) e (same.back (q, n) h)) in
      let i : r.0.1 ≡ q = r.2 in
      (r.0.0, subst (λ (j : ℕ). Member s (r.0.0, j)) i r.1, subst (λ (j : ℕ). Member m.calls (j, a, n)) i (ends_member r.0.1 a m.calls n r.3));
  complete = λ k q n h g.
      same.there (q, n) (subst (λ (l : List (ℕ × ℕ)). Member l (q, n)) (sym e)
      (member_expanded (λ x. x.1) (λ x. ends x.1 a m.calls) s (k, q) n h (member_ends q a m.calls n g)));
}

pub is_back_of : (m : Automaton) (a : Letter) (b s exits found made t : List (ℕ × ℕ)) (groups : ℕ → List ℕ) →
    found ≡ expanded (λ x. x.0) (λ x. back_ends x.1 x.0 a m.backs) s → SameMembers found exits →
    ((p : ℕ) → groups p ≡ seconds p exits) →
    made ≡ expanded (λ x. x.0) (λ x. groups x.1) b → SameMembers made t → IsBackOf m a b s t
is_back_of m a b s exits found made t groups f near g e same = record {
  sound = λ k n h.
      let r = expanded_member (λ x. x.0) (λ x. groups x.1) b k n (subst (λ (l : List (ℕ × ℕ)). Member l (k, n)) e (same.back (k, n) h)) in
      let p : ℕ = r.0.1 in
      let exit : Member exits (p, n) = seconds_member p exits n (subst (λ (l : List ℕ). Member l n) (g p) r.3) in
      let d = expanded_member (λ x. x.0) (λ x. back_ends x.1 x.0 a m.backs) s p n (subst (λ (l : List (ℕ × ℕ)). Member l (p, n)) f (near.back (p, n) exit)) in
      let i : d.0.0 ≡ p = d.2 in (
        p,
        d.0.1,
        subst (λ (j : ℕ). Member b (j, p)) r.2 r.1,
        subst (λ (j : ℕ). Member s (j, d.0.1)) i d.1,
        subst (λ (j : ℕ). Member m.backs (d.0.1, j, a, n)) i (back_ends_member d.0.1 d.0.0 a m.backs n d.3),
      );
  complete = λ k p q n h u v.
      let exit : Member exits (p, n) =
      near.there (p, n) (subst (λ (l : List (ℕ × ℕ)). Member l (p, n)) (sym f)
      (member_expanded (λ x. x.0) (λ x. back_ends x.1 x.0 a m.backs) s (p, q) n u (member_back_ends q p a m.backs n v))) in
      same.there (k, n) (subst (λ (l : List (ℕ × ℕ)). Member l (k, n)) (sym e)
      (member_expanded (λ x. x.0) (λ x. groups x.1) b (k, p) n h (subst (λ (l : List ℕ). Member l n) (sym (g p)) (member_seconds p exits n exit))));
}

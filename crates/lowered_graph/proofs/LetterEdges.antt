-- The edges by letters are exactly those of the arcs, each by the letter of its act.
use Rattle.std.proofs.Common.{◌≡◌, ◌⊎◌, ℕ, List, [], ◌∷◌, ◌++◌, Some, inl, inr, refl, sym, subst}
use Rattle.std.specs.Prelude.{slice_get}
use Rattle.nwa_base.specs.Members.{Member}
use Rattle.nwa_base.specs.declared.letters.Letter.{Letter}
use Rattle.letter_acts.specs.Acts.{back_act, letter_of}
use Rattle.letter_acts.specs.Invariant.{AreDistinct}
use Rattle.letter_acts.specs.LetterTable.Letters.{MarkedAct, exact_act, Arc, inside_arc, call_arc, act_number, with_act, numbered_letter, Lettered, with_arc, with_arcs}
use Rattle.lowered_graph.specs.LetterLaws.{InsideOf, CallOf, BackOf}
use Rattle.lowered_graph.proofs.ActNumbers.{act_numbered, IsLonger, longer_get, longer_itself, longer_than, with_longer, with_distinct}
use Rattle.lowered_graph.proofs.Lists.{before_or_last}

-- ---- acts

arc_longer : (d : Lettered) (a : Arc) → IsLonger d.acts (with_arc d a).acts
arc_longer d (inside_arc q a e) = with_longer d.acts a
arc_longer d (call_arc q a e x targets k) =
    longer_than d.acts (with_act d.acts a) (with_arc d (call_arc q a e x targets k)).acts (with_longer d.acts a)
    (with_longer (with_act d.acts a) (exact_act (back_act (act_number d.acts a) targets)))

pub arcs_longer : (d : Lettered) (arcs : List Arc) → IsLonger d.acts (with_arcs d arcs).acts
arcs_longer d [] = longer_itself d.acts
arcs_longer d (a ∷ arcs) = longer_than d.acts (with_arc d a).acts (with_arcs (with_arc d a) arcs).acts (arc_longer d a) (arcs_longer (with_arc d a) arcs)

arc_distinct : (d : Lettered) (a : Arc) → AreDistinct d.acts → AreDistinct (with_arc d a).acts
arc_distinct d (inside_arc q a e) h = with_distinct d.acts a h
arc_distinct d (call_arc q a e x targets k) h = with_distinct (with_act d.acts a) (exact_act (back_act (act_number d.acts a) targets)) (with_distinct d.acts a h)

pub arcs_distinct : (d : Lettered) (arcs : List Arc) → AreDistinct d.acts → AreDistinct (with_arcs d arcs).acts
arcs_distinct d [] h = h
arcs_distinct d (a ∷ arcs) h = arcs_distinct (with_arc d a) arcs (arc_distinct d a h)

-- ---- the letters of an arc, in the final list

-- the letter of an inside arc
inside_letter : (d : Lettered) (q : ℕ) (a : MarkedAct) (e : ℕ) (arcs : List Arc) →
    slice_get (with_arcs (with_arc d (inside_arc q a e)) arcs).acts (act_number d.acts a) ≡ Some a
inside_letter d q a e arcs =
    longer_get (with_act d.acts a) (with_arcs (with_arc d (inside_arc q a e)) arcs).acts (act_number d.acts a) a (arcs_longer (with_arc d (inside_arc q a e)) arcs) (act_numbered d.acts a)

-- the letter of a call
call_letter : (d : Lettered) (q : ℕ) (a : MarkedAct) (e x : ℕ) (targets : List ℕ) (k : ℕ) (arcs : List Arc) →
    slice_get (with_arcs (with_arc d (call_arc q a e x targets k)) arcs).acts (act_number d.acts a) ≡ Some a
call_letter d q a e x targets k arcs =
    let called : List MarkedAct = with_act d.acts a in
    let back : MarkedAct = exact_act (back_act (act_number d.acts a) targets) in
    longer_get called (with_arcs (with_arc d (call_arc q a e x targets k)) arcs).acts (act_number d.acts a) a
    (longer_than called (with_act called back) (with_arcs (with_arc d (call_arc q a e x targets k)) arcs).acts (with_longer called back) (arcs_longer (with_arc d (call_arc q a e x targets k)) arcs))
    (act_numbered d.acts a)

-- the letter of its return
back_letter : (d : Lettered) (q : ℕ) (a : MarkedAct) (e x : ℕ) (targets : List ℕ) (k : ℕ) (arcs : List Arc) →
    slice_get (with_arcs (with_arc d (call_arc q a e x targets k)) arcs).acts (act_number (with_act d.acts a) (exact_act (back_act (act_number d.acts a) targets))) ≡ Some (exact_act (back_act (act_number d.acts a) targets))
back_letter d q a e x targets k arcs =
    let called : List MarkedAct = with_act d.acts a in
    let back : MarkedAct = exact_act (back_act (act_number d.acts a) targets) in
    longer_get (with_act called back) (with_arcs (with_arc d (call_arc q a e x targets k)) arcs).acts (act_number called back) back (arcs_longer (with_arc d (call_arc q a e x targets k)) arcs)
    (act_numbered called back)

-- ---- members

member_before : {X : Type 0} (xs : List X) (y x : X) → Member xs x → Member (xs ++ y ∷ []) x
member_before [] y x m = absurd m
member_before (z ∷ xs) y x (inl e) = inl e
member_before (z ∷ xs) y x (inr m) = inr (member_before xs y x m)

member_last : {X : Type 0} (xs : List X) (y : X) → Member (xs ++ y ∷ []) y
member_last [] y = inl refl
member_last (z ∷ xs) y = inr (member_last xs y)

-- ---- each edge is that of an arc

inside_later : (b : Arc) (arcs : List Arc) (acts : List MarkedAct) (q : ℕ) (x : Letter) (e : ℕ) → InsideOf arcs acts q x e → InsideOf (b ∷ arcs) acts q x e
inside_later b arcs acts q x e h = record { act = h.act; arc = inr h.arc; letter = h.letter }

call_later : (b : Arc) (arcs : List Arc) (acts : List MarkedAct) (q : ℕ) (x : Letter) (e : ℕ) → CallOf arcs acts q x e → CallOf (b ∷ arcs) acts q x e
call_later b arcs acts q x e h = record { act = h.act; from = h.from; targets = h.targets; behind = h.behind; arc = inr h.arc; letter = h.letter }

back_later : (b : Arc) (arcs : List Arc) (acts : List MarkedAct) (f q : ℕ) (x : Letter) (e : ℕ) → BackOf arcs acts f q x e → BackOf (b ∷ arcs) acts f q x e
back_later b arcs acts f q x e h = record { act = h.act; to = h.to; targets = h.targets; call = h.call; arc = inr h.arc; called = h.called; letter = h.letter }

inside_here : (d : Lettered) (q : ℕ) (a : MarkedAct) (e : ℕ) (arcs : List Arc) (p : ℕ) (x : Letter) (r : ℕ) →
    ◌≡◌ {A = ℕ × Letter × ℕ} (q, numbered_letter d.acts a, e) (p, x, r) →
    InsideOf (inside_arc q a e ∷ arcs) (with_arcs (with_arc d (inside_arc q a e)) arcs).acts p x r
inside_here d q a e arcs p x r is =
    let acts : List MarkedAct = (with_arcs (with_arc d (inside_arc q a e)) arcs).acts in
    let one : InsideOf (inside_arc q a e ∷ arcs) acts q (numbered_letter d.acts a) e =
    record { act = a; arc = inl refl; letter = (inside_letter d q a e arcs, refl) } in
    subst (λ (edge : ℕ × Letter × ℕ). InsideOf (inside_arc q a e ∷ arcs) acts edge.0 edge.1 edge.2) is one

pub insides_from : (d : Lettered) (arcs : List Arc) (p : ℕ) (x : Letter) (r : ℕ) → Member (with_arcs d arcs).insides (p, x, r) → Member d.insides (p, x, r) ⊎ InsideOf arcs (with_arcs d arcs).acts p x r
insides_from d [] p x r m = inl m
insides_from d (inside_arc q a e ∷ arcs) p x r m =
    elim (insides_from (with_arc d (inside_arc q a e)) arcs p x r m) [
      | inl k ↦ elim (before_or_last d.insides (q, numbered_letter d.acts a, e) (p, x, r) k) [ inl old ↦ inl old | inr is ↦ inr (inside_here d q a e arcs p x r is) ]
      | inr k ↦ inr (inside_later (inside_arc q a e) arcs (with_arcs (with_arc d (inside_arc q a e)) arcs).acts p x r k)
    ]
insides_from d (call_arc q a e f targets k ∷ arcs) p x r m =
    elim (insides_from (with_arc d (call_arc q a e f targets k)) arcs p x r m) [
      | inl old ↦ inl old
      | inr h ↦ inr (inside_later (call_arc q a e f targets k) arcs (with_arcs (with_arc d (call_arc q a e f targets k)) arcs).acts p x r h)
    ]

call_here : (d : Lettered) (q : ℕ) (a : MarkedAct) (e f : ℕ) (targets : List ℕ) (k : ℕ) (arcs : List Arc) (p : ℕ) (x : Letter) (r : ℕ) →
    ◌≡◌ {A = ℕ × Letter × ℕ} (q, numbered_letter d.acts a, e) (p, x, r) →
    CallOf (call_arc q a e f targets k ∷ arcs) (with_arcs (with_arc d (call_arc q a e f targets k)) arcs).acts p x r
call_here d q a e f targets k arcs p x r is =
    let acts : List MarkedAct = (with_arcs (with_arc d (call_arc q a e f targets k)) arcs).acts in
    let one : CallOf (call_arc q a e f targets k ∷ arcs) acts q (numbered_letter d.acts a) e =
    record { act = a; from = f; targets = targets; behind = k; arc = inl refl; letter = (call_letter d q a e f targets k arcs, refl) } in
    subst (λ (edge : ℕ × Letter × ℕ). CallOf (call_arc q a e f targets k ∷ arcs) acts edge.0 edge.1 edge.2) is one

pub calls_from : (d : Lettered) (arcs : List Arc) (p : ℕ) (x : Letter) (r : ℕ) → Member (with_arcs d arcs).calls (p, x, r) → Member d.calls (p, x, r) ⊎ CallOf arcs (with_arcs d arcs).acts p x r
calls_from d [] p x r m = inl m
calls_from d (inside_arc q a e ∷ arcs) p x r m =
    elim (calls_from (with_arc d (inside_arc q a e)) arcs p x r m) [
      | inl old ↦ inl old
      | inr h ↦ inr (call_later (inside_arc q a e) arcs (with_arcs (with_arc d (inside_arc q a e)) arcs).acts p x r h)
    ]
calls_from d (call_arc q a e f targets k ∷ arcs) p x r m =
    elim (calls_from (with_arc d (call_arc q a e f targets k)) arcs p x r m) [
      | inl h ↦ elim (before_or_last d.calls (q, numbered_letter d.acts a, e) (p, x, r) h) [ inl old ↦ inl old | inr is ↦ inr (call_here d q a e f targets k arcs p x r is) ]
      | inr h ↦ inr (call_later (call_arc q a e f targets k) arcs (with_arcs (with_arc d (call_arc q a e f targets k)) arcs).acts p x r h)
    ]

back_here : (d : Lettered) (q : ℕ) (a : MarkedAct) (e f : ℕ) (targets : List ℕ) (k : ℕ) (arcs : List Arc) (g p : ℕ) (x : Letter) (r : ℕ) →
    ◌≡◌ {A = ℕ × ℕ × Letter × ℕ} (f, q, numbered_letter (with_act d.acts a) (exact_act (back_act (act_number d.acts a) targets)), k) (g, p, x, r) →
    BackOf (call_arc q a e f targets k ∷ arcs) (with_arcs (with_arc d (call_arc q a e f targets k)) arcs).acts g p x r
back_here d q a e f targets k arcs g p x r is =
    let acts : List MarkedAct = (with_arcs (with_arc d (call_arc q a e f targets k)) arcs).acts in
    let back : Letter = numbered_letter (with_act d.acts a) (exact_act (back_act (act_number d.acts a) targets)) in
    let one : BackOf (call_arc q a e f targets k ∷ arcs) acts f q back k =
    record { act = a; to = e; targets = targets; call = act_number d.acts a; arc = inl refl; called = call_letter d q a e f targets k arcs; letter = (back_letter d q a e f targets k arcs, refl) } in
    subst (λ (edge : ℕ × ℕ × Letter × ℕ). BackOf (call_arc q a e f targets k ∷ arcs) acts edge.0 edge.1 edge.2 edge.3) is one

pub backs_from : (d : Lettered) (arcs : List Arc) (g p : ℕ) (x : Letter) (r : ℕ) → Member (with_arcs d arcs).backs (g, p, x, r) → Member d.backs (g, p, x, r) ⊎ BackOf arcs (with_arcs d arcs).acts g p x r
backs_from d [] g p x r m = inl m
backs_from d (inside_arc q a e ∷ arcs) g p x r m =
    elim (backs_from (with_arc d (inside_arc q a e)) arcs g p x r m) [
      | inl old ↦ inl old
      | inr h ↦ inr (back_later (inside_arc q a e) arcs (with_arcs (with_arc d (inside_arc q a e)) arcs).acts g p x r h)
    ]
backs_from d (call_arc q a e f targets k ∷ arcs) g p x r m =
    elim (backs_from (with_arc d (call_arc q a e f targets k)) arcs g p x r m) [
      | inl h ↦ elim (before_or_last d.backs (f, q, numbered_letter (with_act d.acts a) (exact_act (back_act (act_number d.acts a) targets)), k) (g, p, x, r) h) [
        | inl old ↦ inl old
        | inr is ↦ inr (back_here d q a e f targets k arcs g p x r is)
      ]
      | inr h ↦ inr (back_later (call_arc q a e f targets k) arcs (with_arcs (with_arc d (call_arc q a e f targets k)) arcs).acts g p x r h)
    ]

-- ---- what is there stays

arc_insides_stay : (d : Lettered) (a : Arc) (edge : ℕ × Letter × ℕ) → Member d.insides edge → Member (with_arc d a).insides edge
arc_insides_stay d (inside_arc q a e) edge m = member_before d.insides (q, numbered_letter d.acts a, e) edge m
arc_insides_stay d (call_arc q a e f targets k) edge m = m

arc_calls_stay : (d : Lettered) (a : Arc) (edge : ℕ × Letter × ℕ) → Member d.calls edge → Member (with_arc d a).calls edge
arc_calls_stay d (inside_arc q a e) edge m = m
arc_calls_stay d (call_arc q a e f targets k) edge m = member_before d.calls (q, numbered_letter d.acts a, e) edge m

arc_backs_stay : (d : Lettered) (a : Arc) (edge : ℕ × ℕ × Letter × ℕ) → Member d.backs edge → Member (with_arc d a).backs edge
arc_backs_stay d (inside_arc q a e) edge m = m
arc_backs_stay d (call_arc q a e f targets k) edge m = member_before d.backs (f, q, numbered_letter (with_act d.acts a) (exact_act (back_act (act_number d.acts a) targets)), k) edge m

insides_stay : (d : Lettered) (arcs : List Arc) (edge : ℕ × Letter × ℕ) → Member d.insides edge → Member (with_arcs d arcs).insides edge
insides_stay d [] edge m = m
insides_stay d (a ∷ arcs) edge m = insides_stay (with_arc d a) arcs edge (arc_insides_stay d a edge m)

calls_stay : (d : Lettered) (arcs : List Arc) (edge : ℕ × Letter × ℕ) → Member d.calls edge → Member (with_arcs d arcs).calls edge
calls_stay d [] edge m = m
calls_stay d (a ∷ arcs) edge m = calls_stay (with_arc d a) arcs edge (arc_calls_stay d a edge m)

backs_stay : (d : Lettered) (arcs : List Arc) (edge : ℕ × ℕ × Letter × ℕ) → Member d.backs edge → Member (with_arcs d arcs).backs edge
backs_stay d [] edge m = m
backs_stay d (a ∷ arcs) edge m = backs_stay (with_arc d a) arcs edge (arc_backs_stay d a edge m)

-- ---- each arc has its edges

-- an inside arc has the edge by some letter with its act
pub record HasInside (d : Lettered) (q : ℕ) (a : MarkedAct) (e : ℕ) : Type 0 where
  pub id : ℕ
  pub act : slice_get d.acts id ≡ Some a
  pub edge : Member d.insides (q, letter_of id a.act, e)

-- a call has its edge, and the one of its return
pub record HasCall (d : Lettered) (q : ℕ) (a : MarkedAct) (e f : ℕ) (targets : List ℕ) (k : ℕ) : Type 0 where
  pub id : ℕ
  pub back : ℕ
  pub act : slice_get d.acts id ≡ Some a
  pub back_is : slice_get d.acts back ≡ Some (exact_act (back_act id targets))
  pub edge : Member d.calls (q, letter_of id a.act, e)
  pub back_edge : Member d.backs (f, q, letter_of back (back_act id targets), k)

-- the arc is the first one
inside_first : (d : Lettered) (b : Arc) (arcs : List Arc) (q : ℕ) (a : MarkedAct) (e : ℕ) → b ≡ inside_arc q a e → HasInside (with_arcs (with_arc d b) arcs) q a e
inside_first d b arcs q a e is =
    let one : HasInside (with_arcs (with_arc d (inside_arc q a e)) arcs) q a e =
    record {
      id = act_number d.acts a;
      act = inside_letter d q a e arcs;
      edge = insides_stay (with_arc d (inside_arc q a e)) arcs (q, numbered_letter d.acts a, e) (member_last d.insides (q, numbered_letter d.acts a, e));
    } in
    subst (λ (c : Arc). HasInside (with_arcs (with_arc d c) arcs) q a e) (sym is) one

pub inside_lettered : (d : Lettered) (arcs : List Arc) (q : ℕ) (a : MarkedAct) (e : ℕ) → Member arcs (inside_arc q a e) → HasInside (with_arcs d arcs) q a e
inside_lettered d [] q a e m = absurd m
inside_lettered d (b ∷ arcs) q a e (inl is) = inside_first d b arcs q a e is
inside_lettered d (b ∷ arcs) q a e (inr m) = inside_lettered (with_arc d b) arcs q a e m

call_first : (d : Lettered) (b : Arc) (arcs : List Arc) (q : ℕ) (a : MarkedAct) (e f : ℕ) (targets : List ℕ) (k : ℕ) → b ≡ call_arc q a e f targets k →
    HasCall (with_arcs (with_arc d b) arcs) q a e f targets k
call_first d b arcs q a e f targets k is =
    let arc : Arc = call_arc q a e f targets k in
    let back : MarkedAct = exact_act (back_act (act_number d.acts a) targets) in
    let one : HasCall (with_arcs (with_arc d arc) arcs) q a e f targets k =
    record {
      id = act_number d.acts a;
      back = act_number (with_act d.acts a) back;
      act = call_letter d q a e f targets k arcs;
      back_is = back_letter d q a e f targets k arcs;
      edge = calls_stay (with_arc d arc) arcs (q, numbered_letter d.acts a, e) (member_last d.calls (q, numbered_letter d.acts a, e));
      back_edge = backs_stay (with_arc d arc) arcs (f, q, numbered_letter (with_act d.acts a) back, k) (member_last d.backs (f, q, numbered_letter (with_act d.acts a) back, k));
    } in
    subst (λ (c : Arc). HasCall (with_arcs (with_arc d c) arcs) q a e f targets k) (sym is) one

pub call_lettered : (d : Lettered) (arcs : List Arc) (q : ℕ) (a : MarkedAct) (e f : ℕ) (targets : List ℕ) (k : ℕ) → Member arcs (call_arc q a e f targets k) →
    HasCall (with_arcs d arcs) q a e f targets k
call_lettered d [] q a e f targets k m = absurd m
call_lettered d (b ∷ arcs) q a e f targets k (inl is) = call_first d b arcs q a e f targets k is
call_lettered d (b ∷ arcs) q a e f targets k (inr m) = call_lettered (with_arc d b) arcs q a e f targets k m

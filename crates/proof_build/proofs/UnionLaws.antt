-- The union of automata by number grows by one of them.
use Rattle.std.proofs.Common.{◌≡◌, ◌∙◌, ◌⊎◌, ℕ, List, [], ◌∷◌, ◌++◌, Option, None, Some, refl, sym, ap, subst, inl, inr}
use Rattle.std.specs.Prelude.{Result, Ok, OnOk}
use Rattle.std.specs.List.{filter_map, cons_option}
use Rattle.std.specs.Option.{option_map}
use Rattle.nwa_base.specs.declared.letters.Letter.{Letter}
use Rattle.nwa_base.specs.Members.{Member}
use Rattle.nwa_base.specs.Automata.{Automaton}
use Rattle.nwa_base.proofs.MemberLemmas.{member_front, member_rest, member_split}
use Rattle.triple_rows.specs.declared.triples.Scoped.{Scoped}
use Rattle.itp_automaton.specs.Certified.{Certificate}
use Rattle.proof_names.specs.Options.{both}
use Rattle.proof_build.specs.Numbering.{AreNumbers}
use Rattle.proof_build.specs.Ties.Unions.{numbered, numbered_back, with_edges, IsInsideOf, IsCallOf, IsBackOf, HasEdgesOf, IsUnionOf}

-- ---- members of what is made

passed_first : {Y : Type 0} (o : Option Y) (ys : List Y) (y : Y) → o ≡ Some y → Member (cons_option o ys) y
passed_first None ys y e = absurd (cc)
passed_first (Some z) ys y e = inl (cc)

passed_rest : {Y : Type 0} (o : Option Y) (ys : List Y) (y : Y) → Member ys y → Member (cons_option o ys) y
passed_rest None ys y m = m
passed_rest (Some z) ys y m = inr m

passed : {X Y : Type 0} (f : X → Option Y) (xs : List X) (x : X) (y : Y) → Member xs x → f x ≡ Some y → Member (filter_map f xs) y
passed f [] x y m e = absurd m
passed f (z ∷ xs) x y (inl k) e = passed_first (f z) (filter_map f xs) y (ap f k ∙ e)
passed f (z ∷ xs) x y (inr m) e = passed_rest (f z) (filter_map f xs) y (passed f xs x y m e)

split_first : {Y : Type 0} (o : Option Y) (ys : List Y) (y : Y) → Member (cons_option o ys) y → (o ≡ Some y) ⊎ Member ys y
split_first None ys y m = inr m
split_first (Some z) ys y (inl e) = inl (ap Some e)
split_first (Some z) ys y (inr m) = inr m

made_of : {X Y : Type 0} (f : X → Option Y) (xs : List X) (y : Y) → Member (filter_map f xs) y → (x : X) × Member xs x × (f x ≡ Some y)
made_of f [] y m = absurd m
made_of f (z ∷ xs) y m = by_first (split_first (f z) (filter_map f xs) y m) (made_of f xs y)
  where
    by_first : (f z ≡ Some y) ⊎ Member (filter_map f xs) y → (Member (filter_map f xs) y → (x : _) × Member xs x × (f x ≡ Some y)) → (x : _) × Member (z ∷ xs) x × (f x ≡ Some y)
    by_first (inl e) r = (z, inl refl, e)
    by_first (inr k) r = let s = r k in (s.0, inr s.1, s.2)

-- ---- edges by number

number_edge : (number : ℕ → Option ℕ) (x y q r : ℕ) (a : Letter) → number x ≡ Some q → number y ≡ Some r → numbered number (x, a, y) ≡ Some (q, a, r)
number_edge number x y q r a e f = λ j. option_map (λ n. (n.0, a, n.1)) (both (e j) (f j))

number_back : (number : ℕ → Option ℕ) (x z y q p r : ℕ) (a : Letter) → number x ≡ Some q → number z ≡ Some p → number y ≡ Some r → numbered_back number (x, z, a, y) ≡ Some (q, p, a, r)
number_back number x z y q p r a e g f = λ j. option_map (λ n. (n.0, n.1.0, a, n.1.1)) (both (e j) (both (g j) (f j)))

record EdgeIs (o p : Option ℕ) (b : Letter) (q r : ℕ) (a : Letter) : Type 0 where
  source : o ≡ Some q
  target : p ≡ Some r
  letter : b ≡ a

edge_is : (o p : Option ℕ) (b : Letter) (q r : ℕ) (a : Letter) → option_map {U = ℕ × Letter × ℕ} (λ (n : ℕ × ℕ). (n.0, b, n.1)) (both o p) ≡ Some (q, a, r) → EdgeIs o p b q r a
edge_is None p b q r a e = absurd (cc)
edge_is (Some x) None b q r a e = absurd (cc)
edge_is (Some x) (Some y) b q r a e =
    let k : ◌≡◌ {A = ℕ × Letter × ℕ} (x, b, y) (q, a, r) = cc in
    record { source = ap (λ (t : ℕ × Letter × ℕ). Some t.0) k; target = ap (λ (t : ℕ × Letter × ℕ). Some t.2) k; letter = ap (λ (t : ℕ × Letter × ℕ). t.1) k }

record BackIs (o w p : Option ℕ) (b : Letter) (q m r : ℕ) (a : Letter) : Type 0 where
  source : o ≡ Some q
  caller : w ≡ Some m
  target : p ≡ Some r
  letter : b ≡ a

back_is : (o w p : Option ℕ) (b : Letter) (q m r : ℕ) (a : Letter) → option_map {U = ℕ × ℕ × Letter × ℕ} (λ (n : ℕ × (ℕ × ℕ)). (n.0, n.1.0, b, n.1.1)) (both o (both w p)) ≡ Some (q, m, a, r) → BackIs o w p b q m r a
back_is None w p b q m r a e = absurd (cc)
back_is (Some x) None p b q m r a e = absurd (cc)
back_is (Some x) (Some z) None b q m r a e = absurd (cc)
back_is (Some x) (Some z) (Some y) b q m r a e =
    let k : ◌≡◌ {A = ℕ × ℕ × Letter × ℕ} (x, z, b, y) (q, m, a, r) = cc in
    record {
      source = ap (λ (t : ℕ × ℕ × Letter × ℕ). Some t.0) k;
      caller = ap (λ (t : ℕ × ℕ × Letter × ℕ). Some t.1) k;
      target = ap (λ (t : ℕ × ℕ × Letter × ℕ). Some t.3) k;
      letter = ap (λ (t : ℕ × ℕ × Letter × ℕ). t.2) k;
    }

-- ---- one automaton more

inside_before : (preds : List Scoped) (cs : List Certificate) (c : Certificate) (q r : ℕ) (a : Letter) → IsInsideOf preds cs q a r → IsInsideOf preds (cs ++ c ∷ []) q a r
inside_before preds cs c q r a h = record {
  certificate = h.certificate;
  among = member_front cs (c ∷ []) h.certificate h.among;
  number = h.number;
  numbers = h.numbers;
  x = h.x;
  y = h.y;
  edge = h.edge;
  source = h.source;
  target = h.target;
}

call_before : (preds : List Scoped) (cs : List Certificate) (c : Certificate) (q r : ℕ) (a : Letter) → IsCallOf preds cs q a r → IsCallOf preds (cs ++ c ∷ []) q a r
call_before preds cs c q r a h = record {
  certificate = h.certificate;
  among = member_front cs (c ∷ []) h.certificate h.among;
  number = h.number;
  numbers = h.numbers;
  x = h.x;
  y = h.y;
  edge = h.edge;
  source = h.source;
  target = h.target;
}

back_before : (preds : List Scoped) (cs : List Certificate) (c : Certificate) (q p r : ℕ) (a : Letter) → IsBackOf preds cs q p a r → IsBackOf preds (cs ++ c ∷ []) q p a r
back_before preds cs c q p r a h = record {
  certificate = h.certificate;
  among = member_front cs (c ∷ []) h.certificate h.among;
  number = h.number;
  numbers = h.numbers;
  x = h.x;
  z = h.z;
  y = h.y;
  edge = h.edge;
  source = h.source;
  caller = h.caller;
  target = h.target;
}

last : {X : Type 0} (xs : List X) (x : X) → Member (xs ++ x ∷ []) x
last xs x = member_rest xs (x ∷ []) x (inl refl)

module _ (preds : List Scoped) (cs : List Certificate) (c : Certificate) (number : ℕ → Option ℕ) (u : Automaton) (n : AreNumbers preds c.preds number) where
  inside_new : (q r : ℕ) (a : Letter) → Member (filter_map (numbered number) c.automaton.insides) (q, a, r) → IsInsideOf preds (cs ++ c ∷ []) q a r
  inside_new q r a m =
      let e = made_of (numbered number) c.automaton.insides (q, a, r) m in
      let k = edge_is (number e.0.0) (number e.0.2) e.0.1 q r a e.2 in
      record {
        certificate = c;
        among = last cs c;
        number = number;
        numbers = n;
        x = e.0.0;
        y = e.0.2;
        edge = subst (λ (l : Letter). Member c.automaton.insides (e.0.0, l, e.0.2)) k.letter e.1;
        source = k.source;
        target = k.target;
      }

  call_new : (q r : ℕ) (a : Letter) → Member (filter_map (numbered number) c.automaton.calls) (q, a, r) → IsCallOf preds (cs ++ c ∷ []) q a r
  call_new q r a m =
      let e = made_of (numbered number) c.automaton.calls (q, a, r) m in
      let k = edge_is (number e.0.0) (number e.0.2) e.0.1 q r a e.2 in
      record {
        certificate = c;
        among = last cs c;
        number = number;
        numbers = n;
        x = e.0.0;
        y = e.0.2;
        edge = subst (λ (l : Letter). Member c.automaton.calls (e.0.0, l, e.0.2)) k.letter e.1;
        source = k.source;
        target = k.target;
      }

  back_new : (q p r : ℕ) (a : Letter) → Member (filter_map (numbered_back number) c.automaton.backs) (q, p, a, r) → IsBackOf preds (cs ++ c ∷ []) q p a r
  back_new q p r a m =
      let e = made_of (numbered_back number) c.automaton.backs (q, p, a, r) m in
      let k = back_is (number e.0.0) (number e.0.1) (number e.0.3) e.0.2 q p r a e.2 in
      record {
        certificate = c;
        among = last cs c;
        number = number;
        numbers = n;
        x = e.0.0;
        z = e.0.1;
        y = e.0.3;
        edge = subst (λ (l : Letter). Member c.automaton.backs (e.0.0, e.0.1, l, e.0.3)) k.letter e.1;
        source = k.source;
        caller = k.caller;
        target = k.target;
      }

  kept_edges : (d : Certificate) → HasEdgesOf preds u d → HasEdgesOf preds (with_edges number c.automaton u) d
  kept_edges d h = record {
    number = h.number;
    numbers = h.numbers;
    insides = λ x y q r a m e f. member_front u.insides (filter_map (numbered number) c.automaton.insides) (q, a, r) (h.insides x y q r a m e f);
    calls = λ x y q r a m e f. member_front u.calls (filter_map (numbered number) c.automaton.calls) (q, a, r) (h.calls x y q r a m e f);
    backs = λ x z y q p r a m e k f. member_front u.backs (filter_map (numbered_back number) c.automaton.backs) (q, p, a, r) (h.backs x z y q p r a m e k f);
  }

  own_edges : HasEdgesOf preds (with_edges number c.automaton u) c
  own_edges = record {
    number = number;
    numbers = n;
    insides = λ x y q r a m e f. member_rest u.insides (filter_map (numbered number) c.automaton.insides) (q, a, r)
        (passed (numbered number) c.automaton.insides (x, a, y) (q, a, r) m (number_edge number x y q r a e f));
    calls = λ x y q r a m e f. member_rest u.calls (filter_map (numbered number) c.automaton.calls) (q, a, r)
        (passed (numbered number) c.automaton.calls (x, a, y) (q, a, r) m (number_edge number x y q r a e f));
    backs = λ x z y q p r a m e k f. member_rest u.backs (filter_map (numbered_back number) c.automaton.backs) (q, p, a, r)
        (passed (numbered_back number) c.automaton.backs (x, z, a, y) (q, p, a, r) m (number_back number x z y q p r a e k f));
  }

  each_edges : IsUnionOf preds cs u → (d : Certificate) → Member (cs ++ c ∷ []) d → HasEdgesOf preds (with_edges number c.automaton u) d
  each_edges h d m = elim (member_split cs (c ∷ []) d m) [
    | inl k ↦ kept_edges d (h.each d k)
    | inr k ↦ elim k [ inl e ↦ subst (λ (x : Certificate). HasEdgesOf preds (with_edges number c.automaton u) x) e own_edges | inr none ↦ absurd none ]
  ]

  pub union_more : (new : Automaton) → IsUnionOf preds cs u → new ≡ with_edges number c.automaton u → IsUnionOf preds (cs ++ c ∷ []) new
  union_more new h is =
      let grown : IsUnionOf preds (cs ++ c ∷ []) (with_edges number c.automaton u) = record {
        over = record { start = h.over.start; finals = h.over.finals };
        each = each_edges h;
        insides = λ q r a m. elim (member_split u.insides (filter_map (numbered number) c.automaton.insides) (q, a, r) m) [
          | inl k ↦ inside_before preds cs c q r a (h.insides q r a k)
          | inr k ↦ inside_new q r a k
        ];
        calls = λ q r a m. elim (member_split u.calls (filter_map (numbered number) c.automaton.calls) (q, a, r) m) [
          | inl k ↦ call_before preds cs c q r a (h.calls q r a k)
          | inr k ↦ call_new q r a k
        ];
        backs = λ q p r a m. elim (member_split u.backs (filter_map (numbered_back number) c.automaton.backs) (q, p, a, r) m) [
          | inl k ↦ back_before preds cs c q p r a (h.backs q p r a k)
          | inr k ↦ back_new q p r a k
        ];
      } in
      subst (λ (v : Automaton). IsUnionOf preds (cs ++ c ∷ []) v) (sym is) grown

-- ---- the union of none

none_united : (preds : List Scoped) (count : ℕ) → IsUnionOf preds [] (record { states = count; start = 0; finals = 1 ∷ []; insides = []; calls = []; backs = [] })
none_united preds count = record {
  over = record { start = refl; finals = λ q m. elim m [ inl e ↦ sym e | inr z ↦ absurd z ] };
  each = λ c m. absurd m;
  insides = λ q r a m. absurd m;
  calls = λ q r a m. absurd m;
  backs = λ q p r a m. absurd m;
}

pub union_none : {T E : Type 0} (preds : List Scoped) (e u : Automaton) (count : ℕ) (r : Result T E) (t : T) →
    e ≡ record { states = count; start = 0; finals = []; insides = []; calls = []; backs = [] } → r ≡ Ok t → OnOk r (u ≡ record e { finals = e.finals ++ 1 ∷ [] }) →
    IsUnionOf preds [] u
union_none {T} {E} preds e u count r t b k h =
    let m = subst (λ (z : Result T E). OnOk z (u ≡ record e { finals = e.finals ++ 1 ∷ [] })) k h in
    subst (λ (z : Automaton). IsUnionOf preds [] z) (sym (m ∙ ap (λ (z : Automaton). record z { finals = z.finals ++ 1 ∷ [] }) b)) (none_united preds count)

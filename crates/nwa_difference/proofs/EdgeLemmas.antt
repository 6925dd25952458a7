-- A product with one edge more.
use Rattle.std.proofs.Common.{◌≡◌, ◌⊎◌, ◌<◌, ℕ, List, [], ◌∷◌, ◌++◌, length, refl, sym, subst, inl, inr, arith, append-nil}
use Rattle.nwa_base.specs.declared.letters.Kind.TheVariants as kinds
use Rattle.nwa_base.specs.declared.letters.Letter.{Letter}
use Rattle.nwa_base.specs.Members.{Member}
use Rattle.nwa_base.specs.Automata.{Automaton, IsEdge, IsBackEdge}
use Rattle.nwa_base.specs.Pairs.{IsInsideOf, IsCallOf, IsBackOf}
use Rattle.nwa_base.proofs.MemberLemmas.{member_front, member_rest, member_split}
use Rattle.nwa_determinise.proofs.KeptLemmas.{grows_none}
use Rattle.nwa_difference.specs.Ties.Making.{Made, first_at, set_of, IsMade, Extends, Nowhere, NoReturn, Only, OnlyReturn, IsInsideEnd, IsCallEnd, IsBackEnd, HasInside, HasCall, HasBack}
use Rattle.nwa_difference.proofs.MakingLemmas.{all_push}

abbrev Edge : Type 0
Edge = ℕ × Letter × ℕ

abbrev BackEdge : Type 0
BackEdge = ℕ × ℕ × Letter × ℕ

-- a member of the list with one more
pushed : {X : Type 0} (P : X → Type 0) (xs : List X) (x y : X) → ((z : X) → Member xs z → P z) → P x → Member (xs ++ x ∷ []) y → P y
pushed P xs x y h p m = elim (member_split xs (x ∷ []) y m) [ inl a ↦ h y a | inr b ↦ elim b [ inl e ↦ subst P e p | inr n ↦ absurd n ] ]

abbrev InsideIs : Made → Edge → Type 0
InsideIs p e = Member p.first.insides (first_at p e.0, e.1, first_at p e.2) × IsInsideOf p.sets.nwa e.1 (set_of p e.0) (set_of p e.2)

abbrev CallIs : Made → Edge → Type 0
CallIs p e = Member p.first.calls (first_at p e.0, e.1, first_at p e.2) × IsCallOf p.sets.nwa e.1 (set_of p e.0) (set_of p e.2)

abbrev BackIs : Made → BackEdge → Type 0
BackIs p e =
    Member p.first.backs (first_at p e.0, first_at p e.1, e.2, first_at p e.3) × IsBackOf p.sets.nwa e.2 (set_of p e.1) (set_of p e.0) (set_of p e.3)

-- the product with an edge by an inside letter
abbrev pub with_inside : Made → ℕ → Letter → ℕ → Made
with_inside p x l y = record p { product = record p.product { insides = p.product.insides ++ (x, l, y) ∷ [] } }

inside_made : (p : Made) (x : ℕ) (l : Letter) (e y : ℕ) → IsMade p → x < length p.states → l.kind ≡ kinds.Inside →
    Member p.first.insides (first_at p x, l, e) → IsInsideEnd p x l e y → IsMade (with_inside p x l y)
inside_made p x l e y v i k m n =
    let c = v.count in
    let j = n.within in
    let is : InsideIs p (x, l, y) = (subst (λ (z : ℕ). Member p.first.insides (first_at p x, l, z)) (sym n.first) m, n.set) in
    record {
      automaton = record {
        start = v.automaton.start;
        finals = v.automaton.finals;
        insides =
            all_push (IsEdge p.product.states kinds.Inside) p.product.insides (x, l, y) v.automaton.insides
            (record { «from» = omega arith; to = omega arith; letter = k });
        calls = v.automaton.calls;
        backs = v.automaton.backs;
      };
      count = v.count;
      small = v.small;
      covers = v.covers;
      numbers = v.numbers;
      are = record {
        inside = λ z w a h. pushed (InsideIs p) p.product.insides (x, l, y) (z, a, w) (λ q g. v.are.inside q.0 q.2 q.1 g) is h;
        call = v.are.call;
        back = v.are.back;
      };
      finals = v.finals;
      start = v.start;
      start_set = v.start_set;
    }

pub inside_added : (p : Made) (x : ℕ) (l : Letter) (e y : ℕ) (product : Automaton) → IsMade p → x < length p.states → l.kind ≡ kinds.Inside →
    Member p.first.insides (first_at p x, l, e) → IsInsideEnd p x l e y → product ≡ (with_inside p x l y).product →
    Extends p (record p { product = product }) (Only x) NoReturn × HasInside (record p { product = product }) x l e
inside_added p x l e y product v i k m n f =
    subst (λ (d : Automaton). Extends p (record p { product = d }) (Only x) NoReturn × HasInside (record p { product = d }) x l e) (sym f) (
      record {
        made = inside_made p x l e y v i k m n;
        first = refl;
        sets = grows_none p.sets;
        more = [];
        states = sym (append-nil p.states);
        start = refl;
        insides = λ q h. member_front p.product.insides ((x, l, y) ∷ []) q h;
        calls = λ q h. h;
        backs = λ q h. h;
        new_insides = λ q h.
            pushed (λ (z : Edge). Member p.product.insides z ⊎ Only x z.0) p.product.insides (x, l, y) q (λ z g. inl g) (inr refl) h;
        new_calls = λ q h. inl h;
        new_backs = λ q h. inl h;
      },
      inl (y, member_rest p.product.insides ((x, l, y) ∷ []) (x, l, y) (inl refl), n.first),
    )

-- the product with an edge by a call letter
abbrev pub with_call : Made → ℕ → Letter → ℕ → Made
with_call p x l y = record p { product = record p.product { calls = p.product.calls ++ (x, l, y) ∷ [] } }

call_made : (p : Made) (x : ℕ) (l : Letter) (e y : ℕ) → IsMade p → x < length p.states → l.kind ≡ kinds.Call →
    Member p.first.calls (first_at p x, l, e) → IsCallEnd p x l e y → IsMade (with_call p x l y)
call_made p x l e y v i k m n =
    let c = v.count in
    let j = n.within in
    let is : CallIs p (x, l, y) = (subst (λ (z : ℕ). Member p.first.calls (first_at p x, l, z)) (sym n.first) m, n.set) in
    record {
      automaton = record {
        start = v.automaton.start;
        finals = v.automaton.finals;
        insides = v.automaton.insides;
        calls =
            all_push (IsEdge p.product.states kinds.Call) p.product.calls (x, l, y) v.automaton.calls
            (record { «from» = omega arith; to = omega arith; letter = k });
        backs = v.automaton.backs;
      };
      count = v.count;
      small = v.small;
      covers = v.covers;
      numbers = v.numbers;
      are = record {
        inside = v.are.inside;
        call = λ z w a h. pushed (CallIs p) p.product.calls (x, l, y) (z, a, w) (λ q g. v.are.call q.0 q.2 q.1 g) is h;
        back = v.are.back;
      };
      finals = v.finals;
      start = v.start;
      start_set = v.start_set;
    }

pub call_added : (p : Made) (x : ℕ) (l : Letter) (e y : ℕ) (product : Automaton) → IsMade p → x < length p.states → l.kind ≡ kinds.Call →
    Member p.first.calls (first_at p x, l, e) → IsCallEnd p x l e y → product ≡ (with_call p x l y).product →
    Extends p (record p { product = product }) (Only x) NoReturn × HasCall (record p { product = product }) x l e
call_added p x l e y product v i k m n f =
    subst (λ (d : Automaton). Extends p (record p { product = d }) (Only x) NoReturn × HasCall (record p { product = d }) x l e) (sym f) (
      record {
        made = call_made p x l e y v i k m n;
        first = refl;
        sets = grows_none p.sets;
        more = [];
        states = sym (append-nil p.states);
        start = refl;
        insides = λ q h. h;
        calls = λ q h. member_front p.product.calls ((x, l, y) ∷ []) q h;
        backs = λ q h. h;
        new_insides = λ q h. inl h;
        new_calls = λ q h.
            pushed (λ (z : Edge). Member p.product.calls z ⊎ Only x z.0) p.product.calls (x, l, y) q (λ z g. inl g) (inr refl) h;
        new_backs = λ q h. inl h;
      },
      inl (y, member_rest p.product.calls ((x, l, y) ∷ []) (x, l, y) (inl refl), n.first),
    )

-- the product with an edge by a return
abbrev pub with_back : Made → ℕ → ℕ → Letter → ℕ → Made
with_back p x w l y = record p { product = record p.product { backs = p.product.backs ++ (x, w, l, y) ∷ [] } }

back_made : (p : Made) (x w : ℕ) (l : Letter) (e y : ℕ) → IsMade p → x < length p.states → w < length p.states → l.kind ≡ kinds.Back →
    Member p.first.backs (first_at p x, first_at p w, l, e) → IsBackEnd p x w l e y → IsMade (with_back p x w l y)
back_made p x w l e y v i o k m n =
    let c = v.count in
    let j = n.within in
    let is : BackIs p (x, w, l, y) = (subst (λ (z : ℕ). Member p.first.backs (first_at p x, first_at p w, l, z)) (sym n.first) m, n.set) in
    record {
      automaton = record {
        start = v.automaton.start;
        finals = v.automaton.finals;
        insides = v.automaton.insides;
        calls = v.automaton.calls;
        backs =
            all_push (IsBackEdge p.product.states) p.product.backs (x, w, l, y) v.automaton.backs
            (record { «from» = omega arith; before = omega arith; to = omega arith; letter = k });
      };
      count = v.count;
      small = v.small;
      covers = v.covers;
      numbers = v.numbers;
      are = record {
        inside = v.are.inside;
        call = v.are.call;
        back = λ z u t a h. pushed (BackIs p) p.product.backs (x, w, l, y) (z, u, a, t) (λ q g. v.are.back q.0 q.1 q.3 q.2 g) is h;
      };
      finals = v.finals;
      start = v.start;
      start_set = v.start_set;
    }

pub back_added : (p : Made) (x w : ℕ) (l : Letter) (e y : ℕ) (product : Automaton) → IsMade p → x < length p.states → w < length p.states →
    l.kind ≡ kinds.Back → Member p.first.backs (first_at p x, first_at p w, l, e) → IsBackEnd p x w l e y →
    product ≡ (with_back p x w l y).product →
    Extends p (record p { product = product }) Nowhere (OnlyReturn x w) × HasBack (record p { product = product }) x w l e
back_added p x w l e y product v i o k m n f =
    subst (λ (d : Automaton). Extends p (record p { product = d }) Nowhere (OnlyReturn x w) × HasBack (record p { product = d }) x w l e) (sym f) (
      record {
        made = back_made p x w l e y v i o k m n;
        first = refl;
        sets = grows_none p.sets;
        more = [];
        states = sym (append-nil p.states);
        start = refl;
        insides = λ q h. h;
        calls = λ q h. h;
        backs = λ q h. member_front p.product.backs ((x, w, l, y) ∷ []) q h;
        new_insides = λ q h. inl h;
        new_calls = λ q h. inl h;
        new_backs = λ q h.
            pushed (λ (z : BackEdge). Member p.product.backs z ⊎ OnlyReturn x w z.0 z.1) p.product.backs (x, w, l, y) q (λ z g. inl g) (inr (refl, refl)) h;
      },
      inl (y, member_rest p.product.backs ((x, w, l, y) ∷ []) (x, w, l, y) (inl refl), n.first),
    )

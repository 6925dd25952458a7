-- An edge that is added to a product.
use Rattle.std.proofs.Common.{◌≡◌, ◌≢◌, ◌<◌, ◌↔◌, ℕ, length, Result, Ok, Err, sym, subst}
use Rattle.std.specs.Result.{OnOk}
use Rattle.nwa_base.specs.declared.letters.Kind.TheVariants as kinds
use Rattle.nwa_base.specs.declared.letters.Letter.{Letter}
use Rattle.nwa_base.specs.declared.faults.NwaFault.{NwaFault}
use Rattle.nwa_base.specs.declared.faults.NwaFault.TheVariants as faults
use Rattle.nwa_base.specs.Members.{Member}
use Rattle.nwa_base.specs.Automata.{Automaton}
use Rattle.nwa_difference.specs.Ties.Making.{Made, first_at, IsMade, Extends, Nowhere, NoReturn, Only, OnlyReturn, IsInsideEnd, IsCallEnd, IsBackEnd, HasInside, HasCall, HasBack}
use Rattle.nwa_difference.proofs.MakingLemmas.{at_ok}
use Rattle.nwa_difference.proofs.GrowingLemmas.{extends_on, extends_more, within_stays, first_stays, is_inside, is_call, is_back, no_fault}
use Rattle.nwa_difference.proofs.EdgeLemmas.{with_inside, with_call, with_back, inside_added, call_added, back_added}

-- the letter has its kind, since it was added
inside_kind : {X : Type 0} (states q to : ℕ) (l : Letter) (r : Result X NwaFault) (x : X) → q < states → to < states → r ≡ Ok x →
    (r ≡ Err faults.BadLetter) ↔ ((q < states) × (to < states) × (l.kind ≢ kinds.Inside)) → l.kind ≡ kinds.Inside
inside_kind states q to l r x i j e f = is_inside l.kind (λ n. no_fault r x faults.BadLetter e (f.1 (i, j, n)))

call_kind : {X : Type 0} (states q to : ℕ) (l : Letter) (r : Result X NwaFault) (x : X) → q < states → to < states → r ≡ Ok x →
    (r ≡ Err faults.BadLetter) ↔ ((q < states) × (to < states) × (l.kind ≢ kinds.Call)) → l.kind ≡ kinds.Call
call_kind states q to l r x i j e f = is_call l.kind (λ n. no_fault r x faults.BadLetter e (f.1 (i, j, n)))

back_kind : {X : Type 0} (states q p to : ℕ) (l : Letter) (r : Result X NwaFault) (x : X) → q < states → p < states → to < states → r ≡ Ok x →
    (r ≡ Err faults.BadLetter) ↔ ((q < states) × (p < states) × (to < states) × (l.kind ≢ kinds.Back)) → l.kind ≡ kinds.Back
back_kind states q p to l r x i k j e f = is_back l.kind (λ n. no_fault r x faults.BadLetter e (f.1 (i, k, j, n)))

state_within : (p : Made) (x : ℕ) → IsMade p → x < length p.states → x < p.product.states
state_within p x v l = subst (λ (n : ℕ). x < n) v.count l

pub inside_step : {X : Type 0} (a b : Made) (x : ℕ) (l : Letter) (e y : ℕ) (product : Automaton) (r : Result X NwaFault) (u : X) →
    x < length a.states → Member a.first.insides (first_at a x, l, e) → Extends a b Nowhere NoReturn → IsInsideEnd b x l e y → r ≡ Ok u →
    OnOk r (product ≡ (with_inside b x l y).product) →
    (r ≡ Err faults.BadLetter) ↔ ((x < b.product.states) × (y < b.product.states) × (l.kind ≢ kinds.Inside)) →
    Extends a (record b { product = product }) (Only x) NoReturn × HasInside (record b { product = product }) x l e
inside_step a b x l e y product r u i m g n f o k =
    let j = within_stays a b Nowhere NoReturn x g i in
    let kind = inside_kind b.product.states x y l r u (state_within b x g.made j) (state_within b y g.made n.within) f k in
    let edge : Member b.first.insides (first_at b x, l, e) =
    subst (λ (z : Automaton). Member z.insides (first_at b x, l, e)) (sym g.first)
    (subst (λ (z : ℕ). Member a.first.insides (z, l, e)) (sym (first_stays a b Nowhere NoReturn x g i)) m) in
    let s = inside_added b x l e y product g.made j kind edge n (at_ok r u _ f o) in
    (extends_on a b (record b { product = product }) (Only x) NoReturn (extends_more a b (Only x) NoReturn g) s.0, s.1)

pub call_step : {X : Type 0} (a b : Made) (x : ℕ) (l : Letter) (e y : ℕ) (product : Automaton) (r : Result X NwaFault) (u : X) →
    x < length a.states → Member a.first.calls (first_at a x, l, e) → Extends a b Nowhere NoReturn → IsCallEnd b x l e y → r ≡ Ok u →
    OnOk r (product ≡ (with_call b x l y).product) →
    (r ≡ Err faults.BadLetter) ↔ ((x < b.product.states) × (y < b.product.states) × (l.kind ≢ kinds.Call)) →
    Extends a (record b { product = product }) (Only x) NoReturn × HasCall (record b { product = product }) x l e
call_step a b x l e y product r u i m g n f o k =
    let j = within_stays a b Nowhere NoReturn x g i in
    let kind = call_kind b.product.states x y l r u (state_within b x g.made j) (state_within b y g.made n.within) f k in
    let edge : Member b.first.calls (first_at b x, l, e) =
    subst (λ (z : Automaton). Member z.calls (first_at b x, l, e)) (sym g.first)
    (subst (λ (z : ℕ). Member a.first.calls (z, l, e)) (sym (first_stays a b Nowhere NoReturn x g i)) m) in
    let s = call_added b x l e y product g.made j kind edge n (at_ok r u _ f o) in
    (extends_on a b (record b { product = product }) (Only x) NoReturn (extends_more a b (Only x) NoReturn g) s.0, s.1)

pub back_step : {X : Type 0} (a b : Made) (x w : ℕ) (l : Letter) (e y : ℕ) (product : Automaton) (r : Result X NwaFault) (u : X) →
    x < length a.states → w < length a.states → Member a.first.backs (first_at a x, first_at a w, l, e) → Extends a b Nowhere NoReturn →
    IsBackEnd b x w l e y → r ≡ Ok u → OnOk r (product ≡ (with_back b x w l y).product) →
    (r ≡ Err faults.BadLetter) ↔ ((x < b.product.states) × (w < b.product.states) × (y < b.product.states) × (l.kind ≢ kinds.Back)) →
    Extends a (record b { product = product }) Nowhere (OnlyReturn x w) × HasBack (record b { product = product }) x w l e
back_step a b x w l e y product r u i q m g n f o k =
    let j = within_stays a b Nowhere NoReturn x g i in
    let h = within_stays a b Nowhere NoReturn w g q in
    let kind =
    back_kind b.product.states x w y l r u (state_within b x g.made j) (state_within b w g.made h) (state_within b y g.made n.within) f k in
    let edge : Member b.first.backs (first_at b x, first_at b w, l, e) =
    subst (λ (z : Automaton). Member z.backs (first_at b x, first_at b w, l, e)) (sym g.first)
    (subst (λ (z : ℕ). Member a.first.backs (z, first_at b w, l, e)) (sym (first_stays a b Nowhere NoReturn x g i))
    (subst (λ (z : ℕ). Member a.first.backs (first_at a x, z, l, e)) (sym (first_stays a b Nowhere NoReturn w g q)) m)) in
    let s = back_added b x w l e y product g.made j h kind edge n (at_ok r u _ f o) in
    (extends_on a b (record b { product = product }) Nowhere (OnlyReturn x w) (extends_more a b Nowhere (OnlyReturn x w) g) s.0, s.1)

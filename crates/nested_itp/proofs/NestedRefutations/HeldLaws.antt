-- What the rows and groups of a goal hold of a claim at a node of the word's tree: all that is asked there.
use Rattle.std.proofs.Common.{◌≡◌, ◌∙◌, inl, inr, ℕ, suc, ℤ, Bool, true, false, IsTrue, List, [], ◌∷◌, ◌++◌, refl, sym, subst, Option, None, Some}
use Rattle.std.specs.Prelude.{not, if◌then◌else◌}
use Rattle.farkas_check.specs.Refutes.{at_most, above}
use Rattle.farkas_check.specs.Trees.{Tree, leaf_tree, cut_tree, cases_tree}
use Rattle.nwa_base.specs.Members.{Member}
use Rattle.nested_itp.specs.NestedPredicates.Stamps.{column_stamp}
use Rattle.nested_itp.specs.NestedPredicates.Positions.{is_counted}
use Rattle.nested_itp.specs.NestedPredicates.Sums.{Branch, with_cut}
use Rattle.nested_itp.specs.NestedPredicates.Joins.{joined_at}
use Rattle.nested_itp.specs.NestedPredicates.Simplifying.{is_same}
use Rattle.nested_itp.specs.NestedRefutations.Refutations.{Claim, TreeSpot, low_side, high_side, truth_in, formula_at, Asked, one_part, both_parts, some_part, each_asked, some_asked, asked_at, Exposed, atom_exposed, parts_exposed, unless_truth, exposed, Role, stands, taken_at}
use Rattle.nested_itp.proofs.NestedRefutations.TruthLaws.{decided, cut_truth, HeldUnless, PartsHeld, FollowHeld, each_held, some_held, IsOpen, open_held, AskedOpen, asked_open}
use Rattle.nested_itp.proofs.NestedRefutations.SpotLaws.{spot, IsUncased}

-- the group waits, unless a member was taken
abbrev pub WaitsUnless : Option Bool → Type 0 → Type 0
WaitsUnless None P = P
WaitsUnless (Some side) P = Unit {0}

-- what is left of a claim at a node, if it is a truth value
abbrev pub truth_at : List ℕ → Claim → Branch → Tree → Option Bool
truth_at columns c b t = truth_in (formula_at columns c b t)

-- the atom of a leaf has a row; at a cut the parts that are asked are held, or the group waits
abbrev pub HeldWithin : List ℕ → ℕ → Claim → List Role → List (ℕ × TreeSpot) → List (ℕ × ℕ × Bool) → ℕ → Branch → Tree → Type 0
HeldWithin columns i c roles groups taken n b (leaf_tree parts) = IsTrue (stands roles i n)
HeldWithin columns i c roles groups taken n b (cut_tree col k t u) =
    let low = low_side columns n b col k t in
    let high = high_side columns n b col k t u in
    PartsHeld (asked_at c (column_stamp columns col) (truth_at columns c low.branch t) (truth_at columns c high.branch u))
    (WaitsUnless (taken_at i n taken) (Member groups (i, spot n b (cut_tree col k t u))))
    (HeldUnless c.is_denied (truth_at columns c low.branch t) (HeldWithin columns i c roles groups taken low.node low.branch t))
    (HeldUnless c.is_denied (truth_at columns c high.branch u) (HeldWithin columns i c roles groups taken high.node high.branch u))
HeldWithin columns i c roles groups taken n b (cases_tree ts) = ⊥

abbrev pub Held : List ℕ → ℕ → Claim → List Role → List (ℕ × TreeSpot) → List (ℕ × ℕ × Bool) → ℕ → Branch → Tree → Type 0
Held columns i c roles groups taken n b t = HeldUnless c.is_denied (truth_at columns c b t) (HeldWithin columns i c roles groups taken n b t)

-- ---- more rows and groups hold it too

unless_more : (denied : Bool) (o : Option Bool) (X Y : Type 0) → (X → Y) → HeldUnless denied o X → HeldUnless denied o Y
unless_more denied None X Y f h = f h
unless_more denied (Some v) X Y f h = h

parts_more : (a : Asked) (G A B H C D : Type 0) → (G → H) → (A → C) → (B → D) → PartsHeld a G A B → PartsHeld a H C D
parts_more (one_part false) G A B H C D f g h x = g x
parts_more (one_part true) G A B H C D f g h x = h x
parts_more both_parts G A B H C D f g h x = (g x.0, h x.1)
parts_more some_part G A B H C D f g h x = f x

-- what waits or was taken of a claim still waits or was taken
abbrev pub StillWaits : ℕ → List (ℕ × TreeSpot) → List (ℕ × ℕ × Bool) → List (ℕ × TreeSpot) → List (ℕ × ℕ × Bool) → Type 0
StillWaits i groups taken more later =
    (n : ℕ) (b : Branch) (t : Tree) → WaitsUnless (taken_at i n taken) (Member groups (i, spot n b t)) → WaitsUnless (taken_at i n later) (Member more (i, spot n b t))

within_more : (columns : List ℕ) (i : ℕ) (c : Claim) (roles others : List Role) (groups more : List (ℕ × TreeSpot)) (taken later : List (ℕ × ℕ × Bool)) →
    ((m : ℕ) → IsTrue (stands roles i m) → IsTrue (stands others i m)) → StillWaits i groups taken more later →
    (n : ℕ) (b : Branch) (t : Tree) → HeldWithin columns i c roles groups taken n b t → HeldWithin columns i c others more later n b t
within_more columns i c roles others groups more taken later f g n b (leaf_tree parts) h = f n h
within_more columns i c roles others groups more taken later f g n b (cut_tree col k t u) h =
    let low : TreeSpot = low_side columns n b col k t in
    let high : TreeSpot = high_side columns n b col k t u in
    let x : Option Bool = truth_at columns c low.branch t in
    let y : Option Bool = truth_at columns c high.branch u in
    parts_more (asked_at c (column_stamp columns col) x y) _ _ _ _ _ _ (g n b (cut_tree col k t u))
    (unless_more c.is_denied x _ _ (within_more columns i c roles others groups more taken later f g low.node low.branch t))
    (unless_more c.is_denied y _ _ (within_more columns i c roles others groups more taken later f g high.node high.branch u)) h
within_more columns i c roles others groups more taken later f g n b (cases_tree ts) h = h

pub held_more : (columns : List ℕ) (i : ℕ) (c : Claim) (roles others : List Role) (groups more : List (ℕ × TreeSpot)) (taken later : List (ℕ × ℕ × Bool)) →
    ((m : ℕ) → IsTrue (stands roles i m) → IsTrue (stands others i m)) → StillWaits i groups taken more later →
    (n : ℕ) (b : Branch) (t : Tree) → Held columns i c roles groups taken n b t → Held columns i c others more later n b t
held_more columns i c roles others groups more taken later f g n b t h =
    unless_more c.is_denied (truth_at columns c b t) _ _ (within_more columns i c roles others groups more taken later f g n b t) h

-- ---- what is exposed is held

waits_in : (o : Option Bool) (P : Type 0) → P → WaitsUnless o P
waits_in None P h = h
waits_in (Some side) P h = tt

member_left : {X : Type 0} (xs ys : List X) (x : X) → Member xs x → Member (xs ++ ys) x
member_left [] ys x h = absurd h
member_left (z ∷ zs) ys x (inl e) = inl e
member_left (z ∷ zs) ys x (inr m) = inr (member_left zs ys x m)

member_right : {X : Type 0} (xs ys : List X) (x : X) → Member ys x → Member (xs ++ ys) x
member_right [] ys x h = h
member_right (z ∷ zs) ys x h = inr (member_right zs ys x h)

-- all that is exposed is there
abbrev AllThere : ℕ → List Role → List (ℕ × TreeSpot) → Exposed → Type 0
AllThere i roles groups x = ((m : ℕ) → Member x.leaves m → IsTrue (stands roles i m)) × ((s : TreeSpot) → Member x.groups s → Member groups (i, s))

parts_there : (a : Asked) (i n : ℕ) (b : Branch) (t : Tree) (roles : List Role) (groups : List (ℕ × TreeSpot)) (taken : List (ℕ × ℕ × Bool)) (x y : Exposed) (A B : Type 0) →
    (p q : Option Bool) → AskedOpen a p q → (p ≡ None → AllThere i roles groups x → A) → (q ≡ None → AllThere i roles groups y → B) →
    AllThere i roles groups (parts_exposed a (spot n b t) x y) → PartsHeld a (WaitsUnless (taken_at i n taken) (Member groups (i, spot n b t))) A B
parts_there (one_part false) i n b t roles groups taken x y A B p q o f g h = f o h
parts_there (one_part true) i n b t roles groups taken x y A B p q o f g h = g o h
parts_there both_parts i n b t roles groups taken x y A B p q o f g h = (
  f o.0 (λ m k. h.0 m (member_left x.leaves y.leaves m k), λ s k. h.1 s (member_left x.groups y.groups s k)),
  g o.1 (λ m k. h.0 m (member_right x.leaves y.leaves m k), λ s k. h.1 s (member_right x.groups y.groups s k)),
)
parts_there some_part i n b t roles groups taken x y A B p q o f g h = waits_in (taken_at i n taken) (Member groups (i, spot n b t)) (h.1 (spot n b t) (inl refl))

held_open : (denied : Bool) (o : Option Bool) (X : Type 0) → o ≡ None → X → HeldUnless denied o X
held_open denied None X e x = x
held_open denied (Some v) X e x = absurd (cc)

exposed_open : (o : Option Bool) (x : Exposed) → o ≡ None → unless_truth o x ≡ x
exposed_open None x e = refl
exposed_open (Some v) x e = absurd (cc)

-- what is left of a cut
pub truth_of_cut : (columns : List ℕ) (c : Claim) (b : Branch) (col : ℕ) (k : ℤ) (t u : Tree) →
    truth_at columns c b (cut_tree col k t u) ≡
    decided (is_counted c.position (column_stamp columns col))
    (truth_at columns c (with_cut b (column_stamp columns col) (at_most col k)) t)
    (truth_at columns c (with_cut b (column_stamp columns col) (above col k)) u)
truth_of_cut columns c b col k t u =
    cut_truth (is_counted c.position (column_stamp columns col))
    (joined_at columns c.position (with_cut b (column_stamp columns col) (at_most col k)) t)
    (joined_at columns c.position (with_cut b (column_stamp columns col) (above col k)) u)

atom_there : (n : ℕ) (o : Option Bool) (i : ℕ) (roles : List Role) (groups : List (ℕ × TreeSpot)) → o ≡ None → AllThere i roles groups (atom_exposed n o) → IsTrue (stands roles i n)
atom_there n None i roles groups e h = h.0 n (inl refl)
atom_there n (Some v) i roles groups e h = absurd (cc)

pub within_exposed : (columns : List ℕ) (i : ℕ) (c : Claim) (roles : List Role) (groups : List (ℕ × TreeSpot)) (taken : List (ℕ × ℕ × Bool)) (n : ℕ) (b : Branch) (t : Tree) →
    IsUncased t → truth_at columns c b t ≡ None → AllThere i roles groups (exposed columns c n b t) → HeldWithin columns i c roles groups taken n b t
within_exposed columns i c roles groups taken n b (leaf_tree parts) un e h = atom_there n (truth_at columns c b (leaf_tree parts)) i roles groups e h
within_exposed columns i c roles groups taken n b (cut_tree col k t u) un e h =
    let low : TreeSpot = low_side columns n b col k t in
    let high : TreeSpot = high_side columns n b col k t u in
    let x : Option Bool = truth_at columns c low.branch t in
    let y : Option Bool = truth_at columns c high.branch u in
    let stamp : ℕ = column_stamp columns col in
    let w : AllThere i roles groups (parts_exposed (asked_at c stamp x y) (spot n b (cut_tree col k t u)) (exposed columns c low.node low.branch t) (exposed columns c high.node high.branch u)) =
    subst (AllThere i roles groups) (exposed_open (truth_at columns c b (cut_tree col k t u)) _ e) h in
    parts_there (asked_at c stamp x y) i n b (cut_tree col k t u) roles groups taken (exposed columns c low.node low.branch t) (exposed columns c high.node high.branch u) _ _
    x y (asked_open (is_counted c.position stamp) c.is_denied x y (sym (truth_of_cut columns c b col k t u) ∙ e))
    (λ p q. held_open c.is_denied x _ p (within_exposed columns i c roles groups taken low.node low.branch t un.0 p q))
    (λ p q. held_open c.is_denied y _ p (within_exposed columns i c roles groups taken high.node high.branch u un.1 p q)) w
within_exposed columns i c roles groups taken n b (cases_tree ts) un e h = absurd un

-- where a claim is not false, what it exposes is held
pub exposed_held : (columns : List ℕ) (i : ℕ) (c : Claim) (roles : List Role) (groups : List (ℕ × TreeSpot)) (taken : List (ℕ × ℕ × Bool)) (n : ℕ) (b : Branch) (t : Tree) →
    IsUncased t → IsOpen c.is_denied (truth_at columns c b t) → ((m : ℕ) → Member (exposed columns c n b t).leaves m → IsTrue (stands roles i m)) →
    ((s : TreeSpot) → Member (exposed columns c n b t).groups s → Member groups (i, s)) → Held columns i c roles groups taken n b t
exposed_held columns i c roles groups taken n b t un o f g =
    open_held c.is_denied (truth_at columns c b t) (HeldWithin columns i c roles groups taken n b t) o (λ e. within_exposed columns i c roles groups taken n b t un e (f, g))

-- ---- at a cut

-- both parts are asked: the truth value as which the cut is counted is that which no point meets
abbrev pub asks_each : Claim → ℕ → Bool
asks_each c stamp = is_same (is_counted c.position stamp) c.is_denied

same_bool : (x y : Bool) → is_same x y ≡ true → x ≡ y
same_bool true true e = refl
same_bool false false e = refl
same_bool true false e = absurd (cc)
same_bool false true e = absurd (cc)

other_bool : (x y : Bool) → is_same x y ≡ false → x ≡ not y
other_bool true false e = refl
other_bool false true e = refl
other_bool true true e = absurd (cc)
other_bool false false e = absurd (cc)

-- where a cut asks both parts of a claim, both are held
pub sides_held : (columns : List ℕ) (i : ℕ) (c : Claim) (roles : List Role) (groups : List (ℕ × TreeSpot)) (taken : List (ℕ × ℕ × Bool)) (n : ℕ) (b : Branch) (col : ℕ) (k : ℤ) (t u : Tree) →
    asks_each c (column_stamp columns col) ≡ true → Held columns i c roles groups taken n b (cut_tree col k t u) →
    Held columns i c roles groups taken (suc n) (with_cut b (column_stamp columns col) (at_most col k)) t ×
    Held columns i c roles groups taken (high_side columns n b col k t u).node (with_cut b (column_stamp columns col) (above col k)) u
sides_held columns i c roles groups taken n b col k t u e h =
    let low : TreeSpot = low_side columns n b col k t in
    let high : TreeSpot = high_side columns n b col k t u in
    let x : Option Bool = truth_at columns c low.branch t in
    let y : Option Bool = truth_at columns c high.branch u in
    let stamp : ℕ = column_stamp columns col in
    let X : Type 0 = HeldWithin columns i c roles groups taken low.node low.branch t in
    let Y : Type 0 = HeldWithin columns i c roles groups taken high.node high.branch u in
    let G : Type 0 = WaitsUnless (taken_at i n taken) (Member groups (i, spot n b (cut_tree col k t u))) in
    let f : is_counted c.position stamp ≡ c.is_denied = same_bool (is_counted c.position stamp) c.is_denied e in
    let w : HeldUnless c.is_denied (decided (is_counted c.position stamp) x y) (PartsHeld (asked_at c stamp x y) G (HeldUnless c.is_denied x X) (HeldUnless c.is_denied y Y)) =
    subst (λ (o : Option Bool). HeldUnless c.is_denied o (PartsHeld (asked_at c stamp x y) G (HeldUnless c.is_denied x X) (HeldUnless c.is_denied y Y))) (truth_of_cut columns c b col k t u) h in
    by_test (is_counted c.position stamp) c.is_denied (is_same (is_counted c.position stamp) c.is_denied) e f x y G X Y w
  where
    by_test : (p d z : Bool) → z ≡ true → p ≡ d → (x y : Option Bool) (G X Y : Type 0) →
        HeldUnless d (decided p x y) (PartsHeld (if z then each_asked x y else some_asked (not d) x y) G (HeldUnless d x X) (HeldUnless d y Y)) → HeldUnless d x X × HeldUnless d y Y
    by_test p d true e f x y G X Y w = each_held d x y G X Y (subst (λ (q : Bool). HeldUnless d (decided q x y) (PartsHeld (each_asked x y) G (HeldUnless d x X) (HeldUnless d y Y))) f w)
    by_test p d false e f x y G X Y w = absurd (cc)

-- where it asks one of them, that which is followed is held, or the group waits unless it was taken
pub side_held : (columns : List ℕ) (i : ℕ) (c : Claim) (roles : List Role) (groups : List (ℕ × TreeSpot)) (taken : List (ℕ × ℕ × Bool)) (n : ℕ) (b : Branch) (col : ℕ) (k : ℤ) (t u : Tree) →
    asks_each c (column_stamp columns col) ≡ false → Held columns i c roles groups taken n b (cut_tree col k t u) →
    FollowHeld (asked_at c (column_stamp columns col) (truth_at columns c (with_cut b (column_stamp columns col) (at_most col k)) t)
    (truth_at columns c (with_cut b (column_stamp columns col) (above col k)) u))
    (WaitsUnless (taken_at i n taken) (Member groups (i, spot n b (cut_tree col k t u))))
    (Held columns i c roles groups taken (suc n) (with_cut b (column_stamp columns col) (at_most col k)) t)
    (Held columns i c roles groups taken (high_side columns n b col k t u).node (with_cut b (column_stamp columns col) (above col k)) u)
side_held columns i c roles groups taken n b col k t u e h =
    let low : TreeSpot = low_side columns n b col k t in
    let high : TreeSpot = high_side columns n b col k t u in
    let x : Option Bool = truth_at columns c low.branch t in
    let y : Option Bool = truth_at columns c high.branch u in
    let stamp : ℕ = column_stamp columns col in
    let X : Type 0 = HeldWithin columns i c roles groups taken low.node low.branch t in
    let Y : Type 0 = HeldWithin columns i c roles groups taken high.node high.branch u in
    let G : Type 0 = WaitsUnless (taken_at i n taken) (Member groups (i, spot n b (cut_tree col k t u))) in
    let f : is_counted c.position stamp ≡ not c.is_denied = other_bool (is_counted c.position stamp) c.is_denied e in
    let w : HeldUnless c.is_denied (decided (is_counted c.position stamp) x y) (PartsHeld (asked_at c stamp x y) G (HeldUnless c.is_denied x X) (HeldUnless c.is_denied y Y)) =
    subst (λ (o : Option Bool). HeldUnless c.is_denied o (PartsHeld (asked_at c stamp x y) G (HeldUnless c.is_denied x X) (HeldUnless c.is_denied y Y))) (truth_of_cut columns c b col k t u) h in
    by_test (is_counted c.position stamp) c.is_denied (is_same (is_counted c.position stamp) c.is_denied) e f x y G X Y w
  where
    by_test : (p d z : Bool) → z ≡ false → p ≡ not d → (x y : Option Bool) (G X Y : Type 0) →
        HeldUnless d (decided p x y) (PartsHeld (if z then each_asked x y else some_asked (not d) x y) G (HeldUnless d x X) (HeldUnless d y Y)) →
        FollowHeld (if z then each_asked x y else some_asked (not d) x y) G (HeldUnless d x X) (HeldUnless d y Y)
    by_test p d false e f x y G X Y w = some_held d x y G X Y (subst (λ (q : Bool). HeldUnless d (decided q x y) (PartsHeld (some_asked (not d) x y) G (HeldUnless d x X) (HeldUnless d y Y))) f w)
    by_test p d true e f x y G X Y w = absurd (cc)

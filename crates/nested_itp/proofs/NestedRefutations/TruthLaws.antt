-- Truth values at the cuts of a word's tree: where they are simplified away, and which parts are then asked.
use Rattle.std.proofs.Common.{◌≡◌, ◌∙◌, Bool, true, false, refl, ap, Option, None, Some}
use Rattle.std.specs.Prelude.{not, if◌then◌else◌}
use Rattle.triple_rows.specs.Predicates.{Formula, truth, atom, and_of, or_of}
use Rattle.nested_itp.specs.NestedPredicates.Joins.{joined_formulas, and_before, and_joined, or_before, or_joined, simplified}
use Rattle.nested_itp.proofs.NestedPredicates.SpellingLaws.{and_true, or_false}
use Rattle.nested_itp.specs.NestedPredicates.Simplifying.{is_same}
use Rattle.nested_itp.specs.NestedRefutations.Refutations.{truth_in, Asked, one_part, both_parts, some_part, each_asked, some_asked}

-- what two parts come to where a part that is x decides them, and the other truth value is simplified away
abbrev pub decided : Bool → Option Bool → Option Bool → Option Bool
decided x (Some v) b = if is_same v x then Some x else b
decided x None (Some v) = if is_same v x then Some x else None
decided x None None = None

or_before_truth : (a b : Formula) → truth_in a ≡ None → truth_in (or_before a b) ≡ decided true None (truth_in b)
or_before_truth a (truth true) e = refl
or_before_truth a (truth false) e = e
or_before_truth a (atom r) e = refl
or_before_truth a (and_of fs) e = refl
or_before_truth a (or_of fs) e = refl

and_before_truth : (a b : Formula) → truth_in a ≡ None → truth_in (and_before a b) ≡ decided false None (truth_in b)
and_before_truth a (truth true) e = e
and_before_truth a (truth false) e = refl
and_before_truth a (atom r) e = refl
and_before_truth a (and_of fs) e = refl
and_before_truth a (or_of fs) e = refl

or_truth : (a b : Formula) → truth_in (or_joined a b) ≡ decided true (truth_in a) (truth_in b)
or_truth (truth true) b = refl
or_truth (truth false) b = refl
or_truth (atom r) b = or_before_truth (atom r) b refl
or_truth (and_of fs) b = or_before_truth (and_of fs) b refl
or_truth (or_of fs) b = or_before_truth (or_of fs) b refl

and_truth : (a b : Formula) → truth_in (and_joined a b) ≡ decided false (truth_in a) (truth_in b)
and_truth (truth true) b = refl
and_truth (truth false) b = refl
and_truth (atom r) b = and_before_truth (atom r) b refl
and_truth (and_of fs) b = and_before_truth (and_of fs) b refl
and_truth (or_of fs) b = and_before_truth (or_of fs) b refl

-- two parts joined and simplified are their simplified forms joined
pub join_simplified : (c : Bool) (a b : Formula) → simplified (joined_formulas c a b) ≡ (if c then or_joined (simplified a) (simplified b) else and_joined (simplified a) (simplified b))
join_simplified true a b = ap (or_joined (simplified a)) (or_false (simplified b))
join_simplified false a b = ap (and_joined (simplified a)) (and_true (simplified b))

-- a cut is decided by the truth value that it is counted as: `or` by true, `and` by false
pub cut_truth : (c : Bool) (a b : Formula) → truth_in (simplified (joined_formulas c a b)) ≡ decided c (truth_in (simplified a)) (truth_in (simplified b))
cut_truth true a b = ap truth_in (join_simplified true a b) ∙ or_truth (simplified a) (simplified b)
cut_truth false a b = ap truth_in (join_simplified false a b) ∙ and_truth (simplified a) (simplified b)

-- ---- what is held of a claim

-- nothing where what is left is the truth value that asks nothing; of a claim that is denied that is false
abbrev pub HeldUnless : Bool → Option Bool → Type 0 → Type 0
HeldUnless denied None X = X
HeldUnless denied (Some v) X = v ≡ not denied

-- of the parts that are asked, or of the group
abbrev pub PartsHeld : Asked → Type 0 → Type 0 → Type 0 → Type 0
PartsHeld (one_part false) G A B = A
PartsHeld (one_part true) G A B = B
PartsHeld both_parts G A B = A × B
PartsHeld some_part G A B = G

-- of the part that is followed, or of the group
abbrev pub FollowHeld : Asked → Type 0 → Type 0 → Type 0 → Type 0
FollowHeld (one_part false) G A B = A
FollowHeld (one_part true) G A B = B
FollowHeld both_parts G A B = ⊥
FollowHeld some_part G A B = G

held_once : (denied : Bool) (b : Option Bool) (Y : Type 0) → HeldUnless denied b (HeldUnless denied b Y) → HeldUnless denied b Y
held_once denied None Y h = h
held_once denied (Some v) Y h = h

-- where both parts are asked, both are held
pub each_held : (denied : Bool) (a b : Option Bool) (G X Y : Type 0) →
    HeldUnless denied (decided denied a b) (PartsHeld (each_asked a b) G (HeldUnless denied a X) (HeldUnless denied b Y)) →
    HeldUnless denied a X × HeldUnless denied b Y
each_held true (Some true) b G X Y h = absurd (cc)
each_held true (Some false) b G X Y h = (refl, held_once true b Y h)
each_held false (Some true) b G X Y h = (refl, held_once false b Y h)
each_held false (Some false) b G X Y h = absurd (cc)
each_held true None (Some true) G X Y h = absurd (cc)
each_held true None (Some false) G X Y h = (h, refl)
each_held false None (Some true) G X Y h = (h, refl)
each_held false None (Some false) G X Y h = absurd (cc)
each_held denied None None G X Y h = h

-- where one of them is asked, that which is followed is held, or the group is
pub some_held : (denied : Bool) (a b : Option Bool) (G X Y : Type 0) →
    HeldUnless denied (decided (not denied) a b) (PartsHeld (some_asked (not denied) a b) G (HeldUnless denied a X) (HeldUnless denied b Y)) →
    FollowHeld (some_asked (not denied) a b) G (HeldUnless denied a X) (HeldUnless denied b Y)
some_held true (Some true) b G X Y h = held_once true b Y h
some_held true (Some false) b G X Y h = refl
some_held false (Some true) b G X Y h = refl
some_held false (Some false) b G X Y h = held_once false b Y h
some_held true None (Some true) G X Y h = h
some_held true None (Some false) G X Y h = refl
some_held false None (Some true) G X Y h = refl
some_held false None (Some false) G X Y h = h
some_held denied None None G X Y h = h

-- what is left is not the truth value that no point meets, or that all meet where the claim is denied
abbrev pub IsOpen : Bool → Option Bool → Type 0
IsOpen denied o = o ≡ Some denied → ⊥

-- a truth value that is not that one asks nothing
pub open_held : (denied : Bool) (o : Option Bool) (X : Type 0) → IsOpen denied o → (o ≡ None → X) → HeldUnless denied o X
open_held denied None X n f = f refl
open_held true (Some true) X n f = absurd (n refl)
open_held true (Some false) X n f = refl
open_held false (Some true) X n f = refl
open_held false (Some false) X n f = absurd (n refl)

-- a part that alone is asked, where no truth value is left of both, is none itself
abbrev pub AskedOpen : Asked → Option Bool → Option Bool → Type 0
AskedOpen (one_part false) a b = a ≡ None
AskedOpen (one_part true) a b = b ≡ None
AskedOpen both_parts a b = (a ≡ None) × (b ≡ None)
AskedOpen some_part a b = (a ≡ None) × (b ≡ None)

each_open : (denied : Bool) (a b : Option Bool) → decided denied a b ≡ None → AskedOpen (each_asked a b) a b
each_open true (Some true) b e = absurd (cc)
each_open true (Some false) b e = e
each_open false (Some true) b e = e
each_open false (Some false) b e = absurd (cc)
each_open denied None (Some v) e = refl
each_open denied None None e = (refl, refl)

some_open : (denied : Bool) (a b : Option Bool) → decided (not denied) a b ≡ None → AskedOpen (some_asked (not denied) a b) a b
some_open true (Some true) b e = e
some_open true (Some false) b e = absurd (cc)
some_open false (Some true) b e = absurd (cc)
some_open false (Some false) b e = e
some_open true None (Some true) e = refl
some_open true None (Some false) e = absurd (cc)
some_open false None (Some true) e = absurd (cc)
some_open false None (Some false) e = refl
some_open denied None None e = (refl, refl)

pub asked_open : (counted denied : Bool) (a b : Option Bool) → decided counted a b ≡ None →
    AskedOpen (if is_same counted denied then each_asked a b else some_asked (not denied) a b) a b
asked_open true true a b e = each_open true a b e
asked_open false false a b e = each_open false a b e
asked_open true false a b e = some_open false a b e
asked_open false true a b e = some_open true a b e

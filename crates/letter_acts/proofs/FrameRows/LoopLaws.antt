-- Lists that loops make from the front: what one step more adds.
use Rattle.std.proofs.Common.{◌≡◌, ◌∙◌, ℕ, zero, suc, ◌+◌, ◌<◌, Bool, true, false, cond, List, [], ◌∷◌, ◌++◌, length, take, get_or, append_assoc, Option, Some, sym, ap, subst, arith}
use Rattle.std.specs.Prelude.{map, filter}
use Rattle.std.specs.List.{AllByRecursion}
use Rattle.std.proofs.lemmas.List.{append-nil, take_more, map_more, length-take-le, map-append}
use Rattle.std.proofs.lemmas.List.Elements.{filter-append}
use Rattle.boogie_tree.specs.declared.tree.Column.{Column}
use Rattle.boogie_tree.specs.declared.tree.VarInfo.{VarInfo}
use Rattle.boogie_tree.specs.declared.tree.Ty.{Ty}
use Rattle.lin_rows.specs.Rows.{LinearRow}
use Rattle.letter_acts.specs.Frames.{Columns, added, places}
use Rattle.letter_acts.proofs.ListLemmas.{places-append, all_append}
use Rattle.letter_acts.specs.FrameRows.Rows.{bounds_of, bounds, types_of, columns_from}

-- ---- members

-- with what is made of the next member
pub mapped_next : {X Y : Type 0} (f : X → Y) (xs : List X) (i : ℕ) (d : X) (old new : List Y) (y : Y) → i < length xs → old ≡ map f (take i xs) → new ≡ old ++ y ∷ [] → y ≡ f (get_or xs i d) →
    new ≡ map f (take (i + 1) xs)
mapped_next {X} {Y} f xs i d old new y l h e g =
    e ∙ ap (λ (ys : List Y). ys ++ y ∷ []) h ∙ ap (λ (z : Y). map f (take i xs) ++ z ∷ []) g ∙ sym (map_more f xs i d l)

pub all_pushed : {X : Type 0} (P : X → Type 0) (xs new : List X) (x : X) → new ≡ xs ++ x ∷ [] → AllByRecursion P xs → P x → AllByRecursion P new
all_pushed {X} P xs new x e h p = subst (λ (l : List X). AllByRecursion P l) (sym e) (all_append P xs (x ∷ []) h (p, tt))

-- ---- places and types

places_next : {X : Type 0} (test : X → Bool) (xs : List X) (i : ℕ) (x d : X) → x ≡ get_or xs i d → i < length xs →
    places test 0 (take (i + 1) xs) ≡ places test 0 (take i xs) ++ added (test x) i []
places_next {X} test xs i x d e l =
    ap (λ (ys : List X). places test 0 ys) (take_more xs i d l) ∙
    places-append test (take i xs) (get_or xs i d ∷ []) 0 i (let k = length-take-le i xs (omega (arith, l)) in omega (arith, k)) ∙
    ap (λ (y : X). places test 0 (take i xs) ++ added (test y) i []) (sym e)

pub places_pass : {X : Type 0} (test : X → Bool) (xs : List X) (i : ℕ) (x d : X) (now new : List ℕ) → x ≡ get_or xs i d → i < length xs → test x ≡ true →
    now ≡ places test 0 (take i xs) → new ≡ now ++ i ∷ [] → new ≡ places test 0 (take (i + 1) xs)
places_pass test xs i x d now new e l t h k =
    k ∙ ap (λ (ns : List ℕ). ns ++ i ∷ []) h ∙ sym (places_next test xs i x d e l ∙ ap (λ (b : Bool). places test 0 (take i xs) ++ added b i []) t)

pub places_miss : {X : Type 0} (test : X → Bool) (xs : List X) (i : ℕ) (x d : X) (now : List ℕ) → x ≡ get_or xs i d → i < length xs → test x ≡ false →
    now ≡ places test 0 (take i xs) → now ≡ places test 0 (take (i + 1) xs)
places_miss test xs i x d now e l t h =
    h ∙ sym (places_next test xs i x d e l ∙ ap (λ (b : Bool). places test 0 (take i xs) ++ added b i []) t ∙ append-nil (places test 0 (take i xs)))

types_next : (test : Column × VarInfo → Bool) (xs : Columns) (i : ℕ) (x d : Column × VarInfo) → x ≡ get_or xs i d → i < length xs →
    types_of (filter test (take (i + 1) xs)) ≡ types_of (filter test (take i xs)) ++ types_of (cond (test x) (x ∷ []) [])
types_next test xs i x d e l =
    ap (λ (ys : Columns). types_of (filter test ys)) (take_more xs i d l) ∙
    ap types_of (filter-append test (take i xs) (get_or xs i d ∷ [])) ∙
    map-append {B = Option Ty} (λ (v : Column × VarInfo). Some v.1.ty) (filter test (take i xs)) (filter test (get_or xs i d ∷ [])) ∙
    ap (λ (y : Column × VarInfo). types_of (filter test (take i xs)) ++ types_of (cond (test y) (y ∷ []) [])) (sym e)

pub types_pass : (test : Column × VarInfo → Bool) (xs : Columns) (i : ℕ) (x d : Column × VarInfo) (now new : List (Option Ty)) → x ≡ get_or xs i d → i < length xs → test x ≡ true →
    now ≡ types_of (filter test (take i xs)) → new ≡ now ++ Some x.1.ty ∷ [] → new ≡ types_of (filter test (take (i + 1) xs))
types_pass test xs i x d now new e l t h k =
    k ∙ ap (λ (ns : List (Option Ty)). ns ++ Some x.1.ty ∷ []) h ∙
    sym (types_next test xs i x d e l ∙ ap (λ (b : Bool). types_of (filter test (take i xs)) ++ types_of (cond b (x ∷ []) [])) t)

pub types_miss : (test : Column × VarInfo → Bool) (xs : Columns) (i : ℕ) (x d : Column × VarInfo) (now : List (Option Ty)) → x ≡ get_or xs i d → i < length xs → test x ≡ false →
    now ≡ types_of (filter test (take i xs)) → now ≡ types_of (filter test (take (i + 1) xs))
types_miss test xs i x d now e l t h =
    h ∙ sym (types_next test xs i x d e l ∙ ap (λ (b : Bool). types_of (filter test (take i xs)) ++ types_of (cond b (x ∷ []) [])) t ∙
    append-nil (types_of (filter test (take i xs))))

-- ---- bounds

bounds_joined : (n m : ℕ) (ts us : List (Option Ty)) → m ≡ n + length ts → bounds n (ts ++ us) ≡ bounds n ts ++ bounds m us
bounds_joined n m [] us e = ap (λ (k : ℕ). bounds k us) (let i : n ≡ m = omega (arith, e) in i)
bounds_joined n m (t ∷ ts) us e =
    ap (λ (rs : List LinearRow). bounds_of n t ++ rs) (bounds_joined (suc n) m ts us (omega (arith, e))) ∙
    sym (append_assoc (bounds_of n t) (bounds (suc n) ts) (bounds m us))

pub bounds_next : (n i : ℕ) (ts : List (Option Ty)) (d : Option Ty) (now new : List LinearRow) → i < length ts → now ≡ bounds n (take i ts) →
    new ≡ now ++ bounds_of (n + i) (get_or ts i d) → new ≡ bounds n (take (i + 1) ts)
bounds_next n i ts d now new l h e =
    e ∙ ap (λ (rs : List LinearRow). rs ++ bounds_of (n + i) (get_or ts i d)) h ∙
    sym (ap (bounds n) (take_more ts i d l) ∙
    bounds_joined n (n + i) (take i ts) (get_or ts i d ∷ []) (let k = length-take-le i ts (omega (arith, l)) in omega (arith, k)) ∙
    ap (λ (rs : List LinearRow). bounds n (take i ts) ++ rs) (append-nil (bounds_of (n + i) (get_or ts i d))))

-- ---- columns

columns_more : (n k : ℕ) → columns_from n (suc k) ≡ columns_from n k ++ (n + k) ∷ []
columns_more n zero = ap (λ (m : ℕ). m ∷ []) (let e : n ≡ n + 0 = omega arith in e)
columns_more n (suc k) =
    ap (λ (cs : List ℕ). n ∷ cs) (columns_more (suc n) k ∙ ap (λ (m : ℕ). columns_from (suc n) k ++ m ∷ []) (let e : suc n + k ≡ n + suc k = omega arith in e))

pub counted_next : (n i : ℕ) (old now new : List ℕ) → now ≡ old ++ columns_from n i → new ≡ now ++ (n + i) ∷ [] → new ≡ old ++ columns_from n (i + 1)
counted_next n i old now new e h =
    h ∙ ap (λ (xs : List ℕ). xs ++ (n + i) ∷ []) e ∙ append_assoc old (columns_from n i) ((n + i) ∷ []) ∙
    ap (λ (xs : List ℕ). old ++ xs) (sym (ap (columns_from n) (let k : i + 1 ≡ suc i = omega arith in k) ∙ columns_more n i))
